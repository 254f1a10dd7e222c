-- The answer to an operation whose number is out of range.
use Rattle.std.specs.Prelude.{Option}
use Rattle.std.proofs.Common.{◌≡◌, ℕ, ◌≤◌, Bool, true, false, cond, length, refl, Some, ap, ◌∙◌, arith, leb}
use Rattle.std.proofs.lemmas.Bool.{and_parts, and_from, le-leb, leb-true}
use Rattle.base_types.specs.Names.{Name, is_site, is_op_name}
use Rattle.rules.specs.declared.history.Op.{Op}
use Rattle.rules.specs.declared.history.Entry.TheVariants.{Operation}
use Rattle.rules.specs.declared.refusal.Refusal.{Refusal}
use Rattle.rules.specs.declared.refusal.Refusal.TheVariants.{RecordFull, WrongSeq, Renewed}
use Rattle.rules.specs.Records.{has_ended, sites, refusal}
use Rattle.rules.proofs.Conditions.{unnamed_refusal}
use Rattle.wire.specs.declared.reply.Reply.{Reply}
use Rattle.room_core.specs.Room.{Room}
use Rattle.room_core.specs.Answers.{entry_answer, refusal_answer, entry_or_refusal, has_site}

is_site_if : (room : Room) (site : ℕ) → has_site room site ≡ true → sites room.entries ≤ 256 → is_site site ≡ true
is_site_if room site joined few =
    let parts = and_parts (leb 1 site) (leb site (sites room.entries)) joined in
    and_from _ _ parts.0 (le-leb site 256 (omega (arith, few, leb-true site (sites room.entries) parts.1)))

-- any operation is refused where the record has ended
pub ended : (room : Room) (op : Op) (reply : Reply) → has_ended room.entries ≡ true → entry_answer room (Operation op) reply ≡ refusal_answer room Renewed
unfolding refusal
ended room op reply t = rw t refl

module _ (room : Room) (site seq : ℕ) (joined : has_site room site ≡ true) (few : sites room.entries ≤ 256) (small : room.limits.entries ≤ 16384) (out : is_op_name (site, seq) ≡ false) (op : Op) (named : op.name ≡ (site, seq)) where
  abbrev late : Bool → Bool → Option Refusal
  late ended full = cond ended (Some Renewed) (cond full (Some RecordFull) (Some WrongSeq))

  refused_so : refusal room.limits room.entries (Operation op) ≡ late (has_ended room.entries) (leb room.limits.entries (length room.entries))
  refused_so = unnamed_refusal room.limits room.entries op (ap (λ (n : Name). is_site n.0) named ∙ is_site_if room site joined few) (ap is_op_name named ∙ out) small

  pub full : (reply : Reply) → has_ended room.entries ≡ false → leb room.limits.entries (length room.entries) ≡ true → entry_answer room (Operation op) reply ≡ refusal_answer room RecordFull
  full reply f t = ap (λ why. entry_or_refusal room why (Operation op) reply) (refused_so ∙ (λ i. late (f i) (t i)))

  pub not_full : (reply : Reply) → has_ended room.entries ≡ false → leb room.limits.entries (length room.entries) ≡ false → entry_answer room (Operation op) reply ≡ refusal_answer room WrongSeq
  not_full reply f g = ap (λ why. entry_or_refusal room why (Operation op) reply) (refused_so ∙ (λ i. late (f i) (g i)))
