-- An entry that is placed is added exactly where it is admitted.
use Rattle.std.proofs.Common.{◌≡◌, ℕ, ◌+◌, Bool, true, false, refl, ◌&&◌, Option, Some, None, cond, sym, ap, ◌∙◌, subst, length}
use Rattle.std.specs.Prelude.{is_none, is_some, option_map}
use Rattle.std.proofs.lemmas.Bool.{eqb-true}
use Rattle.rules.specs.declared.history.Op.{Op}
use Rattle.rules.specs.declared.history.Entry.{Entry}
use Rattle.rules.specs.declared.history.Entry.TheVariants.{Join, Operation}
use Rattle.rules.specs.declared.refusal.Refusal.{Refusal}
use Rattle.rules.specs.Records.{refusal, is_placed, admits, sites}
use Rattle.wire.specs.declared.reply.Reply.{Reply}
use Rattle.wire.specs.declared.reply.Reply.TheVariants.{Joined}
use Rattle.room_core.specs.Room.{Room}
use Rattle.room_core.specs.Answers.{entry_answer, entry_or_refusal, join_answer, operation_answer, operation_reply}
use Rattle.room_core.specs.steps.Plans.{admitted}

added_by : (room : Room) (q : Option Refusal) (entry : Entry) (reply : Reply) (p : Bool) → p ≡ true → (entry_or_refusal room q entry reply).1 ≡ cond (p && is_none q) (Some entry) None
added_by room None entry reply p e = ap (λ b. cond (b && true) (Some entry) None) (sym e)
added_by room (Some why) entry reply p e = ap (λ b. cond (b && is_none (Some why)) (Some entry) None) (sym e)

entry_added_where : (room : Room) (entry : Entry) (reply : Reply) → is_placed room.entries entry ≡ true → (entry_answer room entry reply).1 ≡ admitted room entry
entry_added_where room entry reply p = added_by room (refusal room.limits room.entries entry) entry reply (is_placed room.entries entry) p

pub join_added : (room : Room) (site : ℕ) → is_placed room.entries (Join site) ≡ true → (join_answer room).1 ≡ admitted room (Join site)
unfolding join_answer
join_added room site p =
    let e : site ≡ sites room.entries + 1 = eqb-true site (sites room.entries + 1) p in
    subst (λ n. (join_answer room).1 ≡ admitted room (Join n)) (sym e)
    (entry_added_where room (Join (sites room.entries + 1)) (Joined (length room.entries) (sites room.entries + 1)) (subst (λ n. is_placed room.entries (Join n) ≡ true) e p))

pub operation_added : (room : Room) (op : Op) → is_placed room.entries (Operation op) ≡ true → (operation_answer room op).1 ≡ admitted room (Operation op)
operation_added room op p = entry_added_where room (Operation op) (operation_reply room op) p

some_if : (entry : Entry) (b : Bool) (q : Option Entry) → q ≡ cond b (Some entry) None → is_some q ≡ b
some_if entry b q e = ap is_some e ∙ elim b as (λ v. is_some (cond v (Some entry) None) ≡ v) [ true ↦ refl | false ↦ refl ]

pub some_if_admitted : (room : Room) (entry : Entry) (q : Option Entry) → q ≡ admitted room entry → is_some q ≡ admits room.limits room.entries entry
some_if_admitted room entry q e = some_if entry (admits room.limits room.entries entry) q e

pub mapped_some : {A B : Type 0} (f : A → B) (q : Option A) → is_some (option_map f q) ≡ is_some q
mapped_some f None = refl
mapped_some f (Some x) = refl

-- what isn't placed isn't admitted
pub not_admitted : (room : Room) (entry : Entry) → is_placed room.entries entry ≡ false → admits room.limits room.entries entry ≡ false
not_admitted room entry e = ap (λ b. b && is_none (refusal room.limits room.entries entry)) e
