-- The lines of a record, read one after the other.
use Rattle.std.proofs.Common.{◌≡◌, ℕ, ◌+◌, List, [], ◌∷◌, ◌++◌, length, refl, sym, ap, ◌∙◌, subst, append_assoc, arith}
use Rattle.std.proofs.lemmas.List.{append-nil, map-append}
use Rattle.std.specs.Prelude.{Some, true, false}
use Rattle.rules.specs.declared.history.Entry.{Entry}
use Rattle.rules.specs.Limits.{full_limits}
use Rattle.rules.specs.Records.{admits}
use Rattle.rules.proofs.Records.{legal_push}
use Rattle.wire.specs.Lines.{lines_of}
use Rattle.wire_reader.specs.steps.Reads.{entry_read}
use Rattle.room_core.specs.Room.{Room, empty_room}
use Rattle.restore.specs.Records.{AreRecord, IsBadRecord}
use Rattle.restore.specs.steps.Readings.{TakesLine}
use Rattle.restore.proofs.Lengths.{same_length}

-- some of the lines were read, and are the record of the room
pub record HasRead (all rest : List (List ℕ)) (room : Room) : Type 0 where
  pub front : List (List ℕ)
  pub whole : all ≡ front ++ rest
  pub before : AreRecord front room.entries
  pub full : room.limits ≡ full_limits

pub read_none : (all : List (List ℕ)) (room : Room) → room ≡ empty_room full_limits → HasRead all all room
read_none all room e = record {
  front = [];
  whole = refl;
  before = subst (λ (r : Room). AreRecord [] r.entries) (sym e) (record { read = refl; legal = tt });
  full = ap (λ (r : Room). r.limits) e;
}

record_more : (front : List (List ℕ)) (line : List ℕ) (r : List Entry) (entry : Entry)
    → AreRecord front r → entry_read line ≡ Some entry → admits full_limits r entry ≡ true → AreRecord (front ++ line ∷ []) (r ++ entry ∷ [])
record_more front line r entry before e a = record {
  read = map-append entry_read front (line ∷ []) ∙ (λ i. before.read i ++ e i ∷ []) ∙ sym (map-append Some r (entry ∷ []));
  legal = legal_push full_limits r entry before.legal a;
}

pub read_more : (all lines rest : List (List ℕ)) (line : List ℕ) (old new : Room) → lines ≡ line ∷ rest → HasRead all lines old → TakesLine old new line true → HasRead all rest new
read_more all lines rest line old new e h t = record {
  front = h.front ++ line ∷ [];
  whole = h.whole ∙ ap (λ (ls : List (List ℕ)). h.front ++ ls) e ∙ sym (append_assoc h.front (line ∷ []) rest);
  before =
      subst (λ (r : Room). AreRecord (h.front ++ line ∷ []) r.entries) (sym t.3)
      (record_more h.front line old.entries t.0 h.before t.1 (subst (λ b. admits b old.entries t.0 ≡ true) h.full t.2));
  full = ap (λ (r : Room). r.limits) t.3 ∙ h.full;
}

no_lines : (bytes : List ℕ) → length bytes ≡ 0 → lines_of bytes ≡ []
no_lines [] e = refl
no_lines (byte ∷ bytes) e = absurd (omega (arith, e))

pub read_all : (all : List (List ℕ)) (rest : List ℕ) (room : Room) → length rest ≡ 0 → HasRead all (lines_of rest) room → AreRecord all room.entries × (room.limits ≡ full_limits)
read_all all rest room e h = (
  subst (λ (ls : List (List ℕ)). AreRecord ls room.entries)
      (sym (h.whole ∙ ap (λ (ls : List (List ℕ)). h.front ++ ls) (no_lines rest e) ∙ append-nil h.front)) h.before,
  h.full,
)

pub read_bad : (all lines rest : List (List ℕ)) (line : List ℕ) (old new : Room) (count : ℕ)
    → lines ≡ line ∷ rest → count ≡ length old.entries → HasRead all lines old → TakesLine old new line false → IsBadRecord all (count + 1)
read_bad all lines rest line old new count e n h t = record {
  front = h.front;
  line = line;
  split = record {
    later = rest;
    whole = h.whole ∙ ap (λ (ls : List (List ℕ)). h.front ++ ls) e;
    counted = ap (λ k. k + 1) (n ∙ same_length entry_read h.front old.entries h.before.read);
  };
  entries = old.entries;
  before = h.before;
  refused = λ entry q. subst (λ b. admits b old.entries entry ≡ false) h.full (t entry q);
}
