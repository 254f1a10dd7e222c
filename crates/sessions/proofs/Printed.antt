-- Lines that are printed one after the other.
use Rattle.std.proofs.Common.{◌≡◌, zero, suc, List, [], ◌∷◌, ◌++◌, map, append-nil, ap, refl, ◌∙◌, arith}
use Rattle.std.specs.Prelude.{All}
use Rattle.std.specs.Arc.{arc_value}
use Rattle.std.specs.List.{flat_map}
use Rattle.std.proofs.lemmas.List.Concat.{flat_map-append}
use Rattle.rules.specs.declared.history.Entry.{Entry}
use Rattle.rules.specs.declared.limits.LimitValues.{LimitValues}
use Rattle.rules.specs.Records.{IsLegal}
use Rattle.record_file.specs.RecordText.{entry_line, record_text}
use Rattle.room_lock.specs.declared.closing.RoomRecord.{RoomRecord}
use Rattle.room_lock.specs.Closing.{IsClosed}
use Rattle.room_lock.specs.Passes.{PartView}
use Rattle.sessions.specs.Records.{NamedRecord, record_lines}

pub record_text_more : (r : List Entry) (e : Entry) → record_text (r ++ e ∷ []) ≡ record_text r ++ entry_line e
record_text_more r e = flat_map-append entry_line r (e ∷ []) ∙ ap (λ l. record_text r ++ l) (append-nil (entry_line e))

pub all_lines_more : (rooms : List NamedRecord) (room : NamedRecord) → flat_map record_lines (rooms ++ room ∷ []) ≡ flat_map record_lines rooms ++ record_lines room
all_lines_more rooms room = flat_map-append record_lines rooms (room ∷ []) ∙ ap (λ l. flat_map record_lines rooms ++ l) (append-nil (record_lines room))

module _ {P : Type 0} where
  -- a closed room's name and record
  abbrev pub named : RoomRecord P → NamedRecord
  named one = record { name = one.room; entries = map arc_value one.entries.items }

  pub same_names : (xs : List (RoomRecord P)) → map (λ (room : NamedRecord). room.name) (map named xs) ≡ map (λ (one : RoomRecord P). one.room) xs
  same_names [] = refl
  same_names (x ∷ xs) = ap (λ l. x.room ∷ l) (same_names xs)

  pub all_legal : (limits : LimitValues) (Parts : RoomRecord P → List PartView) (xs : List (RoomRecord P))
      → All (λ one. IsClosed limits (map arc_value one.entries.items) (Parts one)) xs → All (λ (room : NamedRecord). IsLegal limits room.entries) (map named xs)
  all_legal limits Parts [] all k d lt = absurd (omega (arith, lt))
  all_legal limits Parts (x ∷ xs) all zero d lt = (all 0 x (omega arith)).legal
  all_legal limits Parts (x ∷ xs) all (suc k) d lt = all_legal limits Parts xs (λ j e l. all (suc j) e (omega (arith, l))) k d (omega (arith, lt))
