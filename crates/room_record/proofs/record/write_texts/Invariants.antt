use Rattle.std.proofs.Common.{◌≡◌, length, map}
use Rattle.std.specs.Arc.{arc_value}
use Rattle.room_record.specs.steps.Records.{AreTexts}
use Rattle.room_record.proofs.record.write_texts.Given as goal

abbrev pub invariant-loop-place : goal.invariant-loop-place
invariant-loop-place l =
    AreTexts l.texts (map arc_value l.entries) × (length l.texts ≡ l.place)
