use Rattle.std.proofs.Common.{◌≡◌, take, drop, length}
use Rattle.base_types.specs.Repeats.{repeat_from, first_repeat}
use Rattle.rules.specs.AttrLists.{same_key}
use Rattle.rules.specs.steps.Marks.{HaveMarks}
use Rattle.rules.proofs.attrs.repeated_key.Given as goal

abbrev pub invariant-loop-place : goal.invariant-loop-place
invariant-loop-place l =
    (repeat_from same_key l.place (take l.place l.pairs) (drop l.place l.pairs) ≡ first_repeat same_key l.pairs)
    × (length l.marks ≡ 64) × HaveMarks l.marks (take l.place l.pairs)
