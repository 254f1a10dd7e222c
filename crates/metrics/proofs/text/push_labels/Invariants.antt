use Rattle.std.proofs.Common.{◌≡◌, ◌++◌, string_bytes, take, codes}
use Rattle.std.specs.List.{flat_map}
use Rattle.metrics.specs.Families.{label_text}
use Rattle.metrics.proofs.text.push_labels.Given as goal

abbrev pub invariant-loop-label : goal.invariant-loop-label
invariant-loop-label l =
    string_bytes l.output ≡ string_bytes l.initial.output ++ flat_map (λ label. codes "," ++ label_text label) (take l.label-index l.others)
