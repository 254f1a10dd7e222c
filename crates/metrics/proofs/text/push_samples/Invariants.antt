use Rattle.std.proofs.Common.{◌≡◌, ◌++◌, string_bytes, take}
use Rattle.std.specs.List.{flat_map}
use Rattle.metrics.specs.Families.{sample_text}
use Rattle.metrics.proofs.text.push_samples.Given as goal

abbrev pub invariant-loop-sample : goal.invariant-loop-sample
invariant-loop-sample l =
    string_bytes l.output ≡ string_bytes l.initial.output ++ flat_map (sample_text l.name) (take l.sample-index l.samples)
