use Rattle.std.proofs.Common.{◌≡◌, string_bytes, take}
use Rattle.std.specs.List.{flat_map}
use Rattle.metrics.specs.Families.{family_text}
use Rattle.metrics.proofs.text.write_families.Given as goal

abbrev pub invariant-loop-family : goal.invariant-loop-family
invariant-loop-family l =
    string_bytes l.output ≡ flat_map family_text (take l.family-index l.families)
