use Rattle.std.proofs.Common.{◌≡◌, ◌++◌, string_bytes}
use Rattle.std.specs.Prelude.{encode_utf8_all}
use Rattle.std.specs.List.{flat_map}
use Rattle.metrics.specs.steps.Escapes.{escaped_byte}
use Rattle.metrics.proofs.escape.push_escaped.Given as goal

abbrev pub invariant-loop-letter : goal.invariant-loop-letter
invariant-loop-letter l =
    string_bytes l.output ≡ string_bytes l.initial.output ++ flat_map (escaped_byte l.place) (encode_utf8_all l.yielded)
