use Rattle.std.proofs.Common.{◌≡◌, map, take, string_bytes}
use Rattle.std.specs.Prelude.{All}
use Rattle.std.specs.Arc.{arc_value}
use Rattle.wire.specs.Form.{IsEntry}
use Rattle.record_file.specs.RecordText.{AreLines, record_text}
use Rattle.record_file.proofs.text.text_of.Given as goal

abbrev pub invariant-loop-entry : goal.invariant-loop-entry
invariant-loop-entry l = record {
  text : string_bytes l.text ≡ record_text (map arc_value (take l.entry-index l.entries));
  lines : All (λ entry. IsEntry (arc_value entry)) l.entries → AreLines (string_bytes l.text) (map arc_value (take l.entry-index l.entries));
}
