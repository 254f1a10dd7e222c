use Rattle.std.proofs.Common.{◌≡◌, drop}
use Rattle.websocket.specs.Headers.{fields_of, header_value}
use Rattle.connection.proofs.head.has_field.Given as goal

abbrev pub invariant-loop-field : goal.invariant-loop-field
invariant-loop-field l =
    header_value (fields_of l.bytes l.fields) l.name ≡ header_value (fields_of l.bytes (drop l.field-index l.fields)) l.name
