use Rattle.std.proofs.Common.{ap, take, ◌∙◌}
use Rattle.std.specs.List.{list_all}
use Rattle.wire.specs.steps.Quoting.{is_plain_byte}
use Rattle.wire_reader.proofs.Plain.{front_passes}
use Rattle.wire_reader.proofs.compact.split_plain.Goals as goal

pub returns-clause-plain : goal.returns-clause-plain
returns-clause-plain c =
    let bytes = c.args.bytes.now in
    ap (λ n. list_all is_plain_byte (take n bytes)) c.plain_len-len.ensures.plain ∙ front_passes is_plain_byte bytes
