use Rattle.wire.specs.Form.{name_form}
use Rattle.wire_reader.proofs.Scanned.{last_part}
use Rattle.wire_reader.proofs.compact.push_pairs.Goals as goal

pub returns-then-take : goal.returns-then-take
returns-then-take c =
    last_part name_form c.pairs.pairs.items _ c.pairs.cursor c.take.new.self c.pairs.invariant.0 (c.take.ensures.taken c.if-take.true)
