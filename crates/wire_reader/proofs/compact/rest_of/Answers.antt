use Rattle.wire_reader.proofs.Scanned.{last_part}
use Rattle.wire_reader.proofs.compact.rest_of.Goals as goal

pub returns-then-take-clause-text : goal.returns-then-take-clause-text
returns-then-take-clause-text g c =
    last_part g.T.Scanned.form c.parts.parts.items _ c.parts.cursor c.take.new.self c.parts.invariant.0 (c.take.ensures.taken c.if-take.true)
