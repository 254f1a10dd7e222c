use Rattle.wire.proofs.write.operation.write_operation.Goals as goal

pub returns-in-Put : goal.returns-in-Put
returns-in-Put g c = rw c.in-Put.is (rw c.pairs.ensures.pairs at c.write.ensures)

pub returns-in-DropVersion : goal.returns-in-DropVersion
returns-in-DropVersion g c = rw c.in-DropVersion.is c.write-in-DropVersion.ensures
