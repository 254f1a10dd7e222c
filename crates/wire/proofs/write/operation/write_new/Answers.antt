use Rattle.wire.proofs.write.operation.write_new.Goals as goal

pub returns : goal.returns
returns g c = rw c.pairs.ensures.pairs at c.write.ensures
