use Rattle.wire_reader.proofs.rising.Tuple2KeyValueRanked.is_before.Goals as goal

pub returns : goal.returns
returns c = c.lt.ensures
