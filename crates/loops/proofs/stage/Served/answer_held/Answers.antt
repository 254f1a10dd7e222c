use Rattle.std.proofs.Common.{inr}
use Rattle.loops.proofs.stage.Served.answer_held.Goals as goal

pub returns-in-Err : goal.returns-in-Err
returns-in-Err g c = λ runs. inr (c.in-Err.end, c.answer_held.new.self, c.in-Err.ensures.err runs, c.fail.ensures)
