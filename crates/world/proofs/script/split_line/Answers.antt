use Rattle.std.proofs.lemmas.List.{take_rest}
use Rattle.world.proofs.Lines.{no_break_in, break_at}
use Rattle.world.proofs.script.split_line.Goals as goal

pub returns-in_err-place : goal.returns-in_err-place
returns-in_err-place c = rw c.from_residual.ensures (no_break_in c.args.bytes.now (rw c.in_err-place.was at c.memchr.ensures))

pub returns : goal.returns
returns c =
    let first = rw c.in_ok-place.was at c.memchr.ensures in
    rw take_rest (break_at c.args.bytes.now c.in_ok-place.place first.0 first.1)
