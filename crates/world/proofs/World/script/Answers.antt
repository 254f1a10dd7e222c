use Rattle.std.proofs.Common.{take, arith}
use Rattle.std.proofs.lemmas.Result.{on_err_weaker}
use Rattle.base_types.proofs.Results.{err_of}
use Rattle.world.proofs.Changed.{both_ok}
use Rattle.world.proofs.Transcript.{read_whole, read_last, read_stop, read_part, read_more, read_again, read_none, read_nothing, stop_front}
use Rattle.world.proofs.EndedLines.{read_fault, no_fault}
use Rattle.world.proofs.World.script.Goals as goal

pub returns-in_err-buffer-clause-stops : goal.returns-in_err-buffer-clause-stops
returns-in_err-buffer-clause-stops g c = err_of c.from_residual.result (read_nothing (g.R.Read.remaining c.args.input.now) (g.W.Write.contents c.args.output.now) c.args.self.now)

pub returns-in-Ok-eq0-clause-ok : goal.returns-in-Ok-eq0-clause-ok
returns-in-Ok-eq0-clause-ok g c =
    let h = c.in-Ok-eq0.ensures.bytes in
    both_ok c.finish.result (λ t past. read_whole _ c.loop.invariant.told (read_none _ _ _ _ (omega arith) h.0) (h.1 (omega arith) (omega arith)) _ _ (rw c.as_slice.ensures.value at t) (rw c.as_slice.ensures.value at past))
    c.finish.ensures.ok c.finish.ensures.end

pub returns-in-Ok-eq0-clause-fault : goal.returns-in-Ok-eq0-clause-fault
returns-in-Ok-eq0-clause-fault g c =
    let h = c.in-Ok-eq0.ensures.bytes in
    on_err_weaker c.finish.result (λ t. stop_front _ _ _ _ _ (read_last _ c.loop.invariant.told (read_none _ _ _ _ (omega arith) h.0) (h.1 (omega arith) (omega arith)) _ _ (rw c.as_slice.ensures.value at t))) c.finish.ensures.fault

pub returns-in-Ok-eq0-clause-stops : goal.returns-in-Ok-eq0-clause-stops
returns-in-Ok-eq0-clause-stops g c =
    let h = c.in-Ok-eq0.ensures.bytes in
    on_err_weaker c.finish.result (λ t. read_last _ c.loop.invariant.told (read_none _ _ _ _ (omega arith) h.0) (h.1 (omega arith) (omega arith)) _ _ (rw c.as_slice.ensures.value at t)) c.finish.ensures.fault

pub returns-in_err-take_bytes-in-Ok-clause-fault : goal.returns-in_err-take_bytes-in-Ok-clause-fault
returns-in_err-take_bytes-in-Ok-clause-fault g c =
    err_of c.from_residual-in_err-take_bytes-in-Ok.result (stop_front _ _ _ _ _ (read_part _ (take c.in-Ok.count c.read.new.buf) c.loop.invariant.told c.in-Ok.ensures.bytes.0 c.in_err-take_bytes-in-Ok.ensures.fault))

pub returns-in_err-take_bytes-in-Ok-clause-stops : goal.returns-in_err-take_bytes-in-Ok-clause-stops
returns-in_err-take_bytes-in-Ok-clause-stops g c =
    err_of c.from_residual-in_err-take_bytes-in-Ok.result (read_part _ (take c.in-Ok.count c.read.new.buf) c.loop.invariant.told c.in-Ok.ensures.bytes.0 c.in_err-take_bytes-in-Ok.ensures.fault)

pub returns-in-Err-clause-fault : goal.returns-in-Err-clause-fault
returns-in-Err-clause-fault g c = stop_front _ _ _ _ _ (read_stop c.loop.invariant.told)

pub returns-in-Err-clause-stops : goal.returns-in-Err-clause-stops
returns-in-Err-clause-stops g c = read_stop c.loop.invariant.told

pub loop-preserved : goal.loop-preserved
loop-preserved g c = record {
  room = omega (arith, c.read.auto.buf, c.loop.invariant.room);
  held = c.in_ok-take_bytes-in-Ok.ensures.held;
  none = c.in_ok-take_bytes-in-Ok.ensures.none;
  told = read_more (take c.in-Ok.count c.read.new.buf) c.loop.invariant.told c.in-Ok.ensures.bytes.0 c.in_ok-take_bytes-in-Ok.ensures.ok;
}

pub returns-clause-fault : goal.returns-clause-fault
returns-clause-fault g c = stop_front _ _ _ _ _ (read_stop c.loop.invariant.told)

pub returns-clause-stops : goal.returns-clause-stops
returns-clause-stops g c = read_stop c.loop.invariant.told

pub returns-in-Ok-eq0-clause-read : goal.returns-in-Ok-eq0-clause-read
returns-in-Ok-eq0-clause-read g c = no_fault c.finish.result _ c.finish.ensures.kind

pub returns-in-Err-clause-read : goal.returns-in-Err-clause-read
returns-in-Err-clause-read g c = λ is. read_fault (read_again c.loop.invariant.told c.in-Err.ensures.bytes) c.loop.invariant.held.clean

pub returns-clause-read : goal.returns-clause-read
returns-clause-read g c = λ is. read_fault c.loop.invariant.told c.loop.invariant.held.clean
