use Rattle.std.proofs.Common.{ap, length, arith}
use Rattle.base_types.proofs.Results.{err_of}
use Rattle.world.proofs.Parts.{wrote_line, wrote_hands, wrote_up_to, up_to_hands, hands_front}
use Rattle.world.proofs.World.answer_lines.Goals as goal

pub returns-in_err-hand_out_many-clause-fault : goal.returns-in_err-hand_out_many-clause-fault
returns-in_err-hand_out_many-clause-fault g c =
    err_of c.from_residual.result (up_to_hands (wrote_up_to c.end_line-ended.result c.loop-first.self c.end_line-ended.new.self c.loop-first.line.items _ _ c.loop-first.rest.now _ _ _ c.in-Some.ensures.0
    c.loop-first.invariant.wrote c.end_line-ended.ensures.ok c.end_line-ended.ensures.none c.end_line-ended.ensures.err) (hands_front c.in_err-hand_out_many.ensures.fault))

pub returns-in_err-ended-clause-fault : goal.returns-in_err-ended-clause-fault
returns-in_err-ended-clause-fault g c =
    err_of c.from_residual-in_err-ended.result (up_to_hands (wrote_up_to c.end_line-ended.result c.loop-first.self c.end_line-ended.new.self c.loop-first.line.items _ _ c.loop-first.rest.now _ _ _ c.in-Some.ensures.0
    c.loop-first.invariant.wrote c.end_line-ended.ensures.ok c.end_line-ended.ensures.none c.end_line-ended.ensures.err) c.in_ok-hand_out_many.ensures.ok)

pub loop-first-preserved : goal.loop-first-preserved
loop-first-preserved g c =
    let empty = rw c.in_ok-ended.was at c.end_line-ended.ensures.empty in
    record {
      held = record { clean = rw empty tt; short = omega (arith, ap length empty) };
      wrote = wrote_hands (wrote_line c.loop-first.self c.end_line-ended.new.self c.loop-first.line.items _ _ c.loop-first.rest.now _ _ _ c.in-Some.ensures.0 c.loop-first.invariant.wrote (rw c.in_ok-ended.was at c.end_line-ended.ensures.ok))
          c.in_ok-hand_out_many.ensures.ok;
    }
