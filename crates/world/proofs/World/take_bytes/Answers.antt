use Rattle.std.proofs.Common.{[], refl}
use Rattle.base_types.proofs.Results.{err_of}
use Rattle.world.proofs.Parts.{answered_kept, wrote_cut, wrote_hands, wrote_kept, hands_all, hands_front, some_of}
use Rattle.world.proofs.World.take_bytes.Goals as goal

pub returns-in_err-hand_out-clause-fault : goal.returns-in_err-hand_out-clause-fault
returns-in_err-hand_out-clause-fault g c = err_of c.from_residual-in_err-hand_out.result (some_of (wrote_hands c.in_ok-rest.ensures.ok (hands_front c.in_err-hand_out.ensures.fault)))

pub returns-in_err-flush_out-clause-fault : goal.returns-in_err-flush_out-clause-fault
returns-in_err-flush_out-clause-fault g c =
    err_of c.from_residual-in_err-flush_out.result (some_of (wrote_kept (wrote_hands c.in_ok-rest.ensures.ok (hands_all {after = []} c.in_ok-hand_out.ensures.ok refl)) c.in_err-flush_out.ensures.kept))

pub returns-in_err-keep_bytes-clause-fault : goal.returns-in_err-keep_bytes-clause-fault
returns-in_err-keep_bytes-clause-fault g c =
    err_of c.from_residual-in_err-keep_bytes.result (some_of (wrote_kept (wrote_hands c.in_ok-rest.ensures.ok (hands_all {after = []} c.in_ok-hand_out.ensures.ok refl)) c.in_ok-flush_out.ensures.kept))

pub returns-clause-held : goal.returns-clause-held
returns-clause-held g c =
    (answered_kept c.answer_lines.new.self c.answer_lines.new.line.items c.in_ok-rest.rest.now c.keep_bytes.new.line.items c.in_ok-keep_bytes.ensures.ok c.in_ok-rest.ensures.held.clean c.in_ok-rest.ensures.rest).0

pub returns-clause-ok : goal.returns-clause-ok
returns-clause-ok g c =
    wrote_cut (wrote_kept (wrote_hands c.in_ok-rest.ensures.ok (hands_all {after = []} c.in_ok-hand_out.ensures.ok refl)) c.in_ok-flush_out.ensures.kept)
    (answered_kept c.answer_lines.new.self c.answer_lines.new.line.items c.in_ok-rest.rest.now c.keep_bytes.new.line.items c.in_ok-keep_bytes.ensures.ok c.in_ok-rest.ensures.held.clean c.in_ok-rest.ensures.rest).1
