use Rattle.std.proofs.Common.{◌≡◌, sym, ap, subst, ◌++◌, ◌∙◌}
use Rattle.std.proofs.KnownBytes.{Appends-kept}
use Rattle.std.specs.Io.KnownBytes.{Appends}
use Rattle.world.specs.steps.Answered.{line_text}
use Rattle.base_types.proofs.Results.{err_of, ok_of}
use Rattle.byte_streams.proofs.Written.{whole_front}
use Rattle.world.proofs.Lines.{output_last, some_from_test}
use Rattle.world.proofs.Parts.{stops_line, stops_lost, past_end}
use Rattle.world.proofs.World.finish.Goals as goal

pub returns-in_err-answer_line-clause-fault : goal.returns-in_err-answer_line-clause-fault
returns-in_err-answer_line-clause-fault g c =
    err_of c.from_residual.result (stops_lost (g.W.Write.contents c.args.output.now) c.args.self.now c.answer_line.new.self c.args.line.now c.requires.clean (some_from_test _ c.if-is_empty.ensures) c.in_err-answer_line.ensures.err)

pub returns-in_err-hand_out-clause-fault : goal.returns-in_err-hand_out-clause-fault
returns-in_err-hand_out-clause-fault g c =
    let text : c.answer_line.new.answers.items ≡ line_text c.args.self.now c.args.line.now =
    c.in_ok-answer_line.ensures.answers ∙ ap (λ xs. xs ++ line_text c.args.self.now c.args.line.now) c.requires.none in
    err_of c.from_residual-in_err-hand_out.result (stops_line (g.W.Write.contents c.args.output.now) (g.W.Write.contents c.hand_out.new.output) c.args.self.now c.answer_line.new.self c.args.line.now c.requires.clean (some_from_test _ c.if-is_empty.ensures)
    c.in_ok-answer_line.ensures.ok (rw text at c.in_err-hand_out.ensures.fault))

pub returns-clause-ok : goal.returns-clause-ok
returns-clause-ok g c =
    let text : c.answer_line.new.answers.items ≡ line_text c.args.self.now c.args.line.now =
    c.in_ok-answer_line.ensures.answers ∙ ap (λ xs. xs ++ line_text c.args.self.now c.args.line.now) c.requires.none in
    let last = output_last c.args.self.now c.args.line.now c.requires.clean (some_from_test _ c.if-is_empty.ensures) in
    let told = Appends-kept (g.W.Write.contents c.args.output.now) (g.W.Write.contents c.hand_out.new.output) (g.W.Write.contents c.flush_out.new.output) _ c.in_ok-hand_out.ensures.ok c.flush_out.ensures.kept in
    ok_of c.flush_out.result (subst (Appends (g.W.Write.contents c.args.output.now) (g.W.Write.contents c.flush_out.new.output)) (text ∙ sym last) told)

pub returns-clause-end : goal.returns-clause-end
returns-clause-end g c =
    ok_of c.flush_out.result (past_end c.args.self.now c.answer_line.new.self c.args.line.now c.requires.clean (some_from_test _ c.if-is_empty.ensures) c.in_ok-answer_line.ensures.ok)

pub returns-clause-fault : goal.returns-clause-fault
returns-clause-fault g c =
    let text : c.answer_line.new.answers.items ≡ line_text c.args.self.now c.args.line.now =
    c.in_ok-answer_line.ensures.answers ∙ ap (λ xs. xs ++ line_text c.args.self.now c.args.line.now) c.requires.none in
    let told = Appends-kept (g.W.Write.contents c.args.output.now) (g.W.Write.contents c.hand_out.new.output) (g.W.Write.contents c.flush_out.new.output) _ c.in_ok-hand_out.ensures.ok c.flush_out.ensures.kept in
    err_of c.flush_out.result (stops_line (g.W.Write.contents c.args.output.now) (g.W.Write.contents c.flush_out.new.output) c.args.self.now c.answer_line.new.self c.args.line.now c.requires.clean (some_from_test _ c.if-is_empty.ensures)
    c.in_ok-answer_line.ensures.ok (whole_front _ _ _ (subst (Appends (g.W.Write.contents c.args.output.now) (g.W.Write.contents c.flush_out.new.output)) text told)))
