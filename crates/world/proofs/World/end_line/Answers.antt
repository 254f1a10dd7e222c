use Rattle.std.proofs.Common.{◌≡◌, [], ◌∷◌, ◌++◌, refl, sym, arith}
use Rattle.std.proofs.lemmas.Bool.{eqb-true}
use Rattle.std.proofs.lemmas.List.{nil_from_length}
use Rattle.std.proofs.lemmas.Result.{on_err_weaker}
use Rattle.world.specs.steps.Answered.{line_text}
use Rattle.base_types.proofs.Results.{err_of}
use Rattle.world.proofs.Changed.{both_ok}
use Rattle.world.proofs.Parts.{answered_kept, answered_line, answered_lost, answered_end, answers_end, answers_nothing}
use Rattle.world.proofs.World.end_line.Goals as goal

pub returns-then-is_empty-clause-ok : goal.returns-then-is_empty-clause-ok
returns-then-is_empty-clause-ok c =
    let none : c.args.line.now.items ≡ [] = nil_from_length _ (omega (arith, eqb-true _ 0 (sym c.if-is_empty.ensures))) in
    both_ok c.answer_line.result (λ added past. rw none (record {
      text = line_text c.args.self.now c.args.bytes.now;
      added = added;
      answered = answered_line c.args.self.now c.answer_line.new.self c.args.bytes.now c.requires.bytes past;
    })) c.answer_line.ensures.answers c.answer_line.ensures.ok

pub returns-then-is_empty-clause-err : goal.returns-then-is_empty-clause-err
returns-then-is_empty-clause-err c =
    let none : c.args.line.now.items ≡ [] = nil_from_length _ (omega (arith, eqb-true _ 0 (sym c.if-is_empty.ensures))) in
    on_err_weaker c.answer_line.result (λ lost. rw none (answered_lost c.args.self.now c.answer_line.new.self c.args.bytes.now c.requires.bytes lost)) c.answer_line.ensures.err

pub returns-in_err-keep_bytes-clause-err : goal.returns-in_err-keep_bytes-clause-err
returns-in_err-keep_bytes-clause-err c = err_of c.from_residual.result (answers_nothing c.args.self.now c.args.self.now (c.args.line.now.items ++ c.args.bytes.now ++ 10 ∷ []) refl)

pub returns-in_err-answer_line-clause-err : goal.returns-in_err-answer_line-clause-err
returns-in_err-answer_line-clause-err c =
    let kept = answered_kept c.args.self.now c.args.line.now.items c.args.bytes.now c.keep_bytes.new.line.items c.in_ok-keep_bytes.ensures.ok c.requires.held.clean c.requires.bytes in
    err_of c.from_residual-in_err-answer_line.result (answers_end kept.1 (answered_lost c.args.self.now c.answer_line-2.new.self c.keep_bytes.new.line.items kept.0.clean
    (rw c.as_slice.ensures.value at c.in_err-answer_line.ensures.err)))

pub returns-clause-ok : goal.returns-clause-ok
returns-clause-ok c =
    let kept = answered_kept c.args.self.now c.args.line.now.items c.args.bytes.now c.keep_bytes.new.line.items c.in_ok-keep_bytes.ensures.ok c.requires.held.clean c.requires.bytes in
    rw c.clear.ensures.items (record {
      text = line_text c.args.self.now c.keep_bytes.new.line.items;
      added = rw c.as_slice.ensures.value at c.in_ok-answer_line.ensures.answers;
      answered = answered_end kept.1 (answered_line c.args.self.now c.answer_line-2.new.self c.keep_bytes.new.line.items kept.0.clean
          (rw c.as_slice.ensures.value at c.in_ok-answer_line.ensures.ok));
    })
