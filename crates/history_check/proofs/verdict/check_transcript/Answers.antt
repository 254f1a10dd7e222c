use Rattle.std.proofs.Common.{◌≡◌, ◌+◌, List, length, map, sym, ◌∙◌, subst, arith, true, false, Some}
use Rattle.std.specs.Arc.{arc_value}
use Rattle.std.specs.Prelude.{Option}
use Rattle.std.proofs.lemmas.List.{length-map}
use Rattle.wire.specs.Lines.{lines_of}
use Rattle.history_check.specs.declared.findings.Fault.TheVariants.{NotJoined, WrongReply}
use Rattle.transcript.specs.declared.line.TranscriptLine.{TranscriptLine}
use Rattle.history_check.specs.Verdicts.{FailsAt, IsBadLine}
use Rattle.history_check.proofs.Fronted.{within_lines, bad_line, wrong_line, bad_next, true_of}
use Rattle.history_check.proofs.verdict.check_transcript.Goals as goal

some_with : {A B : Type 0} (o : Option (A × B)) (a : A) (b c : B) → o ≡ Some (a, b) → b ≡ c → o ≡ Some (a, c)
some_with o a b c e q = e ∙ λ i. Some (a, q i)

pub returns-in-Some-default-NotJoined : goal.returns-in-Some-default-NotJoined
returns-in-Some-default-NotJoined c =
    let w = c.in-Some-default-NotJoined in
    let is = some_with _ w.place w.field-0-1 NotJoined w.is w.field-0-1-is in
    bad_line (map arc_value c.args.entries.now) (lines_of c.args.transcript.now) c.in_ok-part.part _ (sym (length-map c.args.entries.now arc_value))
    c.in_ok-part.ensures _ c.lines.ensures _ c.in_ok-place.ensures w.place is

pub overflow_add-result-in-Some-default-WrongReply : goal.overflow_add-result-in-Some-default-WrongReply
overflow_add-result-in-Some-default-WrongReply c =
    let w = c.in-Some-default-WrongReply in
    let small = within_lines (map arc_value c.args.entries.now) (lines_of c.args.transcript.now) c.in_ok-part.part _ (sym (length-map c.args.entries.now arc_value))
    c.in_ok-part.ensures _ c.lines.ensures _ c.in_ok-place.ensures w.place w.field-0-1 w.is in
    omega (arith, small)

pub returns-in-Some-default-WrongReply : goal.returns-in-Some-default-WrongReply
returns-in-Some-default-WrongReply c =
    let w = c.in-Some-default-WrongReply in
    let is = some_with _ w.place w.field-0-1 WrongReply w.is w.field-0-1-is in
    wrong_line (map arc_value c.args.entries.now) (lines_of c.args.transcript.now) c.in_ok-part.part _ (sym (length-map c.args.entries.now arc_value))
    c.in_ok-part.ensures _ c.lines.ensures _ c.in_ok-place.ensures w.place is

pub returns-in-None : goal.returns-in-None
returns-in-None c =
    let r = map arc_value c.args.entries.now in
    let file = lines_of c.args.transcript.now in
    let stopped : c.in_ok-part.part.stopped ≡ true = sym c.is_stopped.ensures ∙ c.if-is_stopped.true in
    let bad = bad_next r file c.in_ok-part.part _ (sym (length-map c.args.entries.now arc_value))
    c.in_ok-part.ensures _ c.lines.ensures _ c.in_ok-place.ensures c.in-None.is stopped in
    subst (λ (ls : List TranscriptLine). FailsAt r file (length ls + 1) (IsBadLine r)) (sym c.lines-in-None.ensures) bad

pub returns : goal.returns
returns c =
    let stopped : c.in_ok-part.part.stopped ≡ false = sym c.is_stopped.ensures ∙ c.if-is_stopped.false in (
      _,
      true_of (map arc_value c.args.entries.now) (lines_of c.args.transcript.now) c.in_ok-part.part _ (sym (length-map c.args.entries.now arc_value))
          c.in_ok-part.ensures _ c.lines.ensures _ c.in_ok-place.ensures c.in-None.is stopped,
    )
