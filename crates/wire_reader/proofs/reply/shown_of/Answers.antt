use Rattle.std.proofs.Common.{◌-◌, ◌<◌, ◌∙◌, refl, sym, ap, arith}
use Rattle.wire_reader.specs.steps.Replies.{shown_in}
use Rattle.wire_reader.specs.steps.Streams.{next_in}
use Rattle.wire_reader.proofs.Shown.{shown_none, text_here, list_here, other_here}
use Rattle.wire_reader.proofs.Tokens.{failed, passed}
use Rattle.wire_reader.proofs.reply.shown_of.Goals as goal

pub returns-in_default : goal.returns-in_default
returns-in_default c n h = ap (next_in shown_in n) c.in_default.ensures.value.0 ∙ shown_none n

pub returns-in-Some-string_of : goal.returns-in-Some-string_of
returns-in-Some-string_of c n h =
    rw (text_here n _ _ _ _ c.in-Some.ensures.value c.in-Some-string_of.ensures) (passed (λ x. x) c.gone_with.result _ _ c.gone_with.ensures)

pub returns-then-not-begins_list : goal.returns-then-not-begins_list
returns-then-not-begins_list c n h =
    other_here n _ _ _ c.in-Some.ensures.value c.in_default-string_of.ensures (sym c.begins_list.ensures ∙ c.if-not-begins_list.true)

pub returns-in_err-attrs : goal.returns-in_err-attrs
returns-in_err-attrs c n h =
    let deep : 0 < n = omega arith in
    let begins = sym c.begins_list.ensures ∙ c.if-not-begins_list.false in
    failed (λ x. x) c.from_residual.result _ _ _ _ c.from_residual.ensures.1 (c.in_err-attrs.ensures (n - 1) (omega arith)) (λ none. rw (list_here n _ _ _ deep c.in-Some.ensures.value begins, none) refl)

pub returns : goal.returns
returns c n h =
    let deep : 0 < n = omega arith in
    let begins = sym c.begins_list.ensures ∙ c.if-not-begins_list.false in
    rw (list_here n _ _ _ deep c.in-Some.ensures.value begins, c.in_ok-attrs.ensures (n - 1) (omega arith)) refl
