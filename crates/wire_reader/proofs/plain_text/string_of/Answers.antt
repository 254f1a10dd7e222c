use Rattle.std.proofs.Common.{◌∷◌, ◌∙◌, ℕ, List, ap, subst, sym}
use Rattle.wire_reader.specs.steps.PlainTexts.{StandsFor, StandsInside}
use Rattle.wire_reader.proofs.PlainTexts.{closed, opened}
use Rattle.wire_reader.proofs.plain_text.string_of.Goals as goal
use Rattle.wire_reader.proofs.plain_text.string_of.Goals.{in-Some-eq92-default+in_ok-rest-in-Some-eq92-default, in_default+in_ok-rest-in_default}

pub content-init : goal.content-init
content-init c message stands =
    let rest = c.args.bytes.now in
    subst (λ (text : List ℕ). StandsInside message text rest) (sym c.in_ok-push.ensures.items) (opened message c.args.text.now.items rest stands)

pub returns-in-Some-eq34-default : goal.returns-in-Some-eq34-default
returns-in-Some-eq34-default c message stands =
    let text = c.content.text.items in
    let found = c.in-Some-eq34-default in
    let after = found.after.now in
    let at_quote = found.ensures.cases.0 ∙ ap (λ (byte : ℕ). byte ∷ after) found.field-0-0-test in
    let inside = subst (StandsInside message text) at_quote (c.content.invariant message stands) in
    subst (λ (all : List ℕ). StandsFor message all after) (sym c.in_ok-push-in-Some-eq34-default.ensures.items) (closed message text after inside)

pub content-preserved : goal.content-preserved
content-preserved c message stands =
    let text = c.content.text.items in
    let inside = c.content.invariant message stands in
    elim c.match-split_first.branch [
      | in-Some-eq92-default+in_ok-rest-in-Some-eq92-default w ↦
          let found = w.in-Some-eq92-default in
          let at_backslash = found.ensures.cases.0 ∙ ap (λ (byte : ℕ). byte ∷ found.after.now) found.field-0-0-test in
          rw (w.text-is, w.rest-is) (w.in_ok-rest-in-Some-eq92-default.ensures message (subst (StandsInside message text) at_backslash inside))
      | in_default+in_ok-rest-in_default w ↦ rw (w.text-is, w.rest-is) (w.in_ok-rest-in_default.ensures message inside)
    ]
