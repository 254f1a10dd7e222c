use Rattle.std.proofs.Common.{◌≡◌, ◌+◌, ◌<◌, map, length, get_or, string_bytes, sym, ap, ◌∙◌, subst, arith}
use Rattle.std.proofs.lemmas.List.{length-map, length_push, get_or-map}
use Rattle.std.specs.Arc.{arc_value}
use Rattle.room_record.specs.steps.Records.{AreTexts}
use Rattle.wire.specs.steps.Forms.{entry_text}
use Rattle.room_record.proofs.FirstTexts.{one_more_text}
use Rattle.room_record.proofs.record.write_texts.Goals as goal

pub loop-place-init : goal.loop-place-init
loop-place-init c = (c.requires.texts, sym c.len-place.ensures)

pub returns-in_err-text-clause-texts : goal.returns-in_err-text-clause-texts
returns-in_err-text-clause-texts c = c.loop-place.invariant.0

pub returns-in_err-push-clause-texts : goal.returns-in_err-push-clause-texts
returns-in_err-push-clause-texts c =
    subst (λ texts. AreTexts texts (map arc_value c.args.entries.now)) (sym c.in_err-push.ensures.err) c.loop-place.invariant.0

pub loop-place-preserved : goal.loop-place-preserved
loop-place-preserved c =
    let texts = c.loop-place.texts in
    let entries = c.args.entries.now in
    let entry = c.index-entries-place.result in
    let text = string_bytes c.in_ok-text.text in
    let count : length texts ≡ c.loop-place.place = c.loop-place.invariant.1 in
    let within : c.loop-place.place < length entries = omega (arith, c.loop-place-test.true, c.requires.range) in
    let there : arc_value entry ≡ get_or (map arc_value entries) c.loop-place.place (arc_value entry) =
    ap arc_value c.index-entries-place.is ∙ sym (get_or-map arc_value entries c.loop-place.place entry (arc_value entry) within) in
    let is : text ≡ entry_text (arc_value entry) = c.in_ok-text.ensures.text ∙ ap entry_text c.deref.ensures in (
      subst (λ ts. AreTexts ts (map arc_value entries)) (sym c.in_ok-push.ensures.ok)
          (one_more_text texts (map arc_value entries) text (arc_value entry)
          (omega (arith, count, within, length-map entries arc_value)) (there ∙ ap (λ k. get_or (map arc_value entries) k (arc_value entry)) (sym count)) is c.loop-place.invariant.0),
      ap length c.in_ok-push.ensures.ok ∙ length_push texts text ∙ ap (λ n. n + 1) count,
    )

pub returns-clause-texts : goal.returns-clause-texts
returns-clause-texts c = c.loop-place.invariant.0

pub returns-clause-all : goal.returns-clause-all
returns-clause-all c = omega (arith, c.loop-place-test.false, c.loop-place.invariant.1)
