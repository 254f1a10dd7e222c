use Rattle.std.proofs.Common.{◌∙◌, ◌++◌, ◌∷◌, [], List, ℕ, ap, take_all, string_bytes, slice_index_or, arith, lit<}
use Rattle.std.proofs.lemmas.List.{get_or_default}
use Rattle.std.specs.List.{join_by}
use Rattle.serde_json.specs.Written.{compact_text}
use Rattle.wire.specs.Form.{name_form, names_form}
use Rattle.wire.proofs.Pages.{next_item, first_item, ended_list}
use Rattle.wire.proofs.write.part.StateVectorWritten.write.Goals.{then-at-gt0+in_ok-push-2, else-at-gt0}
use Rattle.wire.proofs.write.part.StateVectorWritten.write.Goals as goal

pub loop-at-preserved : goal.loop-at-preserved
loop-at-preserved c =
    let items = c.pairs-pairs.result.now in
    let at = c.loop-at.at in
    let front = string_bytes c.args.text.now in
    let item = slice_index_or items at (0, 0) in
    let within = c.loop-at-test.true in
    let text : List ℕ = compact_text (name_form item) in
    elim c.if-at-gt0.branch [
      | then-at-gt0+in_ok-push-2 w ↦
          c.in_ok-push_pair.ensures
          ∙ ap (λ (s : List ℕ). s ++ text) (ap string_bytes w.text-is ∙ w.in_ok-push-2.ensures.bytes ∙ ap (λ (s : List ℕ). string_bytes c.loop-at.text ++ s) (w.in_ok-push-2.ensures.ascii (lit< tt)) ∙ ap (λ (s : List ℕ). s ++ 44 ∷ []) c.loop-at.invariant)
          ∙ next_item name_form items front at item within (get_or_default items at (0, 0) item within) w.if-at-gt0.true
      | else-at-gt0 w ↦
          c.in_ok-push_pair.ensures
          ∙ ap (λ (s : List ℕ). s ++ text) (ap string_bytes w.text-is ∙ c.loop-at.invariant)
          ∙ first_item name_form items front at item within (get_or_default items at (0, 0) item within) (omega (arith, w.if-at-gt0.false))
    ]

pub returns : goal.returns
returns c =
    let items = c.pairs-pairs.result.now in
    let front = string_bytes c.args.text.now in
    c.in_ok-push-3.ensures.bytes
    ∙ ap (λ (s : List ℕ). string_bytes c.loop-at.text ++ s) (c.in_ok-push-3.ensures.ascii (lit< tt))
    ∙ ap (λ (s : List ℕ). s ++ 93 ∷ []) (c.loop-at.invariant ∙ ap (λ xs. front ++ 91 ∷ join_by (λ x. compact_text (name_form x)) (44 ∷ []) xs) (take_all c.loop-at.at items (omega arith)))
    ∙ ended_list name_form items front
    ∙ ap (λ xs. front ++ compact_text (names_form xs)) c.pairs-pairs.ensures.pairs
