use Rattle.std.proofs.Common.{◌≡◌, ◌≤◌, ◌∙◌, true, List, ℕ, length, subst, sym, arith}
use Rattle.base_types.specs.Texts.{is_label, label_fault}
use Rattle.base_types.proofs.Choices.{none_if}
use Rattle.base_types.proofs.Labels.{label_is}
use Rattle.rules.proofs.attrs.mark_of.Goals as goal

not_empty : (key bytes : List ℕ) → is_label 32 key ≡ true → bytes ≡ key → 1 ≤ length bytes
not_empty key bytes label same =
    let some = (label_is 32 key (none_if (label_fault 32 key) label)).some in
    subst (λ (l : List ℕ). 1 ≤ length l) (sym same) (omega (arith, some))

pub overflow_sub-result : goal.overflow_sub-result
overflow_sub-result c = not_empty c.args.key.now c.as_bytes-bytes.result.now c.text.ensures.range (c.as_bytes-bytes.ensures.value ∙ c.text.ensures.text)

pub bounds-bytes-bytes : goal.bounds-bytes-bytes
bounds-bytes-bytes c =
    let some = not_empty c.args.key.now c.as_bytes-bytes.result.now c.text.ensures.range (c.as_bytes-bytes.ensures.value ∙ c.text.ensures.text) in
    omega (arith, some)
