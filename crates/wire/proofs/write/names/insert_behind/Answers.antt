use Rattle.std.proofs.Common.{◌≡◌, ◌∙◌, ◌++◌, ◌∷◌, ap, arith, length, lit<, string_bytes, subst, sym, take}
use Rattle.std.specs.List.{insert_slice}
use Rattle.std.specs.String.Boundary.{IsSplitPoint}
use Rattle.serde_json.specs.Written.{compact_text}
use Rattle.wire.specs.Form.{name_form}
use Rattle.wire.specs.steps.Growing.{next_names}
use Rattle.wire.proofs.Growing.{behind, behind_splits, fits}
use Rattle.wire.proofs.write.names.insert_behind.Goals as goal

pub len_of_all-place-requires : goal.len_of_all-place-requires
len_of_all-place-requires c =
    let low = fits c.args.names.now c.args.at c.requires.some c.requires.within in
    let same = ap length c.requires.text in
    let bound = c.args.text.now.ok in
    omega (arith, low, same, bound)

pub insert_str-requires : goal.insert_str-requires
insert_str-requires c =
    subst (λ n. IsSplitPoint (string_bytes c.args.text.now) n) (sym c.len_of_all-place.ensures)
    (subst (λ s. IsSplitPoint s (length (next_names (take c.args.at c.args.names.now)))) (sym c.requires.text) (behind_splits c.args.names.now c.args.at c.requires.some c.requires.within))

pub returns : goal.returns
returns c =
    let piece : c.deref.result.now ≡ 44 ∷ compact_text (name_form c.args.name) =
    c.deref.ensures
    ∙ c.in_ok-push_pair.ensures
    ∙ (λ i. (c.in_ok-push.ensures.bytes ∙ (λ j. c.in_ok-piece.ensures.bytes j ++ c.in_ok-push.ensures.ascii (lit< tt) j)) i ++ compact_text (name_form (c.site.ensures.value i, c.seq.ensures.value i))) in
    c.in_ok-insert_str.ensures.bytes
    ∙ (λ i. insert_slice (c.requires.text i) (c.len_of_all-place.ensures i) (piece i))
    ∙ behind c.args.names.now c.args.at c.args.name c.requires.some c.requires.within
