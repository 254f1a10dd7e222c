use Rattle.std.proofs.Common.{◌≡◌, ◌∙◌, ◌++◌, ◌∷◌, [], List, ℕ, ap, inl, inr, lit<, string_bytes, subst, sym}
use Rattle.std.specs.String.Boundary.{IsSplitPoint}
use Rattle.serde_json.specs.Written.{compact_text}
use Rattle.wire.specs.Form.{name_form}
use Rattle.wire.proofs.Growing.{first_splits, put_first}
use Rattle.wire.proofs.write.names.insert_first.Goals.{then-not-is_empty+in_ok-push, else-not-is_empty}
use Rattle.wire.proofs.write.names.insert_first.Goals as goal

pub insert_str-requires : goal.insert_str-requires
insert_str-requires c = subst (λ s. IsSplitPoint s 1) (sym c.requires) (first_splits c.args.names.now)

pub returns : goal.returns
returns c =
    let pair : string_bytes c.push_pair.new.text ≡ compact_text (name_form c.args.name) =
    c.in_ok-push_pair.ensures ∙ (λ i. c.in_ok-piece.ensures.bytes i ++ compact_text (name_form (c.site.ensures.value i, c.seq.ensures.value i))) in
    c.in_ok-insert_str.ensures.bytes
    ∙ put_first c.args.name c.args.names.now (string_bytes c.args.text.now) c.deref.result.now c.requires (elim c.if-not-is_empty.branch [
      | then-not-is_empty+in_ok-push w ↦ inr (
        sym c.is_empty.ensures ∙ w.if-not-is_empty.true,
        c.deref.ensures ∙ ap string_bytes w.piece-is ∙ w.in_ok-push.ensures.bytes
            ∙ ap (λ (s : List ℕ). string_bytes c.push_pair.new.text ++ s) (w.in_ok-push.ensures.ascii (lit< tt))
            ∙ ap (λ (s : List ℕ). s ++ 44 ∷ []) pair,
      )
      | else-not-is_empty w ↦ inl (sym c.is_empty.ensures ∙ w.if-not-is_empty.false, c.deref.ensures ∙ ap string_bytes w.piece-is ∙ pair)
    ])
