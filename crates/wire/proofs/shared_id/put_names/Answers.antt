use Rattle.std.proofs.Common.{◌≡◌, ◌∙◌, ◌+◌, ◌++◌, ◌∷◌, [], ap, subst, sym, take}
use Rattle.std.specs.List.{insert}
use Rattle.std.specs.List.Sorted.{IsPermutation}
use Rattle.std.proofs.lemmas.List.{append_assoc, take_more}
use Rattle.std.proofs.lemmas.List.Sorted.{IsPermutation-cons, IsPermutation-insert, IsPermutation-middle, IsPermutation-trans}
use Rattle.wire.proofs.shared_id.put_names.Goals as goal

pub loop-name-preserved : goal.loop-name-preserved
loop-name-preserved c =
    let i = c.loop-name.name-index in
    let old = c.loop-name.names.items in
    let id = c.args.names.now.items in
    let x = c.name-item.result in
    let all = c.args.added.now in
    let first = take i all in
    let more : take (i + 1) all ++ id ≡ first ++ x ∷ id =
    ap (λ names. names ++ id) (take_more all i x c.loop-name-test.true ∙ ap (λ n. first ++ n ∷ []) (sym c.name-item.is)) ∙ append_assoc first (x ∷ []) id in
    record {
      names = subst (λ names. IsPermutation names c.put_name.new.names.items) (sym more)
          (subst (IsPermutation (first ++ x ∷ id)) (sym c.in_ok-put_name.ensures.names)
          (IsPermutation-trans (first ++ x ∷ id) (x ∷ old) (insert old c.in-Err.at x)
          (IsPermutation-trans (first ++ x ∷ id) (x ∷ first ++ id) (x ∷ old) (IsPermutation-middle first x id) (IsPermutation-cons x (first ++ id) old c.loop-name.invariant.names))
          (IsPermutation-insert old c.in-Err.at x)));
      text = c.in_ok-put_name.ensures.text;
    }
