use Rattle.std.proofs.Common.{◌≡◌, ◌<◌, ◌+◌, ◌-◌, ◌∙◌, ℕ, List, arith, ap, length, map, sym, take}
use Rattle.std.specs.Prelude.{slice_index_or}
use Rattle.std.proofs.lemmas.List.{get_or_default}
use Rattle.rules.specs.declared.history.Op.{Op}
use Rattle.rules.specs.AttrLists.{Attr}
use Rattle.rules.specs.Bodies.{pairs_of_body}
use Rattle.places.specs.steps.Changes.{at, nothing}
use Rattle.attributes.specs.steps.Pairs.{given_backwards, with_new_attrs}
use Rattle.attributes.proofs.Members.{given_more}
use Rattle.attributes.proofs.Pairs.{with_all-append}
use Rattle.attributes.proofs.add_given.Goals as goal

pub loop-index-preserved : goal.loop-index-preserved
loop-index-preserved c =
    let k : List Op = c.args.ops.now in
    let members : List ℕ = c.args.places.now in
    let before : List Attr = c.loop-index.pairs.items in
    let i : ℕ = c.loop-index.index - 1 in
    let next : i + 1 ≡ c.loop-index.index = omega (arith, c.loop-index-test.true) in
    let below : i < length members = omega (arith, c.loop-index-test.true, c.loop-index.auto.index) in
    let place : ℕ = slice_index_or members i 0 in
    let there : place < length k = c.requires.within i 0 below in
    let op : c.deref.result.now ≡ at k place = c.deref.ensures ∙ c.index-ops-place.is ∙ get_or_default k place c.index-ops-place.result nothing there in
    let earlier : List Attr = given_backwards (map (at k) (take i members)) in (
      ap (λ attrs. with_new_attrs attrs earlier) (c.in_ok-add_missing.ensures.pairs ∙ ap (with_new_attrs before) c.pairs.ensures ∙ ap (λ (o : Op). with_new_attrs before (pairs_of_body o.body)) op)
          ∙ sym (with_all-append before (pairs_of_body (at k place).body) earlier)
          ∙ ap (with_new_attrs before) (sym (given_more k members i place below (get_or_default members i 0 place below)))
          ∙ ap (λ n. with_new_attrs before (given_backwards (map (at k) (take n members)))) next
          ∙ c.loop-index.invariant.0,
      c.in_ok-add_missing.ensures.sorted,
    )
