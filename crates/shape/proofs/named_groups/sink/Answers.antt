use Rattle.std.proofs.Common.{◌≡◌, ℕ, ◌+◌, ◌<◌, ◌-◌, List, [], length, slice_index_or, true, false, ap, ◌∙◌, subst, sym, arith}
use Rattle.std.specs.List.{refill, swap}
use Rattle.std.proofs.lemmas.List.{get_or_default}
use Rattle.std.proofs.lemmas.List.Edits.{swapped_from_swap}
use Rattle.base_types.specs.Names.{Name}
use Rattle.shape.specs.steps.Kept.{is_less, named}
use Rattle.rules.proofs.Lists.{written}
use Rattle.shape.proofs.Reordered.{reordered_more, reordered_swap}
use Rattle.shape.proofs.Sorting.{AlmostSorted, almost_down, apart, sorted_all}
use Rattle.shape.proofs.named_groups.sink.Goals as goal

pub loop-at-preserved : goal.loop-at-preserved
loop-at-preserved c =
    let old : List (List Name) = c.loop-at.ids.items in
    let new : List (List Name) = refill (length old) old c.swap.new.self in
    let at = c.loop-at.at in
    let down = at - 1 in
    let some = c.loop-at-test.true in
    let same = c.loop-at.invariant.same in
    let up_to = c.loop-at.invariant.up_to in
    let next : down + 1 ≡ at = omega (arith, some) in
    let high : at < length old = subst (λ n. at < n) (sym same.count) (let all = c.requires.group in omega (arith, up_to, all)) in
    let low : down < length old = omega (arith, high, some) in
    let taken = c.as_mut_slice.ensures.value in
    let swapped : new ≡ swap old down at = written old c.swap.new.self (c.swap.ensures.len ∙ ap length taken) ∙ c.swap.ensures.after ∙ ap (λ ids. swap ids down at) taken in
    let first : c.index-deref-at.result ≡ slice_index_or old at [] =
    c.index-deref-at.is ∙ ap (λ (ids : List (List Name)). slice_index_or ids at c.index-deref-at.result) c.deref.ensures ∙ get_or_default old at c.index-deref-at.result [] high in
    let second : c.index-deref-at-in-loop-at.result ≡ slice_index_or old down [] =
    c.index-deref-at-in-loop-at.is ∙ ap (λ (ids : List (List Name)). slice_index_or ids down c.index-deref-at-in-loop-at.result) c.deref-in-loop-at.ensures ∙ get_or_default old down c.index-deref-at-in-loop-at.result [] low in
    let less : is_less (slice_index_or old at []) (slice_index_or old down []) ≡ true =
    ap (λ x. is_less x (slice_index_or old down [])) (sym first) ∙ ap (is_less c.index-deref-at.result) (sym second) ∙ sym c.is_less.ensures ∙ c.if-is_less.true in
    record {
      up_to = omega (arith, up_to, some);
      same = reordered_more (named c.args.groups.now c.args.ids.now.items) (named c.loop-at.groups old) (named c.swap-in-loop-at.new.self new) same
          (reordered_swap (named c.loop-at.groups old) (named c.swap-in-loop-at.new.self new) down at low high same.each c.swap-in-loop-at.ensures.ops c.swap-in-loop-at.ensures.swapped swapped);
      sorted = almost_down is_less apart (λ k. slice_index_or old k []) (λ k. slice_index_or new k []) down c.args.group
          (subst (λ i. AlmostSorted is_less (λ k. slice_index_or old k []) i c.args.group) (sym next) c.loop-at.invariant.sorted)
          (omega (arith, up_to, next))
          (subst (λ i. is_less (slice_index_or old i []) (slice_index_or old down []) ≡ true) (sym next) less)
          (swapped_from_swap old new down (down + 1) [] low (subst (λ i. i < length old) (sym next) high) (subst (λ i. new ≡ swap old down i) (sym next) swapped));
    }

pub returns-else-is_less-clause-sorted : goal.returns-else-is_less-clause-sorted
returns-else-is_less-clause-sorted c =
    let ids : List (List Name) = c.loop-at.ids.items in
    let at = c.loop-at.at in
    let some = c.loop-at-test.true in
    let same = c.loop-at.invariant.same in
    let up_to = c.loop-at.invariant.up_to in
    let high : at < length ids = subst (λ n. at < n) (sym same.count) (let all = c.requires.group in omega (arith, up_to, all)) in
    let not_less : (k : ℕ) → k + 1 ≡ at → is_less (slice_index_or ids at []) (slice_index_or ids k []) ≡ false = λ k e.
    let down : at - 1 ≡ k = omega (arith, e) in
    let first : c.index-deref-at.result ≡ slice_index_or ids at [] =
    c.index-deref-at.is ∙ ap (λ (l : List (List Name)). slice_index_or l at c.index-deref-at.result) c.deref.ensures ∙ get_or_default ids at c.index-deref-at.result [] high in
    let second : c.index-deref-at-in-loop-at.result ≡ slice_index_or ids k [] =
    c.index-deref-at-in-loop-at.is ∙ ap (λ (l : List (List Name)). slice_index_or l (at - 1) c.index-deref-at-in-loop-at.result) c.deref-in-loop-at.ensures
    ∙ ap (λ i. slice_index_or ids i c.index-deref-at-in-loop-at.result) down ∙ get_or_default ids k c.index-deref-at-in-loop-at.result [] (omega (arith, high, e)) in
    ap (λ x. is_less x (slice_index_or ids k [])) (sym first) ∙ ap (is_less c.index-deref-at.result) (sym second) ∙ sym c.is_less.ensures ∙ c.if-is_less.false in
    λ k d from below.
    let there : k + 1 < length ids = subst (λ n. k + 1 < n) (sym same.count) (let all = c.requires.group in omega (arith, below, all)) in
    ap (λ x. is_less x (slice_index_or ids k d)) (get_or_default ids (k + 1) d [] there) ∙ ap (is_less (slice_index_or ids (k + 1) [])) (get_or_default ids k d [] (omega (arith, there)))
    ∙ sorted_all is_less (λ i. slice_index_or ids i []) at c.args.group c.loop-at.invariant.sorted not_less k (omega (arith, below))

pub returns-after-loop-at-clause-sorted : goal.returns-after-loop-at-clause-sorted
returns-after-loop-at-clause-sorted c =
    let ids : List (List Name) = c.loop-at.ids.items in
    let none = c.loop-at-test.false in
    let same = c.loop-at.invariant.same in
    λ k d from below.
    let there : k + 1 < length ids = subst (λ n. k + 1 < n) (sym same.count) (let all = c.requires.group in omega (arith, below, all)) in
    ap (λ x. is_less x (slice_index_or ids k d)) (get_or_default ids (k + 1) d [] there) ∙ ap (is_less (slice_index_or ids (k + 1) [])) (get_or_default ids k d [] (omega (arith, there)))
    ∙ sorted_all is_less (λ i. slice_index_or ids i []) c.loop-at.at c.args.group c.loop-at.invariant.sorted (λ i e. absurd (omega (arith, none, e))) k (omega (arith, below))
