use Rattle.std.proofs.Common.{◌≡◌, ◌-◌, ◌*◌, ◌/◌, ◌%◌, ◌^◌, ◌<◌, ◌∙◌, ℕ, List, ap, sym, subst, get_or, set, length, arith}
use Rattle.std.proofs.Math.ListN.{length-set}
use Rattle.std.specs.Prelude.{OnOk, bit_and, bit_or}
use Rattle.places.specs.steps.PlaceSet.{with_places}
use Rattle.places.specs.steps.Words.{places_in}
use Rattle.places.proofs.Below.{all_below_bound, mask_is, put_below}
use Rattle.rules.proofs.Lists.{written}
use Rattle.places.proofs.words.join_below.Goals as goal

pub returns-then-whole-others-clause-ok : goal.returns-then-whole-others-clause-ok
returns-then-whole-others-clause-ok c =
    subst (λ (added : List ℕ). OnOk c.join.result (places_in c.join.new.words.items ≡ with_places (places_in c.args.words.now.items) added))
    (sym (all_below_bound c.args.others.now c.args.bound c.if-whole-others.true)) c.join.ensures.ok

pub returns-clause-ok : goal.returns-clause-ok
returns-clause-ok c =
    let bound = c.args.bound in
    let others : List ℕ = c.args.others.now in
    let lengthened : List ℕ = c.lengthen.new.words.items in
    let lent : List ℕ = c.deref_mut.result.now in
    let same : lent ≡ lengthened = c.deref_mut.ensures.value in
    let as_long = ap length same in
    let inside : bound / 64 < length lent = omega (arith, as_long, c.in_ok-lengthen.ensures.len) in
    let put : ℕ → List ℕ = λ mask. set lent (bound / 64) (bit_or (get_or lent (bound / 64) 0) (bit_and (get_or others (bound / 64) 0) mask)) in
    let kept : (mask : ℕ) → length (put mask) ≡ length lengthened = λ mask. length-set lent (bound / 64) _ ∙ as_long in
    ap places_in (written lengthened (put (1 * 2 ^ (bound % 64) % 2 ^ 64 - 1)) (kept _) ∙ ap put (mask_is bound))
    ∙ put_below c.args.words.now.items others c.join-2.new.words.items lent bound c.in_ok-join.ensures.ok
    (λ k. ap (λ (w : List ℕ). get_or w k 0) same ∙ c.in_ok-lengthen.ensures.same k) inside
