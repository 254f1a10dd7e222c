use Rattle.std.proofs.Common.{◌≡◌, ℕ, ◌∙◌, ◌||◌, ap, sym, subst, arith, eqb, inl, inr}
use Rattle.places.specs.steps.PlaceSet.{AreBelow}
use Rattle.changes_by_key.proofs.Keyed.{within_and_one}
use Rattle.std.proofs.lemmas.Bool.{cases_lt, eq-eqb, or_left, or_right}
use Rattle.places.specs.steps.PlaceSet.{has}
use Rattle.places.proofs.WordPlaces.{has-with_place}
use Rattle.changes_by_key.proofs.by_key.ByKey.insert_unindexed.Goals as goal

pub loop-place-preserved : goal.loop-place-preserved
loop-place-preserved c =
    let before = c.loop-place.members in
    let place = c.loop-place.place in
    let is : (q : ℕ) → has c.insert.new.self q ≡ (has before q || eqb place q) = λ q. ap (λ m. has m q) c.in_ok-insert.ensures.ok ∙ has-with_place place before q in (
      λ q h. is q ∙ or_left (has before q) (eqb place q) (c.loop-place.invariant.0 q h),
      λ q low high. elim (cases_lt q place) [
        | inl l ↦ is q ∙ or_left (has before q) (eqb place q) (c.loop-place.invariant.1 q low l)
        | inr g ↦ is q ∙ or_right (has before q) (eqb place q) (eq-eqb place q (omega (arith, high, g)))
      ],
      λ low. subst (AreBelow c.args.count) (sym c.in_ok-insert.ensures.ok) (within_and_one c.args.count place before (c.loop-place.invariant.2 low) c.loop-place-test.true),
    )
