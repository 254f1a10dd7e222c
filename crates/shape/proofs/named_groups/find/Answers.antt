use Rattle.std.proofs.Common.{◌≡◌, ◌<◌, [], ap, arith, length, slice_index_or, sym, ◌∙◌}
use Rattle.std.proofs.lemmas.Bool.{true≢false}
use Rattle.std.proofs.lemmas.List.{get_or_default}
use Rattle.base_types.specs.VersionIds.{same_names}
use Rattle.rules.proofs.Identifiers.{same_names-refl, same_names-true}
use Rattle.shape.proofs.Listing.{up_to_next}
use Rattle.shape.proofs.named_groups.find.Goals as goal

pub returns-then-eq : goal.returns-then-eq
returns-then-eq c =
    let ids = c.args.ids.now in
    let place = c.loop-place.place in
    let low : place < length ids = omega (arith, c.loop-place-test.true) in
    let here : slice_index_or ids place [] ≡ c.names.result.now = sym (get_or_default ids place c.index-ids-place.result [] low) ∙ sym c.index-ids-place.is ∙ sym c.names.ensures in
    (low, here ∙ same_names-true c.names.result.now c.names-in-loop-place.result.now (sym c.eq.ensures ∙ c.if-eq.true) ∙ c.names-in-loop-place.ensures.names)

pub loop-place-preserved : goal.loop-place-preserved
loop-place-preserved c =
    let ids = c.args.ids.now in
    let place = c.loop-place.place in
    let low : place < length ids = omega (arith, c.loop-place-test.true) in
    let here : slice_index_or ids place [] ≡ c.names.result.now = sym (get_or_default ids place c.index-ids-place.result [] low) ∙ sym c.index-ids-place.is ∙ sym c.names.ensures in
    up_to_next (λ i. slice_index_or ids i [] ≡ c.args.id.now → ⊥) place c.loop-place.invariant
    (λ e. true≢false (sym (same_names-refl c.names-in-loop-place.result.now) ∙ ap (λ x. same_names x c.names-in-loop-place.result.now) (c.names-in-loop-place.ensures.names ∙ sym e ∙ here) ∙ sym c.eq.ensures ∙ c.if-eq.false))
