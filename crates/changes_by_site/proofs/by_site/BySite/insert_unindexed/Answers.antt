use Rattle.std.proofs.Common.{◌≡◌, ◌∙◌, sym, ap, ℕ, Bool}
use Rattle.std.proofs.lemmas.List.{get_or_default}
use Rattle.base_types.specs.Vectors.{counts}
use Rattle.rules.specs.declared.history.Op.{Op}
use Rattle.places.specs.steps.Changes.{at, nothing}
use Rattle.places.proofs.Places.{put_next, skip_next}
use Rattle.changes_by_site.proofs.by_site.BySite.insert_unindexed.Goals as goal
use Rattle.changes_by_site.proofs.by_site.BySite.insert_unindexed.Goals.{then-has+in_ok-insert, else-has}

pub loop-place-preserved : goal.loop-place-preserved
loop-place-preserved c =
    let test : ℕ → Bool = λ place. counts c.args.seen.now (at c.args.ops.now place).name in
    let op : c.deref.result.now ≡ at c.args.ops.now c.loop-place.place =
    c.deref.ensures ∙ c.index-ops-place.is ∙ get_or_default c.args.ops.now c.loop-place.place c.index-ops-place.result nothing c.loop-place-test.true in
    let tested : c.has.result ≡ test c.loop-place.place = c.has.ensures ∙ ap (λ (o : Op). counts c.args.seen.now o.name) op in
    elim c.if-has.branch [
      | then-has+in_ok-insert w ↦ put_next test c.loop-place.place c.loop-place.known c.if-has.known c.loop-place.invariant (sym tested ∙ w.if-has.true) (w.known-is ∙ w.in_ok-insert.ensures.ok)
      | else-has w ↦ skip_next test c.loop-place.place c.loop-place.known c.if-has.known c.loop-place.invariant (sym tested ∙ w.if-has.false) w.known-is
    ]
