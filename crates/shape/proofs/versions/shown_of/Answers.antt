use Rattle.std.proofs.Common.{◌≡◌, ◌<◌, ◌∙◌, true, ap, length, map, sym, subst}
use Rattle.std.specs.Prelude.{All}
use Rattle.rules.specs.declared.version.Shown.TheVariants.{Attrs}
use Rattle.rules.specs.Bodies.{initial_in}
use Rattle.rules.specs.Conflicts.{conflict}
use Rattle.rules.specs.Groups.{is_compatible}
use Rattle.rules.specs.Versions.{attributes}
use Rattle.rules.proofs.Drops.{attributes_if, gone_if}
use Rattle.places.specs.steps.Changes.{at, is_conflict_of}
use Rattle.shape.proofs.Listing.{compatible_changes, drop_at_places, group_below}
use Rattle.shape.proofs.versions.shown_of.Goals as goal

pub returns-then-has_drop_at : goal.returns-then-has_drop_at
returns-then-has_drop_at c =
    let k = c.args.changes.now.ops in
    let g = c.args.group.now in
    sym (gone_if (initial_in c.args.creation.now.body) (map (at k) g) (sym (drop_at_places k g) ∙ sym c.has_drop_at.ensures ∙ c.if-has_drop_at.true))

pub attributes_of-requires-clause-within : goal.attributes_of-requires-clause-within
attributes_of-requires-clause-within c =
    let k = c.args.changes.now.ops in
    subst (λ l. All (λ p. p < length l) c.args.group.now) (sym c.ops.ensures.changes) (group_below (is_conflict_of k) (length k) c.args.group.now c.requires.group)

pub attributes_of-requires-clause-compatible : goal.attributes_of-requires-clause-compatible
attributes_of-requires-clause-compatible c =
    subst (λ k. is_compatible (conflict k) (map (at k) c.args.group.now) ≡ true) (sym c.ops.ensures.changes) (compatible_changes c.args.changes.now.ops c.args.group.now c.requires.group)

pub returns : goal.returns
returns c =
    let k = c.args.changes.now.ops in
    let g = c.args.group.now in
    ap Attrs (c.from_vec.ensures ∙ c.in_ok-attrs.ensures ∙ (λ i. attributes (initial_in (sym c.in-New.is i)) (map (at (c.ops.ensures.changes i)) g)))
    ∙ sym (attributes_if (initial_in c.args.creation.now.body) (map (at k) g) (sym (drop_at_places k g) ∙ sym c.has_drop_at.ensures ∙ c.if-has_drop_at.false))
