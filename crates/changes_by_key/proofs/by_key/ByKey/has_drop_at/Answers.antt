use Rattle.std.proofs.Common.{◌∙◌, sym, ap}
use Rattle.std.specs.List.{list_any}
use Rattle.places.specs.steps.PlaceSet.{has}
use Rattle.changes_by_key.specs.steps.Indexes.{KeyIndex}
use Rattle.changes_by_key.proofs.Keyed.{drop_found, drop_by_last}
use Rattle.changes_by_key.proofs.by_key.ByKey.has_drop_at.Goals as goal

pub returns-then-intersects : goal.returns-then-intersects
returns-then-intersects c =
    let members = c.args.members.now in
    c.if-intersects.true
    ∙ sym (drop_found c.args.ops.now c.args.self.now c.requires.keys members
    (sym (ap (λ (s : KeyIndex). list_any (has members) s.drops) c.self.view_is) ∙ sym c.intersects.ensures ∙ c.if-intersects.true))

pub returns-else-intersects : goal.returns-else-intersects
returns-else-intersects c =
    let members = c.args.members.now in
    drop_by_last c.args.ops.now c.args.self.now c.requires.keys members
    (sym (ap (λ (s : KeyIndex). list_any (has members) s.drops) c.self.view_is) ∙ sym c.intersects.ensures ∙ c.if-intersects.false)
    c.is_unindexed_drop_at.result c.is_unindexed_drop_at.ensures
