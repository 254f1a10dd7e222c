use Rattle.std.proofs.Common.{◌∙◌, ◌||◌, sym, ap, List, ℕ, Bool}
use Rattle.std.specs.List.{list_any}
use Rattle.places.specs.steps.PlaceSet.{has}
use Rattle.places.specs.steps.Changes.{at, base_places}
use Rattle.conflict_rows.proofs.InConflict.{direct_or_based}
use Rattle.conflict_rows.proofs.conflict_rows.ConflictRows.has_direct_conflict.Goals as goal

pub returns-else-has : goal.returns-else-has
returns-else-has c =
    let direct = c.args.direct.now in
    let based : List ℕ = base_places c.args.self.now.ops (at c.args.self.now.ops c.args.place) in
    c.intersects.ensures
    ∙ ap (λ (b : List ℕ). list_any (has b) direct) c.base.ensures
    ∙ ap (λ (b : Bool). b || list_any (has based) direct) (sym c.if-has.false ∙ c.has.ensures)
    ∙ direct_or_based c.args.place based direct

pub returns-then-has : goal.returns-then-has
returns-then-has c =
    let direct = c.args.direct.now in
    let based : List ℕ = base_places c.args.self.now.ops (at c.args.self.now.ops c.args.place) in
    c.if-has.true
    ∙ ap (λ (b : Bool). b || list_any (has based) direct) (sym c.if-has.true ∙ c.has.ensures)
    ∙ direct_or_based c.args.place based direct
