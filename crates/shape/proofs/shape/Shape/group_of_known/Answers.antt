use Rattle.std.proofs.Common.{◌≡◌, length, sym, subst}
use Rattle.std.specs.Prelude.{IfOk}
use Rattle.rules.specs.Groups.{group_named}
use Rattle.places.specs.steps.PlaceSet.{places}
use Rattle.places.specs.steps.Changes.{at, is_conflict_of}
use Rattle.changes_by_site.specs.declared.known.Known.{Known}
use Rattle.changes_by_site.specs.steps.Indexes.{known_of}
use Rattle.shape.specs.steps.Objects.{Stored}
use Rattle.shape.proofs.shape.Shape.group_of_known.Goals as goal

pub returns-in-All : goal.returns-in-All
returns-in-All c =
    let named = c.args.id.now in
    let ops = c.args.self.now.object.changes in
    subst (λ (known : Known). IfOk c.group_named.result (λ group. group ≡ group_named (is_conflict_of ops) (λ i. (at ops i).name) (known_of known (length ops)) named)) (sym c.in-All.is)
    (subst (λ (s : Stored). IfOk c.group_named.result (λ group. group ≡ group_named (is_conflict_of s.object.changes) (λ i. (at s.object.changes i).name) (places (length s.object.changes)) named)) c.self.view_is c.group_named.ensures)
