use Rattle.std.proofs.Common.{sym, ◌∙◌, not}
use Rattle.std.specs.Prelude.{filter}
use Rattle.rules.specs.Groups.{in_conflict_with}
use Rattle.rules.specs.steps.NamedGroups.{is_named}
use Rattle.places.proofs.Rising.{among_places}
use Rattle.version_ids.proofs.Scopes.{kept_among}
use Rattle.version_ids.proofs.Found.{found_group, no_group}
use Rattle.version_ids.proofs.group_named.Goals as goal

pub identifier_among-requires-clause-group : goal.identifier_among-requires-clause-group
identifier_among-requires-clause-group g c =
    let named = filter (is_named (g.R.Relation.name_at c.args.relation.now) c.args.id.now) c.args.known.now in
    kept_among (g.R.Relation.size c.args.relation.now) c.args.known.now c.in_ok-group.group (λ x. not (in_conflict_with (g.R.Relation.conflicts c.args.relation.now) named x))
    (among_places _ _ c.rises.ensures c.requires) c.in_ok-group.ensures

pub returns-then-eq : goal.returns-then-eq
returns-then-eq g c =
    let is_conflict = g.R.Relation.conflicts c.args.relation.now in
    let known = c.args.known.now in
    found_group (g.R.Relation.size c.args.relation.now) (g.R.Relation.name_at c.args.relation.now) is_conflict c.in_ok-found.ensures.relation known
    (among_places _ known c.rises.ensures c.requires) c.args.id.now c.in_ok-found.found c.in_ok-group.group
    c.in_ok-group.ensures
    c.in_ok-found.ensures.id (sym c.eq.ensures ∙ c.if-eq.true)

pub returns-else-eq : goal.returns-else-eq
returns-else-eq g c =
    let is_conflict = g.R.Relation.conflicts c.args.relation.now in
    let known = c.args.known.now in
    no_group (g.R.Relation.size c.args.relation.now) (g.R.Relation.name_at c.args.relation.now) is_conflict c.in_ok-found.ensures.relation known
    (among_places _ known c.rises.ensures c.requires) c.args.id.now c.in_ok-found.found c.in_ok-group.group
    c.in_ok-group.ensures
    c.in_ok-found.ensures.id (sym c.eq.ensures ∙ c.if-eq.false)
