use Rattle.std.proofs.Common.{◌≡◌, ◌∙◌, [], ap, length, slice_index_or, Some}
use Rattle.places.specs.steps.Changes.{at, is_conflict_of}
use Rattle.shape.specs.steps.Kept.{Named}
use Rattle.shape.proofs.Finds.{found, not_found}
use Rattle.shape.proofs.named_groups.NamedGroups.group_named.Goals as goal

pub returns-in_default : goal.returns-in_default
returns-in_default c =
    let k = c.args.changes.now.ops in
    let ids : c.deref.result.now ≡ c.args.self.now.ids = c.deref.ensures ∙ ap (λ (v : Named). v.ids) c.self.view_is in
    not_found (length k) (λ i. (at k i).name) (is_conflict_of k) c.len.ensures.relation c.args.self.now.groups.groups c.requires.groups_are c.deref.result.now (ids ∙ c.requires.ids_are) c.args.id.now c.in_default.ensures

pub returns : goal.returns
returns c =
    let k = c.args.changes.now.ops in
    let ids : c.deref.result.now ≡ c.args.self.now.ids = c.deref.ensures ∙ ap (λ (v : Named). v.ids) c.self.view_is in
    ap Some (c.in_ok-copy.ensures ∙ c.members.ensures ∙ ap (λ (v : Named). slice_index_or v.groups.groups c.in-Some.group []) c.self.view_is)
    ∙ found (length k) (λ i. (at k i).name) (is_conflict_of k) c.len.ensures.relation c.args.self.now.groups.groups c.requires.groups_are c.deref.result.now (ids ∙ c.requires.ids_are) c.args.id.now c.in-Some.group c.in-Some.ensures.0 c.in-Some.ensures.1
