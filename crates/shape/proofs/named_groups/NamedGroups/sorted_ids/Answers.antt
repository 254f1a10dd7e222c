use Rattle.std.proofs.Common.{◌≡◌, List, length, ◌∙◌, ap, sym}
use Rattle.std.proofs.lemmas.List.Sorted.{IsPermutation-refl}
use Rattle.std.proofs.lemmas.Result.{IfOk-weaker}
use Rattle.base_types.specs.Names.{Name}
use Rattle.base_types.specs.VersionIds.{id_cmp}
use Rattle.rules.specs.Lists.{sort_by}
use Rattle.places.specs.steps.Changes.{at, is_conflict_of}
use Rattle.shape.proofs.Listing.{ids_sorted}
use Rattle.shape.proofs.named_groups.NamedGroups.sorted_ids.Goals as goal

pub returns : goal.returns
returns c =
    let k = c.args.changes.now in
    let ids : List (List Name) = c.args.self.now.ids in
    let in_order : ids ≡ sort_by id_cmp ids =
    ids_sorted (length k) (λ i. (at k i).name) (is_conflict_of k) c.len.ensures.relation c.args.self.now.groups.groups c.requires.groups_are
    ids ids c.requires.ids_are (IsPermutation-refl ids) c.shared_ids.ensures.sorted
    ∙ sym (ap (sort_by id_cmp) c.requires.ids_are) in
    IfOk-weaker c.shared_ids.result _ _ (λ shared e. e ∙ in_order) c.shared_ids.ensures.ids
