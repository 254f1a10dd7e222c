use Rattle.std.proofs.Common.{◌≡◌, ◌<◌, ◌∙◌, ◌++◌, List, ℕ, false, [], ap, arith, length, map, subst, sym}
use Rattle.std.specs.Prelude.{All, slice_index_or}
use Rattle.std.specs.List.{list_any}
use Rattle.std.specs.List.Sorted.{IsPermutation}
use Rattle.std.proofs.lemmas.Bool.{false_from_ne_true}
use Rattle.base_types.specs.Names.{Name}
use Rattle.rules.proofs.Lists.{In, In-filter, In-filter_back, any_back}
use Rattle.places.specs.steps.PlaceSet.{has}
use Rattle.places.specs.steps.Changes.{at, is_conflict_of}
use Rattle.places.proofs.Places.{all_in, in_all}
use Rattle.shape.specs.steps.Kept.{Named, id_at}
use Rattle.shape.proofs.Listing.{kept_below, listed_more}
use Rattle.shape.proofs.Stays.{kept_grows, kept_stays}
use Rattle.shape.proofs.named_groups.NamedGroups.push_ids_after.Goals as goal
use Rattle.shape.proofs.named_groups.NamedGroups.push_ids_after.Goals.{in-Some+in_ok-id-in-Some, in-None+in_ok-id-in-None}

-- where an identifier that is looked up stands
there : {ids kept : List (List Name)} {i : ℕ} (id : List Name) → ids ≡ kept → (i < length ids) × ((d : List Name) → id ≡ slice_index_or ids i d) → (i < length kept) × (id ≡ slice_index_or kept i [])
there {ids} {kept} {i} id e found = subst (λ (l : List (List Name)). (i < length l) × (id ≡ slice_index_or l i [])) e (found.0, found.1 [])

pub grown_id-requires-clause-members : goal.grown_id-requires-clause-members
grown_id-requires-clause-members c =
    let l = c.args.after.now in
    let gs = c.args.groups.now.groups in
    let below : c.loop-group.group < length gs = omega (arith, c.loop-group-test.true, c.count-group-end.ensures, c.loop-group.auto.group-end) in
    subst (λ g. All (λ p. p < length l) g) (sym c.members-members.ensures) (kept_below (is_conflict_of l) (length l) gs c.requires.groups c.loop-group.group [] below)

pub grown_id-requires-clause-added : goal.grown_id-requires-clause-added
grown_id-requires-clause-added c =
    let l = c.args.after.now in
    let gs = c.args.groups.now.groups in
    let h = c.members-members.result.now in
    let below : c.loop-group.group < length gs = omega (arith, c.loop-group-test.true, c.count-group-end.ensures, c.loop-group.auto.group-end) in
    let within : All (λ p. p < length l) h = subst (λ g. All (λ p. p < length l) g) (sym c.members-members.ensures) (kept_below (is_conflict_of l) (length l) gs c.requires.groups c.loop-group.group [] below) in
    subst (All (λ p. p < length l)) (sym c.in_ok-list_common.ensures) (all_in (λ p. p < length l) _ (λ p m. in_all (λ p. p < length l) h within p (In-filter_back (has c.args.newly.now) p h m).0))

pub grown_id-requires-clause-stays : goal.grown_id-requires-clause-stays
grown_id-requires-clause-stays c none =
    let newly = c.args.newly.now in
    let h = c.members-members.result.now in
    let kept : c.deref.result.now ≡ c.args.self.now.ids = c.deref.ensures ∙ ap (λ (named : Named). named.ids) c.self.view_is in
    let found = there c.in-Some.id.now kept c.in-Some.ensures.lookup.3 in
    let no_new : list_any (has newly) h ≡ false = false_from_ne_true (list_any (has newly) h) (λ t.
    let a = any_back (has newly) h t in
    subst (In a.0) (sym c.in_ok-list_common.ensures ∙ none) (In-filter (has newly) a.0 h a.1 a.2)) in
    kept_stays c.requires.before.0 c.args.after.now c.requires.before.2 newly c.requires.before.3 c.args.self.now c.requires.before.1 c.loop-group.group found.0 c.args.groups.now.groups c.requires.grown h c.members-members.ensures no_new c.in-Some.id.now found.1

pub grown_id-requires-clause-grows : goal.grown_id-requires-clause-grows
grown_id-requires-clause-grows c grown rise p =
    let l = c.args.after.now in
    let gs = c.args.groups.now.groups in
    let below : c.loop-group.group < length gs = omega (arith, c.loop-group-test.true, c.count-group-end.ensures, c.loop-group.auto.group-end) in
    let kept : c.deref.result.now ≡ c.args.self.now.ids = c.deref.ensures ∙ ap (λ (named : Named). named.ids) c.self.view_is in
    let found = there c.in-Some.id.now kept c.in-Some.ensures.lookup.3 in
    kept_grows c.requires.before.0 l c.requires.before.2 c.args.newly.now c.requires.before.3 c.len.ensures.relation c.args.self.now c.requires.before.1 c.loop-group.group found.0 gs c.requires.groups c.requires.grown below
    c.members-members.result.now c.members-members.ensures c.rises.ensures c.in-Some.id.now grown found.1 rise
    (subst (λ added. IsPermutation (map (λ i. (at l i).name) added ++ c.in-Some.id.now) grown) c.in_ok-list_common.ensures p)

pub new_id-requires : goal.new_id-requires
new_id-requires c =
    let l = c.args.after.now in
    let gs = c.args.groups.now.groups in
    let below : c.loop-group.group < length gs = omega (arith, c.loop-group-test.true, c.count-group-end.ensures, c.loop-group.auto.group-end) in
    subst (λ g. All (λ p. p < length l) g) (sym c.members-members.ensures) (kept_below (is_conflict_of l) (length l) gs c.requires.groups c.loop-group.group [] below)

pub loop-group-preserved : goal.loop-group-preserved
loop-group-preserved c =
    let l = c.args.after.now in
    let gs = c.args.groups.now.groups in
    let g = c.members-members.result.now in
    let below : c.loop-group.group < length gs = omega (arith, c.loop-group-test.true, c.count-group-end.ensures, c.loop-group.auto.group-end) in
    let id : c.match-get.id ≡ id_at l g = elim c.match-get.branch [
      | in-Some+in_ok-id-in-Some w ↦ w.id-is ∙ w.in_ok-id-in-Some.ensures
      | in-None+in_ok-id-in-None w ↦ w.id-is ∙ w.in_ok-id-in-None.ensures
    ] in
    listed_more (id_at l) gs [] g c.loop-group.group c.loop-group.ids.items c.push.new.self.items c.match-get.id
    below c.loop-group.invariant c.members-members.ensures id
    c.in_ok-push.ensures.ok
