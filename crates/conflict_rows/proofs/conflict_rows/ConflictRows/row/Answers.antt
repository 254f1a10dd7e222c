use Rattle.std.proofs.Common.{◌≡◌, ◌<◌, ◌∙◌, List, ℕ, ap, length, not, refl, subst, sym, ◌++◌, ◌∷◌, []}
use Rattle.std.specs.Prelude.{All, filter}
use Rattle.base_types.specs.Names.{Name}
use Rattle.rules.specs.declared.history.Op.{Op}
use Rattle.rules.specs.Conflicts.{direct_conflict}
use Rattle.places.specs.steps.PlaceSet.{has, places}
use Rattle.places.specs.steps.Changes.{AreChangesOf, Changes, at, base_places, is_conflict_of, new_conflicts}
use Rattle.places.proofs.Places.{all_below}
use Rattle.conflict_rows.specs.steps.Rows.{conflicts_below, direct_places, is_in_row}
use Rattle.conflict_rows.proofs.Inherited.{other_conflicts}
use Rattle.conflict_rows.proofs.Rows.{listed_is, row_is}
use Rattle.conflict_rows.proofs.conflict_rows.ConflictRows.row.Goals as goal

-- the row that is made from the direct conflicts that the base is in no conflict with
row_of_others : {before after : Name} (k : List Op) (o : Op) → AreChangesOf before k → AreChangesOf after (k ++ o ∷ []) → (based conflicting others row : List ℕ) → based ≡ base_places k o
    → conflicting ≡ filter (conflicts_below (is_conflict_of k) based (length k)) (places (length k)) → others ≡ filter (λ place. not (has conflicting place)) (direct_places k o)
    → row ≡ filter (is_in_row k others based) (places (length k)) → row ≡ new_conflicts k o
row_of_others k o v w based conflicting others row b f d r =
    let same : based ≡ filter (has based) (places (length k)) = b ∙ sym (listed_is k o w) ∙ ap (λ (x : List ℕ). filter (has x) (places (length k))) (sym b) in
    let low : All (λ other. other < length k) based = all_below (has based) (length k) based same in
    let near : All (λ place. place < length k) (direct_places k o) = all_below (λ place. direct_conflict o (at k place)) (length k) (direct_places k o) refl in
    row_is k o w based (direct_places k o) based row b refl same (r ∙ other_conflicts k v (direct_places k o) others based conflicting near low d f)

pub conflicts_of_base-requires : goal.conflicts_of_base-requires
conflicts_of_base-requires c =
    let k = c.args.self.now.ops in
    let o = c.args.op.now in
    all_below (has (base_places k o)) (length k) c.args.based.now (c.requires.base ∙ sym (listed_is k o c.requires.changes.listed))

pub returns : goal.returns
returns c =
    let k = c.args.self.now.ops in
    let o = c.args.op.now in
    let changes : AreChangesOf c.self.inside.object k = subst (λ (s : Changes). AreChangesOf c.self.inside.object s.ops) c.self.view_is c.self.invariant.changes.listed in
    let low = all_below (has (base_places k o)) (length k) c.args.based.now (c.requires.base ∙ sym (listed_is k o c.requires.changes.listed)) in
    row_of_others k o changes c.requires.changes.listed c.args.based.now c.in_ok-row.row c.in_ok-direct.direct c.add_based_on.new.row c.requires.base c.in_ok-row.ensures c.in_ok-direct.ensures
    (c.in_ok-add_based_on.ensures c.args.based.now low c.in_ok-row.ensures)
