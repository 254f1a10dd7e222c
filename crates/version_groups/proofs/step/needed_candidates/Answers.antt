use Rattle.std.proofs.Common.{ℕ, List, ap, filter, map, subst, IfSome, ◌∙◌}
use Rattle.places.specs.steps.PlaceSet.{places}
use Rattle.std.proofs.lemmas.Result.{IfOk-weaker}
use Rattle.version_groups.specs.steps.Steps.{candidate, group_after, incompatible_groups, is_none_of, sift, IsLastWith}
use Rattle.version_groups.proofs.Covered.{one_of, one_source}
use Rattle.version_groups.proofs.step.needed_candidates.Goals.{in-Some, in-None}
use Rattle.version_groups.proofs.step.needed_candidates.Goals as goal

pub returns : goal.returns
returns c =
    let p = is_none_of c.args.conflicting.now in
    let o = c.args.place in
    let gs = c.args.kept.now in
    let done = map (group_after p o) gs in
    IfOk-weaker c.candidates.result _ _ (λ made e.
    ap (sift done) e ∙ elim c.match-branch-2.branch [
      | in-Some w ↦
          (let last = subst (λ found. IfSome found (IsLastWith (filter p (places o)) gs)) w.in-Some.is c.in_ok-group.ensures in
          ap (λ (s : List (List ℕ)). sift done (map (candidate p o) (incompatible_groups p s))) (ap (λ b. b.now) w.sources-is ∙ one_of gs w.in-Some.group last.inside)
          ∙ one_source p o gs w.in-Some.group c.requires last)
      | in-None w ↦ ap (λ (s : List (List ℕ)). sift done (map (candidate p o) (incompatible_groups p s))) (ap (λ b. b.now) w.sources-is)
    ]) c.candidates.ensures
