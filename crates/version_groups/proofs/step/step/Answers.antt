use Rattle.std.proofs.Common.{◌≡◌, ℕ, List, [], ap, map, rules, sym, ◌∙◌}
use Rattle.version_groups.proofs.Pieces.{none_incompatible}
use Rattle.version_groups.specs.steps.Steps.{candidate, group_after, is_none_of, sift}
use Rattle.version_groups.proofs.step.step.Goals as goal

pub returns-then-is_none : goal.returns-then-is_none
returns-then-is_none c =
    let p = is_none_of c.args.conflicting.now in
    let o = c.args.place in
    let gs = c.args.kept.now in
    let none : c.args.conflicting.now ≡ [] = search rules in
    c.in_ok-next.ensures ∙ ap (λ (s : List (List ℕ)). sift (map (group_after p o) gs) (map (candidate p o) s)) (sym (none_incompatible c.args.conflicting.now gs none))

pub returns : goal.returns
returns c =
    let p = is_none_of c.args.conflicting.now in
    c.in_ok-add_candidates.ensures ∙ ap (λ (gs : List (List ℕ)). sift gs c.in_ok-needed_candidates.field-0.items) c.in_ok-next.ensures ∙ c.in_ok-needed_candidates.ensures
