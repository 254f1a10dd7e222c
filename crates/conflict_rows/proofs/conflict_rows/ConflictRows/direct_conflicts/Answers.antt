use Rattle.std.proofs.Common.{◌≡◌, ◌<◌, ◌∙◌, [], ap, length, not, rules, subst, sym}
use Rattle.std.specs.Prelude.{All, filter}
use Rattle.std.proofs.lemmas.Result.{IfOk-weaker}
use Rattle.rules.proofs.Lists.{In-filter_back}
use Rattle.places.specs.steps.PlaceSet.{has}
use Rattle.places.proofs.Places.{all_in, in_all}
use Rattle.conflict_rows.proofs.Direct.{direct_conflicts_beside}
use Rattle.conflict_rows.proofs.conflict_rows.ConflictRows.direct_conflicts.Goals as goal

pub those_at_odds-requires : goal.those_at_odds-requires
those_at_odds-requires c =
    let n = length c.args.self.now.ops in
    let all = c.args.candidates.now in
    let are : c.deref.result.now ≡ filter (λ place. not (has c.args.conflicting.now place)) all = c.deref.ensures.value ∙ c.in_ok-listed.ensures ∙ c.in_ok-others.ensures in
    subst (All (λ place. place < n)) (sym are)
    (all_in (λ place. place < n) _ (λ place m. in_all (λ place. place < n) all c.requires.within place (In-filter_back (λ place. not (has c.args.conflicting.now place)) place all m).0))

pub returns-then-is_none : goal.returns-then-is_none
returns-then-is_none c =
    let beside = c.args.conflicting.now in
    let none : c.args.candidates.now ≡ [] = search rules in
    direct_conflicts_beside c.args.self.now.ops c.args.op.now c.requires.changes.listed c.args.candidates.now [] c.empty.result beside
    c.requires.at_odds (ap (filter (λ place. not (has beside place))) (sym none)) c.empty.ensures

pub returns : goal.returns
returns c =
    IfOk-weaker c.those_at_odds.result _ _
    (λ direct r. direct_conflicts_beside c.args.self.now.ops c.args.op.now c.requires.changes.listed c.args.candidates.now c.deref.result.now direct c.args.conflicting.now
    c.requires.at_odds (c.deref.ensures.value ∙ c.in_ok-listed.ensures ∙ c.in_ok-others.ensures) r) c.those_at_odds.ensures
