use Rattle.std.proofs.Common.{◌<◌, sym, subst, length}
use Rattle.std.specs.Prelude.{All, not}
use Rattle.std.proofs.lemmas.Result.{IfOk-weaker}
use Rattle.std.proofs.lemmas.List.Elements.{All-filter}
use Rattle.places.specs.steps.PlaceSet.{has}
use Rattle.conflict_rows.specs.steps.Rows.{at_odds_at}
use Rattle.conflict.proofs.Candidates.{all_within, candidates_same}
use Rattle.conflict.proofs.object_changes.ObjectChanges.unknown_that_may_be_at_odds.Goals as goal

pub returns-clause-within : goal.returns-clause-within
returns-clause-within c =
    let n = length c.args.self.now.ops in
    let found = c.in_ok-found.found in
    IfOk-weaker c.without.result _ _
    (λ candidates e. subst (All (λ place. place < n)) (sym e) (All-filter (λ p. not (has c.args.known.now p)) (λ place. place < n) found (all_within n found c.in_ok-found.ensures.within))) c.without.ensures

pub returns-clause-same : goal.returns-clause-same
returns-clause-same c =
    let k = c.args.self.now.ops in
    IfOk-weaker c.without.result _ _
    (λ candidates e. candidates_same (length k) (at_odds_at k c.args.body.now) c.in_ok-found.found c.args.known.now candidates c.rises.ensures c.in_ok-found.ensures.within c.in_ok-found.ensures.all e) c.without.ensures
