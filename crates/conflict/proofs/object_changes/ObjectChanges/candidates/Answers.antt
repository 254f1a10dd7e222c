use Rattle.std.proofs.Common.{◌∙◌, sym, ap, length}
use Rattle.std.specs.Prelude.{filter}
use Rattle.std.proofs.lemmas.Result.{IfOk-weaker}
use Rattle.changes_by_site.specs.declared.known.Known.{Known}
use Rattle.changes_by_site.specs.steps.Indexes.{known_of}
use Rattle.conflict_rows.specs.steps.Rows.{at_odds_at, places_outside}
use Rattle.conflict.proofs.Candidates.{none_outside}
use Rattle.conflict.proofs.object_changes.ObjectChanges.candidates.Goals as goal

pub returns-in-All-clause-same : goal.returns-in-All-clause-same
returns-in-All-clause-same c =
    let k = c.args.self.now.ops in
    let all = sym (ap (λ (known : Known). known_of known (length k)) c.in-All.is) ∙ c.requires in
    ap (filter (at_odds_at k c.args.op.now.body)) (c.empty.ensures ∙ sym (none_outside (length k)) ∙ ap (λ known. places_outside known (length k)) all)

pub returns-in-Places-clause-same : goal.returns-in-Places-clause-same
returns-in-Places-clause-same c =
    let k = c.args.self.now.ops in
    let some = sym (ap (λ (known : Known). known_of known (length k)) c.in-Places.is) ∙ c.requires in
    IfOk-weaker c.unknown_that_may_be_at_odds.result _ _
    (λ candidates e. e ∙ ap (λ known. filter (at_odds_at k c.args.op.now.body) (places_outside known (length k))) some) c.unknown_that_may_be_at_odds.ensures.same
