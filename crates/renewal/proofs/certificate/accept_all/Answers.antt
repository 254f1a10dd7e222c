use Rattle.std.proofs.Common.{◌∙◌, sym}
use Rattle.renewal.proofs.Replayed.{replay_more, replay_refused}
use Rattle.renewal.proofs.certificate.accept_all.Goals as goal

pub returns-then-not-branch-clause-legal : goal.returns-then-not-branch-clause-legal
returns-then-not-branch-clause-legal c =
    let refused = sym c.if-not-branch.true ∙ c.in_ok-accept.ensures.accepted in
    (λ e. cc, λ legal. replay_refused c.args.entries.now _ _ _ c.loop-entry-test.true c.entry-item.is c.loop-entry.invariant refused legal)

pub loop-entry-preserved : goal.loop-entry-preserved
loop-entry-preserved c =
    let taken = sym c.if-not-branch.false ∙ c.in_ok-accept.ensures.accepted in
    replay_more c.args.entries.now _ _ _ _ c.loop-entry-test.true c.entry-item.is c.loop-entry.invariant taken c.in_ok-accept.ensures.room
