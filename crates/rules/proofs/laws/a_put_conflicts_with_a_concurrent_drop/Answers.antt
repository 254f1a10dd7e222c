use Rattle.rules.proofs.Drops.{put_in_conflict, drops_apart}
use Rattle.rules.proofs.laws.a_put_conflicts_with_a_concurrent_drop.Goals as goal

pub returns-clause-put_and_drop : goal.returns-clause-put_and_drop
returns-clause-put_and_drop c = put_in_conflict

pub returns-clause-two_drops : goal.returns-clause-two_drops
returns-clause-two_drops c = drops_apart
