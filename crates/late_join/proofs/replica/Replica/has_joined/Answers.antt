use Rattle.std.proofs.Common.{ap, ◌∙◌, eqb}
use Rattle.std.specs.List.{list_any}
use Rattle.late_join.specs.Replica.{ReplicaState}
use Rattle.late_join.specs.Taking.{has_joined}
use Rattle.late_join.proofs.Replay.{joined_is}
use Rattle.late_join.proofs.replica.Replica.has_joined.Goals as goal

pub returns : goal.returns
returns c =
    c.holds.ensures
    ∙ ap (list_any (λ joined. eqb joined c.args.site)) (c.deref.ensures.value ∙ c.self.invariant.joins)
    ∙ joined_is c.self.inside.drawing.room.entries c.args.site
    ∙ ap (λ (s : ReplicaState). has_joined s.taken c.args.site) c.self.view_is
