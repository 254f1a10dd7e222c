use Rattle.std.proofs.Common.{ap, ◌∙◌, eqb, ltb, not, ◌&&◌}
use Rattle.std.specs.List.{list_any}
use Rattle.rules.specs.Admission.{count_at_site}
use Rattle.rules.specs.Records.{operations}
use Rattle.late_join.specs.Replica.{ReplicaState}
use Rattle.late_join.specs.Taking.{lacks_another}
use Rattle.late_join.proofs.Arrival.{lacks_is}
use Rattle.late_join.proofs.Taken.{sound}
use Rattle.late_join.proofs.replica.Replica.lacks_another.Goals as goal

pub returns : goal.returns
returns c =
    let room = c.self.inside.drawing.room in
    c.has_fewer.ensures
    ∙ (λ i. list_any (λ pair. not (eqb pair.0 (c.site.ensures.value i)) && ltb (count_at_site (c.past.ensures i) pair.0) pair.1) (c.pairs.ensures.pairs i))
    ∙ lacks_is (operations room.entries) (sound room.limits room.entries c.self.invariant.takeable) c.args.op.now c.pairs.ensures.range
    ∙ ap (λ (s : ReplicaState). lacks_another (operations s.taken) c.args.op.now) c.self.view_is
