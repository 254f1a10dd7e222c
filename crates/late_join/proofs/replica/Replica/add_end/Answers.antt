use Rattle.std.proofs.Common.{true, Some, subst, sym, ap, ◌∙◌, refl}
use Rattle.rules.specs.declared.history.Entry.TheVariants.{Next}
use Rattle.drawing.specs.Room.{Room, with_entry}
use Rattle.late_join.specs.Kept.{IsReplica}
use Rattle.late_join.specs.Replica.{ReplicaState}
use Rattle.late_join.specs.Taking.{take_fault}
use Rattle.late_join.proofs.Replay.{may_take_if, replica_ended, room_for_end}
use Rattle.late_join.proofs.replica.Replica.add_end.Goals as goal

pub plan_end-requires : goal.plan_end-requires
plan_end-requires c =
    let room = c.self.inside.drawing.room in
    let none = ap (λ (s : ReplicaState). take_fault s.limits s.taken (Next c.args.count)) c.self.view_is ∙ c.requires in
    room_for_end room.limits room.entries c.args.count (may_take_if room.limits room.entries (Next c.args.count) refl none)

pub invariant_of-self-2 : goal.invariant_of-self-2
invariant_of-self-2 c =
    let room = c.self.inside.drawing.room in
    let none = ap (λ (s : ReplicaState). take_fault s.limits s.taken (Next c.args.count)) c.self.view_is ∙ c.requires in
    let grown = c.commit.ensures ∙ (λ i. with_entry (c.plan_end.ensures.room i) (Some (c.in_ok-addition.ensures.entry i))) in
    subst (λ (r : Room). IsReplica r.limits r.entries c.self.inside.sites.items true) (sym grown)
    (replica_ended room.limits room.entries c.self.inside.sites.items c.self.inside.has_ended c.self.invariant c.args.count (may_take_if room.limits room.entries (Next c.args.count) refl none))
