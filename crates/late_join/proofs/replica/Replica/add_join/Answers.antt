use Rattle.std.proofs.Common.{[], ◌∷◌, ◌++◌, Some, subst, sym, ap, ◌∙◌, refl}
use Rattle.rules.specs.declared.history.Entry.TheVariants.{Join}
use Rattle.drawing.specs.Room.{Room, with_entry}
use Rattle.late_join.specs.Kept.{IsReplica}
use Rattle.late_join.specs.Replica.{ReplicaState}
use Rattle.late_join.specs.Taking.{take_fault}
use Rattle.late_join.proofs.Replay.{may_take_if, replica_joined, room_for_join}
use Rattle.late_join.proofs.replica.Replica.add_join.Goals as goal

pub plan_join-requires : goal.plan_join-requires
plan_join-requires c =
    let room = c.self.inside.drawing.room in
    let none = ap (λ (s : ReplicaState). take_fault s.limits s.taken (Join c.args.site)) c.self.view_is ∙ c.requires in
    room_for_join room.limits room.entries c.args.site (may_take_if room.limits room.entries (Join c.args.site) refl none)

pub invariant_of-self-2 : goal.invariant_of-self-2
invariant_of-self-2 c =
    let room = c.self.inside.drawing.room in
    let none = ap (λ (s : ReplicaState). take_fault s.limits s.taken (Join c.args.site)) c.self.view_is ∙ c.requires in
    let grown = c.commit.ensures ∙ (λ i. with_entry (c.plan_join.ensures.room i) (Some (c.in_ok-addition.ensures.entry i))) in
    rw (c.push_reserved.ensures.items, c.reserve.ensures.items)
    (subst (λ (r : Room). IsReplica r.limits r.entries (c.self.inside.sites.items ++ c.args.site ∷ []) c.self.inside.has_ended) (sym grown)
    (replica_joined room.limits room.entries c.self.inside.sites.items c.self.inside.has_ended c.self.invariant c.args.site (may_take_if room.limits room.entries (Join c.args.site) refl none)))
