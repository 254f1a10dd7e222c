use Rattle.std.proofs.Common.{ap, leb, length, sym, ◌∙◌, subst, Some}
use Rattle.std.specs.Prelude.{option_map}
use Rattle.rules.specs.steps.Histories.{causal_refusal}
use Rattle.rules.specs.Records.{operations}
use Rattle.late_join.specs.declared.fault.TakeFault.TheVariants.{Refused}
use Rattle.late_join.specs.Replica.{ReplicaState}
use Rattle.late_join.proofs.First.{first_causal, first_early, first_full}
use Rattle.late_join.proofs.Taken.{IsSound, sound}
use Rattle.late_join.proofs.replica.Replica.arrival_fault.Goals as goal

pub returns-then-is_early-clause-fault : goal.returns-then-is_early-clause-fault
returns-then-is_early-clause-fault c =
    let s = c.args.self.now in
    sym (first_early s.limits s.taken c.args.op.now (sym c.is_repeat.ensures ∙ c.if-is_repeat.false) (sym c.is_early.ensures ∙ c.if-is_early.true))

pub returns-then-is_full-clause-fault : goal.returns-then-is_full-clause-fault
returns-then-is_full-clause-fault c =
    let s = c.args.self.now in
    sym (first_full s.limits s.taken c.args.op.now (sym c.is_repeat.ensures ∙ c.if-is_repeat.false) (sym c.is_early.ensures ∙ c.if-is_early.false) (ap (λ (x : ReplicaState). leb x.limits.entries (length x.taken)) (sym c.self.view_is) ∙ sym c.is_full.ensures.full ∙ c.if-is_full.true))

pub returns-in-Ok-clause-fault : goal.returns-in-Ok-clause-fault
returns-in-Ok-clause-fault c =
    let s = c.args.self.now in
    let i = subst (λ (x : ReplicaState). IsSound (operations x.taken)) c.self.view_is (sound c.self.inside.drawing.room.limits c.self.inside.drawing.room.entries c.self.invariant.takeable) in
    let past = ap (λ h. causal_refusal h c.args.op.now.name c.args.op.now.seen) (c.past.ensures ∙ ap (λ (x : ReplicaState). operations x.taken) c.self.view_is) in
    sym (first_causal s.limits s.taken c.args.op.now (sym c.is_repeat.ensures ∙ c.if-is_repeat.false) (sym c.is_early.ensures ∙ c.if-is_early.false) i c.pairs-pairs.ensures.range (ap (λ (x : ReplicaState). leb x.limits.entries (length x.taken)) (sym c.self.view_is) ∙ sym c.is_full.ensures.full ∙ c.if-is_full.false)
    ∙ ap (option_map Refused) (sym past ∙ c.in-Ok.ensures.admitted))

pub returns-in-Err-clause-fault : goal.returns-in-Err-clause-fault
returns-in-Err-clause-fault c =
    let s = c.args.self.now in
    let i = subst (λ (x : ReplicaState). IsSound (operations x.taken)) c.self.view_is (sound c.self.inside.drawing.room.limits c.self.inside.drawing.room.entries c.self.invariant.takeable) in
    let past = ap (λ h. causal_refusal h c.args.op.now.name c.args.op.now.seen) (c.past.ensures ∙ ap (λ (x : ReplicaState). operations x.taken) c.self.view_is) in
    ap (λ r. Some (Refused r)) c.from.ensures
    ∙ sym (first_causal s.limits s.taken c.args.op.now (sym c.is_repeat.ensures ∙ c.if-is_repeat.false) (sym c.is_early.ensures ∙ c.if-is_early.false) i c.pairs-pairs.ensures.range (ap (λ (x : ReplicaState). leb x.limits.entries (length x.taken)) (sym c.self.view_is) ∙ sym c.is_full.ensures.full ∙ c.if-is_full.false)
    ∙ ap (option_map Refused) (sym past ∙ c.in-Err.ensures.refusal))
