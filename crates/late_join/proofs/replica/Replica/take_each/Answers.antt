use Rattle.std.proofs.Common.{◌≡◌, ◌-◌, ◌<◌, map, take, length, sym, ap, ◌∙◌, arith, subst, length-append}
use Rattle.std.specs.Arc.{arc_value}
use Rattle.std.proofs.lemmas.List.{length-map, length-take-le}
use Rattle.late_join.specs.Replica.{ReplicaState, with_taken}
use Rattle.late_join.specs.steps.Feeding.{StopsAt}
use Rattle.late_join.specs.Taking.{take_fault}
use Rattle.late_join.proofs.Fronts.{entry_at, one_more}
use Rattle.late_join.proofs.replica.Replica.take_each.Goals as goal

pub loop-entry-preserved : goal.loop-entry-preserved
loop-entry-preserved c =
    c.in_default.ensures.ok
    ∙ ap (λ (s : ReplicaState). with_taken s c.deref.result.now) c.loop-entry.invariant
    ∙ one_more arc_value c.args.entries.now c.loop-entry.entry-index c.entry-item.result c.loop-entry-test.true c.entry-item.is c.args.self.now c.deref.result.now c.deref.ensures

pub returns-in-Err-clause-err : goal.returns-in-Err-clause-err
returns-in-Err-clause-err c =
    let entries = map arc_value c.args.entries.now in
    let k = c.loop-entry.entry-index in
    let within : k < length entries = rw length-map c.loop-entry-test.true in
    let same = c.in-Err.ensures.err ∙ c.loop-entry.invariant in
    let sum = length-append c.args.self.now.taken (take k entries) in
    let front = length-take-le k entries (omega arith) in
    let counted = ap (λ (s : ReplicaState). length s.taken) same in
    let place : c.count_taken.result - c.count_taken-before.result ≡ k = omega (arith, c.count_taken.ensures.count, c.count_taken-before.ensures.count, counted, sum, front) in
    subst (λ n. StopsAt c.args.self.now c.take_copy.new.self entries n c.in-Err.fault) (sym place) (record {
      within = within;
      before = same;
      entry = arc_value c.entry-item.result;
      here = entry_at arc_value c.args.entries.now k c.entry-item.result c.loop-entry-test.true c.entry-item.is;
      why = λ n.
          ap (λ (s : ReplicaState). take_fault s.limits s.taken (arc_value c.entry-item.result)) c.in-Err.ensures.err
          ∙ ap (take_fault c.loop-entry.self.limits c.loop-entry.self.taken) (sym c.deref.ensures)
          ∙ c.in-Err.ensures.fault n;
    })
