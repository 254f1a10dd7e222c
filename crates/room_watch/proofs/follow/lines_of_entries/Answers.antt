use Rattle.std.proofs.Common.{◌≡◌, ◌+◌, ◌++◌, ◌∷◌, [], map, take, sym, ◌∙◌, ap, append_assoc}
use Rattle.std.specs.Arc.{arc_value}
use Rattle.rules.specs.declared.history.Entry.{Entry}
use Rattle.late_join.specs.Replica.{ReplicaState, with_entries, with_taken}
use Rattle.room_watch.specs.steps.Lines.{added_line, added_lines}
use Rattle.base_types.proofs.Lists.{map_next}
use Rattle.room_watch.proofs.Added.{added_more}
use Rattle.room_watch.proofs.follow.lines_of_entries.Goals as goal

pub loop-entry-preserved : goal.loop-entry-preserved
loop-entry-preserved c =
    let all = c.args.entries.now in
    let k = c.loop-entry.entry-index in
    let e = c.entry-item.result in
    let old = c.args.replica.now in
    let front = map arc_value (take k all) in
    let inv = c.loop-entry.invariant in
    let next : map arc_value (take (k + 1) all) ≡ front ++ arc_value e ∷ [] = map_next arc_value all k e c.loop-entry-test.true c.entry-item.is in
    let value : c.deref.result.now ≡ arc_value e = c.deref.ensures in
    record {
      taken =
          c.in_ok-take_entry.ensures.taken
          ∙ ap (λ (s : ReplicaState). with_taken s c.deref.result.now) inv.taken
          ∙ ap (λ (x : Entry). with_taken (with_entries old front) x) value
          ∙ ap (λ t. record { limits = old.limits; taken = t }) (append_assoc old.taken front (arc_value e ∷ []))
          ∙ ap (with_entries old) (sym next);
      lines =
          c.in_ok-take_entry.ensures.lines
          ∙ ap (λ t. t ++ added_line c.loop-entry.replica.taken c.deref.result.now) inv.lines
          ∙ ap (λ x. added_lines old.taken front ++ added_line c.loop-entry.replica.taken x) value
          ∙ ap (λ (s : ReplicaState). added_lines old.taken front ++ added_line s.taken (arc_value e)) inv.taken
          ∙ sym (added_more old.taken front (arc_value e))
          ∙ ap (added_lines old.taken) (sym next);
    }
