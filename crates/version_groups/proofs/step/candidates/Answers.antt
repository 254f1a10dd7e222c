use Rattle.std.proofs.Common.{not, sym, refl, ap, ◌∙◌}
use Rattle.version_groups.specs.steps.Steps.{candidate, is_none_of}
use Rattle.version_groups.proofs.Pieces.{candidates_more, candidates_stay, none_of_all}
use Rattle.version_groups.proofs.step.candidates.Goals.{then-intersects+in_ok-candidate_of+in_ok-push_back, else-intersects}
use Rattle.version_groups.proofs.step.candidates.Goals as goal

pub loop-group-preserved : goal.loop-group-preserved
loop-group-preserved c =
    let conflicting = c.args.conflicting.now in
    let clear = is_none_of conflicting in
    let place = c.args.place in
    let groups = c.args.groups.now in
    let i = c.loop-group.group-index in
    let group = c.group-item.result in
    let here = c.loop-group-test.true in
    elim c.if-intersects.branch [
      | then-intersects+in_ok-candidate_of+in_ok-push_back w ↦
          (let apart = none_of_all conflicting group ∙ ap not (sym c.intersects.ensures ∙ w.if-intersects.true) in
          candidates_more clear (candidate clear place) groups c.loop-group.candidates.items c.if-intersects.candidates.items i group w.in_ok-candidate_of.field-0 here c.group-item.is apart c.loop-group.invariant w.in_ok-candidate_of.ensures
          (rw w.candidates-is w.in_ok-push_back.ensures.items))
      | else-intersects w ↦
          (let free = none_of_all conflicting group ∙ ap not (sym c.intersects.ensures ∙ w.if-intersects.false) in
          candidates_stay clear (candidate clear place) groups c.loop-group.candidates.items c.if-intersects.candidates.items i group here c.group-item.is free c.loop-group.invariant (rw w.candidates-is refl))
    ]
