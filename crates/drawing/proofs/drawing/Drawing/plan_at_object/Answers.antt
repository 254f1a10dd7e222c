use Rattle.std.proofs.Common.{◌≡◌, sym, subst, ap, ◌∙◌}
use Rattle.std.specs.Prelude.{IfErr}
use Rattle.std.specs.List.{position}
use Rattle.std.specs.Map.{lookup, keys_of}
use Rattle.indexmap.specs.IndexMap.{set_value_at}
use Rattle.base_types.specs.Names.{Name, same_name}
use Rattle.rules.specs.Operations.{object_of}
use Rattle.shape.specs.steps.Faults.{IsChangeRefusal}
use Rattle.drawing.specs.steps.Additions.{IsNext, body_refusal}
use Rattle.drawing.specs.steps.Faults.{IsAddRefusal, of_change}
use Rattle.drawing.specs.Room.{room_of}
use Rattle.drawing.specs.Shown.{ids_with}
use Rattle.drawing.specs.steps.State.{DrawingState}
use Rattle.drawing.proofs.AtPlace.{keys_stay, none_found, set_at}
use Rattle.drawing.proofs.Refused.{by_object, ids_are, if_err, may_be_asked, not_there, refused_alike}
use Rattle.drawing.proofs.Replay.{replay_same}
use Rattle.drawing.proofs.WithChanges.{lookup_set}
use Rattle.drawing.proofs.drawing.Drawing.plan_at_object.Goals as goal

pub returns-in_default-clause-refusal : goal.returns-in_default-clause-refusal
returns-in_default-clause-refusal c =
    let i = c.self.inside in
    let named = c.object.ensures ∙ ap object_of c.deref.ensures in
    let none = ap (λ (n : Name). lookup (same_name n) i.objects.entries) (sym named) ∙ none_found (lookup (same_name c.object.result) i.objects.entries) c.in_default.ensures.found in
    λ n. ap (λ (s : DrawingState). body_refusal s.room c.args.op) (sym c.self.view_is)
    ∙ not_there (room_of i.limits i.record.entries) c.args.op c.requires.change i.objects.entries i.past.history c.self.invariant c.requires.counted none

pub plan_change-requires : goal.plan_change-requires
plan_change-requires c =
    let i = c.self.inside in
    let named = c.object.ensures ∙ ap object_of c.deref.ensures in
    let found = c.in-Some-get_index_mut.ensures.value ∙ c.in-Some.ensures.value in
    let there = ap (λ (n : Name). lookup (same_name n) i.objects.entries) (sym named) ∙ sym found in
    let next = subst (λ (s : DrawingState). IsNext s.room c.args.op) (sym c.self.view_is) c.requires.next in
    may_be_asked (room_of i.limits i.record.entries) c.args.op c.requires.change i.objects.entries i.past.history c.self.invariant c.requires.counted c.in-Some-get_index_mut.shape.now there next

pub invariant_of-self : goal.invariant_of-self
invariant_of-self c =
    let found = c.in-Some-get_index_mut.ensures.value ∙ c.in-Some.ensures.value in
    rw (set_at (same_name c.object.result) c.self.inside.objects.entries c.in-Some.place c.plan_change.new.self (sym c.in-Some.ensures.index))
    (replay_same _ _ _ c.self.invariant (same_name c.object.result) c.in-Some-get_index_mut.shape.now c.plan_change.new.self (sym found) c.plan_change.ensures.object)

pub returns-in_err-plan_change-clause-refusal : goal.returns-in_err-plan_change-clause-refusal
returns-in_err-plan_change-clause-refusal c =
    let i = c.self.inside in
    let room = room_of i.limits i.record.entries in
    let named = c.object.ensures ∙ ap object_of c.deref.ensures in
    let found = c.in-Some-get_index_mut.ensures.value ∙ c.in-Some.ensures.value in
    let there = ap (λ (n : Name). lookup (same_name n) i.objects.entries) (sym named) ∙ sym found in
    let fault = c.in_err-plan_change.field-0.0 in
    let refusal = body_refusal room c.args.op in
    let is : IsChangeRefusal refusal fault = λ n.
    by_object room c.args.op c.requires.change i.objects.entries i.past.history c.self.invariant c.requires.counted c.in-Some-get_index_mut.shape.now there ∙ c.in_err-plan_change.ensures.refusal n in
    subst (λ (s : DrawingState). IfErr c.from_residual.result (IsAddRefusal (body_refusal s.room c.args.op))) c.self.view_is
    (if_err c.from_residual.result (λ e. e ≡ of_change fault) (IsAddRefusal refusal) (λ e given. subst (IsAddRefusal refusal) (sym given) (refused_alike refusal fault is)) c.from_residual.ensures.1)

pub invariant_of-self-2 : goal.invariant_of-self-2
invariant_of-self-2 c =
    let found = c.in-Some-get_index_mut.ensures.value ∙ c.in-Some.ensures.value in
    rw (set_at (same_name c.object.result) c.self.inside.objects.entries c.in-Some.place c.plan_change.new.self (sym c.in-Some.ensures.index))
    (replay_same _ _ _ c.self.invariant (same_name c.object.result) c.in-Some-get_index_mut.shape.now c.plan_change.new.self (sym found) c.plan_change.ensures.object)

pub returns-clause-shape : goal.returns-clause-shape
returns-clause-shape c =
    let shapes = c.self.inside.objects.entries in
    let place = c.in-Some.place in
    let planned = c.plan_change.new.self in
    let named = c.object.ensures ∙ ap object_of c.deref.ensures in
    let found = c.in-Some-get_index_mut.ensures.value ∙ c.in-Some.ensures.value in
    record {
      at =
          ap (λ (n : Name). position (same_name n) (keys_of (set_value_at shapes place planned))) (sym named)
          ∙ ap (position (same_name c.object.result)) (keys_stay shapes place planned)
          ∙ sym c.in-Some.ensures.index;
      shape = planned;
      named =
          ap (λ (n : Name). lookup (same_name n) (set_value_at shapes place planned)) (sym named)
          ∙ ap (lookup (same_name c.object.result)) (set_at (same_name c.object.result) shapes place planned (sym c.in-Some.ensures.index))
          ∙ lookup_set (same_name c.object.result) c.in-Some-get_index_mut.shape.now planned shapes (sym found);
      holds = c.in_ok-plan_change.ensures.planned;
    }

pub returns-clause-ids : goal.returns-clause-ids
returns-clause-ids c =
    let i = c.self.inside in
    let named = c.object.ensures ∙ ap object_of c.deref.ensures in
    let found = c.in-Some-get_index_mut.ensures.value ∙ c.in-Some.ensures.value in
    let there = ap (λ (n : Name). lookup (same_name n) i.objects.entries) (sym named) ∙ sym found in
    let next = subst (λ (s : DrawingState). IsNext s.room c.args.op) (sym c.self.view_is) c.requires.next in
    c.in_ok-plan_change.ensures.ids
    ∙ ids_are (room_of i.limits i.record.entries) c.args.op c.requires.change i.objects.entries i.past.history c.self.invariant c.requires.counted c.in-Some-get_index_mut.shape.now there next
    ∙ ap (λ (s : DrawingState). ids_with s.room c.args.op) c.self.view_is

pub returns-clause-allowed : goal.returns-clause-allowed
returns-clause-allowed c =
    let i = c.self.inside in
    let named = c.object.ensures ∙ ap object_of c.deref.ensures in
    let found = c.in-Some-get_index_mut.ensures.value ∙ c.in-Some.ensures.value in
    let there = ap (λ (n : Name). lookup (same_name n) i.objects.entries) (sym named) ∙ sym found in
    ap (λ (s : DrawingState). body_refusal s.room c.args.op) (sym c.self.view_is)
    ∙ by_object (room_of i.limits i.record.entries) c.args.op c.requires.change i.objects.entries i.past.history c.self.invariant c.requires.counted c.in-Some-get_index_mut.shape.now there
    ∙ c.in_ok-plan_change.ensures.accepted
