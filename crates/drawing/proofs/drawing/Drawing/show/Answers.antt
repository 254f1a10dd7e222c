use Rattle.std.proofs.Common.{ap, sym, ◌∙◌, length}
use Rattle.rules.specs.declared.refusal.Refusal.TheVariants.{NoSuchObject}
use Rattle.wire.specs.declared.reply.Reply.TheVariants.{No, Versions}
use Rattle.drawing.specs.Shown.{shown}
use Rattle.drawing.specs.steps.State.{DrawingState}
use Rattle.drawing.proofs.Shown.{shown_absent, shown_there}
use Rattle.drawing.proofs.drawing.Drawing.show.Goals as goal

pub returns-in_default : goal.returns-in_default
returns-in_default c =
    let r = c.self.inside.record.entries in
    (λ i. No ((c.len.ensures.len ∙ ap (λ (s : DrawingState). length s.room.entries) (sym c.self.view_is)) i) NoSuchObject)
    ∙ sym (shown_absent c.self.inside.limits r c.self.inside.objects.entries c.self.invariant.shapes_are c.args.object (sym c.in_default.ensures.value))
    ∙ ap (λ (s : DrawingState). shown s.room.entries c.args.object) c.self.view_is

pub returns : goal.returns
returns c =
    let r = c.self.inside.record.entries in
    (λ i. Versions ((c.len-2.ensures.len ∙ ap (λ (s : DrawingState). length s.room.entries) (sym c.self.view_is)) i) c.args.object ((c.in_ok-copy.ensures ∙ c.kind.ensures) i) ((c.from_vec.ensures ∙ c.in_ok-show.ensures) i))
    ∙ sym (shown_there c.self.inside.limits r c.self.inside.objects.entries c.self.invariant.shapes_are c.args.object c.self.invariant.sound.history c.in-Some.shape.now (sym c.in-Some.ensures.value))
    ∙ ap (λ (s : DrawingState). shown s.room.entries c.args.object) c.self.view_is
