use Rattle.std.proofs.Common.{◌≡◌, take, drop, ◌∙◌, subst}
use Rattle.std.specs.Prelude.{IfOk}
use Rattle.std.proofs.lemmas.Result.{IfOk-weaker}
use Rattle.drawing.specs.Room.{all_objects}
use Rattle.drawing.specs.steps.State.{DrawingState}
use Rattle.drawing.proofs.ObjectKinds.{kinds_listed}
use Rattle.drawing.proofs.drawing.Drawing.page.Goals as goal

pub returns : goal.returns
returns c =
    let kinds = kinds_listed c.self.inside.limits c.self.inside.record.entries c.self.inside.objects.entries c.self.invariant.shapes_are in
    let page = c.page-page.ensures.value in
    subst (λ (s : DrawingState). IfOk c.objects_page.result (λ list. list ≡ take s.room.limits.page (drop c.args.from (all_objects s.room.entries)))) c.self.view_is
    (IfOk-weaker c.objects_page.result _ _ (λ list e. e ∙ (λ i. take (page i) (drop c.args.from (kinds i)))) c.objects_page.ensures)
