use Rattle.std.proofs.Common.{◌≡◌, ◌∙◌, sym}
use Rattle.renewal.specs.Drawn.{drawn}
use Rattle.renewal.specs.steps.Equality.{same_drawing-Decides}
use Rattle.renewal.proofs.drawings.draws.Goals as goal

pub returns : goal.returns
returns c =
    let decides = same_drawing-Decides c.deref.result.now c.args.pictures.now in
    let own : c.deref.result.now ≡ drawn c.args.room.now.room.entries = c.deref.ensures.value ∙ c.in_ok-own.ensures in
    (λ same. sym own ∙ decides.0 (sym c.are_same.ensures ∙ same), λ e. c.are_same.ensures ∙ decides.1 (own ∙ e))
