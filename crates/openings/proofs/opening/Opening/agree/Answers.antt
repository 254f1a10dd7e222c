use Rattle.std.proofs.Common.{◌≡◌, List, ap, sym, ◌∙◌, subst}
use mathlib.Core.List.{IsPrefix}
use Rattle.openings.specs.Openings.{Opened, OpeningView}
use Rattle.openings.proofs.Rooms.{same_opening}
use Rattle.openings.proofs.opening.Opening.agree.Goals as goal

pub returns : goal.returns
returns g c =
    let both = c.learn.new.self.log in
    let this : IsPrefix c.self.inside.seen.log both = subst (λ (l : List Opened). IsPrefix l both) (ap (λ s. s.log) c.again-both.ensures) c.learn.ensures.2 in
    let number : c.self.inside.number ≡ c.other.inside.number = ap (λ (o : OpeningView). o.number) c.self.view_is ∙ c.requires ∙ sym (ap (λ (o : OpeningView). o.number) c.other.view_is) in
    sym c.self.view_is ∙ same_opening c.self.inside.seen.log c.other.inside.seen.log both c.self.inside.number c.other.inside.number this c.learn.ensures.3 c.self.invariant.0 c.other.invariant.0 number ∙ c.other.view_is
