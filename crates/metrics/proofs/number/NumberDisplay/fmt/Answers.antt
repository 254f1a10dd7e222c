use Rattle.std.proofs.Common.{List, ℕ, ◌/◌, ◌%◌, ◌∷◌, ◌++◌, ap, subst, ◌∙◌}
use Rattle.std.specs.Fmt.{HasWritten, decimal, styled_decimal}
use Rattle.metrics.proofs.Numbers.{seconds_written}
use Rattle.metrics.proofs.number.NumberDisplay.fmt.Goals as goal

pub returns-in-Micros-clause-writes : goal.returns-in-Micros-clause-writes
returns-in-Micros-clause-writes g c =
    let micros = c.in-Micros.micros in
    let styled = ap (λ spec. decimal (micros / 1000000) ++ 46 ∷ styled_decimal spec (micros % 1000000)) c.laid_out.ensures in
    λ plain written. subst (λ (text : List ℕ). HasWritten {W = g.row.W.Denot} g.W.Write.write_str_gives c.args.f.now text c.write-in-Micros.new.self)
    (styled ∙ seconds_written micros c.args.self.now c.in-Micros.is)
    (c.write-in-Micros.ensures.writes plain written)
