use Rattle.std.proofs.Common.{map, subst, sym, ap, ◌∙◌}
use Rattle.std.specs.Arc.{arc_value}
use Rattle.history_check.specs.steps.Findings.{IsFirstFault, first_in}
use Rattle.history_check.proofs.FirstFault.{first_fault}
use Rattle.history_check.proofs.findings.first_fault.Goals as goal

pub returns : goal.returns
returns c =
    let r = map arc_value c.args.entries.now in
    let is = c.first_of.ensures ∙ ap first_in c.deref.ensures.value in
    subst (IsFirstFault r c.args.lines.now) (sym is) (first_fault r c.args.lines.now c.in_ok-findings.findings.items c.in_ok-findings.ensures)
