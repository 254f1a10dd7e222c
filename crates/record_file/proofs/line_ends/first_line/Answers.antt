use Rattle.std.proofs.Common.{sym, ◌∙◌}
use Rattle.std.proofs.lemmas.List.{take_rest}
use Rattle.record_file.proofs.Breaks.{lines_break_at, lines_without_break}
use Rattle.record_file.proofs.line_ends.first_line.Goals as goal

pub returns-in-Some-clause-lines : goal.returns-in-Some-clause-lines
returns-in-Some-clause-lines c = rw take_rest (lines_break_at c.args.bytes.now c.in-Some.end (sym c.first_break.ensures ∙ c.in-Some.is))

pub returns-in-None-clause-lines : goal.returns-in-None-clause-lines
returns-in-None-clause-lines c = lines_without_break c.args.bytes.now c.requires (sym c.first_break.ensures ∙ c.in-None.is)
