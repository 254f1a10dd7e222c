use Rattle.transcript.proofs.LineTexts as texts
use Rattle.transcript.proofs.laws.lines_by_form.Goals as goal

pub returns : goal.returns
returns c = texts.lines_by_form
