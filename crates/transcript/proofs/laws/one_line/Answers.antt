use Rattle.transcript.proofs.LineTexts as texts
use Rattle.transcript.proofs.laws.one_line.Goals as goal

pub returns : goal.returns
returns c = texts.one_line
