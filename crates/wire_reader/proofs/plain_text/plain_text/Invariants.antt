use Rattle.wire_reader.specs.steps.PlainTexts.{StandsFor}
use Rattle.wire_reader.proofs.plain_text.plain_text.Given as goal

abbrev pub invariant-lexemes : goal.invariant-lexemes
invariant-lexemes l = StandsFor l.message l.text.items l.rest
