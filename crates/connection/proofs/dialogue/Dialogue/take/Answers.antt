use Rattle.connection.proofs.dialogue.Dialogue.take.Goals as goal

pub returns-in-Text-clause-ok : goal.returns-in-Text-clause-ok
returns-in-Text-clause-ok g c = rw c.in-Text.is (rw c.as_bytes.ensures.value at c.hear.ensures.ok)

pub returns-in-Text-clause-err : goal.returns-in-Text-clause-err
returns-in-Text-clause-err g c = rw c.in-Text.is (rw c.as_bytes.ensures.value at c.hear.ensures.err)
