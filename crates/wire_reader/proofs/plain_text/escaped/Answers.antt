use Rattle.std.proofs.lemmas.Option.{IfSome_then}
use Rattle.wire_reader.specs.steps.PlainTexts.{IsEscape, IsUnicode}
use Rattle.wire_reader.proofs.PlainTexts.{slash_at, u_at}
use Rattle.wire_reader.proofs.plain_text.escaped.Goals as goal

pub returns-in-Some-eq117-default : goal.returns-in-Some-eq117-default
returns-in-Some-eq117-default c =
    let bytes = c.args.bytes.now in
    let found = c.in-Some-eq117-default in
    IfSome_then c.unicode_of.result {P = λ taken. IsUnicode taken.0 found.digits.now taken.1.now} {Q = λ taken. IsEscape taken.0 bytes taken.1.now} c.unicode_of.ensures
    (λ taken is. u_at taken.0 found.field-0-0.now bytes found.digits.now taken.1.now found.ensures.cases.0 found.field-0-0-test is)

pub returns-in-Some-eq47-default : goal.returns-in-Some-eq47-default
returns-in-Some-eq47-default c =
    let found = c.in-Some-eq47-default in
    slash_at found.field-0-0.now c.args.bytes.now found.rest.now found.ensures.cases.0 found.field-0-0-test
