use Rattle.std.proofs.Common.{sym, ◌∙◌}
use Rattle.wire_reader.proofs.PlainTexts.{space_more}
use Rattle.wire_reader.proofs.plain_text.after_space.Goals as goal

pub loop-place-preserved : goal.loop-place-preserved
loop-place-preserved c = space_more c.args.bytes.now c.loop-place.place c.loop-place-test.true (sym c.if-not-is_space.ensures) ∙ c.loop-place.invariant
