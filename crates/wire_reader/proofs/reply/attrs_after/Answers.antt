use Rattle.std.proofs.Common.{refl}
use Rattle.wire_reader.proofs.Maps.{map_same}
use Rattle.wire_reader.proofs.Shown.{attrs_steps}
use Rattle.wire_reader.proofs.Tokens.{failed, passed}
use Rattle.wire_reader.proofs.reply.attrs_after.Goals as goal

pub returns-in_err-attrs : goal.returns-in_err-attrs
returns-in_err-attrs c n h = failed (λ x. x) c.from_residual.result _ _ _ _ c.from_residual.ensures.1 (c.in_err-attrs.ensures n h) (λ none. rw (attrs_steps, none) refl)

pub returns : goal.returns
returns c n h = rw (attrs_steps, c.in_ok-attrs.ensures n h, map_same) (passed (λ x. x) c.attrs_with.result _ _ c.attrs_with.ensures)
