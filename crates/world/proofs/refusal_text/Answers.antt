use Rattle.std.proofs.Common.{string_bytes, refl}
use Rattle.wire.specs.declared.reply.Reply.TheVariants.{No}
use Rattle.world.proofs.ReadBack.{text_of_reply}
use Rattle.world.proofs.refusal_text.Goals as goal

pub returns : goal.returns
returns c = text_of_reply c.write_reply-text.result string_bytes (No 0 c.args.refusal) refl c.write_reply-text.ensures.text c.write_reply-text.ensures.is_read
