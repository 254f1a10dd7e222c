use Rattle.std.proofs.Common.{string_bytes}
use Rattle.wire.specs.declared.reply.Reply.TheVariants.{Notes}
use Rattle.world.proofs.ReadBack.{text_of_reply}
use Rattle.world.proofs.named_room.notes_text.Goals as goal

pub returns : goal.returns
returns c = text_of_reply c.write_reply-text.result string_bytes (Notes c.args.at c.args.notes) (c.requires.at, c.requires.notes) c.write_reply-text.ensures.text c.write_reply-text.ensures.is_read
