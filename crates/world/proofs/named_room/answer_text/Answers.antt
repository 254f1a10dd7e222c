use Rattle.std.proofs.Common.{string_bytes}
use Rattle.world.proofs.ReadBack.{read_back}
use Rattle.world.proofs.named_room.answer_text.Goals as goal

pub returns-clause-ok : goal.returns-clause-ok
returns-clause-ok c = record {
  is_text = rw c.reply-reply.ensures at c.in_ok-text.ensures.text;
  is_read = read_back (string_bytes c.in_ok-text.text) c.args.planned.now.reply c.requires (rw c.reply-reply.ensures at c.in_ok-text.ensures.is_read);
  moves = rw c.reply-reply.ensures at c.in_ok-move_seat.ensures.ok;
}
