use Rattle.std.proofs.Common.{refl}
use Rattle.world.proofs.named_room.plan_outside.Goals as goal

pub returns-in-Back : goal.returns-in-Back
returns-in-Back c = rw (c.in-Back.is, c.of_reply.ensures.reply, c.of_reply.ensures.addition, c.back.ensures, c.has.ensures) ((refl, tt), refl)
