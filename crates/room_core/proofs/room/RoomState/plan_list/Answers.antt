use Rattle.std.proofs.Common.{◌≤◌, cond, length, sym, ap, ◌∙◌, arith}
use Rattle.std.proofs.lemmas.Bool.{le-ltb}
use Rattle.rules.specs.declared.refusal.Refusal.TheVariants.{TooFar}
use Rattle.rules.specs.Records.{objects}
use Rattle.wire.specs.declared.reply.Reply.{Reply}
use Rattle.wire.specs.declared.reply.Reply.TheVariants.{No, Objects}
use Rattle.drawing.specs.Room.{all_objects}
use Rattle.drawing.specs.steps.State.{DrawingState}
use Rattle.room_core.specs.Answers.{list_reply, page}
use Rattle.room_core.proofs.room.RoomState.plan_list.Goals as goal

pub returns-clause-reply : goal.returns-clause-reply
returns-clause-reply c =
    let room = c.self.inside.drawing.room in
    let total = length (objects room.entries) in
    let within : c.args.from ≤ total = omega (arith, c.count_objects-total.ensures, c.if-from-total.false) in
    let reply : Reply = Objects (length room.entries) c.args.from total (page room c.args.from (all_objects room.entries)) in
    c.of_reply.ensures.reply
    ∙ (λ i. Objects (c.len.ensures.len i) c.args.from (c.count_objects-total.ensures i) (c.in_ok-page.ensures i))
    ∙ sym (ap (λ b. cond b (No (length room.entries) TooFar) reply) (le-ltb total c.args.from within))
    ∙ ap (λ (s : DrawingState). list_reply s.room c.args.from) c.self.view_is
