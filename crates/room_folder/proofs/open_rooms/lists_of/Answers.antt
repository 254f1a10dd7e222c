use Rattle.std.proofs.Common.{◌≡◌, [], ◌∷◌, ◌++◌, sym, ap, ◌∙◌, append_assoc}
use Rattle.room_folder.proofs.Lists.{lists_push}
use Rattle.room_folder.proofs.open_rooms.lists_of.Goals as goal

pub loop-room-preserved : goal.loop-room-preserved
loop-room-preserved c =
    let inv = c.loop-room.invariant in
    let rest = append_assoc c.loop-room.yielded (c.in-Some.room ∷ []) c.next.new.self.rest.items ∙ ap (λ l. c.loop-room.yielded ++ l) (sym c.in-Some.ensures.steps.0) ∙ inv.2 in
    let lists = lists_push c.loop-room.yielded _ _ _ _ _ _ c.in-Some.room inv.3 c.in_ok-push.ensures.items c.in_ok-push-2.ensures.items c.in_ok-push-3.ensures.items in
    (tt, tt, rest, lists)
