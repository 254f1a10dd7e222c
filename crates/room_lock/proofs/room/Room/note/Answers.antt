use Rattle.std.proofs.Common.{◌≡◌, true, sym, ap, ◌∙◌}
use Rattle.room_lock.specs.steps.Kept.{RoomView}
use Rattle.room_lock.specs.Shelves.{is_away}
use Rattle.room_lock.proofs.NotesOfSites.{noted_after}
use Rattle.room_lock.proofs.room.Room.note.Goals as goal

pub invariant_of-self-2 : goal.invariant_of-self-2
invariant_of-self-2 g c =
    let site = c.pass-inside.inside.0.0.site in
    let away : is_away c.self.inside.shelf.items site ≡ true = ap (λ (v : RoomView). is_away v.shelf site) c.self.view_is ∙ sym c.is_away.ensures ∙ c.if-not-is_away.false in
    (c.self.invariant.0, noted_after c.self.inside.shelf.items c.self.inside.notes c.carry_out.new.self site c.args.request away c.in_ok-carry_out.ensures.ok c.self.invariant.1)

pub invariant_of-self-3 : goal.invariant_of-self-3
invariant_of-self-3 g c =
    let site = c.pass-inside.inside.0.0.site in
    let away : is_away c.self.inside.shelf.items site ≡ true = ap (λ (v : RoomView). is_away v.shelf site) c.self.view_is ∙ sym c.is_away.ensures ∙ c.if-not-is_away.false in
    (c.self.invariant.0, noted_after c.self.inside.shelf.items c.self.inside.notes c.carry_out.new.self site c.args.request away c.in_ok-carry_out.ensures.ok c.self.invariant.1)
