use Rattle.std.proofs.Common.{◌≡◌, ◌++◌, ap, sym, ◌∙◌, slice_get}
use Rattle.rules.specs.declared.history.Entry.TheVariants.{Next}
use Rattle.rules.specs.Records.{sites}
use Rattle.room_core.specs.Room.{Room}
use Rattle.room_core.specs.steps.Plans.{admitted}
use Rattle.room_lock.specs.Sites.{none_or_one}
use Rattle.room_lock.proofs.Answers.{end_stays, own_is, with_entry-entries}
use Rattle.room_lock.proofs.Balance.{kept_with}
use Rattle.room_lock.proofs.Shelves.{shelf_grown}
use Rattle.room_lock.proofs.room.Room.end_by.Goals as goal

pub invariant_of-self-2 : goal.invariant_of-self-2
invariant_of-self-2 g c =
    let old = c.self.inside.state.room in
    let room = c.in_ok-end.ensures.room in
    let end = admitted old (Next c.in-Some.count) in
    let own = c.entry_behind.ensures ∙ ap (λ (r : Room). slice_get r.entries c.len_of-had.result) room ∙ own_is old end c.len_of-had.result c.len_of-had.ensures.len in
    let same : sites c.end.new.self.room.entries ≡ sites old.entries = ap (λ (r : Room). sites r.entries) room ∙ end_stays old c.in-Some.count in
    let grown : old.entries ++ none_or_one end ≡ c.end.new.self.room.entries = sym (ap (λ (r : Room). r.entries) room ∙ with_entry-entries old end) in (
      kept_with g.P.RoomHistories.limits c.self.inside.opening old c.end.new.self.room end
          c.self.inside.account c.add.new.self _ _ c.self.invariant.0 room c.add.ensures.history
          (c.add.ensures.entries ∙ ap (λ o. c.self.inside.account.entries ++ none_or_one o) own)
          (shelf_grown c.self.inside.opening old.entries c.self.inside.shelf.items c.self.invariant.0.shelved c.end.new.self.room.entries (none_or_one end, grown) same),
      c.self.invariant.1,
    )
