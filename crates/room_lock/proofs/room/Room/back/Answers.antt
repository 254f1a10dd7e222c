use Rattle.std.proofs.Common.{◌≡◌, List, Some, arith, ap, sym, ◌∙◌, subst, false}
use Rattle.std.proofs.lemmas.Bool.{and_from, le-leb}
use mathlib.Core.List.{IsPrefix}
use Rattle.rules.specs.declared.history.Entry.{Entry}
use Rattle.rules.specs.declared.limits.LimitValues.{LimitValues}
use Rattle.rules.specs.Records.{IsLegal}
use Rattle.room_core.specs.Answers.{back_reply}
use Rattle.room_lock.specs.steps.Entrances.{IfEntered}
use Rattle.room_lock.specs.Passes.{PartView, PassView}
use Rattle.room_lock.specs.Shelves.{Shelf, part_of}
use Rattle.room_lock.specs.steps.Kept.{IsRoomKept, RoomView}
use Rattle.room_lock.specs.Shelves.{AreOfSitesIn}
use Rattle.room_lock.specs.Calls.{IsBackOver}
use Rattle.room_lock.proofs.Answers.{count_of_front}
use Rattle.room_lock.proofs.Balance.{with_shelf}
use Rattle.room_lock.proofs.Replies.{room_is}
use Rattle.room_lock.proofs.NotesOfSites.{noted_taken}
use Rattle.room_lock.proofs.Shelves.{shelf_taken, within}
use Rattle.room_lock.proofs.room.Room.back.Goals as goal
use Rattle.room_lock.proofs.room.Room.back.Goals.{in-Some-take_part, in-None}

pub invariant_of-part : goal.invariant_of-part
invariant_of-part g c =
    let part = c.in-Some-take_part.part in
    let kept = c.self.invariant.0.shelved.parts c.args.site part (sym c.in-Some-take_part.ensures.part) in
    let now = ap (λ v. v.entries) c.prefix.ensures in
    let begins = subst (λ (l : List Entry). IsPrefix l c.prefix.result.entries) (sym (ap (λ v. v.seen) c.part.view_is)) (subst (λ (l : List Entry). IsPrefix part.seen l) (sym now) kept.2) in
    let more = count_of_front c.part.inside.site c.part.inside.seen.entries c.prefix.result.entries begins in
    omega (arith, c.part.invariant, more)

pub invariant_of-self : goal.invariant_of-self
invariant_of-self g c =
    let old = c.self.invariant.0 in
    let opening = c.self.inside.opening in
    let room = c.self.inside.state.room in
    let P : Shelf → Type 0 = IsRoomKept g.P.RoomHistories.limits opening room c.self.inside.account in (
      subst P (sym c.take_part.ensures.rest) (with_shelf _ opening room c.self.inside.account _ _ old (shelf_taken opening room.entries c.self.inside.shelf.items old.shelved c.args.site)),
      subst (λ (shelf : Shelf). AreOfSitesIn shelf c.self.inside.notes) (sym c.take_part.ensures.rest) (noted_taken c.self.inside.shelf.items c.self.inside.notes c.args.site c.self.invariant.1),
    )

pub invariant_of-self-in-None : goal.invariant_of-self-in-None
invariant_of-self-in-None g c =
    let old = c.self.invariant.0 in
    let opening = c.self.inside.opening in
    let room = c.self.inside.state.room in
    let P : Shelf → Type 0 = IsRoomKept g.P.RoomHistories.limits opening room c.self.inside.account in (
      subst P (sym c.take_part.ensures.rest) (with_shelf _ opening room c.self.inside.account _ _ old (shelf_taken opening room.entries c.self.inside.shelf.items old.shelved c.args.site)),
      subst (λ (shelf : Shelf). AreOfSitesIn shelf c.self.inside.notes) (sym c.take_part.ensures.rest) (noted_taken c.self.inside.shelf.items c.self.inside.notes c.args.site c.self.invariant.1),
    )

pub invariant_of-self-2 : goal.invariant_of-self-2
invariant_of-self-2 g c =
    let old = c.self.invariant.0 in
    let opening = c.self.inside.opening in
    let room = c.self.inside.state.room in
    let P : Shelf → Type 0 = IsRoomKept g.P.RoomHistories.limits opening room c.self.inside.account in (
      subst P (sym c.take_part.ensures.rest) (with_shelf _ opening room c.self.inside.account _ _ old (shelf_taken opening room.entries c.self.inside.shelf.items old.shelved c.args.site)),
      subst (λ (shelf : Shelf). AreOfSitesIn shelf c.self.inside.notes) (sym c.take_part.ensures.rest) (noted_taken c.self.inside.shelf.items c.self.inside.notes c.args.site c.self.invariant.1),
    )

pub returns-clause-entered : goal.returns-clause-entered
returns-clause-entered g c =
    let r = c.self.inside.state.room.entries in
    let limits = g.P.RoomHistories.limits in
    let P : RoomView → PassView → _ → Type 0 = λ room pass reply. (x : PartView) × (part_of room.shelf c.args.site ≡ Some x) × IsBackOver limits room.entries c.args.site x pass reply × (pass.room ≡ room.opening.room.name) in
    elim c.match-take_part.branch [
      | in-Some-take_part w ↦
          (let part = w.in-Some-take_part.part in
          let kept = c.self.invariant.0.shelved.parts c.args.site part (sym w.in-Some-take_part.ensures.part) in
          let found = within c.self.inside.shelf.items c.args.site part (sym w.in-Some-take_part.ensures.part) in
          let counted = c.self.invariant.0.shelved.counted in
          let pass : PassView = record { room = w.prefix.result.opening.room.name; part = record { opening = w.prefix.result.opening; site = w.part.inside.site; seen = w.prefix.result.entries; added = w.part.inside.added } } in
          let back : IsBackOver limits r c.args.site part pass w.back-reply.result = record {
            joined = and_from _ _ (le-leb 1 c.args.site found.0) (le-leb c.args.site _ (omega (arith, found.1, counted)));
            reply_is = w.back-reply.ensures ∙ ap (λ room. back_reply room false c.args.site) (room_is limits c.self.inside.state.room c.self.invariant.0.limits_are);
            was_of = kept.1;
            begins = kept.2;
            part_is = λ i. record { opening = (ap (λ v. v.opening) w.prefix.ensures ∙ sym kept.0) i; site = (w.part.view_is i).site; seen = (w.prefix.ensures i).entries; added = (w.part.view_is i).added };
            legal = subst (λ (l : LimitValues). IsLegal l r) c.self.invariant.0.limits_are c.len_of-entries.ensures.legal;
          } in
          let here : P (record { opening = c.self.inside.opening; entries = r; shelf = c.self.inside.shelf.items; notes = c.self.inside.notes }) pass w.back-reply.result =
          (part, sym w.in-Some-take_part.ensures.part, back, ap (λ v. v.opening.room.name) w.prefix.ensures) in
          subst (IfEntered (P c.args.self.now)) (sym w.result-is) (subst (λ (room : RoomView). P room pass w.back-reply.result) c.self.view_is here))
      | in-None w ↦ subst (IfEntered (P c.args.self.now)) (sym w.result-is) tt
    ]
