use Rattle.std.proofs.Common.{◌≡◌, ℕ, Some, None, true, cond, List, length, arith, ap, sym, ◌∙◌, subst, refl}
use Rattle.std.specs.Prelude.{IsNone}
use Rattle.std.proofs.lemmas.Bool.{and_from, and_parts, le-leb, leb-true}
use Rattle.rules.specs.declared.history.Entry.{Entry}
use Rattle.rules.specs.declared.limits.LimitValues.{LimitValues}
use Rattle.rules.specs.Records.{IsLegal, sites}
use Rattle.wire.specs.declared.request.Request.TheVariants.{Leave}
use Rattle.wire.specs.declared.reply.Reply.{Reply}
use Rattle.wire.specs.declared.reply.Reply.TheVariants.{Left, No}
use Rattle.rules.specs.declared.refusal.Refusal.TheVariants.{NotJoined}
use Rattle.room_core.specs.Room.{room_of, Room}
use Rattle.room_core.specs.Answers.{answer, has_site, site_answer, reply_alone}
use Rattle.room_lock.specs.Passes.{PartView}
use Rattle.room_lock.specs.steps.Kept.{IsRoomKept}
use Rattle.room_lock.specs.Shelves.{AreOfSitesIn}
use Rattle.room_lock.specs.Shelves.{Shelf, IsShelfOf}
use Rattle.room_lock.specs.Calls.{IsLeaveOver}
use Rattle.room_lock.proofs.Balance.{with_shelf}
use Rattle.room_lock.proofs.Fronts.{seen_begins}
use Rattle.wire.specs.Notes.{with_note}
use Rattle.notes.specs.Notes.{notes_at}
use Rattle.room_lock.proofs.NotesOfSites.{noted_put}
use Rattle.room_lock.proofs.Shelves.{shelf_put}
use Rattle.room_lock.proofs.room.Room.hand_back.Goals as goal

-- the answer to a leave of a site that has joined
left_by : (room : Room) (site : ℕ) → has_site room site ≡ true → (answer room site Leave).0 ≡ Left (length room.entries)
unfolding answer
left_by room site has = ap (λ b. (cond b (site_answer room site Leave) (reply_alone (No 0 NotJoined))).0) has

pub overflow_cast-at : goal.overflow_cast-at
overflow_cast-at g c = omega (arith, c.len_of-at.ensures.len, c.len_of-at.ensures.short)

pub invariant_of-self : goal.invariant_of-self
invariant_of-self g c =
    let old = c.self.invariant.0 in
    let r = c.self.inside.state.room.entries in
    let part = c.pass.inside.part in
    let begins = seen_begins part.seen _ _ r refl (ap (λ v. v.entries) c.seen.ensures) (ap (λ v. v.entries) c.self.view_is) (c.torn_place.ensures.begins (subst IsNone (sym c.in_default.is) refl)) in
    let opening : part.opening ≡ c.self.inside.opening = ap (λ v. v.part.opening) c.pass.view_is ∙ c.requires ∙ sym (ap (λ v. v.opening) c.self.view_is) in
    let P : Shelf → Type 0 = IsRoomKept g.P.RoomHistories.limits c.self.inside.opening c.self.inside.state.room c.self.inside.account in
    let kept = with_shelf _ c.self.inside.opening c.self.inside.state.room c.self.inside.account _ _ old (shelf_put c.self.inside.opening r c.self.inside.shelf.items old.shelved part opening begins) in
    let removed = c.remove.ensures ∙ ap (λ site. with_note site None (notes_at c.self.inside.notes)) (ap (λ v. v.site) c.part.view_is) in (
      subst P (sym c.in-Ok.ensures.put) kept,
      subst (λ (shelf : Shelf). AreOfSitesIn shelf c.remove.new.self) (sym c.in-Ok.ensures.put)
          (noted_put c.self.inside.shelf.items c.self.inside.notes c.remove.new.self part.site (Some part) removed c.self.invariant.1),
    )

pub returns-in-Ok-clause-answer : goal.returns-in-Ok-clause-answer
returns-in-Ok-clause-answer g c =
    let r = c.self.inside.state.room.entries in
    let limits = g.P.RoomHistories.limits in
    let part = c.pass.inside.part in
    let begins = seen_begins part.seen _ _ r refl (ap (λ v. v.entries) c.seen.ensures) (ap (λ v. v.entries) c.self.view_is) (c.torn_place.ensures.begins (subst IsNone (sym c.in_default.is) refl)) in
    let at : c.len_of-at.result ≡ length r = c.len_of-at.ensures.len in
    let away = and_parts _ _ (and_parts _ _ c.in-Ok.ensures.away).0 in
    let most = leb-true part.site (length c.self.inside.shelf.items) away.1 in
    let has : has_site (room_of limits r) part.site ≡ true = and_from _ _ away.0 (le-leb part.site (sites r) (omega (arith, most, c.self.invariant.0.shelved.counted))) in
    let here : IsLeaveOver limits r part (Left c.len_of-at.result) = record {
      begins = begins;
      reply_is = ap Left at ∙ sym (left_by (room_of limits r) part.site has);
      legal = subst (λ (l : LimitValues). IsLegal l r) c.self.invariant.0.limits_are c.len_of-at.ensures.legal;
    } in
    subst (λ (p : PartView). IsLeaveOver limits c.args.self.now.entries p (Left c.len_of-at.result)) (ap (λ v. v.part) c.pass.view_is)
    (subst (λ (l : List Entry). IsLeaveOver limits l part (Left c.len_of-at.result)) (ap (λ v. v.entries) c.self.view_is) here)
