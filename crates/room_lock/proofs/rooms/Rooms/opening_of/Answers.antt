use Rattle.std.proofs.Common.{◌≡◌, List, inl, inr, refl, sym, ap, ◌∙◌, subst, arith}
use Rattle.std.specs.Prelude.{Contains, IsSome}
use Rattle.std.specs.Map.{keys_of}
use Rattle.std.proofs.lemmas.Map.Made.{lookup_key_same}
use Rattle.std.proofs.lemmas.Slice.Eq.{bytes_eq-Decides}
use Rattle.base_types.specs.Texts.{Bytes}
use Rattle.room_lock.specs.InOrder.{IsOpeningFor}
use Rattle.room_lock.specs.Rooms.{RoomsView, Serves}
use Rattle.room_lock.proofs.InOrder.{opening_for, opening_of_other}
use Rattle.room_lock.proofs.Names.{not_among, there_exactly}
use Rattle.room_lock.proofs.rooms.Rooms.opening_of.Goals as goal

pub returns-in-Some-clause-open : goal.returns-in-Some-clause-open
returns-in-Some-clause-open g c =
    let rooms = c.self.inside.rooms.entries in
    let name = c.args.name.now in
    let names : keys_of rooms ≡ c.args.self.now.names = ap (λ (v : RoomsView). v.names) c.self.view_is in
    let exactly = there_exactly (λ p. p.2.now) name rooms c.get_full.result c.get_full.ensures.value in
    let there : Contains c.args.self.now.names name = subst (λ (l : List Bytes). Contains l name) names (exactly.0 (subst IsSome (sym c.in-Some.is) refl)) in
    let key = lookup_key_same bytes_eq-Decides name rooms c.in-Some._name.now (sym c.in-Some.ensures.key) in
    let found = opening_for rooms c.self.invariant.0 c.in-Some._place (c.in-Some._name.now, c.in-Some.room.now) c.in-Some.ensures.entry c.args.self.now names name key (sym c.in-Some.ensures.index) in
    (inl there, subst (IsOpeningFor c.args.self.now name) (sym (c.copy.ensures ∙ c.opening.ensures ∙ c.deref.ensures)) found)

pub returns-in-Some-clause-no_room : goal.returns-in-Some-clause-no_room
returns-in-Some-clause-no_room g c =
    let name = c.args.name.now in
    let names : keys_of c.self.inside.rooms.entries ≡ c.args.self.now.names = ap (λ (v : RoomsView). v.names) c.self.view_is in
    let exactly = there_exactly (λ p. p.2.now) name c.self.inside.rooms.entries c.get_full.result c.get_full.ensures.value in
    let there : Contains c.args.self.now.names name = subst (λ (l : List Bytes). Contains l name) names (exactly.0 (subst IsSome (sym c.in-Some.is) refl)) in
    (λ is serves. absurd (cc is), λ absent. absurd (absent (inl there)))

pub returns-then-not-may_open-clause-no_room : goal.returns-then-not-may_open-clause-no_room
returns-then-not-may_open-clause-no_room g c = (λ is serves. go serves, λ absent. refl)
  where
    go : Serves c.args.self.now c.args.name.now → ⊥
    go (inl there) = not_among (λ p. p.2.now) c.args.name.now c.self.inside.rooms.entries c.get_full.result c.args.self.now.names c.get_full.ensures.value c.in_default.is (ap (λ (v : RoomsView). v.names) c.self.view_is) there
    go (inr offered) = absurd (cc (sym (c.may_open.ensures.1 offered) ∙ c.if-not-may_open.true))

pub returns-in-Some-opening_of-clause-open : goal.returns-in-Some-opening_of-clause-open
returns-in-Some-opening_of-clause-open g c =
    let other = not_among (λ p. p.2.now) c.args.name.now c.self.inside.rooms.entries c.get_full.result c.args.self.now.names c.get_full.ensures.value c.in_default.is (ap (λ (v : RoomsView). v.names) c.self.view_is) in
    (inr (c.may_open.ensures.0 c.if-not-may_open.false), opening_of_other c.args.self.now c.args.name.now c.in-Some-opening_of.opening other c.in-Some-opening_of.ensures)

pub returns-in-None-clause-closed : goal.returns-in-None-clause-closed
returns-in-None-clause-closed g c = λ is.
    let other = not_among (λ p. p.2.now) c.args.name.now c.self.inside.rooms.entries c.get_full.result c.args.self.now.names c.get_full.ensures.value c.in_default.is (ap (λ (v : RoomsView). v.names) c.self.view_is) in
    (other, c.may_open.ensures.0 c.if-not-may_open.false)
