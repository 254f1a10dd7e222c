-- What a session is after an entrance.
use Rattle.std.proofs.Common.{◌≡◌, ◌<◌, ℕ, Bool, cond, nat_lt, arith, inl, inr, true, false, is_some, List, length, Option, None, Some, refl, sym, subst, ◌∙◌}
use Rattle.std.specs.Prelude.{◌≤◌, Contains, IfSome, MatchOption, bytes_eq, position}
use Rattle.std.specs.List.{position_or_len}
use Rattle.std.proofs.lemmas.Bool.Decides.{nat_tests}
use Rattle.base_types.specs.Texts.{Bytes}
use Rattle.rules.specs.declared.history.Entry.{Entry}
use Rattle.rules.specs.declared.limits.LimitValues.{LimitValues}
use Rattle.wire.specs.declared.reply.Reply.{Reply}
use Rattle.wire.specs.declared.reply.Reply.TheVariants.{Renewed}
use Rattle.keeper.specs.Chains.{IsLater}
use Rattle.wire.specs.declared.request.Request.{Request}
use Rattle.wire.specs.declared.request.Request.TheVariants.{Join, Back}
use Rattle.scope.specs.Scopes.{allows}
use Rattle.scope.specs.declared.scope.Scope.{Scope}
use Rattle.openings.specs.Openings.{OpeningView}
use Rattle.room_lock.specs.declared.entrance.Entrance.{Entrance}
use Rattle.room_lock.specs.declared.entrance.Entrance.TheVariants.{Entered, Refused, InUse, NoRoom}
use Rattle.room_lock.specs.steps.Entrances.{IfEntered, IfInUse, IfRefused}
use Rattle.room_lock.specs.InOrder.{IsOpeningFor}
use Rattle.room_lock.specs.Passes.{PassView, PrefixView}
use Rattle.room_lock.specs.steps.Views.{InUseView}
use Rattle.room_lock.specs.Rooms.{IsOffered, IsOnDemand, RoomsView, Serves}
use Rattle.room_lock.specs.Calls.{IsBack, IsBackRefusalOver, IsJoin, IsRefusalOver}
use Rattle.sessions.specs.Sessions.{HostView, SessionTurn}
use Rattle.sessions.specs.steps.Entrances.{IsAfter}
use Rattle.sessions.specs.Entering.{IsEntering, IsPermittedJoin, MayEnter}
use Rattle.sessions.specs.Turns.{IsAnswer, IsAnswerInside, IsAnswerOutside}

-- the room refuses a coming back as a site, as one in use or as one that has not joined
abbrev pub IsBackRefusal : LimitValues → ℕ → List Entry → Reply → Type 0
IsBackRefusal limits site r reply = (in_use : Bool) × IsBackRefusalOver limits r site in_use reply

-- the place of a name is one of the places
found_within : (n len k : ℕ) (b : Bool) → nat_lt n len ≡ b → cond b (Some n) None ≡ Some k → k < len
found_within n len k true within some =
    let same : n ≡ k = cc some in
    let less : n < len = grind (arith, nat_tests) in
    subst (λ j. j < len) same less
found_within n len k false within some = absurd (cc some)

place_bound : (p : Bytes → Bool) (names : List Bytes) (k : ℕ) → position p names ≡ Some k → k < length names
place_bound p names k = found_within (position_or_len p names) (length names) k (nat_lt (position_or_len p names) (length names)) refl

-- what follows from a refusal holds where that does
pub if_refused_so : {P : Type 0} (Is So : PrefixView → Reply → Type 0) (went : Entrance P)
    → ((prefix : PrefixView) (reply : Reply) → Is prefix reply → So prefix reply) → IfRefused Is went → IfRefused So went
if_refused_so Is So (Entered pass reply) so holds = tt
if_refused_so Is So (Refused prefix reply) so holds = so prefix reply holds
if_refused_so Is So (InUse it reply) so holds = tt
if_refused_so Is So NoRoom so holds = tt

pub if_in_use_so : {P : Type 0} (Is So : InUseView → Reply → Type 0) (went : Entrance P)
    → ((it : InUseView) (reply : Reply) → Is it reply → So it reply) → IfInUse Is went → IfInUse So went
if_in_use_so Is So (Entered pass reply) so holds = tt
if_in_use_so Is So (Refused prefix reply) so holds = tt
if_in_use_so Is So (InUse it reply) so holds = so it reply holds
if_in_use_so Is So NoRoom so holds = tt

module _ (rooms : RoomsView) (opening : OpeningView) (Enters : PassView → Reply → Type 0) (Refuses : List Entry → Reply → Type 0) where
  -- what `Rooms::join` and `back` say of an entrance by this opening
  pub record IsEntrance {P : Type 0} (went : Entrance P) : Type 0 where
    pub entered : IfEntered (λ pass reply. Enters pass reply × (pass.room ≡ opening.room.name)) went
    pub refused : IfRefused (λ prefix reply. Refuses prefix.entries reply) went
    pub in_use : IfInUse (λ it reply. Refuses it.prefix.entries reply) went
    pub no_room : went ≡ NoRoom → length rooms.names ≤ opening.number
    pub pass_opening : IfEntered (λ pass reply. pass.part.opening ≡ opening) went
    pub refusal_opening : IfRefused (λ prefix reply. prefix.opening ≡ opening) went
    pub in_use_opening : IfInUse (λ it reply. it.prefix.opening ≡ opening) went

  -- what is not among the openings of the start is of a room on demand
  on_demand : (scope : Scope) (name : Bytes) → MayEnter scope rooms name → IsOpeningFor rooms name opening → length rooms.names ≤ opening.number → IsOnDemand rooms name
  on_demand scope name may at past = (other, served may.1)
    where
      other : Contains rooms.names name → ⊥
      other there = (let within = place_bound (bytes_eq name) rooms.names opening.number (at.number_is there) in omega (arith, within, past))

      served : Serves rooms name → IsOffered rooms name
      served (inl there) = absurd (other there)
      served (inr some) = some

  -- The pass of who was let in is the session's, and who was not is in no room.
  pub told_after : {P : Type 0} (denied : ℕ → Type 0) (name : Bytes) (turn : SessionTurn) (went : Entrance P)
      → MayEnter turn.old.scope rooms name → IsOpeningFor rooms name opening → IsEntrance went → IsAfter went turn.new.pass turn.reported turn.reply
      → IsEntering Enters Refuses denied rooms name turn
  told_after denied name turn (Entered pass it) may at is after =
      inl (pass, subst (λ r. Enters pass r) (sym after.0) is.entered.0, may.0, is.entered.1 ∙ at.name_is, subst (IsOpeningFor rooms name) (sym is.pass_opening) at, (after.1, after.2))
  told_after denied name turn (Refused prefix it) may at is after =
      inr (inl (record {
        known = λ there. (prefix, subst (λ r. Refuses prefix.entries r) (sym after.0) is.refused, subst (IsOpeningFor rooms name) (sym is.refusal_opening) at, after.1);
        unknown = λ absent. absurd (absent may);
        same = after.2;
      }))
  told_after denied name turn (InUse it answer) may at is after =
      inr (inl (record {
        known = λ there. (it.prefix, subst (λ r. Refuses it.prefix.entries r) (sym after.0) is.in_use, subst (IsOpeningFor rooms name) (sym is.in_use_opening) at, after.1);
        unknown = λ absent. absurd (absent may);
        same = after.2;
      }))
  told_after denied name turn NoRoom may at is after =
      inr (inr (inl (may.0, inl (on_demand turn.old.scope name may at (is.no_room refl)), after)))

none_of : {A : Type 0} (o : Option A) → is_some o ≡ false → o ≡ None
none_of None is = refl
none_of (Some x) is = absurd (cc is)

-- who is let in is let into a room that is permitted
pub entered_permitted : {P : Type 0} (host : HostView) (opening : OpeningView) (went : Entrance P)
    → host.permitted opening.number
    → IfEntered (λ pass reply. IsJoin host.limits pass reply × (pass.room ≡ opening.room.name)) went → IfEntered (λ pass reply. pass.part.opening ≡ opening) went
    → IfEntered (λ pass reply. IsPermittedJoin host pass reply × (pass.room ≡ opening.room.name)) went
entered_permitted host opening (Entered pass reply) may is at = ((is.0, subst (λ (o : OpeningView). host.permitted o.number) (sym at) may), is.1)
entered_permitted host opening (Refused prefix reply) may is at = tt
entered_permitted host opening (InUse it reply) may is at = tt
entered_permitted host opening NoRoom may is at = tt

-- a permit that was given
pub given_permit : {Permit : Type 0} (permits : Permit → ℕ → Type 0) (number : ℕ) (found : Option Permit) → is_some found ≡ true
    → IfSome found (λ permit. permits permit number) → (permit : Permit) × permits permit number
given_permit permits number None is holds = absurd (cc is)
given_permit permits number (Some permit) is holds = (permit, holds)

module _ (host : HostView) (name : Bytes) (turn : SessionTurn) (none : is_some turn.old.pass ≡ false) where
  -- what comes of a session in no room
  outside : (request : Request) → IsAnswerOutside host request turn → IsAnswer host request turn
  outside request =
      subst (λ (pass : Option PassView). MatchOption pass (IsAnswerOutside host request turn) (λ was. IsAnswerInside host.limits was request turn))
      (sym (none_of turn.old.pass none))

  -- an entrance answers a session in no room
  pub join_answered : {P : Type 0} (opening : OpeningView) (went : Entrance P) → MayEnter turn.old.scope host.rooms name → IsOpeningFor host.rooms name opening
      → IsEntrance host.rooms opening (IsPermittedJoin host) (IsRefusalOver host.limits) went → IsAfter went turn.new.pass turn.reported turn.reply → IsAnswer host (Join name) turn
  join_answered opening went may at is after =
      outside (Join name) (told_after host.rooms opening (IsPermittedJoin host) (IsRefusalOver host.limits) host.denied name turn went may at is after)

  pub back_answered : {P : Type 0} (site : ℕ) (opening : OpeningView) (went : Entrance P) → MayEnter turn.old.scope host.rooms name → IsOpeningFor host.rooms name opening
      → IsEntrance host.rooms opening (IsBack host.limits site) (IsBackRefusal host.limits site) went → IsAfter went turn.new.pass turn.reported turn.reply → IsAnswer host (Back name site) turn
  back_answered site opening went may at is after =
      outside (Back name site) (told_after host.rooms opening (IsBack host.limits site) (IsBackRefusal host.limits site) (λ number. ⊥) name turn went may at is after)

  -- the chain of the room goes on elsewhere
  pub back_sent_on : (site : ℕ) (later : Bytes) → IsLater name later → allows turn.old.scope name ≡ true → turn.reply ≡ Renewed 0 later → turn.reported ≡ None → turn.new.pass ≡ turn.old.pass
      → IsAnswer host (Back name site) turn
  back_sent_on site later is may reply reported same = outside (Back name site) (inr (inr (inr (later, is, may, (reply, reported, same ∙ none_of turn.old.pass none)))))
