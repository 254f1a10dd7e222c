-- How a session enters a room, or does not.
use Rattle.std.specs.Prelude.{◌≡◌, ◌⊎◌, ℕ, Bool, List, Option, Some, None, true}
use Rattle.base_types.specs.Texts.{Bytes}
use Rattle.rules.specs.declared.history.Entry.{Entry}
use Rattle.rules.specs.declared.refusal.Refusal.{Refusal}
use Rattle.rules.specs.declared.refusal.Refusal.TheVariants.{NoSuchRoom, NotServed}
use Rattle.wire.specs.declared.reply.Reply.{Reply}
use Rattle.wire.specs.declared.reply.Reply.TheVariants.{No, Renewed}
use Rattle.scope.specs.Scopes.{allows}
use Rattle.scope.specs.declared.scope.Scope.{Scope}
use Rattle.openings.specs.Openings.{OpeningView}
use Rattle.room_lock.specs.InOrder.{IsOpeningFor}
use Rattle.room_lock.specs.Rooms.{IsOnDemand, RoomsView, Serves}
use Rattle.room_lock.specs.Passes.{PassView, PrefixView, prefix_of}
use Rattle.room_lock.specs.Calls.{IsBack, IsBackRefusalOver, IsJoin, IsRefusalOver}
use Rattle.keeper.specs.Chains.{IsLater}
use Rattle.sessions.specs.Sessions.{HostView, SessionTurn}

-- the session has this pass then, and the reply reports on all that the pass has seen
abbrev pub HasPass : PassView → SessionTurn → Type 0
HasPass pass turn = (turn.reported ≡ Some (prefix_of pass.part)) × (turn.new.pass ≡ Some pass)

-- the session itself replies so, reports on no room, and has this pass then
abbrev pub IsOwnReply : Reply → Option PassView → SessionTurn → Type 0
IsOwnReply reply pass turn =
    (turn.reply ≡ reply) × (turn.reported ≡ None) × (turn.new.pass ≡ pass)

-- the session itself refuses, and is unchanged
abbrev pub IsRefused : Refusal → SessionTurn → Type 0
IsRefused refusal turn = IsOwnReply (No 0 refusal) turn.old.pass turn

-- the session may enter the room of this name, and there is one
abbrev pub MayEnter : Scope → RoomsView → Bytes → Type 0
MayEnter scope rooms name = (allows scope name ≡ true) × Serves rooms name

-- a new site joins the room, which is permitted
abbrev pub IsPermittedJoin : HostView → PassView → Reply → Type 0
IsPermittedJoin host pass reply =
    IsJoin host.limits pass reply × host.permitted pass.part.opening.number

-- a site was let in: the session has its pass, of the room of this name, which it may enter
abbrev pub IsLetIn : (PassView → Reply → Type 0) → RoomsView → Bytes → SessionTurn → Type 0
IsLetIn Holds rooms name turn =
    (pass : PassView) × Holds pass turn.reply × (allows turn.old.scope name ≡ true)
    × (pass.room ≡ name) × IsOpeningFor rooms name pass.part.opening × HasPass pass turn

-- No site was let in: the room of this name refused, and the reply reports on its record at that
-- time; or the session may not enter it, or there is none, of which it is not told which.
pub record IsTurnedAway
    (Holds : List Entry → Reply → Type 0) (rooms : RoomsView) (name : Bytes) (turn : SessionTurn)
    : Type 0 where
  pub known : MayEnter turn.old.scope rooms name
      → (then : PrefixView) × Holds then.entries turn.reply
      × IsOpeningFor rooms name then.opening × (turn.reported ≡ Some then)
  pub unknown : ¬ (MayEnter turn.old.scope rooms name) → IsOwnReply (No 0 NoSuchRoom) None turn
  pub same : turn.new.pass ≡ None

-- the session may enter the room of this name, which is on demand or denied, and not served now
abbrev pub IsNotServed : (ℕ → Type 0) → RoomsView → Bytes → SessionTurn → Type 0
IsNotServed denied rooms name turn = (allows turn.old.scope name ≡ true)
    × (IsOnDemand rooms name
    ⊎ ((opening : OpeningView) × IsOpeningFor rooms name opening × denied opening.number))
    × IsOwnReply (No 0 NotServed) None turn

-- the session may enter the room of this name, but is told of a later room of its chain
abbrev pub IsSentOn : Bytes → SessionTurn → Type 0
IsSentOn name turn = (later : Bytes) × IsLater name later
    × (allows turn.old.scope name ≡ true) × IsOwnReply (Renewed 0 later) None turn

abbrev pub IsEntering : (PassView → Reply → Type 0) → (List Entry → Reply → Type 0) → (ℕ → Type 0)
    → RoomsView → Bytes → SessionTurn → Type 0
IsEntering Enters Refuses denied rooms name turn =
    IsLetIn Enters rooms name turn ⊎ IsTurnedAway Refuses rooms name turn
    ⊎ IsNotServed denied rooms name turn ⊎ IsSentOn name turn

abbrev pub IsJoinBy : HostView → Bytes → SessionTurn → Type 0
IsJoinBy host name =
    IsEntering (IsPermittedJoin host) (IsRefusalOver host.limits) host.denied host.rooms name

-- a coming back as a site, which no keeper denies
abbrev pub IsBackBy : HostView → Bytes → ℕ → SessionTurn → Type 0
IsBackBy host name site = IsEntering (IsBack host.limits site)
    (λ r reply. (in_use : Bool) × IsBackRefusalOver host.limits r site in_use reply)
    (λ number. ⊥) host.rooms name
