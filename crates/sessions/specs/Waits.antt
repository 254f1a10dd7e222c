-- Which messages may be held until there is news.
use Rattle.std.specs.Prelude.{◌≡◌, ◌⊎◌, Option, Some, None, MatchOption, true}
use Rattle.base_types.specs.Texts.{Bytes}
use Rattle.wire.specs.declared.request.Request.{Request}
use Rattle.wire.specs.declared.request.Request.TheVariants.{Join, Back, Pull}
use Rattle.wire_reader.specs.steps.Reads.{request_read}
use Rattle.scope.specs.Scopes.{allows}
use Rattle.scope.specs.declared.scope.Scope.{Scope}
use Rattle.room_lock.specs.Rooms.{IsOnDemand, RoomsView}
use Rattle.room_lock.specs.Passes.{PassView}
use Rattle.sessions.specs.Sessions.{SessionView}

-- a session that is in a room asks to wait for an entry
abbrev pub IsWaitInRoom : Option PassView → Request → Type 0
IsWaitInRoom (Some pass) (Pull from true) = Unit {0}
IsWaitInRoom _ _ = ⊥

-- the request asks to enter a room that is opened on demand, which the scope allows
abbrev pub AsksToOpen : RoomsView → Scope → Request → Type 0
AsksToOpen rooms scope (Join name) = (allows scope name ≡ true) × IsOnDemand rooms name
AsksToOpen rooms scope (Back name site) = (allows scope name ≡ true) × IsOnDemand rooms name
AsksToOpen rooms scope _ = ⊥

-- the message may be held: a session in a room waits, or one in no room asks to open one
abbrev pub IsWait : RoomsView → SessionView → Bytes → Type 0
IsWait rooms session bytes = MatchOption (request_read bytes) ⊥
    (λ request. IsWaitInRoom session.pass request
    ⊎ ((session.pass ≡ None) × AsksToOpen rooms session.scope request))
