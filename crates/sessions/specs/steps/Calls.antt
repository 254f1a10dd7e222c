-- A call by the pass of a session that may be in no room.
use Rattle.std.specs.Prelude.{MatchOption}
use Rattle.rules.specs.declared.limits.LimitValues.{LimitValues}
use Rattle.rules.specs.declared.refusal.Refusal.TheVariants.{NotJoined}
use Rattle.wire.specs.declared.request.Request.{Request}
use Rattle.room_lock.specs.Passes.{PassView}
use Rattle.room_lock.specs.Calls.{IsCall}
use Rattle.sessions.specs.Sessions.{SessionTurn}
use Rattle.sessions.specs.Entering.{HasPass, IsRefused}

abbrev pub IsCallIf : LimitValues → Request → SessionTurn → Type 0
IsCallIf limits request turn =
    MatchOption turn.old.pass (IsRefused NotJoined turn)
    (λ was. (now : PassView) × IsCall limits was now request turn.reply × HasPass now turn)
