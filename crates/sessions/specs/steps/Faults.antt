-- What holds when a message is not answered, and when what an answer reports is not kept.
use Rattle.std.specs.Prelude.{◌≡◌}
use Rattle.base_types.specs.Texts.{Bytes}
use Rattle.connection.specs.declared.end.End.{End}
use Rattle.keeper.specs.declared.keeper.KeepFault.{KeepFault}
use Rattle.room_lock.specs.Passes.{PrefixView}
use Rattle.sessions.specs.declared.cause.MessageFault.{MessageFault}
use Rattle.sessions.specs.declared.cause.MessageFault.TheVariants.{Torn}
use Rattle.sessions.specs.Sessions.{HostView, SessionView}
use Rattle.sessions.specs.Turns.{MayStand}
use Rattle.sessions.specs.steps.Causes.{end_of_keep_fault, end_of_message_fault}

-- The message is not answered. The call of the rooms may stand, unless the session is torn.
abbrev pub IsMessageFault : HostView → SessionView → SessionView → Bytes → End → Type 0
IsMessageFault host old new bytes end =
    (fault : MessageFault) × (end ≡ end_of_message_fault fault) × MayStand host old new bytes
    × (fault ≡ Torn → new ≡ old)

-- the keeper failed so to keep this prefix of a record
abbrev pub IsNotKept : (KeepFault → PrefixView → Type 0) → PrefixView → End → Type 0
IsNotKept fails reported end =
    (fault : KeepFault) × (end ≡ end_of_keep_fault fault) × fails fault reported
