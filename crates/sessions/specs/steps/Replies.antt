-- What a session's reply makes of a message.
use Rattle.sessions.specs.declared.session_reply.SessionReply.{SessionReply}
use Rattle.sessions.specs.Sessions.{SessionTurn, SessionView}

module _ {P : Type 0} where
  abbrev pub turn_of : SessionView → SessionView → SessionReply P → SessionTurn
  turn_of old new answer =
      record { old = old; new = new; reported = answer.reported; reply = answer.reply }
