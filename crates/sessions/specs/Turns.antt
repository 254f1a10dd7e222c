-- The promise of the server: one message of a session, and its reply.
use Rattle.std.specs.Prelude.{◌≡◌, ◌⊎◌, List, Option, Some, None, MatchOption, ℕ}
use Rattle.base_types.specs.Texts.{Bytes}
use Rattle.rules.specs.declared.limits.LimitValues.{LimitValues}
use Rattle.rules.specs.declared.refusal.Refusal.TheVariants.{BadMessage, NotJoined, AlreadyJoined}
use Rattle.wire.specs.declared.request.Request.{Request}
use Rattle.wire.specs.declared.request.Request.TheVariants.{Join, Back, Leave}
use Rattle.wire.specs.declared.reply.Reply.{Reply}
use Rattle.wire.specs.Texts.{reply_text}
use Rattle.wire_reader.specs.steps.Reads.{request_read, note_request_read}
use Rattle.room_lock.specs.Passes.{PassView, PrefixView}
use Rattle.room_lock.specs.Calls.{IsCall, IsLeaveOver, IsNotesCall}
use Rattle.sessions.specs.Sessions.{HostView, SessionTurn, SessionView}
use Rattle.sessions.specs.Entering.{IsBackBy, HasPass, IsJoinBy, IsRefused}

-- The answer to a request of a session that is in a room: it cannot enter another. A leave hands
-- its pass back, and reports on the record at that time. All else is a call by the pass it keeps.
abbrev pub IsAnswerInside : LimitValues → PassView → Request → SessionTurn → Type 0
IsAnswerInside limits was (Join name) turn = IsRefused AlreadyJoined turn
IsAnswerInside limits was (Back name site) turn = IsRefused AlreadyJoined turn
IsAnswerInside limits was Leave turn = (then : PrefixView)
    × IsLeaveOver limits then.entries was.part turn.reply
    × (then.opening ≡ was.part.opening) × (turn.reported ≡ Some then) × (turn.new.pass ≡ None)
IsAnswerInside limits was request turn =
    (now : PassView) × IsCall limits was now request turn.reply × HasPass now turn

-- the answer to a request of a session in no room, which can only enter one
abbrev pub IsAnswerOutside : HostView → Request → SessionTurn → Type 0
IsAnswerOutside host (Join name) turn = IsJoinBy host name turn
IsAnswerOutside host (Back name site) turn = IsBackBy host name site turn
IsAnswerOutside host request turn = IsRefused NotJoined turn

abbrev pub IsAnswer : HostView → Request → SessionTurn → Type 0
IsAnswer host request turn =
    MatchOption turn.old.pass (IsAnswerOutside host request turn)
    (λ was. IsAnswerInside host.limits was request turn)

-- the answer to bytes that are no such request, but may be one about notes, by the session's pass
abbrev pub IsNotesTurn : LimitValues → Bytes → SessionTurn → Type 0
IsNotesTurn limits bytes turn = MatchOption (note_request_read bytes) (IsRefused BadMessage turn)
    (λ request. MatchOption turn.old.pass (IsRefused NotJoined turn)
    (λ was. (now : PassView) × IsNotesCall limits was now request turn.reply × HasPass now turn))

-- the answer to a message; the session keeps its scope
abbrev pub IsTurn : HostView → Bytes → SessionTurn → Type 0
IsTurn host bytes turn =
    (turn.new.scope ≡ turn.old.scope)
    × MatchOption (request_read bytes) (IsNotesTurn host.limits bytes turn)
    (λ request. IsAnswer host request turn)

module _ (host : HostView) (old new : SessionView) (bytes : Bytes) where
  -- the text is that of the answer, which reports on this prefix of a record
  abbrev pub IsTextOfTurn : Option PrefixView → List ℕ → Type 0
  IsTextOfTurn reported text = (reply : Reply) × (text ≡ reply_text reply)
      × IsTurn host bytes (record { old = old; new = new; reported = reported; reply = reply })

  -- the message changed nothing, or it was answered, but the reply was lost
  abbrev pub MayStand : Type 0
  MayStand = (new ≡ old)
      ⊎ ((reported : Option PrefixView) × (text : List ℕ) × IsTextOfTurn reported text)
