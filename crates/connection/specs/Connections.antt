-- What the calls of a connection do.
use Rattle.std.specs.Prelude.{◌≡◌, ◌⊎◌, ℕ, Bool, true, false, List, [], ◌++◌, Some, None, Ok, IsSomeAnd, unwrap_or}
use Rattle.websocket.specs.Connection.{close_step, read_step}
use Rattle.websocket.specs.declared.protocol.frame.codec.FrameStatus.TheVariants.{Partial}
use Rattle.websocket.specs.View.{Leaves}
use Rattle.websocket.specs.declared.protocol.config.Role.TheVariants as Role
use Rattle.websocket.specs.declared.protocol.state.WebSocketState.TheVariants as WebSocketState
use Rattle.websocket.specs.declared.protocol.frame.coding.CloseCode.{CloseCode}
use Rattle.websocket.specs.declared.protocol.frame.coding.CloseCode.TheVariants as code
use Rattle.connection.specs.declared.closing.Closing.{Closing}
use Rattle.connection.specs.declared.closing.Closing.TheVariants as closing
use Rattle.connection.specs.declared.connection.TheConstants.{MAX_MESSAGE_LEN}
use Rattle.connection.specs.declared.end.End.{End}
use Rattle.connection.specs.declared.end.End.TheVariants as end
use Rattle.connection.specs.Standing.{ConnectionState}
use Rattle.connection.specs.Serving.{FailsAt, Freed, IsPaused, queued_reply}
use Rattle.connection.specs.Receiving.{EndsAt, Run, Served, stopped}
use Rattle.connection.specs.Talks.{Block, Fault, Turn, Wait}

-- a server's connection of which no byte came
abbrev pub opened : {S D : Type 0} → S → ConnectionState S D
opened session =
    record {
      protocol = record {
        role = Role.Server;
        state = WebSocketState.Active;
        config = record {
          max_message_size = Some MAX_MESSAGE_LEN;
          max_frame_size = Some MAX_MESSAGE_LEN;
          accept_unmasked_frames = false;
        };
        fragments = None;
      };
      input = [];
      standing = record { session = session; held = None; waiting = [] };
      ended = None;
      is_behind = false;
    }

abbrev pub close_code_of : Closing → CloseCode
close_code_of closing.Away = code.Away
close_code_of closing.Fault = code.Error

-- a close frame stands behind the frames that wait, unless a close was sent or read
abbrev pub Closes : {S D : Type 0} → Closing → ConnectionState S D → ConnectionState S D → Type 0
Closes why before after =
    (frame : List ℕ)
    × Leaves (close_step before.protocol (Some (close_code_of why, []))) after.protocol [] frame
    × (after ≡ record (stopped before (unwrap_or before.ended end.Closed)) {
      protocol = after.protocol;
      standing = record before.standing { waiting = before.standing.waiting ++ queued_reply frame };
    })

module _ {S D : Type 0} (turn : Turn S D) (waits : Wait S) (blocks : Block S) where
  -- these bytes came, and the whole frames were served until none was left, or none may be
  pub record Receives (before : ConnectionState S D) (bytes : List ℕ) (after : ConnectionState S D) : Type 0 where
    pub frames : Run
    pub served : Served turn waits blocks frames (record before { input = before.input ++ bytes })
        (record after { is_behind = before.is_behind })
    pub pauses : after.is_behind ≡ true → IsPaused blocks after.standing
    pub reads_all : after.is_behind ≡ false
        → (needed : ℕ) × (read_step after.protocol after.input ≡ Ok (Partial needed))

module _ {S D : Type 0} (turn : Turn S D) (waits : Wait S) where
  -- the held message, if there was one, was answered, or it stays held by leave
  abbrev pub AnswersHeld : Bool → ConnectionState S D → ConnectionState S D → Type 0
  AnswersHeld may_hold before after =
      (Freed turn before.protocol.role before.standing.held before.standing after.standing
      ⊎ ((may_hold ≡ true) × IsSomeAnd before.standing.held (waits before.standing.session)
      × (after.standing ≡ before.standing)))
      × (after ≡ record before { standing = after.standing })

module _ {S D : Type 0} (turn : Turn S D) (waits : Wait S) (blocks : Block S) (fails : Fault S) where
  -- these bytes came, and the connection ended at them, or there was no memory to take them
  abbrev pub StopsReceiving : ConnectionState S D → List ℕ → End → ConnectionState S D → Type 0
  StopsReceiving before bytes why after =
      ((why ≡ end.NoMemory) × (after ≡ stopped before why))
      ⊎ ((frames : Run) × (mid : ConnectionState S D)
      × Served turn waits blocks frames (record before { input = before.input ++ bytes }) mid
      × EndsAt turn waits fails mid why after)

-- the connection ended at the held message
abbrev pub FailsAnsweringHeld : {S D : Type 0} → Turn S D → Fault S
    → ConnectionState S D → End → ConnectionState S D → Type 0
FailsAnsweringHeld turn fails before why after =
    IsSomeAnd before.standing.held
    (λ message. FailsAt turn fails before.protocol message why before.standing after.standing)
    × (after ≡ stopped (record before { standing = after.standing }) why)
