-- What is known of a connection.
use Rattle.std.specs.Prelude.{ℕ, Bool, List, flat_map, length, Option}
use Rattle.websocket.specs.Connection.{Connection}
use Rattle.connection.specs.declared.end.End.{End}

-- a frame that waits to be sent, and what it reports
pub record QueuedFrame (D : Type 0) : Type 0 where
  pub bytes : List ℕ
  pub reported : Option D

-- the session of a client, the message that is held, and the frames that wait, in order
pub record Standing (S D : Type 0) : Type 0 where
  pub session : S
  pub held : Option (List ℕ)
  pub waiting : List (QueuedFrame D)

abbrev pub waiting_len : {D : Type 0} → List (QueuedFrame D) → ℕ
waiting_len waiting = length (flat_map (λ item. item.bytes) waiting)

-- `input` are the bytes that no frame has taken; if it `is_behind`, whole frames may be among them
pub record ConnectionState (S D : Type 0) : Type 0 where
  pub protocol : Connection
  pub input : List ℕ
  pub standing : Standing S D
  pub ended : Option End
  pub is_behind : Bool
