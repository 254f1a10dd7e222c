-- A connection as a dialogue sees it.
use Rattle.std.specs.Prelude.{ℕ, List, None, false}
use Rattle.websocket.specs.Connection.{Connection}
use Rattle.connection.specs.Standing.{ConnectionState, Standing}

-- a connection that has not ended, of these parts
abbrev pub state_of : {S D : Type 0} → Connection → List ℕ → Standing S D → ConnectionState S D
state_of protocol input standing =
    record {
      protocol = protocol;
      input = input;
      standing = standing;
      ended = None;
      is_behind = false;
    }
