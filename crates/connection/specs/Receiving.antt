-- What a connection does with the frames at the front of the bytes that came.
use Rattle.std.specs.Prelude.{◌≡◌, ◌⊎◌, ℕ, List, [], ◌∷◌, drop, Ok, Some, IsSomeAnd, false}
use Rattle.websocket.specs.Connection.{Effect, failed_connection, read_step}
use Rattle.websocket.specs.declared.protocol.frame.codec.FrameStatus.TheVariants.{Complete}
use Rattle.connection.specs.declared.end.End.{End}
use Rattle.connection.specs.declared.end.End.TheVariants as end
use Rattle.connection.specs.Standing.{ConnectionState, Standing}
use Rattle.connection.specs.Serving.{Does, FailsHearing, FailsStep, IsPaused, Takes, data_of}
use Rattle.connection.specs.Talks.{Block, Fault, Turn, Wait}

-- the frames of a run, each with the number of its bytes
abbrev pub Run : Type 0
Run = List (ℕ × Effect)

module _ {S D : Type 0} (turn : Turn S D) (waits : Wait S) (blocks : Block S) where
  -- each frame of the run is read from the front of the bytes and served, unless serving is paused
  abbrev pub Served : Run → ConnectionState S D → ConnectionState S D → Type 0
  Served [] before after = after ≡ before
  Served (p ∷ ps) before after =
      ¬ IsPaused blocks before.standing × (read_step before.protocol before.input ≡ Ok (Complete p))
      × (mid : Standing S D) × Does turn waits p.1 before.standing mid
      × Served ps (record before { protocol = p.1.next; input = drop p.0 before.input; standing = mid })
      after

abbrev pub stopped : {S D : Type 0} → ConnectionState S D → End → ConnectionState S D
stopped before why = record before { input = []; ended = Some why; is_behind = false }

module _ {S D : Type 0} (turn : Turn S D) (waits : Wait S) (fails : Fault S) where
  -- the protocol refuses the bytes, or the frame at their front cannot be served
  abbrev pub EndsAt : ConnectionState S D → End → ConnectionState S D → Type 0
  EndsAt before why after =
      (FailsStep (read_step before.protocol before.input) why
      × (after ≡ record (stopped before why) { protocol = failed_connection before.protocol }))
      ⊎ ((p : ℕ × Effect) × (read_step before.protocol before.input ≡ Ok (Complete p))
      × (after ≡ record (stopped before why) { protocol = p.1.next; standing = after.standing })
      × (IsSomeAnd (data_of p.1.message)
      (λ message. FailsHearing turn fails p.1.next message why before.standing after.standing)
      ⊎ ((why ≡ end.NoMemory)
      × Takes turn waits p.1.message p.1.next.role before.standing after.standing)))
