-- What a connection receives, from what its dialogue served.
use Rattle.std.proofs.Common.{◌≡◌, ℕ, true, false, List, [], ◌++◌, Some, Ok, inr, sym, subst}
use Rattle.websocket.specs.Connection.{read_step}
use Rattle.websocket.specs.declared.protocol.frame.codec.FrameStatus.TheVariants.{Partial}
use Rattle.connection.specs.declared.end.End.{End}
use Rattle.connection.specs.Standing.{ConnectionState}
use Rattle.connection.specs.Serving.{IsPaused}
use Rattle.connection.specs.Receiving.{EndsAt, Run, Served, stopped}
use Rattle.connection.specs.Connections.{Receives, StopsReceiving}
use Rattle.connection.specs.Talks.{Block, Fault, Turn, Wait}
use Rattle.connection.specs.steps.States.{state_of}
use Rattle.connection.proofs.Runs.{served_behind, served_ended}

module _ {S D : Type 0} (turn : Turn S D) (waits : Wait S) (blocks : Block S) where
  -- what a dialogue served, of a connection that has ended or is behind, or not
  served_of : (frames : Run) (before after : ConnectionState S D) (input input' : List ℕ) → input ≡ input' → Served turn waits blocks frames (state_of before.protocol input before.standing) after
      → Served turn waits blocks frames (record before { input = input' }) (record after { ended = before.ended; is_behind = before.is_behind })
  served_of frames before after input input' same h =
      subst (λ x. Served turn waits blocks frames (record before { input = x }) (record after { ended = before.ended; is_behind = before.is_behind })) same
      (served_ended turn waits blocks before.ended frames (record (state_of before.protocol input before.standing) { is_behind = before.is_behind }) (record after { is_behind = before.is_behind })
      (served_behind turn waits blocks before.is_behind frames (state_of before.protocol input before.standing) after h))

  pub receives : (view before after : ConnectionState S D) (bytes input : List ℕ) (frames : Run) → view ≡ before → after.ended ≡ view.ended
      → input ≡ view.input ++ bytes
      → Served turn waits blocks frames (state_of view.protocol input view.standing) (state_of after.protocol after.input after.standing)
      → (after.is_behind ≡ true → IsPaused blocks after.standing)
      → (after.is_behind ≡ false → (needed : ℕ) × (read_step after.protocol after.input ≡ Ok (Partial needed)))
      → Receives turn waits blocks before bytes after
  receives view before after bytes input frames is same more served pauses reads_all =
      subst (λ (x : ConnectionState S D). Receives turn waits blocks x bytes after) is
      (record {
        frames = frames;
        served = subst (λ e. Served turn waits blocks frames (record view { input = view.input ++ bytes }) (record after { ended = e; is_behind = view.is_behind })) (sym same)
            (served_of frames view (state_of after.protocol after.input after.standing) input (view.input ++ bytes) more served);
        pauses = pauses;
        reads_all = reads_all;
      })

module _ {S D : Type 0} (turn : Turn S D) (waits : Wait S) (blocks : Block S) (fails : Fault S) where
  pub stops : (view before now after mid : ConnectionState S D) (bytes input : List ℕ) (why : End) (frames : Run) → view ≡ before
      → after ≡ record now { input = []; ended = Some why; is_behind = false } → input ≡ view.input ++ bytes
      → Served turn waits blocks frames (state_of view.protocol input view.standing) mid
      → EndsAt turn waits fails mid why (stopped (state_of now.protocol now.input now.standing) why)
      → StopsReceiving turn waits blocks fails before bytes why after
  stops view before now after mid bytes input why frames is stop more served ends =
      subst (λ (x : ConnectionState S D). StopsReceiving turn waits blocks fails x bytes why after) is
      (inr (
        frames,
        record mid { ended = view.ended; is_behind = view.is_behind },
        served_of turn waits blocks frames view mid input (view.input ++ bytes) more served,
        subst (λ (x : ConnectionState S D). EndsAt turn waits fails mid why x) (sym stop) ends,
      ))
