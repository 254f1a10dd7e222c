-- A script that no room answers, and one that ends early.
use Rattle.std.proofs.Common.{◌≡◌, ℕ, List, [], length, take, Option, Some, None, Result, Ok, Err, is_ok, IfSome, OnErr, refl, subst}
use Rattle.rules.specs.declared.limits.LimitValues.{LimitValues}
use Rattle.rules.specs.Limits.{full_limits}
use Rattle.byte_streams.proofs.Written.{no_front}
use Rattle.wire.specs.Lines.{lines_of}
use Rattle.world.specs.Alone.{empty_alone}
use Rattle.world.specs.Rooms.{Rooms, AreEmpty}
use Rattle.world.specs.Script.{IsScriptRun}
use Rattle.world.specs.steps.State.{WorldState, names_of, rooms_of}
use Rattle.world.specs.steps.Ends.{lines_out}
use Rattle.world.specs.steps.Endings.{Stops}
use Rattle.world.proofs.ScriptForms.{lines_run}
use Rattle.commands.specs.Service.{IsAnswered, ServesPrefix}

abbrev empty : Rooms
empty = record { inside = λ session. None; alone = λ place. empty_alone full_limits }

none_answered : (names : List (List ℕ)) → IsAnswered names [] []
none_answered names = record {
  start = empty;
  end = empty;
  empty = record { inside = λ session. refl; alone = λ place l. refl };
  run = record {
    replies = [];
    run = record { count = refl; alone = λ place. refl; lone = refl; shown = λ place. tt; rooms = refl };
    output = refl;
  };
}

nothing : (written : Option (List ℕ)) (names : List (List ℕ)) (bytes : List ℕ) → ServesPrefix written written names bytes
nothing written names bytes = (0, [], none_answered names, no_front written [])

pub nothing_served : (input written : Option (List ℕ)) (names : List (List ℕ)) → IfSome input (ServesPrefix written written names)
nothing_served None written names = tt
nothing_served (Some bytes) written names = nothing written names bytes

pub nothing_served_if_err : {T E : Type 0} (r : Result T E) (input written : Option (List ℕ)) (names : List (List ℕ)) → OnErr r (IfSome input (ServesPrefix written written names))
nothing_served_if_err (Ok value) input written names = tt
nothing_served_if_err (Err fault) input written names = nothing_served input written names

-- rooms of a new world
pub empty_of : (limits : LimitValues) (given names : List (List ℕ)) (rooms : Rooms) → limits ≡ full_limits → given ≡ names → AreEmpty limits (length given) rooms → AreEmpty full_limits (length names) rooms
empty_of limits given names rooms e f h = subst (λ l. AreEmpty l (length names) rooms) e (subst (λ (ns : List (List ℕ)). AreEmpty limits (length ns) rooms) f h)

-- what is said of a fault is said of the fault that it becomes
pub err_kept : {T E D : Type 0} (r : Result T E) (s : Result T D) (P Q : Type 0) → is_ok s ≡ is_ok r → (P → Q) → OnErr r P → OnErr s Q
err_kept (Ok x) (Ok y) P Q e f p = tt
err_kept (Ok x) (Err d) P Q e f p = absurd (cc)
err_kept (Err x) (Ok y) P Q e f p = tt
err_kept (Err x) (Err d) P Q e f p = f p

-- a script in a new world of these names
module _ (before after : Option (List ℕ)) (names : List (List ℕ)) (old new : WorldState)
    (are : names_of old ≡ names) (empty : AreEmpty full_limits (length names) (rooms_of old))
  where
    pub part_served : (input : Option (List ℕ)) → IfSome input (λ bytes. Stops before after old new bytes) → IfSome input (ServesPrefix before after names)
    part_served None h = tt
    part_served (Some bytes) h =
        let lines = take h.count (lines_of bytes) in
        let text = lines_out (names_of old) (rooms_of old) lines in (
          h.count,
          text,
          record { start = rooms_of old; end = rooms_of new; empty = empty; run = subst (λ ns. IsScriptRun ns (rooms_of old) lines text (rooms_of new)) are (lines_run old new lines h.rooms h.shown) },
          h.answers,
        )
