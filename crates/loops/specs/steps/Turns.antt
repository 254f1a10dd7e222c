-- What a line does at its turn.
use Rattle.std.specs.Prelude.{ℕ, Bool, true, false, ◌||◌, nat_le, nat_lt}
use Rattle.loops.specs.declared.readiness.Readiness.{Readiness}
use Rattle.loops.specs.declared.readiness.Load.{Load}
use Rattle.loops.specs.declared.readiness.Step.{Step}
use Rattle.loops.specs.declared.readiness.Step.TheVariants.{Read, GoOn, Rest}
use Rattle.loops.specs.declared.readiness.TheConstants.{MAX_OUTPUT_LEN}

-- a report of the system is remembered
abbrev pub after_report : Readiness → Bool → Bool → Readiness
after_report known readable closed =
    record { is_readable = known.is_readable || readable || closed; is_read_closed = known.is_read_closed || closed }

-- a read that gave less than there was room for has emptied the socket, unless the end stands behind it
abbrev pub after_read : Readiness → ℕ → ℕ → Readiness
after_read known count room =
    record { is_readable = nat_le room count || known.is_read_closed; is_read_closed = known.is_read_closed }

-- by whether nothing more is taken, frames that were read may be whole, frames wait or a held message
-- blocks, and the socket may be readable
abbrev pub step_by : Bool → Bool → Bool → Bool → Step
step_by true behind waiting readable = Rest
step_by false true true readable = Rest
step_by false true false readable = GoOn
step_by false false waiting true = Read
step_by false false waiting false = Rest

-- nothing is taken from a client whose connection is over, or for which too much waits, or where all
-- lines hold too much
abbrev pub step_of : Load → Bool → Step
step_of load readable =
    step_by (load.is_over || load.is_full || nat_lt MAX_OUTPUT_LEN load.output_len) load.is_behind (load.has_waiting || load.is_blocked) readable
