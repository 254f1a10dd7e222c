-- When a line has taken too long.
use Rattle.std.specs.Prelude.{ℕ, ◌+◌, Bool, false, true, ◌||◌, ◌&&◌, min, not, nat_le, Option, Some, None}
use Rattle.std.specs.Prelude.{unwrap_or}
use Rattle.loops.specs.declared.times.Patience.{Patience}
use Rattle.loops.specs.declared.times.Times.{Times}
use Rattle.loops.specs.declared.times.Phase.{Phase}
use Rattle.loops.specs.declared.times.Phase.TheVariants as phase
use Rattle.loops.specs.declared.times.TheConstants.{CROWDED_MILLIS, LINGER_MILLIS, OPENING_MILLIS}
use Rattle.loops.specs.declared.times.TheConstants.{STALLED_MILLIS}

-- so much time has passed since then
abbrev pub passed : ℕ → ℕ → ℕ → Bool
passed now since limit = nat_le (since + limit) now

-- so much time has passed since then, if there is a limit
abbrev pub passed_limit : ℕ → ℕ → Option ℕ → Bool
passed_limit now since None = false
passed_limit now since (Some limit) = passed now since limit

-- how long lines are waited for, by how long a client may be silent, and whether all hold too much
abbrev pub patience : Option ℕ → Bool → Patience
patience idle true = record { idle = idle; stall = CROWDED_MILLIS }
patience idle false = record { idle = idle; stall = min (unwrap_or idle STALLED_MILLIS) STALLED_MILLIS }

-- By what is awaited. An open line is overdue where the client is silent and no message is held, or
-- where the stream takes nothing of what waits.
abbrev pub overdue : Phase → Times → Bool → Patience → ℕ → Bool
overdue phase.Opening times has_output patience now = passed now times.began OPENING_MILLIS
overdue (phase.Open is_held) times has_output patience now =
    (not is_held && passed_limit now times.heard patience.idle)
    || (has_output && passed now times.sent patience.stall)
overdue phase.Over times has_output patience now = passed now times.heard patience.stall
overdue phase.Leaving times has_output patience now = passed now times.sent patience.stall
overdue phase.Lingering times has_output patience now = passed now times.began LINGER_MILLIS
