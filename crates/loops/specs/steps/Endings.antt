-- Why sessions end.
use Rattle.std.specs.Prelude.{Bool, true, false}
use Rattle.connection.specs.declared.end.End.{End}
use Rattle.connection.specs.declared.end.End.TheVariants as end
use Rattle.loops.specs.declared.ending.Ending.{Ending}
use Rattle.loops.specs.declared.ending.Ending.TheVariants as ending

-- a session that has not begun had no handshake, if the stream ended
abbrev pub ending_unopened : Ending → Ending
ending_unopened ending.Stream = ending.NoHandshake
ending_unopened ending.NoHandshake = ending.NoHandshake
ending_unopened (ending.Connection why) = ending.Connection why

-- the server is at fault
abbrev pub is_fault_of_server : End → Bool
is_fault_of_server end.Closed = false
is_fault_of_server end.Fault = false
is_fault_of_server end.NoMemory = true
is_fault_of_server end.NotKept = true
is_fault_of_server end.Stray = true
