-- Why serving ends early, for each fault of a layer below.
use Rattle.room_lock.specs.declared.fault.CloseFault.{CloseFault}
use Rattle.room_lock.specs.declared.fault.CloseFault.TheVariants as closing
use Rattle.loops.specs.declared.fault.LoopsFault.{LoopsFault}
use Rattle.loops.specs.declared.fault.LoopsFault.TheVariants as loops
use Rattle.sessions.specs.declared.streams.ServeFault.{ServeFault}
use Rattle.sessions.specs.declared.streams.ServeFault.TheVariants.{NoWorker, Torn, NoMemory}

abbrev pub of_loops : LoopsFault → ServeFault
of_loops loops.NoLoop = NoWorker
of_loops loops.NoPoll = NoWorker
of_loops loops.NoMemory = NoMemory

-- a missing pass means that the rooms are torn
abbrev pub of_closing : CloseFault → ServeFault
of_closing (closing.Missing name) = Torn
of_closing closing.NoMemory = NoMemory
