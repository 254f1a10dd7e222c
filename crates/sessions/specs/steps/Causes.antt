-- Why a message is not answered, why its connection ends, and why the session ended.
use Rattle.connection.specs.declared.end.End.{End}
use Rattle.connection.specs.declared.end.End.TheVariants as end
use Rattle.loops.specs.declared.ending.Ending.{Ending}
use Rattle.loops.specs.declared.ending.Ending.TheVariants.{NoHandshake, Stream, Connection}
use Rattle.room_lock.specs.declared.fault.CallFault.{CallFault}
use Rattle.room_lock.specs.declared.fault.CallFault.TheVariants as call
use Rattle.keeper.specs.declared.keeper.KeepFault.{KeepFault}
use Rattle.keeper.specs.declared.keeper.KeepFault.TheVariants as keep
use Rattle.sessions.specs.declared.cause.Cause.{Cause}
use Rattle.sessions.specs.declared.cause.Cause.TheVariants as cause
use Rattle.sessions.specs.declared.cause.MessageFault.{MessageFault}
use Rattle.sessions.specs.declared.cause.MessageFault.TheVariants as message

abbrev pub fault_of_call : CallFault → MessageFault
fault_of_call (call.Torn place) = message.Torn
fault_of_call call.NoMemory = message.NoMemory

abbrev pub end_of_message_fault : MessageFault → End
end_of_message_fault message.NoMemory = end.NoMemory
end_of_message_fault message.Torn = end.Stray

abbrev pub end_of_keep_fault : KeepFault → End
end_of_keep_fault keep.NotKept = end.NotKept
end_of_keep_fault keep.NoMemory = end.NoMemory

abbrev pub cause_of_end : End → Cause
cause_of_end end.Closed = cause.Closed
cause_of_end end.Fault = cause.StreamFault
cause_of_end end.NoMemory = cause.NoMemory
cause_of_end end.NotKept = cause.NotKept
cause_of_end end.Stray = cause.Torn

abbrev pub cause_of_ending : Ending → Cause
cause_of_ending NoHandshake = cause.HandshakeFailed
cause_of_ending Stream = cause.StreamFault
cause_of_ending (Connection end) = cause_of_end end
