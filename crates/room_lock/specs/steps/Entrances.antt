-- The result of a join or a coming back.
use Rattle.wire.specs.declared.reply.Reply.{Reply}
use Rattle.room_lock.specs.declared.entrance.Entrance.{Entrance}
use Rattle.room_lock.specs.declared.entrance.Entrance.TheVariants.{Entered, Refused, InUse, NoRoom}
use Rattle.room_lock.specs.Passes.{PassView, PrefixView}
use Rattle.room_lock.specs.steps.Views.{InUseView}

module _ {P : Type 0} where
  -- if a site was let in, this holds of its pass and the reply
  abbrev pub IfEntered : (PassView → Reply → Type 0) → Entrance P → Type 0
  IfEntered Holds (Entered pass reply) = Holds pass reply
  IfEntered Holds (Refused prefix reply) = Unit {0}
  IfEntered Holds (InUse it reply) = Unit {0}
  IfEntered Holds NoRoom = Unit {0}

  -- if the room refused, this holds of the record and the reply
  abbrev pub IfRefused : (PrefixView → Reply → Type 0) → Entrance P → Type 0
  IfRefused Holds (Entered pass reply) = Unit {0}
  IfRefused Holds (Refused prefix reply) = Holds prefix reply
  IfRefused Holds (InUse it reply) = Unit {0}
  IfRefused Holds NoRoom = Unit {0}

  -- if a session is in as the site, this holds of the proof of that and the reply
  abbrev pub IfInUse : (InUseView → Reply → Type 0) → Entrance P → Type 0
  IfInUse Holds (Entered pass reply) = Unit {0}
  IfInUse Holds (Refused prefix reply) = Unit {0}
  IfInUse Holds (InUse it reply) = Holds it reply
  IfInUse Holds NoRoom = Unit {0}
