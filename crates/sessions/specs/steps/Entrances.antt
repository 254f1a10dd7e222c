-- The effect of an entrance on a session.
use Rattle.std.specs.Prelude.{◌≡◌, Option, Some, None}
use Rattle.rules.specs.declared.refusal.Refusal.TheVariants.{NotServed}
use Rattle.wire.specs.declared.reply.Reply.{Reply}
use Rattle.wire.specs.declared.reply.Reply.TheVariants.{No}
use Rattle.room_lock.specs.declared.entrance.Entrance.{Entrance}
use Rattle.room_lock.specs.declared.entrance.Entrance.TheVariants.{Entered, Refused, InUse, NoRoom}
use Rattle.room_lock.specs.Passes.{PassView, PrefixView, prefix_of}

module _ {P : Type 0} where
  -- the session's pass afterwards, the prefix of a record that is reported, and the reply
  abbrev pub IsAfter : Entrance P → Option PassView → Option PrefixView → Reply → Type 0
  IsAfter (Entered pass it) new reported reply =
      (reply ≡ it) × (reported ≡ Some (prefix_of pass.part)) × (new ≡ Some pass)
  IsAfter (Refused prefix it) new reported reply =
      (reply ≡ it) × (reported ≡ Some prefix) × (new ≡ None)
  IsAfter (InUse in_use it) new reported reply =
      (reply ≡ it) × (reported ≡ Some in_use.prefix) × (new ≡ None)
  IsAfter NoRoom new reported reply = (reply ≡ No 0 NotServed) × (reported ≡ None) × (new ≡ None)
