-- Messages one after the other, and the replies to them.
use Rattle.std.specs.Prelude.{ℕ, ◌≡◌, List, Some, None, map, fold, length}
use Rattle.wire.specs.Texts.{reply_text}
use Rattle.world.specs.Alone.{Message, alone_run}
use Rattle.world.specs.Rooms.{Rooms, rooms_after, owners, of_owner, lone_reply}
use Rattle.world.specs.Shown.{AllShow}

-- in rooms of these names these messages have these answers, and the rooms are then the new ones
pub record IsRun (names : List (List ℕ)) (old : Rooms) (messages : List Message)
    (texts : List (List ℕ)) (new : Rooms) : Type 0 where
  pub count : length texts ≡ length messages
  -- each room's messages are answered as those of that room alone, and it is then as after them
  pub alone : (place : ℕ) → let whose = owners names old messages in
      (of_owner (Some place) whose texts, new.alone place)
      ≡ alone_run (old.alone place) (of_owner (Some place) whose messages)
  -- the others are answered by the message alone
  pub lone : let whose = owners names old messages in
      of_owner None whose texts
      ≡ map (λ message. reply_text (lone_reply message)) (of_owner None whose messages)
  -- wherever an answer shows an object, its versions are the maximal compatible groups
  pub shown : (place : ℕ) → let whose = owners names old messages in
      AllShow (old.alone place) (of_owner (Some place) whose messages)
  pub rooms : new ≡ fold (rooms_after names) old messages
