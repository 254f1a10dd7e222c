-- Steps of a run, and runs of which some messages were refused memory.
use Rattle.std.specs.Prelude.{ℕ, ◌≡◌, List, [], ◌∷◌, length, Option, Some, None}
use Rattle.wire.specs.Texts.{reply_text}
use Rattle.wire_reader.specs.steps.Reads.{reply_read}
use Rattle.world.specs.Alone.{Message}
use Rattle.world.specs.steps.Ends.{reply_to}
use Rattle.world.specs.Rooms.{rooms_after}
use Rattle.world.specs.steps.State.{WorldState, names_of, rooms_of}
use Rattle.world.specs.steps.OwnerShown.{ShowsGroups}
use Rattle.world.specs.Run.{IsRun}

-- In this state a message is answered by this text, and the state is then the new one.
pub record IsStep (old : WorldState) (message : Message) (text : List ℕ)
    (new : WorldState) : Type 0 where
  -- the text is written for the reply, and is read as it
  pub is_text : text ≡ reply_text (reply_to (names_of old) (rooms_of old) message)
  pub is_read : reply_read text ≡ Some (reply_to (names_of old) (rooms_of old) message)
  pub shown : ShowsGroups (names_of old) (rooms_of old) message text
  pub rooms : rooms_of new ≡ rooms_after (names_of old) (rooms_of old) message
  pub names : names_of new ≡ names_of old

-- the messages that weren't refused memory, and the texts that they were answered by
abbrev pub answered_messages : List Message → List (Option (List ℕ)) → List Message
answered_messages [] answers = []
answered_messages (message ∷ messages) [] = []
answered_messages (message ∷ messages) (None ∷ answers) = answered_messages messages answers
answered_messages (message ∷ messages) (Some text ∷ answers) =
    message ∷ answered_messages messages answers

abbrev pub answer_texts : List (Option (List ℕ)) → List (List ℕ)
answer_texts [] = []
answer_texts (None ∷ answers) = answer_texts answers
answer_texts (Some text ∷ answers) = text ∷ answer_texts answers

-- There is an answer to each message, or None where it was refused memory and nothing done; the
-- others are a run.
pub record AnswersSomeOf (old : WorldState) (messages : List Message)
    (answers : List (Option (List ℕ)))
    (new : WorldState) : Type 0 where
  pub count : length answers ≡ length messages
  pub run : IsRun (names_of old) (rooms_of old) (answered_messages messages answers)
      (answer_texts answers) (rooms_of new)
  pub names : names_of new ≡ names_of old
