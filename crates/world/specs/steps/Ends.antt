-- What goes out for messages and for lines, in other forms, and the rooms after them.
use Rattle.std.specs.Prelude.{ℕ, List, [], ◌∷◌, ◌++◌, Option, Some, None, fold}
use Rattle.std.specs.Fmt.{decimal}
use Rattle.wire.specs.Lines.{lines_of}
use Rattle.wire.specs.declared.reply.Reply.{Reply}
use Rattle.wire.specs.Texts.{reply_text}
use Rattle.world.specs.Alone.{Message, Alone, alone_reply, alone_after}
use Rattle.world.specs.Rooms.{Rooms, owner_of, lone_reply, rooms_after}
use Rattle.world.specs.steps.Messages.{message_in}
use Rattle.world.specs.steps.State.{WorldState, names_of, rooms_of}

-- the parts of a room's run alone
abbrev pub alone_texts : Alone → List Message → List (List ℕ)
alone_texts alone [] = []
alone_texts alone (message ∷ messages) =
    reply_text (alone_reply alone message) ∷ alone_texts (alone_after alone message) messages

abbrev pub alone_end : Alone → List Message → Alone
alone_end alone [] = alone
alone_end alone (message ∷ messages) = alone_end (alone_after alone message) messages

-- the reply to a message of this owner
abbrev pub reply_at : Rooms → Message → Option ℕ → Reply
reply_at rooms message None = lone_reply message
reply_at rooms message (Some place) = alone_reply (rooms.alone place) message

abbrev pub reply_to : List (List ℕ) → Rooms → Message → Reply
reply_to names rooms message = reply_at rooms message (owner_of names rooms message)

-- the texts of the replies to messages
abbrev pub texts : List (List ℕ) → Rooms → List Message → List (List ℕ)
texts names rooms [] = []
texts names rooms (message ∷ messages) =
    reply_text (reply_to names rooms message)
    ∷ texts names (rooms_after names rooms message) messages

-- the rooms after messages
abbrev pub rooms_end : List (List ℕ) → Rooms → List Message → Rooms
rooms_end names rooms messages = fold (rooms_after names) rooms messages

-- the line that goes out for a line that comes in, and the rooms after it
abbrev pub text_for : List (List ℕ) → Rooms → Option Message → List ℕ
text_for names rooms None = 63 ∷ 10 ∷ []
text_for names rooms (Some message) =
    decimal message.session ++ (32 ∷ reply_text (reply_to names rooms message)) ++ 10 ∷ []

abbrev pub rooms_for : List (List ℕ) → Rooms → Option Message → Rooms
rooms_for names rooms None = rooms
rooms_for names rooms (Some message) = rooms_after names rooms message

-- what goes out for lines, and the rooms after them
abbrev pub lines_out : List (List ℕ) → Rooms → List (List ℕ) → List ℕ
lines_out names rooms [] = []
lines_out names rooms (line ∷ lines) =
    text_for names rooms (message_in line)
    ++ lines_out names (rooms_for names rooms (message_in line)) lines

abbrev pub lines_end : List (List ℕ) → Rooms → List (List ℕ) → Rooms
lines_end names rooms [] = rooms
lines_end names rooms (line ∷ lines) =
    lines_end names (rooms_for names rooms (message_in line)) lines

-- what goes out for the lines of these bytes, and the rooms after them
abbrev pub output_of : WorldState → List ℕ → List ℕ
output_of state input = lines_out (names_of state) (rooms_of state) (lines_of input)

abbrev pub end_of : WorldState → List ℕ → Rooms
end_of state input = lines_end (names_of state) (rooms_of state) (lines_of input)
