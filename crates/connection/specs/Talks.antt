-- The relations by which a talk says what it does with messages.
use Rattle.std.specs.Prelude.{ℕ, List, Option}
use Rattle.connection.specs.declared.end.End.{End}

-- one message is answered: the session before and after, the message, the text, what that reports
abbrev pub Turn : Type 0 → Type 0 → Type 1
Turn S D = S → S → List ℕ → List ℕ → Option D → Type 0

-- this message of the session may be held
abbrev pub Wait : Type 0 → Type 1
Wait S = S → List ℕ → Type 0

-- while a message of this session is held, no later frame is served
abbrev pub Block : Type 0 → Type 1
Block S = S → Type 0

-- the session may stand so after a message at which the connection ends
abbrev pub Fault : Type 0 → Type 1
Fault S = S → S → List ℕ → End → Type 0
