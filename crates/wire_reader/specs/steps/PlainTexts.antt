-- The plain text of a message, in parts.
use Rattle.std.specs.Prelude.{◌≡◌, ℕ, List, ◌++◌, true}
use Rattle.std.specs.Char.{encode_utf8}
use Rattle.std.specs.List.{list_all}
use Rattle.json.specs.Lex.{lex, between, in_escape, in_string}
use Rattle.json.specs.Text.{after_backslash, after_u, content, plain, prepend}
use Rattle.wire.specs.steps.Quoting.{is_plain_byte}

-- the text stands for what a message has before this rest of it: with the lexemes of the rest
-- after it, it has those of the message
abbrev pub StandsFor : List ℕ → List ℕ → List ℕ → Type 0
StandsFor message text rest =
    (xs : List ℕ) → lex between xs ≡ lex between rest
    → lex between (text ++ xs) ≡ lex between message

-- the same inside a string, where the content and the lexemes after it count
abbrev pub StandsInside : List ℕ → List ℕ → List ℕ → Type 0
StandsInside message text rest =
    (xs : List ℕ) → content plain xs ≡ content plain rest → lex in_string xs ≡ lex in_string rest
    → lex between (text ++ xs) ≡ lex between message

-- a text that stood for a message before these bytes of it became one that stands for it before
-- this rest of them
abbrev pub KeepsLexemes : List ℕ → List ℕ → List ℕ → List ℕ → Type 0
KeepsLexemes before bytes after rest =
    (message : List ℕ) → StandsFor message before bytes → StandsFor message after rest

-- the same inside a string
abbrev pub KeepsContent : List ℕ → List ℕ → List ℕ → List ℕ → Type 0
KeepsContent before bytes after rest =
    (message : List ℕ) → StandsInside message before bytes → StandsInside message after rest

-- four hex digits are the character, before this rest of a string
abbrev pub IsUnicode : ℕ → List ℕ → List ℕ → Type 0
IsUnicode character bytes rest =
    (content after_u bytes ≡ prepend (encode_utf8 character) (content plain rest))
    × (lex in_string bytes ≡ lex in_string rest)

-- what follows a backslash is the character, before this rest of a string
abbrev pub IsEscape : ℕ → List ℕ → List ℕ → Type 0
IsEscape character bytes rest =
    (content after_backslash bytes ≡ prepend (encode_utf8 character) (content plain rest))
    × (lex in_escape bytes ≡ lex in_string rest)

-- the character was written, whose bytes stand for themselves in a string
abbrev pub IsWritten : ℕ → List ℕ → List ℕ → Type 0
IsWritten character before after =
    (after ≡ before ++ encode_utf8 character)
    × (list_all is_plain_byte (encode_utf8 character) ≡ true)
