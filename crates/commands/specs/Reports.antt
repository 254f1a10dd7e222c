-- How a command ends that reads its input whole, and writes one result of it.
use Rattle.std.specs.Prelude.{◌≡◌, ◌⊎◌, ℕ, List, Option, IfSome}
use Rattle.std.specs.Io.KnownBytes.{Appends, Keeps}
use Rattle.byte_streams.specs.Prefixes.{AppendsPrefix}

-- which results are right of an input, and the text and the exit status of each result
pub record Report (Input Found : Type 0) : Type 1 where
  pub IsRight : Input → Found → Type 0
  pub says : Found → List ℕ × ℕ

-- the text and the exit status of a right result are so
pub record SomeRight {Input Found : Type 0} (report : Report Input Found)
    (Are : List ℕ × ℕ → Type 0) (input : Input) : Type 0 where
  pub found : Found
  pub right : report.IsRight input found
  pub are : Are (report.says found)

-- a statement is true of some bytes: of all that a reader gives, if that is known
abbrev pub OfReader : Option (List ℕ) → (List ℕ → Type 0) → Type 0
OfReader remaining P = (bytes : List ℕ) × IfSome remaining (λ all. bytes ≡ all) × P bytes

-- and of those of two readers
abbrev pub OfReaders : Option (List ℕ) → Option (List ℕ) → (List ℕ × List ℕ → Type 0) → Type 0
OfReaders first second P = OfReader first (λ old. OfReader second (λ new. P (old, new)))

-- the possible exit statuses, and what was appended to what a writer holds: with 0 and 1 the text,
-- with 3 nothing or a prefix, with 4 nothing
pub record Reports {Input Found : Type 0} (report : Report Input Found)
    (Of : (Input → Type 0) → Type 0) (before after : Option (List ℕ)) (status : ℕ) : Type 0 where
  pub known : (status ≡ 0) ⊎ (status ≡ 1) ⊎ (status ≡ 3) ⊎ (status ≡ 4)
  pub told : (status ≡ 0) ⊎ (status ≡ 1)
      → Of (SomeRight report (λ said. Appends before after said.0 × (status ≡ said.1)))
  pub failed : status ≡ 3
      → Keeps before after ⊎ Of (SomeRight report (λ said. AppendsPrefix before after said.0))
  pub memory : status ≡ 4 → Keeps before after
