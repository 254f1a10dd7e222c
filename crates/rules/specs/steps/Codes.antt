-- Refusals by their numbers.
use Rattle.std.specs.Prelude.{ℕ, List, [], ◌∷◌, Option, ◌==◌}
use Rattle.std.specs.List.{find}
use Rattle.rules.specs.declared.refusal.Refusal.{Refusal}
use Rattle.rules.specs.declared.refusal.Refusal.TheVariants.{BadMessage, NotJoined, AlreadyJoined}
use Rattle.rules.specs.declared.refusal.Refusal.TheVariants.{NoSuchRoom, RoomFull, RecordFull}
use Rattle.rules.specs.declared.refusal.Refusal.TheVariants.{WrongSeq, OwnCount, Ahead, NotClosed}
use Rattle.rules.specs.declared.refusal.Refusal.TheVariants.{NoSuchObject, NoSuchVersion}
use Rattle.rules.specs.declared.refusal.Refusal.TheVariants.{ObjectFull, TooManyKeys}
use Rattle.rules.specs.declared.refusal.Refusal.TheVariants.{TooManyVersions, TooManyObjects}
use Rattle.rules.specs.declared.refusal.Refusal.TheVariants.{TooFar, Gone, NoSuchSite, SiteInUse}
use Rattle.rules.specs.declared.refusal.Refusal.TheVariants.{NotServed, Renewed}
use Rattle.rules.specs.Refusals.{code_of}

abbrev all_refusals : List Refusal
all_refusals =
    BadMessage ∷ NotJoined ∷ AlreadyJoined ∷ NoSuchRoom ∷ RoomFull ∷ RecordFull ∷ WrongSeq
    ∷ OwnCount ∷ Ahead ∷ NotClosed ∷ NoSuchObject ∷ NoSuchVersion ∷ ObjectFull ∷ TooManyKeys
    ∷ TooManyVersions ∷ TooManyObjects ∷ TooFar ∷ Gone ∷ NoSuchSite ∷ SiteInUse
    ∷ NotServed ∷ Renewed ∷ []

-- the refusal with this number
abbrev pub refusal_at : ℕ → Option Refusal
refusal_at code = find (λ r. code_of r == code) all_refusals
