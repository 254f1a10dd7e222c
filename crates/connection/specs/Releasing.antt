-- When a frame that waits is sent.
use Rattle.std.specs.Prelude.{◌≡◌, ℕ, List, [], ◌∷◌, ◌++◌, ⊤, IfSome, IsSome, IsSomeAnd}
use Rattle.connection.specs.declared.end.End.{End}
use Rattle.connection.specs.Standing.{QueuedFrame, Standing}

module _ {S D R : Type 0} (shows : R → D → Type 0) where
  -- the first frame was moved to the output, and a receipt shows that what it reports is kept
  abbrev pub Released : Standing S D → Standing S D → List ℕ → List ℕ → Type 0
  Released before after output output' =
      (item : QueuedFrame D) × (before ≡ record after { waiting = item ∷ after.waiting })
      × (output' ≡ output ++ item.bytes)
      × IfSome item.reported (λ reported. (receipt : R) × shows receipt reported)

abbrev pub ReportsFirst : {D : Type 0} → List (QueuedFrame D) → Type 0
ReportsFirst [] = ⊤
ReportsFirst (item ∷ rest) = IsSome item.reported

-- what the first frame reports will not be kept
abbrev pub IsFirstLost : {D : Type 0} → (D → End → Type 0) → List (QueuedFrame D) → End → Type 0
IsFirstLost lacks [] why = ⊥
IsFirstLost lacks (item ∷ rest) why = IsSomeAnd item.reported (λ reported. lacks reported why)
