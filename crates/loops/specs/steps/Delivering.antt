-- What is sent of the frames that wait in a connection.
use Rattle.std.specs.Prelude.{◌≡◌, ◌⊎◌, ℕ, List, ◌++◌, All, IfSome}
use Rattle.std.specs.List.{flat_map}
use Rattle.connection.specs.Standing.{QueuedFrame, Standing}

-- a receipt shows that what the frame reports is kept, if it reports something
abbrev pub HasReceipt : {D R : Type 0} → (R → D → Type 0) → QueuedFrame D → Type 0
HasReceipt {R = R} shows item = IfSome item.reported (λ reported. (receipt : R) × shows receipt reported)

module _ {S D R : Type 0} (shows : R → D → Type 0) where
  -- The first frames that waited were moved to the output in their order, and what each of them
  -- reports is kept. Nothing else has changed.
  pub record Delivers (before after : Standing S D) (output output' : List ℕ) : Type 0 where
    pub moved : List (QueuedFrame D)
    pub taken : before ≡ record after { waiting = moved ++ after.waiting }
    pub sent : output' ≡ output ++ flat_map (λ item. item.bytes) moved
    pub shown : All (HasReceipt shows) moved

  -- The same, and some bytes may stand behind those frames.
  abbrev pub DeliversAndMay : List ℕ → Standing S D → Standing S D → List ℕ → List ℕ → Type 0
  DeliversAndMay bytes before after output output' =
      Delivers before after output output'
      ⊎ ((mid : List ℕ) × Delivers before after output mid × (output' ≡ mid ++ bytes))
