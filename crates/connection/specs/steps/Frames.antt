-- Frames whose bytes stand in one list.
use Rattle.std.specs.Prelude.{◌≡◌, ℕ, ◌+◌, List, [], ◌∷◌, ◌++◌, take, drop, IfSome}
use Rattle.connection.specs.declared.item.Item.{Item}
use Rattle.connection.specs.Standing.{QueuedFrame}

-- the frames whose bytes these are, one behind the other
abbrev pub frames_in : {D : Type 0} → List (Item D) → List ℕ → List (QueuedFrame D)
frames_in [] bytes = []
frames_in (item ∷ rest) bytes =
    record { bytes = take item.len bytes; reported = item.reported }
    ∷ frames_in rest (drop item.len bytes)

-- how many bytes they have together
abbrev pub total_len : {D : Type 0} → List (Item D) → ℕ
total_len [] = 0
total_len (item ∷ rest) = item.len + total_len rest

-- the first of the frames was moved to the output, and a receipt shows that what it reports is kept
abbrev pub IsRelease : {D R : Type 0} → (R → D → Type 0)
    → List (QueuedFrame D) → List (QueuedFrame D) → List ℕ → List ℕ → Type 0
IsRelease {D} {R} shows before after output output' =
    (item : QueuedFrame D) × (before ≡ item ∷ after)
    × (output' ≡ output ++ item.bytes)
    × IfSome item.reported (λ reported. (receipt : R) × shows receipt reported)
