-- Nothing is served while a held message blocks.
use Rattle.std.proofs.Common.{◌≡◌, inr, ℕ, List, [], ◌∷◌, ◌++◌, ap}
use Rattle.connection.specs.Standing.{ConnectionState}
use Rattle.connection.specs.Serving.{IsBlocked}
use Rattle.connection.specs.Receiving.{Run, Served}
use Rattle.connection.specs.Connections.{Receives}
use Rattle.connection.specs.Talks.{Block, Turn, Wait}

module _ {S D : Type 0} (turn : Turn S D) (waits : Wait S) (blocks : Block S) where
  none_served : (ps : Run) (a b : ConnectionState S D) → IsBlocked blocks a.standing → Served turn waits blocks ps a b → b ≡ a
  none_served [] a b blocked h = h
  none_served (p ∷ ps) a b blocked h = absurd (h.0 (inr (inr blocked)))

  pub none_received : (before after : ConnectionState S D) (bytes : List ℕ) → Receives turn waits blocks before bytes after → IsBlocked blocks before.standing
      → (after.standing ≡ before.standing) × (after.input ≡ before.input ++ bytes)
  none_received before after bytes r blocked =
      let same = none_served r.frames (record before { input = before.input ++ bytes }) (record after { is_behind = before.is_behind }) blocked r.served in
      (ap (λ (x : ConnectionState S D). x.standing) same, ap (λ (x : ConnectionState S D). x.input) same)
