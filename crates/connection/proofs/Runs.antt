-- Runs of frames, one more at a time, and one behind the other.
use Rattle.std.proofs.Common.{◌≡◌, ℕ, Bool, [], ◌∷◌, ◌++◌, drop, Ok, Option, ap, subst}
use Rattle.websocket.specs.Connection.{Effect, read_step}
use Rattle.websocket.specs.declared.protocol.frame.codec.FrameStatus.TheVariants.{Complete}
use Rattle.connection.specs.declared.end.End.{End}
use Rattle.connection.specs.Standing.{ConnectionState, Standing}
use Rattle.connection.specs.Serving.{Does, IsPaused}
use Rattle.connection.specs.Receiving.{Run, Served}
use Rattle.connection.specs.Talks.{Block, Turn, Wait}

module _ {S D : Type 0} (turn : Turn S D) (waits : Wait S) (blocks : Block S) where
  pub served_snoc : (ps : Run) (p : ℕ × Effect) (a b c : ConnectionState S D) (mid : Standing S D) → Served turn waits blocks ps a b
      → ¬ IsPaused blocks b.standing → read_step b.protocol b.input ≡ Ok (Complete p) → Does turn waits p.1 b.standing mid
      → c ≡ record b { protocol = p.1.next; input = drop p.0 b.input; standing = mid } → Served turn waits blocks (ps ++ p ∷ []) a c
  served_snoc [] p a b c mid h room read d is = subst (λ (x : ConnectionState S D). Served turn waits blocks (p ∷ []) x c) h (room, read, mid, d, is)
  served_snoc (q ∷ ps) p a b c mid h room read d is =
      (h.0, h.1, h.2, h.3, served_snoc ps p (record a { protocol = q.1.next; input = drop q.0 a.input; standing = h.2 }) b c mid h.4 room read d is)

  pub served_both : (ps qs : Run) (a b c : ConnectionState S D) → Served turn waits blocks ps a b → Served turn waits blocks qs b c
      → Served turn waits blocks (ps ++ qs) a c
  served_both [] qs a b c h k = subst (λ (x : ConnectionState S D). Served turn waits blocks qs x c) h k
  served_both (p ∷ ps) qs a b c h k =
      (h.0, h.1, h.2, h.3, served_both ps qs (record a { protocol = p.1.next; input = drop p.0 a.input; standing = h.2 }) b c h.4 k)

  -- ---- whether the connection has ended or is behind changes nothing

  pub served_ended : (ended : Option End) (ps : Run) (a b : ConnectionState S D) → Served turn waits blocks ps a b
      → Served turn waits blocks ps (record a { ended = ended }) (record b { ended = ended })
  served_ended ended [] a b h = ap (λ (x : ConnectionState S D). record x { ended = ended }) h
  served_ended ended (p ∷ ps) a b h =
      (h.0, h.1, h.2, h.3, served_ended ended ps (record a { protocol = p.1.next; input = drop p.0 a.input; standing = h.2 }) b h.4)

  pub served_behind : (is_behind : Bool) (ps : Run) (a b : ConnectionState S D) → Served turn waits blocks ps a b
      → Served turn waits blocks ps (record a { is_behind = is_behind }) (record b { is_behind = is_behind })
  served_behind is_behind [] a b h = ap (λ (x : ConnectionState S D). record x { is_behind = is_behind }) h
  served_behind is_behind (p ∷ ps) a b h =
      (h.0, h.1, h.2, h.3, served_behind is_behind ps (record a { protocol = p.1.next; input = drop p.0 a.input; standing = h.2 }) b h.4)
