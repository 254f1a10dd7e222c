-- Bytes that come one piece after the other.
use Rattle.std.proofs.Common.{ℕ, List, [], ◌∷◌, ◌++◌, drop, ap, ◌∙◌, append_assoc}
use Rattle.std.proofs.lemmas.List.{drop-append-le}
use Rattle.websocket.proofs.StreamLemmas.{read_step-append, TookFrame_from_read}
use Rattle.connection.specs.Standing.{ConnectionState}
use Rattle.connection.specs.Receiving.{Run, Served}
use Rattle.connection.specs.Connections.{Receives}
use Rattle.connection.specs.Talks.{Block, Turn, Wait}
use Rattle.connection.proofs.Runs.{served_behind, served_both}

module _ {S D : Type 0} (turn : Turn S D) (waits : Wait S) (blocks : Block S) where
  -- more bytes behind change nothing for the frames before
  served_more : (more : List ℕ) (ps : Run) (a b : ConnectionState S D) → Served turn waits blocks ps a b
      → Served turn waits blocks ps (record a { input = a.input ++ more }) (record b { input = b.input ++ more })
  served_more more [] a b h = ap (λ (x : ConnectionState S D). record x { input = x.input ++ more }) h
  served_more more (p ∷ ps) a b h =
      let took = TookFrame_from_read a.protocol a.input p h.1 in (
        h.0,
        read_step-append a.protocol a.input more (λ k. cc (h.1, k.1)) ∙ h.1,
        h.2,
        h.3,
        rw (drop-append-le p.0 a.input more took.inside)
            (served_more more ps (record a { protocol = p.1.next; input = drop p.0 a.input; standing = h.2 }) b h.4),
      )

  pub both : (before mid after : ConnectionState S D) (first second : List ℕ) → Receives turn waits blocks before first mid
      → Receives turn waits blocks mid second after → Receives turn waits blocks before (first ++ second) after
  both before mid after first second h k =
      let reached = record mid { is_behind = before.is_behind } in
      let more = served_more second h.frames (record before { input = before.input ++ first }) reached h.served in
      let then = served_behind turn waits blocks before.is_behind k.frames (record mid { input = mid.input ++ second }) (record after { is_behind = mid.is_behind }) k.served in
      record {
        frames = h.frames ++ k.frames;
        served = served_both turn waits blocks h.frames k.frames (record before { input = before.input ++ (first ++ second) }) (record reached { input = mid.input ++ second })
            (record after { is_behind = before.is_behind }) (rw append_assoc at more) then;
        pauses = k.pauses;
        reads_all = k.reads_all;
      }
