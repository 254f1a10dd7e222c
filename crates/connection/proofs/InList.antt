-- Frames whose bytes stand in one list.
use Rattle.std.proofs.Common.{◌≡◌, ◌≤◌, ◌+◌, ◌-◌, ℕ, suc, List, [], ◌∷◌, ◌++◌, drop, length, Option, None, refl, ap, ap₂, ◌∙◌, arith, length-append, length-drop}
use Rattle.std.specs.Prelude.{flat_map, take}
use Rattle.std.proofs.lemmas.List.{drop-append-le, length-take-le, take-append-le}
use Rattle.std.proofs.Math.Seq.{take-length}
use Rattle.connection.specs.declared.item.Item.{Item}
use Rattle.connection.specs.Standing.{QueuedFrame, waiting_len}
use Rattle.connection.specs.Serving.{queued_reply}
use Rattle.connection.specs.steps.Frames.{frames_in, total_len}

module _ {D : Type 0} where
  pub count_in : (items : List (Item D)) (bytes : List ℕ) → length (frames_in items bytes) ≡ length items
  count_in [] bytes = refl
  count_in (item ∷ rest) bytes = ap suc (count_in rest (drop item.len bytes))

  pub len_in : (items : List (Item D)) (bytes : List ℕ) → total_len items ≡ length bytes → waiting_len (frames_in items bytes) ≡ length bytes
  len_in [] bytes e = e
  len_in (item ∷ rest) bytes e =
      let left = length-drop item.len bytes in
      let more = len_in rest (drop item.len bytes) (omega (arith, e, left)) in
      let first = length-take-le item.len bytes (omega (arith, e)) in
      omega (arith, e, left, more, first, length-append (take item.len bytes) (flat_map (λ (frame : QueuedFrame D). frame.bytes) (frames_in rest (drop item.len bytes))))

  pub total_more : (items : List (Item D)) (item : Item D) → total_len (items ++ item ∷ []) ≡ total_len items + item.len
  total_more [] item = omega arith
  total_more (first ∷ rest) item = omega (arith, total_more rest item)

  -- one more frame, with its bytes behind those of the others
  pub frames_more : (items : List (Item D)) (bytes more : List ℕ) (reported : Option D) → total_len items ≡ length bytes
      → frames_in (items ++ record { len = length more; reported = reported } ∷ []) (bytes ++ more)
      ≡ frames_in items bytes ++ record { bytes = more; reported = reported } ∷ []
  frames_more [] [] more reported e =
      ap (λ bytes. record { bytes = bytes; reported = reported } ∷ []) (take-length more)
  frames_more [] (b ∷ bytes) more reported e = absurd (omega (arith, e))
  frames_more (item ∷ rest) bytes more reported e =
      let fits : item.len ≤ length bytes = omega (arith, e) in
      let left = length-drop item.len bytes in
      let others = ap (frames_in (rest ++ record { len = length more; reported = reported } ∷ [])) (drop-append-le item.len bytes more fits)
      ∙ frames_more rest (drop item.len bytes) more reported (omega (arith, e, left)) in
      ap₂ (λ front (frames : List (QueuedFrame D)). record { bytes = front; reported = item.reported } ∷ frames) (take-append-le item.len bytes more fits) others

  -- ---- behind those that have left

  module _ (items : List (Item D)) (bytes : List ℕ) (left : ℕ) (all : left + total_len items ≡ length bytes) where
    behind : total_len items ≡ length (drop left bytes)
    behind = omega (arith, all, length-drop left bytes)

    pub len_behind : waiting_len (frames_in items (drop left bytes)) ≡ length bytes - left
    len_behind = len_in items (drop left bytes) behind ∙ length-drop left bytes

    module _ (items' : List (Item D)) (bytes' more : List ℕ) (len : ℕ) (reported : Option D)
        (is_more : bytes' ≡ bytes ++ more) (is_len : len ≡ length more)
        (is_item : items' ≡ items ++ record { len = len; reported = reported } ∷ []) where
      pub all_with : left + total_len items' ≡ length bytes'
      all_with =
          omega (arith, all, ap length is_more, length-append bytes more, is_len, ap total_len is_item, total_more items (record { len = len; reported = reported }))

      pub frames_with : frames_in items' (drop left bytes') ≡ frames_in items (drop left bytes) ++ record { bytes = more; reported = reported } ∷ []
      frames_with =
          ap₂ (λ (list : List (Item D)) list'. frames_in list list')
          (is_item ∙ ap (λ n. items ++ record { len = n; reported = reported } ∷ []) is_len)
          (ap (drop left) is_more ∙ drop-append-le left bytes more (omega (arith, all)))
          ∙ frames_more items (drop left bytes) more reported behind

  -- a reply with a byte waits as one frame
  pub queued_one : (frame : List ℕ) → (frame ≡ [] → ⊥) → queued_reply {D = D} frame ≡ record { bytes = frame; reported = None } ∷ []
  queued_one [] some = absurd (some refl)
  queued_one (b ∷ bs) some = refl
