use Rattle.std.proofs.Common.{◌≡◌, ◌+◌, ℕ, List, Some, sym, ◌∙◌, ap, arith, length, inl, inr}
use Rattle.std.proofs.lemmas.Bool.{le-ltb, lt-ltb, le-leb, lt-leb}
use Rattle.base_types.specs.RoomNames.{first_name, numbered, room_number}
use Rattle.base_types.proofs.RoomNames.{no_successor, next_is}
use Rattle.base_types.proofs.room_name.RoomName.successor.Goals as goal

-- the bytes are those of the next room's name
next : (name first items : List ℕ) (number : ℕ) → items ≡ numbered first (number + 1) → first ≡ first_name name → number ≡ room_number name → items ≡ numbered (first_name name) (room_number name + 1)
next name first items number made of_first of_number =
    made ∙ ap (λ (first : List ℕ). numbered first (number + 1)) of_first ∙ ap (λ n. numbered (first_name name) (n + 1)) of_number

pub returns-then-number-eq-MAX_ROOM_NUMBER : goal.returns-then-number-eq-MAX_ROOM_NUMBER
returns-then-number-eq-MAX_ROOM_NUMBER c =
    no_successor _ (inl (le-ltb _ _ (omega (arith, c.if-number-eq-MAX_ROOM_NUMBER.true, c.number-number.ensures.value))))

pub returns-then-len-gt-MAX_ROOM_LEN : goal.returns-then-len-gt-MAX_ROOM_LEN
returns-then-len-gt-MAX_ROOM_LEN c =
    let is = next c.args.self.now _ _ _ c.in_ok-name.ensures (c.first_name.ensures ∙ ap (λ (name : List ℕ). first_name name) (c.as_bytes.ensures.value ∙ c.text.ensures.text)) c.number-number.ensures.value in
    no_successor _ (inr (lt-leb _ _ (omega (arith, c.if-len-gt-MAX_ROOM_LEN.true, c.len.ensures, ap (λ (bytes : List ℕ). length bytes) is))))

pub returns-in-Ok : goal.returns-in-Ok
returns-in-Ok c =
    let is = next c.args.self.now _ _ _ c.in_ok-name.ensures (c.first_name.ensures ∙ ap (λ (name : List ℕ). first_name name) (c.as_bytes.ensures.value ∙ c.text.ensures.text)) c.number-number.ensures.value in
    ap (λ (name : List ℕ). Some name) (c.in-Ok.ensures.ok.0 ∙ c.as_slice.ensures.value ∙ is)
    ∙ next_is _ (lt-ltb _ _ (omega (arith, c.if-number-eq-MAX_ROOM_NUMBER.false, c.number-number.ensures.range, c.number-number.ensures.value)))
    (le-leb _ _ (omega (arith, c.if-len-gt-MAX_ROOM_LEN.false, c.len.ensures, ap (λ (bytes : List ℕ). length bytes) is)))
