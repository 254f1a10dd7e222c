-- Lines, and what goes out for them.
use Rattle.std.proofs.Common.{◌≡◌, ◌≢◌, ℕ, ◌+◌, ◌-◌, ◌*◌, ◌^◌, ◌<◌, ◌&&◌, ltb, eqb, List, [], ◌∷◌, ◌++◌, append-nil, length, get_or, take, drop, Some, None, false, cond, zero, suc, refl, sym, ap, subst, ◌∙◌, arith}
use Rattle.std.specs.Char.{is_ascii_digit}
use Rattle.std.proofs.lemmas.List.{drop_more, take_all, take-append-drop}
use Rattle.std.proofs.lemmas.Bool.{ne_eqb, eqb-true, eq-eqb}
use Rattle.memchr.specs.Find.{Nowhere, NoneBefore, Passes, is_byte}
use Rattle.wire.specs.Lines.{lines_of, onto_first}
use Rattle.wire.specs.steps.OneLine.{IsOneLine}
use Rattle.world.specs.steps.State.{WorldState, names_of, rooms_of, message_of}
use Rattle.world.specs.steps.Messages.{message_in, number_then}
use Rattle.world.specs.steps.Ends.{output_of, end_of, text_for, rooms_for, lines_out, lines_end}

pub number_then_more : (value : ℕ) (bytes : List ℕ) (i : ℕ) → i < length bytes
    → number_then value (drop i bytes) ≡ cond (eqb (get_or bytes i 0) 32) (Some (message_of value (drop (i + 1) bytes)))
    (cond (is_ascii_digit (get_or bytes i 0) && ltb 0 value && ltb (value * 10 + (get_or bytes i 0 - 48)) (2 ^ 32)) (number_then (value * 10 + (get_or bytes i 0 - 48)) (drop (i + 1) bytes)) None)
number_then_more value bytes i lt = ap (number_then value) (drop_more bytes i 0 lt)

-- ---- where lines end

pub lines_break : (line rest : List ℕ) → IsOneLine line → lines_of (line ++ 10 ∷ rest) ≡ line ∷ lines_of rest
lines_break [] rest h = refl
lines_break (x ∷ line) rest h = rw (ne_eqb x 10 h.0) (ap (onto_first x) (lines_break line rest h.1))

pub lines_last : (x : ℕ) (line : List ℕ) → IsOneLine (x ∷ line) → lines_of (x ∷ line) ≡ (x ∷ line) ∷ []
lines_last x [] h = rw (ne_eqb x 10 h.0) refl
lines_last x (y ∷ line) h = rw (ne_eqb x 10 h.0) (ap (onto_first x) (lines_last y line h.1))

pub no_break_parts : (a b : List ℕ) → IsOneLine (a ++ b) → IsOneLine a × IsOneLine b
no_break_parts [] b h = (tt, h)
no_break_parts (x ∷ a) b h = let parts = no_break_parts a b h.1 in ((h.0, parts.0), parts.1)

-- none of the first bytes is a line break
no_break_front : (bytes : List ℕ) (n : ℕ) → ((k : ℕ) → k < n → get_or bytes k 0 ≢ 10) → IsOneLine (take n bytes)
no_break_front bytes zero h = tt
no_break_front [] (suc n) h = tt
no_break_front (x ∷ bytes) (suc n) h = (h 0 (omega arith), no_break_front bytes n (λ k lt. h (suc k) (omega (arith, lt))))

-- none was found
pub no_break_in : (bytes : List ℕ) → Nowhere (Passes (is_byte 10) bytes) 0 (length bytes) → IsOneLine bytes
no_break_in bytes none =
    subst IsOneLine (take_all (length bytes) bytes (omega arith)) (no_break_front bytes (length bytes) (λ k lt e. none k (omega arith) lt (eq-eqb _ _ e)))

-- the first was found
pub break_at : (bytes : List ℕ) (place : ℕ) → NoneBefore (Passes (is_byte 10) bytes) 0 (length bytes) place → Passes (is_byte 10) bytes place
    → (bytes ≡ take place bytes ++ 10 ∷ drop (place + 1) bytes) × IsOneLine (take place bytes)
break_at bytes place first found = (
  sym (take-append-drop place bytes) ∙ ap (λ xs. take place bytes ++ xs) (drop_more bytes place 0 first.high ∙ ap (λ x. x ∷ drop (place + 1) bytes) (eqb-true _ _ found)),
  no_break_front bytes place (λ k lt e. first.before k (omega arith) lt (eq-eqb _ _ e)),
)

pub output_last : (mid : WorldState) (line : List ℕ) → IsOneLine line → 0 < length line → output_of mid line ≡ text_for (names_of mid) (rooms_of mid) (message_in line)
output_last mid [] h some = absurd (omega (arith, some))
output_last mid (x ∷ line) h some = ap (lines_out (names_of mid) (rooms_of mid)) (lines_last x line h) ∙ append-nil _

pub end_last : (mid : WorldState) (line : List ℕ) → IsOneLine line → 0 < length line → end_of mid line ≡ rooms_for (names_of mid) (rooms_of mid) (message_in line)
end_last mid [] h some = absurd (omega (arith, some))
end_last mid (x ∷ line) h some = ap (lines_end (names_of mid) (rooms_of mid)) (lines_last x line h)

pub some_from_test : (n : ℕ) → false ≡ eqb n 0 → 0 < n
some_from_test zero e = absurd (cc)
some_from_test (suc n) e = omega arith
