-- Where the first line ends.
use Rattle.std.proofs.Common.{◌≡◌, ℕ, ◌+◌, ◌<◌, Bool, true, false, cond, ltb, List, [], ◌∷◌, length, get_or, take, drop, zero, suc, refl, ap, ◌∙◌, arith, add-one}
use Rattle.std.specs.List.{position, position_or_len}
use Rattle.std.specs.Prelude.{Some, None}
use Rattle.std.proofs.lemmas.List.Quantifiers.{position-Some}
use Rattle.std.proofs.lemmas.List.Sums.{fails_before_first}
use Rattle.wire.specs.Lines.{ends_line, lines_of, onto_first}

lines_at : (bytes : List ℕ) (i : ℕ) → i < length bytes → ends_line (get_or bytes i 0) ≡ true → ((k : ℕ) → k < i → ends_line (get_or bytes k 0) ≡ false) → lines_of bytes ≡ take i bytes ∷ lines_of (drop (suc i) bytes)
lines_at [] i h e none = absurd (omega (arith, h))
lines_at (x ∷ bytes) zero h e none = ap (λ b. cond b ([] ∷ lines_of bytes) (onto_first x (lines_of bytes))) e
lines_at (x ∷ bytes) (suc i) h e none =
    ap (λ b. cond b ([] ∷ lines_of bytes) (onto_first x (lines_of bytes))) (none 0 (omega arith))
    ∙ ap (onto_first x) (lines_at bytes i (omega (arith, h)) e (λ k l. none (suc k) (omega (arith, l))))

pub lines_break_at : (bytes : List ℕ) (i : ℕ) → position ends_line bytes ≡ Some i → lines_of bytes ≡ take i bytes ∷ lines_of (drop (i + 1) bytes)
lines_break_at bytes i e =
    let f = position-Some ends_line bytes i 0 e in
    rw add-one (lines_at bytes i f.0 f.1 f.2)

lines_none : (x : ℕ) (bytes : List ℕ) → ((k : ℕ) → k < length (x ∷ bytes) → ends_line (get_or (x ∷ bytes) k 0) ≡ false) → lines_of (x ∷ bytes) ≡ (x ∷ bytes) ∷ []
lines_none x [] none = ap (λ b. cond b ([] ∷ []) ((x ∷ []) ∷ [])) (none 0 (omega arith))
lines_none x (y ∷ bytes) none =
    ap (λ b. cond b ([] ∷ lines_of (y ∷ bytes)) (onto_first x (lines_of (y ∷ bytes)))) (none 0 (omega arith))
    ∙ ap (onto_first x) (lines_none y bytes (λ k l. none (suc k) (omega (arith, l))))

none_within : (b : Bool) (i : ℕ) → cond b (Some i) None ≡ None → b ≡ false
none_within true i e = absurd (cc)
none_within false i e = refl

pub lines_without_break : (bytes : List ℕ) → 0 < length bytes → position ends_line bytes ≡ None → lines_of bytes ≡ bytes ∷ []
lines_without_break [] h e = absurd (omega (arith, h))
lines_without_break (x ∷ bytes) h e =
    let out : ltb (position_or_len ends_line (x ∷ bytes)) (length (x ∷ bytes)) ≡ false = none_within _ _ e in
    lines_none x bytes (λ k l. fails_before_first ends_line (x ∷ bytes) k 0 (grind (arith, out, l)))
