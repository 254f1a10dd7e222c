-- Whole lines, and what stands behind them.
use Rattle.std.proofs.Common.{◌≡◌, ◌≢◌, inl, inr, ℕ, ◌<◌, ◌==◌, List, [], ◌∷◌, ◌++◌, map, length, get_or, take, Some, ◌+◌, cond, refl, sym, ◌∙◌, ap, subst}
use Rattle.std.proofs.lemmas.List.{map-append, take_more}
use Rattle.std.proofs.lemmas.Bool.{cases_eq, ne_eqb, eq-eqb}
use Rattle.wire.specs.Lines.{onto_first, lines_of}
use Rattle.wire.specs.steps.OneLine.{IsOneLine}
use Rattle.rules.specs.declared.history.Entry.{Entry}
use Rattle.wire_reader.specs.steps.Reads.{entry_read}
use Rattle.record_file.specs.RecordText.{AreLines, onto_whole, whole_lines}

tail_or : List ℕ → List ℕ
tail_or [] = []
tail_or (x ∷ xs) = xs

-- a list with an element
IsMore : {X : Type 0} → List X → Type 0
IsMore [] = ⊥
IsMore (x ∷ xs) = Unit {0}

onto_back : (x : ℕ) (w xs : List ℕ) → onto_whole x w ≡ x ∷ xs → (w ≡ xs) × IsMore xs
unfolding IsMore tail_or
onto_back x [] xs e = absurd (subst (λ (l : List ℕ). IsMore l → ⊥) e (λ m. m) tt)
onto_back x (y ∷ w) xs e = let same : y ∷ w ≡ xs = ap tail_or e in (same, subst (λ (l : List ℕ). IsMore l) same tt)

onto_more : (x : ℕ) (w : List ℕ) → IsMore w → onto_whole x w ≡ x ∷ w
unfolding IsMore
onto_more x [] m = absurd m
onto_more x (y ∷ w) m = refl

more_left : (xs ys : List ℕ) → IsMore xs → IsMore (xs ++ ys)
unfolding IsMore
more_left [] ys m = absurd m
more_left (x ∷ xs) ys m = tt

onto_is_more : (x : ℕ) (ls : List (List ℕ)) → IsMore (onto_first x ls)
unfolding IsMore
onto_is_more x [] = tt
onto_is_more x (l ∷ ls) = tt

lines_more : (xs : List ℕ) → IsMore xs → IsMore (lines_of xs)
unfolding IsMore
lines_more [] m = absurd m
lines_more (x ∷ xs) m = elim (cases_eq x 10) [
  | inl is ↦ rw (eq-eqb x 10 is) tt
  | inr not ↦ rw (ne_eqb x 10 not) (onto_is_more x (lines_of xs))
]

onto_append : (x : ℕ) (ls ms : List (List ℕ)) → IsMore ls → onto_first x (ls ++ ms) ≡ onto_first x ls ++ ms
unfolding IsMore
onto_append x [] ms m = absurd m
onto_append x (l ∷ ls) ms m = refl

pub whole_append : (xs ys : List ℕ) → whole_lines xs ≡ xs → whole_lines (xs ++ ys) ≡ xs ++ whole_lines ys
unfolding tail_or
whole_append [] ys h = refl
whole_append (x ∷ xs) ys h = elim (cases_eq x 10) [
  | inl is ↦
      let e = eq-eqb x 10 is in
      let rest : whole_lines xs ≡ xs = ap tail_or (rw e at h) in
      rw e (ap (λ (l : List ℕ). x ∷ l) (whole_append xs ys rest))
  | inr not ↦
      let e = ne_eqb x 10 not in
      let back = onto_back x (whole_lines xs) xs (rw e at h) in
      rw e (ap (onto_whole x) (whole_append xs ys back.0) ∙ onto_more x (xs ++ whole_lines ys) (more_left xs (whole_lines ys) back.1))
]

pub lines_append : (xs ys : List ℕ) → whole_lines xs ≡ xs → lines_of (xs ++ ys) ≡ lines_of xs ++ lines_of ys
unfolding tail_or
lines_append [] ys h = refl
lines_append (x ∷ xs) ys h = elim (cases_eq x 10) [
  | inl is ↦
      let e = eq-eqb x 10 is in
      let rest : whole_lines xs ≡ xs = ap tail_or (rw e at h) in
      rw e (ap (λ (l : List (List ℕ)). [] ∷ l) (lines_append xs ys rest))
  | inr not ↦
      let e = ne_eqb x 10 not in
      let back = onto_back x (whole_lines xs) xs (rw e at h) in
      rw e (ap (onto_first x) (lines_append xs ys back.0) ∙ onto_append x (lines_of xs) (lines_of ys) (lines_more xs back.1))
]

pub stays : (bytes behind : List ℕ) → whole_lines bytes ≡ bytes → lines_of (whole_lines (bytes ++ behind)) ≡ lines_of bytes ++ lines_of (whole_lines behind)
stays bytes behind h = ap lines_of (whole_append bytes behind h) ∙ lines_append bytes (whole_lines behind) h

pub goes_on : (bytes behind : List ℕ) (r more : List Entry) → AreLines bytes r → AreLines behind more → AreLines (bytes ++ behind) (r ++ more)
goes_on bytes behind r more h k = record {
  whole = whole_append bytes behind h.whole ∙ ap (λ (l : List ℕ). bytes ++ l) k.whole;
  read = ap (map entry_read) (lines_append bytes behind h.whole) ∙ map-append entry_read (lines_of bytes) (lines_of behind)
      ∙ ap (λ l. l ++ map entry_read (lines_of behind)) h.read ∙ ap (λ l. map Some r ++ l) k.read ∙ sym (map-append Some r more);
}

-- ---- one line

ends_more : (l : List ℕ) → IsMore (l ++ 10 ∷ [])
unfolding IsMore
ends_more [] = tt
ends_more (y ∷ l) = tt

pub line_whole : (line : List ℕ) → IsOneLine line → whole_lines (line ++ 10 ∷ []) ≡ line ++ 10 ∷ []
line_whole [] h = refl
line_whole (x ∷ line) h = rw (ne_eqb x 10 h.0) (ap (onto_whole x) (line_whole line h.1) ∙ onto_more x (line ++ 10 ∷ []) (ends_more line))

pub line_lines : (line : List ℕ) → IsOneLine line → lines_of (line ++ 10 ∷ []) ≡ line ∷ []
line_lines [] h = refl
line_lines (x ∷ line) h = rw (ne_eqb x 10 h.0) (ap (onto_first x) (line_lines line h.1))

-- ---- a byte more

pub whole_push : (bytes : List ℕ) (x : ℕ) → x ≡ 10 → whole_lines (bytes ++ x ∷ []) ≡ bytes ++ x ∷ []
unfolding IsMore
whole_push [] x e = rw (eq-eqb x 10 e) refl
whole_push (y ∷ bytes) x e = elim (cases_eq y 10) [
  | inl is ↦ rw (eq-eqb y 10 is) (ap (λ (l : List ℕ). y ∷ l) (whole_push bytes x e))
  | inr not ↦ rw (ne_eqb y 10 not) (ap (onto_whole y) (whole_push bytes x e) ∙ onto_more y (bytes ++ x ∷ []) (last_more bytes x))
]
  where
    last_more : (l : List ℕ) (z : ℕ) → IsMore (l ++ z ∷ [])
    last_more [] z = tt
    last_more (y ∷ l) z = tt

pub part_push : (bytes : List ℕ) (x : ℕ) → x ≢ 10 → whole_lines (bytes ++ x ∷ []) ≡ whole_lines bytes
part_push [] x n = rw (ne_eqb x 10 n) refl
part_push (y ∷ bytes) x n = ap (λ (w : List ℕ). cond (y == 10) (y ∷ w) (onto_whole y w)) (part_push bytes x n)

pub part_here : (bytes : List ℕ) (place : ℕ) (x : ℕ) → place < length bytes → x ≡ get_or bytes place 0 → x ≡ 10 → take (place + 1) bytes ≡ whole_lines (take (place + 1) bytes)
part_here bytes place x lt at is = let more = take_more bytes place 0 lt in
    more ∙ sym (whole_push (take place bytes) (get_or bytes place 0) (sym at ∙ is)) ∙ ap whole_lines (sym more)

pub part_stays : (bytes : List ℕ) (end place : ℕ) (x : ℕ) → place < length bytes → x ≡ get_or bytes place 0 → x ≢ 10 → take end bytes ≡ whole_lines (take place bytes) → take end bytes ≡ whole_lines (take (place + 1) bytes)
part_stays bytes end place x lt at is so_far = let more = take_more bytes place 0 lt in
    so_far ∙ sym (part_push (take place bytes) (get_or bytes place 0) (λ e. is (at ∙ e))) ∙ ap whole_lines (sym more)
