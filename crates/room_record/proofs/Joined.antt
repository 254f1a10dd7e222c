-- Texts in one string, and the places where their commas end.
use Rattle.std.proofs.Common.{◌≡◌, ℕ, suc, zero, ◌+◌, ◌-◌, ◌<◌, ◌≤◌, List, [], ◌∷◌, ◌++◌, length, get_or, take, drop, refl, ap, sym, ◌∙◌, append_assoc, arith}
use Rattle.std.proofs.lemmas.Grind.{flat_map-append}
use Rattle.std.proofs.lemmas.List.{append-nil, drop_at, drop-take, length-append, length-drop, length-take, take_at, take-append-drop, take-take}
use Rattle.std.specs.List.{flat_map}
use Rattle.room_record.specs.steps.Texts.{AreJoined, before_commas, between_commas, ends_from, with_commas}

-- the places belong to the texts
texts_at_ends : (front : List ℕ) (ts : List (List ℕ)) (at : ℕ) → at ≡ length front → before_commas at (ends_from at ts) (front ++ with_commas ts) ≡ ts
texts_at_ends front [] at is = refl
texts_at_ends front (t ∷ ts) at is =
    let end = at + length t + 1 in
    let rest = with_commas ts in
    let after : front ++ ((t ++ 44 ∷ []) ++ rest) ≡ (front ++ (t ++ 44 ∷ [])) ++ rest = sym (append_assoc front (t ++ 44 ∷ []) rest) in
    let size : end ≡ length (front ++ (t ++ 44 ∷ [])) = simp length-append (omega (arith, is)) in
    let width : length t ≡ end - (at + 1) = omega arith in
    let first : take (end - (at + 1)) (drop at (front ++ ((t ++ 44 ∷ []) ++ rest))) ≡ t =
    ap (take (end - (at + 1))) (drop_at front ((t ++ 44 ∷ []) ++ rest) at (sym is) ∙ append_assoc t (44 ∷ []) rest)
    ∙ take_at t (44 ∷ rest) (end - (at + 1)) width in
    let others : before_commas end (ends_from end ts) (front ++ ((t ++ 44 ∷ []) ++ rest)) ≡ ts =
    ap (before_commas end (ends_from end ts)) after ∙ texts_at_ends (front ++ (t ++ 44 ∷ [])) ts end size in
    (λ i. first i ∷ others i)

-- one text more has one comma more
more_commas : (ts : List (List ℕ)) (t : List ℕ) → with_commas (ts ++ t ∷ []) ≡ with_commas ts ++ (t ++ 44 ∷ [])
more_commas ts t = flat_map-append (λ s. s ++ 44 ∷ []) ts (t ∷ []) ∙ ap (λ s. with_commas ts ++ s) (append-nil (t ++ 44 ∷ []))

-- and its end is the last
more_ends : (at : ℕ) (ts : List (List ℕ)) (t : List ℕ) → ends_from at (ts ++ t ∷ []) ≡ ends_from at ts ++ (at + length (with_commas (ts ++ t ∷ []))) ∷ []
more_ends at [] t =
    let size : at + length t + 1 ≡ at + length ((t ++ 44 ∷ []) ++ []) = simp length-append (omega arith) in
    ap (λ n. n ∷ []) size
more_ends at (s ∷ ts) t =
    let end = at + length s + 1 in
    let rest = with_commas (ts ++ t ∷ []) in
    let size : end + length rest ≡ at + length ((s ++ 44 ∷ []) ++ rest) = simp length-append (omega arith) in
    ap (λ es. end ∷ es) (more_ends end ts t ∙ ap (λ n. ends_from end ts ++ n ∷ []) size)

pub ends_counted : (at : ℕ) (ts : List (List ℕ)) → length (ends_from at ts) ≡ length ts
ends_counted at [] = refl
ends_counted at (t ∷ ts) = ap suc (ends_counted (at + length t + 1) ts)

-- an end says how long the texts before it are
end_found : (at : ℕ) (ts : List (List ℕ)) (k d : ℕ) → k < length ts → get_or (ends_from at ts) k d ≡ at + length (with_commas (take (suc k) ts))
end_found at [] k d l = absurd (omega arith)
end_found at (t ∷ ts) zero d l = let size : at + length t + 1 ≡ at + length ((t ++ 44 ∷ []) ++ []) = simp length-append (omega arith) in size
end_found at (t ∷ ts) (suc k) d l =
    let end = at + length t + 1 in
    let rest = with_commas (take (suc k) ts) in
    let size : end + length rest ≡ at + length ((t ++ 44 ∷ []) ++ rest) = simp length-append (omega arith) in
    end_found end ts k d (omega arith) ∙ size

-- texts with a comma behind each are texts with commas between them, and a comma
later_commas : (ts : List (List ℕ)) → 44 ∷ with_commas ts ≡ flat_map (λ t. 44 ∷ t) ts ++ 44 ∷ []
later_commas [] = refl
later_commas (t ∷ ts) =
    ap (λ s. 44 ∷ s) (append_assoc t (44 ∷ []) (with_commas ts) ∙ ap (λ s. t ++ s) (later_commas ts) ∙ sym (append_assoc t (flat_map (λ t. 44 ∷ t) ts) (44 ∷ [])))

last_comma : (ts : List (List ℕ)) → 0 < length ts → with_commas ts ≡ between_commas ts ++ 44 ∷ []
last_comma [] l = absurd (omega arith)
last_comma (t ∷ ts) l =
    append_assoc t (44 ∷ []) (with_commas ts) ∙ ap (λ s. t ++ s) (later_commas ts) ∙ sym (append_assoc t (flat_map (λ t. 44 ∷ t) ts) (44 ∷ []))

-- the texts before a place come first
commas_split : (n : ℕ) (ts : List (List ℕ)) → with_commas ts ≡ with_commas (take n ts) ++ with_commas (drop n ts)
commas_split n ts = ap with_commas (sym (take-append-drop n ts)) ∙ flat_map-append (λ s. s ++ 44 ∷ []) (take n ts) (drop n ts)

-- there is a comma before a place
pub a_comma : (ts : List (List ℕ)) (end : ℕ) → 0 < end → end ≤ length ts → 1 ≤ length (with_commas (take end ts))
a_comma ts end some all =
    let more : 0 < length (take end ts) = omega (arith, length-take end ts) in
    let size = ap length (last_comma (take end ts) more) ∙ length-append (between_commas (take end ts)) (44 ∷ []) in
    omega (arith, size)

-- the part from where a text begins to the comma of another has the texts between
pub part : (ts : List (List ℕ)) (from end start comma : ℕ) → from < end → end ≤ length ts
    → start ≡ length (with_commas (take from ts)) → comma + 1 ≡ length (with_commas (take end ts))
    → take (comma - start) (drop start (with_commas ts)) ≡ between_commas (take (end - from) (drop from ts))
part ts from end start comma less all starts ends =
    let count = end - from in
    let page = take count (drop from ts) in
    let later = with_commas (drop count (drop from ts)) in
    let front = with_commas (take from ts) in
    let some : 0 < length page = omega (arith, length-take count (drop from ts), length-drop from ts) in
    let is_end : end ≡ from + count = omega arith in
    let texts : with_commas page ≡ between_commas page ++ 44 ∷ [] = last_comma page some in
    let before : with_commas (take end ts) ≡ front ++ with_commas page =
    commas_split from (take end ts)
    ∙ (λ i. with_commas (take-take from end ts (omega arith) i) ++ with_commas ((ap (λ n. drop from (take n ts)) is_end ∙ drop-take from count ts) i)) in
    let size : comma + 1 ≡ start + (length (between_commas page) + 1) =
    ends ∙ ap length before ∙ length-append front (with_commas page)
    ∙ (λ i. sym starts i + (ap length texts ∙ length-append (between_commas page) (44 ∷ [])) i) in
    let rest : drop start (with_commas ts) ≡ between_commas page ++ 44 ∷ later =
    ap (drop start) (commas_split from ts) ∙ drop_at front (with_commas (drop from ts)) start (sym starts)
    ∙ commas_split count (drop from ts) ∙ ap (λ s. s ++ later) texts ∙ append_assoc (between_commas page) (44 ∷ []) later in
    ap (take (comma - start)) rest ∙ take_at (between_commas page) (44 ∷ later) (comma - start) (omega (arith, size))

-- such bytes and ends are those of these texts alone
pub texts_found : (joined ends : List ℕ) (ts : List (List ℕ)) → AreJoined joined ends ts → before_commas 0 ends joined ≡ ts
texts_found joined ends ts are = (λ i. before_commas 0 (are.1 i) (are.0 i)) ∙ texts_at_ends [] ts 0 refl

-- a text with its comma may follow them
pub one_more_joined : (joined ends : List ℕ) (ts : List (List ℕ)) (t more all : List ℕ) → AreJoined joined ends ts
    → more ≡ joined ++ (t ++ 44 ∷ []) → all ≡ ends ++ length more ∷ [] → AreJoined more all (ts ++ t ∷ [])
one_more_joined joined ends ts t more all are bytes places =
    let texts : more ≡ with_commas (ts ++ t ∷ []) = bytes ∙ ap (λ s. s ++ (t ++ 44 ∷ [])) are.0 ∙ sym (more_commas ts t) in
    let last : length more ≡ 0 + length (with_commas (ts ++ t ∷ [])) = ap length texts ∙ omega arith in
    (texts, places ∙ (λ i. are.1 i ++ last i ∷ []) ∙ sym (more_ends 0 ts t))

-- what is read before a place is the end of the texts before it
pub end_read : (ends : List ℕ) (ts : List (List ℕ)) (place end : ℕ) → ends ≡ ends_from 0 ts → 0 < place → place ≤ length ts
    → end ≡ get_or ends (place - 1) end → end ≡ length (with_commas (take place ts))
end_read ends ts place end are some all read =
    let next : suc (place - 1) ≡ place = omega arith in
    let found : get_or (ends_from 0 ts) (place - 1) end ≡ 0 + length (with_commas (take (suc (place - 1)) ts)) = end_found 0 ts (place - 1) end (omega arith) in
    read ∙ ap (λ es. get_or es (place - 1) end) are ∙ found ∙ ap (λ n. 0 + length (with_commas (take n ts))) next ∙ omega arith
