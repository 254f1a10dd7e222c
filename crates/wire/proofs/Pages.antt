-- The texts of lists: their items with commas between them, in brackets.
use Rattle.std.proofs.Common.{◌≡◌, ℕ, zero, suc, ◌+◌, ◌<◌, List, [], ◌∷◌, ◌++◌, length, get_or, map, take, false, true, refl, ap, sym, ◌∙◌, append_assoc, arith}
use Rattle.std.proofs.lemmas.Grind.{flat_map-append}
use Rattle.std.proofs.lemmas.List.{append-nil, take_more}
use Rattle.std.specs.List.{flat_map, join_by}
use Rattle.serde_json.specs.Data.{Data}
use Rattle.serde_json.specs.View.{items_of}
use Rattle.serde_json.specs.Written.{compact_text, items_text}
use Rattle.rules.specs.declared.history.Entry.{Entry}
use Rattle.wire.specs.Form.{list_form, entry_form}
use Rattle.wire.specs.steps.Pages.{entries_text}

-- ---- texts with commas between them

-- the first text alone
pub first_text : {X : Type 0} (text : X → List ℕ) (xs : List X) (at : ℕ) (x : X) → at < length xs → x ≡ get_or xs at x → at ≡ 0
    → join_by text (44 ∷ []) (take (at + 1) xs) ≡ join_by text (44 ∷ []) (take at xs) ++ text x
first_text text [] at x l e z = absurd (omega arith)
first_text text (y ∷ ys) zero x l e z = append-nil (text y) ∙ ap text (sym e)
first_text text (y ∷ ys) (suc at) x l e z = absurd (omega (arith, z))

-- another text after a comma
pub next_text : {X : Type 0} (text : X → List ℕ) (xs : List X) (at : ℕ) (x : X) → at < length xs → x ≡ get_or xs at x → 0 < at
    → join_by text (44 ∷ []) (take (at + 1) xs) ≡ join_by text (44 ∷ []) (take at xs) ++ 44 ∷ text x
next_text text [] at x l e z = absurd (omega arith)
next_text text (y ∷ ys) zero x l e z = absurd (omega (arith, z))
next_text {X} text (y ∷ ys) (suc at) x l e z =
    let more : take (at + 1) ys ≡ take at ys ++ x ∷ [] = take_more ys at x (omega arith) ∙ ap (λ z. take at ys ++ z ∷ []) (sym e) in
    let one : suc at + 1 ≡ suc (at + 1) = omega arith in
    let after : X → List ℕ = λ z. 44 ∷ text z in
    ap (λ n. join_by text (44 ∷ []) (take n (y ∷ ys))) one
    ∙ ap (λ (zs : List X). text y ++ flat_map after zs) more
    ∙ ap (λ (s : List ℕ). text y ++ s) (flat_map-append after (take at ys) (x ∷ []) ∙ ap (λ (s : List ℕ). flat_map after (take at ys) ++ s) (append-nil (44 ∷ text x)))
    ∙ sym (append_assoc (text y) (flat_map after (take at ys)) (44 ∷ text x))

-- what follows the first text
after_first : {X : Type 0} (text : X → List ℕ) (xs : List X) → flat_map (λ x. 44 ∷ text x) xs ≡ flat_map (λ s. 44 ∷ s) (map text xs)
after_first text [] = refl
after_first text (x ∷ xs) = ap (λ s. 44 ∷ (text x ++ s)) (after_first text xs)

-- what is joined are the texts
pub of_texts : {X : Type 0} (text : X → List ℕ) (xs : List X) → join_by text (44 ∷ []) xs ≡ join_by (λ s. s) (44 ∷ []) (map text xs)
of_texts text [] = refl
of_texts text (x ∷ xs) = ap (λ s. text x ++ s) (after_first text xs)

-- ---- lists of forms

-- the items after others
pub later_items : {X : Type 0} (form : X → Data) (xs : List X) → items_text true (items_of (map form xs)) ≡ flat_map (λ x. 44 ∷ compact_text (form x)) xs ++ 93 ∷ []
later_items form [] = refl
later_items form (x ∷ xs) =
    ap (λ s. 44 ∷ (compact_text (form x) ++ s)) (later_items form xs)
    ∙ ap (λ s. 44 ∷ s) (sym (append_assoc (compact_text (form x)) (flat_map (λ x. 44 ∷ compact_text (form x)) xs) (93 ∷ [])))

-- the items of a list are their texts with commas between them, and its end
pub items_joined : {X : Type 0} (form : X → Data) (xs : List X) → items_text false (items_of (map form xs)) ≡ join_by (λ x. compact_text (form x)) (44 ∷ []) xs ++ 93 ∷ []
items_joined form [] = refl
items_joined form (x ∷ xs) =
    ap (λ s. compact_text (form x) ++ s) (later_items form xs)
    ∙ sym (append_assoc (compact_text (form x)) (flat_map (λ x. 44 ∷ compact_text (form x)) xs) (93 ∷ []))

-- one item more of a list that is begun
pub next_item : {X : Type 0} (form : X → Data) (xs : List X) (front : List ℕ) (at : ℕ) (x : X) → at < length xs → x ≡ get_or xs at x → 0 < at
    → ((front ++ 91 ∷ join_by (λ x. compact_text (form x)) (44 ∷ []) (take at xs)) ++ 44 ∷ []) ++ compact_text (form x) ≡ front ++ 91 ∷ join_by (λ x. compact_text (form x)) (44 ∷ []) (take (at + 1) xs)
next_item {X} form xs front at x l e z =
    let text : X → List ℕ = λ x. compact_text (form x) in
    let joined = join_by text (44 ∷ []) (take at xs) in
    append_assoc (front ++ 91 ∷ joined) (44 ∷ []) (text x) ∙ append_assoc front (91 ∷ joined) (44 ∷ text x) ∙ ap (λ s. front ++ 91 ∷ s) (sym (next_text text xs at x l e z))

-- its first item
pub first_item : {X : Type 0} (form : X → Data) (xs : List X) (front : List ℕ) (at : ℕ) (x : X) → at < length xs → x ≡ get_or xs at x → at ≡ 0
    → (front ++ 91 ∷ join_by (λ x. compact_text (form x)) (44 ∷ []) (take at xs)) ++ compact_text (form x) ≡ front ++ 91 ∷ join_by (λ x. compact_text (form x)) (44 ∷ []) (take (at + 1) xs)
first_item {X} form xs front at x l e z =
    let text : X → List ℕ = λ x. compact_text (form x) in
    let joined = join_by text (44 ∷ []) (take at xs) in
    append_assoc front (91 ∷ joined) (text x) ∙ ap (λ s. front ++ 91 ∷ s) (sym (first_text text xs at x l e z))

-- the list with its end
pub ended_list : {X : Type 0} (form : X → Data) (xs : List X) (front : List ℕ) → (front ++ 91 ∷ join_by (λ x. compact_text (form x)) (44 ∷ []) xs) ++ 93 ∷ [] ≡ front ++ compact_text (list_form (map form xs))
ended_list {X} form xs front =
    let joined = join_by (λ x. compact_text (form x)) (44 ∷ []) xs in
    append_assoc front (91 ∷ joined) (93 ∷ []) ∙ ap (λ s. front ++ 91 ∷ s) (sym (items_joined form xs))

-- ---- a page

-- a page in its brackets
pub page_in_brackets : (page : List Entry) (front : List ℕ) → ((front ++ 91 ∷ []) ++ entries_text page) ++ 93 ∷ [] ≡ front ++ compact_text (list_form (map entry_form page))
page_in_brackets page front = ap (λ s. s ++ 93 ∷ []) (append_assoc front (91 ∷ []) (entries_text page)) ∙ ended_list entry_form page front
