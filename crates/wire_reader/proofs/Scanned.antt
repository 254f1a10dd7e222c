-- What is taken of compact text.
use Rattle.std.proofs.Common.{◌≡◌, ℕ, ◌+◌, ◌*◌, ◌/◌, ◌%◌, ◌<◌, ◌≤◌, List, [], ◌∷◌, ◌++◌, true, length, get_or, map, take, refl, sym, ap, ◌∙◌, append_assoc, append-nil, arith}
use Rattle.std.specs.Fmt.{decimal}
use Rattle.std.specs.Prelude.{Bool}
use Rattle.std.specs.List.{list_all, flat_map, join_by}
use Rattle.std.proofs.lemmas.Bool.{and_from, and_parts}
use Rattle.std.proofs.lemmas.Fmt.{decimal_step, decimal_digit}
use Rattle.std.proofs.lemmas.Grind.{flat_map-append}
use Rattle.std.proofs.lemmas.List.{take_more}
use Rattle.json.specs.Print.{quoted}
use Rattle.serde_json.specs.Data.{Data}
use Rattle.serde_json.specs.Written.{compact_text}
use Rattle.wire.specs.Form.{list_form}
use Rattle.wire.specs.steps.Quoting.{is_plain_byte}
use Rattle.wire.proofs.Pages.{items_joined}
use Rattle.wire.proofs.Quoting.{quoted_plain}

-- one digit more of a number that is not 0
more_digits : (n d : ℕ) → 0 < n → n ≤ 99999999 → d < 10 → decimal (n * 10 + d) ≡ decimal n ++ (48 + d) ∷ []
more_digits n d some few digit =
    let front : (n * 10 + d) / 10 ≡ n = omega arith in
    let last : (n * 10 + d) % 10 ≡ d = omega arith in
    decimal_step (n * 10 + d) (omega arith) (omega arith) ∙ ap (λ m. decimal m ++ (48 + (n * 10 + d) % 10) ∷ []) front ∙ ap (λ (e : ℕ). decimal n ++ (48 + e) ∷ []) last

pub first_digit : (d : ℕ) (text rest : List ℕ) → d < 10 → text ≡ (48 + d) ∷ rest → text ≡ decimal d ++ rest
first_digit d text rest digit e = e ∙ ap (λ s. s ++ rest) (sym (decimal_digit d digit))

pub next_digit : (n d : ℕ) (text middle rest : List ℕ) → 0 < n → n ≤ 99999999 → d < 10 → text ≡ decimal n ++ middle → middle ≡ (48 + d) ∷ rest → text ≡ decimal (n * 10 + d) ++ rest
next_digit n d text middle rest some few digit front e =
    front ∙ ap (λ s. decimal n ++ s) e ∙ sym (append_assoc (decimal n) ((48 + d) ∷ []) rest) ∙ ap (λ s. s ++ rest) (sym (more_digits n d some few digit))

-- ---- texts in quotes

all_push : {X : Type 0} (p : X → Bool) (xs : List X) (x : X) → list_all p xs ≡ true → p x ≡ true → list_all p (xs ++ x ∷ []) ≡ true
all_push p [] x all one = and_from (p x) true one refl
all_push p (y ∷ ys) x all one = let both = and_parts (p y) (list_all p ys) all in and_from (p y) (list_all p (ys ++ x ∷ [])) both.0 (all_push p ys x both.1 one)

pub all_more : (p : ℕ → Bool) (xs : List ℕ) (i : ℕ) → i < length xs → list_all p (take i xs) ≡ true → p (get_or xs i 0) ≡ true → list_all p (take (i + 1) xs) ≡ true
all_more p xs i within all one = ap (list_all p) (take_more xs i 0 within) ∙ all_push p (take i xs) (get_or xs i 0) all one

pub quoted_front : (text first middle rest content : List ℕ) → text ≡ 34 ∷ first → first ≡ content ++ middle → middle ≡ 34 ∷ rest → list_all is_plain_byte content ≡ true → text ≡ quoted content ++ rest
quoted_front text first middle rest content e f g plain =
    e ∙ ap (λ s. 34 ∷ s) (f ∙ ap (λ s. content ++ s) g) ∙ sym (append_assoc (34 ∷ content) (34 ∷ []) rest) ∙ ap (λ s. s ++ rest) (quoted_plain [] content plain)

-- ---- lists

join_push : {X : Type 0} (text : X → List ℕ) (xs : List X) (x : X) → 0 < length xs → join_by text (44 ∷ []) (xs ++ x ∷ []) ≡ join_by text (44 ∷ []) xs ++ 44 ∷ text x
join_push text [] x some = absurd (omega arith)
join_push {X} text (y ∷ ys) x some =
    let after : X → List ℕ = λ z. 44 ∷ text z in
    ap (λ (s : List ℕ). text y ++ s) (flat_map-append after ys (x ∷ []) ∙ ap (λ (s : List ℕ). flat_map after ys ++ s) (append-nil (44 ∷ text x)))
    ∙ sym (append_assoc (text y) (flat_map after ys) (44 ∷ text x))

-- one part more of a list
pub next_part : {X : Type 0} (form : X → Data) (xs ys : List X) (x : X) (text front middle rest : List ℕ) → 0 < length xs → ys ≡ xs ++ x ∷ [] → text ≡ (91 ∷ join_by (λ x. compact_text (form x)) (44 ∷ []) xs) ++ front → front ≡ 44 ∷ middle → middle ≡ compact_text (form x) ++ rest
    → text ≡ (91 ∷ join_by (λ x. compact_text (form x)) (44 ∷ []) ys) ++ rest
next_part {X} form xs ys x text front middle rest some more e f g =
    let one : X → List ℕ = λ x. compact_text (form x) in
    let joined = join_by one (44 ∷ []) xs in
    e ∙ ap (λ (s : List ℕ). (91 ∷ joined) ++ s) (f ∙ ap (λ (s : List ℕ). 44 ∷ s) g)
    ∙ sym (append_assoc (91 ∷ joined) (44 ∷ one x) rest)
    ∙ ap (λ (s : List ℕ). 91 ∷ (s ++ rest)) (sym (join_push one xs x some) ∙ ap (join_by one (44 ∷ [])) (sym more))

-- its end
pub last_part : {X : Type 0} (form : X → Data) (xs : List X) (text front rest : List ℕ) → text ≡ (91 ∷ join_by (λ x. compact_text (form x)) (44 ∷ []) xs) ++ front → front ≡ 93 ∷ rest → text ≡ compact_text (list_form (map form xs)) ++ rest
last_part {X} form xs text front rest e f =
    let joined = join_by (λ x. compact_text (form x)) (44 ∷ []) xs in
    e ∙ ap (λ (s : List ℕ). (91 ∷ joined) ++ s) f ∙ sym (append_assoc (91 ∷ joined) (93 ∷ []) rest) ∙ ap (λ (s : List ℕ). 91 ∷ (s ++ rest)) (sym (items_joined form xs))
