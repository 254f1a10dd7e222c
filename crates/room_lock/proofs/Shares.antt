-- Shares that add up to a record are each as many as the entries of their site.
use Rattle.std.proofs.Common.{◌≡◌, ℕ, zero, suc, ◌+◌, ◌<◌, ◌≤◌, Bool, true, false, cond, not, List, [], ◌∷◌, length, map, refl, sym, ap, ◌∙◌, arith, eqb}
use Rattle.std.specs.Prelude.{sum_by}
use Rattle.std.specs.List.{range_with_len, AllByRecursion}
use Rattle.std.proofs.lemmas.Bool.{eqb-true, ne_eqb}
use Rattle.std.proofs.lemmas.List.Sums.{sum_by-cons}
use Rattle.rules.specs.declared.history.Entry.{Entry}
use Rattle.rules.specs.declared.history.Entry.TheVariants.{Join, Next, Operation}
use Rattle.rules.specs.Records.{is_end}
use Rattle.room_lock.specs.Sites.{is_of_site, count_of_sites}
use Rattle.room_lock.specs.Sites.{count_of_site}

-- 1 at the number
abbrev is_here : ℕ → ℕ → ℕ
is_here n site = cond (eqb n site) 1 0

-- of a run of numbers none is equal to a number less than the first, and no more than one to any
none_below : (n from count : ℕ) → n < from → sum_by (is_here n) (range_with_len from count) ≡ 0
none_below n from zero lt = refl
none_below n from (suc count) lt =
    let apart : eqb n from ≡ false = ne_eqb n from (λ e. omega (arith, e, lt)) in
    let rest = none_below n (from + 1) count (omega arith) in
    sum_by-cons (is_here n) from (range_with_len (from + 1) count) ∙ (λ i. cond (apart i) 1 0 + rest i)

one_if : (n from count : ℕ) (b : Bool) → eqb n from ≡ b → sum_by (is_here n) (range_with_len (from + 1) count) ≤ 1
    → cond b 1 0 + sum_by (is_here n) (range_with_len (from + 1) count) ≤ 1
one_if n from count true e rest = let none = none_below n (from + 1) count (omega (arith, eqb-true n from e)) in omega (arith, none)
one_if n from count false e rest = omega (arith, rest)

one_at_most : (n from count : ℕ) → sum_by (is_here n) (range_with_len from count) ≤ 1
one_at_most n from zero = omega arith
one_at_most n from (suc count) =
    let rest = one_at_most n (from + 1) count in
    let first = sum_by-cons (is_here n) from (range_with_len (from + 1) count) in
    let both = one_if n from count (eqb n from) refl rest in
    omega (arith, first, both)

-- sums of two at each number
sum_of_two : (f g : ℕ → ℕ) (xs : List ℕ) → sum_by (λ x. f x + g x) xs ≡ sum_by f xs + sum_by g xs
sum_of_two f g [] = refl
sum_of_two f g (x ∷ xs) =
    let rest = sum_of_two f g xs in
    let both = sum_by-cons (λ x. f x + g x) x xs in
    let one = sum_by-cons f x xs in
    let other = sum_by-cons g x xs in
    omega (arith, rest, both, one, other)

sum_same : {X : Type 0} (f g : X → ℕ) (xs : List X) → ((x : X) → f x ≡ g x) → sum_by f xs ≡ sum_by g xs
sum_same f g [] same = refl
sum_same f g (x ∷ xs) same = sum_by-cons f x xs ∙ (λ i. same x i + sum_same f g xs same i) ∙ sym (sum_by-cons g x xs)

sum_of_zero : (xs : List ℕ) → sum_by (λ x. 0) xs ≡ 0
sum_of_zero [] = refl
sum_of_zero (x ∷ xs) = let first = sum_by-cons (λ y. 0) x xs in let rest = sum_of_zero xs in omega (arith, first, rest)

-- an entry is of one site at most, and an end of none
one_entry : (from count : ℕ) (e : Entry) → sum_by (λ site. cond (is_of_site site e) 1 0) (range_with_len from count) ≤ cond (not (is_end e)) 1 0
one_entry from count (Join site) = one_at_most site from count
one_entry from count (Operation op) = one_at_most op.name.0 from count
one_entry from count (Next n) = let none = sum_of_zero (range_with_len from count) in omega (arith, none)

-- all sites together have no more entries than there are beside the end
pub counts_within : (from count : ℕ) (r : List Entry) → sum_by (λ site. count_of_site site r) (range_with_len from count) ≤ count_of_sites r
counts_within from count [] = let none = sum_of_zero (range_with_len from count) in omega (arith, none)
counts_within from count (e ∷ r) =
    let sites = range_with_len from count in
    let split : sum_by (λ site. count_of_site site (e ∷ r)) sites ≡ sum_by (λ site. cond (is_of_site site e) 1 0 + count_of_site site r) sites =
    sum_same (λ site. count_of_site site (e ∷ r)) (λ site. cond (is_of_site site e) 1 0 + count_of_site site r) sites
    (λ site. sum_by-cons (λ x. cond (is_of_site site x) 1 0) e r) in
    let two = sum_of_two (λ site. cond (is_of_site site e) 1 0) (λ site. count_of_site site r) sites in
    let one = one_entry from count e in
    let rest = counts_within from count r in
    let more = sum_by-cons (λ x. cond (not (is_end x)) 1 0) e r in
    omega (arith, split, two, one, rest, more)

-- where each is at most another, and together they are no less, each is the other
module _ {X : Type 0} (f g : X → ℕ) where
  sum_within : (xs : List X) → AllByRecursion (λ x. f x ≤ g x) xs → sum_by f xs ≤ sum_by g xs
  sum_within [] all = omega arith
  sum_within (x ∷ xs) all =
      let first = all.0 in
      let rest = sum_within xs all.1 in
      let one = sum_by-cons f x xs in
      let other = sum_by-cons g x xs in
      omega (arith, first, rest, one, other)

  pub each_same : (xs : List X) → AllByRecursion (λ x. f x ≤ g x) xs → sum_by g xs ≤ sum_by f xs → AllByRecursion (λ x. f x ≡ g x) xs
  each_same [] all le = tt
  each_same (x ∷ xs) all le =
      let first = all.0 in
      let within = sum_within xs all.1 in
      let one = sum_by-cons f x xs in
      let other = sum_by-cons g x xs in
      (omega (arith, first, within, le, one, other), each_same xs all.1 (omega (arith, first, le, one, other)))

-- a sum over what stands for numbers
pub sum_mapped : {X : Type 0} (h : ℕ → ℕ) (k : X → ℕ) (xs : List X) → sum_by (λ x. h (k x)) xs ≡ sum_by h (map k xs)
sum_mapped h k [] = refl
sum_mapped h k (x ∷ xs) = sum_by-cons (λ x. h (k x)) x xs ∙ ap (λ n. h (k x) + n) (sum_mapped h k xs) ∙ sym (sum_by-cons h (k x) (map k xs))
