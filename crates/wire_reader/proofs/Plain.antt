-- How many elements at the front of a list pass a test.
use Rattle.std.proofs.Common.{◌≡◌, ℕ, zero, suc, ◌+◌, ◌<◌, ◌≤◌, ◌∙◌, Bool, true, false, cond, List, [], ◌∷◌, length, get_or, take, drop, refl, ap, arith}
use Rattle.std.specs.List.{list_all, prefix_len}
use Rattle.std.proofs.lemmas.Bool.{and_from, and_parts}

module _ {X : Type 0} (p : X → Bool) where
  -- behind some that pass it goes on
  pub skipped : (n : ℕ) (xs : List X) → n ≤ prefix_len p xs → prefix_len p xs ≡ n + prefix_len p (drop n xs)
  skipped zero xs h = omega arith
  skipped (suc n) [] h = absurd (omega arith)
  skipped (suc n) (x ∷ xs) h = by (p x) (skipped n xs) h
    where
      by : (b : Bool) → (n ≤ prefix_len p xs → prefix_len p xs ≡ n + prefix_len p (drop n xs)) → suc n ≤ cond b (1 + prefix_len p xs) 0 → cond b (1 + prefix_len p xs) 0 ≡ suc n + prefix_len p (drop n xs)
      by true more some = let rest = more (omega arith) in omega (arith, rest)
      by false more some = absurd (omega arith)

  pub all_passed : (n : ℕ) (xs : List X) → n ≤ length xs → list_all p (take n xs) ≡ true → n ≤ prefix_len p xs
  all_passed zero xs within all = omega arith
  all_passed (suc n) [] within all = absurd (omega arith)
  all_passed (suc n) (x ∷ xs) within all =
      let both = and_parts (p x) (list_all p (take n xs)) all in
      let more = all_passed n xs (omega arith) both.1 in
      let one : prefix_len p (x ∷ xs) ≡ 1 + prefix_len p xs = ap (λ b. cond b (1 + prefix_len p xs) 0) both.0 in
      omega (arith, more, one)

  pub stopped : (n : ℕ) (xs : List X) (d : X) → n < length xs → list_all p (take n xs) ≡ true → p (get_or xs n d) ≡ false → prefix_len p xs ≡ n
  stopped n [] d within all stop = absurd (omega arith)
  stopped zero (x ∷ xs) d within all stop = ap (λ b. cond b (1 + prefix_len p xs) 0) stop
  stopped (suc n) (x ∷ xs) d within all stop =
      let both = and_parts (p x) (list_all p (take n xs)) all in
      let more = stopped n xs d (omega arith) both.1 stop in
      let one : prefix_len p (x ∷ xs) ≡ 1 + prefix_len p xs = ap (λ b. cond b (1 + prefix_len p xs) 0) both.0 in
      omega (arith, more, one)

  -- those at the front of the list's front
  pub front_stopped : (m : ℕ) (xs : List X) → prefix_len p (take m xs) < m → prefix_len p (take m xs) ≡ prefix_len p xs
  front_stopped zero xs h = absurd (omega arith)
  front_stopped (suc m) [] h = refl
  front_stopped (suc m) (x ∷ xs) h = by (p x) (front_stopped m xs) h
    where
      by : (b : Bool) → (prefix_len p (take m xs) < m → prefix_len p (take m xs) ≡ prefix_len p xs) → cond b (1 + prefix_len p (take m xs)) 0 < suc m → cond b (1 + prefix_len p (take m xs)) 0 ≡ cond b (1 + prefix_len p xs) 0
      by true more few = ap (λ n. 1 + n) (more (omega arith))
      by false more few = refl

  pub front_passed : (m : ℕ) (xs : List X) → prefix_len p (take m xs) ≤ prefix_len p xs
  front_passed zero xs = omega arith
  front_passed (suc m) [] = omega arith
  front_passed (suc m) (x ∷ xs) = by (p x) (front_passed m xs)
    where
      by : (b : Bool) → prefix_len p (take m xs) ≤ prefix_len p xs → cond b (1 + prefix_len p (take m xs)) 0 ≤ cond b (1 + prefix_len p xs) 0
      by true more = omega (arith, more)
      by false more = omega arith

  pub front_passes : (xs : List X) → list_all p (take (prefix_len p xs) xs) ≡ true
  front_passes [] = refl
  front_passes (x ∷ xs) = by (p x) refl (front_passes xs)
    where
      by : (b : Bool) → p x ≡ b → list_all p (take (prefix_len p xs) xs) ≡ true → list_all p (take (cond b (1 + prefix_len p xs) 0) (x ∷ xs)) ≡ true
      by true passes more =
          let on : 1 + prefix_len p xs ≡ suc (prefix_len p xs) = omega arith in
          ap (λ n. list_all p (take n (x ∷ xs))) on ∙ and_from (p x) (list_all p (take (prefix_len p xs) xs)) passes more
      by false passes more = refl
