-- Membership by recursion on the list, and what maps, tests and searches keep.
use Rattle.std.proofs.Common.{◌≡◌, ℕ, zero, suc, ◌+◌, ◌<◌, ◌≤◌, Bool, true, false, List, [], ◌∷◌, ◌++◌, length, get_or, map, drop, refl, sym, ap, ◌∙◌, subst, arith, ◌⊎◌, inl, inr, Some, None}
use Rattle.std.specs.Prelude.{Contains, filter, filter_map, flat_map, find, Option}
use Rattle.std.specs.List.{AllByRecursion, list_any, list_all, range_with_len, cons_option, refill}
use Rattle.std.proofs.lemmas.Bool.{cases_Bool, true≢false, or_cases, and_parts, and_from, or_left, or_right, cases_eq}
use Rattle.std.proofs.lemmas.List.{take-append-le, take_all}

abbrev pub In : {X : Type 0} → X → List X → Type 0
In x [] = ⊥
In x (y ∷ ys) = (x ≡ y) ⊎ In x ys

at_place : {X : Type 0} (x : X) (xs : List X) (k : ℕ) → k < length xs → get_or xs k x ≡ x → In x xs
at_place x [] k l e = absurd (omega arith)
at_place x (y ∷ ys) zero l e = inl (sym e)
at_place x (y ∷ ys) (suc k) l e = inr (at_place x ys k (omega arith) e)

pub In-from_Contains : {X : Type 0} (x : X) (xs : List X) → Contains xs x → In x xs
In-from_Contains x xs c = at_place x xs c.0 c.1 c.2

pub Contains-from_In : {X : Type 0} (x : X) (xs : List X) → In x xs → Contains xs x
Contains-from_In x [] m = absurd m
Contains-from_In x (y ∷ ys) m = elim m [ inl e ↦ (0, omega arith, sym e) | inr r ↦ (let c = Contains-from_In x ys r in (suc c.0, omega arith, c.2)) ]

pub In-append_left : {X : Type 0} (x : X) (xs ys : List X) → In x xs → In x (xs ++ ys)
In-append_left x [] ys m = absurd m
In-append_left x (z ∷ zs) ys m = elim m [ inl e ↦ inl e | inr r ↦ inr (In-append_left x zs ys r) ]

pub In-append_right : {X : Type 0} (x : X) (xs ys : List X) → In x ys → In x (xs ++ ys)
In-append_right x [] ys m = m
In-append_right x (z ∷ zs) ys m = inr (In-append_right x zs ys m)

pub In-append_cases : {X : Type 0} (x : X) (xs ys : List X) → In x (xs ++ ys) → In x xs ⊎ In x ys
In-append_cases x [] ys m = inr m
In-append_cases x (z ∷ zs) ys m = elim m [ inl e ↦ inl (inl e) | inr r ↦ elim (In-append_cases x zs ys r) [ inl a ↦ inl (inr a) | inr b ↦ inr b ] ]

pub In-map : {X Y : Type 0} (f : X → Y) (x : X) (xs : List X) → In x xs → In (f x) (map f xs)
In-map f x [] m = absurd m
In-map f x (z ∷ zs) m = elim m [ inl e ↦ inl (ap f e) | inr r ↦ inr (In-map f x zs r) ]

pub In-map_back : {X Y : Type 0} (f : X → Y) (y : Y) (xs : List X) → In y (map f xs) → (x : X) × In x xs × (y ≡ f x)
In-map_back f y [] m = absurd m
In-map_back f y (z ∷ zs) m = elim m [ inl e ↦ (z, inl refl, e) | inr r ↦ (let c = In-map_back f y zs r in (c.0, inr c.1, c.2)) ]

pub In-filter : {X : Type 0} (p : X → Bool) (x : X) (xs : List X) → In x xs → p x ≡ true → In x (filter p xs)
In-filter p x [] m t = absurd m
In-filter p x (z ∷ zs) m t =
    elim (cases_Bool (p z)) [
      | inl e ↦ rw e (elim m [ inl q ↦ inl q | inr r ↦ inr (In-filter p x zs r t) ])
      | inr e ↦ rw e (elim m [ inl q ↦ absurd (true≢false (sym t ∙ ap p q ∙ e)) | inr r ↦ In-filter p x zs r t ])
    ]

pub In-filter_back : {X : Type 0} (p : X → Bool) (x : X) (xs : List X) → In x (filter p xs) → In x xs × (p x ≡ true)
In-filter_back p x [] m = absurd m
In-filter_back p x (z ∷ zs) m =
    elim (cases_Bool (p z)) [
      | inl e ↦ (let n : In x (z ∷ filter p zs) = rw e at m in elim n [ inl q ↦ (inl q, ap p q ∙ e) | inr r ↦ (let c = In-filter_back p x zs r in (inr c.0, c.1)) ])
      | inr e ↦ (let n : In x (filter p zs) = rw e at m in let c = In-filter_back p x zs n in (inr c.0, c.1))
    ]

pub In-filter_map : {X Y : Type 0} (h : X → Option Y) (x : X) (y : Y) (xs : List X) → In x xs → h x ≡ Some y → In y (filter_map h xs)
In-filter_map {X} {Y} h x y [] m e = absurd m
In-filter_map {X} {Y} h x y (z ∷ zs) m e =
    elim m [
      | inl q ↦ (let s : h z ≡ Some y = sym (ap h q) ∙ e in rw s (inl refl))
      | inr r ↦ behind (h z) (In-filter_map h x y zs r e)
    ]
  where
    behind : (o : Option Y) → In y (filter_map h zs) → In y (cons_option o (filter_map h zs))
    behind None n = n
    behind (Some w) n = inr n

pub In-filter_map_back : {X Y : Type 0} (h : X → Option Y) (y : Y) (xs : List X) → In y (filter_map h xs) → (x : X) × In x xs × (h x ≡ Some y)
In-filter_map_back h y [] m = absurd m
In-filter_map_back {X} {Y} h y (z ∷ zs) m = split (h z) refl m (λ r. In-filter_map_back h y zs r)
  where
    split : (o : Option Y) → h z ≡ o → In y (cons_option o (filter_map h zs)) → (In y (filter_map h zs) → (x : X) × In x zs × (h x ≡ Some y)) → (x : X) × In x (z ∷ zs) × (h x ≡ Some y)
    split None q n f = let c = f n in (c.0, inr c.1, c.2)
    split (Some w) q n f = elim n [ inl e ↦ (z, inl refl, q ∙ ap Some (sym e)) | inr r ↦ (let c = f r in (c.0, inr c.1, c.2)) ]

pub In-flat_map : {X Y : Type 0} (f : X → List Y) (x : X) (y : Y) (xs : List X) → In x xs → In y (f x) → In y (flat_map f xs)
In-flat_map f x y [] m n = absurd m
In-flat_map f x y (z ∷ zs) m n = elim m [
  | inl q ↦ In-append_left y (f z) (flat_map f zs) (rw q at n)
  | inr r ↦ In-append_right y (f z) (flat_map f zs) (In-flat_map f x y zs r n)
]

pub In-flat_map_back : {X Y : Type 0} (f : X → List Y) (y : Y) (xs : List X) → In y (flat_map f xs) → (x : X) × In x xs × In y (f x)
In-flat_map_back f y [] m = absurd m
In-flat_map_back f y (z ∷ zs) m = elim (In-append_cases y (f z) (flat_map f zs) m) [
  | inl a ↦ (z, inl refl, a)
  | inr r ↦ (let c = In-flat_map_back f y zs r in (c.0, inr c.1, c.2))
]

pub In-range : (a c n : ℕ) → a ≤ n → n < a + c → In n (range_with_len a c)
In-range a zero n l u = absurd (omega arith)
In-range a (suc c) n l u = elim (cases_eq n a) [ inl e ↦ inl e | inr d ↦ inr (In-range (a + 1) c n (omega arith) (omega arith)) ]

pub In-range_back : (a c n : ℕ) → In n (range_with_len a c) → (a ≤ n) × (n < a + c)
In-range_back a zero n m = absurd m
In-range_back a (suc c) n m = elim m [ inl e ↦ omega arith | inr r ↦ (let b = In-range_back (a + 1) c n r in omega arith) ]

pub any_from : {X : Type 0} (p : X → Bool) (x : X) (xs : List X) → In x xs → p x ≡ true → list_any p xs ≡ true
any_from p x [] m t = absurd m
any_from p x (z ∷ zs) m t = elim m [ inl e ↦ or_left (p z) _ (ap p (sym e) ∙ t) | inr r ↦ or_right (p z) _ (any_from p x zs r t) ]

pub any_back : {X : Type 0} (p : X → Bool) (xs : List X) → list_any p xs ≡ true → (x : X) × In x xs × (p x ≡ true)
any_back p [] t = absurd (true≢false (sym t))
any_back p (z ∷ zs) t = elim (or_cases (p z) _ t) [ inl e ↦ (z, inl refl, e) | inr r ↦ (let c = any_back p zs r in (c.0, inr c.1, c.2)) ]

pub all_from : {X : Type 0} (p : X → Bool) (xs : List X) → ((x : X) → In x xs → p x ≡ true) → list_all p xs ≡ true
all_from p [] f = refl
all_from p (z ∷ zs) f = and_from (p z) _ (f z (inl refl)) (all_from p zs (λ x m. f x (inr m)))

pub all_back : {X : Type 0} (p : X → Bool) (xs : List X) → list_all p xs ≡ true → (x : X) → In x xs → p x ≡ true
all_back p [] t x m = absurd m
all_back p (z ∷ zs) t x m = let c = and_parts (p z) (list_all p zs) t in elim m [ inl e ↦ ap p e ∙ c.0 | inr r ↦ all_back p zs c.1 x r ]

-- what holds of all members by recursion holds of each
pub all_at : {X : Type 0} (P : X → Type 0) (xs : List X) → AllByRecursion P xs → (x : X) → In x xs → P x
all_at P [] all x m = absurd m
all_at P (y ∷ ys) all x m = elim m [ inl e ↦ subst P (sym e) all.0 | inr r ↦ all_at P ys all.1 x r ]

-- tests that agree on the members
pub any_agree : {X : Type 0} (p q : X → Bool) (xs : List X) → ((x : X) → In x xs → p x ≡ q x) → list_any p xs ≡ list_any q xs
any_agree p q [] f = refl
any_agree p q (z ∷ zs) f = let e = f z (inl refl) in let r = any_agree p q zs (λ x m. f x (inr m)) in cc

pub all_agree : {X : Type 0} (p q : X → Bool) (xs : List X) → ((x : X) → In x xs → p x ≡ q x) → list_all p xs ≡ list_all q xs
all_agree p q [] f = refl
all_agree p q (z ∷ zs) f = let e = f z (inl refl) in let r = all_agree p q zs (λ x m. f x (inr m)) in cc

pub filter_agree : {X : Type 0} (p q : X → Bool) (xs : List X) → ((x : X) → In x xs → p x ≡ q x) → filter p xs ≡ filter q xs
filter_agree p q [] f = refl
filter_agree p q (z ∷ zs) f = let e = f z (inl refl) in let r = filter_agree p q zs (λ x m. f x (inr m)) in cc

-- a test that keeps what another keeps
pub filter_inner : {X : Type 0} (p q : X → Bool) (xs : List X) → ((x : X) → In x xs → p x ≡ true → q x ≡ true) → filter p (filter q xs) ≡ filter p xs
filter_inner p q [] f = refl
filter_inner p q (x ∷ xs) f =
    let rest = filter_inner p q xs (λ y m. f y (inr m)) in
    elim (cases_Bool (q x)) [
      | inl t ↦ rw t (elim (cases_Bool (p x)) [ inl e ↦ rw e (ap (λ l. x ∷ l) rest) | inr e ↦ rw e rest ])
      | inr t ↦ rw t (elim (cases_Bool (p x)) [ inl e ↦ absurd (true≢false (sym (f x (inl refl) e) ∙ t)) | inr e ↦ rw e rest ])
    ]

pub find_agree : {X : Type 0} (p q : X → Bool) (xs : List X) → ((x : X) → In x xs → p x ≡ q x) → find p xs ≡ find q xs
find_agree p q [] f = refl
find_agree p q (z ∷ zs) f = let e = f z (inl refl) in let r = find_agree p q zs (λ x m. f x (inr m)) in cc

pub filter_map_agree : {X Y : Type 0} (p q : X → Option Y) (xs : List X) → ((x : X) → In x xs → p x ≡ q x) → filter_map p xs ≡ filter_map q xs
filter_map_agree p q [] f = refl
filter_map_agree p q (z ∷ zs) f = let e = f z (inl refl) in let r = filter_map_agree p q zs (λ x m. f x (inr m)) in cc

pub map_agree : {X Y : Type 0} (f g : X → Y) (xs : List X) → ((x : X) → In x xs → f x ≡ g x) → map f xs ≡ map g xs
map_agree f g [] e = refl
map_agree f g (z ∷ zs) e = λ i. e z (inl refl) i ∷ map_agree f g zs (λ x m. e x (inr m)) i

pub find_is : {X : Type 0} (p : X → Bool) (x : X) (xs : List X) → find p xs ≡ Some x → In x xs × (p x ≡ true)
find_is p x [] e = cc
find_is p x (z ∷ zs) e =
    elim (cases_Bool (p z)) [
      | inl t ↦ (let s : Some z ≡ Some x = rw t at e in let q : z ≡ x = cc in (inl (sym q), sym (ap p q) ∙ t))
      | inr t ↦ (let s : find p zs ≡ Some x = rw t at e in let c = find_is p x zs s in (inr c.0, c.1))
    ]

pub find_some : {X : Type 0} (p : X → Bool) (x : X) (xs : List X) → In x xs → p x ≡ true → (y : X) × (find p xs ≡ Some y)
find_some p x [] m t = absurd m
find_some p x (z ∷ zs) m t =
    elim (cases_Bool (p z)) [
      | inl s ↦ (z, rw s refl)
      | inr s ↦ elim m [ inl e ↦ absurd (true≢false (sym t ∙ ap p e ∙ s)) | inr r ↦ (let c = find_some p x zs r t in (c.0, rw s c.1)) ]
    ]

pub any_none : {X : Type 0} (p : X → Bool) (x : X) (xs : List X) → list_any p xs ≡ false → In x xs → p x ≡ false
any_none p x xs e m = elim (cases_Bool (p x)) [ inl t ↦ absurd (true≢false (sym (any_from p x xs m t) ∙ e)) | inr f ↦ f ]

pub find_none : {X : Type 0} (p : X → Bool) (x : X) (xs : List X) → find p xs ≡ None → In x xs → p x ≡ false
find_none p x xs e m = elim (cases_Bool (p x)) [ inl t ↦ (let c = find_some p x xs m t in let z : None ≡ Some c.0 = sym e ∙ c.1 in cc) | inr f ↦ f ]

-- members written back over as many
pub written : {X : Type 0} (old new : List X) → length new ≡ length old → refill (length old) old new ≡ new
written old new e = take-append-le (length old) new (drop (length new) old) (omega (arith, e)) ∙ take_all (length old) new (omega (arith, e))
