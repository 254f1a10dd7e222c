-- Some of the places of a relation, gone over place by place.
use Rattle.std.proofs.Common.{◌≡◌, ℕ, ◌<◌, ◌≤◌, Bool, List, [], ◌∷◌, length, drop, map, not, refl, sym, ap, ◌∙◌, subst, inl, inr, ◌&&◌, arith}
use Rattle.std.specs.Prelude.{All, filter, slice_index_or}
use Rattle.std.proofs.lemmas.List.{drop_all}
use Rattle.std.proofs.lemmas.Bool.{cases_Bool}
use Rattle.std.proofs.lemmas.List.Filters.{length-filter_both}
use Rattle.std.proofs.lemmas.List.FromFn.{length-range_with_len}
use Rattle.rules.proofs.Lists.{In, In-filter_back, filter_agree}
use Rattle.rules.proofs.Once.{Once, Once-filter}
use Rattle.places.specs.steps.PlaceSet.{has, places, with_those}
use Rattle.places.proofs.Places.{Once-places, below, has-filter, has_if_in, all_below, all_in, in_all}
use Rattle.places.proofs.WordPlaces.{Up, has-kept, those_kept, up_filter, up_range}
use Rattle.base_types.specs.Names.{Name, name_cmp}
use Rattle.rules.specs.Lists.{sort_by}
use Rattle.rules.specs.Groups.{identifier, in_conflict_with}
use Rattle.version_ids.specs.steps.Scopes.{AreAmong}

pub low : (n : ℕ) (s : List ℕ) → AreAmong n s → (x : ℕ) → In x s → x < n
low n s w x m = below n x (In-filter_back (has s) x (places n) (subst (λ l. In x l) (sym w) m)).0

pub all_low : (n : ℕ) (s : List ℕ) → AreAmong n s → All (λ place. place < n) s
all_low n s w = all_below (has s) n s (sym w)

pub once : (n : ℕ) (s : List ℕ) → AreAmong n s → Once s
once n s w = subst Once w (Once-filter (has s) (places n) (Once-places n))

-- what a test keeps of them, tried at each of the first n places
pub filter_both : (p q : ℕ → Bool) (xs : List ℕ) → filter (λ x. p x && q x) xs ≡ filter q (filter p xs)
filter_both p q [] = refl
filter_both p q (x ∷ xs) = elim (cases_Bool (p x)) [
  | inl t ↦ rw t (elim (cases_Bool (q x)) [ inl u ↦ rw u (ap (λ l. x ∷ l) (filter_both p q xs)) | inr u ↦ rw u (filter_both p q xs) ])
  | inr t ↦ rw t (filter_both p q xs)
]

pub sifted : (n : ℕ) (s : List ℕ) → AreAmong n s → (test : ℕ → Bool) → filter (λ x. has s x && test x) (places n) ≡ filter test s
sifted n s w test = filter_both (has s) test (places n) ∙ ap (filter test) w

pub filter_among : (n : ℕ) (test : ℕ → Bool) → AreAmong n (filter test (places n))
filter_among n test = filter_agree (has (filter test (places n))) test (places n) (λ x m. has-filter test n x (below n x m))

pub filtered_among : (n : ℕ) (s : List ℕ) → AreAmong n s → (test : ℕ → Bool) → AreAmong n (filter test s)
filtered_among n s w test = subst (AreAmong n) (sifted n s w test) (filter_among n (λ x. has s x && test x))

pub kept_among : (n : ℕ) (s group : List ℕ) (test : ℕ → Bool) → AreAmong n s → group ≡ filter test s → AreAmong n group
kept_among n s group test w e = subst (AreAmong n) (sym e) (filtered_among n s w test)

pub kept_low : (n : ℕ) (s kept listed : List ℕ) (test : ℕ → Bool) → AreAmong n s → kept ≡ filter test s → listed ≡ kept → All (λ place. place < n) listed
kept_low n s kept listed test w e f = all_below (λ x. has s x && test x) n listed (f ∙ e ∙ sym (sifted n s w test))

-- ---- places in conflict with some

-- a set has those of the first places that pass a test
pub has_of_all : (n : ℕ) (s conflicting : List ℕ) (test : ℕ → Bool) → AreAmong n s → conflicting ≡ filter test (places n) → (x : ℕ) → In x s → has conflicting x ≡ test x
has_of_all n s conflicting test w e x m = ap (λ (l : List ℕ). has l x) e ∙ has-filter test n x (low n s w x m)

-- a set has those of some places that pass a test
pub has_of_some : (s conflicting : List ℕ) (test : ℕ → Bool) → conflicting ≡ filter test s → (x : ℕ) → In x s → has conflicting x ≡ test x
has_of_some s conflicting test e x m = ap (λ (l : List ℕ). has l x) e ∙ has-kept test s x ∙ (let h = has_if_in s x m in rw h refl)

pub left_compatible : (s conflicting kept : List ℕ) (test : ℕ → Bool) → conflicting ≡ filter test s → kept ≡ filter (λ x. not (has conflicting x)) s → kept ≡ filter (λ x. not (test x)) s
left_compatible s conflicting kept test e f = f ∙ filter_agree (λ x. not (has conflicting x)) (λ x. not (test x)) s (λ x m. ap not (has_of_some s conflicting test e x m))

-- ---- loops over a list of them

-- each that a loop takes from a list of them is one of the first n
pub listed_low : (n : ℕ) (s listed : List ℕ) (i : ℕ) → AreAmong n s → listed ≡ s → i < length listed → slice_index_or listed i 0 < n
listed_low n s listed i w e l = subst (All (λ place. place < n)) (sym e) (all_low n s w) i 0 l

-- and so each of some of them
pub some_low : (n : ℕ) (s listed : List ℕ) (test : ℕ → Bool) → All (λ place. place < n) s → listed ≡ filter test s → All (λ place. place < n) listed
some_low n s listed test all e = subst (All (λ place. place < n)) (sym e) (all_in (λ place. place < n) (filter test s) (λ p m. in_all (λ place. place < n) s all p (In-filter_back test p s m).0))

-- once all were taken, all that pass are kept
pub done : (test : ℕ → Bool) (kept listed : List ℕ) (i : ℕ) → length listed ≤ i → with_those test kept (drop i listed) ≡ with_those test [] listed → kept ≡ with_those test [] listed
done test kept listed i l e = ap (with_those test kept) (sym (drop_all i listed l)) ∙ e

-- what a loop over them keeps
pub kept_of : (n : ℕ) (s kept listed : List ℕ) (test : ℕ → Bool) → AreAmong n s → listed ≡ s → kept ≡ with_those test [] listed → kept ≡ filter test s
kept_of n s kept listed test w e f = f ∙ ap (with_those test []) e ∙ those_kept test s (subst Up w (up_filter (has s) (places n) (up_range 0 n)))

-- as many as there are, they are all
pub whole : (n : ℕ) (s : List ℕ) → AreAmong n s → length s ≡ n → s ≡ places n
whole n s w e = sym w ∙ kept_all (has s) (places n) (ap length w ∙ e ∙ sym (length-range_with_len 0 n))
  where
    kept_all : (p : ℕ → Bool) (xs : List ℕ) → length (filter p xs) ≡ length xs → filter p xs ≡ xs
    kept_all p [] e = refl
    kept_all p (x ∷ xs) e = elim (cases_Bool (p x)) [
      | inl t ↦ (let kept : filter p (x ∷ xs) ≡ x ∷ filter p xs = rw t refl in let long = ap length kept in kept ∙ ap (λ l. x ∷ l) (kept_all p xs (omega (arith, e, long))))
      | inr t ↦ (let left : filter p (x ∷ xs) ≡ filter p xs = rw t refl in let long = ap length left in let both = length-filter_both p (λ y. not (p y)) (λ y. refl) xs in absurd (omega (arith, e, long, both)))
    ]

-- the identifier, by the places that are in conflict with some
pub identified : (is_conflict : ℕ → ℕ → Bool) (name : ℕ → Name) (scope s conflicting : List ℕ) (id : List Name) → ((x : ℕ) → In x s → has conflicting x ≡ in_conflict_with is_conflict scope x)
    → id ≡ sort_by name_cmp (map name (filter (has conflicting) s)) → id ≡ identifier is_conflict name scope s
unfolding identifier
identified is_conflict name scope s conflicting id e f = f ∙ ap (λ l. sort_by name_cmp (map name l)) (filter_agree (has conflicting) (in_conflict_with is_conflict scope) s e)
