-- The operations at the places of a list.
use Rattle.std.proofs.Common.{◌≡◌, ℕ, zero, suc, ◌<◌, ◌≤◌, Bool, true, List, [], ◌∷◌, ◌++◌, length, map, refl, sym, ap, ◌∙◌, subst, arith, inl, inr}
use Rattle.std.specs.List.{list_any}
use Rattle.std.proofs.lemmas.List.{length-map}
use Rattle.std.proofs.lemmas.List.FromFn.{length-range_with_len}
use Rattle.rules.specs.declared.history.Op.{Op}
use Rattle.rules.specs.Operations.{name_of}
use Rattle.rules.specs.steps.Histories.{same_op}
use Rattle.rules.proofs.Lists.{In, In-filter, In-filter_back, In-map_back, any_from, any_back}
use Rattle.rules.proofs.Once.{Once, Once-map, length_within}
use Rattle.rules.proofs.Relation.{same_answer}
use Rattle.rules.proofs.Counted.{same_name-true, same_name-refl}
use Rattle.places.specs.steps.PlaceSet.{has, places}
use Rattle.places.proofs.Places.{In-places, below, has-filter}
use Rattle.places.specs.steps.Changes.{at, places_of}

pub at_in : (k : List Op) (p : ℕ) → p < length k → In (at k p) k
at_in [] p l = absurd (omega arith)
at_in (x ∷ k) zero l = inl refl
at_in (x ∷ k) (suc p) l = inr (at_in k p (omega arith))

pub record Place (k : List Op) (x : Op) : Type 0 where
  pub place : ℕ
  pub within : place < length k
  pub is : at k place ≡ x

pub place_of : (x : Op) (k : List Op) → In x k → Place k x
place_of x [] m = absurd m
place_of x (z ∷ k) m = elim m [
  | inl e ↦ record { place = 0; within = omega arith; is = sym e }
  | inr r ↦ (let c = place_of x k r in record { place = suc c.place; within = omega (arith, c.within); is = c.is })
]

-- in a list without repeats each operation stands at one place
pub one_place_each : (k : List Op) (i j : ℕ) → Once k → i < length k → j < length k → at k i ≡ at k j → i ≡ j
one_place_each [] i j o l m e = absurd (omega arith)
one_place_each (x ∷ k) zero zero o l m e = refl
one_place_each (x ∷ k) zero (suc j) o l m e = absurd (o.0 (subst (λ z. In z k) (sym e) (at_in k j (omega arith))))
one_place_each (x ∷ k) (suc i) zero o l m e = absurd (o.0 (subst (λ z. In z k) e (at_in k i (omega arith))))
one_place_each (x ∷ k) (suc i) (suc j) o l m e = ap suc (one_place_each k i j o.1 (omega arith) (omega arith) e)

pub at_push : (k : List Op) (o : Op) (p : ℕ) → p < length k → at (k ++ o ∷ []) p ≡ at k p
at_push [] o p l = absurd (omega arith)
at_push (x ∷ k) o zero l = refl
at_push (x ∷ k) o (suc p) l = at_push k o p (omega arith)

pub at_last : (k : List Op) (o : Op) → at (k ++ o ∷ []) (length k) ≡ o
at_last [] o = refl
at_last (x ∷ k) o = at_last k o

-- a place is among those of g exactly where its operation is in g
pub has-places_of : (k g : List Op) (x : ℕ) → x < length k → has (places_of k g) x ≡ list_any (same_op (at k x)) g
has-places_of k g x l = has-filter (λ p. list_any (same_op (at k p)) g) (length k) x l

-- ---- a list in which no two operations share a name

abbrev pub AreApart : List Op → Type 0
AreApart k = (a b : Op) → In a k → In b k → a.name ≡ b.name → a ≡ b

-- a test at the places of g is one on g
pub any-places_of : (k g : List Op) → AreApart k → ((x : Op) → In x g → In x k) → (f : Op → Bool) → list_any (λ p. f (at k p)) (places_of k g) ≡ list_any f g
any-places_of k g apart inside f =
    let test : ℕ → Bool = λ p. list_any (same_op (at k p)) g in
    same_answer (list_any (λ p. f (at k p)) (places_of k g)) (list_any f g)
    (λ e.
    let c = any_back (λ p. f (at k p)) (places_of k g) e in
    let m = In-filter_back test c.0 (places (length k)) c.1 in
    let d = any_back (same_op (at k c.0)) g m.1 in
    let s : at k c.0 ≡ d.0 = apart (at k c.0) d.0 (at_in k c.0 (below (length k) c.0 m.0)) (inside d.0 d.1) (same_name-true (at k c.0).name d.0.name d.2) in
    any_from f d.0 g d.1 (sym (ap f s) ∙ c.2))
    (λ e.
    let c = any_back f g e in
    let p = place_of c.0 k (inside c.0 c.1) in
    let t : test p.place ≡ true = any_from (same_op (at k p.place)) c.0 g c.1 (same_name-refl (at k p.place).name c.0.name (ap name_of p.is)) in
    any_from (λ p. f (at k p)) p.place (places_of k g) (In-filter test p.place (places (length k)) (In-places (length k) p.place p.within) t) (ap f p.is ∙ c.2))

-- different operations with different numbers below n are at most n
pub length_below : (n : ℕ) (number : Op → ℕ) (k : List Op) → Once k → ((x y : Op) → In x k → In y k → number x ≡ number y → x ≡ y) → ((x : Op) → In x k → number x < n) → length k ≤ n
length_below n number k o apart low =
    let h = length_within (map number k) (places n) (Once-map number k apart o) (λ m l. let c = In-map_back number m k l in subst (λ z. In z (places n)) (sym c.2) (In-places n (number c.0) (low c.0 c.1))) in
    omega (arith, h, length-map k number, length-range_with_len 0 n)
