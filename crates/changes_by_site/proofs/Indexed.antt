-- Places by classes: with the next place, and over a list that agrees.
use Rattle.std.proofs.Common.{◌≡◌, ℕ, ◌+◌, ◌<◌, Bool, true, false, List, [], ◌∷◌, ◌++◌, sym, ap, ◌∙◌, inl, inr, arith}
use Rattle.std.specs.Prelude.{filter}
use Rattle.std.proofs.lemmas.Bool.{cases_eq, cases_lt, false_from_ne_true}
use Rattle.rules.proofs.Lists.{filter_agree}
use Rattle.places.specs.steps.PlaceSet.{with_place, places}
use Rattle.changes_by_site.specs.steps.Indexes.{IsIndex}
use Rattle.places.proofs.Filters.{filter_none}
use Rattle.places.proofs.Places.{below, kept_next, left_next, put_next}

pub index_agrees : {C : Type 0} (of other : C → ℕ → Bool) (n size : ℕ) (class : ℕ → C) (found : ℕ → List ℕ) → ((c : C) (p : ℕ) → p < n → of c p ≡ other c p) → IsIndex of n size class found → IsIndex other n size class found
index_agrees of other n size class found same index = record {
  each = λ i l. index.each i l ∙ filter_agree (of (class i)) (other (class i)) (places n) (λ p m. same (class i) p (below n p m));
  some = λ i l. let s = index.some i l in (s.0, s.1, sym (same (class i) s.0 s.1) ∙ s.2);
  all = λ c p l t. index.all c p l (same c p l ∙ t);
  apart = index.apart;
}

module _ {C : Type 0} (of : C → ℕ → Bool) (one : (c d : C) (p : ℕ) → of c p ≡ true → of d p ≡ true → c ≡ d)
    (n size : ℕ) (class : ℕ → C) (found : ℕ → List ℕ) (index : IsIndex of n size class found) where
  module _ (class' : ℕ → C) (found' : ℕ → List ℕ) (same : (i : ℕ) → i < size → class' i ≡ class i) where
    stays : (i : ℕ) → i < size → found' i ≡ found i → of (class i) n ≡ false → found' i ≡ filter (of (class' i)) (places (n + 1))
    stays i l e f = e ∙ index.each i l ∙ sym (left_next (of (class i)) n f) ∙ ap (λ c. filter (of c) (places (n + 1))) (sym (same i l))

    some_stays : (i : ℕ) → i < size → (p : ℕ) × (p < n + 1) × (of (class' i) p ≡ true)
    some_stays i l = let s = index.some i l in let b : s.0 < n = s.1 in (s.0, omega (arith, b), ap (λ c. of c s.0) (same i l) ∙ s.2)

    -- the next place is of a class that is there
    pub index_grown : (at : ℕ) → at < size → of (class at) n ≡ true → found' at ≡ with_place n (found at)
        → ((i : ℕ) → i < size → (i ≡ at → ⊥) → found' i ≡ found i) → IsIndex of (n + 1) size class' found'
    index_grown at within here grown others = record {
      each = λ i l. elim (cases_eq i at) [
        | inl e ↦ put_next (of (class' i)) n (found i) (found' i) (index.each i l ∙ ap (λ c. filter (of c) (places n)) (sym (same i l))) (ap (λ c. of c n) (same i l ∙ ap class e) ∙ here) (ap found' e ∙ grown ∙ ap (λ j. with_place n (found j)) (sym e))
        | inr d ↦ stays i l (others i l d) (false_from_ne_true (of (class i) n) (λ t. d (index.apart i at l within (one (class i) (class at) n t here))))
      ];
      some = some_stays;
      all = λ c p l t. elim (cases_lt p n) [
        | inl b ↦ (let a = index.all c p b t in (a.0, a.1, same a.0 a.1 ∙ a.2))
        | inr g ↦ (let e : p ≡ n = omega arith in (at, within, same at within ∙ one (class at) c n here (ap (of c) (sym e) ∙ t)))
      ];
      apart = λ i j l m e. index.apart i j l m (sym (same i l) ∙ e ∙ same j m);
    }

    -- or of a new one
    pub index_begun : (c : C) → of c n ≡ true → ((i : ℕ) → i < size → class i ≡ c → ⊥) → class' size ≡ c → found' size ≡ n ∷ []
        → ((i : ℕ) → i < size → found' i ≡ found i) → IsIndex of (n + 1) (size + 1) class' found'
    index_begun c here new last begun others = record {
      each = λ i l. elim (cases_lt i size) [
        | inl b ↦ stays i b (others i b) (false_from_ne_true (of (class i) n) (λ t. new i b (one (class i) c n t here)))
        | inr g ↦
            (let e : i ≡ size = omega arith in
            ap found' e ∙ begun ∙ ap (λ (l : List ℕ). l ++ n ∷ []) (sym nowhere) ∙ sym (kept_next (of c) n here) ∙ ap (λ d. filter (of d) (places (n + 1))) (sym (ap class' e ∙ last)))
      ];
      some = λ i l. elim (cases_lt i size) [
        | inl b ↦ some_stays i b
        | inr g ↦ (let e : i ≡ size = omega arith in (n, omega arith, ap (λ d. of d n) (ap class' e ∙ last) ∙ here))
      ];
      all = λ d p l t. elim (cases_lt p n) [
        | inl b ↦ (let a = index.all d p b t in let k : a.0 < size = a.1 in (a.0, omega (arith, k), same a.0 a.1 ∙ a.2))
        | inr g ↦ (let e : p ≡ n = omega arith in (size, omega arith, last ∙ one c d n here (ap (of d) (sym e) ∙ t)))
      ];
      apart = λ i j l m e. elim (cases_lt i size) [
        | inl b ↦ elim (cases_lt j size) [
          | inl h ↦ index.apart i j b h (sym (same i b) ∙ e ∙ same j h)
          | inr h ↦ (let q : j ≡ size = omega arith in absurd (new i b (sym (same i b) ∙ e ∙ ap class' q ∙ last)))
        ]
        | inr b ↦ elim (cases_lt j size) [
          | inl h ↦ (let q : i ≡ size = omega arith in absurd (new j h (sym (same j h) ∙ sym e ∙ ap class' q ∙ last)))
          | inr h ↦ omega arith
        ]
      ];
    }
      where
        nowhere : filter (of c) (places n) ≡ []
        nowhere = filter_none (of c) (places n) (λ p m. false_from_ne_true (of c p) (λ t. let a = index.all c p (below n p m) t in new a.0 a.1 a.2))
