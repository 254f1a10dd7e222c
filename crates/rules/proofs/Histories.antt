-- A history and an operation that is admitted after it give a history.
use Rattle.std.proofs.Common.{◌≡◌, ℕ, ◌+◌, ◌≤◌, Bool, true, false, cond, List, [], ◌∷◌, ◌++◌, refl, sym, ap, ◌∙◌, subst, arith, inl, inr, None, ◌&&◌, not, eqb}
use Rattle.std.specs.Prelude.{Contains, is_some}
use Rattle.std.proofs.lemmas.Bool.{true≢false, and_cases, not-false, leb-true, eqb-true, eq-eqb}
use Rattle.std.proofs.lemmas.List.Elements.{Contains-append_left, Contains-push_cases}
use Rattle.std.proofs.lemmas.List.Sums.{sum_by_push}
use Rattle.base_types.specs.Names.{Name}
use Rattle.base_types.specs.Vectors.{counts, count_of, covers, is_vector}
use Rattle.rules.specs.declared.history.Op.{Op}
use Rattle.rules.specs.declared.refusal.Refusal.TheVariants.{WrongSeq, OwnCount, Ahead, NotClosed}
use Rattle.rules.specs.Operations.{IsHistory, operation}
use Rattle.rules.specs.Admission.{first_that_applies, names_counted, count_at_site, has_wrong_seq}
use Rattle.rules.specs.Admission.{has_wrong_own_count, is_ahead, is_not_closed}
use Rattle.rules.specs.steps.Histories.{causal_refusal}
use Rattle.rules.proofs.Lists.{In, In-from_Contains, Contains-from_In, any_none}
use Rattle.rules.proofs.Once.{Once-append, Once-from_HasNoRepeats, HasNoRepeats-from_Once}
use Rattle.rules.proofs.Counted.{found, In-names_counted, covers-counts}

-- none of the four conditions applies
pub record PassesAll (h : List Op) (o : Op) : Type 0 where
  pub seq : has_wrong_seq h o.name ≡ false
  pub own : has_wrong_own_count o.name o.seen ≡ false
  pub ahead : is_ahead h o.seen ≡ false
  pub closed : is_not_closed h o.seen ≡ false

four_false : (a b c d : Bool) → first_that_applies ((a, WrongSeq) ∷ (b, OwnCount) ∷ (c, Ahead) ∷ (d, NotClosed) ∷ []) ≡ None → (a ≡ false) × (b ≡ false) × (c ≡ false) × (d ≡ false)
four_false false false false false e = (refl, refl, refl, refl)
four_false true b c d e = absurd cc
four_false false true c d e = absurd cc
four_false false false true d e = absurd cc
four_false false false false true e = absurd cc

pub passes_if : (h : List Op) (o : Op) → causal_refusal h o.name o.seen ≡ None → PassesAll h o
unfolding causal_refusal
passes_if h o e =
    let c = four_false (has_wrong_seq h o.name) (has_wrong_own_count o.name o.seen) (is_ahead h o.seen) (is_not_closed h o.seen) e in
    record { seq = c.0; own = c.1; ahead = c.2; closed = c.3 }

-- what admission says of an operation, whatever it does
pub record Follows (h : List Op) (o : Op) : Type 0 where
  pub vector : is_vector o.seen ≡ true
  pub seq : o.name.1 ≡ count_at_site h o.name.0 + 1
  pub own : count_of o.seen o.name.0 + 1 ≡ o.name.1
  pub present : (n : Name) → In n (names_counted o.seen) → is_some (operation h n) ≡ true
  pub closed : (a : Op) → In a h → counts o.seen a.name ≡ true → covers o.seen a.seen ≡ true

pub follows_if : (h : List Op) (o : Op) → causal_refusal h o.name o.seen ≡ None → is_vector o.seen ≡ true → Follows h o
follows_if h o e v =
    let four = passes_if h o e in
    record {
      vector = v;
      seq = eqb-true o.name.1 (count_at_site h o.name.0 + 1) (not-false _ four.seq);
      own = eqb-true (count_of o.seen o.name.0 + 1) o.name.1 (not-false _ four.own);
      present = λ n m. not-false _ (any_none (λ n. not (is_some (operation h n))) n (names_counted o.seen) four.ahead m);
      closed = λ a m t. elim (and_cases (counts o.seen a.name) (not (covers o.seen a.seen)) (any_none (λ a. counts o.seen a.name && not (covers o.seen a.seen)) a h four.closed m)) [
        | inl z ↦ absurd (true≢false (sym t ∙ z))
        | inr z ↦ not-false _ z
      ];
    }

-- a history whose sites number their operations from 1, without a gap
pub record IsNumbered (h : List Op) : Type 0 where
  pub history : IsHistory h
  pub numbered : (o : Op) → Contains h o → o.name.1 ≤ count_at_site h o.name.0

pub count_at_site_push : (h : List Op) (o : Op) (s : ℕ) → count_at_site (h ++ o ∷ []) s ≡ count_at_site h s + cond (eqb o.name.0 s) 1 0
count_at_site_push h o s = sum_by_push (λ (x : Op). cond (eqb x.name.0 s) 1 0) h o

module _ (h : List Op) (o : Op) (i : IsNumbered h) (f : Follows h o) where
  fresh : (a : Op) → Contains h a → a.name ≡ o.name → ⊥
  fresh a m e =
      let p : a.name.1 ≡ o.name.1 = ap (λ (n : Name). n.1) e in
      let q : count_at_site h a.name.0 ≡ count_at_site h o.name.0 = ap (λ (n : Name). count_at_site h n.0) e in
      omega (arith, i.numbered a m, f.seq)

  earlier : (n : Name) → 1 ≤ n.1 → counts o.seen n ≡ true → (a : Op) × Contains h a × (a.name ≡ n)
  earlier n l e = found h n (f.present n (In-names_counted o.seen n l e))

  uncounted : (a : Op) → Contains h a → counts a.seen o.name ≡ true → ⊥
  uncounted a m e = let c = i.history.present a o.name m (omega (arith, f.seq)) e in fresh c.0 c.1 c.2

  history_after : IsHistory (h ++ o ∷ [])
  history_after = record {
    once = HasNoRepeats-from_Once (h ++ o ∷ []) (Once-append h (o ∷ []) (Once-from_HasNoRepeats h i.history.once) ((λ m. m), tt)
        (λ x m n. elim n [ inl e ↦ fresh x (Contains-from_In x h m) (ap (λ (z : Op). z.name) e) | inr r ↦ r ]));
    distinct = λ a b m n e. elim (Contains-push_cases h o a m) [
      | inl p ↦ elim (Contains-push_cases h o b n) [
        | inl q ↦ i.history.distinct a b p q e
        | inr q ↦ absurd (fresh a p (e ∙ sym (ap (λ (x : Op). x.name) q)))
      ]
      | inr p ↦ elim (Contains-push_cases h o b n) [
        | inl q ↦ absurd (fresh b q (sym e ∙ sym (ap (λ (x : Op). x.name) p)))
        | inr q ↦ sym p ∙ q
      ]
    ];
    vector = λ a m. elim (Contains-push_cases h o a m) [ inl p ↦ i.history.vector a p | inr p ↦ subst (λ (x : Op). is_vector x.seen ≡ true) p f.vector ];
    own = λ a m. elim (Contains-push_cases h o a m) [ inl p ↦ i.history.own a p | inr p ↦ subst (λ (x : Op). count_of x.seen x.name.0 + 1 ≡ x.name.1) p f.own ];
    present = λ a n m l e. elim (Contains-push_cases h o a m) [
      | inl p ↦ (let c = i.history.present a n p l e in (c.0, Contains-append_left h (o ∷ []) c.0 c.1, c.2))
      | inr p ↦ (let c = earlier n l (ap (λ (x : Op). counts x.seen n) p ∙ e) in (c.0, Contains-append_left h (o ∷ []) c.0 c.1, c.2))
    ];
    closed = λ a b n ma mb e d. elim (Contains-push_cases h o a ma) [
      | inl p ↦ elim (Contains-push_cases h o b mb) [
        | inl q ↦ i.history.closed a b n p q e d
        | inr q ↦ sym (ap (λ (x : Op). counts x.seen n) q) ∙ covers-counts o.seen a.seen n (f.closed a (In-from_Contains a h p) (ap (λ (x : Op). counts x.seen a.name) q ∙ e)) d
      ]
      | inr p ↦ elim (Contains-push_cases h o b mb) [
        | inl q ↦ absurd (uncounted b q (ap (λ (x : Op). counts b.seen x.name) p ∙ e))
        | inr q ↦
            (let t : counts o.seen o.name ≡ true = ap (λ (x : Op). counts o.seen x.name) p ∙ ap (λ (x : Op). counts x.seen a.name) q ∙ e in
            absurd (omega (arith, leb-true o.name.1 (count_of o.seen o.name.0) t, f.own)))
      ]
    ];
  }

  numbered_after : IsNumbered (h ++ o ∷ [])
  numbered_after = record {
    history = history_after;
    numbered = λ a m. elim (Contains-push_cases h o a m) [
      | inl p ↦ omega (arith, i.numbered a p, count_at_site_push h o a.name.0)
      | inr p ↦ subst (λ (x : Op). x.name.1 ≤ count_at_site (h ++ o ∷ []) x.name.0) p
          (let t : eqb o.name.0 o.name.0 ≡ true = eq-eqb o.name.0 o.name.0 refl in
          let u : count_at_site (h ++ o ∷ []) o.name.0 ≡ count_at_site h o.name.0 + 1 = rw t at (count_at_site_push h o o.name.0) in
          omega (arith, f.seq))
    ];
  }

pub numbered_push : (h : List Op) (o : Op) → IsNumbered h → causal_refusal h o.name o.seen ≡ None → is_vector o.seen ≡ true → IsNumbered (h ++ o ∷ [])
numbered_push h o i e v = numbered_after h o i (follows_if h o e v)

-- a history and an operation that is admitted after it give a history
pub history_push : (h : List Op) (o : Op) → IsNumbered h → causal_refusal h o.name o.seen ≡ None → is_vector o.seen ≡ true → IsHistory (h ++ o ∷ [])
history_push h o i e v = history_after h o i (follows_if h o e v)

-- no operation of the history counts it
pub not_counted : (h : List Op) (o : Op) → IsNumbered h → causal_refusal h o.name o.seen ≡ None → is_vector o.seen ≡ true → (a : Op) → Contains h a → counts a.seen o.name ≡ true → ⊥
not_counted h o i e v = uncounted h o i (follows_if h o e v)

pub numbered_empty : IsNumbered []
numbered_empty = record {
  history = record {
    once = tt;
    distinct = λ a b m n e. absurd (In-from_Contains a [] m);
    vector = λ o m. absurd (In-from_Contains o [] m);
    own = λ o m. absurd (In-from_Contains o [] m);
    present = λ o n m l e. absurd (In-from_Contains o [] m);
    closed = λ a b n m k e d. absurd (In-from_Contains a [] m);
  };
  numbered = λ o m. absurd (In-from_Contains o [] m);
}
