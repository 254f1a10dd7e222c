-- An operation counts more than each that is before it.
use Rattle.std.proofs.Common.{◌≡◌, ℕ, ◌+◌, ◌<◌, ◌≤◌, true, false, eqb, List, [], ◌∷◌, refl, sym, ◌∙◌, arith, inl, inr}
use Rattle.std.specs.Prelude.{IsTrue, Contains}
use Rattle.std.proofs.lemmas.Bool.{eq-eqb, ne_eqb, leb-true, le-leb, cases_eq, cases_order}
use Rattle.base_types.specs.Vectors.{Vector, count_of}
use Rattle.base_types.proofs.Vectors.{RisesAbove, above_all, rises}
use Rattle.rules.specs.declared.history.Op.{Op}
use Rattle.rules.specs.Operations.{IsHistory, before}
use Rattle.rules.specs.Conflicts.{total}

count_same : (q : ℕ × ℕ) (qs : Vector) (s : ℕ) → q.0 ≡ s → count_of (q ∷ qs) s ≡ q.1
count_same q qs s e = let f : eqb q.0 s ≡ true = eq-eqb q.0 s e in rw f refl

count_other : (q : ℕ × ℕ) (qs : Vector) (s : ℕ) → (q.0 ≡ s → ⊥) → count_of (q ∷ qs) s ≡ count_of qs s
count_other q qs s d = let f : eqb q.0 s ≡ false = ne_eqb q.0 s d in rw f refl

count-le-total : (v : Vector) (s : ℕ) → count_of v s ≤ total v
count-le-total [] s = omega arith
count-le-total (q ∷ qs) s = elim (cases_eq q.0 s) [ inl e ↦ omega (arith, count_same q qs s e) | inr d ↦ omega (arith, count_other q qs s d, count-le-total qs s) ]

-- a vector that counts as much of each site has a total that is larger by what it counts more of one
total-grows : (a b : ℕ) (v w : Vector) (s : ℕ) → RisesAbove a v → RisesAbove b w → ((t : ℕ) → count_of v t ≤ count_of w t) → total v + count_of w s ≤ total w + count_of v s
total-grows a b [] w s r k le = omega (arith, count-le-total w s)
total-grows a b (p ∷ ps) [] s r k le = let h = le p.0 in absurd (omega (arith, r.1, count_same p ps p.0 refl))
total-grows a b (p ∷ ps) (q ∷ qs) s r k le =
    elim (cases_order p.0 q.0) [
      | inl e ↦
          (let tails : (t : ℕ) → count_of ps t ≤ count_of qs t =
          λ t. elim (cases_eq p.0 t) [
            | inl f ↦ omega (arith, above_all p.0 t ps r.2 (omega arith))
            | inr d ↦ omega (arith, le t, count_other p ps t d, count_other q qs t (λ f. d (e ∙ f)))
          ] in
          let h = total-grows p.0 q.0 ps qs s r.2 k.2 tails in
          elim (cases_eq p.0 s) [
            | inl f ↦ omega (arith, h, count_same p ps s f, count_same q qs s (sym e ∙ f), above_all p.0 s ps r.2 (omega arith), above_all q.0 s qs k.2 (omega arith))
            | inr d ↦ omega (arith, h, count_other p ps s d, count_other q qs s (λ f. d (e ∙ f)), le p.0, count_same p ps p.0 refl, count_same q qs p.0 (sym e))
          ])
      | inr l ↦ elim l [
        | inl low ↦ absurd (omega (arith, le p.0, count_same p ps p.0 refl, r.1, above_all p.0 p.0 (q ∷ qs) (low, k.1, k.2) (omega arith)))
        | inr high ↦
            (let from_q : RisesAbove q.0 (p ∷ ps) = (high, r.1, r.2) in
            let tails : (t : ℕ) → count_of (p ∷ ps) t ≤ count_of qs t =
            λ t. elim (cases_eq q.0 t) [
              | inl f ↦ omega (arith, above_all q.0 t (p ∷ ps) from_q (omega arith))
              | inr d ↦ omega (arith, le t, count_other q qs t d)
            ] in
            let h = total-grows q.0 q.0 (p ∷ ps) qs s from_q k.2 tails in
            elim (cases_eq q.0 s) [
              | inl f ↦ omega (arith, h, count_same q qs s f, above_all q.0 s (p ∷ ps) from_q (omega arith), above_all q.0 s qs k.2 (omega arith))
              | inr d ↦ omega (arith, h, count_other q qs s d)
            ])
      ]
    ]

-- on a history the total is smaller for each operation before
pub total-before : {h : List Op} → IsHistory h → (a b : Op) → Contains h a → Contains h b → IsTrue (before a b) → total a.seen < total b.seen
total-before i a b ma mb e =
    let le : (t : ℕ) → count_of a.seen t ≤ count_of b.seen t = λ t. leb-true _ _ (i.closed a b (t, count_of a.seen t) ma mb e (le-leb _ _ (omega arith))) in
    let h = total-grows 0 0 a.seen b.seen a.name.0 (rises a.seen (i.vector a ma)) (rises b.seen (i.vector b mb)) le in
    omega (arith, h, i.own a ma, leb-true a.name.1 (count_of b.seen a.name.0) e)
