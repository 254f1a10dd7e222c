-- The changes at the places of a set of places, in order.
use Rattle.std.proofs.Common.{◌≡◌, ℕ, zero, suc, ◌+◌, ◌<◌, ◌≤◌, Bool, false, not, List, [], ◌∷◌, ◌++◌, length, map, take, sym, ap, ◌∙◌, subst, arith, inl, inr}
use Rattle.std.specs.Prelude.{All, filter, flat_map, IsTrue, slice_index_or}
use Rattle.std.specs.List.{range_with_len}
use Rattle.std.specs.List.Sorted.{IsStrictlyIncreasing}
use Rattle.std.proofs.lemmas.Bool.{cases_Bool}
use Rattle.std.proofs.lemmas.List.{map_more, reverse-append}
use Rattle.base_types.specs.Names.{Name}
use Rattle.rules.specs.declared.history.Op.{Op}
use Rattle.rules.specs.Bodies.{pairs_of_body}
use Rattle.rules.specs.Operations.{IsCausallyOrdered, before, is_change_on}
use Rattle.rules.proofs.Lists.{In, In-from_Contains, Contains-from_In, In-filter_back, In-map_back, In-range_back}
use Rattle.rules.proofs.Relation.{not_before_self}
use Rattle.places.specs.steps.PlaceSet.{has}
use Rattle.places.specs.steps.Changes.{at, AreChangesOf}
use Rattle.places.proofs.ChangesAt.{at_in}
use Rattle.places.proofs.Rising.{among_places}
use Rattle.attributes.specs.steps.Pairs.{given_backwards}

pub is_change : (k : List Op) (members : List ℕ) → All (λ place. place < length k) members → (x : Op) → In x (map (at k) members) → In x k
is_change k members w x m =
    let c = In-map_back (at k) x members m in
    let d = Contains-from_In c.0 members c.1 in
    subst (λ y. In y k) (sym c.2) (at_in k c.0 (subst (λ z. z < length k) d.2 (w d.0 c.0 d.1)))

later_not_before : (k : List Op) (i j : ℕ) → IsCausallyOrdered k → i < j → j < length k → IsTrue (not (before (at k j) (at k i)))
later_not_before [] i j o l m = absurd (omega arith)
later_not_before (x ∷ k) zero zero o l m = absurd (omega arith)
later_not_before (x ∷ k) zero (suc j) o l m = o.0 (at k j) (Contains-from_In (at k j) k (at_in k j (omega arith)))
later_not_before (x ∷ k) (suc i) zero o l m = absurd (omega arith)
later_not_before (x ∷ k) (suc i) (suc j) o l m = later_not_before k i j o.1 (omega arith) (omega arith)

ordered_from : (k : List Op) (p : ℕ → Bool) (a c : ℕ) → IsCausallyOrdered k → a + c ≤ length k → IsCausallyOrdered (map (at k) (filter p (range_with_len a c)))
ordered_from k p a zero o l = tt
ordered_from k p a (suc c) o l =
    let rest = ordered_from k p (a + 1) c o (omega arith) in
    elim (cases_Bool (p a)) [
      | inl e ↦ rw e (
        (λ y m.
            let d = In-map_back (at k) y (filter p (range_with_len (a + 1) c)) (In-from_Contains y (map (at k) (filter p (range_with_len (a + 1) c))) m) in
            let b = In-range_back (a + 1) c d.0 (In-filter_back p d.0 (range_with_len (a + 1) c) d.1).0 in
            subst (λ (z : Op). IsTrue (not (before z (at k a)))) (sym d.2) (later_not_before k a d.0 o (omega (arith, b.0)) (omega (arith, b.1)))),
        rest,
      )
      | inr e ↦ rw e rest
    ]

-- they stand in causal order
pub members_ordered : (k : List Op) (members : List ℕ) → IsCausallyOrdered k → IsStrictlyIncreasing members → All (λ place. place < length k) members → IsCausallyOrdered (map (at k) members)
members_ordered k members o rises w = subst (λ ps. IsCausallyOrdered (map (at k) ps)) (among_places (length k) members rises w) (ordered_from k (has members) 0 (length k) o (omega arith))

pub not_before_itself : {object : Name} {k : List Op} → AreChangesOf object k → (x : Op) → In x k → before x x ≡ false
not_before_itself {object} {k} w x m =
    not_before_self w.is_history x (Contains-from_In x w.history (In-filter_back (is_change_on object) x w.history (subst (λ l. In x l) (sym w.all) m)).0)

-- what the changes at the first places give, the last one first, with one place more
pub given_more : (k : List Op) (members : List ℕ) (i place : ℕ) → i < length members → place ≡ slice_index_or members i place
    → given_backwards (map (at k) (take (i + 1) members)) ≡ pairs_of_body (at k place).body ++ given_backwards (map (at k) (take i members))
given_more k members i place l e =
    ap given_backwards (map_more (at k) members i place l)
    ∙ ap (flat_map (λ (op : Op). pairs_of_body op.body)) (reverse-append (map (at k) (take i members)) (at k (slice_index_or members i place) ∷ []))
    ∙ ap (λ p. pairs_of_body (at k p).body ++ given_backwards (map (at k) (take i members))) (sym e)
