-- The changes of an object, and what an operation knows of them: each in one list, in order of name.
use Rattle.std.proofs.Common.{◌≡◌, Bool, true, List, [], ◌∷◌, inl, inr, ◌↔◌}
use Rattle.std.specs.Prelude.{IsTrue, Contains, filter}
use Rattle.std.proofs.lemmas.Bool.{cases_Bool}
use Rattle.base_types.specs.Names.{Name}
use Rattle.rules.specs.declared.history.Op.{Op}
use Rattle.rules.specs.Operations.{IsHistory, before, by_name, object_of, is_change_on, changes_on}
use Rattle.rules.specs.Operations.{known}
use Rattle.rules.specs.steps.Histories.{Before}
use Rattle.rules.proofs.Lists.{In, In-from_Contains, Contains-from_In, In-filter, In-filter_back}
use Rattle.rules.proofs.Once.{Once, Once-filter, Once-from_HasNoRepeats}
use Rattle.rules.proofs.Orders.{by_name_total, one_name}
use Rattle.rules.proofs.Sorted.{untied_if_once}
use Rattle.rules.proofs.Sorting.{Rises, never_below_itself, sort_in, sort_back, sort_rises, rises_same}
use Rattle.rules.proofs.Causal.{Before_is_counts}

-- ---- what they hold

pub in_changes_on : (h : List Op) (object : Name) (a : Op) → In a h → is_change_on object a ≡ true → In a (changes_on h object)
unfolding changes_on
in_changes_on h object a m e = sort_in by_name a (filter (is_change_on object) h) (In-filter (is_change_on object) a h m e)

pub in_changes_on_back : (h : List Op) (object : Name) (a : Op) → In a (changes_on h object) → In a h × (is_change_on object a ≡ true)
unfolding changes_on
in_changes_on_back h object a m = In-filter_back (is_change_on object) a h (sort_back by_name a (filter (is_change_on object) h) m)

pub changes_on_is : (h : List Op) (object : Name) (a : Op) → Contains (changes_on h object) a ↔ (Contains h a × IsTrue (is_change_on object a))
changes_on_is h object a = (
  (λ m. let c = in_changes_on_back h object a (In-from_Contains a (changes_on h object) m) in (Contains-from_In a h c.0, c.1)),
  (λ p. Contains-from_In a (changes_on h object) (in_changes_on h object a (In-from_Contains a h p.0) p.1)),
)

pub in_known : (h : List Op) (b a : Op) → In a h → is_change_on (object_of b) a ≡ true → before a b ≡ true → In a (known h b)
unfolding known
in_known h b a m e t = In-filter (λ x. before x b) a (changes_on h (object_of b)) (in_changes_on h (object_of b) a m e) t

pub record Knows (h : List Op) (b a : Op) : Type 0 where
  pub there : In a h
  pub change : is_change_on (object_of b) a ≡ true
  pub earlier : before a b ≡ true

pub in_known_back : (h : List Op) (b a : Op) → In a (known h b) → Knows h b a
unfolding known
in_known_back h b a m =
    let c = In-filter_back (λ x. before x b) a (changes_on h (object_of b)) m in
    let d = in_changes_on_back h (object_of b) a c.0 in
    record { there = d.0; change = d.1; earlier = c.1 }

-- known are the changes of the object that are before
pub known_is : (h : List Op) (a b : Op) → IsHistory h → Contains h b → (Contains (known h b) a ↔ (Contains h a × IsTrue (is_change_on (object_of b) a) × Before h a b))
known_is h a b i mb = (
  (λ m.
      let k = in_known_back h b a (In-from_Contains a (known h b) m) in
      let there = Contains-from_In a h k.there in
      (there, k.change, (Before_is_counts i a b there mb).0 k.earlier)),
  (λ k. Contains-from_In a (known h b) (in_known h b a (In-from_Contains a h k.0) k.1 ((Before_is_counts i a b k.0 mb).1 k.2))),
)

-- ---- one list

rises_filter : (p : Op → Bool) (xs : List Op) → Rises by_name by_name_total xs → Rises by_name by_name_total (filter p xs)
rises_filter p [] r = tt
rises_filter p (x ∷ xs) r = elim (cases_Bool (p x)) [
  | inl e ↦ rw e ((λ y m. r.0 y (In-filter_back p y xs m).0), rises_filter p xs r.1)
  | inr e ↦ rw e (rises_filter p xs r.1)
]

-- in any list whose operations differ by their names
module _ (k : List Op) (apart : (a b : Op) → In a k → In b k → a.name ≡ b.name → a ≡ b) (once : Once k) where
  pub changes_rise : (object : Name) → Rises by_name by_name_total (changes_on k object)
  unfolding changes_on
  changes_rise object =
      sort_rises by_name by_name_total (filter (is_change_on object) k)
      (untied_if_once by_name by_name_total (filter (is_change_on object) k) (Once-filter (is_change_on object) k once)
      (λ a b m n e. apart a b (In-filter_back (is_change_on object) a k m).0 (In-filter_back (is_change_on object) b k n).0 (one_name a b e)))

  pub known_rises : (b : Op) → Rises by_name by_name_total (known k b)
  unfolding known
  known_rises b = rises_filter (λ a. before a b) (changes_on k (object_of b)) (changes_rise (object_of b))

module _ {h : List Op} (i : IsHistory h) where
  pub one_op : (a b : Op) → In a h → In b h → a.name ≡ b.name → a ≡ b
  one_op a b m n e = i.distinct a b (Contains-from_In a h m) (Contains-from_In b h n) e

  changes_on_rises : (object : Name) → Rises by_name by_name_total (changes_on h object)
  changes_on_rises = changes_rise h one_op (Once-from_HasNoRepeats h i.once)

  known_rise : (b : Op) → Rises by_name by_name_total (known h b)
  known_rise = known_rises h one_op (Once-from_HasNoRepeats h i.once)

pub once_if_rises : (xs : List Op) → Rises by_name by_name_total xs → Once xs
once_if_rises [] r = tt
once_if_rises (x ∷ xs) r = ((λ m. never_below_itself by_name by_name_total x (r.0 x m)), once_if_rises xs r.1)

pub Once-changes_on : {h : List Op} → IsHistory h → (object : Name) → Once (changes_on h object)
Once-changes_on {h} i object = once_if_rises (changes_on h object) (changes_on_rises i object)

pub Once-known : {h : List Op} → IsHistory h → (b : Op) → Once (known h b)
Once-known {h} i b = once_if_rises (known h b) (known_rise i b)

-- two histories with the same changes of an object list them alike
pub changes_on_same : {k h : List Op} → IsHistory k → IsHistory h → (object : Name) →
    ((a : Op) → In a k → is_change_on object a ≡ true → In a h) → ((a : Op) → In a h → is_change_on object a ≡ true → In a k) → changes_on k object ≡ changes_on h object
changes_on_same {k} {h} i j object to back = rises_same by_name by_name_total (changes_on k object) (changes_on h object) (changes_on_rises i object) (changes_on_rises j object)
    (λ a m. let c = in_changes_on_back k object a m in in_changes_on h object a (to a c.0 c.1) c.1)
    (λ a m. let c = in_changes_on_back h object a m in in_changes_on k object a (back a c.0 c.1) c.1)

-- and an operation knows the same in two histories that have the same operations before it
pub known_same : {k h : List Op} → IsHistory k → IsHistory h → (b : Op) →
    ((a : Op) → In a k → before a b ≡ true → In a h) → ((a : Op) → In a h → before a b ≡ true → In a k) → known k b ≡ known h b
known_same {k} {h} i j b to back = rises_same by_name by_name_total (known k b) (known h b) (known_rise i b) (known_rise j b)
    (λ a m. let c = in_known_back k b a m in in_known h b a (to a c.there c.earlier) c.change c.earlier)
    (λ a m. let c = in_known_back h b a m in in_known k b a (back a c.there c.earlier) c.change c.earlier)
