-- What is kept once of what the changes give and then of the initial attributes, in order of key, are the attributes.
use Rattle.std.proofs.Common.{◌≡◌, ℕ, ◌<◌, true, cond, List, [], ◌∷◌, ◌++◌, length, map, reverse, refl, sym, ap, ◌∙◌, subst, inl, inr, Option, Some, None, is_some}
use Rattle.std.specs.Prelude.{All, filter_map, find, flat_map, bytes_eq, option_map}
use Rattle.std.specs.Option.{option_or}
use Rattle.std.specs.List.Sorted.{IsPermutation, IsSorted, IsStrictlyIncreasing}
use Rattle.std.proofs.lemmas.List.Folds.{find-append}
use Rattle.std.proofs.lemmas.List.Sorted.{Contains-permutation, IsPermutation-sym}
use Rattle.std.proofs.lemmas.Slice.Eq.{bytes_eq-Decides}
use Rattle.base_types.specs.Names.{Name}
use Rattle.base_types.specs.Texts.{Bytes}
use Rattle.base_types.specs.declared.value.Value.{Value}
use Rattle.rules.specs.declared.history.Op.{Op}
use Rattle.rules.specs.AttrLists.{Attr}
use Rattle.rules.specs.Bodies.{pairs_of_body, value_of_body}
use Rattle.rules.specs.Lists.{each_once}
use Rattle.rules.specs.Groups.{is_compatible}
use Rattle.rules.specs.Conflicts.{conflict}
use Rattle.rules.specs.Versions.{attributes, decides, gives, key_cmp, keys_of, value_by, value_of_key}
use Rattle.rules.proofs.Lists.{In, In-from_Contains, Contains-from_In, In-append_left, In-append_right, In-filter_map, In-filter_map_back, find_is}
use Rattle.rules.proofs.Bodies.{key_there}
use Rattle.rules.proofs.Once.{Once}
use Rattle.rules.proofs.Sorting.{Rises, sort_is}
use Rattle.rules.proofs.Decided.{value_is_last}
use Rattle.rules.proofs.Reordered.{In-each_once, Once-each_once, key_cmp_total, one_key, same_key_is, same_key_itself, untied_with_values, in_keys}
use Rattle.rules.proofs.Sorted.{sorted_rises}
use Rattle.places.specs.steps.Changes.{at, AreChangesOn}
use Rattle.attributes.specs.steps.Pairs.{given_backwards, with_new_attrs}
use Rattle.attributes.proofs.Pairs.{Apart, Apart-all, attr_of, attr_of-all, attr_if_in}
use Rattle.attributes.proofs.Members.{is_change, members_ordered, not_before_itself}

-- ---- a sort keeps keys apart

once_if_apart : (xs : List Attr) → Apart xs → Once xs
once_if_apart [] a = tt
once_if_apart (p ∷ ps) a = ((λ m. a.0 p m refl), once_if_apart ps a.1)

same_if_same_key : (xs : List Attr) → Apart xs → (p q : Attr) → In p xs → In q xs → p.0 ≡ q.0 → p ≡ q
same_if_same_key [] a p q m n e = absurd m
same_if_same_key (x ∷ xs) a p q m n e = elim m [
  | inl f ↦ elim n [
    | inl g ↦ f ∙ sym g
    | inr k ↦ absurd (a.0 q k (ap (λ (z : Attr). z.0) (sym f) ∙ e))
  ]
  | inr k ↦ elim n [
    | inl g ↦ absurd (a.0 p k (ap (λ (z : Attr). z.0) (sym g) ∙ sym e))
    | inr l ↦ same_if_same_key xs a.1 p q k l e
  ]
]

-- pairs of different keys after a sort by key rise
rises_if_sorted : (xs ys : List Attr) → Apart xs → IsPermutation xs ys → IsSorted key_cmp ys → Rises key_cmp key_cmp_total ys
rises_if_sorted xs ys a p s = sorted_rises key_cmp key_cmp_total xs ys p s (once_if_apart xs a) (λ x y m n e. same_if_same_key xs a x y m n (one_key x y e))

-- ---- what the definition lists

abbrev pair_of : Bytes → Option Value → Option Attr
pair_of key value = option_map (λ v. (key, v)) value

pair_is : (key : Bytes) (o : Option Value) (z : Attr) → pair_of key o ≡ Some z → (z.0 ≡ key) × (o ≡ Some z.1)
pair_is key None z e = absurd cc
pair_is key (Some v) z e = let p : (key, v) ≡ z = cc in (ap (λ (w : Attr). w.0) (sym p), ap (λ (w : Attr). Some w.1) p)

module _ (f : Bytes → Option Value) where
  abbrev shown : Bytes → Option Attr
  shown key = pair_of key (f key)

  shown_in : (keys : List Bytes) (z : Attr) → In z (filter_map shown keys) → In z.0 keys × (f z.0 ≡ Some z.1)
  shown_in keys z m =
      let c = In-filter_map_back shown z keys m in
      let p = pair_is c.0 (f c.0) z c.2 in
      (subst (λ k. In k keys) (sym p.0) c.1, ap f p.0 ∙ p.1)

  in_shown : (keys : List Bytes) (z : Attr) → In z.0 keys → f z.0 ≡ Some z.1 → In z (filter_map shown keys)
  in_shown keys z m e = In-filter_map shown z.0 z keys m (ap (pair_of z.0) e)

-- a key with a value stands among the keys
key_listed : (initial : List Attr) (g : List Op) (key : Bytes) (v : Value) → value_of_key initial g key ≡ Some v → In key (map (λ (attr : Attr). attr.0) initial ++ keys_of g)
key_listed initial g key v e = go (find (decides key g) g) refl e
  where
    go : (r : Option Op) → find (decides key g) g ≡ r → value_by key initial r ≡ Some v → In key (map (λ (attr : Attr). attr.0) initial ++ keys_of g)
    go None f t = In-append_left key (map (λ (attr : Attr). attr.0) initial) (keys_of g) (key_there key initial (ap is_some t))
    go (Some a) f t =
        let c = find_is (decides key g) a g f in
        In-append_right key (map (λ (attr : Attr). attr.0) initial) (keys_of g) (in_keys g a key c.0 (key_there key (pairs_of_body a.body) (ap is_some t)))

-- a rising list that has a key with a value exactly where that is the key's value are the attributes
are_attributes : (initial : List Attr) (g : List Op) (pairs : List Attr) → Rises key_cmp key_cmp_total pairs → ((z : Attr) → In z pairs → value_of_key initial g z.0 ≡ Some z.1) → ((z : Attr) → value_of_key initial g z.0 ≡ Some z.1 → In z pairs) → pairs ≡ attributes initial g
unfolding attributes
are_attributes initial g pairs rises back to =
    let f : Bytes → Option Value = value_of_key initial g in
    let all : List Bytes = map (λ (attr : Attr). attr.0) initial ++ keys_of g in
    let keys : List Bytes = each_once bytes_eq all in
    sort_is key_cmp key_cmp_total (filter_map (shown f) keys) pairs (untied_with_values f keys (Once-each_once bytes_eq same_key_is same_key_itself all)) rises
    (λ z m. to z (shown_in f keys z m).1)
    (λ z m. let e = back z m in in_shown f keys z (In-each_once bytes_eq same_key_is same_key_itself z.0 all (key_listed initial g z.0 z.1 e)) e)

-- ---- what is kept of what the changes give and of the initial attributes

abbrev given : List Op → List Attr
given ops = flat_map (λ (op : Op). pairs_of_body op.body) ops

-- the value of a key there is what the first change that gives it gives, or else the initial one
first_given : (initial : List Attr) (key : Bytes) (ops : List Op) → option_map (λ (attr : Attr). attr.1) (option_or (attr_of key (given ops)) (attr_of key initial)) ≡ value_by key initial (find (gives key) ops)
first_given initial key [] = refl
first_given initial key (op ∷ ops) = go (attr_of key (pairs_of_body op.body)) refl (first_given initial key ops)
  where
    split : attr_of key (pairs_of_body op.body ++ given ops) ≡ option_or (attr_of key (pairs_of_body op.body)) (attr_of key (given ops))
    split = find-append (λ (attr : Attr). bytes_eq attr.0 key) (pairs_of_body op.body) (given ops)

    -- within a put the first pair of the key decides
    go : (r : Option Attr) → attr_of key (pairs_of_body op.body) ≡ r
        → option_map (λ (attr : Attr). attr.1) (option_or (attr_of key (given ops)) (attr_of key initial)) ≡ value_by key initial (find (gives key) ops)
        → option_map (λ (attr : Attr). attr.1) (option_or (attr_of key (pairs_of_body op.body ++ given ops)) (attr_of key initial)) ≡ value_by key initial (cond (is_some (value_of_body key op.body)) (Some op) (find (gives key) ops))
    go None e h = rw (split, e) h
    go (Some attr) e h = rw (split, e) (sym (ap (option_map (λ (a : Attr). a.1)) e))

with_value : (key : Bytes) (attrs : List Attr) (v : Value) → option_map (λ (attr : Attr). attr.1) (attr_of key attrs) ≡ Some v → attr_of key attrs ≡ Some (key, v)
with_value key attrs v e = go (attr_of key attrs) refl e
  where
    go : (r : Option Attr) → attr_of key attrs ≡ r → option_map (λ (attr : Attr). attr.1) r ≡ Some v → attr_of key attrs ≡ Some (key, v)
    go None f t = absurd cc
    go (Some a) f t =
        let k : a.0 ≡ key = (bytes_eq-Decides a.0 key).0 (find_is (λ (attr : Attr). bytes_eq attr.0 key) a attrs f).1 in
        let w : a.1 ≡ v = cc in
        f ∙ (λ i. Some (k i, w i))

-- the pairs that the program ends with
pub attributes_are : {object : Name} (k : List Op) (members : List ℕ) (initial : List Attr) (first all pairs : List Attr) → AreChangesOn object k
    → IsStrictlyIncreasing members → All (λ place. place < length k) members → is_compatible (conflict k) (map (at k) members) ≡ true
    → first ≡ with_new_attrs [] (given_backwards (map (at k) members)) → all ≡ with_new_attrs first initial → IsPermutation all pairs → IsSorted key_cmp pairs
    → pairs ≡ attributes initial (map (at k) members)
attributes_are k members initial first all pairs w rises within compatible e f p s =
    let l : List Op = map (at k) members in
    let apart : Apart all = subst Apart (sym (f ∙ ap (λ z. with_new_attrs z initial) e)) (Apart-all (with_new_attrs [] (given (reverse l))) initial (Apart-all [] (given (reverse l)) tt)) in
    let looked : (key : Bytes) → attr_of key all ≡ option_or (attr_of key (given (reverse l))) (attr_of key initial) =
    λ key. ap (attr_of key) (f ∙ ap (λ z. with_new_attrs z initial) e) ∙ attr_of-all key (with_new_attrs [] (given (reverse l))) initial ∙ ap (λ o. option_or o (attr_of key initial)) (attr_of-all key [] (given (reverse l))) in
    let valued : (key : Bytes) → option_map (λ (attr : Attr). attr.1) (attr_of key all) ≡ value_of_key initial l key =
    λ key. ap (option_map (λ (attr : Attr). attr.1)) (looked key) ∙ first_given initial key (reverse l)
    ∙ sym (value_is_last k l l compatible (λ x m. m) (λ x m. m) (members_ordered k members w.listed.ordered rises within) (λ x m. not_before_itself w.listed x (is_change k members within x m)) initial key) in
    are_attributes initial l pairs (rises_if_sorted all pairs apart p s)
    (λ z m.
    let n = In-from_Contains z all (Contains-permutation pairs all z (IsPermutation-sym all pairs p) (Contains-from_In z pairs m)) in
    sym (valued z.0) ∙ ap (option_map (λ (attr : Attr). attr.1)) (attr_if_in all apart z n))
    (λ z q.
    let n = find_is (λ (attr : Attr). bytes_eq attr.0 z.0) z all (with_value z.0 all z.1 (valued z.0 ∙ q)) in
    In-from_Contains z pairs (Contains-permutation all pairs z p (Contains-from_In z all n.0)))
