-- The keys of puts: those of one put differ, and with one change more there are as many more as it gives new ones.
use Rattle.std.proofs.Common.{◌≡◌, ℕ, ◌+◌, ◌≤◌, Bool, true, false, cond, List, [], ◌∷◌, ◌++◌, length, map, refl, sym, ap, ◌∙◌, subst, inl, inr, Option, Some, None, ◌&&◌, not, arith, eqb, ltb}
use Rattle.std.specs.Prelude.{filter, find, flat_map, bytes_eq, is_none, option_map}
use Rattle.std.specs.List.{list_any, count_by}
use Rattle.std.proofs.lemmas.Bool.{cases_Bool, true≢false, eqb-false, ltb-false, and_from, and_parts, not-true, not_from_false, false_from_ne_true}
use Rattle.std.proofs.lemmas.List.{length-append}
use Rattle.std.proofs.lemmas.List.Sums.{sum_by-cons}
use Rattle.base_types.specs.Texts.{Bytes}
use Rattle.base_types.specs.Values.{same_value}
use Rattle.base_types.specs.declared.value.Value.{Value}
use Rattle.base_types.specs.Repeats.{repeat_from, first_repeat}
use Rattle.rules.specs.declared.history.Op.{Op}
use Rattle.rules.specs.declared.pairs.PairsFault.TheVariants as pairs_faults
use Rattle.rules.specs.AttrLists.{Attr, value_at, are_different, do_pairs_differ, same_key}
use Rattle.rules.specs.AttrLists.{pairs_fault, are_pairs}
use Rattle.rules.specs.steps.Keys.{gives_another, new_keys}
use Rattle.rules.specs.Bodies.{keys_of_body, pairs_of_body}
use Rattle.rules.specs.Lists.{HasNoRepeats, each_once}
use Rattle.rules.specs.Versions.{keys_of}
use Rattle.rules.proofs.Lists.{In, In-map, In-map_back, In-append_cases, In-append_left, In-append_right, In-filter, In-filter_back, any_from, any_back, any_agree, find_is}
use Rattle.rules.proofs.Once.{Once, Once-append, Once-filter, HasNoRepeats-from_Once, length_within}
use Rattle.rules.proofs.Relation.{same_answer}
use Rattle.rules.proofs.Reordered.{SameMembers, In-each_once, In-each_once_back, Once-each_once, in_keys, in_keys_back, keys_the_same, same_key_is, same_key_itself}

-- ---- which keys there are

pub once_keys : (k : List Op) → Once (keys_of k)
once_keys k = Once-each_once bytes_eq same_key_is same_key_itself (flat_map (λ op. keys_of_body op.body) k)

as_many : (xs ys : List Bytes) → Once xs → Once ys → SameMembers xs ys → length xs ≡ length ys
as_many xs ys o u w = let a = length_within xs ys o w.to in let b = length_within ys xs u w.back in omega (arith, a, b)

-- in whatever order the changes are listed, they have as many keys
pub keys_as_many : (f g : List Op) → SameMembers f g → length (keys_of f) ≡ length (keys_of g)
keys_as_many f g w = as_many (keys_of f) (keys_of g) (once_keys f) (once_keys g) (keys_the_same f g w)

-- some of the changes have at most as many keys
pub keys_within : (f g : List Op) → ((op : Op) → In op f → In op g) → length (keys_of f) ≤ length (keys_of g)
keys_within f g w = length_within (keys_of f) (keys_of g) (once_keys f) (λ key m. let c = in_keys_back f key m in in_keys g c.0 key (w c.0 c.1) c.2)

-- ---- one change more

module _ (k : List Op) (op : Op) where
  abbrev more : List Op
  more = k ++ op ∷ []

  abbrev is_new : Bytes → Bool
  is_new key = not (list_any (bytes_eq key) (keys_of k))

  -- its keys, each once
  abbrev own : List Bytes
  own = each_once bytes_eq (keys_of_body op.body)

  from_new : (key : Bytes) → In key (new_keys k op) → In key (keys_of more)
  from_new key m =
      let c = (In-filter_back is_new key own m).0 in
      in_keys more op key (In-append_right op k (op ∷ []) (inl refl)) (In-each_once_back bytes_eq same_key_is same_key_itself key (keys_of_body op.body) c)

  from_before : (key : Bytes) → In key (keys_of k) → In key (keys_of more)
  from_before key m = let c = in_keys_back k key m in in_keys more c.0 key (In-append_left c.0 k (op ∷ []) c.1) c.2

  to : (key : Bytes) → In key (keys_of more) → In key (keys_of k ++ new_keys k op)
  to key m =
      let c = in_keys_back more key m in
      elim (In-append_cases c.0 k (op ∷ []) c.1) [
        | inl l ↦ In-append_left key (keys_of k) (new_keys k op) (in_keys k c.0 key l c.2)
        | inr r ↦ elim r [
          | inr z ↦ absurd z
          | inl e ↦
              (let given : In key (keys_of_body op.body) = subst (λ (o : Op). In key (keys_of_body o.body)) e c.2 in
              elim (cases_Bool (list_any (bytes_eq key) (keys_of k))) [
                | inl t ↦
                    (let d = any_back (bytes_eq key) (keys_of k) t in
                    In-append_left key (keys_of k) (new_keys k op) (subst (λ x. In x (keys_of k)) (sym (same_key_is key d.0 d.2)) d.1))
                | inr f ↦ In-append_right key (keys_of k) (new_keys k op) (In-filter is_new key own (In-each_once bytes_eq same_key_is same_key_itself key (keys_of_body op.body) given) (not_from_false _ f))
              ])
        ]
      ]

  back : (key : Bytes) → In key (keys_of k ++ new_keys k op) → In key (keys_of more)
  back key m = elim (In-append_cases key (keys_of k) (new_keys k op) m) [ inl l ↦ from_before key l | inr r ↦ from_new key r ]

  both_once : Once (keys_of k ++ new_keys k op)
  both_once = Once-append (keys_of k) (new_keys k op) (once_keys k) (Once-filter is_new own (Once-each_once bytes_eq same_key_is same_key_itself (keys_of_body op.body)))
      (λ key m n.
      let c = (In-filter_back is_new key own n).1 in
      true≢false (sym (any_from (bytes_eq key) key (keys_of k) m (same_key_itself key)) ∙ not-true _ c))

  -- there are as many keys more as the change gives new ones
  pub keys_with : length (keys_of more) ≡ length (keys_of k) + length (new_keys k op)
  keys_with = as_many (keys_of more) (keys_of k ++ new_keys k op) (once_keys more) both_once (record { to = to; back = back }) ∙ length-append (keys_of k) (new_keys k op)

-- ---- the keys of one put

no_repeat : (place : ℕ) (earlier xs : List Attr) → repeat_from same_key place earlier xs ≡ None
    → Once (map (λ attr. attr.0) xs) × ((x : Attr) → In x xs → list_any (λ y. same_key y x) earlier ≡ false)
no_repeat place earlier [] e = (tt, λ x m. absurd m)
no_repeat place earlier (x ∷ xs) e =
    let first = missed (list_any (λ y. same_key y x) earlier) e in
    let rest = no_repeat (place + 1) (earlier ++ x ∷ []) xs first.1 in (
      (
        λ m.
            let c = In-map_back (λ (attr : Attr). attr.0) x.0 xs m in
            let t : same_key x c.0 ≡ true = ap (bytes_eq x.0) (sym c.2) ∙ same_key_itself x.0 in
            true≢false (sym (any_from (λ y. same_key y c.0) x (earlier ++ x ∷ []) (In-append_right x earlier (x ∷ []) (inl refl)) t) ∙ rest.1 c.0 c.1),
        rest.0,
      ),
      λ z m. elim m [
        | inl f ↦ subst (λ w. list_any (λ y. same_key y w) earlier ≡ false) (sym f) first.0
        | inr r ↦ false_from_ne_true _ (λ t.
            let c = any_back (λ y. same_key y z) earlier t in
            true≢false (sym (any_from (λ y. same_key y z) c.0 (earlier ++ x ∷ []) (In-append_left c.0 earlier (x ∷ []) c.1) c.2) ∙ rest.1 z r))
      ],
    )
  where
    missed : (b : Bool) → cond b (Some place) (repeat_from same_key (place + 1) (earlier ++ x ∷ []) xs) ≡ None
        → (b ≡ false) × (repeat_from same_key (place + 1) (earlier ++ x ∷ []) xs ≡ None)
    missed true f = absurd cc
    missed false f = (refl, f)

pub record AreDistinct (pairs : List Attr) : Type 0 where
  pub least : 1 ≤ length pairs
  pub most : length pairs ≤ 16
  pub once : Once (map (λ attr. attr.0) pairs)

pub distinct_if : (pairs : List Attr) → are_pairs pairs ≡ true → AreDistinct pairs
unfolding pairs_fault
distinct_if pairs e = empty (eqb (length pairs) 0) refl e
  where
    last : (r : Option ℕ) → first_repeat same_key pairs ≡ r → is_none (option_map pairs_faults.Repeated r) ≡ true → first_repeat same_key pairs ≡ None
    last None f t = f
    last (Some place) f t = absurd (true≢false (sym t))

    few : (b : Bool) → ltb 16 (length pairs) ≡ b → is_none (cond b (Some pairs_faults.TooMany) (option_map pairs_faults.Repeated (first_repeat same_key pairs))) ≡ true → 1 ≤ length pairs → AreDistinct pairs
    few true f t l = absurd (true≢false (sym t))
    few false f t l = record {
      least = l;
      most = ltb-false 16 (length pairs) f;
      once = (no_repeat 0 [] pairs (last (first_repeat same_key pairs) refl t)).0;
    }

    empty : (b : Bool) → eqb (length pairs) 0 ≡ b → is_none (cond b (Some pairs_faults.Empty) (cond (ltb 16 (length pairs)) (Some pairs_faults.TooMany) (option_map pairs_faults.Repeated (first_repeat same_key pairs)))) ≡ true → AreDistinct pairs
    empty true f t = absurd (true≢false (sym t))
    empty false f t = few (ltb 16 (length pairs)) refl t (let n = eqb-false (length pairs) 0 f in omega (arith, n))

each_once_if : (xs : List Bytes) → Once xs → each_once bytes_eq xs ≡ xs
each_once_if [] o = refl
each_once_if (x ∷ xs) o = ap (λ l. x ∷ filter (λ y. not (bytes_eq x y)) l) (each_once_if xs o.1) ∙ ap (λ l. x ∷ l) (kept xs (λ y m e. o.0 (subst (λ z. In z xs) (sym e) m)))
  where
    kept : (ys : List Bytes) → ((y : Bytes) → In y ys → x ≡ y → ⊥) → filter (λ y. not (bytes_eq x y)) ys ≡ ys
    kept [] d = refl
    kept (y ∷ ys) d =
        let f : bytes_eq x y ≡ false = false_from_ne_true (bytes_eq x y) (λ t. d y (inl refl) (same_key_is x y t)) in
        rw f (ap (λ l. y ∷ l) (kept ys (λ z m. d z (inr m))))

length-filter_map : (p : Bytes → Bool) (pairs : List Attr) → length (filter p (map (λ attr. attr.0) pairs)) ≡ count_by (λ attr. p attr.0) pairs
length-filter_map p [] = refl
length-filter_map p (x ∷ xs) = step (p x.0) (filter p (map (λ attr. attr.0) xs)) (count_by (λ attr. p attr.0) xs) (length-filter_map p xs) ∙ sym (sum_by-cons (λ (attr : Attr). cond (p attr.0) 1 0) x xs)
  where
    step : (b : Bool) (l : List Bytes) (n : ℕ) → length l ≡ n → length (cond b (x.0 ∷ l) l) ≡ cond b 1 0 + n
    step true l n e = omega (arith, e)
    step false l n e = omega (arith, e)

-- of a put, whose keys differ, each key counts once
pub keys_with_put : (k : List Op) (op : Op) → are_pairs (pairs_of_body op.body) ≡ true
    → length (keys_of (k ++ op ∷ [])) ≡ length (keys_of k) + count_by (λ attr. not (list_any (bytes_eq attr.0) (keys_of k))) (pairs_of_body op.body)
keys_with_put k op e =
    let new : Bytes → Bool = λ key. not (list_any (bytes_eq key) (keys_of k)) in
    keys_with k op
    ∙ ap (λ l. length (keys_of k) + length (filter new l)) (each_once_if (keys_of_body op.body) (distinct_if (pairs_of_body op.body) e).once)
    ∙ ap (λ n. length (keys_of k) + n) (length-filter_map new (pairs_of_body op.body))

pub pairs_differ : (pairs : List Attr) → are_pairs pairs ≡ true → (1 ≤ length pairs) × (length pairs ≤ 16) × HasNoRepeats (map (λ attr. attr.0) pairs)
pairs_differ pairs e = let d = distinct_if pairs e in (d.least, d.most, HasNoRepeats-from_Once (map (λ attr. attr.0) pairs) d.once)

-- ---- the values of two puts

-- the value of a key is the one that stands with it
value_is : (pairs : List Attr) (pair : Attr) → Once (map (λ attr. attr.0) pairs) → In pair pairs → value_at pair.0 pairs ≡ Some pair.1
value_is [] pair o m = absurd m
value_is (x ∷ xs) pair o m = elim m [
  | inl e ↦
      (let t : bytes_eq x.0 pair.0 ≡ true = ap (bytes_eq x.0) (ap (λ (attr : Attr). attr.0) e) ∙ same_key_itself x.0 in
      rw t (ap (λ (attr : Attr). Some attr.1) (sym e)))
  | inr r ↦
      (let f : bytes_eq x.0 pair.0 ≡ false = false_from_ne_true (bytes_eq x.0 pair.0) (λ t.
      o.0 (subst (λ k. In k (map (λ (attr : Attr). attr.0) xs)) (sym (same_key_is x.0 pair.0 t)) (In-map (λ (attr : Attr). attr.0) pair xs r))) in
      rw f (value_is xs pair o.1 r))
]

given : (key : Bytes) (pairs : List Attr) (value : Value) → value_at key pairs ≡ Some value → (pair : Attr) × In pair pairs × (pair.0 ≡ key) × (pair.1 ≡ value)
given key pairs value e = go (find (λ (attr : Attr). bytes_eq attr.0 key) pairs) refl e
  where
    go : (r : Option Attr) → find (λ (attr : Attr). bytes_eq attr.0 key) pairs ≡ r → option_map (λ (attr : Attr). attr.1) r ≡ Some value → (pair : Attr) × In pair pairs × (pair.0 ≡ key) × (pair.1 ≡ value)
    go None f g = absurd cc
    go (Some pair) f g =
        let c = find_is (λ (attr : Attr). bytes_eq attr.0 key) pair pairs f in
        let v : pair.1 ≡ value = cc in
        (pair, c.0, same_key_is pair.0 key c.1, v)

module _ (key : Bytes) (value : Value) (pairs : List Attr) (once : Once (map (λ attr. attr.0) pairs)) where
  abbrev another : Attr → Bool
  another attr = bytes_eq attr.0 key && not (same_value value attr.1)

  another_if : (r : Option Value) → value_at key pairs ≡ r → are_different (Some value) r ≡ true → gives_another key value pairs ≡ true
  another_if None e t = absurd (true≢false (sym t))
  another_if (Some other) e t =
      let c = given key pairs other e in
      any_from another c.0 pairs c.1 (and_from (bytes_eq c.0.0 key) (not (same_value value c.0.1)) (ap (λ k. bytes_eq k key) c.2 ∙ same_key_itself key) (ap (λ v. not (same_value value v)) c.3 ∙ t))

  another_back : gives_another key value pairs ≡ true → are_different (Some value) (value_at key pairs) ≡ true
  another_back t =
      let c = any_back another pairs t in
      let d = and_parts (bytes_eq c.0.0 key) (not (same_value value c.0.1)) c.2 in
      let v : value_at key pairs ≡ Some c.0.1 = subst (λ k. value_at k pairs ≡ Some c.0.1) (same_key_is c.0.0 key d.0) (value_is pairs c.0 once c.1) in
      ap (are_different (Some value)) v ∙ d.1

  another_is : gives_another key value pairs ≡ are_different (Some value) (value_at key pairs)
  another_is = same_answer (gives_another key value pairs) (are_different (Some value) (value_at key pairs)) another_back (another_if (value_at key pairs) refl)

-- whether two puts differ is told by their attributes one by one
pub differ_by_pairs : (first second : List Attr) → are_pairs first ≡ true → are_pairs second ≡ true → list_any (λ attr. gives_another attr.0 attr.1 second) first ≡ do_pairs_differ first second
differ_by_pairs first second p q =
    let one = (distinct_if first p).once in
    let other = (distinct_if second q).once in
    any_agree (λ (attr : Attr). gives_another attr.0 attr.1 second) (λ (attr : Attr). are_different (value_at attr.0 first) (value_at attr.0 second)) first
    (λ attr m. another_is attr.0 attr.1 second other ∙ ap (λ v. are_different v (value_at attr.0 second)) (sym (value_is first attr one m)))
