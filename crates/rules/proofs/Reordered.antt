-- In whatever order the operations of a group are listed, it has the same attributes.
use Rattle.std.proofs.Common.{◌≡◌, Bool, true, List, [], ◌∷◌, ◌++◌, map, refl, sym, ap, ◌∙◌, subst, inl, inr, Option, Some, None, ◌&&◌, not}
use Rattle.std.specs.Prelude.{filter_map, find, flat_map, option_map, bytes_eq}
use Rattle.std.specs.declared.cmp.Ordering.TheVariants.{Equal}
use Rattle.std.specs.List.{list_any}
use Rattle.std.specs.Ordering.{nat_cmp, is_eq}
use Rattle.std.specs.Cmp.{IsTotalOrder, unsigned_ties}
use Rattle.std.specs.Cmp.Lexicographic.{lists_ties}
use Rattle.std.proofs.lemmas.Bool.{cases_Bool, true≢false, not-true, not_from_false}
use Rattle.std.proofs.lemmas.Cmp.{on_total, nat_cmp_total, lists_total}
use Rattle.std.proofs.lemmas.Slice.Eq.{bytes_eq-Decides}
use Rattle.base_types.specs.Texts.{Bytes}
use Rattle.base_types.specs.declared.value.Value.{Value}
use Rattle.rules.specs.declared.history.Op.{Op}
use Rattle.rules.specs.AttrLists.{Attr}
use Rattle.rules.specs.Bodies.{keys_of_body, value_of_body}
use Rattle.rules.specs.Lists.{each_once, sort_by}
use Rattle.rules.specs.Operations.{before}
use Rattle.rules.specs.Versions.{attributes, decides, gives, key_cmp, keys_of, value_by, value_of_key}
use Rattle.rules.proofs.Lists.{In, In-append_cases, In-append_left, In-append_right, In-filter, In-filter_back, In-filter_map, In-filter_map_back, In-flat_map, In-flat_map_back, any_from, any_back, any_none, filter_map_agree, find_is, find_none}
use Rattle.rules.proofs.Once.{Once, Once-filter}
use Rattle.rules.proofs.Sorting.{Untied, sort_back, sort_in, sort_is, sort_rises}

-- two lists have the same members
pub record SameMembers {X : Type 0} (xs ys : List X) : Type 0 where
  pub to : (x : X) → In x xs → In x ys
  pub back : (x : X) → In x ys → In x xs

pub any_same : {X : Type 0} (p : X → Bool) (xs ys : List X) → SameMembers xs ys → list_any p xs ≡ list_any p ys
any_same p xs ys w = elim (cases_Bool (list_any p xs)) [
  | inl t ↦ (let c = any_back p xs t in t ∙ sym (any_from p c.0 ys (w.to c.0 c.1) c.2))
  | inr f ↦ elim (cases_Bool (list_any p ys)) [
    | inl t ↦ (let c = any_back p ys t in absurd (true≢false (sym c.2 ∙ any_none p c.0 xs f (w.back c.0 c.1))))
    | inr g ↦ f ∙ sym g
  ]
]

-- ---- each member once

module _ {X : Type 0} (same : X → X → Bool) (decides_same : (x y : X) → same x y ≡ true → x ≡ y) (same_itself : (x : X) → same x x ≡ true) where
  pub In-each_once_back : (x : X) (xs : List X) → In x (each_once same xs) → In x xs
  In-each_once_back x [] m = m
  In-each_once_back x (y ∷ ys) m = elim m [
    | inl e ↦ inl e
    | inr r ↦ inr (In-each_once_back x ys (In-filter_back (λ z. not (same y z)) x (each_once same ys) r).0)
  ]

  pub In-each_once : (x : X) (xs : List X) → In x xs → In x (each_once same xs)
  In-each_once x [] m = m
  In-each_once x (y ∷ ys) m = elim (cases_Bool (same y x)) [
    | inl t ↦ inl (sym (decides_same y x t))
    | inr f ↦ elim m [
      | inl e ↦ inl e
      | inr r ↦ inr (In-filter (λ z. not (same y z)) x (each_once same ys) (In-each_once x ys r) (not_from_false (same y x) f))
    ]
  ]

  pub Once-each_once : (xs : List X) → Once (each_once same xs)
  Once-each_once [] = tt
  Once-each_once (y ∷ ys) = (
    (λ m. let c = In-filter_back (λ z. not (same y z)) y (each_once same ys) m in true≢false (sym (same_itself y) ∙ not-true (same y y) c.1)),
    Once-filter (λ z. not (same y z)) (each_once same ys) (Once-each_once ys),
  )

pub same_key_is : (x y : Bytes) → bytes_eq x y ≡ true → x ≡ y
same_key_is x y e = (bytes_eq-Decides x y).0 e

pub same_key_itself : (x : Bytes) → bytes_eq x x ≡ true
same_key_itself x = (bytes_eq-Decides x x).1 refl

-- the keys of operations are those of each of them
pub in_keys : (g : List Op) (op : Op) (key : Bytes) → In op g → In key (keys_of_body op.body) → In key (keys_of g)
in_keys g op key m n = In-each_once bytes_eq same_key_is same_key_itself key (flat_map (λ op. keys_of_body op.body) g) (In-flat_map (λ (op : Op). keys_of_body op.body) op key g m n)

pub in_keys_back : (g : List Op) (key : Bytes) → In key (keys_of g) → (op : Op) × In op g × In key (keys_of_body op.body)
in_keys_back g key m = In-flat_map_back (λ (op : Op). keys_of_body op.body) key g (In-each_once_back bytes_eq same_key_is same_key_itself key (flat_map (λ op. keys_of_body op.body) g) m)

-- ---- attributes in order of key

pub key_cmp_total : IsTotalOrder key_cmp
key_cmp_total = on_total (λ (attr : Attr). attr.0) (lists_total nat_cmp_total)

pub one_key : (p q : Attr) → key_cmp p q ≡ Equal → p.0 ≡ q.0
one_key p q e = same_key_is p.0 q.0 (lists_ties nat_cmp unsigned_ties p.0 q.0 ∙ ap is_eq e)

-- each key with the value that a function gives it
abbrev pub with_values : (Bytes → Option Value) → List Bytes → List Attr
with_values value keys = filter_map (λ key. option_map (λ v. (key, v)) (value key)) keys

value_key : (value : Bytes → Option Value) (key : Bytes) (p : Attr) → option_map (λ v. (key, v)) (value key) ≡ Some p → p.0 ≡ key
value_key value key p e = go (value key) e
  where
    go : (r : Option Value) → option_map (λ v. (key, v)) r ≡ Some p → p.0 ≡ key
    go None f = absurd cc
    go (Some v) f = (let g : (key, v) ≡ p = cc in ap (λ (a : Attr). a.0) (sym g))

pub untied_with_values : (value : Bytes → Option Value) (keys : List Bytes) → Once keys → Untied key_cmp key_cmp_total (with_values value keys)
untied_with_values value [] o = tt
untied_with_values value (k ∷ ks) o = go (value k) refl (untied_with_values value ks o.1)
  where
    shown : Bytes → Option Attr
    shown key = option_map (λ v. (key, v)) (value key)

    go : (r : Option Value) → value k ≡ r → Untied key_cmp key_cmp_total (with_values value ks) → Untied key_cmp key_cmp_total (with_values value (k ∷ ks))
    go None e later = rw e later
    go (Some v) e later = rw e (
      (λ q m same.
          let c = In-filter_map_back shown q ks m in
          o.0 (subst (λ x. In x ks) (sym (value_key value c.0 q c.2) ∙ sym (one_key (k, v) q same)) c.1)),
      later,
    )

-- ---- one group in two orders

module _ (f g : List Op) (w : SameMembers f g) where
  decides_the_same : (key : Bytes) (op : Op) → decides key f op ≡ decides key g op
  decides_the_same key op = ap (λ b. gives key op && not b) (any_same (λ later. gives key later && before op later) f g w)

  pub keys_the_same : SameMembers (keys_of f) (keys_of g)
  keys_the_same = record {
    to = λ k m. let c = in_keys_back f k m in in_keys g c.0 k (w.to c.0 c.1) c.2;
    back = λ k m. let c = in_keys_back g k m in in_keys f c.0 k (w.back c.0 c.1) c.2;
  }

  module _ (initial : List Attr) (one : (key : Bytes) (a b : Op) → In a f → In b f → decides key f a ≡ true → decides key f b ≡ true → value_of_body key a.body ≡ value_of_body key b.body) where
    value_the_same : (key : Bytes) → value_of_key initial f key ≡ value_of_key initial g key
    value_the_same key = go (find (decides key f) f) (find (decides key g) g) refl refl
      where
        go : (r s : Option Op) → find (decides key f) f ≡ r → find (decides key g) g ≡ s → value_of_key initial f key ≡ value_of_key initial g key
        go None None d e = ap (value_by key initial) d ∙ ap (value_by key initial) (sym e)
        go (Some a) None d e =
            let c = find_is (decides key f) a f d in
            absurd (true≢false (sym c.1 ∙ decides_the_same key a ∙ find_none (decides key g) a g e (w.to a c.0)))
        go None (Some b) d e =
            let c = find_is (decides key g) b g e in
            absurd (true≢false (sym c.1 ∙ sym (decides_the_same key b) ∙ find_none (decides key f) b f d (w.back b c.0)))
        go (Some a) (Some b) d e =
            let c = find_is (decides key f) a f d in
            let h = find_is (decides key g) b g e in
            ap (value_by key initial) d ∙ one key a b c.0 (w.back b h.0) c.1 (decides_the_same key b ∙ h.1) ∙ ap (value_by key initial) (sym e)

    abbrev keys : List Op → List Bytes
    keys h = each_once bytes_eq (map (λ attr. attr.0) initial ++ keys_of h)

    keys_move : (a b : List Op) → ((k : Bytes) → In k (keys_of a) → In k (keys_of b)) → (k : Bytes) → In k (keys a) → In k (keys b)
    keys_move a b t k m =
        let first = map (λ (attr : Attr). attr.0) initial in
        In-each_once bytes_eq same_key_is same_key_itself k (first ++ keys_of b) (elim (In-append_cases k first (keys_of a) (In-each_once_back bytes_eq same_key_is same_key_itself k (first ++ keys_of a) m)) [
          | inl l ↦ In-append_left k first (keys_of b) l
          | inr r ↦ In-append_right k first (keys_of b) (t k r)
        ])

    abbrev listed : List Op → List Attr
    listed h = with_values (value_of_key initial g) (keys h)

    in_listed : (a b : List Op) → ((k : Bytes) → In k (keys a) → In k (keys b)) → (p : Attr) → In p (listed a) → In p (listed b)
    in_listed a b t p m =
        let shown : Bytes → Option Attr = λ key. option_map (λ v. (key, v)) (value_of_key initial g key) in
        let c = In-filter_map_back shown p (keys a) m in
        In-filter_map shown c.0 p (keys b) (t c.0 c.1) c.2

    untied : (h : List Op) → Untied key_cmp key_cmp_total (listed h)
    untied h = untied_with_values (value_of_key initial g) (keys h) (Once-each_once bytes_eq same_key_is same_key_itself (map (λ attr. attr.0) initial ++ keys_of h))

    -- the attributes of a group whose deciding operations agree, in whatever order these are listed
    pub attributes_reordered : attributes initial f ≡ attributes initial g
    unfolding attributes
    attributes_reordered =
        ap (sort_by key_cmp) (filter_map_agree (λ key. option_map (λ v. (key, v)) (value_of_key initial f key)) (λ key. option_map (λ v. (key, v)) (value_of_key initial g key)) (keys f) (λ key m. ap (option_map (λ v. (key, v))) (value_the_same key)))
        ∙ sort_is key_cmp key_cmp_total (listed g) (sort_by key_cmp (listed f)) (untied g)
        (sort_rises key_cmp key_cmp_total (listed f) (untied f))
        (λ p m. sort_in key_cmp p (listed f) (in_listed g f (keys_move g f keys_the_same.back) p m))
        (λ p m. in_listed f g (keys_move f g keys_the_same.to) p (sort_back key_cmp p (listed f) m))
