-- The index of changes by key: with one change more, and what is asked of it.
use Rattle.std.proofs.Common.{◌≡◌, ℕ, suc, ◌+◌, ◌<◌, ◌≤◌, Bool, true, false, ◌||◌, ◌⊎◌, List, [], ◌∷◌, ◌++◌, length, set, refl, sym, ap, ◌∙◌, subst, inl, inr, arith, eqb, get_or, drop, drop-cons, map}
use Rattle.std.specs.Prelude.{filter, bytes_eq, MatchBool}
use Rattle.std.specs.List.{list_any}
use Rattle.std.proofs.lemmas.Bool.{true≢false, cases_eq, cases_lt, or_cases, or_left, or_right, eq-eqb, eqb-true, false_from_ne_true}
use Rattle.std.proofs.lemmas.List.Folds.{list_any_at}
use Rattle.std.proofs.lemmas.List.{get_or_append_left, get_or_at, get_or_past, get_or-set_same, get_or-set_other, length-append, length-set}
use Rattle.base_types.specs.Names.{Name}
use Rattle.base_types.specs.Texts.{Bytes}
use Rattle.rules.specs.declared.history.Op.{Op}
use Rattle.rules.specs.declared.history.Body.TheVariants.{New, DropVersion}
use Rattle.rules.specs.AttrLists.{Attr}
use Rattle.rules.specs.Bodies.{is_drop_body}
use Rattle.rules.proofs.Lists.{In, In-filter, In-filter_back, any_from, any_back, filter_agree}
use Rattle.rules.proofs.Relation.{same_answer}
use Rattle.rules.proofs.Reordered.{same_key_is, same_key_itself}
use Rattle.places.specs.steps.PlaceSet.{has, with_place, with_places, places}
use Rattle.places.specs.steps.Changes.{at, nothing}
use Rattle.changes_by_key.specs.steps.Indexes.{OfKey, KeyIndex, AreByKey, IsUnder, key_at, body_gives, of_key, is_drop_at, with_drop}
use Rattle.places.specs.steps.PlaceSet.{AreBelow}
use Rattle.places.proofs.Places.{In-places, in_if_has, has_if_in, has-filter, below, left_next, put_next}
use Rattle.places.proofs.WordPlaces.{has-with_place, has-with_all}
use Rattle.places.proofs.ChangesAt.{at_in, at_push, place_of}

pub any_key : (key : Bytes) (pairs : List Attr) → list_any (λ pair. bytes_eq key pair.0) pairs ≡ list_any (bytes_eq key) (map (λ pair. pair.0) pairs)
any_key key [] = refl
any_key key (pair ∷ pairs) = ap (λ b. bytes_eq key pair.0 || b) (any_key key pairs)

-- ---- one change more, which isn't in it yet

pub by_key_push : (k : List Op) (o : Op) (index : KeyIndex) → AreByKey k index → AreByKey (k ++ o ∷ []) index
by_key_push k o index w =
    let inside : index.len ≤ length k = w.within in
    let longer = length-append k (o ∷ []) in
    record {
      within = omega arith;
      all = λ c p l t. w.all c p l (ap (λ (x : Op). body_gives c x.body) (sym (at_push k o p (omega arith))) ∙ t);
      only = λ c p u. let h = w.only c p u in let b : p < length k = h.0 in (omega arith, ap (λ (x : Op). body_gives c x.body) (at_push k o p b) ∙ h.1);
      some = w.some;
      apart = w.apart;
      drops = w.drops ∙ filter_agree (is_drop_at k) (is_drop_at (k ++ o ∷ [])) (places index.len) (λ p m. let b = below index.len p m in ap (λ (x : Op). is_drop_body x.body) (sym (at_push k o p (omega arith))));
    }

module _ (k : List Op) (index : KeyIndex) (w : AreByKey k index) (few : index.len < length k) where
  abbrev n : ℕ
  n = index.len

  abbrev size : ℕ
  size = length index.keys

  abbrev keys : List OfKey
  keys = index.keys

  -- ---- the next change under a key that is there

  module _ (i : ℕ) (l : i < size) (there : of_key k (key_at keys i).key n ≡ true) where
    abbrev entry : OfKey
    entry = record { key = (key_at keys i).key; places = with_place n (key_at keys i).places }

    abbrev grown : List OfKey
    grown = set keys i entry

    as_long : length grown ≡ size
    as_long = length-set keys i entry

    same : key_at grown i ≡ entry
    same = get_or-set_same keys i entry (key_at [] 0) l

    other : (j : ℕ) → (j ≡ i → ⊥) → key_at grown j ≡ key_at keys j
    other j d = get_or-set_other keys i j entry (key_at [] 0) d

    grown_key : (j : ℕ) → (key_at grown j).key ≡ (key_at keys j).key
    grown_key j = elim (cases_eq j i) [
      | inl f ↦ ap (λ j. (key_at grown j).key) f ∙ ap (λ (of : OfKey). of.key) same ∙ ap (λ j. (key_at keys j).key) (sym f)
      | inr d ↦ ap (λ (of : OfKey). of.key) (other j d)
    ]

    -- what its key has
    grown_there : (j p : ℕ) → j ≡ i → has (key_at grown j).places p ≡ (has (key_at keys j).places p || eqb n p)
    grown_there j p f =
        ap (λ j. has (key_at grown j).places p) f
        ∙ ap (λ (of : OfKey). has of.places p) same
        ∙ has-with_place n (key_at keys i).places p
        ∙ ap (λ j. has (key_at keys j).places p || eqb n p) (sym f)

    grown_has : (j p : ℕ) → has (key_at keys j).places p ≡ true → has (key_at grown j).places p ≡ true
    grown_has j p h = elim (cases_eq j i) [
      | inl f ↦ grown_there j p f ∙ or_left (has (key_at keys j).places p) (eqb n p) h
      | inr d ↦ ap (λ (of : OfKey). has of.places p) (other j d) ∙ h
    ]

    grown_back : (j p : ℕ) → has (key_at grown j).places p ≡ true → (has (key_at keys j).places p ≡ true) ⊎ ((j ≡ i) × (n ≡ p))
    grown_back j p h = elim (cases_eq j i) [
      | inl f ↦ elim (or_cases (has (key_at keys j).places p) (eqb n p) (sym (grown_there j p f) ∙ h)) [
        | inl a ↦ inl a
        | inr e ↦ inr (f, eqb-true n p e)
      ]
      | inr d ↦ inl (ap (λ (of : OfKey). has of.places p) (sym (other j d)) ∙ h)
    ]

    pub kept_grown : (c : Bytes) (p : ℕ) → IsUnder keys c p → IsUnder grown c p
    kept_grown c p u = record {
      entry = u.entry;
      within = (let b = u.within in omega (arith, as_long, b));
      of_it = grown_key u.entry ∙ u.of_it;
      placed = grown_has u.entry p u.placed;
    }

    pub own_grown : IsUnder grown (key_at keys i).key n
    own_grown = record {
      entry = i;
      within = omega (arith, as_long, l);
      of_it = grown_key i;
      placed = grown_there i n refl ∙ or_right (has (key_at keys i).places n) (eqb n n) (eq-eqb n n refl);
    }

    pub by_key_grown : AreByKey k (record { len = n; keys = grown; drops = index.drops })
    by_key_grown = record {
      within = w.within;
      all = λ c p b t. kept_grown c p (w.all c p b t);
      only = λ c p u. elim (grown_back u.entry p u.placed) [
        | inl h ↦ (let b = u.within in w.only c p (record { entry = u.entry; within = omega (arith, as_long, b); of_it = sym (grown_key u.entry) ∙ u.of_it; placed = h }))
        | inr q ↦
            (let e : p ≡ n = sym q.1 in
            let its : c ≡ (key_at keys i).key = sym u.of_it ∙ grown_key u.entry ∙ ap (λ j. (key_at keys j).key) q.0 in
            (omega (arith, few, e), (λ t. of_key k (its t) (e t)) ∙ there))
      ];
      some = λ j b. let s = w.some j (omega (arith, as_long, b)) in (s.0, grown_has j s.0 s.1);
      apart = λ a b la lb e. w.apart a b (omega (arith, as_long, la)) (omega (arith, as_long, lb)) (sym (grown_key a) ∙ e ∙ grown_key b);
      drops = w.drops;
    }

  -- ---- or the first under a key

  module _ (key : Bytes) (here : of_key k key n ≡ true) (new : (i : ℕ) → i < size → (key_at keys i).key ≡ key → ⊥) where
    abbrev first : OfKey
    first = record { key = key; places = n ∷ [] }

    abbrev begun : List OfKey
    begun = keys ++ first ∷ []

    longer : length begun ≡ size + 1
    longer = length-append keys (first ∷ [])

    last : (j : ℕ) → j ≡ size → key_at begun j ≡ first
    last j e = ap (key_at begun) e ∙ get_or_at keys first [] (key_at [] 0) size refl

    old : (j : ℕ) → j < size → key_at begun j ≡ key_at keys j
    old j b = get_or_append_left keys (first ∷ []) (key_at [] 0) j b

    pub kept_begun : (c : Bytes) (p : ℕ) → IsUnder keys c p → IsUnder begun c p
    kept_begun c p u = record {
      entry = u.entry;
      within = (let b = u.within in omega (arith, longer, b));
      of_it = ap (λ (of : OfKey). of.key) (old u.entry u.within) ∙ u.of_it;
      placed = ap (λ (of : OfKey). has of.places p) (old u.entry u.within) ∙ u.placed;
    }

    pub own_begun : IsUnder begun key n
    own_begun = record {
      entry = size;
      within = omega (arith, longer);
      of_it = ap (λ (of : OfKey). of.key) (last size refl);
      placed = ap (λ (of : OfKey). has of.places n) (last size refl) ∙ has_if_in (n ∷ []) n (inl refl);
    }

    only_begun : (c : Bytes) (p : ℕ) → IsUnder begun c p → (p < length k) × (of_key k c p ≡ true)
    only_begun c p u = elim (cases_lt u.entry size) [
      | inl b ↦ w.only c p (record { entry = u.entry; within = b; of_it = ap (λ (of : OfKey). of.key) (sym (old u.entry b)) ∙ u.of_it; placed = ap (λ (of : OfKey). has of.places p) (sym (old u.entry b)) ∙ u.placed })
      | inr g ↦
          (let b = u.within in
          let f : u.entry ≡ size = omega (arith, longer, b, g) in
          let its : c ≡ key = sym u.of_it ∙ ap (λ (of : OfKey). of.key) (last u.entry f) in
          elim (in_if_has (n ∷ []) p (ap (λ (of : OfKey). has of.places p) (sym (last u.entry f)) ∙ u.placed)) [
            | inl e ↦ (omega (arith, few, e), (λ t. of_key k (its t) (e t)) ∙ here)
            | inr z ↦ absurd z
          ])
    ]

    apart_begun : (i j : ℕ) → i < length begun → j < length begun → (key_at begun i).key ≡ (key_at begun j).key → i ≡ j
    apart_begun i j l m e = elim (cases_lt i size) [
      | inl b ↦ elim (cases_lt j size) [
        | inl h ↦ w.apart i j b h (ap (λ (of : OfKey). of.key) (sym (old i b)) ∙ e ∙ ap (λ (of : OfKey). of.key) (old j h))
        | inr h ↦ (let q : j ≡ size = omega (arith, longer, m, h) in absurd (new i b (ap (λ (of : OfKey). of.key) (sym (old i b)) ∙ e ∙ ap (λ (of : OfKey). of.key) (last j q))))
      ]
      | inr b ↦ elim (cases_lt j size) [
        | inl h ↦ (let q : i ≡ size = omega (arith, longer, l, b) in absurd (new j h (ap (λ (of : OfKey). of.key) (sym (old j h)) ∙ sym e ∙ ap (λ (of : OfKey). of.key) (last i q))))
        | inr h ↦ omega (arith, longer, l, m, b, h)
      ]
    ]

    pub by_key_begun : AreByKey k (record { len = n; keys = begun; drops = index.drops })
    by_key_begun = record {
      within = w.within;
      all = λ c p b t. kept_begun c p (w.all c p b t);
      only = only_begun;
      some = λ j b. elim (cases_lt j size) [
        | inl h ↦ (let s = w.some j h in (s.0, ap (λ (of : OfKey). has of.places s.0) (old j h) ∙ s.1))
        | inr g ↦ (n, ap (λ (of : OfKey). has of.places n) (last j (omega (arith, longer, b, g))) ∙ has_if_in (n ∷ []) n (inl refl))
      ];
      apart = apart_begun;
      drops = w.drops;
    }

  -- ---- the next change, once it is under each of its keys

  next : ((c : Bytes) → of_key k c n ≡ true → IsUnder keys c n) → (drops : List ℕ) → drops ≡ filter (is_drop_at k) (places (n + 1)) → AreByKey k (record { len = n + 1; keys = keys; drops = drops })
  next under drops are = record {
    within = omega arith;
    all = λ c p b t. elim (cases_lt p n) [
      | inl l ↦ w.all c p l t
      | inr g ↦ (let e : p ≡ n = omega arith in subst (IsUnder keys c) (sym e) (under c (ap (of_key k c) (sym e) ∙ t)))
    ];
    only = w.only;
    some = w.some;
    apart = w.apart;
    drops = are;
  }

  pub by_key_put : is_drop_at k n ≡ false → ((c : Bytes) → of_key k c n ≡ true → IsUnder keys c n) → AreByKey k (record { len = n + 1; keys = keys; drops = index.drops })
  by_key_put none under = next under index.drops (w.drops ∙ sym (left_next (is_drop_at k) n none))

  -- a drop and a creation give no key a value
  pub by_key_drop : (object : Name) (version : List Name) → (at k n).body ≡ DropVersion object version → AreByKey k (with_drop index)
  by_key_drop object version e =
      next (λ c t. absurd (true≢false (sym t ∙ ap (body_gives c) e))) (with_place n index.drops)
      (put_next (is_drop_at k) n index.drops (with_place n index.drops) w.drops (ap is_drop_body e) refl)

  pub by_key_new : (kind : Bytes) (attrs : List Attr) → (at k n).body ≡ New kind attrs → AreByKey k (record { len = n + 1; keys = keys; drops = index.drops })
  by_key_new kind attrs e = by_key_put (ap is_drop_body e) (λ c t. absurd (true≢false (sym t ∙ ap (body_gives c) e)))

-- ---- a loop over the keys of the next change

-- a key of these pairs stands from the place i on, or the change at n is under it already
abbrev pub IsLeftOrUnder : List Attr → List OfKey → ℕ → ℕ → Bytes → Type 0
IsLeftOrUnder pairs keys n i key = (list_any (bytes_eq key) (map (λ pair. pair.0) (drop i pairs)) ≡ true) ⊎ IsUnder keys key n

drop_next : (pairs : List Attr) (i : ℕ) (pair : Attr) → i < length pairs → pair ≡ get_or pairs i pair → drop i pairs ≡ pair ∷ drop (i + 1) pairs
drop_next pairs i pair l e =
    let one : suc i ≡ i + 1 = omega arith in
    drop-cons pairs i pair l ∙ (λ t. sym e t ∷ drop (one t) pairs)

-- each of the pairs gives its key
pub given_at : (pairs : List Attr) (i : ℕ) (pair : Attr) → i < length pairs → pair ≡ get_or pairs i pair → list_any (bytes_eq pair.0) (map (λ pair. pair.0) pairs) ≡ true
given_at pairs i pair l e =
    sym (any_key pair.0 pairs)
    ∙ list_any_at (λ (other : Attr). bytes_eq pair.0 other.0) pairs i pair l (ap (λ (other : Attr). bytes_eq pair.0 other.0) (sym e) ∙ same_key_itself pair.0)

-- with the next pair: the change is under its key, and what stood under a key still does
pub one_key_more : (pairs : List Attr) (i : ℕ) (pair : Attr) (old new : List OfKey) (n : ℕ) → i < length pairs → pair ≡ get_or pairs i pair
    → ((c : Bytes) (p : ℕ) → IsUnder old c p → IsUnder new c p) → IsUnder new pair.0 n → (key : Bytes) → IsLeftOrUnder pairs old n i key → IsLeftOrUnder pairs new n (i + 1) key
one_key_more pairs i pair old new n l e kept there key h = elim h [
  | inr u ↦ inr (kept key n u)
  | inl t ↦ elim (or_cases (bytes_eq key pair.0) _ (sym (ap (λ (ps : List Attr). list_any (bytes_eq key) (map (λ (pair : Attr). pair.0) ps)) (drop_next pairs i pair l e)) ∙ t)) [
    | inl q ↦ inr (subst (λ c. IsUnder new c n) (sym (same_key_is key pair.0 q)) there)
    | inr r ↦ inl r
  ]
]

-- ---- what is asked of it

module _ (k : List Op) (index : KeyIndex) (w : AreByKey k index) where
  module _ (key : Bytes) where
    -- a key that it has, some change gives a value
    pub key_given : (i : ℕ) → i < length index.keys → (key_at index.keys i).key ≡ key → list_any (λ (op : Op). body_gives key op.body) k ≡ true
    key_given i l e =
        let s = w.some i l in
        let h = w.only key s.0 (record { entry = i; within = l; of_it = e; placed = s.1 }) in
        any_from (λ (op : Op). body_gives key op.body) (at k s.0) k (at_in k s.0 h.0) h.1

    -- of the others only the changes after it can
    key_after : ((i : ℕ) → i < length index.keys → (key_at index.keys i).key ≡ key → ⊥) → ((p : ℕ) → index.len ≤ p → p < length k → of_key k key p ≡ false)
        → list_any (λ (op : Op). body_gives key op.body) k ≡ false
    key_after none after = false_from_ne_true (list_any (λ (op : Op). body_gives key op.body) k) (λ t.
        let c = any_back (λ (op : Op). body_gives key op.body) k t in
        let p = place_of c.0 k c.1 in
        let here : of_key k key p.place ≡ true = ap (λ (op : Op). body_gives key op.body) p.is ∙ c.2 in
        elim (cases_lt p.place index.len) [
          | inl b ↦ (let u = w.all key p.place b here in none u.entry u.within u.of_it)
          | inr g ↦ true≢false (sym here ∙ after p.place g p.within)
        ])

    pub key_by_last : ((i : ℕ) → i < length index.keys → (key_at index.keys i).key ≡ key → ⊥) → (r : Bool)
        → MatchBool r ((p : ℕ) × (p < length k) × (body_gives key (at k p).body ≡ true)) ((p : ℕ) → index.len ≤ p → p < length k → body_gives key (at k p).body ≡ false)
        → r ≡ list_any (λ (op : Op). body_gives key op.body) k
    key_by_last none true m = sym (any_from (λ (op : Op). body_gives key op.body) (at k m.0) k (at_in k m.0 m.1) m.2)
    key_by_last none false m = sym (key_after none m)

    -- the places of a key, where it has the key
    pub puts_with : (i p : ℕ) → i < length index.keys → (key_at index.keys i).key ≡ key → p < index.len → has (key_at index.keys i).places p ≡ of_key k key p
    puts_with i p l e b = same_answer (has (key_at index.keys i).places p) (of_key k key p)
        (λ h. (w.only key p (record { entry = i; within = l; of_it = e; placed = h })).1)
        (λ t.
        let u = w.all key p b t in
        ap (λ j. has (key_at index.keys j).places p) (w.apart i u.entry l u.within (e ∙ sym u.of_it)) ∙ u.placed)

  module _ (members : List ℕ) where
    -- a drop that it has among some places
    pub drop_found : list_any (has members) index.drops ≡ true → list_any (is_drop_at k) members ≡ true
    drop_found t =
        let c = any_back (has members) index.drops t in
        any_from (is_drop_at k) c.0 members (in_if_has members c.0 c.2) (In-filter_back (is_drop_at k) c.0 (places index.len) (subst (λ (ds : List ℕ). In c.0 ds) w.drops c.1)).1

    -- of the others only the changes after it can be
    drop_after : list_any (has members) index.drops ≡ false → ((p : ℕ) → index.len ≤ p → p < length k → is_drop_at k p ≡ true → has members p ≡ false) → list_any (is_drop_at k) members ≡ false
    drop_after none after = false_from_ne_true (list_any (is_drop_at k) members) (λ t.
        let c = any_back (is_drop_at k) members t in
        let p = c.0 in
        let here : has members p ≡ true = has_if_in members p c.1 in
        elim (cases_lt p index.len) [
          | inl b ↦ true≢false (sym (any_from (has members) p index.drops (subst (λ (ds : List ℕ). In p ds) (sym w.drops) (In-filter (is_drop_at k) p (places index.len) (In-places index.len p b) c.2)) here) ∙ none)
          | inr g ↦ elim (cases_lt p (length k)) [
            | inl b ↦ true≢false (sym here ∙ after p g b c.2)
            | inr h ↦ true≢false (sym c.2 ∙ ap (λ (x : Op). is_drop_body x.body) (get_or_past k p nothing h))
          ]
        ])

    pub drop_by_last : list_any (has members) index.drops ≡ false → (r : Bool)
        → MatchBool r ((p : ℕ) × (is_drop_at k p ≡ true) × (has members p ≡ true)) ((p : ℕ) → index.len ≤ p → p < length k → is_drop_at k p ≡ true → has members p ≡ false)
        → r ≡ list_any (is_drop_at k) members
    drop_by_last none true m = sym (any_from (is_drop_at k) m.0 members (in_if_has members m.0 m.2) m.1)
    drop_by_last none false m = sym (drop_after none m)

  -- a drop that it has stands among the drops
  pub drops_there : (p : ℕ) → p < index.len → has index.drops p ≡ is_drop_at k p
  drops_there p b = ap (λ (ds : List ℕ). has ds p) w.drops ∙ has-filter (is_drop_at k) index.len p b

-- ---- what is found is below the number of changes

pub within_joined : (n : ℕ) (xs ys : List ℕ) → AreBelow n xs → AreBelow n ys → AreBelow n (with_places xs ys)
within_joined n xs ys a b x h = elim (or_cases (has xs x) (has ys x) (sym (has-with_all xs ys x) ∙ h)) [ inl f ↦ a x f | inr f ↦ b x f ]

pub within_and_one : (n p : ℕ) (xs : List ℕ) → AreBelow n xs → p < n → AreBelow n (with_place p xs)
within_and_one n p xs a l x h = elim (or_cases (has xs x) (eqb p x) (sym (has-with_place p xs x) ∙ h)) [
  | inl f ↦ a x f
  | inr f ↦ (let e = eqb-true p x f in omega arith)
]

module _ (k : List Op) (index : KeyIndex) (w : AreByKey k index) where
  pub puts_within : (i : ℕ) → i < length index.keys → AreBelow (length k) (key_at index.keys i).places
  puts_within i l x h = (w.only (key_at index.keys i).key x (record { entry = i; within = l; of_it = refl; placed = h })).0

  pub drops_within : AreBelow (length k) index.drops
  drops_within x h =
      let m = In-filter_back (is_drop_at k) x (places index.len) (in_if_has (filter (is_drop_at k) (places index.len)) x (sym (ap (λ (l : List ℕ). has l x) w.drops) ∙ h)) in
      let b = below index.len x m.0 in
      let long = w.within in
      omega (arith, b, long)
