-- What is kept once of a list of attributes: each key where it comes first.
use Rattle.std.proofs.Common.{◌≡◌, Bool, true, false, cond, List, [], ◌∷◌, ◌++◌, refl, sym, ap, ◌∙◌, subst, ◌⊎◌, inl, inr, Option, Some, None}
use Rattle.std.specs.Prelude.{find, bytes_eq}
use Rattle.std.specs.List.{list_any}
use Rattle.std.specs.Option.{option_or}
use Rattle.std.specs.Ordering.{is_lt}
use Rattle.std.proofs.lemmas.Bool.{cases_Bool, false_from_ne_true, or_parts, true≢false}
use Rattle.std.proofs.lemmas.List.Folds.{find-append}
use Rattle.std.proofs.lemmas.Slice.Eq.{bytes_eq-Decides}
use Rattle.base_types.specs.Texts.{Bytes}
use Rattle.rules.specs.AttrLists.{Attr, same_key}
use Rattle.rules.specs.Lists.{insert_by}
use Rattle.rules.specs.Versions.{key_cmp}
use Rattle.rules.proofs.Lists.{In, any_back, any_none, find_some}
use Rattle.rules.proofs.Sorting.{insert_back}
use Rattle.attributes.specs.steps.Pairs.{with_new_attrs, with_new}

-- ---- look-up

-- the attribute of a key
abbrev pub attr_of : Bytes → List Attr → Option Attr
attr_of key attrs = find (λ attr. bytes_eq attr.0 key) attrs

or_none : {X : Type 0} (o : Option X) → option_or o None ≡ o
or_none None = refl
or_none (Some x) = refl

or_associative : {X : Type 0} (a b c : Option X) → option_or (option_or a b) c ≡ option_or a (option_or b c)
or_associative None b c = refl
or_associative (Some x) b c = refl

find_cons : {X : Type 0} (p : X → Bool) (x : X) (xs : List X) → find p (x ∷ xs) ≡ option_or (find p (x ∷ [])) (find p xs)
find_cons p x xs = find-append p (x ∷ []) xs

same_if : (a b : Attr) → same_key a b ≡ true → a.0 ≡ b.0
same_if a b e = (bytes_eq-Decides a.0 b.0).0 e

-- a key that none has
no_attr : (key : Bytes) (attr : Attr) (attrs : List Attr) → attr.0 ≡ key → list_any (same_key attr) attrs ≡ false → attr_of key attrs ≡ None
no_attr key attr [] e f = refl
no_attr key attr (x ∷ xs) e f =
    let parts = or_parts (same_key attr x) (list_any (same_key attr) xs) f in
    let other : bytes_eq x.0 key ≡ false = false_from_ne_true (bytes_eq x.0 key) (λ t. true≢false (sym ((bytes_eq-Decides attr.0 x.0).1 (e ∙ sym ((bytes_eq-Decides x.0 key).0 t))) ∙ parts.0)) in
    ap (λ b. cond b (Some x) (attr_of key xs)) other ∙ no_attr key attr xs e parts.1

attr_of-inserted : (key : Bytes) (attr : Attr) (attrs : List Attr) → list_any (same_key attr) attrs ≡ false → attr_of key (insert_by key_cmp attr attrs) ≡ option_or (attr_of key attrs) (attr_of key (attr ∷ []))
attr_of-inserted key attr [] f = refl
attr_of-inserted key attr (x ∷ xs) f = elim (cases_Bool (is_lt (key_cmp attr x))) [
  | inl t ↦ ap (λ b. attr_of key (cond b (attr ∷ x ∷ xs) (x ∷ insert_by key_cmp attr xs))) t ∙ first (cases_Bool (bytes_eq attr.0 key))
  | inr t ↦ ap (λ b. attr_of key (cond b (attr ∷ x ∷ xs) (x ∷ insert_by key_cmp attr xs))) t ∙ later (cases_Bool (bytes_eq x.0 key)) (attr_of-inserted key attr xs rest)
]
  where
    rest : list_any (same_key attr) xs ≡ false
    rest = (or_parts (same_key attr x) (list_any (same_key attr) xs) f).1

    first : (bytes_eq attr.0 key ≡ true) ⊎ (bytes_eq attr.0 key ≡ false) → attr_of key (attr ∷ x ∷ xs) ≡ option_or (attr_of key (x ∷ xs)) (attr_of key (attr ∷ []))
    first (inl e) = ap (λ b. cond b (Some attr) (attr_of key (x ∷ xs))) e
        ∙ sym (ap (λ o. option_or o (attr_of key (attr ∷ []))) (no_attr key attr (x ∷ xs) ((bytes_eq-Decides attr.0 key).0 e) f) ∙ ap (λ b. cond b (Some attr) None) e)
    first (inr e) = ap (λ b. cond b (Some attr) (attr_of key (x ∷ xs))) e
        ∙ sym (or_none (attr_of key (x ∷ xs))) ∙ ap (λ b. option_or (attr_of key (x ∷ xs)) (cond b (Some attr) None)) (sym e)

    later : (bytes_eq x.0 key ≡ true) ⊎ (bytes_eq x.0 key ≡ false) → attr_of key (insert_by key_cmp attr xs) ≡ option_or (attr_of key xs) (attr_of key (attr ∷ [])) → attr_of key (x ∷ insert_by key_cmp attr xs) ≡ option_or (attr_of key (x ∷ xs)) (attr_of key (attr ∷ []))
    later (inl e) h = ap (λ b. cond b (Some x) (attr_of key (insert_by key_cmp attr xs))) e ∙ sym (ap (λ b. option_or (cond b (Some x) (attr_of key xs)) (attr_of key (attr ∷ []))) e)
    later (inr e) h = ap (λ b. cond b (Some x) (attr_of key (insert_by key_cmp attr xs))) e ∙ h
        ∙ sym (ap (λ b. option_or (cond b (Some x) (attr_of key xs)) (attr_of key (attr ∷ []))) e)

pub attr_of-new : (key : Bytes) (attr : Attr) (attrs : List Attr) → attr_of key (with_new attr attrs) ≡ option_or (attr_of key attrs) (attr_of key (attr ∷ []))
attr_of-new key attr attrs = elim (cases_Bool (list_any (same_key attr) attrs)) [
  | inr e ↦ ap (λ b. attr_of key (cond b attrs (insert_by key_cmp attr attrs))) e ∙ attr_of-inserted key attr attrs e
  | inl e ↦
      (let c = any_back (same_key attr) attrs e in
      ap (λ b. attr_of key (cond b attrs (insert_by key_cmp attr attrs))) e
      ∙ elim (cases_Bool (bytes_eq attr.0 key)) [
        | inl t ↦
            (let f = find_some (λ (a : Attr). bytes_eq a.0 key) c.0 attrs c.1 ((bytes_eq-Decides c.0.0 key).1 (sym (same_if attr c.0 c.2) ∙ (bytes_eq-Decides attr.0 key).0 t)) in
            f.1 ∙ sym (ap (λ o. option_or o (attr_of key (attr ∷ []))) f.1))
        | inr t ↦ sym (or_none (attr_of key attrs)) ∙ ap (λ b. option_or (attr_of key attrs) (cond b (Some attr) None)) (sym t)
      ])
]

pub attr_of-all : (key : Bytes) (attrs xs : List Attr) → attr_of key (with_new_attrs attrs xs) ≡ option_or (attr_of key attrs) (attr_of key xs)
attr_of-all key attrs [] = sym (or_none (attr_of key attrs))
attr_of-all key attrs (x ∷ xs) =
    attr_of-all key (with_new x attrs) xs
    ∙ ap (λ o. option_or o (attr_of key xs)) (attr_of-new key x attrs)
    ∙ or_associative (attr_of key attrs) (attr_of key (x ∷ [])) (attr_of key xs)
    ∙ ap (option_or (attr_of key attrs)) (sym (find_cons (λ (a : Attr). bytes_eq a.0 key) x xs))

pub with_all-append : (attrs xs ys : List Attr) → with_new_attrs attrs (xs ++ ys) ≡ with_new_attrs (with_new_attrs attrs xs) ys
with_all-append attrs [] ys = refl
with_all-append attrs (x ∷ xs) ys = with_all-append (with_new x attrs) xs ys

-- ---- no key twice

-- no two have one key
abbrev pub Apart : List Attr → Type 0
Apart [] = Unit {0}
Apart (p ∷ ps) = ((q : Attr) → In q ps → p.0 ≡ q.0 → ⊥) × Apart ps

Apart-inserted : (attr : Attr) (attrs : List Attr) → Apart attrs → ((x : Attr) → In x attrs → attr.0 ≡ x.0 → ⊥) → Apart (insert_by key_cmp attr attrs)
Apart-inserted attr [] a f = (λ q m. absurd m, tt)
Apart-inserted attr (x ∷ xs) a f = elim (cases_Bool (is_lt (key_cmp attr x))) [
  | inl t ↦ subst (λ b. Apart (cond b (attr ∷ x ∷ xs) (x ∷ insert_by key_cmp attr xs))) (sym t) (f, a)
  | inr t ↦ subst (λ b. Apart (cond b (attr ∷ x ∷ xs) (x ∷ insert_by key_cmp attr xs))) (sym t) (
    λ q m e. elim (insert_back key_cmp q attr xs m) [
      | inl g ↦ f x (inl refl) (sym (ap (λ (z : Attr). z.0) g) ∙ sym e)
      | inr n ↦ a.0 q n e
    ],
    Apart-inserted attr xs a.1 (λ y m. f y (inr m)),
  )
]

Apart-new : (attr : Attr) (attrs : List Attr) → Apart attrs → Apart (with_new attr attrs)
Apart-new attr attrs a = elim (cases_Bool (list_any (same_key attr) attrs)) [
  | inl e ↦ subst (λ b. Apart (cond b attrs (insert_by key_cmp attr attrs))) (sym e) a
  | inr e ↦ subst (λ b. Apart (cond b attrs (insert_by key_cmp attr attrs))) (sym e) (Apart-inserted attr attrs a (λ x m d.
      true≢false (sym ((bytes_eq-Decides attr.0 x.0).1 d) ∙ any_none (same_key attr) x attrs e m)))
]

pub Apart-all : (attrs xs : List Attr) → Apart attrs → Apart (with_new_attrs attrs xs)
Apart-all attrs [] a = a
Apart-all attrs (x ∷ xs) a = Apart-all (with_new x attrs) xs (Apart-new x attrs a)

-- each is the attribute of its key
pub attr_if_in : (attrs : List Attr) → Apart attrs → (p : Attr) → In p attrs → attr_of p.0 attrs ≡ Some p
attr_if_in [] a p m = absurd m
attr_if_in (q ∷ qs) a p m = elim (cases_Bool (bytes_eq q.0 p.0)) [
  | inl t ↦ elim m [
    | inl e ↦ ap (λ b. cond b (Some q) (attr_of p.0 qs)) t ∙ ap Some (sym e)
    | inr r ↦ absurd (a.0 p r ((bytes_eq-Decides q.0 p.0).0 t))
  ]
  | inr t ↦ elim m [
    | inl e ↦ absurd (true≢false (sym ((bytes_eq-Decides q.0 p.0).1 (ap (λ (z : Attr). z.0) (sym e))) ∙ t))
    | inr r ↦ ap (λ b. cond b (Some q) (attr_of p.0 qs)) t ∙ attr_if_in qs a.1 p r
  ]
]
