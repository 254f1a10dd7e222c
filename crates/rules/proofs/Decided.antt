-- In a group in causal order the last operation that gives a key a value decides it.
use Rattle.std.proofs.Common.{◌≡◌, Bool, true, false, cond, List, [], ◌∷◌, reverse, refl, sym, ap, ◌∙◌, subst, inl, inr, Option, Some, None, ◌&&◌, not, is_some}
use Rattle.std.specs.Prelude.{find}
use Rattle.std.specs.List.{list_any}
use Rattle.std.specs.Option.{option_or}
use Rattle.std.proofs.lemmas.Bool.{cases_Bool, true≢false, and_parts, and_from, false_from_ne_true, not_from_false, not-true}
use Rattle.std.proofs.lemmas.List.{reverse-append}
use Rattle.std.proofs.lemmas.List.Folds.{find-append}
use Rattle.base_types.specs.Texts.{Bytes}
use Rattle.rules.specs.declared.history.Op.{Op}
use Rattle.rules.specs.AttrLists.{Attr}
use Rattle.rules.specs.Groups.{is_compatible, in_conflict_with}
use Rattle.rules.specs.Operations.{IsCausallyOrdered, before}
use Rattle.rules.specs.Conflicts.{conflict}
use Rattle.rules.specs.Versions.{decides, gives, value_by, value_of_key}
use Rattle.rules.proofs.Lists.{In, Contains-from_In, all_back, any_back, any_none, find_is, find_some}
use Rattle.rules.proofs.Attributes.{one_value_decided}

-- ---- the last member that passes a test

module _ {X : Type 0} (p : X → Bool) where
  abbrev last : List X → Option X
  last xs = find p (reverse xs)

  last-cons : (x : X) (xs : List X) → last (x ∷ xs) ≡ option_or (last xs) (cond (p x) (Some x) None)
  last-cons x xs = ap (find p) (reverse-append (x ∷ []) xs) ∙ find-append p (reverse xs) (x ∷ [])

  last_later : (x y : X) (xs : List X) → last xs ≡ Some y → last (x ∷ xs) ≡ Some y
  last_later x y xs e = last-cons x xs ∙ ap (λ r. option_or r (cond (p x) (Some x) None)) e

  last_here : (x : X) (xs : List X) → last xs ≡ None → last (x ∷ xs) ≡ cond (p x) (Some x) None
  last_here x xs e = last-cons x xs ∙ ap (λ r. option_or r (cond (p x) (Some x) None)) e

  some_none : (x : X) → Some x ≡ None → ⊥
  some_none x e = true≢false (ap is_some e)

  last_none : (xs : List X) → last xs ≡ None → (x : X) → In x xs → p x ≡ false
  last_none [] e x m = absurd m
  last_none (o ∷ xs) e x m = go (last xs) refl (last_none xs)
    where
      go : (r : Option X) → last xs ≡ r → (last xs ≡ None → (x : X) → In x xs → p x ≡ false) → p x ≡ false
      go (Some a) f h = absurd (some_none a (sym (last_later o a xs f) ∙ e))
      go None f h = elim (cases_Bool (p o)) [
        | inl t ↦ absurd (some_none o (sym (last_here o xs f ∙ ap (λ b. cond b (Some o) None) t) ∙ e))
        | inr t ↦ elim m [ inl q ↦ ap p q ∙ t | inr r ↦ h f x r ]
      ]

-- what is last on a key, and that none after it gives the key
record IsLast (key : Bytes) (g : List Op) (a : Op) : Type 0 where
  there : In a g
  gives_it : gives key a ≡ true
  none_later : (x : Op) → In x g → gives key x ≡ true → before a x ≡ false

one_of : (a b : Op) → Some a ≡ Some b → a ≡ b
one_of a b e = cc

is_last : (key : Bytes) (g : List Op) (a : Op) → IsCausallyOrdered g → ((x : Op) → In x g → before x x ≡ false) → last (gives key) g ≡ Some a → IsLast key g a
is_last key [] a c own e = absurd (true≢false (sym (ap is_some e)))
is_last key (o ∷ g) a c own e = go (last (gives key) g) refl (is_last key g a c.1 (λ x m. own x (inr m)))
  where
    go : (r : Option Op) → last (gives key) g ≡ r → (last (gives key) g ≡ Some a → IsLast key g a) → IsLast key (o ∷ g) a
    go (Some b) f h =
        let q : b ≡ a = one_of b a (sym (last_later (gives key) o b g f) ∙ e) in
        let l : IsLast key g a = h (f ∙ ap Some q) in
        record {
          there = inr l.there;
          gives_it = l.gives_it;
          none_later = λ x m t. elim m [ inl q ↦ subst (λ y. before a y ≡ false) (sym q) (not-true (before a o) (c.0 a (Contains-from_In a g l.there))) | inr r ↦ l.none_later x r t ];
        }
    go None f h = elim (cases_Bool (gives key o)) [
      | inr t ↦ absurd (true≢false (sym (ap is_some (sym (last_here (gives key) o g f ∙ ap (λ b. cond b (Some o) None) t) ∙ e))))
      | inl t ↦
          (let q : o ≡ a = one_of o a (sym (last_here (gives key) o g f ∙ ap (λ b. cond b (Some o) None) t) ∙ e) in
          record {
            there = inl (sym q);
            gives_it = ap (gives key) (sym q) ∙ t;
            none_later = λ x m s. elim m [
              | inl w ↦ (λ i. before (sym q i) (w i)) ∙ own o (inl refl)
              | inr r ↦ absurd (true≢false (sym s ∙ last_none (gives key) g f x r))
            ];
          })
    ]

-- no two members of a compatible group are in conflict
free_in : (h g : List Op) → is_compatible (conflict h) g ≡ true → (a b : Op) → In a g → In b g → conflict h a b ≡ false
free_in h g e a b m n = any_none (conflict h a) b g (not-true (in_conflict_with (conflict h) g a) (all_back (λ x. not (in_conflict_with (conflict h) g x)) g e a m)) n

-- The value of a key in a group is that of the last operation that gives it one, in any causal order of the group.
module _ (h g l : List Op) (compatible : is_compatible (conflict h) g ≡ true) (to : (x : Op) → In x g → In x l) (back : (x : Op) → In x l → In x g)
    (ordered : IsCausallyOrdered l) (own : (x : Op) → In x l → before x x ≡ false) (initial : List Attr) (key : Bytes) where
  none_decides : last (gives key) l ≡ None → (r : Option Op) → find (decides key g) g ≡ r → find (decides key g) g ≡ None
  none_decides e None f = f
  none_decides e (Some b) f =
      let d = find_is (decides key g) b g f in
      absurd (true≢false (sym (and_parts (gives key b) (not (list_any (λ x. gives key x && before b x) g)) d.1).0 ∙ last_none (gives key) l e b (to b d.0)))

  last_decides : (a : Op) → IsLast key l a → decides key g a ≡ true
  last_decides a w = and_from (gives key a) (not (list_any (λ x. gives key x && before a x) g)) w.gives_it
      (not_from_false _ (false_from_ne_true _ (λ t.
      let d = any_back (λ x. gives key x && before a x) g t in
      let p = and_parts (gives key d.0) (before a d.0) d.2 in
      true≢false (sym p.1 ∙ w.none_later d.0 (to d.0 d.1) p.0))))

  decided : (r : Option Op) → last (gives key) l ≡ r → value_of_key initial g key ≡ value_by key initial (last (gives key) l)
  decided None e = ap (value_by key initial) (none_decides e (find (decides key g) g) refl ∙ sym e)
  decided (Some a) e =
      let w = is_last key l a ordered own e in
      let t = last_decides a w in
      let b = find_some (decides key g) a g (back a w.there) t in
      let d = find_is (decides key g) b.0 g b.1 in
      ap (value_by key initial) b.1
      ∙ one_value_decided h g key b.0 a (free_in h g compatible b.0 a d.0 (back a w.there)) d.0 d.1 (back a w.there) t
      ∙ ap (value_by key initial) (sym e)

  pub value_is_last : value_of_key initial g key ≡ value_by key initial (find (gives key) (reverse l))
  value_is_last = decided (last (gives key) l) refl
