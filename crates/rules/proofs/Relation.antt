-- Conflict goes both ways, and nothing that has a base conflicts with itself.
use Rattle.std.proofs.Common.{◌≡◌, Bool, true, false, List, ◌∷◌, refl, sym, ◌∙◌, subst, arith, inl, inr, Option, Some, ◌||◌, ◌&&◌, not}
use Rattle.std.specs.Prelude.{Contains}
use Rattle.std.specs.List.{list_any}
use Rattle.std.proofs.lemmas.Bool.{true≢false, false_from_ne_true, not_from_true, and_left, and_right, lt-leb}
use Rattle.std.proofs.lemmas.Bool.Decides.{same_from_decides}
use Rattle.base_types.specs.Vectors.{count_of}
use Rattle.rules.specs.declared.history.Op.{Op}
use Rattle.rules.specs.declared.history.Body.{Body}
use Rattle.rules.specs.Bodies.{differ_on_a_key, are_at_odds}
use Rattle.rules.specs.Operations.{IsHistory, before, concurrent, known}
use Rattle.rules.specs.Conflicts.{base, conflict, conflict_by, direct_conflict, members, with_base}
use Rattle.rules.proofs.Lists.{In, Contains-from_In, any_from, any_back, any_none}
use Rattle.rules.proofs.Bodies.{differ_turned, one_a_drop_turned, at_odds_self}
use Rattle.rules.proofs.Changes.{in_known_back}
use Rattle.rules.proofs.Bases.{base_is_group}
use Rattle.rules.proofs.Groups.{sublist_in}

pub same_answer : (p q : Bool) → (p ≡ true → q ≡ true) → (q ≡ true → p ≡ true) → p ≡ q
same_answer p q f g = same_from_decides {P = q ≡ true} p q (f, g) (λ e. e, λ e. e)

pub swap_and : (a b : Bool) → (a && b) ≡ (b && a)
swap_and true true = refl
swap_and true false = refl
swap_and false true = refl
swap_and false false = refl

differ_symmetric : (b c : Body) → differ_on_a_key b c ≡ differ_on_a_key c b
differ_symmetric b c = same_answer (differ_on_a_key b c) (differ_on_a_key c b) (differ_turned b c) (differ_turned c b)

at_odds_symmetric : (b c : Body) → are_at_odds b c ≡ are_at_odds c b
at_odds_symmetric b c = λ i. differ_symmetric b c i || one_a_drop_turned b c i

direct_symmetric : (a b : Op) → direct_conflict a b ≡ direct_conflict b a
direct_symmetric a b = λ i. swap_and (not (before a b)) (not (before b a)) i && at_odds_symmetric a.body b.body i

half : (f : Op → Option (List Op)) (a b : Op) → conflict_by f a b ≡ true → conflict_by f b a ≡ true
half f a b e =
    let c = any_back (λ x. list_any (direct_conflict x) (with_base f b)) (with_base f a) e in
    let d = any_back (direct_conflict c.0) (with_base f b) c.2 in
    any_from (λ x. list_any (direct_conflict x) (with_base f a)) d.0 (with_base f b) d.1 (any_from (direct_conflict d.0) c.0 (with_base f a) c.1 (sym (direct_symmetric c.0 d.0) ∙ d.2))

pub conflict_symmetric : (h : List Op) (a b : Op) → conflict h a b ≡ conflict h b a
unfolding conflict
conflict_symmetric h a b = same_answer (conflict_by (base h) a b) (conflict_by (base h) b a) (half (base h) a b) (half (base h) b a)

-- what conflicts with nothing directly, neither do operations that have it among their bases
pub no_direct_conflict : (f : Op → Option (List Op)) (a b x y : Op) → conflict_by f a b ≡ false → In x (with_base f a) → In y (with_base f b) → direct_conflict x y ≡ false
no_direct_conflict f a b x y e m n = any_none (direct_conflict x) y (with_base f b) (any_none (λ x. list_any (direct_conflict x) (with_base f b)) x (with_base f a) e m) n

-- ---- nothing conflicts with itself

none_within : (s : List Op) → ((x y : Op) → In x s → In y s → direct_conflict x y ≡ false) → list_any (λ x. list_any (direct_conflict x) s) s ≡ false
none_within s g = false_from_ne_true _ (λ e.
    let c = any_back (λ x. list_any (direct_conflict x) s) s e in
    let d = any_back (direct_conflict c.0) s c.2 in
    true≢false (sym d.2 ∙ g c.0 d.0 c.1 d.1))

module _ {h : List Op} (i : IsHistory h) (b : Op) (m : Contains h b) where
  pub not_before_self : before b b ≡ false
  not_before_self = lt-leb b.name.1 (count_of b.seen b.name.0) (omega (arith, i.own b m))

  module _ (g : List Op) (e : base h b ≡ Some g) where
    direct_self : direct_conflict b b ≡ false
    direct_self = and_right (concurrent b b) _ (at_odds_self b.body)

    in_known : (x : Op) → In x g → In x (known h b)
    in_known x n = sublist_in g (known h b) ((base_is_group i b m g).0 e).0.inside x n

    there : (x : Op) → In x g → Contains h x
    there x n = Contains-from_In x h (in_known_back h b x (in_known x n)).there

    before_b : (x : Op) → In x g → before x b ≡ true
    before_b x n = (in_known_back h b x (in_known x n)).earlier

    direct_base : (x : Op) → In x g → direct_conflict x b ≡ false
    direct_base x n = and_left (concurrent x b) _ (and_left (not (before x b)) _ (not_from_true (before x b) (before_b x n)))

    direct_two : (x y : Op) → In x g → In y g → direct_conflict x y ≡ false
    unfolding conflict
    direct_two x y p q =
        let c = ((base_is_group i b m g).0 e).0.compatible x y (Contains-from_In x g p) (Contains-from_In y g q) in
        no_direct_conflict (base h) x y x y c (inl refl) (inl refl)

    all_with_base : (x y : Op) → In x (b ∷ g) → In y (b ∷ g) → direct_conflict x y ≡ false
    all_with_base x y p q = elim p [
      | inl a ↦ elim q [
        | inl c ↦ (λ j. direct_conflict (a j) (c j)) ∙ direct_self
        | inr c ↦ (λ j. direct_conflict (a j) y) ∙ direct_symmetric b y ∙ direct_base y c
      ]
      | inr a ↦ elim q [
        | inl c ↦ (λ j. direct_conflict x (c j)) ∙ direct_base x a
        | inr c ↦ direct_two x y a c
      ]
    ]

    -- nothing that has a base conflicts with itself
    pub conflict_self : conflict h b b ≡ false
    unfolding conflict
    conflict_self = subst (λ o. list_any (λ x. list_any (direct_conflict x) (b ∷ members o)) (b ∷ members o) ≡ false) (sym e) (none_within (b ∷ g) all_with_base)
