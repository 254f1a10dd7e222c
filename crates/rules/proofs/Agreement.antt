-- The base of an operation, and whether two conflict, depend on what is before them alone.
use Rattle.std.proofs.Common.{◌≡◌, ℕ, zero, suc, ◌<◌, List, ◌∷◌, refl, ap, ◌∙◌, subst, arith, Option, Some, None}
use Rattle.std.specs.Prelude.{Contains}
use Rattle.std.specs.List.{list_any}
use Rattle.rules.specs.declared.history.Op.{Op}
use Rattle.rules.specs.Bodies.{version_of_body}
use Rattle.rules.specs.Groups.{group_named}
use Rattle.rules.specs.Operations.{IsHistory, known, name_of}
use Rattle.rules.specs.steps.Histories.{IsPartOf}
use Rattle.rules.specs.Conflicts.{members, direct_conflict, conflict_by, total, base_within, base, conflict}
use Rattle.rules.proofs.Lists.{In, In-from_Contains, Contains-from_In}
use Rattle.rules.proofs.Vectors.{total-before}
use Rattle.rules.proofs.Changes.{known_same, in_known_back, one_op}
use Rattle.rules.proofs.Groups.{group_within}
use Rattle.rules.proofs.Identifiers.{group_named_agree, group_named_back}

-- conflict reads the bases of two operations
pub conflict_agree : (f g : Op → Option (List Op)) (a b : Op) → f a ≡ g a → f b ≡ g b → conflict_by f a b ≡ conflict_by g a b
conflict_agree f g a b p q = λ i. list_any (λ x. list_any (direct_conflict x) (b ∷ members (q i))) (a ∷ members (p i))

-- the members of a base are known
pub base_known : (n : ℕ) (k : List Op) (b : Op) (x : Op) → In x (members (base_within n k b)) → In x (known k b)
base_known zero k b x m = absurd m
base_known (suc n) k b x m = go (base_within (suc n) k b) refl m
  where
    go : (o : Option (List Op)) → base_within (suc n) k b ≡ o → In x (members o) → In x (known k b)
    go None e l = absurd l
    go (Some g) e l = group_within (conflict_by (base_within n k)) (known k b) g (group_named_back (conflict_by (base_within n k)) name_of (known k b) (version_of_body b.body) g e).0 x l

-- ---- two lists in which some operations know the same

module _ (S : Op → Type 0) (k h : List Op) (same : (x : Op) → S x → known k x ≡ known h x) (closed : (x y : Op) → S x → In y (known k x) → S y) where
  base_within_on : (n : ℕ) (x : Op) → S x → base_within n k x ≡ base_within n h x
  base_within_on zero x s = refl
  base_within_on (suc n) x s =
      group_named_agree (conflict_by (base_within n k)) (conflict_by (base_within n h)) (known k x)
      (λ y z l r. conflict_agree (base_within n k) (base_within n h) y z (base_within_on n y (closed x y s l)) (base_within_on n z (closed x z s r)))
      name_of (version_of_body x.body)
      ∙ ap (λ g. group_named (conflict_by (base_within n h)) name_of g (version_of_body x.body)) (same x s)

  -- have the same bases, and the same conflicts between them
  pub base_on : (x : Op) → S x → base k x ≡ base h x
  unfolding base
  base_on x s = base_within_on (suc (total x.seen)) x s

  pub conflict_on : (a b : Op) → S a → S b → conflict k a b ≡ conflict h a b
  unfolding conflict base
  conflict_on a b s t = conflict_agree (base k) (base h) a b (base_on a s) (base_on b t)

-- ---- a part of a history

module _ {k h : List Op} (w : IsPartOf k h) where
  pub known_in_part : (b : Op) → Contains k b → known k b ≡ known h b
  known_in_part b m = known_same w.part w.whole b
      (λ a n t. In-from_Contains a h (w.within a (Contains-from_In a k n)))
      (λ a n t.
      let own = w.whole.own a (Contains-from_In a h n) in
      let c = w.part.present b a.name m (omega (arith, own)) t in
      let e : c.0 ≡ a = one_op w.whole c.0 a (In-from_Contains c.0 h (w.within c.0 c.1)) n c.2 in
      In-from_Contains a k (subst (Contains k) e c.1))

  known_there : (x y : Op) → Contains k x → In y (known k x) → Contains k y
  known_there x y m l = Contains-from_In y k (in_known_back k x y l).there

  -- a part of a history agrees with the whole on the base of each operation, and on whether two conflict
  pub base_in_part : (b : Op) → Contains k b → base k b ≡ base h b
  base_in_part = base_on (Contains k) k h known_in_part known_there

  pub conflict_in_part : (a b : Op) → Contains k a → Contains k b → conflict k a b ≡ conflict h a b
  conflict_in_part = conflict_on (Contains k) k h known_in_part known_there

-- ---- the base is the group that b names, by the conflicts of the whole history

module _ {h : List Op} (i : IsHistory h) where
  -- more steps than a vector counts find the same base
  enough : (n m : ℕ) (b : Op) → Contains h b → total b.seen < n → total b.seen < m → base_within n h b ≡ base_within m h b
  enough zero m b t p q = absurd (omega arith)
  enough (suc n) zero b t p q = absurd (omega arith)
  enough (suc n) (suc m) b t p q =
      let there : (x y : Op) → In y (known h x) → Contains h y = λ x y l. Contains-from_In y h (in_known_back h x y l).there in
      let below : (x y : Op) → Contains h x → In y (known h x) → total y.seen < total x.seen = λ x y l r. total-before i y x (there x y r) l (in_known_back h x y r).earlier in
      let same : (x : Op) → In x (known h b) → base_within n h x ≡ base_within m h x =
      λ x l. let c = below b x t l in enough n m x (there b x l) (omega arith) (omega arith) in
      group_named_agree (conflict_by (base_within n h)) (conflict_by (base_within m h)) (known h b) (λ x y l r. conflict_agree (base_within n h) (base_within m h) x y (same x l) (same y r)) name_of (version_of_body b.body)

  pub base_is : (b : Op) → Contains h b → base h b ≡ group_named (conflict h) name_of (known h b) (version_of_body b.body)
  unfolding base conflict
  base_is b t =
      let n = total b.seen in
      let there : (x y : Op) → In y (known h x) → Contains h y = λ x y l. Contains-from_In y h (in_known_back h x y l).there in
      let below : (x y : Op) → Contains h x → In y (known h x) → total y.seen < total x.seen = λ x y l r. total-before i y x (there x y r) l (in_known_back h x y r).earlier in
      let same : (x : Op) → In x (known h b) → base_within n h x ≡ base h x = λ x l. enough n (suc (total x.seen)) x (there b x l) (below b x t l) (omega arith) in
      group_named_agree (conflict_by (base_within n h)) (conflict h) (known h b) (λ x y l r. conflict_agree (base_within n h) (base h) x y (same x l) (same y r)) name_of (version_of_body b.body)
