-- Each group of a causally closed list holds the base of each of its members, and conflicts follow from bases.
use Rattle.std.proofs.Common.{◌≡◌, ℕ, zero, suc, ◌<◌, true, Some, List, refl, sym, ap, ◌∙◌, subst, arith, inl, inr, ◌||◌}
use Rattle.std.specs.Prelude.{Contains, Bool}
use Rattle.std.specs.List.{list_any}
use Rattle.std.proofs.lemmas.Bool.{true≢false, and_parts}
use Rattle.base_types.specs.Names.{Name, same_name}
use Rattle.rules.specs.declared.history.Op.{Op}
use Rattle.rules.specs.Bodies.{is_change_body}
use Rattle.rules.specs.Groups.{IsGroup}
use Rattle.rules.specs.Operations.{IsHistory, known, object_of, is_change_on}
use Rattle.rules.specs.Conflicts.{base, conflict, members, with_base, direct_conflict, total}
use Rattle.rules.proofs.Lists.{In, In-from_Contains, Contains-from_In, any_from, any_back}
use Rattle.rules.proofs.Groups.{sublist_in}
use Rattle.rules.proofs.Counted.{same_name-true}
use Rattle.rules.proofs.Changes.{in_known, in_known_back}
use Rattle.rules.proofs.Bases.{base_is_group, has_base, base_within_known}
use Rattle.rules.proofs.Relation.{same_answer, conflict_symmetric}
use Rattle.rules.proofs.Vectors.{total-before}

-- what conflicts with an operation of a base conflicts with what is based on it, where the base has that one's base
widened : (h : List Op) (u z a : Op) → ((p : Op) → In p (with_base (base h) u) → In p (with_base (base h) a)) → conflict h u z ≡ true → conflict h a z ≡ true
unfolding conflict
widened h u z a f e =
    let c = any_back (λ x. list_any (direct_conflict x) (with_base (base h) z)) (with_base (base h) u) e in
    any_from (λ x. list_any (direct_conflict x) (with_base (base h) z)) c.0 (with_base (base h) a) (f c.0 c.1) c.2

pub object_if : (x : Op) (object : Name) → is_change_on object x ≡ true → object_of x ≡ object
object_if x object e = same_name-true (object_of x) object (and_parts (is_change_body x.body) (same_name (object_of x) object) e).1

module _ {h : List Op} (i : IsHistory h) where
  -- what y knows, a knows, where a knows y
  known_nested : (a y u : Op) → Contains h a → In y (known h a) → In u (known h y) → In u (known h a)
  known_nested a y u m p q =
      let c = in_known_back h a y p in
      let d = in_known_back h y u q in
      in_known h a u d.there (subst (λ n. is_change_on n u ≡ true) (object_if y (object_of a) c.change) d.change)
      (i.closed y a u.name (Contains-from_In y h c.there) m c.earlier d.earlier)

  -- a group of a list that holds what its members know, where the bases of a's base are in it
  group_holds : (s g : List Op) (a y : Op) → IsGroup (conflict h) s g → ((x u : Op) → In x s → In u (known h x) → In u s) → Contains h a → In a g → In y (members (base h a)) → ((u : Op) → In u (members (base h y)) → In u (members (base h a))) → In y g
  group_holds s g a y k closed m l n f =
      let there : In y s = closed a y (sublist_in g s k.inside a l) (base_within_known i a y m n) in
      elim (k.maximal y (Contains-from_In y s there)) [
        | inl p ↦ In-from_Contains y g p
        | inr p ↦
            (let t = widened h y p.0 a (λ u r. elim r [ inl e ↦ inr (subst (λ z. In z (members (base h a))) (sym e) n) | inr q ↦ inr (f u q) ]) p.2 in
            absurd (true≢false (sym t ∙ k.compatible a p.0 (Contains-from_In a g l) p.1)))
      ]

  -- the base of a member of a's base is in a's base
  base_nested : (n : ℕ) (a y u : Op) → Contains h a → total a.seen < n → In y (members (base h a)) → In u (members (base h y)) → In u (members (base h a))
  base_nested zero a y u m l p q = absurd (omega arith)
  base_nested (suc n) a y u m l p q =
      let b = has_base h a y p in
      let c = in_known_back h a y (base_within_known i a y m p) in
      let there = Contains-from_In y h c.there in
      let smaller : total y.seen < n = (let t = total-before i y a there m c.earlier in omega arith) in
      subst (λ o. In u (members o)) (sym b.is)
      (group_holds (known h a) b.group y u ((base_is_group i a m b.group).0 b.is).0 (λ x v r t. known_nested a x v m r t) there b.there q
      (λ v r. base_nested n y u v there smaller q r))

  -- each group of a causally closed list holds the base of each of its members
  pub group_holds_bases : (s g : List Op) → IsGroup (conflict h) s g → ((x : Op) → Contains s x → Contains h x) → ((x u : Op) → Contains s x → Contains (known h x) u → Contains s u) → (a u : Op) → Contains g a → Contains (members (base h a)) u → Contains g u
  group_holds_bases s g k there closed a u l n =
      let in_g = In-from_Contains a g l in
      let m = there a (Contains-from_In a s (sublist_in g s k.inside a in_g)) in
      let based = In-from_Contains u (members (base h a)) n in
      Contains-from_In u g (group_holds s g a u k (λ x y p q. In-from_Contains y s (closed x y (Contains-from_In x s p) (Contains-from_In y (known h x) q))) m in_g based
      (λ v q. base_nested (suc (total a.seen)) a u v m (omega arith) based q))

  -- an operation with a base conflicts with what it knows outside the base
  pub left_out_conflicts : (a b : Op) (g : List Op) → Contains h b → base h b ≡ Some g → Contains (known h b) a → (Contains g a → ⊥) → conflict h a b ≡ true
  left_out_conflicts a b g m e k out =
      let group = ((base_is_group i b m g).0 e).0 in
      elim (group.maximal a k) [
        | inl p ↦ absurd (out p)
        | inr p ↦
            (let y = p.0 in
            let in_base : In y (members (base h b)) = subst (λ o. In y (members o)) (sym e) (In-from_Contains y g p.1) in
            conflict_symmetric h a b
            ∙ widened h y a b (λ u r. elim r [ inl q ↦ inr (subst (λ z. In z (members (base h b))) (sym q) in_base) | inr q ↦ inr (base_nested (suc (total b.seen)) b y u m (omega arith) in_base q) ]) (conflict_symmetric h y a ∙ p.2))
      ]

  -- an operation's conflicts follow from its direct ones and those of its base's members
  pub conflict_from_base : (a b : Op) → Contains h a → conflict h a b ≡ (list_any (direct_conflict a) (with_base (base h) b) || list_any (λ x. conflict h x b) (members (base h a)))
  unfolding conflict
  conflict_from_base a b m =
      let in_conflict_with : Op → Bool = λ x. list_any (direct_conflict x) (with_base (base h) b) in
      ap (λ t. in_conflict_with a || t) (same_answer (list_any in_conflict_with (members (base h a))) (list_any (λ x. conflict h x b) (members (base h a)))
      (λ e. let c = any_back in_conflict_with (members (base h a)) e in any_from (λ x. conflict h x b) c.0 (members (base h a)) c.1 (any_from in_conflict_with c.0 (with_base (base h) c.0) (inl refl) c.2))
      (λ e.
      let c = any_back (λ x. conflict h x b) (members (base h a)) e in
      let d = any_back in_conflict_with (with_base (base h) c.0) c.2 in
      any_from in_conflict_with d.0 (members (base h a)) (elim d.1 [ inl q ↦ subst (λ z. In z (members (base h a))) (sym q) c.1 | inr r ↦ base_nested (suc (total a.seen)) a c.0 d.0 m (omega arith) c.1 r ]) d.2))
