-- The operation that comes next after a history has a new name.
use Rattle.std.proofs.Common.{◌≡◌, ◌≢◌, ◌+◌, not, List, ◌∙◌, ap, refl, arith, Option, Some, None, ◌&&◌, false}
use Rattle.std.proofs.lemmas.Bool.{and_parts, false_from_ne_true}
use Rattle.base_types.specs.Names.{Name, same_name}
use Rattle.rules.specs.declared.history.Op.{Op}
use Rattle.rules.specs.Admission.{count_at_site}
use Rattle.rules.specs.Bodies.{is_change_body}
use Rattle.rules.specs.Conflicts.{IsFounded}
use Rattle.rules.specs.Operations.{before, creation_of, is_creation_of, is_on, is_change_on, object_of}
use Rattle.rules.proofs.Counted.{same_name-true}
use Rattle.rules.proofs.Histories.{IsNumbered}
use Rattle.rules.proofs.Lists.{In, Contains-from_In, any_back, find_is}

module _ (h : List Op) (i : IsNumbered h) (o : Op) (next : o.name.1 ≡ count_at_site h o.name.0 + 1) where
  name_is_new : (x : Op) → In x h → x.name ≢ o.name
  name_is_new x m e =
      let last = i.numbered x (Contains-from_In x h m) in
      let seq : x.name.1 ≡ o.name.1 = ap (λ (n : Name). n.1) e in
      let count : count_at_site h x.name.0 ≡ count_at_site h o.name.0 = ap (λ (n : Name). count_at_site h n.0) e in
      omega (arith, next, last, seq, count)

  -- no change is on what has its name
  pub no_change_yet : IsFounded h → (x : Op) → In x h → is_change_on o.name x ≡ false
  no_change_yet founded x m = false_from_ne_true (is_change_on o.name x) (λ t.
      let p = and_parts (is_change_body x.body) (is_on o.name x) t in
      let c = any_back (λ (y : Op). is_creation_of (object_of x) y && before y x) h (founded.object x (Contains-from_In x h m) p.0) in
      let q = and_parts (is_creation_of (object_of x) c.0) (before c.0 x) c.2 in
      let named = same_name-true c.0.name (object_of x) (and_parts (not (is_change_body c.0.body)) (same_name c.0.name (object_of x)) q.0).1 in
      name_is_new c.0 c.1 (named ∙ same_name-true (object_of x) o.name p.1))

  -- and none was created under it
  pub not_created : creation_of h o.name ≡ None
  not_created = go (creation_of h o.name) refl
    where
      go : (q : Option Op) → creation_of h o.name ≡ q → q ≡ None
      go None e = refl
      go (Some x) e =
          let f = find_is (is_creation_of o.name) x h e in
          absurd (name_is_new x f.0 (same_name-true x.name o.name (and_parts (not (is_change_body x.body)) (same_name x.name o.name) f.1).1))
