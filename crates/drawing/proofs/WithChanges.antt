-- What one more operation does to the objects of a history.
use Rattle.std.proofs.Common.{◌≡◌, Bool, true, false, cond, List, [], ◌∷◌, ◌++◌, map, refl, sym, ap, ◌∙◌, ◌&&◌, subst, Some, inl, inr}
use Rattle.std.specs.Prelude.{filter}
use Rattle.std.specs.List.{AllByRecursion, IsDistinct}
use Rattle.std.specs.Map.{lookup, set_value, keys_of}
use Rattle.std.proofs.lemmas.Bool.{cases_Bool, and_from}
use Rattle.std.proofs.lemmas.List.{append-nil, map-append}
use Rattle.base_types.specs.Names.{Name, same_name}
use Rattle.rules.specs.declared.history.Op.{Op}
use Rattle.rules.specs.declared.limits.LimitValues.{LimitValues}
use Rattle.rules.specs.Bodies.{is_change_body}
use Rattle.rules.specs.Operations.{is_on, is_change_on, object_of}
use Rattle.rules.proofs.Counted.{same_name-true}
use Rattle.rules.proofs.Lists.{In}
use Rattle.rules.proofs.Records.{filter-push}
use Rattle.shape.specs.steps.Objects.{Object, Stored, with_change}
use Rattle.drawing.specs.steps.Objects.{object_with_changes, without_spare}

-- the objects of these creations
abbrev pub objects_with_changes_at : LimitValues → List Op → List Op → List (Name × Object)
objects_with_changes_at l h cs = map (λ c. (c.name, object_with_changes l h c)) cs

abbrev tail : {X : Type 0} → List X → List X
tail [] = []
tail (x ∷ xs) = xs

abbrev first_name : Name → List (Name × Object) → Name
first_name n [] = n
first_name n (x ∷ xs) = x.0

abbrev first_object : Object → List (Name × Object) → Object
first_object d [] = d
first_object d (x ∷ xs) = x.1

and_false : (b : Bool) → (b && false) ≡ false
and_false true = refl
and_false false = refl

pub same_name-sym : (m n : Name) → same_name m n ≡ same_name n m
same_name-sym m n = elim (cases_Bool (same_name m n)) [
  | inl t ↦ (let e = same_name-true m n t in λ i. same_name (e i) (sym e i))
  | inr f ↦ elim (cases_Bool (same_name n m)) [
    | inl t ↦ (let e = same_name-true n m t in λ i. same_name (sym e i) (e i))
    | inr g ↦ f ∙ sym g
  ]
]

module _ (l : LimitValues) (h : List Op) (o : Op) where
  -- a creation is no change
  no_change : (n : Name) → is_change_body o.body ≡ false → is_change_on n o ≡ false
  no_change n e = ap (λ b. b && is_on n o) e

  kept : (c : Op) → is_change_on c.name o ≡ false → object_with_changes l (h ++ o ∷ []) c ≡ object_with_changes l h c
  kept c e =
      let f : filter (is_change_on c.name) (h ++ o ∷ []) ≡ filter (is_change_on c.name) h =
      filter-push (is_change_on c.name) h o ∙ ap (λ b. filter (is_change_on c.name) h ++ cond b (o ∷ []) []) e ∙ append-nil (filter (is_change_on c.name) h) in
      λ i. record { limits = l; creation = c; changes = f i }

  grown : (c : Op) → is_change_on c.name o ≡ true → object_with_changes l (h ++ o ∷ []) c ≡ with_change (object_with_changes l h c) o
  grown c e =
      let f : filter (is_change_on c.name) (h ++ o ∷ []) ≡ filter (is_change_on c.name) h ++ o ∷ [] =
      filter-push (is_change_on c.name) h o ∙ ap (λ b. filter (is_change_on c.name) h ++ cond b (o ∷ []) []) e in
      λ i. record { limits = l; creation = c; changes = f i }

  all_kept : is_change_body o.body ≡ false → (cs : List Op) → objects_with_changes_at l (h ++ o ∷ []) cs ≡ objects_with_changes_at l h cs
  all_kept e cs = λ i. map (λ c. (c.name, kept c (no_change c.name e) i)) cs

  none_in : (p : Op → Bool) (xs : List Op) → ((x : Op) → In x xs → p x ≡ false) → filter p xs ≡ []
  none_in p [] f = refl
  none_in p (x ∷ xs) f = ap (λ b. cond b (x ∷ filter p xs) (filter p xs)) (f x (inl refl)) ∙ none_in p xs (λ y m. f y (inr m))

  made : is_change_body o.body ≡ false → ((x : Op) → In x h → is_change_on o.name x ≡ false) → object_with_changes l (h ++ o ∷ []) o ≡ record { limits = l; creation = o; changes = [] }
  made e f =
      let g : filter (is_change_on o.name) h ≡ [] = none_in (is_change_on o.name) h f in
      kept o (no_change o.name e) ∙ (λ i. record { limits = l; creation = o; changes = g i })

  -- a new object goes last
  pub objects_with_changes_push : (cs : List Op) (shapes : List (Name × Stored)) (d : Stored) → is_change_body o.body ≡ false → ((x : Op) → In x h → is_change_on o.name x ≡ false)
      → without_spare shapes ≡ objects_with_changes_at l h cs → d.object ≡ record { limits = l; creation = o; changes = [] } → without_spare (shapes ++ (o.name, d) ∷ []) ≡ objects_with_changes_at l (h ++ o ∷ []) (cs ++ o ∷ [])
  objects_with_changes_push cs shapes d e f p q =
      map-append (λ (s : Name × Stored). (s.0, s.1.object)) shapes ((o.name, d) ∷ [])
      ∙ ap (λ x. x ++ (o.name, d.object) ∷ []) (p ∙ sym (all_kept e cs))
      ∙ ap (λ x. objects_with_changes_at l (h ++ o ∷ []) cs ++ (o.name, x) ∷ []) (q ∙ sym (made e f))
      ∙ sym (map-append (λ c. (c.name, object_with_changes l (h ++ o ∷ []) c)) cs (o ∷ []))

  -- other objects stay
  others_kept : (ss : List (Name × Stored)) (cs : List Op) → AllByRecursion (λ y. same_name (object_of o) y ≡ false) (keys_of ss) → without_spare ss ≡ objects_with_changes_at l h cs → without_spare ss ≡ objects_with_changes_at l (h ++ o ∷ []) cs
  others_kept [] [] e p = refl
  others_kept [] (c ∷ cs) e p = cc
  others_kept (s ∷ ss) [] e p = cc
  others_kept (s ∷ ss) (c ∷ cs) e p =
      let name : s.0 ≡ c.name = ap (λ xs. first_name s.0 xs) p in
      let is_object : s.1.object ≡ object_with_changes l h c = ap (λ xs. first_object s.1.object xs) p in
      let other : is_change_on c.name o ≡ false = ap (λ b. is_change_body o.body && b) (ap (same_name (object_of o)) (sym name) ∙ e.0) ∙ and_false (is_change_body o.body) in
      let new : s.1.object ≡ object_with_changes l (h ++ o ∷ []) c = is_object ∙ sym (kept c other) in
      let more = others_kept ss cs e.1 (ap tail p) in
      λ i. (name i, new i) ∷ more i

  -- the object of a change takes it
  pub objects_with_changes_set : (d w : Stored) (ss : List (Name × Stored)) (cs : List Op) → is_change_body o.body ≡ true → IsDistinct same_name (keys_of ss) → without_spare ss ≡ objects_with_changes_at l h cs
      → lookup (same_name (object_of o)) ss ≡ Some d → w.object ≡ with_change d.object o → without_spare (set_value (same_name (object_of o)) ss w) ≡ objects_with_changes_at l (h ++ o ∷ []) cs
  unfolding IsDistinct
  objects_with_changes_set d w [] cs t u p f q = cc
  objects_with_changes_set d w (s ∷ ss) [] t u p f q = cc
  objects_with_changes_set d w (s ∷ ss) (c ∷ cs) t u p f q =
      let name : s.0 ≡ c.name = ap (λ xs. first_name s.0 xs) p in
      let is_object : s.1.object ≡ object_with_changes l h c = ap (λ xs. first_object s.1.object xs) p in
      let rest : without_spare ss ≡ objects_with_changes_at l h cs = ap tail p in
      elim (cases_Bool (same_name (object_of o) s.0)) [
        | inl e ↦
            (let found : Some s.1 ≡ Some d = sym (ap (λ b. cond b (Some s.1) (lookup (same_name (object_of o)) ss)) e) ∙ f in
            let is : s.1 ≡ d = cc in
            let mine : is_change_on c.name o ≡ true = and_from (is_change_body o.body) (same_name (object_of o) c.name) t (ap (same_name (object_of o)) (sym name) ∙ e) in
            let new : w.object ≡ object_with_changes l (h ++ o ∷ []) c = q ∙ ap (λ (x : Stored). with_change x.object o) (sym is) ∙ ap (λ x. with_change x o) is_object ∙ sym (grown c mine) in
            let others : AllByRecursion (λ y. same_name (object_of o) y ≡ false) (keys_of ss) = subst (λ n. AllByRecursion (λ y. same_name n y ≡ false) (keys_of ss)) (sym (same_name-true (object_of o) s.0 e)) u.0 in
            let more = others_kept ss cs others rest in
            ap (λ b. without_spare (cond b ((s.0, w) ∷ ss) (s ∷ set_value (same_name (object_of o)) ss w))) e ∙ (λ i. (name i, new i) ∷ more i))
        | inr e ↦
            (let found : lookup (same_name (object_of o)) ss ≡ Some d = sym (ap (λ b. cond b (Some s.1) (lookup (same_name (object_of o)) ss)) e) ∙ f in
            let other : is_change_on c.name o ≡ false = ap (λ b. is_change_body o.body && b) (ap (same_name (object_of o)) (sym name) ∙ e) ∙ and_false (is_change_body o.body) in
            let new : s.1.object ≡ object_with_changes l (h ++ o ∷ []) c = is_object ∙ sym (kept c other) in
            let more = objects_with_changes_set d w ss cs t u.1 rest found q in
            ap (λ b. without_spare (cond b ((s.0, w) ∷ ss) (s ∷ set_value (same_name (object_of o)) ss w))) e ∙ (λ i. (name i, new i) ∷ more i))
      ]

-- an object that stays in another's place changes none
pub objects_with_changes_same : (t : Name → Bool) (d w : Stored) (ss : List (Name × Stored)) → lookup t ss ≡ Some d → w.object ≡ d.object → without_spare (set_value t ss w) ≡ without_spare ss
objects_with_changes_same t d w [] f q = cc
objects_with_changes_same t d w (s ∷ ss) f q =
    elim (cases_Bool (t s.0)) [
      | inl e ↦
          (let found : Some s.1 ≡ Some d = sym (ap (λ b. cond b (Some s.1) (lookup t ss)) e) ∙ f in
          let is : s.1 ≡ d = cc in
          let new : w.object ≡ s.1.object = q ∙ ap (λ (x : Stored). x.object) (sym is) in
          ap (λ b. without_spare (cond b ((s.0, w) ∷ ss) (s ∷ set_value t ss w))) e ∙ (λ i. (s.0, new i) ∷ without_spare ss))
      | inr e ↦
          (let found : lookup t ss ≡ Some d = sym (ap (λ b. cond b (Some s.1) (lookup t ss)) e) ∙ f in
          let more = objects_with_changes_same t d w ss found q in
          ap (λ b. without_spare (cond b ((s.0, w) ∷ ss) (s ∷ set_value t ss w))) e ∙ (λ i. (s.0, s.1.object) ∷ more i))
    ]

-- after it, it is found there
pub lookup_set : (t : Name → Bool) (d w : Stored) (ss : List (Name × Stored)) → lookup t ss ≡ Some d → lookup t (set_value t ss w) ≡ Some w
lookup_set t d w [] f = cc
lookup_set t d w (s ∷ ss) f =
    elim (cases_Bool (t s.0)) [
      | inl e ↦ ap (λ b. lookup t (cond b ((s.0, w) ∷ ss) (s ∷ set_value t ss w))) e ∙ ap (λ b. cond b (Some w) (lookup t ss)) e
      | inr e ↦
          (let found : lookup t ss ≡ Some d = sym (ap (λ b. cond b (Some s.1) (lookup t ss)) e) ∙ f in
          ap (λ b. lookup t (cond b ((s.0, w) ∷ ss) (s ∷ set_value t ss w))) e ∙ ap (λ b. cond b (Some s.1) (lookup t (set_value t ss w))) e ∙ lookup_set t d w ss found)
    ]
