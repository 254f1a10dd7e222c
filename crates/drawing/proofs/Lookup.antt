-- The object of a name is what the record has made at the creation of that name.
use Rattle.std.proofs.Common.{◌≡◌, Bool, true, false, cond, not, List, [], ◌∷◌, map, refl, sym, ap, ◌∙◌, subst, ◌&&◌, ◌||◌, Option, Some, None, inl, inr}
use Rattle.std.specs.Prelude.{find, filter, option_map, is_some}
use Rattle.std.specs.Map.{lookup}
use Rattle.std.proofs.lemmas.Bool.{and_parts, cases_Bool, not-true}
use Rattle.base_types.specs.Names.{Name, same_name}
use Rattle.rules.specs.declared.history.Op.{Op}
use Rattle.rules.specs.declared.history.Entry.{Entry}
use Rattle.rules.specs.declared.limits.LimitValues.{LimitValues}
use Rattle.rules.specs.Bodies.{is_change_body}
use Rattle.rules.specs.Operations.{before, creation_of, is_creation_of, object_of}
use Rattle.rules.specs.Conflicts.{has_object}
use Rattle.rules.specs.Records.{operations, objects}
use Rattle.rules.proofs.Counted.{same_name-true}
use Rattle.rules.proofs.Lists.{Contains-from_In, find_agree, find_is}
use Rattle.base_types.specs.Vectors.{counts}
use Rattle.shape.specs.steps.Objects.{Object, Stored, IsOf}
use Rattle.drawing.specs.steps.Objects.{object_with_changes, objects_with_changes, without_spare}
use Rattle.drawing.proofs.WithChanges.{objects_with_changes_at, same_name-sym}

lookup_without_spare : (t : Name → Bool) (shapes : List (Name × Stored)) → option_map (λ (d : Stored). d.object) (lookup t shapes) ≡ lookup t (without_spare shapes)
lookup_without_spare t [] = refl
lookup_without_spare t (s ∷ ss) = step (t s.0) (lookup_without_spare t ss)
  where
    step : (b : Bool) → option_map (λ (d : Stored). d.object) (lookup t ss) ≡ lookup t (without_spare ss) → option_map (λ (d : Stored). d.object) (cond b (Some s.1) (lookup t ss)) ≡ cond b (Some s.1.object) (lookup t (without_spare ss))
    step true e = refl
    step false e = e

lookup_at : (t : Name → Bool) (l : LimitValues) (h cs : List Op) → lookup t (objects_with_changes_at l h cs) ≡ option_map (object_with_changes l h) (find (λ c. t c.name) cs)
lookup_at t l h [] = refl
lookup_at t l h (c ∷ cs) = step (t c.name) (lookup_at t l h cs)
  where
    step : (b : Bool) → lookup t (objects_with_changes_at l h cs) ≡ option_map (object_with_changes l h) (find (λ c. t c.name) cs) → cond b (Some (object_with_changes l h c)) (lookup t (objects_with_changes_at l h cs)) ≡ option_map (object_with_changes l h) (cond b (Some c) (find (λ c. t c.name) cs))
    step true e = refl
    step false e = e

find_filter : (p q : Op → Bool) (xs : List Op) → find q (filter p xs) ≡ find (λ x. p x && q x) xs
find_filter p q [] = refl
find_filter p q (x ∷ xs) = step (p x) (find_filter p q xs)
  where
    step : (b : Bool) → find q (filter p xs) ≡ find (λ x. p x && q x) xs → find q (cond b (x ∷ filter p xs) (filter p xs)) ≡ cond (b && q x) (Some x) (find (λ x. p x && q x) xs)
    step true e = ap (λ o. cond (q x) (Some x) o) e
    step false e = e

module _ (l : LimitValues) (r : List Entry) (shapes : List (Name × Stored)) (are : without_spare shapes ≡ objects_with_changes l r) where
  abbrev h : List Op
  h = operations r

  module _ (object : Name) where
    shape_at : option_map (λ (d : Stored). d.object) (lookup (same_name object) shapes) ≡ option_map (object_with_changes l h) (creation_of h object)
    shape_at =
        lookup_without_spare (same_name object) shapes
        ∙ ap (lookup (same_name object)) are
        ∙ lookup_at (same_name object) l h (objects r)
        ∙ ap (option_map (object_with_changes l h)) (
        find_filter (λ op. not (is_change_body op.body)) (λ c. same_name object c.name) h
        ∙ find_agree (λ x. not (is_change_body x.body) && same_name object x.name) (is_creation_of object) h (λ x m. ap (λ b. not (is_change_body x.body) && b) (same_name-sym object x.name))
        )

    none_by : (q : Option Op) → option_map (object_with_changes l h) q ≡ None → q ≡ None
    none_by None e = refl
    none_by (Some c) e = cc

    none_of : (q : Option Stored) → option_map (λ (d : Stored). d.object) q ≡ None → q ≡ None
    none_of None e = refl
    none_of (Some c) e = cc

    -- no object has the name where none was created under it
    pub none_created : lookup (same_name object) shapes ≡ None → creation_of h object ≡ None
    none_created e = none_by (creation_of h object) (sym shape_at ∙ ap (option_map (λ (d : Stored). d.object)) e)

    pub none_there : creation_of h object ≡ None → lookup (same_name object) shapes ≡ None
    none_there e = none_of (lookup (same_name object) shapes) (shape_at ∙ ap (option_map (object_with_changes l h)) e)

    some_by : (q : Option Op) (x : Object) → option_map (object_with_changes l h) q ≡ Some x → (c : Op) × (q ≡ Some c) × (object_with_changes l h c ≡ x)
    some_by None x e = cc
    some_by (Some c) x e = (c, refl, cc)

    -- an object that is there is an object of the history
    pub record IsThere (d : Object) : Type 0 where
      pub creation : creation_of h object ≡ Some d.creation
      pub of_history : IsOf h d
      pub named : d.creation.name ≡ object
      pub bounds : d.limits ≡ l

    pub is_there : (d : Stored) → lookup (same_name object) shapes ≡ Some d → IsThere d.object
    is_there d e =
        let c = some_by (creation_of h object) d.object (sym shape_at ∙ ap (option_map (λ (d : Stored). d.object)) e) in
        let f = find_is (is_creation_of object) c.0 h c.1 in
        let p = and_parts (not (is_change_body c.0.body)) (same_name c.0.name object) f.1 in
        subst IsThere c.2 (record {
          creation = c.1;
          of_history = record { created = not-true (is_change_body c.0.body) p.0; there = Contains-from_In c.0 h f.0; all = refl };
          named = same_name-true c.0.name object p.1;
          bounds = refl;
        })

    some_is : (q : Option Stored) (p : Option Op) → option_map (λ (d : Stored). d.object) q ≡ option_map (object_with_changes l h) p → is_some q ≡ is_some p
    some_is None None e = refl
    some_is None (Some c) e = cc
    some_is (Some d) None e = cc
    some_is (Some d) (Some c) e = refl

    pub has_shape : is_some (lookup (same_name object) shapes) ≡ is_some (creation_of h object)
    has_shape = some_is (lookup (same_name object) shapes) (creation_of h object) shape_at

  map_map : {X Y Z : Type 0} (g : Y → Z) (f : X → Y) (xs : List X) → map g (map f xs) ≡ map (λ x. g (f x)) xs
  map_map g f [] = refl
  map_map {X} {Y} {Z} g f (x ∷ xs) = ap (λ (zs : List Z). g (f x) ∷ zs) (map_map g f xs)

  -- what is seen of the objects by their names and creations, from the shapes
  pub listed : {X : Type 0} (f : Name → Op → X) → map (λ (s : Name × Stored). f s.0 s.1.object.creation) shapes ≡ map (λ (c : Op). f c.name c) (objects r)
  listed {X} f =
      let g : Name × Object → X = λ p. f p.0 p.1.creation in
      sym (map_map g (λ (s : Name × Stored). (s.0, s.1.object)) shapes) ∙ ap (map g) are ∙ map_map g (λ c. (c.name, object_with_changes l h c)) (objects r)

-- a change has its object where it counts the name and there is such a creation
pub has_object_by_name : (h : List Op) (o : Op) → has_object h o ≡ (counts o.seen (object_of o) && is_some (creation_of h (object_of o)))
has_object_by_name [] o = sym (none (counts o.seen (object_of o)))
  where
    none : (b : Bool) → (b && false) ≡ false
    none true = refl
    none false = refl
has_object_by_name (x ∷ h) o = elim (cases_Bool (is_creation_of (object_of o) x)) [
  | inl t ↦
      (let named : x.name ≡ object_of o = same_name-true x.name (object_of o) (and_parts (not (is_change_body x.body)) (same_name x.name (object_of o)) t).1 in
      ap (λ b. (b && before x o) || has_object h o) t
      ∙ ap (λ (n : Name). counts o.seen n || has_object h o) named
      ∙ step (counts o.seen (object_of o)) (is_some (creation_of h (object_of o))) (has_object h o) (has_object_by_name h o)
      ∙ sym (ap (λ b. counts o.seen (object_of o) && is_some (cond b (Some x) (creation_of h (object_of o)))) t))
  | inr f ↦
      ap (λ b. (b && before x o) || has_object h o) f
      ∙ has_object_by_name h o
      ∙ sym (ap (λ b. counts o.seen (object_of o) && is_some (cond b (Some x) (creation_of h (object_of o)))) f)
]
  where
    step : (b c d : Bool) → d ≡ (b && c) → (b || d) ≡ (b && true)
    step true c d e = refl
    step false c d e = e
