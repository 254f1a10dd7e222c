-- What is decided about an object depends on the changes of that object and its creation alone.
use Rattle.std.proofs.Common.{◌≡◌, Bool, true, not, List, [], ◌∷◌, ◌++◌, length, map, refl, sym, ap, ◌∙◌, subst, inl, inr}
use Rattle.std.specs.Prelude.{IsTrue, filter, find, is_none, nat_le, nat_lt}
use Rattle.std.proofs.lemmas.List.Elements.{filter-append}
use Rattle.std.proofs.lemmas.Bool.{cases_Bool, true≢false, and_parts}
use Rattle.base_types.specs.Names.{Name, same_name}
use Rattle.rules.specs.declared.history.Op.{Op}
use Rattle.rules.specs.declared.history.Body.{Body}
use Rattle.rules.specs.declared.history.Body.TheVariants.{New, Put, DropVersion}
use Rattle.rules.specs.declared.refusal.Refusal.TheVariants.{NoSuchVersion, Gone, ObjectFull, TooManyKeys, TooManyVersions}
use Rattle.rules.specs.declared.limits.LimitValues.{LimitValues}
use Rattle.rules.specs.Bodies.{is_change_body, object_of_body}
use Rattle.rules.specs.Records.{has_too_many_keys, version_conditions}
use Rattle.rules.specs.Lists.{sort_by}
use Rattle.rules.specs.Groups.{groups_of, identifier}
use Rattle.rules.specs.Operations.{known, changes_on, object_of, is_on, is_change_on}
use Rattle.rules.specs.Operations.{is_creation_of, creation_of, by_name, before, holds_drop}
use Rattle.rules.specs.Operations.{name_of}
use Rattle.rules.specs.steps.Histories.{operations_on}
use Rattle.rules.specs.Conflicts.{base, conflict, members}
use Rattle.rules.specs.Versions.{groups, version_of, versions, by_id, shown_of, initial_of}
use Rattle.rules.proofs.Lists.{In, filter_inner, map_agree}
use Rattle.rules.proofs.Counted.{same_name-true}
use Rattle.rules.proofs.Changes.{in_changes_on_back, in_known_back}
use Rattle.rules.proofs.Groups.{groups_agree, group_within}
use Rattle.rules.proofs.Identifiers.{identifier_agree}
use Rattle.rules.proofs.Nested.{object_if}
use Rattle.rules.proofs.Agreement.{base_on, conflict_on}

find_kept : {X : Type 0} (p q : X → Bool) (xs : List X) → ((x : X) → p x ≡ true → q x ≡ true) → find p (filter q xs) ≡ find p xs
find_kept p q [] f = refl
find_kept p q (x ∷ xs) f = elim (cases_Bool (p x)) [
  | inl e ↦ (let t = f x e in rw (t, e) refl)
  | inr e ↦ elim (cases_Bool (q x)) [ inl t ↦ rw (t, e) (find_kept p q xs f) | inr t ↦ rw (t, e) (find_kept p q xs f) ]
]

-- the creation of an object is on it
creation_is_on : (object : Name) (op : Op) → is_creation_of object op ≡ true → is_on object op ≡ true
creation_is_on object op e =
    let c = and_parts (not (is_change_body op.body)) (same_name op.name object) e in
    go op.body c.0 c.1
  where
    go : (body : Body) → not (is_change_body body) ≡ true → same_name op.name object ≡ true → same_name (object_of_body op.name body) object ≡ true
    go (New kind attrs) t f = f
    go (Put o v p) t f = absurd (true≢false (sym t))
    go (DropVersion o v) t f = absurd (true≢false (sym t))

-- ---- two lists with the same changes of an object

module _ (object : Name) (k h : List Op) (same : filter (is_change_on object) k ≡ filter (is_change_on object) h) where
  pub changes_on_alike : changes_on k object ≡ changes_on h object
  unfolding changes_on
  changes_on_alike = ap (sort_by by_name) same

  pub known_alike : (b : Op) → object_of b ≡ object → known k b ≡ known h b
  unfolding known
  known_alike b e = ap (filter (λ a. before a b)) (subst (λ n. changes_on k n ≡ changes_on h n) (sym e) changes_on_alike)

  knows_on : (x y : Op) → object_of x ≡ object → In y (known k x) → object_of y ≡ object
  knows_on x y e m = object_if y (object_of x) (in_known_back k x y m).change ∙ e

  pub base_alike : (b : Op) → object_of b ≡ object → base k b ≡ base h b
  base_alike = base_on (λ x. object_of x ≡ object) k h known_alike knows_on

  pub conflict_alike : (a b : Op) → object_of a ≡ object → object_of b ≡ object → conflict k a b ≡ conflict h a b
  conflict_alike = conflict_on (λ x. object_of x ≡ object) k h known_alike knows_on

  agree : (x y : Op) → In x (changes_on k object) → In y (changes_on k object) → conflict k x y ≡ conflict h x y
  agree x y m n = conflict_alike x y (object_if x object (in_changes_on_back k object x m).1) (object_if y object (in_changes_on_back k object y n).1)

  pub groups_alike : groups k object ≡ groups h object
  unfolding groups
  groups_alike = groups_agree (conflict k) (conflict h) (changes_on k object) agree ∙ ap (groups_of (conflict h)) changes_on_alike

  -- and the same creation
  module _ (created : creation_of k object ≡ creation_of h object) where
    version_alike : (g : List Op) → In g (groups k object) → version_of k object g ≡ version_of h object g
    unfolding groups version_of
    version_alike g m =
        let id = identifier_agree (conflict k) (conflict h) (changes_on k object) agree name_of g (group_within (conflict k) (changes_on k object) g m)
        ∙ ap (λ s. identifier (conflict h) name_of s g) changes_on_alike in
        λ i. record { id = id i; shown = shown_of (initial_of (created i)) g }

    pub versions_alike : versions k object ≡ versions h object
    unfolding versions
    versions_alike = ap (sort_by by_id) (map_agree (version_of k object) (version_of h object) (groups k object) version_alike ∙ ap (map (version_of h object)) groups_alike)

-- refuse the same changes of it
pub conditions_alike : (object : Name) (k h : List Op) → filter (is_change_on object) k ≡ filter (is_change_on object) h
    → (b : LimitValues) (op : Op) → object_of op ≡ object → version_conditions b k op ≡ version_conditions b h op
conditions_alike object k h same b op named =
    let changes : changes_on k (object_of op) ≡ changes_on h (object_of op) = subst (λ n. changes_on k n ≡ changes_on h n) (sym named) (changes_on_alike object k h same) in
    let more : filter (is_change_on object) (k ++ op ∷ []) ≡ filter (is_change_on object) (h ++ op ∷ []) =
    filter-append (is_change_on object) k (op ∷ []) ∙ ap (λ l. l ++ filter (is_change_on object) (op ∷ [])) same ∙ sym (filter-append (is_change_on object) h (op ∷ [])) in
    let shown : groups (k ++ op ∷ []) (object_of op) ≡ groups (h ++ op ∷ []) (object_of op) =
    subst (λ n. groups (k ++ op ∷ []) n ≡ groups (h ++ op ∷ []) n) (sym named) (groups_alike object (k ++ op ∷ []) (h ++ op ∷ []) more) in
    λ i.
    (is_none (base_alike object k h same op named i), NoSuchVersion) ∷ (holds_drop (members (base_alike object k h same op named i)), Gone) ∷ (nat_le b.changes (length (changes i)), ObjectFull)
    ∷ (has_too_many_keys b (changes i) op, TooManyKeys) ∷ (nat_lt b.versions (length (shown i)), TooManyVersions) ∷ []

-- ---- a part of a list that keeps all changes of an object

module _ (object : Name) (q : Op → Bool) (keeps : (x : Op) → is_change_on object x ≡ true → q x ≡ true) (h : List Op) where
  pub same_changes : filter (is_change_on object) (filter q h) ≡ filter (is_change_on object) h
  same_changes = filter_inner (is_change_on object) q h (λ x _. keeps x)

  pub known_kept : (b : Op) → object_of b ≡ object → known (filter q h) b ≡ known h b
  known_kept = known_alike object (filter q h) h same_changes

  pub base_kept : (b : Op) → object_of b ≡ object → base (filter q h) b ≡ base h b
  base_kept = base_alike object (filter q h) h same_changes

  pub conflict_kept : (a b : Op) → object_of a ≡ object → object_of b ≡ object → conflict (filter q h) a b ≡ conflict h a b
  conflict_kept = conflict_alike object (filter q h) h same_changes

  pub groups_kept : groups (filter q h) object ≡ groups h object
  groups_kept = groups_alike object (filter q h) h same_changes

-- ---- the operations on an object

module _ (h : List Op) (object : Name) where
  change_is_on : (x : Op) → is_change_on object x ≡ true → is_on object x ≡ true
  change_is_on x e = (and_parts (is_change_body x.body) (is_on object x) e).1

  on : (b : Op) → is_on object b ≡ true → object_of b ≡ object
  on b e = same_name-true (object_of b) object e

  pub known_alone : (b : Op) → IsTrue (is_on object b) → known (operations_on h object) b ≡ known h b
  known_alone b e = known_kept object (is_on object) change_is_on h b (on b e)

  pub base_alone : (b : Op) → IsTrue (is_on object b) → base (operations_on h object) b ≡ base h b
  base_alone b e = base_kept object (is_on object) change_is_on h b (on b e)

  pub conflict_alone : (a b : Op) → IsTrue (is_on object a) → IsTrue (is_on object b) → conflict (operations_on h object) a b ≡ conflict h a b
  conflict_alone a b e f = conflict_kept object (is_on object) change_is_on h a b (on a e) (on b f)

  pub groups_alone : groups (operations_on h object) object ≡ groups h object
  groups_alone = groups_kept object (is_on object) change_is_on h

  pub versions_alone : versions (operations_on h object) object ≡ versions h object
  versions_alone = versions_alike object (operations_on h object) h (same_changes object (is_on object) change_is_on h) (find_kept (is_creation_of object) (is_on object) h (creation_is_on object))

  -- whether a change of the object is refused
  pub conditions_alone : (b : LimitValues) (op : Op) → IsTrue (is_on object op) → version_conditions b (operations_on h object) op ≡ version_conditions b h op
  conditions_alone b op e = conditions_alike object (operations_on h object) h (same_changes object (is_on object) change_is_on h) b op (on op e)
