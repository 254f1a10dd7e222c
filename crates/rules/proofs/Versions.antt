-- The versions that are shown of an object: in whatever order the record stands, one for each group, by rising identifiers.
use Rattle.std.proofs.Common.{◌≡◌, ◌≤◌, true, not, List, [], ◌∷◌, length, map, refl, sym, ap, ◌∙◌, subst, inl, inr, Option, Some, None, arith}
use Rattle.std.specs.declared.cmp.Ordering.{Ordering}
use Rattle.std.specs.declared.cmp.Ordering.TheVariants.{Less, Equal}
use Rattle.std.specs.Ordering.{is_lt}
use Rattle.std.specs.List.{AllByRecursion}
use Rattle.std.specs.List.Sorted.{IsPermutation, IsStrictlySortedBy}
use Rattle.std.proofs.lemmas.Bool.{cases_Bool, true≢false, and_parts}
use Rattle.std.proofs.lemmas.List.{length-map}
use Rattle.std.proofs.lemmas.List.Sorted.{IsPermutation-refl, IsPermutation-cons, IsPermutation-trans, IsPermutation-middle}
use Rattle.base_types.specs.Names.{Name, same_name}
use Rattle.base_types.specs.VersionIds.{id_cmp}
use Rattle.rules.specs.declared.history.Op.{Op}
use Rattle.rules.specs.declared.version.Version.{Version}
use Rattle.rules.specs.Bodies.{is_change_body}
use Rattle.rules.specs.Lists.{HasNoRepeats, insert_by, sort_by}
use Rattle.rules.specs.Groups.{groups_of, identifier}
use Rattle.rules.specs.Operations.{IsHistory, changes_on, name_of, creation_of, is_creation_of}
use Rattle.rules.specs.steps.Histories.{IsPartOf, AreSame}
use Rattle.rules.specs.Conflicts.{conflict, IsFounded}
use Rattle.rules.specs.Versions.{groups, version_of, versions, by_id, shown_of, initial_of}
use Rattle.rules.proofs.Lists.{In, In-from_Contains, Contains-from_In, In-map_back, map_agree, find_is, find_none}
use Rattle.rules.proofs.Once.{Once, HasNoRepeats-from_Once}
use Rattle.rules.proofs.Counted.{same_name-true}
use Rattle.rules.proofs.Orders.{by_id_total, one_id}
use Rattle.rules.proofs.Sorting.{Rises, Untied, sort_rises}
use Rattle.rules.proofs.Changes.{Once-changes_on, in_changes_on_back, changes_on_same, one_op}
use Rattle.rules.proofs.Groups.{Once-groups_of, group_is, group_within, groups_agree}
use Rattle.rules.proofs.Identifiers.{one_identifier, identifier_agree}
use Rattle.rules.proofs.Agreement.{conflict_in_part}
use Rattle.rules.proofs.Parts.{group_count_in_part}

-- ---- a sorted list is the list in another order

insert_permutes : {X : Type 0} (cmp : X → X → Ordering) (x : X) (ys : List X) → IsPermutation (x ∷ ys) (insert_by cmp x ys)
insert_permutes cmp x [] = IsPermutation-refl (x ∷ [])
insert_permutes cmp x (y ∷ ys) = elim (cases_Bool (is_lt (cmp x y))) [
  | inl e ↦ rw e (IsPermutation-refl (x ∷ y ∷ ys))
  | inr e ↦ rw e (IsPermutation-trans (x ∷ y ∷ ys) (y ∷ x ∷ ys) (y ∷ insert_by cmp x ys) (IsPermutation-middle (x ∷ []) y ys) (IsPermutation-cons y (x ∷ ys) (insert_by cmp x ys) (insert_permutes cmp x ys)))
]

pub sort_permutes : {X : Type 0} (cmp : X → X → Ordering) (xs : List X) → IsPermutation xs (sort_by cmp xs)
sort_permutes cmp [] = IsPermutation-refl []
sort_permutes cmp (x ∷ xs) = IsPermutation-trans (x ∷ xs) (x ∷ sort_by cmp xs) (sort_by cmp (x ∷ xs)) (IsPermutation-cons x xs (sort_by cmp xs) (sort_permutes cmp xs)) (insert_permutes cmp x (sort_by cmp xs))

-- ---- each group once, by rising identifiers

pub Once-groups : (h : List Op) (object : Name) → IsHistory h → Once (groups h object)
unfolding groups
Once-groups h object i = Once-groups_of (conflict h) (changes_on h object) (Once-changes_on i object)

one_version : (h : List Op) (object : Name) → IsHistory h → (f g : List Op) → In f (groups h object) → In g (groups h object) → by_id (version_of h object f) (version_of h object g) ≡ Equal → f ≡ g
unfolding groups version_of
one_version h object i f g m n e =
    let s = changes_on h object in
    one_identifier (conflict h) name_of s (λ x y p q same. one_op i x y (in_changes_on_back h object x p).0 (in_changes_on_back h object y q).0 same) (Once-changes_on i object)
    f g (group_is (conflict h) s f m) (group_is (conflict h) s g n)
    (one_id (identifier (conflict h) name_of s f) (identifier (conflict h) name_of s g) e)

untied_map : {X : Type 0} (f : X → Version) (xs : List X) → ((x y : X) → In x xs → In y xs → by_id (f x) (f y) ≡ Equal → x ≡ y) → Once xs → Untied by_id by_id_total (map f xs)
untied_map f [] d o = tt
untied_map f (x ∷ xs) d o = (
  (λ v m e. let c = In-map_back f v xs m in o.0 (subst (λ z. In z xs) (sym (d x c.0 (inl refl) (inr c.1) (ap (by_id (f x)) (sym c.2) ∙ e))) c.1)),
  untied_map f xs (λ y z m n e. d y z (inr m) (inr n) e) o.1,
)

versions_rise : (h : List Op) (object : Name) → IsHistory h → Rises by_id by_id_total (versions h object)
unfolding versions
versions_rise h object i = sort_rises by_id by_id_total (map (version_of h object) (groups h object)) (untied_map (version_of h object) (groups h object) (one_version h object i) (Once-groups h object i))

below_all : (v : Version) (vs : List Version) → ((w : Version) → In w vs → by_id v w ≡ Less) → AllByRecursion (λ id. id_cmp v.id id ≡ Less) (map (λ w. w.id) vs)
below_all v [] f = tt
below_all v (w ∷ vs) f = (f w (inl refl), below_all v vs (λ x m. f x (inr m)))

sorted_if_rises : (vs : List Version) → Rises by_id by_id_total vs → IsStrictlySortedBy id_cmp (map (λ v. v.id) vs)
unfolding IsStrictlySortedBy
sorted_if_rises [] r = tt
sorted_if_rises (v ∷ vs) r = (below_all v vs r.0, sorted_if_rises vs r.1)

-- the identifiers of an object's versions rise strictly
pub identifiers_rise : (h : List Op) (object : Name) → IsHistory h → IsStrictlySortedBy id_cmp (map (λ version. version.id) (versions h object))
identifiers_rise h object i = sorted_if_rises (versions h object) (versions_rise h object i)

pub groups_once : (h : List Op) (object : Name) → IsHistory h → HasNoRepeats (groups h object)
groups_once h object i = HasNoRepeats-from_Once (groups h object) (Once-groups h object i)

-- each group is shown exactly once
pub each_shown : (h : List Op) (object : Name) → IsPermutation (map (version_of h object) (groups h object)) (versions h object)
unfolding versions
each_shown h object = sort_permutes by_id (map (version_of h object) (groups h object))

insert-length : {X : Type 0} (cmp : X → X → Ordering) (x : X) (ys : List X) → length (insert_by cmp x ys) ≡ length (x ∷ ys)
insert-length cmp x [] = refl
insert-length cmp x (y ∷ ys) = elim (cases_Bool (is_lt (cmp x y))) [
  | inl e ↦ rw e refl
  | inr e ↦ rw e (let n = insert-length cmp x ys in omega (arith, n))
]

pub sort-length : {X : Type 0} (cmp : X → X → Ordering) (xs : List X) → length (sort_by cmp xs) ≡ length xs
sort-length cmp [] = refl
sort-length cmp (x ∷ xs) = (let a = insert-length cmp x (sort_by cmp xs) in let b = sort-length cmp xs in omega (arith, a, b))

pub versions-length : (h : List Op) (object : Name) → length (versions h object) ≡ length (groups h object)
unfolding versions
versions-length h object = sort-length by_id (map (version_of h object) (groups h object)) ∙ length-map (groups h object) (version_of h object)

pub versions_of_part : (k h : List Op) (object : Name) → IsPartOf k h → IsFounded h → length (versions k object) ≤ length (versions h object)
versions_of_part k h object w f =
    let n = group_count_in_part k h object w f in
    omega (arith, n, versions-length k object, versions-length h object)

-- ---- in any order

pub created_name : (object : Name) (op : Op) → is_creation_of object op ≡ true → op.name ≡ object
created_name object op t = same_name-true op.name object (and_parts (not (is_change_body op.body)) (same_name op.name object) t).1

module _ (k h : List Op) (object : Name) (w : AreSame k h) where
  to : (a : Op) → In a k → In a h
  to a m = In-from_Contains a h (w.one.within a (Contains-from_In a k m))

  back : (a : Op) → In a h → In a k
  back a m = In-from_Contains a k (w.other.within a (Contains-from_In a h m))

  same_changes : changes_on k object ≡ changes_on h object
  same_changes = changes_on_same w.one.part w.one.whole object (λ a m e. to a m) (λ a m e. back a m)

  same_conflict : (a b : Op) → In a (changes_on k object) → In b (changes_on k object) → conflict k a b ≡ conflict h a b
  same_conflict a b m n = conflict_in_part w.one a b (Contains-from_In a k (in_changes_on_back k object a m).0) (Contains-from_In b k (in_changes_on_back k object b n).0)

  pub same_groups : groups k object ≡ groups h object
  unfolding groups
  same_groups = groups_agree (conflict k) (conflict h) (changes_on k object) same_conflict ∙ ap (groups_of (conflict h)) same_changes

  same_creation : creation_of k object ≡ creation_of h object
  same_creation = go (creation_of k object) (creation_of h object) refl refl
    where
      go : (x y : Option Op) → creation_of k object ≡ x → creation_of h object ≡ y → creation_of k object ≡ creation_of h object
      go None None e f = e ∙ sym f
      go (Some a) None e f = let c = find_is (is_creation_of object) a k e in absurd (true≢false (sym c.1 ∙ find_none (is_creation_of object) a h f (to a c.0)))
      go None (Some b) e f = let d = find_is (is_creation_of object) b h f in absurd (true≢false (sym d.1 ∙ find_none (is_creation_of object) b k e (back b d.0)))
      go (Some a) (Some b) e f =
          let c = find_is (is_creation_of object) a k e in
          let d = find_is (is_creation_of object) b h f in
          e ∙ ap Some (one_op w.one.whole a b (to a c.0) d.0 (created_name object a c.1 ∙ sym (created_name object b d.1))) ∙ sym f

  pub same_version : (g : List Op) → In g (groups k object) → version_of k object g ≡ version_of h object g
  unfolding groups version_of
  same_version g m =
      let id = identifier_agree (conflict k) (conflict h) (changes_on k object) same_conflict name_of g (group_within (conflict k) (changes_on k object) g m) ∙ ap (λ s. identifier (conflict h) name_of s g) same_changes in
      λ i. record { id = id i; shown = shown_of (initial_of (same_creation i)) g }

  -- in whatever order its operations are listed, a history has the same versions of each object
  pub versions_same : versions k object ≡ versions h object
  unfolding versions
  versions_same = ap (sort_by by_id) (map_agree (version_of k object) (version_of h object) (groups k object) same_version ∙ ap (map (version_of h object)) same_groups)
