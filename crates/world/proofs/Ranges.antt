-- Where a record's entries are in range, so are the versions of its objects.
use Rattle.std.proofs.Common.{◌≡◌, ℕ, zero, suc, Bool, true, false, not, cond, List, [], ◌∷◌, ◌++◌, map, take, drop, Option, Some, None, refl, sym, ap, ◌∙◌, subst, inl, inr}
use Rattle.std.specs.Prelude.{filter, find, option_map, bytes_eq}
use Rattle.std.specs.List.{AllByRecursion}
use Rattle.std.specs.List.Sorted.{IsStrictlySortedBy}
use Rattle.std.specs.Ordering.{is_lt}
use Rattle.std.specs.Cmp.{IsTotalOrder}
use Rattle.std.specs.declared.cmp.Ordering.{Ordering}
use Rattle.std.proofs.lemmas.Bool.{and_from, not-true}
use Rattle.base_types.specs.Names.{Name, name_cmp, is_op_name}
use Rattle.base_types.specs.Texts.{Bytes, is_key, is_kind}
use Rattle.base_types.specs.VersionIds.{id_cmp, names_rise}
use Rattle.base_types.specs.declared.value.Value.{Value}
use Rattle.rules.specs.declared.history.Op.{Op}
use Rattle.rules.specs.declared.history.Body.{Body}
use Rattle.rules.specs.declared.history.Body.TheVariants.{New, Put, DropVersion}
use Rattle.rules.specs.declared.history.Entry.{Entry}
use Rattle.rules.specs.declared.history.Entry.TheVariants.{Join, Next, Operation}
use Rattle.rules.specs.declared.version.Shown.TheVariants.{Attrs, Gone}
use Rattle.rules.specs.declared.version.Version.{Version}
use Rattle.rules.specs.AttrLists.{Attr, value_at}
use Rattle.rules.specs.Bodies.{initial_in, is_change_body, keys_of_body, kind_of_body, value_of_body}
use Rattle.rules.specs.Lists.{each_once, sort_by}
use Rattle.rules.specs.Groups.{in_conflict_with, identifier, IsSublist}
use Rattle.rules.specs.Conflicts.{conflict}
use Rattle.rules.specs.Operations.{IsHistory, creation_of, holds_drop, is_creation_of, name_of, changes_on}
use Rattle.rules.specs.Records.{operation_in, operations}
use Rattle.rules.specs.Versions.{attributes, by_id, decides, groups, initial_of, key_cmp, keys_of, shown_of, value_by, value_of_key, version_of, versions}
use Rattle.rules.proofs.Lists.{In, In-append_cases, In-filter_back, In-filter_map_back, In-map_back, all_at, find_is}
use Rattle.rules.proofs.Once.{Once, Once-filter, Once-map}
use Rattle.rules.proofs.Names.{names_rise_if}
use Rattle.rules.proofs.Orders.{name_cmp_total, tied}
use Rattle.rules.proofs.Sorting.{Rises, sort_back, sort_rises}
use Rattle.rules.proofs.Sorted.{untied_if_once}
use Rattle.rules.proofs.Changes.{Once-changes_on, in_changes_on_back, one_op}
use Rattle.rules.proofs.Groups.{sublist_in, group_is, group_within}
use Rattle.rules.proofs.Identifiers.{in_identifier_back}
use Rattle.rules.proofs.Reordered.{In-each_once_back, Once-each_once, in_keys_back, key_cmp_total, same_key_is, same_key_itself, untied_with_values, with_values}
use Rattle.rules.proofs.Versions.{identifiers_rise}
use Rattle.wire.specs.Form.{AreIds, AreShown, AreVersions, IsAttr, IsBody, IsEntry, IsId, IsShown, IsValue, IsVersion}
use Rattle.wire.specs.Rising.{rise, id_before, version_before}

-- ---- all members of a list

module _ {X : Type 0} (P : X → Type 0) where
  pub all_if : (xs : List X) → ((x : X) → In x xs → P x) → AllByRecursion P xs
  all_if [] each = tt
  all_if (x ∷ xs) each = (each x (inl refl), all_if xs (λ y m. each y (inr m)))

  pub all_take : (n : ℕ) (xs : List X) → AllByRecursion P xs → AllByRecursion P (take n xs)
  all_take zero xs all = tt
  all_take (suc n) [] all = tt
  all_take (suc n) (x ∷ xs) all = (all.0, all_take n xs all.1)

  pub all_drop : (n : ℕ) (xs : List X) → AllByRecursion P xs → AllByRecursion P (drop n xs)
  all_drop zero xs all = all
  all_drop (suc n) [] all = tt
  all_drop (suc n) (x ∷ xs) all = all_drop n xs all.1

  pub all_push : (xs : List X) (x : X) → AllByRecursion P xs → P x → AllByRecursion P (xs ++ x ∷ [])
  all_push [] x all p = (p, tt)
  all_push (y ∷ ys) x all p = (all.0, all_push ys x all.1 p)

-- ---- lists in order

rise_if_rises : {X : Type 0} (cmp : X → X → Ordering) (total : IsTotalOrder cmp) (xs : List X) → Rises cmp total xs → rise (λ x y. is_lt (cmp x y)) xs ≡ true
unfolding rise
rise_if_rises cmp total [] r = refl
rise_if_rises cmp total (x ∷ []) r = refl
rise_if_rises cmp total (x ∷ y ∷ xs) r = and_from (is_lt (cmp x y)) _ (ap is_lt (r.0 y (inl refl))) (rise_if_rises cmp total (y ∷ xs) r.1)

ids_rise_if : (ids : List (List Name)) → IsStrictlySortedBy id_cmp ids → rise id_before ids ≡ true
unfolding rise IsStrictlySortedBy
ids_rise_if [] r = refl
ids_rise_if (i ∷ []) r = refl
ids_rise_if (i ∷ j ∷ ids) r = and_from (id_before i j) _ (ap is_lt r.0.0) (ids_rise_if (j ∷ ids) r.1)

versions_rise_if : (vs : List Version) → IsStrictlySortedBy id_cmp (map (λ (v : Version). v.id) vs) → rise version_before vs ≡ true
unfolding rise IsStrictlySortedBy
versions_rise_if [] r = refl
versions_rise_if (v ∷ []) r = refl
versions_rise_if (v ∷ w ∷ vs) r = and_from (version_before v w) _ (ap is_lt r.0.0) (versions_rise_if (w ∷ vs) r.1)

-- ---- operations

abbrev pub IsOp : Op → Type 0
IsOp op = IsEntry (Operation op)

entry_is : (e : Entry) (op : Op) → operation_in e ≡ Some op → IsEntry e → IsOp op
entry_is (Join site) op e range = absurd cc
entry_is (Next count) op e range = absurd cc
entry_is (Operation o) op e range = (let same : o ≡ op = cc in subst IsOp same range)

pub ops_in_range : (r : List Entry) → AllByRecursion IsEntry r → (op : Op) → In op (operations r) → IsOp op
ops_in_range r all op m = let c = In-filter_map_back operation_in op r m in entry_is c.0 op c.2 (all_at IsEntry r all c.0 c.1)

new_kind : (b : Body) → is_change_body b ≡ false → IsBody b → is_kind (kind_of_body b) ≡ true
new_kind (New kind attrs) e range = range.0
new_kind (Put object version pairs) e range = absurd cc
new_kind (DropVersion object version) e range = absurd cc

pub kind_in_range : (op : Op) → not (is_change_body op.body) ≡ true → IsOp op → is_kind (kind_of_body op.body) ≡ true
kind_in_range op e range = new_kind op.body (not-true (is_change_body op.body) e) range.2

initial_in_range : (b : Body) → IsBody b → AllByRecursion IsAttr (initial_in b)
initial_in_range (New kind attrs) range = range.1.0
initial_in_range (Put object version pairs) range = tt
initial_in_range (DropVersion object version) range = tt

keys_in_range : (b : Body) → IsBody b → (key : Bytes) → In key (keys_of_body b) → is_key key ≡ true
keys_in_range (New kind attrs) range key m = absurd m
keys_in_range (Put object version pairs) range key m =
    let c = In-map_back (λ (attr : Attr). attr.0) key pairs m in
    ap is_key c.2 ∙ (all_at IsAttr pairs range.2.0 c.0 c.1).0
keys_in_range (DropVersion object version) range key m = absurd m

-- the value of a key in a list whose attributes are in range
found_in_range : (attrs : List Attr) → AllByRecursion IsAttr attrs → (key : Bytes) (v : Value) (o : Option Attr) → find (λ (attr : Attr). bytes_eq attr.0 key) attrs ≡ o → option_map (λ (attr : Attr). attr.1) o ≡ Some v → IsValue v
found_in_range attrs range key v None f e = absurd cc
found_in_range attrs range key v (Some attr) f e =
    let c = find_is (λ (attr : Attr). bytes_eq attr.0 key) attr attrs f in
    let same : attr.1 ≡ v = cc in
    subst IsValue same (all_at IsAttr attrs range attr c.0).1

value_at_in_range : (attrs : List Attr) → AllByRecursion IsAttr attrs → (key : Bytes) (v : Value) → value_at key attrs ≡ Some v → IsValue v
value_at_in_range attrs range key v e = found_in_range attrs range key v (find (λ (attr : Attr). bytes_eq attr.0 key) attrs) refl e

value_in_range : (b : Body) → IsBody b → (key : Bytes) (v : Value) → value_of_body key b ≡ Some v → IsValue v
value_in_range (New kind attrs) range key v e = absurd cc
value_in_range (Put object version pairs) range key v e = value_at_in_range pairs range.2.0 key v e
value_in_range (DropVersion object version) range key v e = absurd cc

-- ---- the attributes of a group

module _ (initial : List Attr) (g : List Op) (initials : AllByRecursion IsAttr initial) (ops : (op : Op) → In op g → IsOp op) where
  abbrev all_keys : List Bytes
  all_keys = each_once bytes_eq (map (λ (attr : Attr). attr.0) initial ++ keys_of g)

  key_in_range : (key : Bytes) → In key all_keys → is_key key ≡ true
  key_in_range key m = elim (In-append_cases key (map (λ (attr : Attr). attr.0) initial) (keys_of g) (In-each_once_back bytes_eq same_key_is same_key_itself key (map (λ (attr : Attr). attr.0) initial ++ keys_of g) m)) [
    | inl first ↦ (let c = In-map_back (λ (attr : Attr). attr.0) key initial first in ap is_key c.2 ∙ (all_at IsAttr initial initials c.0 c.1).0)
    | inr later ↦ (let c = in_keys_back g key later in keys_in_range c.0.body (ops c.0 c.1).2 key c.2)
  ]

  value_by_range : (key : Bytes) (v : Value) (o : Option Op) → find (decides key g) g ≡ o → value_by key initial o ≡ Some v → IsValue v
  value_by_range key v None f e = value_at_in_range initial initials key v e
  value_by_range key v (Some op) f e = value_in_range op.body (ops op (find_is (decides key g) op g f).0).2 key v e

  attr_by : (key : Bytes) (o : Option Value) → value_of_key initial g key ≡ o → In key all_keys → (attr : Attr) → option_map (λ v. (key, v)) o ≡ Some attr → IsAttr attr
  attr_by key None f m attr e = absurd cc
  attr_by key (Some v) f m attr e =
      let same : (key, v) ≡ attr = cc in
      subst IsAttr same (key_in_range key m, value_by_range key v (find (decides key g) g) refl f)

  attributes_in_range : AreShown (attributes initial g)
  unfolding attributes
  attributes_in_range =
      let pairs = with_values (value_of_key initial g) all_keys in (
        all_if IsAttr (sort_by key_cmp pairs) (λ attr m.
            let c = In-filter_map_back (λ key. option_map (λ v. (key, v)) (value_of_key initial g key)) attr all_keys (sort_back key_cmp attr pairs m) in
            attr_by c.0 (value_of_key initial g c.0) refl c.1 attr c.2),
        rise_if_rises key_cmp key_cmp_total (sort_by key_cmp pairs)
            (sort_rises key_cmp key_cmp_total pairs (untied_with_values (value_of_key initial g) all_keys (Once-each_once bytes_eq same_key_is same_key_itself (map (λ (attr : Attr). attr.0) initial ++ keys_of g)))),
      )

  shown_by_drop : (dropped : Bool) → IsShown (cond dropped Gone (Attrs (attributes initial g)))
  shown_by_drop true = tt
  shown_by_drop false = attributes_in_range

  shown_in_range : IsShown (shown_of initial g)
  unfolding shown_of
  shown_in_range = shown_by_drop (holds_drop g)

-- ---- the identifier of a group

once_sublist : {X : Type 0} (g s : List X) → Once s → IsSublist g s → Once g
once_sublist g [] once e = subst Once (sym e) tt
once_sublist g (x ∷ s) once sub = elim sub [
  | inl p ↦ subst Once (sym p.1) ((λ m. once.0 (sublist_in p.0 s p.2 x m)), once_sublist p.0 s once.1 p.2)
  | inr q ↦ once_sublist g s once.1 q
]

module _ (h : List Op) (history : IsHistory h) (ops : (op : Op) → In op h → IsOp op) (object : Name) where
  in_group : (g : List Op) → In g (groups h object) → (op : Op) → In op g → In op h
  unfolding groups
  in_group g m op n = (in_changes_on_back h object op (group_within (conflict h) (changes_on h object) g m op n)).0

  once_group : (g : List Op) → In g (groups h object) → Once g
  unfolding groups
  once_group g m = once_sublist g (changes_on h object) (Once-changes_on history object) (group_is (conflict h) (changes_on h object) g m).inside

  names_rise_in : (g : List Op) → In g (groups h object) → names_rise (identifier (conflict h) name_of (changes_on h object) g) ≡ true
  unfolding identifier
  names_rise_in g m =
      let some = filter (in_conflict_with (conflict h) (changes_on h object)) g in
      let names = map name_of some in
      let within : (op : Op) → In op some → In op h = λ op n. in_group g m op (In-filter_back (in_conflict_with (conflict h) (changes_on h object)) op g n).0 in
      let once : Once names = Once-map name_of some (λ x y p q e. one_op history x y (within x p) (within y q) e) (Once-filter (in_conflict_with (conflict h) (changes_on h object)) g (once_group g m)) in
      names_rise_if (sort_by name_cmp names) (sort_rises name_cmp name_cmp_total names (untied_if_once name_cmp name_cmp_total names once (λ x y p q e. tied x y e)))

  id_in_range : (g : List Op) → In g (groups h object) → IsId (identifier (conflict h) name_of (changes_on h object) g)
  id_in_range g m = (
    all_if (λ name. is_op_name name ≡ true) (identifier (conflict h) name_of (changes_on h object) g) (λ name n.
        let c = in_identifier_back (conflict h) name_of (changes_on h object) g name n in
        ap is_op_name c.is ∙ (ops c.member (in_group g m c.member c.there)).0),
    names_rise_in g m,
  )

  initials : (o : Option Op) → creation_of h object ≡ o → AllByRecursion IsAttr (initial_of o)
  initials None e = tt
  initials (Some op) e = initial_in_range op.body (ops op (find_is (is_creation_of object) op h e).0).2

  version_in_range : (g : List Op) → In g (groups h object) → IsVersion (version_of h object g)
  unfolding version_of
  version_in_range g m = (
    id_in_range g m,
    shown_in_range (initial_of (creation_of h object)) g (initials (creation_of h object) refl) (λ op n. ops op (in_group g m op n)),
  )

  each_in_range : (v : Version) → In v (versions h object) → IsVersion v
  unfolding versions
  each_in_range v m =
      let c = In-map_back (version_of h object) v (groups h object) (sort_back by_id v (map (version_of h object) (groups h object)) m) in
      subst IsVersion (sym c.2) (version_in_range c.0 c.1)

  pub versions_in_range : AreVersions (versions h object)
  versions_in_range = (
    all_if IsVersion (versions h object) each_in_range,
    versions_rise_if (versions h object) (identifiers_rise h object history),
  )

  pub ids_in_range : AreIds (map (λ (v : Version). v.id) (versions h object))
  ids_in_range = (
    all_if IsId (map (λ (v : Version). v.id) (versions h object)) (λ id m.
        let c = In-map_back (λ (v : Version). v.id) id (versions h object) m in
        subst IsId (sym c.2) (each_in_range c.0 c.1).0),
    ids_rise_if (map (λ (v : Version). v.id) (versions h object)) (identifiers_rise h object history),
  )
