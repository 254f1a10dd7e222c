-- Equality of operations and of entries, as a test.
use Rattle.std.specs.Prelude.{◌≡◌, ℕ, Bool, true, false, ◌&&◌, ◌==◌, List, [], bytes_eq}
use Rattle.std.specs.Bool.{Decides}
use Rattle.std.specs.Cmp.{IsEquivalence, decided, unsigned_Decides}
use Rattle.std.proofs.Common.{ap, refl, ◌∙◌}
use Rattle.std.proofs.lemmas.Slice.Eq.{bytes_eq-Decides, slice_eq-Decides}
use Rattle.base_types.specs.Names.{Name, same_name}
use Rattle.base_types.specs.VersionIds.{same_names}
use Rattle.base_types.specs.Values.{same_value}
use Rattle.base_types.specs.steps.Equality.{same_value-Decides, same_pairs}
use Rattle.base_types.specs.Vectors.{Vector}
use Rattle.rules.specs.AttrLists.{Attr}
use Rattle.rules.specs.steps.AttrLists.{same_attrs}
use Rattle.rules.specs.steps.Shared.{held}
use Rattle.rules.specs.Bodies.{object_of_body, version_of_body, pairs_of_body, kind_of_body}
use Rattle.rules.specs.Bodies.{initial_in}
use Rattle.rules.specs.declared.history.Body.{Body}
use Rattle.rules.specs.declared.history.Body.TheVariants.{New, Put, DropVersion}
use Rattle.rules.specs.declared.history.Op.{Op}
use Rattle.rules.specs.declared.history.Entry.{Entry}
use Rattle.rules.specs.declared.history.Entry.TheVariants.{Join, Operation, Next}
use Rattle.rules.specs.declared.version.Shown.{Shown}
use Rattle.rules.specs.declared.version.Shown.TheVariants.{Attrs, Gone}

-- two facts decided together decide what they make
both_decide : {P Q R : Type 0} (a b : Bool) → Decides a P → Decides b Q → (P → Q → R) → (R → P × Q)
    → Decides (a && b) R
both_decide true b p q make split = (λ e. make (p.0 refl) (q.0 e), λ r. q.1 (split r).1)
both_decide false b p q make split = (λ e. cc, λ r. p.1 (split r).0)

pair_is : {A B : Type 0} (a b : A × B) → a.0 ≡ b.0 → a.1 ≡ b.1 → a ≡ b
pair_is a b first second = ap (λ x. (x, a.1)) first ∙ ap (λ y. (b.0, y)) second

pub same_name-Decides : (a b : Name) → Decides (same_name a b) (a ≡ b)
same_name-Decides a b =
    both_decide _ _ (unsigned_Decides a.0 b.0) (unsigned_Decides a.1 b.1) (pair_is a b)
    (λ e. (ap (λ p. p.0) e, ap (λ p. p.1) e))

pub same_names-Decides : (a b : List Name) → Decides (same_names a b) (a ≡ b)
same_names-Decides a b = slice_eq-Decides same_name-Decides a b _ refl

same_pairs-Decides : (a b : Vector) → Decides (same_pairs a b) (a ≡ b)
same_pairs-Decides a b = slice_eq-Decides same_name-Decides a b _ refl

same_attr-Decides : (a b : Attr) → Decides (bytes_eq a.0 b.0 && same_value a.1 b.1) (a ≡ b)
same_attr-Decides a b =
    both_decide _ _ (bytes_eq-Decides a.0 b.0) (same_value-Decides a.1 b.1) (pair_is a b)
    (λ e. (ap (λ p. p.0) e, ap (λ p. p.1) e))

same_attrs-Decides : (a b : List Attr) → Decides (same_attrs a b) (a ≡ b)
same_attrs-Decides a b = slice_eq-Decides same_attr-Decides a b _ refl

-- ---- bodies

-- two bodies do the same
abbrev pub same_body : Body → Body → Bool
same_body (New kind attrs) (New other_kind other_attrs) =
    bytes_eq kind other_kind && same_attrs attrs other_attrs
same_body (Put object version pairs) (Put other_object other_version other_pairs) =
    same_name object other_object && same_names version other_version
    && same_attrs pairs other_pairs
same_body (DropVersion object version) (DropVersion other_object other_version) =
    same_name object other_object && same_names version other_version
same_body _ _ = false

pub same_body-Decides : (a b : Body) → Decides (same_body a b) (a ≡ b)
same_body-Decides (New kind attrs) (New other_kind other_attrs) =
    both_decide _ _ (bytes_eq-Decides kind other_kind) (same_attrs-Decides attrs other_attrs)
    (λ k a. ap (λ x. New x attrs) k ∙ ap (λ y. New other_kind y) a)
    (λ e. (ap kind_of_body e, ap initial_in e))
same_body-Decides (Put object version pairs) (Put other_object other_version other_pairs) =
    both_decide _ _
    (both_decide _ _ (same_name-Decides object other_object)
    (same_names-Decides version other_version) (λ o w. (o, w)) (λ p. p))
    (same_attrs-Decides pairs other_pairs)
    (λ p a.
    ap (λ x. Put x version pairs) p.0 ∙ ap (λ x. Put other_object x pairs) p.1 ∙ ap
    (λ x. Put other_object other_version x) a)
    (λ e. ((ap (object_of_body (0, 0)) e, ap version_of_body e), ap pairs_of_body e))
same_body-Decides (DropVersion object version) (DropVersion other_object other_version) =
    both_decide _ _ (same_name-Decides object other_object)
    (same_names-Decides version other_version)
    (λ o w. ap (λ x. DropVersion x version) o ∙ ap (λ x. DropVersion other_object x) w)
    (λ e. (ap (object_of_body (0, 0)) e, ap version_of_body e))
same_body-Decides (New kind attrs) (Put object version pairs) = (λ e. cc, λ e. cc)
same_body-Decides (New kind attrs) (DropVersion object version) = (λ e. cc, λ e. cc)
same_body-Decides (Put object version pairs) (New kind attrs) = (λ e. cc, λ e. cc)
same_body-Decides (Put object version pairs) (DropVersion other_object other_version) =
    (λ e. cc, λ e. cc)
same_body-Decides (DropVersion object version) (New kind attrs) = (λ e. cc, λ e. cc)
same_body-Decides (DropVersion object version) (Put other_object other_version pairs) =
    (λ e. cc, λ e. cc)

pub same_body-equivalence : IsEquivalence same_body
same_body-equivalence = decided same_body same_body-Decides

-- ---- operations

abbrev pub same_operation : Op → Op → Bool
same_operation a b = same_name a.name b.name && same_pairs a.seen b.seen && same_body a.body b.body

pub same_operation-Decides : (a b : Op) → Decides (same_operation a b) (a ≡ b)
same_operation-Decides a b =
    both_decide _ _
    (both_decide _ _ (same_name-Decides a.name b.name) (same_pairs-Decides a.seen b.seen)
    (λ n s. (n, s)) (λ p. p))
    (same_body-Decides a.body b.body)
    (λ p c. ap (λ x. record { name = x; seen = a.seen; body = a.body }) p.0
    ∙ ap (λ x. record { name = b.name; seen = x; body = a.body }) p.1
    ∙ ap (λ x. record { name = b.name; seen = b.seen; body = x }) c)
    (λ e. ((ap (λ o. o.name) e, ap (λ o. o.seen) e), ap (λ o. o.body) e))

pub same_operation-equivalence : IsEquivalence same_operation
same_operation-equivalence = decided same_operation same_operation-Decides

-- ---- entries

abbrev pub same_entry : Entry → Entry → Bool
same_entry (Join site) (Join other) = site == other
same_entry (Operation op) (Operation other) = same_operation op other
same_entry (Next count) (Next other) = count == other
same_entry _ _ = false

number_in : Entry → ℕ
number_in (Join site) = site
number_in (Operation op) = 0
number_in (Next count) = count

pub same_entry-Decides : (a b : Entry) → Decides (same_entry a b) (a ≡ b)
unfolding number_in
same_entry-Decides (Join site) (Join other) = (
  λ e.
      ap Join ((unsigned_Decides site other).0 e),
  λ e. (unsigned_Decides site other).1
      (ap number_in e),
)
same_entry-Decides (Operation op) (Operation other) = (
  λ e.
      ap Operation ((same_operation-Decides op other).0 e),
  λ e.
      (same_operation-Decides op other).1 (ap held e),
)
same_entry-Decides (Next count) (Next other) = (
  λ e.
      ap Next ((unsigned_Decides count other).0 e),
  λ e. (unsigned_Decides count other).1
      (ap number_in e),
)
same_entry-Decides (Join site) (Operation op) = (λ e. cc, λ e. cc)
same_entry-Decides (Join site) (Next count) = (λ e. cc, λ e. cc)
same_entry-Decides (Operation op) (Join site) = (λ e. cc, λ e. cc)
same_entry-Decides (Operation op) (Next count) = (λ e. cc, λ e. cc)
same_entry-Decides (Next count) (Join site) = (λ e. cc, λ e. cc)
same_entry-Decides (Next count) (Operation op) = (λ e. cc, λ e. cc)

pub same_entry-equivalence : IsEquivalence same_entry
same_entry-equivalence = decided same_entry same_entry-Decides

-- ---- what is shown

-- the same is shown of two versions
abbrev pub same_shown : Shown → Shown → Bool
same_shown (Attrs attrs) (Attrs other) = same_attrs attrs other
same_shown Gone Gone = true
same_shown _ _ = false

attrs_in : Shown → List Attr
attrs_in (Attrs attrs) = attrs
attrs_in Gone = []

pub same_shown-Decides : (a b : Shown) → Decides (same_shown a b) (a ≡ b)
unfolding attrs_in
same_shown-Decides (Attrs attrs) (Attrs other) = (
  λ e.
      ap Attrs ((same_attrs-Decides attrs other).0 e),
  λ e. (same_attrs-Decides attrs other).1
      (ap attrs_in e),
)
same_shown-Decides Gone Gone = (λ e. refl, λ e. refl)
same_shown-Decides (Attrs attrs) Gone = (λ e. cc, λ e. cc)
same_shown-Decides Gone (Attrs attrs) = (λ e. cc, λ e. cc)

pub same_shown-equivalence : IsEquivalence same_shown
same_shown-equivalence = decided same_shown same_shown-Decides
