-- Equality of drawings, as a test.
use Rattle.std.specs.Prelude.{◌≡◌, Bool, true, false, ◌&&◌, List, bytes_eq}
use Rattle.std.specs.Bool.{Decides}
use Rattle.std.specs.Cmp.{IsEquivalence, decided}
use Rattle.std.specs.Cmp.Lexicographic.{pointwise}
use Rattle.std.proofs.Common.{ap, refl, ◌∙◌}
use Rattle.std.proofs.lemmas.Slice.Eq.{bytes_eq-Decides, slice_eq-Decides}
use Rattle.base_types.specs.Values.{same_value}
use Rattle.base_types.specs.steps.Equality.{same_value-Decides}
use Rattle.rules.specs.AttrLists.{Attr}
use Rattle.rules.specs.steps.AttrLists.{same_attrs}
use Rattle.renewal.specs.Drawn.{Drawn}

-- two facts decided together decide what they make
both_decide : {P Q R : Type 0} (a b : Bool) → Decides a P → Decides b Q → (P → Q → R) → (R → P × Q)
    → Decides (a && b) R
both_decide true b p q make split = (λ e. make (p.0 refl) (q.0 e), λ r. q.1 (split r).1)
both_decide false b p q make split = (λ e. cc, λ r. p.1 (split r).0)

pair_is : {A B : Type 0} (a b : A × B) → a.0 ≡ b.0 → a.1 ≡ b.1 → a ≡ b
pair_is a b first second = ap (λ x. (x, a.1)) first ∙ ap (λ y. (b.0, y)) second

same_attr-Decides : (a b : Attr) → Decides (bytes_eq a.0 b.0 && same_value a.1 b.1) (a ≡ b)
same_attr-Decides a b =
    both_decide _ _ (bytes_eq-Decides a.0 b.0) (same_value-Decides a.1 b.1) (pair_is a b)
    (λ e. (ap (λ p. p.0) e, ap (λ p. p.1) e))

same_attrs-Decides : (a b : List Attr) → Decides (same_attrs a b) (a ≡ b)
same_attrs-Decides a b = slice_eq-Decides same_attr-Decides a b _ refl

-- the versions of two objects have the same attributes
abbrev pub same_version_attrs : List (List Attr) → List (List Attr) → Bool
same_version_attrs = pointwise same_attrs

same_version_attrs-Decides : (a b : List (List Attr)) → Decides (same_version_attrs a b) (a ≡ b)
same_version_attrs-Decides a b = slice_eq-Decides same_attrs-Decides a b _ refl

-- two objects are drawn alike
abbrev pub same_picture : Drawn → Drawn → Bool
same_picture a b = bytes_eq a.0 b.0 && same_version_attrs a.1 b.1

pub same_picture-Decides : (a b : Drawn) → Decides (same_picture a b) (a ≡ b)
same_picture-Decides a b =
    both_decide _ _ (bytes_eq-Decides a.0 b.0) (same_version_attrs-Decides a.1 b.1) (pair_is a b)
    (λ e. (ap (λ p. p.0) e, ap (λ p. p.1) e))

pub same_picture-equivalence : IsEquivalence same_picture
same_picture-equivalence = decided same_picture same_picture-Decides

-- two drawings are equal
abbrev pub same_drawing : List Drawn → List Drawn → Bool
same_drawing = pointwise same_picture

pub same_drawing-Decides : (a b : List Drawn) → Decides (same_drawing a b) (a ≡ b)
same_drawing-Decides a b = slice_eq-Decides same_picture-Decides a b _ refl
