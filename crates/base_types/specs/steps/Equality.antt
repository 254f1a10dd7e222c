-- Equality of values, of vectors and of identifiers, as tests.
use Rattle.std.specs.Prelude.{◌≡◌, ◌==◌, ℤ, pos, List, [], ℕ, Bool}
use Rattle.std.specs.Bool.{Decides}
use Rattle.std.specs.Cmp.{IsEquivalence, decided, signed_Decides, both_tied, unsigned_ties}
use Rattle.std.proofs.Common.{ap}
use Rattle.std.proofs.lemmas.Slice.Eq.{bytes_eq-Decides}
use Rattle.std.specs.Ordering.{on, eq_of_both, eq_by_cmp, nat_cmp}
use Rattle.std.specs.Cmp.Lexicographic.{pointwise, lists_ties}
use Rattle.base_types.specs.declared.value.Value.{Value}
use Rattle.base_types.specs.declared.value.Value.TheVariants.{Number, Text}
use Rattle.base_types.specs.Values.{same_value}
use Rattle.base_types.specs.Vectors.{Vector}
use Rattle.base_types.specs.Names.{Name, name_cmp, same_name}
use Rattle.base_types.specs.VersionIds.{id_cmp, same_names}

number_in : Value → ℤ
number_in (Number x) = x
number_in (Text x) = pos 0

text_in : Value → List ℕ
text_in (Number x) = []
text_in (Text x) = x

-- the test is equality
pub same_value-Decides : (x y : Value) → Decides (same_value x y) (x ≡ y)
unfolding number_in text_in
same_value-Decides (Number x) (Number y) =
    (λ e. ap Number ((signed_Decides x y).0 e), λ e. (signed_Decides x y).1 (ap number_in e))
same_value-Decides (Text x) (Text y) =
    (λ e. ap Text ((bytes_eq-Decides x y).0 e), λ e. (bytes_eq-Decides x y).1 (ap text_in e))
same_value-Decides (Number x) (Text y) = (λ e. cc, λ e. cc)
same_value-Decides (Text x) (Number y) = (λ e. cc, λ e. cc)

pub same_value-equivalence : IsEquivalence same_value
same_value-equivalence = decided same_value same_value-Decides

-- two vectors hold the same pairs
abbrev pub same_pairs : Vector → Vector → Bool
same_pairs = pointwise (eq_of_both (on (λ pair. pair.0) ◌==◌) (on (λ pair. pair.1) ◌==◌))

-- two names are the same exactly where neither comes before the other
pub same_name-ties : (m n : Name) → same_name m n ≡ eq_by_cmp name_cmp m n
same_name-ties m n =
    both_tied _ _ (nat_cmp m.0 n.0) (nat_cmp m.1 n.1) (unsigned_ties m.0 n.0)
    (unsigned_ties m.1 n.1)

-- and so are two identifiers
pub same_names-ties : (ms ns : List Name) → same_names ms ns ≡ eq_by_cmp id_cmp ms ns
same_names-ties = lists_ties name_cmp same_name-ties
