-- The readers of the parts are exact.
use Rattle.std.proofs.Common.{◌≡◌, ℕ, ◌^◌, ◌-◌, List, [], ◌∷◌, Bool, true, false, cond, leb, Option, Some, None, refl, subst, arith, ◌&&◌}
use Rattle.std.specs.Prelude.{not, is_none}
use Rattle.std.specs.List.{AllByRecursion}
use Rattle.std.specs.Option.{option_or}
use Rattle.std.proofs.lemmas.Option.{cond_some}
use Rattle.std.proofs.lemmas.Bool.Decides.{nat_tests}
use Rattle.base_types.specs.declared.op_name.TheConstants.{MAX_SITE, MAX_SEQ}
use Rattle.rules.specs.declared.limits.TheConstants.Limits.{MAX_ENTRIES}
use Rattle.wire.specs.declared.request.TheConstants.{MAX_FROM}
use Rattle.serde_json.specs.Data.{Data, null, boolean, number, string, array, object}
use Rattle.base_types.specs.Names.{is_op_name, is_site, is_seq}
use Rattle.base_types.specs.VersionIds.{names_rise}
use Rattle.base_types.specs.Texts.{is_key, is_kind, is_value_text}
use Rattle.base_types.specs.RoomNames.{is_room_name}
use Rattle.base_types.specs.declared.value.Value.{Value}
use Rattle.base_types.specs.declared.value.Value.TheVariants.{Number, Text}
use Rattle.base_types.specs.Vectors.{is_vector, vector_fault, fault_after, pair_fault}
use Rattle.base_types.specs.declared.state_vector.VectorFault.{VectorFault}
use Rattle.base_types.specs.declared.state_vector.VectorFault.TheVariants.{OutOfRange}
use Rattle.rules.specs.AttrLists.{Attr, are_attrs, are_pairs}
use Rattle.wire.specs.Form.{whole_form, name_form, names_form, value_form, attr_form, attrs_form, is_from, is_at, IsValue, IsAttr, IsId, AreAttrs, ArePairs}
use Rattle.wire_reader.specs.steps.Reading.{◌>>=◌, whole_in, pair_in, name_in, room_in, seen_in, id_in, key_in, kind_in, value_in, attr_in, attrs_in, pairs_in, integer_in}
use Rattle.wire_reader.specs.steps.Replies.{at_in}
use Rattle.wire_reader.proofs.Exact.{IsExact, exact_by, bind_some, some_is, exact_list, exact_passing, exact_two, exact_text_where, exact_whole, exact_integer}

-- ---- numbers

pub exact_seq : IsExact ℕ (whole_in 1 MAX_SEQ) whole_form (λ n. is_seq n ≡ true)
exact_seq = exact_whole 1 MAX_SEQ

pub exact_site : IsExact ℕ (whole_in 1 MAX_SITE) whole_form (λ n. is_site n ≡ true)
exact_site = exact_whole 1 MAX_SITE

pub exact_count : IsExact ℕ (whole_in 0 MAX_ENTRIES) whole_form (λ n. is_at n ≡ true)
exact_count = exact_by (exact_whole 0 MAX_ENTRIES) (λ n fit. grind (arith, nat_tests)) (λ n fit. grind (arith, nat_tests))

pub exact_at : IsExact ℕ at_in whole_form (λ n. is_at n ≡ true)
unfolding at_in
exact_at = exact_count

pub exact_from : IsExact ℕ (whole_in 0 MAX_FROM) whole_form (λ n. is_from n ≡ true)
exact_from = exact_by (exact_whole 0 MAX_FROM) (λ n fit. grind (arith, nat_tests)) (λ n fit. grind (arith, nat_tests))

-- ---- names and vectors

-- a u32, as a test
abbrev IsWhole : ℕ → Type 0
IsWhole n = (leb 0 n && leb n (2 ^ 32 - 1)) ≡ true

exact_pair : IsExact (ℕ × ℕ) pair_in name_form (λ p. IsWhole p.0 × IsWhole p.1)
unfolding pair_in
exact_pair = exact_two (exact_whole 0 (2 ^ 32 - 1)) (exact_whole 0 (2 ^ 32 - 1))

name_fits : (n : ℕ × ℕ) → is_op_name n ≡ true → IsWhole n.0 × IsWhole n.1
name_fits n h = grind (arith, nat_tests)

none_first : (b : Bool) (fault : VectorFault) (o : Option VectorFault) → is_none (cond b (Some fault) o) ≡ true → b ≡ false
none_first true fault o h = absurd cc
none_first false fault o h = refl

none_both : (first others : Option VectorFault) → is_none (option_or first others) ≡ true → (is_none first ≡ true) × (is_none others ≡ true)
none_both None others h = (refl, h)
none_both (Some fault) others h = absurd cc

pair_fits : (p : ℕ × ℕ) → not (is_site p.0 && leb p.1 MAX_SEQ) ≡ false → IsWhole p.0 × IsWhole p.1
pair_fits p h = grind (arith, nat_tests)

fits_after : (last : ℕ) (ps : List (ℕ × ℕ)) → is_none (fault_after last ps) ≡ true → AllByRecursion (λ p. IsWhole p.0 × IsWhole p.1) ps
fits_after last [] h = tt
fits_after last (p ∷ ps) h =
    let a = none_both (pair_fault last p) (fault_after p.0 ps) h in
    (pair_fits p (none_first (not (is_site p.0 && leb p.1 MAX_SEQ)) OutOfRange _ a.0), fits_after p.0 ps a.1)

-- the sites and counts of a vector are u32
seen_fits : (ps : List (ℕ × ℕ)) → is_vector ps ≡ true → AllByRecursion (λ p. IsWhole p.0 × IsWhole p.1) ps
unfolding vector_fault
seen_fits ps h = fits_after 0 ps h

pub exact_name : IsExact (ℕ × ℕ) name_in name_form (λ n. is_op_name n ≡ true)
unfolding name_in
exact_name = exact_by (exact_passing is_op_name exact_pair) (λ n fit. fit.1) (λ n fit. (name_fits n fit, fit))

pub exact_seen : IsExact (List (ℕ × ℕ)) seen_in names_form (λ ps. is_vector ps ≡ true)
unfolding seen_in
exact_seen = exact_by (exact_passing is_vector (exact_list exact_pair)) (λ ps fit. fit.1) (λ ps fit. (seen_fits ps fit, fit))

pub exact_id : IsExact (List (ℕ × ℕ)) id_in names_form IsId
unfolding id_in
exact_id = exact_passing names_rise (exact_list exact_name)

-- ---- texts, values and attributes

pub exact_room : IsExact (List ℕ) room_in string (λ s. is_room_name s ≡ true)
unfolding room_in
exact_room = exact_text_where is_room_name

pub exact_key : IsExact (List ℕ) key_in string (λ s. is_key s ≡ true)
unfolding key_in
exact_key = exact_text_where is_key

pub exact_kind : IsExact (List ℕ) kind_in string (λ s. is_kind s ≡ true)
unfolding kind_in
exact_kind = exact_text_where is_kind

number_takes : (d : Data) (v : Value) → (integer_in d >>= λ z. Some (Number z)) ≡ Some v → IsValue v × (d ≡ value_form v)
number_takes d v e =
    let a = bind_some (integer_in d) (λ z. Some (Number z)) v e in
    subst (λ (w : Value). IsValue w × (d ≡ value_form w)) (some_is (Number a.0) v a.2) (exact_integer.takes d a.0 a.1)

value_takes : (d : Data) (v : Value) → value_in d ≡ Some v → IsValue v × (d ≡ value_form v)
unfolding value_in
value_takes null v e = number_takes null v e
value_takes (boolean b) v e = number_takes (boolean b) v e
value_takes (number n) v e = number_takes (number n) v e
value_takes (string s) v e =
    let a = cond_some (is_value_text s) (Text s) v e in
    subst (λ (w : Value). IsValue w × (string s ≡ value_form w)) a.1 (a.0, refl)
value_takes (array is) v e = number_takes (array is) v e
value_takes (object ms) v e = number_takes (object ms) v e

value_again : (v : Value) → IsValue v → value_in (value_form v) ≡ Some v
unfolding value_in
value_again (Number z) fit = rw (exact_integer.again z fit) refl
value_again (Text s) fit = rw fit refl

pub exact_value : IsExact Value value_in value_form IsValue
exact_value = record { takes = value_takes; again = value_again }

pub exact_attr : IsExact Attr attr_in attr_form IsAttr
unfolding attr_in
exact_attr = exact_two exact_key exact_value

pub exact_attrs : IsExact (List Attr) attrs_in attrs_form AreAttrs
unfolding attrs_in
exact_attrs = exact_passing are_attrs (exact_list exact_attr)

pub exact_pairs : IsExact (List Attr) pairs_in attrs_form ArePairs
unfolding pairs_in
exact_pairs = exact_passing are_pairs (exact_list exact_attr)
