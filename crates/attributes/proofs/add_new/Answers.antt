use Rattle.std.proofs.Common.{rules, ◌≡◌, ℕ, ◌<◌, false, true, cond, List, length, sym, ap, ◌∙◌, subst}
use Rattle.std.specs.Prelude.{slice_index_or}
use Rattle.std.specs.List.{insert, list_any}
use Rattle.std.specs.declared.cmp.Ordering.TheVariants.{Equal}
use Rattle.std.proofs.lemmas.Bool.{false_from_ne_true}
use Rattle.std.proofs.lemmas.Cmp.{lists_total, nat_cmp_total}
use Rattle.std.proofs.lemmas.List.Elements.{All-contains_itself}
use Rattle.std.proofs.lemmas.Fn.{always_returns_same}
use Rattle.std.proofs.lemmas.List.Sorted.{searchable_from_sorted}
use Rattle.std.proofs.lemmas.Slice.Eq.{bytes_eq-Decides}
use Rattle.rules.specs.AttrLists.{Attr, same_key}
use Rattle.rules.specs.Lists.{insert_by}
use Rattle.rules.specs.Versions.{key_cmp}
use Rattle.rules.proofs.Lists.{In-from_Contains, any_back, any_from}
use Rattle.rules.proofs.Reordered.{key_cmp_total, one_key}
use Rattle.attributes.proofs.Searched.{IsPlaceFor, inserted, inserted_sorted, itself, ties_with_none}
use Rattle.attributes.proofs.add_new.Goals as goal

-- the place that the search gives
place_is : (c : goal.In_ok-insert_copy) → IsPlaceFor key_cmp key_cmp_total (c.args.key.now, c.args.value.now) c.args.pairs.now.items c.in-Err.place
place_is c =
    let attr : Attr = (c.args.key.now, c.args.value.now) in
    let found : List Attr = c.deref.result.now in
    let rises = searchable_from_sorted (lists_total nat_cmp_total) (λ (pair : Attr). pair.0) found c.args.key.now (rw c.deref.ensures.value c.requires) in
    let parts = c.in-Err.ensures.position (λ pair. key_cmp pair attr) (always_returns_same _ _ _ (λ a r g called. search rules)) rises in
    subst (λ (l : List Attr). IsPlaceFor key_cmp key_cmp_total attr l c.in-Err.place) c.deref.ensures.value (record { within = c.in-Err.ensures.bound; less = parts.0; greater = parts.1 })

put_in : (c : goal.In_ok-insert_copy) → c.insert_copy.new.pairs.items ≡ insert c.args.pairs.now.items c.in-Err.place (c.args.key.now, c.args.value.now)
put_in c = c.in_ok-insert_copy.ensures

pub returns-in_ok-insert_copy-clause-pairs : goal.returns-in_ok-insert_copy-clause-pairs
returns-in_ok-insert_copy-clause-pairs c =
    let attr : Attr = (c.args.key.now, c.args.value.now) in
    let pairs : List Attr = c.args.pairs.now.items in
    let place = place_is c in
    let none : list_any (same_key attr) pairs ≡ false = false_from_ne_true (list_any (same_key attr) pairs) (λ t.
    let other = any_back (same_key attr) pairs t in
    let same : attr.0 ≡ other.0.0 = (bytes_eq-Decides attr.0 other.0.0).0 other.2 in
    ties_with_none key_cmp key_cmp_total attr pairs c.in-Err.place place other.0 other.1
    (subst (λ k. key_cmp (k, other.0.1) attr ≡ Equal) same (itself key_cmp key_cmp_total attr))) in
    put_in c ∙ inserted key_cmp key_cmp_total attr pairs c.in-Err.place place ∙ ap (λ b. cond b pairs (insert_by key_cmp attr pairs)) (sym none)

pub returns-in_ok-insert_copy-clause-sorted : goal.returns-in_ok-insert_copy-clause-sorted
returns-in_ok-insert_copy-clause-sorted c =
    rw (put_in c) (inserted_sorted key_cmp key_cmp_total (c.args.key.now, c.args.value.now) c.args.pairs.now.items c.in-Err.place (place_is c) c.requires)

pub returns-in_default-clause-pairs : goal.returns-in_default-clause-pairs
returns-in_default-clause-pairs c =
    let attr : Attr = (c.args.key.now, c.args.value.now) in
    let pairs : List Attr = c.args.pairs.now.items in
    let place : ℕ = c.in_default.field-0 in
    let there : place < length pairs = subst (λ (l : List Attr). place < length l) c.deref.ensures.value c.in_default.ensures.bound in
    let ties = c.in_default.ensures.position (λ pair. key_cmp pair attr) (always_returns_same _ _ _ (λ a r g called. search rules)) attr in
    let other : Attr = slice_index_or pairs place attr in
    let same : attr.0 ≡ other.0 = sym (one_key other attr (subst (λ (l : List Attr). key_cmp (slice_index_or l place attr) attr ≡ Equal) c.deref.ensures.value ties)) in
    let known : list_any (same_key attr) pairs ≡ true =
    any_from (same_key attr) other pairs (In-from_Contains other pairs (All-contains_itself pairs place attr there)) ((bytes_eq-Decides attr.0 other.0).1 same) in
    ap (λ b. cond b pairs (insert_by key_cmp attr pairs)) (sym known)
