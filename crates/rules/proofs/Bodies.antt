-- When two changes are at odds: it goes both ways, and puts that aren't give each key one value.
use Rattle.std.proofs.Common.{◌≡◌, Bool, true, false, List, map, refl, sym, ap, ◌∙◌, subst, Option, Some, None, not, ◌↔◌}
use Rattle.std.specs.Prelude.{find, option_map, bytes_eq, is_some}
use Rattle.std.proofs.lemmas.Bool.{true≢false, false_from_ne_true, not_from_true, not_from_false, not-false, or_from}
use Rattle.std.proofs.lemmas.Slice.Eq.{bytes_eq-Decides}
use Rattle.base_types.specs.Texts.{Bytes}
use Rattle.base_types.specs.Values.{same_value}
use Rattle.base_types.specs.steps.Equality.{same_value-Decides}
use Rattle.base_types.specs.declared.value.Value.{Value}
use Rattle.rules.specs.AttrLists.{Attr, value_at, are_different}
use Rattle.rules.specs.declared.history.Body.{Body}
use Rattle.rules.specs.declared.history.Body.TheVariants.{New, Put, DropVersion}
use Rattle.rules.specs.Bodies.{is_put_body, is_drop_body, pairs_of_body, value_of_body, differ_on_a_key, is_one_a_drop, are_at_odds}
use Rattle.rules.proofs.Lists.{In, In-map, In-map_back, any_from, any_back, find_is}

-- ---- values

different_back : (x y : Option Value) → are_different x y ≡ true → are_different y x ≡ true
different_back None y e = absurd (true≢false (sym e))
different_back (Some x) None e = absurd (true≢false (sym e))
different_back (Some x) (Some y) e = elim_same (same_value y x) refl
  where
    elim_same : (b : Bool) → same_value y x ≡ b → not (same_value y x) ≡ true
    elim_same false f = ap not f
    elim_same true f =
        let g : same_value x y ≡ true = (same_value-Decides x y).1 (sym ((same_value-Decides y x).0 f)) in
        absurd (true≢false (sym e ∙ ap not g))

different_self : (x : Option Value) → are_different x x ≡ false
different_self None = refl
different_self (Some x) = not_from_true (same_value x x) ((same_value-Decides x x).1 refl)

second_there : (x y : Option Value) → are_different x y ≡ true → is_some y ≡ true
second_there x (Some y) e = refl
second_there None None e = absurd (true≢false (sym e))
second_there (Some x) None e = absurd (true≢false (sym e))

-- two values that are there and not different are one
pub same_if_not_different : (x y : Option Value) → is_some x ≡ true → is_some y ≡ true → are_different x y ≡ false → x ≡ y
same_if_not_different None y p q d = absurd (true≢false (sym p))
same_if_not_different (Some x) None p q d = absurd (true≢false (sym q))
same_if_not_different (Some x) (Some y) p q d = ap Some ((same_value-Decides x y).0 (not-false (same_value x y) d))

-- a key that has a value in a list is one of its keys
pub key_there : (key : Bytes) (attrs : List Attr) → is_some (value_at key attrs) ≡ true → In key (map (λ attr. attr.0) attrs)
key_there key attrs e = go (find is_key attrs) refl e
  where
    is_key : Attr → Bool
    is_key attr = bytes_eq attr.0 key

    go : (r : Option Attr) → find (λ (attr : Attr). bytes_eq attr.0 key) attrs ≡ r → is_some (option_map (λ (attr : Attr). attr.1) r) ≡ true → In key (map (λ attr. attr.0) attrs)
    go None f t = absurd (true≢false (sym t))
    go (Some attr) f t =
        let c = find_is (λ (attr : Attr). bytes_eq attr.0 key) attr attrs f in
        subst (λ (k : Bytes). In k (map (λ (attr : Attr). attr.0) attrs)) ((bytes_eq-Decides attr.0 key).0 c.1) (In-map (λ (attr : Attr). attr.0) attr attrs c.0)

-- ---- puts

first_there : (x y : Option Value) → are_different x y ≡ true → is_some x ≡ true
first_there x y e = second_there y x (different_back x y e)

-- two puts that give a key different values differ on a key
pub differ_if : (key : Bytes) (b c : Body) → are_different (value_of_body key b) (value_of_body key c) ≡ true → differ_on_a_key b c ≡ true
differ_if key b c e =
    let test : Attr → Bool = λ attr. are_different (value_of_body attr.0 b) (value_of_body attr.0 c) in
    let d = In-map_back (λ (attr : Attr). attr.0) key (pairs_of_body b) (key_there key (pairs_of_body b) (first_there (value_of_body key b) (value_of_body key c) e)) in
    any_from test d.0 (pairs_of_body b) d.1 (subst (λ (k : Bytes). are_different (value_of_body k b) (value_of_body k c) ≡ true) d.2 e)

-- and the other way round
pub differ_back : (b c : Body) → differ_on_a_key b c ≡ true → (key : Bytes) × (are_different (value_of_body key b) (value_of_body key c) ≡ true)
differ_back b c e = let d = any_back (λ (attr : Attr). are_different (value_of_body attr.0 b) (value_of_body attr.0 c)) (pairs_of_body b) e in (d.0.0, d.2)

pub differ_turned : (b c : Body) → differ_on_a_key b c ≡ true → differ_on_a_key c b ≡ true
differ_turned b c e = let d = differ_back b c e in differ_if d.0 c b (different_back (value_of_body d.0 b) (value_of_body d.0 c) d.1)

pub differ_self : (b : Body) → differ_on_a_key b b ≡ false
differ_self b = false_from_ne_true (differ_on_a_key b b) (λ e. let d = differ_back b b e in true≢false (sym d.1 ∙ different_self (value_of_body d.0 b)))

-- two values that are there and different, as different values
record Differing (b c : Option Value) : Type 0 where
  first : Value
  second : Value
  first_is : b ≡ Some first
  second_is : c ≡ Some second
  apart : first ≡ second → ⊥

differing : (x y : Option Value) → are_different x y ≡ true → Differing x y
differing None y e = absurd (true≢false (sym e))
differing (Some x) None e = absurd (true≢false (sym e))
differing (Some x) (Some y) e = record {
  first = x;
  second = y;
  first_is = refl;
  second_is = refl;
  apart = λ f. true≢false (sym e ∙ not_from_true (same_value x y) ((same_value-Decides x y).1 f));
}

different_if : (x y : Value) → (x ≡ y → ⊥) → are_different (Some x) (Some y) ≡ true
different_if x y d = not_from_false (same_value x y) (false_from_ne_true (same_value x y) (λ e. d ((same_value-Decides x y).0 e)))

-- two puts differ on a key exactly where they give one key different values
pub differ_is : (b c : Body) → (differ_on_a_key b c ≡ true) ↔ ((key : Bytes) × (x : Value) × (y : Value) × (value_of_body key b ≡ Some x) × (value_of_body key c ≡ Some y) × (x ≡ y → ⊥))
differ_is b c = (
  (λ e. let d = differ_back b c e in let w = differing (value_of_body d.0 b) (value_of_body d.0 c) d.1 in (d.0, w.first, w.second, w.first_is, w.second_is, w.apart)),
  (λ w. differ_if w.0 b c ((λ i. are_different (w.3 i) (w.4 i)) ∙ different_if w.1 w.2 w.5)),
)

-- two puts of one key that don't differ on one give it one value
pub one_value : (key : Bytes) (b c : Body) → is_some (value_of_body key b) ≡ true → is_some (value_of_body key c) ≡ true → differ_on_a_key b c ≡ false → value_of_body key b ≡ value_of_body key c
one_value key b c p q d =
    same_if_not_different (value_of_body key b) (value_of_body key c) p q (false_from_ne_true _ (λ t. true≢false (sym (differ_if key b c t) ∙ d)))

-- ---- drops

pub one_a_drop_turned : (b c : Body) → is_one_a_drop b c ≡ is_one_a_drop c b
one_a_drop_turned (New m a) (New n b) = refl
one_a_drop_turned (New m a) (Put o v p) = refl
one_a_drop_turned (New m a) (DropVersion o v) = refl
one_a_drop_turned (Put o v p) (New m a) = refl
one_a_drop_turned (Put o v p) (Put q w r) = refl
one_a_drop_turned (Put o v p) (DropVersion q w) = refl
one_a_drop_turned (DropVersion o v) (New m a) = refl
one_a_drop_turned (DropVersion o v) (Put q w r) = refl
one_a_drop_turned (DropVersion o v) (DropVersion q w) = refl

one_a_drop_self : (b : Body) → is_one_a_drop b b ≡ false
one_a_drop_self (New m a) = refl
one_a_drop_self (Put o v p) = refl
one_a_drop_self (DropVersion o v) = refl

-- a put and a drop are at odds
pub put_and_drop : (b c : Body) → is_put_body b ≡ true → is_drop_body c ≡ true → is_one_a_drop b c ≡ true
put_and_drop (New m a) c p q = absurd (true≢false (sym p))
put_and_drop (DropVersion o v) c p q = absurd (true≢false (sym p))
put_and_drop (Put o v p) (New m a) s q = absurd (true≢false (sym q))
put_and_drop (Put o v p) (Put w x y) s q = absurd (true≢false (sym q))
put_and_drop (Put o v p) (DropVersion w x) s q = refl

-- and two drops aren't
pub two_drops : (b c : Body) → is_drop_body b ≡ true → is_drop_body c ≡ true → are_at_odds b c ≡ false
two_drops (New m a) c p q = absurd (true≢false (sym p))
two_drops (Put o v r) c p q = absurd (true≢false (sym p))
two_drops (DropVersion o v) (New m a) p q = absurd (true≢false (sym q))
two_drops (DropVersion o v) (Put w x y) p q = absurd (true≢false (sym q))
two_drops (DropVersion o v) (DropVersion w x) p q = refl

-- nothing is at odds with itself
pub at_odds_self : (b : Body) → are_at_odds b b ≡ false
at_odds_self b = or_from (differ_on_a_key b b) (is_one_a_drop b b) (differ_self b) (one_a_drop_self b)

-- and nothing with a creation
differ_from_none : (b : Body) (kind : Bytes) (attrs : List Attr) → differ_on_a_key b (New kind attrs) ≡ false
differ_from_none b kind attrs = false_from_ne_true _ (λ e.
    let d = differ_back b (New kind attrs) e in
    true≢false (sym (second_there (value_of_body d.0 b) None d.1)))

pub at_odds_with_new : (b : Body) (kind : Bytes) (attrs : List Attr) → are_at_odds b (New kind attrs) ≡ false
at_odds_with_new b kind attrs = or_from (differ_on_a_key b (New kind attrs)) (is_one_a_drop b (New kind attrs)) (differ_from_none b kind attrs) (one_a_drop_turned b (New kind attrs) ∙ beside b)
  where
    beside : (b : Body) → is_one_a_drop (New kind attrs) b ≡ false
    beside (New m a) = refl
    beside (Put o v p) = refl
    beside (DropVersion o v) = refl
