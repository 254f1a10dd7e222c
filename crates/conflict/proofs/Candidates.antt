-- Which changes are left to be compared with one that is to be added.
use Rattle.std.proofs.Common.{◌≡◌, ℕ, ◌<◌, Bool, true, false, ◌||◌, List, [], ◌∷◌, refl, sym, ap, ◌∙◌, inl, inr, get_or}
use Rattle.std.specs.Prelude.{filter, not, bytes_eq, is_some, All}
use Rattle.std.specs.List.Sorted.{IsStrictlyIncreasing}
use Rattle.std.proofs.lemmas.List.Elements.{Contains-get_or}
use Rattle.places.proofs.Rising.{among_places}
use Rattle.std.specs.List.{list_any}
use Rattle.std.proofs.lemmas.Bool.{true≢false, cases_Bool, or_cases, or_left, or_right}
use Rattle.base_types.specs.Names.{Name}
use Rattle.base_types.specs.Texts.{Bytes}
use Rattle.rules.specs.declared.history.Body.{Body}
use Rattle.rules.specs.declared.history.Body.TheVariants.{New, Put, DropVersion}
use Rattle.rules.specs.AttrLists.{Attr}
use Rattle.rules.specs.Bodies.{are_at_odds, differ_on_a_key, is_drop_body, is_one_a_drop, keys_of_body, pairs_of_body}
use Rattle.rules.proofs.Bodies.{differ_is, key_there}
use Rattle.rules.proofs.Lists.{In-from_Contains, In-filter_back, In-map_back, any_from, filter_inner}
use Rattle.rules.proofs.Reordered.{same_key_itself}
use Rattle.places.specs.steps.PlaceSet.{has, places}
use Rattle.changes_by_key.specs.steps.Indexes.{body_gives}
use Rattle.places.specs.steps.PlaceSet.{AreBelow}
use Rattle.places.proofs.Filters.{filter_none}
use Rattle.places.proofs.Places.{has_if_in, below}
use Rattle.conflict_rows.specs.steps.Rows.{places_outside}

-- what is at odds with a put is a drop, or gives one of its keys a value
pub at_odds_found : (object : Name) (version : List Name) (pairs : List Attr) (body : Body) → are_at_odds (Put object version pairs) body ≡ true → (is_drop_body body || list_any (λ pair. body_gives pair.0 body) pairs) ≡ true
at_odds_found object version pairs body e = elim (or_cases (differ_on_a_key (Put object version pairs) body) (is_one_a_drop (Put object version pairs) body) e) [
  | inl d ↦
      (let f = (differ_is (Put object version pairs) body).0 d in
      let pair = In-map_back (λ (attr : Attr). attr.0) f.0 pairs (key_there f.0 pairs (ap is_some f.3)) in
      let given : body_gives f.0 body ≡ true = any_from (bytes_eq f.0) f.0 (keys_of_body body) (key_there f.0 (pairs_of_body body) (ap is_some f.4)) (same_key_itself f.0) in
      or_right (is_drop_body body) (list_any (λ (attr : Attr). body_gives attr.0 body) pairs) (any_from (λ (attr : Attr). body_gives attr.0 body) pair.0 pairs pair.1 (ap (λ c. body_gives c body) (sym pair.2) ∙ given)))
  | inr d ↦ or_left (is_drop_body body) (list_any (λ (attr : Attr). body_gives attr.0 body) pairs) (one_is object version pairs body d)
]
  where
    one_is : (object : Name) (version : List Name) (pairs : List Attr) (body : Body) → is_one_a_drop (Put object version pairs) body ≡ true → is_drop_body body ≡ true
    one_is object version pairs (New kind attrs) e = absurd (true≢false (sym e))
    one_is object version pairs (Put other_object other_version other_pairs) e = absurd (true≢false (sym e))
    one_is object version pairs (DropVersion other_object other_version) e = refl

pub all_within : (n : ℕ) (xs : List ℕ) → AreBelow n xs → All (λ x. x < n) xs
all_within n xs low k d l = low (get_or xs k d) (has_if_in xs (get_or xs k d) (In-from_Contains (get_or xs k d) xs (Contains-get_or xs k d l)))

filter_turned : (p q : ℕ → Bool) (xs : List ℕ) → filter p (filter q xs) ≡ filter q (filter p xs)
filter_turned p q [] = refl
filter_turned p q (x ∷ xs) = elim (cases_Bool (p x)) [
  | inl a ↦ elim (cases_Bool (q x)) [ inl b ↦ rw (a, b, a) (ap (λ l. x ∷ l) (filter_turned p q xs)) | inr b ↦ rw (a, b) (filter_turned p q xs) ]
  | inr a ↦ elim (cases_Bool (q x)) [ inl b ↦ rw (b, a) (filter_turned p q xs) | inr b ↦ rw (a, b) (filter_turned p q xs) ]
]

-- where all that are at odds are found, those found outside some places are all outside them
pub candidates_same : (n : ℕ) (at_odds : ℕ → Bool) (found known candidates : List ℕ) → IsStrictlyIncreasing found → AreBelow n found
    → ((p : ℕ) → p < n → at_odds p ≡ true → has found p ≡ true) → candidates ≡ filter (λ p. not (has known p)) found
    → filter at_odds candidates ≡ filter at_odds (places_outside known n)
candidates_same n at_odds found known candidates up low all r =
    let outside : ℕ → Bool = λ p. not (has known p) in
    let among : found ≡ filter (has found) (places n) = sym (among_places n found up (all_within n found low)) in
    ap (filter at_odds) (r ∙ ap (filter outside) among)
    ∙ ap (filter at_odds) (filter_turned outside (has found) (places n))
    ∙ filter_inner at_odds (has found) (filter outside (places n)) (λ x m t. all x (below n x (In-filter_back outside x (places n) m).0) t)

-- a creation is at odds with nothing
pub new_at_odds : (kind : Bytes) (attrs : List Attr) (body : Body) → are_at_odds (New kind attrs) body ≡ false
new_at_odds kind attrs (New m a) = refl
new_at_odds kind attrs (Put o v p) = refl
new_at_odds kind attrs (DropVersion o v) = refl

-- where all places are known, there are no others
pub none_outside : (n : ℕ) → places_outside (places n) n ≡ []
none_outside n = filter_none (λ x. not (has (places n) x)) (places n) (λ x m. ap not (has_if_in (places n) x m))
