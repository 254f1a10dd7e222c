-- The place at which the shape of a name stands.
use Rattle.std.proofs.Common.{◌≡◌, ℕ, zero, suc, ◌+◌, arith, Bool, true, false, cond, not, List, [], ◌∷◌, Option, Some, None, refl, ap, ◌∙◌}
use Rattle.std.specs.Prelude.{is_some, length, nat_lt, slice_get}
use Rattle.std.specs.List.{position, position_or_len}
use Rattle.std.specs.Map.{lookup, set_value, keys_of, values_of}
use Rattle.indexmap.specs.IndexMap.{set_value_at}
use Rattle.base_types.specs.Names.{Name}
use Rattle.shape.specs.steps.Objects.{Stored}

pub none_found : (found : Option Stored) → false ≡ is_some found → found ≡ None
none_found None e = refl
none_found (Some d) e = cc

-- a new value leaves the keys as they are
pub keys_stay : (ss : List (Name × Stored)) (i : ℕ) (w : Stored) → keys_of (set_value_at ss i w) ≡ keys_of ss
keys_stay [] i w = refl
keys_stay (s ∷ ss) zero w = refl
keys_stay (s ∷ ss) (suc i) w = ap (λ l. s.0 ∷ l) (keys_stay ss i w)

module _ (t : Name → Bool) where
  -- the first place that passes, or the length
  abbrev place_or_len : List (Name × Stored) → ℕ
  place_or_len ss = position_or_len t (keys_of ss)

  is_place : (ss : List (Name × Stored)) (i : ℕ) → position t (keys_of ss) ≡ Some i → i ≡ place_or_len ss
  is_place ss i e = step (nat_lt (place_or_len ss) (length (keys_of ss))) e
    where
      step : (b : Bool) → cond b (Some (place_or_len ss)) None ≡ Some i → i ≡ place_or_len ss
      step true e = cc
      step false e = cc

  next : (ss : List (Name × Stored)) → 1 + place_or_len ss ≡ suc (place_or_len ss)
  next ss = omega arith

  value_there : (ss : List (Name × Stored)) → slice_get (values_of ss) (place_or_len ss) ≡ lookup t ss
  value_there [] = refl
  value_there (s ∷ ss) = step (t s.0) (value_there ss)
    where
      step : (b : Bool) → slice_get (values_of ss) (place_or_len ss) ≡ lookup t ss → slice_get (s.1 ∷ values_of ss) (cond (not b) (1 + place_or_len ss) 0) ≡ cond b (Some s.1) (lookup t ss)
      step true e = refl
      step false e = ap (slice_get (s.1 ∷ values_of ss)) (next ss) ∙ e

  set_there : (ss : List (Name × Stored)) (w : Stored) → set_value_at ss (place_or_len ss) w ≡ set_value t ss w
  set_there [] w = refl
  set_there (s ∷ ss) w = step (t s.0) (set_there ss w)
    where
      step : (b : Bool) → set_value_at ss (place_or_len ss) w ≡ set_value t ss w → set_value_at (s ∷ ss) (cond (not b) (1 + place_or_len ss) 0) w ≡ cond b ((s.0, w) ∷ ss) (s ∷ set_value t ss w)
      step true e = refl
      step false e = ap (λ place. set_value_at (s ∷ ss) place w) (next ss) ∙ ap (λ l. s ∷ l) e

  -- the value at the name's place is the name's
  pub value_at : (ss : List (Name × Stored)) (i : ℕ) → position t (keys_of ss) ≡ Some i → slice_get (values_of ss) i ≡ lookup t ss
  value_at ss i e = ap (slice_get (values_of ss)) (is_place ss i e) ∙ value_there ss

  -- and a new value there is one of the name
  pub set_at : (ss : List (Name × Stored)) (i : ℕ) (w : Stored) → position t (keys_of ss) ≡ Some i → set_value_at ss i w ≡ set_value t ss w
  set_at ss i w e = ap (λ place. set_value_at ss place w) (is_place ss i e) ∙ set_there ss w
