-- Which sites are in use, in a list that has a test for each.
use Rattle.std.proofs.Common.{◌≡◌, ℕ, ◌<◌, ◌≤◌, zero, suc, Bool, true, false, cond, eqb, List, length, get_or, set, refl, sym, subst}
use Rattle.std.proofs.Math.ListN.{replicate}
use mathlib.Core.Path.{fun_ext}
use Rattle.std.proofs.lemmas.Bool.{eqb-true, eqb-false}
use Rattle.std.proofs.lemmas.List.{get_or-set_same, get_or-set_other, get_or_past}
use Rattle.world.specs.steps.State.{is_used, no_sites}

none_at : (n site : ℕ) → get_or (replicate n false) site false ≡ false
none_at zero site = refl
none_at (suc n) zero = refl
none_at (suc n) (suc site) = none_at n site

pub nobody_in : (site : ℕ) → is_used no_sites site ≡ false
unfolding no_sites
nobody_in = none_at 257

module _ (used : List Bool) (site : ℕ) where
  set_at : (now : Bool) → site < length used → (other : ℕ) (same : Bool) → eqb site other ≡ same → get_or (set used site now) other false ≡ cond same now (get_or used other false)
  set_at now within other true e = subst (λ k. get_or (set used site now) k false ≡ now) (eqb-true site other e) (get_or-set_same used site now false within)
  set_at now within other false e = get_or-set_other used site other now false (λ f. eqb-false site other e (sym f))

  -- one of them changes
  pub use_set : (now : Bool) → site < length used → is_used (set used site now) ≡ (λ other. cond (eqb site other) now (is_used used other))
  use_set now within = fun_ext (λ other. set_at now within other (eqb site other) refl)

  past_at : length used ≤ site → (other : ℕ) (same : Bool) → eqb site other ≡ same → get_or used other false ≡ cond same false (get_or used other false)
  past_at past other true e = subst (λ k. get_or used k false ≡ false) (eqb-true site other e) (get_or_past used site false past)
  past_at past other false e = refl

  -- a site past the list is in no use
  pub use_past : length used ≤ site → is_used used ≡ (λ other. cond (eqb site other) false (is_used used other))
  use_past past = fun_ext (λ other. past_at past other (eqb site other) refl)
