-- What is at the places of a shelf.
use Rattle.std.proofs.Common.{◌≡◌, ◌≢◌, ℕ, zero, suc, ◌+◌, ◌-◌, ◌<◌, ◌≤◌, Bool, true, false, cond, List, [], ◌∷◌, ◌++◌, length, get_or, set, Option, Some, None, refl, sym, ap, ◌∙◌, subst, arith, append-nil}
use Rattle.std.specs.Prelude.{nat_le}
use Rattle.std.proofs.lemmas.Bool.{eqb-true, eqb-false, leb-true, le-leb, and_from, and_parts}
use Rattle.std.proofs.lemmas.List.FromFn.{get_or-map-range_with_len, length-map-range_with_len}
use Rattle.std.proofs.lemmas.List.{get_or-set_same, get_or-set_other, length-set, length-append}
use mathlib.Core.List.{IsPrefix}
use Rattle.rules.specs.declared.history.Entry.{Entry}
use Rattle.rules.specs.Records.{sites}
use Rattle.shared_history.proofs.Prefixes.{prefix_trans}
use Rattle.openings.specs.Openings.{OpeningView}
use Rattle.room_lock.specs.Passes.{PartView}
use Rattle.room_lock.specs.Shelves.{Shelf, IsPartFor, IsShelfOf, part_of}
use Rattle.room_lock.specs.steps.Shelves.{full_shelf, whole_part, with_at}

-- ---- what is at a place

-- past the last place there is nothing
past_last : (shelf : Shelf) (k : ℕ) → length shelf ≤ k → get_or shelf k None ≡ None
past_last [] k le = refl
past_last (x ∷ xs) zero le = absurd (omega arith)
past_last (x ∷ xs) (suc k) le = past_last xs k (omega arith)

-- a part stands at the place of a site that has one
pub within : (shelf : Shelf) (site : ℕ) (part : PartView) → part_of shelf site ≡ Some part → (1 ≤ site) × (site ≤ length shelf)
within shelf zero part is = absurd cc
within shelf (suc k) part is = go (nat_le (length shelf) k) refl
  where
    go : (b : Bool) → nat_le (length shelf) k ≡ b → (1 ≤ suc k) × (suc k ≤ length shelf)
    go true e = absurd (let none : None ≡ Some part = sym (past_last shelf k (leb-true (length shelf) k e)) ∙ is in cc)
    go false e = (omega arith, omega (arith, Rattle.std.proofs.lemmas.Bool.leb-false (length shelf) k e))

pub same_length : (shelf : Shelf) (site : ℕ) (part : Option PartView) → length (with_at shelf site part) ≡ length shelf
same_length shelf zero part = refl
same_length shelf (suc k) part = length-set shelf k part

-- what was put at a site's place is there
at_same : (shelf : Shelf) (k : ℕ) (part : Option PartView) (found : PartView) → part_of (set shelf k part) (suc k) ≡ Some found → part ≡ Some found
at_same shelf k part found is =
    let w = within (set shelf k part) (suc k) found is in
    let there : k < length shelf = omega (arith, w.1, length-set shelf k part) in
    sym (get_or-set_same shelf k part None there) ∙ is

-- each other place has what it had
pub part_with : (shelf : Shelf) (site other : ℕ) (part : Option PartView) (found : PartView) → part_of (with_at shelf site part) other ≡ Some found
    → (b : Bool) → Rattle.std.proofs.Common.eqb site other ≡ b → (cond b part (part_of shelf other)) ≡ Some found
part_with shelf zero other part found is true e = absurd (let zero_is : 0 ≡ other = eqb-true 0 other e in let none : part_of shelf other ≡ None = ap (part_of shelf) (sym zero_is) in cc (is, none))
part_with shelf zero other part found is false e = is
part_with shelf (suc k) zero part found is b e = absurd cc
part_with shelf (suc k) (suc j) part found is true e =
    let same : suc k ≡ suc j = eqb-true (suc k) (suc j) e in
    at_same shelf k part found (subst (λ n. part_of (set shelf k part) n ≡ Some found) (sym same) is)
part_with shelf (suc k) (suc j) part found is false e =
    let apart : j ≢ k = λ same. eqb-false (suc k) (suc j) e (ap suc (sym same)) in
    sym (get_or-set_other shelf k j part None apart) ∙ is

-- ---- a room's shelf

-- with a place more, which is empty
pub push_found : (shelf : Shelf) (k : ℕ) (found : PartView) → get_or (shelf ++ None ∷ []) k None ≡ Some found → get_or shelf k None ≡ Some found
push_found [] zero found is = is
push_found [] (suc k) found is = is
push_found (x ∷ xs) zero found is = is
push_found (x ∷ xs) (suc k) found is = push_found xs k found is

module _ (opening : OpeningView) (r : List Entry) (shelf : Shelf) (kept : IsShelfOf opening r shelf) where
  part_grown : (q : List Entry) → IsPrefix r q → (site : ℕ) (part : PartView) → part_of shelf site ≡ Some part → IsPartFor opening q site part
  part_grown q p site part is =
      let old = kept.parts site part is in
      (old.0, old.1, prefix_trans part.seen r q old.2 p)

  -- the record has grown, and no site has joined
  pub shelf_grown : (q : List Entry) → IsPrefix r q → sites q ≡ sites r → IsShelfOf opening q shelf
  shelf_grown q p same = record { counted = kept.counted ∙ sym same; parts = part_grown q p }

  -- a site has joined, which is in use
  pub shelf_pushed : (q : List Entry) → IsPrefix r q → sites q ≡ sites r + 1 → IsShelfOf opening q (shelf ++ None ∷ [])
  shelf_pushed q p more = record {
    counted = omega (arith, length-append shelf (None ∷ []), kept.counted, more);
    parts = pushed;
  }
    where
      pushed : (site : ℕ) (part : PartView) → part_of (shelf ++ None ∷ []) site ≡ Some part → IsPartFor opening q site part
      pushed zero part is = absurd cc
      pushed (suc k) part is = part_grown q p (suc k) part (push_found shelf k part is)

  -- a part is taken off
  pub shelf_taken : (site : ℕ) → IsShelfOf opening r (with_at shelf site None)
  shelf_taken site = record {
    counted = same_length shelf site None ∙ kept.counted;
    parts = λ other part is. go other part is (Rattle.std.proofs.Common.eqb site other) refl;
  }
    where
      go : (other : ℕ) (part : PartView) → part_of (with_at shelf site None) other ≡ Some part → (b : Bool) → Rattle.std.proofs.Common.eqb site other ≡ b → IsPartFor opening r other part
      go other part is true e = absurd (let none = part_with shelf site other None part is true e in cc)
      go other part is false e = kept.parts other part (part_with shelf site other None part is false e)

  -- a part is put there
  pub shelf_put : (new : PartView) → new.opening ≡ opening → IsPrefix new.seen r → IsShelfOf opening r (with_at shelf new.site (Some new))
  shelf_put new opening_is seen = record {
    counted = same_length shelf new.site (Some new) ∙ kept.counted;
    parts = λ other part is. go other part is (Rattle.std.proofs.Common.eqb new.site other) refl;
  }
    where
      go : (other : ℕ) (part : PartView) → part_of (with_at shelf new.site (Some new)) other ≡ Some part → (b : Bool) → Rattle.std.proofs.Common.eqb new.site other ≡ b → IsPartFor opening r other part
      go other part is true e =
          let same : new ≡ part = Rattle.room_core.proofs.Seen.some_same (part_with shelf new.site other (Some new) part is true e) in
          subst (λ (p : PartView). IsPartFor opening r other p) same (opening_is, eqb-true new.site other e, seen)
      go other part is false e = kept.parts other part (part_with shelf new.site other (Some new) part is false e)

-- ---- the shelf of a room that begins with a record

part_is : {opening : OpeningView} {r : List Entry} {site : ℕ} (part : PartView) → whole_part opening r site ≡ part → IsPartFor opening r site part
part_is {opening} {r} {site} part is = subst (IsPartFor opening r site) is (refl, refl, ([], append-nil r))

pub full_is_shelf : (opening : OpeningView) (r : List Entry) → IsShelfOf opening r (full_shelf opening r)
full_is_shelf opening r = record { counted = length-map-range_with_len at 1 (sites r); parts = found }
  where
    at : ℕ → Option PartView
    at site = Some (whole_part opening r site)

    found : (site : ℕ) (part : PartView) → part_of (full_shelf opening r) site ≡ Some part → IsPartFor opening r site part
    found zero part is = absurd cc
    found (suc k) part is =
        let there = within (full_shelf opening r) (suc k) part is in
        let long = length-map-range_with_len at 1 (sites r) in
        let here = get_or-map-range_with_len at 1 (sites r) k (suc k) None (omega (arith, there.1, long)) (omega arith) in
        part_is part (Rattle.room_core.proofs.Seen.some_same (sym here ∙ is))
