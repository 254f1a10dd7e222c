-- A room all of whose parts are there is closed.
use Rattle.std.proofs.Common.{◌≡◌, ◌+◌, ◌<◌, ◌≤◌, ℕ, zero, suc, List, [], ◌∷◌, length, get_or, map, Some, None, refl, sym, ap, ◌∙◌, arith, slice_get, subst}
use Rattle.std.specs.Prelude.{All, Contains, sum_by}
use Rattle.std.specs.List.{AllByRecursion, range_with_len}
use Rattle.std.proofs.lemmas.List.{length-map}
use Rattle.std.proofs.lemmas.Option.{slice_get-get_or}
use mathlib.Core.List.{IsPrefix}
use Rattle.rules.specs.declared.history.Entry.{Entry}
use Rattle.rules.specs.declared.limits.LimitValues.{LimitValues}
use Rattle.rules.specs.Records.{sites, IsLegal}
use Rattle.openings.specs.Openings.{OpeningView}
use Rattle.room_lock.specs.Passes.{PartView}
use Rattle.room_lock.specs.Sites.{count_of_sites}
use Rattle.room_lock.specs.Sites.{count_of_site}
use Rattle.room_lock.specs.Shelves.{Shelf, IsPartFor, IsShelfOf, part_of}
use Rattle.room_lock.specs.Closing.{IsClosed, IsOfRecord}
use Rattle.room_lock.specs.steps.Closing.{HasItsEntries, IsComplete, added_of, site_of}
use Rattle.room_lock.proofs.Answers.{count_of_front}
use Rattle.room_lock.proofs.Shares.{counts_within, each_same, sum_mapped}

-- what holds at each place holds by recursion, and back
by_recursion : {X : Type 0} (P : X → Type 0) (xs : List X) → All P xs → AllByRecursion P xs
by_recursion P [] all = tt
by_recursion P (x ∷ xs) all = (all 0 x (omega arith), by_recursion P xs (λ k d lt. all (suc k) d (omega (arith, lt))))

by_place : {X : Type 0} (P : X → Type 0) (xs : List X) → AllByRecursion P xs → All P xs
by_place P [] all k d lt = absurd (omega (arith, lt))
by_place P (x ∷ xs) all zero d lt = all.0
by_place P (x ∷ xs) all (suc k) d lt = by_place P xs all.1 k d (omega (arith, lt))

-- a part on a full shelf
at_full : (xs : List PartView) (k : ℕ) (part : PartView) → slice_get xs k ≡ Some part → get_or (map Some xs) k None ≡ Some part
at_full [] zero part is = is
at_full [] (suc k) part is = is
at_full (x ∷ xs) zero part is = is
at_full (x ∷ xs) (suc k) part is = at_full xs k part is

-- the sites of parts that stand at the places of their sites
sites_from : (xs : List PartView) (from : ℕ) → ((k : ℕ) (part : PartView) → slice_get xs k ≡ Some part → part.site ≡ from + k) → map site_of xs ≡ range_with_len from (length xs)
sites_from [] from at = refl
sites_from (x ∷ xs) from at =
    let first : x.site ≡ from = (let e = at 0 x refl in omega (arith, e)) in
    let rest = sites_from xs (from + 1) (λ k part is. (let e = at (suc k) part is in omega (arith, e))) in
    (λ i. first i ∷ rest i)

module _ (limits : LimitValues) (opening : OpeningView) (r : List Entry) (shelf : Shelf) (parts : List PartView)
    (legal : IsLegal limits r) (kept : IsShelfOf opening r shelf) (full : map Some parts ≡ shelf)
    (own : All HasItsEntries parts) (whole : sum_by added_of parts ≡ count_of_sites r)
  where
    part_at : (k : ℕ) (part : PartView) → slice_get parts k ≡ Some part → IsPartFor opening r (suc k) part
    part_at k part is = kept.parts (suc k) part (ap (λ (s : Shelf). part_of s (suc k)) (sym full) ∙ at_full parts k part is)

    counted : length parts ≡ sites r
    counted = sym (length-map parts Some) ∙ ap length full ∙ kept.counted

    sites_are : map site_of parts ≡ range_with_len 1 (sites r)
    sites_are = sites_from parts 1 (λ k part is. (part_at k part is).1 ∙ (let e : suc k ≡ 1 + k = omega arith in e)) ∙ ap (range_with_len 1) counted

    begins : (k : ℕ) (d : PartView) → k < length parts → IsPrefix (get_or parts k d).seen r
    begins k d lt = (part_at k (get_or parts k d) (slice_get-get_or parts k d lt)).2

    at_most : All (λ part. added_of part ≤ count_of_site part.site r) parts
    at_most k d lt =
        let part = get_or parts k d in
        let more = count_of_front part.site part.seen r (begins k d lt) in
        let has = own k d lt in
        omega (arith, more, has)

    no_more : sum_by (λ (part : PartView). count_of_site part.site r) parts ≤ sum_by added_of parts
    no_more =
        let mapped = sum_mapped (λ site. count_of_site site r) site_of parts ∙ ap (sum_by (λ site. count_of_site site r)) sites_are in
        let within = counts_within 1 (sites r) r in
        omega (arith, mapped, within, whole)

    same : All (λ part. added_of part ≡ count_of_site part.site r) parts
    same = by_place (λ part. added_of part ≡ count_of_site part.site r) parts
        (each_same added_of (λ part. count_of_site part.site r) parts (by_recursion (λ part. added_of part ≤ count_of_site part.site r) parts at_most) no_more)

    of_record : All (IsOfRecord r) parts
    of_record k d lt = record { seen = begins k d lt; added = same k d lt }

    pub closed_by : IsClosed limits r parts
    closed_by = record { legal = legal; sites_are = sites_are; of_record = of_record; whole = whole }

-- ---- where some part is absent

some_apart : (x y : PartView) (xs ys : List PartView) → map Some (x ∷ xs) ≡ map Some (y ∷ ys) → (x ≡ y) × (map Some xs ≡ map Some ys)
some_apart x y xs ys is = (cc, cc)

-- the parts on a shelf are known
same_parts : (xs ys : List PartView) → map Some xs ≡ map Some ys → xs ≡ ys
same_parts [] [] is = refl
same_parts [] (y ∷ ys) is = absurd cc
same_parts (x ∷ xs) [] is = absurd cc
same_parts (x ∷ xs) (y ∷ ys) is = let both = some_apart x y xs ys is in (λ i. both.0 i ∷ same_parts xs ys both.1 i)

-- a shelf with all parts lacks none
none_absent : (xs : List PartView) (k : ℕ) → k < length (map Some xs) → get_or (map Some xs) k None ≡ None → ⊥
none_absent [] k lt is = omega (arith, lt)
none_absent (x ∷ xs) zero lt is = let some : Some x ≡ None = is in cc
none_absent (x ∷ xs) (suc k) lt is = none_absent xs k (omega (arith, lt)) is

pub absent_one : (r : List Entry) (shelf : Shelf) → Contains shelf None → ¬ (IsComplete r shelf)
absent_one r shelf holds = λ complete.
    let at = subst (λ (s : Shelf). Contains s None) (sym complete.1) holds in
    absent_at complete.0 at
  where
    absent_at : (parts : List PartView) → Contains (map Some parts) None → ⊥
    absent_at parts at = none_absent parts at.0 at.1 at.2

pub other_sum : (r : List Entry) (shelf : Shelf) (parts : List PartView) → map Some parts ≡ shelf → ¬ (sum_by added_of parts ≡ count_of_sites r) → ¬ (IsComplete r shelf)
other_sum r shelf parts full other = λ complete.
    let same = same_parts complete.0 parts (complete.1 ∙ sym full) in
    other (ap (sum_by added_of) (sym same) ∙ complete.2)
