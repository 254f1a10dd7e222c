-- Whether a vector counts all changes: where it counts the last one of each site, and each that is not indexed.
use Rattle.std.proofs.Common.{◌≡◌, ℕ, ◌+◌, ◌-◌, ◌<◌, ◌≤◌, Bool, true, false, ◌&&◌, List, [], length, get_or, take, drop, refl, sym, ap, ◌∙◌, zero, suc, subst, arith}
use Rattle.std.specs.Prelude.{nat_le}
use Rattle.std.specs.List.{list_all}
use Rattle.std.proofs.lemmas.Bool.{true≢false, eq-eqb, eqb-true, le-leb, leb-true, false_from_ne_true}
use Rattle.std.proofs.lemmas.List.{get_or_default, get_or-map, length-map, take-append-drop}
use Rattle.std.proofs.lemmas.List.Folds.{list_all-append, list_all_more}
use Rattle.base_types.specs.Vectors.{Vector, count_of, counts}
use Rattle.rules.specs.declared.history.Op.{Op}
use Rattle.rules.proofs.Lists.{In, In-from_Contains, Contains-from_In, In-filter, In-filter_back, all_back, all_from}
use Rattle.places.specs.steps.PlaceSet.{places}
use Rattle.places.specs.steps.Changes.{at, nothing, places_counted}
use Rattle.changes_by_site.specs.steps.Indexes.{OfSite, SiteIndex, AreBySite, AreInOrder, changes_of_site_at, is_counted, last_number, numbered_place, of_site}
use Rattle.places.proofs.Places.{In-places, below}
use Rattle.places.proofs.ChangesAt.{at_in}
use Rattle.places.proofs.Filters.{filter_all}
use Rattle.changes_by_site.proofs.Sited.{rising}

module _ (k : List Op) (index : SiteIndex) (w : AreBySite k index) (order : AreInOrder k) (seen : Vector) where
  abbrev sites : List OfSite
  sites = index.sites

  abbrev of_index : ℕ → OfSite
  of_index i = changes_of_site_at sites i

  abbrev test : Op → Bool
  test op = counts seen op.name

  size : (i : ℕ) → i < length sites → length (of_index i).changes ≡ length (of_index i).places
  size i l = ap length (w.numbers i l) ∙ length-map (of_index i).places (numbered_place k)

  change_at : (i : ℕ) → i < length sites → (j : ℕ) → j < length (of_index i).places → get_or (of_index i).changes j (0, 0) ≡ numbered_place k (get_or (of_index i).places j 0)
  change_at i l j m = ap (λ (s : List (ℕ × ℕ)). get_or s j (0, 0)) (w.numbers i l) ∙ get_or-map (numbered_place k) (of_index i).places j 0 (0, 0) m

  -- no number of a site is above that of its last change
  below_last : (i : ℕ) → i < length sites → (p : ℕ) → In p (of_index i).places → (at k p).name.1 ≤ last_number (of_index i)
  below_last i l p m =
      let c = Contains-from_In p (of_index i).places m in
      let within : c.0 < length (of_index i).places = c.1 in
      let long = size i l in
      let there = change_at i l c.0 within ∙ ap (numbered_place k) (get_or_default (of_index i).places c.0 0 p within ∙ c.2) in
      subst (λ (s : ℕ × ℕ). s.0 ≤ last_number (of_index i)) there ((rising k index w order i l).numbers c.0 (length (of_index i).changes - 1) (0, 0) (omega arith) (omega arith))

  -- where it counts each site's last change, it counts each indexed one
  indexed : list_all (is_counted seen) sites ≡ true → (p : ℕ) → p < index.len → test (at k p) ≡ true
  indexed all p l =
      let own : of_site k (at k p).name.0 p ≡ true = eq-eqb (at k p).name.0 (at k p).name.0 refl in
      let c = w.entries.all (at k p).name.0 p l own in
      let i : ℕ = c.0 in
      let here : is_counted seen (of_index i) ≡ true = all_back (is_counted seen) sites all (of_index i) (In-from_Contains (of_index i) sites (i, c.1, get_or_default sites i (of_index i) (changes_of_site_at [] 0) c.1)) in
      let member : In p (of_index i).places = subst (λ (s : List ℕ). In p s) (sym (w.entries.each i c.1)) (In-filter (of_site k (of_index i).site) p (places index.len) (In-places index.len p l) (ap (λ z. of_site k z p) c.2 ∙ own)) in
      let most = below_last i c.1 p member in
      let counted : last_number (of_index i) ≤ count_of seen (of_index i).site = leb-true (last_number (of_index i)) (count_of seen (of_index i).site) here in
      ap (λ s. nat_le (at k p).name.1 (count_of seen s)) (sym c.2) ∙ le-leb (at k p).name.1 (count_of seen (of_index i).site) (omega (arith, most, counted))

  -- and where it counts all changes, it counts each site's last
  last_counted : list_all test k ≡ true → (i : ℕ) → i < length sites → is_counted seen (of_index i) ≡ true
  last_counted all i l =
      let s = w.entries.some i l in
      let found = Contains-from_In s.0 (of_index i).places (subst (λ (x : List ℕ). In s.0 x) (sym (w.entries.each i l)) (In-filter (of_site k (of_index i).site) s.0 (places index.len) (In-places index.len s.0 s.1) s.2)) in
      let some : found.0 < length (of_index i).places = found.1 in
      let j : ℕ = length (of_index i).places - 1 in
      let within : j < length (of_index i).places = omega (arith, some) in
      let q : ℕ = get_or (of_index i).places j 0 in
      let member : In q (of_index i).places = In-from_Contains q (of_index i).places (j, within, get_or_default (of_index i).places j q 0 within) in
      let is = In-filter_back (of_site k (of_index i).site) q (places index.len) (subst (λ (x : List ℕ). In q x) (w.entries.each i l) member) in
      let low : q < index.len = below index.len q is.0 in
      let inside : index.len ≤ length k = w.within in
      let last : last_number (of_index i) ≡ (at k q).name.1 = ap (λ n. (get_or (of_index i).changes (n - 1) (0, 0)).0) (size i l) ∙ ap (λ (x : ℕ × ℕ). x.0) (change_at i l j within) in
      ap (λ n. nat_le n (count_of seen (of_index i).site)) last
      ∙ ap (λ n. nat_le (at k q).name.1 (count_of seen n)) (sym (eqb-true (at k q).name.0 (of_index i).site is.1))
      ∙ all_back test k all (at k q) (at_in k q (omega (arith, low, inside)))

  taken : list_all (is_counted seen) sites ≡ true → (j : ℕ) → j ≤ index.len → list_all test (take j k) ≡ true
  taken all zero l = refl
  taken all (suc j) l =
      let inside : index.len ≤ length k = w.within in
      let next : suc j ≡ j + 1 = omega arith in
      ap (λ n. list_all test (take n k)) next ∙ list_all_more test k j nothing (omega arith) ∙ (λ i. taken all j (omega arith) i && indexed all j (omega arith) i)

  -- it counts all changes exactly if it counts each site's last and all that are not indexed
  pub counts_rest : list_all (is_counted seen) sites ≡ true → list_all test (drop index.len k) ≡ list_all test k
  counts_rest all =
      ap (λ b. b && list_all test (drop index.len k)) (sym (taken all index.len (omega arith)))
      ∙ sym (list_all-append test (take index.len k) (drop index.len k)) ∙ ap (list_all test) (take-append-drop index.len k)

  pub counts_not_all : list_all (is_counted seen) sites ≡ false → list_all test k ≡ false
  counts_not_all some = false_from_ne_true (list_all test k) (λ all. true≢false (sym (all_from (is_counted seen) sites (λ of m.
      let c = Contains-from_In of sites m in
      ap (is_counted seen) (sym (get_or_default sites c.0 (changes_of_site_at [] 0) of c.1 ∙ c.2)) ∙ last_counted all c.0 c.1)) ∙ some))

-- where it counts all, the places of those that it counts are all places
pub counts_all_places : (k : List Op) (seen : Vector) → list_all (λ (op : Op). counts seen op.name) k ≡ true → places (length k) ≡ places_counted k seen
counts_all_places k seen all = sym (filter_all (λ place. counts seen (at k place).name) (places (length k)) (λ p m. all_back (λ (op : Op). counts seen op.name) k all (at k p) (at_in k p (below (length k) p m))))
