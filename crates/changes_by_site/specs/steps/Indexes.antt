-- The index of the first changes on an object by the sites that they come from.
use Rattle.std.specs.Prelude.{◌≡◌, ℕ, ◌+◌, ◌-◌, ◌<◌, ◌≤◌, set, Bool, true, List, [], ◌∷◌, ◌++◌, ◌==◌}
use Rattle.std.specs.Prelude.{nat_le, map, filter, length, slice_index_or}
use Rattle.std.specs.List.Sorted.{IsNonDecreasingBy}
use Rattle.base_types.specs.Names.{Name}
use Rattle.base_types.specs.Vectors.{Vector, count_of}
use Rattle.rules.specs.declared.history.Op.{Op}
use Rattle.places.specs.steps.PlaceSet.{places, with_place, with_places}
use Rattle.changes_by_site.specs.declared.known.Known.{Known}
use Rattle.changes_by_site.specs.declared.known.Known.TheVariants.{All, Places}
use Rattle.places.specs.steps.Changes.{at}

-- the first n places by classes, of which each place has one at most: the classes that occur there,
-- each once, with all its places
pub record IsIndex {C : Type 0} (of : C → ℕ → Bool) (n size : ℕ) (class : ℕ → C) (found : ℕ
    → List ℕ) : Type 0 where
  pub each : (i : ℕ) → i < size → found i ≡ filter (of (class i)) (places n)
  pub some : (i : ℕ) → i < size → (place : ℕ) × (place < n) × (of (class i) place ≡ true)
  pub all : (c : C) (place : ℕ) → place < n → of c place ≡ true
      → (i : ℕ) × (i < size) × (class i ≡ c)
  pub apart : (i j : ℕ) → i < size → j < size → class i ≡ class j → i ≡ j

-- the changes of a site: their numbers, each with its place, and their places
pub record OfSite : Type 0 where
  pub site : ℕ
  pub changes : List (ℕ × ℕ)
  pub places : List ℕ

-- the first changes, as many as len, by site
pub record SiteIndex : Type 0 where
  pub len : ℕ
  pub sites : List OfSite

abbrev pub changes_of_site_at : List OfSite → ℕ → OfSite
changes_of_site_at sites i = slice_index_or sites i (record { site = 0; changes = []; places = [] })

-- is the change at a place of the site?
abbrev pub of_site : List Op → ℕ → ℕ → Bool
of_site k site place = (at k place).name.0 == site

-- the number of the change at a place, with the place
abbrev pub numbered_place : List Op → ℕ → ℕ × ℕ
numbered_place k place = ((at k place).name.1, place)

-- with one change more
abbrev pub with_change_of_site : ℕ → ℕ → OfSite → OfSite
with_change_of_site number place of =
    record {
      site = of.site;
      changes = of.changes ++ (number, place) ∷ [];
      places = with_place place of.places;
    }

-- with the next change, whose site stands at i
abbrev pub with_change_at : ℕ → ℕ → SiteIndex → SiteIndex
with_change_at i number index =
    record {
      len = index.len + 1;
      sites = set index.sites i (with_change_of_site number index.len (changes_of_site_at index.sites i));
    }

-- with the next change, the first of its site
abbrev pub with_new_site : Name → SiteIndex → SiteIndex
with_new_site name index = record {
  len = index.len + 1;
  sites =
      index.sites
      ++ record { site = name.0; changes = (name.1, index.len) ∷ []; places = index.len ∷ [] } ∷ [];
}

pub record AreBySite (k : List Op) (index : SiteIndex) : Type 0 where
  pub within : index.len ≤ length k
  pub entries : IsIndex (of_site k) index.len (length index.sites)
      (λ i. (changes_of_site_at index.sites i).site) (λ i. (changes_of_site_at index.sites i).places)
  pub numbers : (i : ℕ) → i < length index.sites
      → (changes_of_site_at index.sites i).changes ≡ map (numbered_place k) (changes_of_site_at index.sites i).places

-- changes of one site stand in order of their numbers
abbrev pub AreInOrder : List Op → Type 0
AreInOrder k = (p q : ℕ) → p < q → q < length k → (at k p).name.0 ≡ (at k q).name.0
    → (at k p).name.1 ≤ (at k q).name.1

-- the numbers of a site's changes rise with the places
pub record IsRising (of : OfSite) : Type 0 where
  pub same : of.places ≡ map (λ change. change.1) of.changes
  pub numbers : IsNonDecreasingBy (λ change. change.0) of.changes
  pub places : (i j : ℕ) (d : ℕ × ℕ) → i < j → j < length of.changes
      → (slice_index_or of.changes i d).1 < (slice_index_or of.changes j d).1

-- the places of the site's changes that a vector counts
abbrev pub counted_of : Vector → OfSite → List ℕ
counted_of seen of =
    map (λ change. change.1) (filter (λ change. nat_le change.0 (count_of seen of.site)) of.changes)

-- places with those that a vector counts of some sites
abbrev pub with_counted : Vector → List ℕ → List OfSite → List ℕ
with_counted seen known [] = known
with_counted seen known (of ∷ others) =
    with_counted seen (with_places known (counted_of seen of)) others

-- the number of a site's last change, 0 if it has none
abbrev pub last_number : OfSite → ℕ
last_number of = (slice_index_or of.changes (length of.changes - 1) (0, 0)).0

-- does a vector count a site's last change?
abbrev pub is_counted : Vector → OfSite → Bool
is_counted seen of = nat_le (last_number of) (count_of seen of.site)

-- of the first n places those that are known
abbrev pub known_of : Known → ℕ → List ℕ
known_of All n = places n
known_of (Places known) n = known
