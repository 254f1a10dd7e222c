-- The parts of a room's sites that no session is in as.
use Rattle.std.specs.Prelude.{◌≡◌, ◌≢◌, ℕ, zero, suc, Bool, true, List, Option, Some, None, is_some, length}
use Rattle.std.specs.Prelude.{slice_index_or, nat_le, ◌&&◌, not}
use mathlib.Core.List.{IsPrefix}
use Rattle.rules.specs.declared.history.Entry.{Entry}
use Rattle.rules.specs.Records.{sites}
use Rattle.notes.specs.Notes.{NotePlaces, notes_at}
use Rattle.openings.specs.Openings.{OpeningView}
use Rattle.room_lock.specs.Passes.{PartView}

-- a place for each site, from site 1 on; it holds the site's part if no session is in as the site
abbrev pub Shelf : Type 0
Shelf = List (Option PartView)

-- the part of a site, if it is on the shelf
abbrev pub part_of : Shelf → ℕ → Option PartView
part_of shelf zero = None
part_of shelf (suc place) = slice_index_or shelf place None

-- the site has joined, and a session is in as it
abbrev pub is_away : Shelf → ℕ → Bool
is_away shelf site =
    nat_le 1 site && nat_le site (length shelf) && not (is_some (part_of shelf site))

-- a site with a note is one that a session is in as
abbrev pub AreOfSitesIn : Shelf → NotePlaces → Type 0
AreOfSitesIn shelf notes = (site : ℕ) → notes_at notes site ≢ None → is_away shelf site ≡ true

module _ (opening : OpeningView) (r : List Entry) where
  abbrev pub IsPartFor : ℕ → PartView → Type 0
  IsPartFor site part = (part.opening ≡ opening) × (part.site ≡ site) × IsPrefix part.seen r

  -- there is a place for each site that has joined, and each part is at its site's place
  pub record IsShelfOf (shelf : Shelf) : Type 0 where
    pub counted : length shelf ≡ sites r
    pub parts : (site : ℕ) (part : PartView) → part_of shelf site ≡ Some part → IsPartFor site part
