-- What parts say, and parts that together added all entries of a record but its end.
use Rattle.std.specs.Prelude.{◌≡◌, ◌≤◌, ℕ, List, Some, map, sum_by}
use Rattle.rules.specs.declared.history.Entry.{Entry}
use Rattle.room_lock.specs.Sites.{count_of_sites, count_of_site}
use Rattle.room_lock.specs.Passes.{PartView}
use Rattle.room_lock.specs.Shelves.{Shelf}

abbrev pub site_of : PartView → ℕ
site_of part = part.site

abbrev pub added_of : PartView → ℕ
added_of part = part.added

-- the part has seen at least as many entries of its site as it added
abbrev pub HasItsEntries : PartView → Type 0
HasItsEntries part = part.added ≤ count_of_site part.site part.seen

-- The parts of all sites are on the shelf. Together they added all entries of the record but its
-- end.
abbrev pub IsComplete : List Entry → Shelf → Type 0
IsComplete r shelf =
    (parts : List PartView) × (map Some parts ≡ shelf) × (sum_by added_of parts ≡ count_of_sites r)
