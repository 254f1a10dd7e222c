-- Changes of a shelf, and the shelf of a room that nobody is in.
use Rattle.std.specs.Prelude.{ℕ, zero, suc, List, Option, Some, is_some}
use Rattle.std.specs.Prelude.{map, slice_set, not, count_by}
use Rattle.std.specs.List.{range_with_len}
use Rattle.rules.specs.declared.history.Entry.{Entry}
use Rattle.rules.specs.Records.{sites}
use Rattle.openings.specs.Openings.{OpeningView}
use Rattle.room_lock.specs.Sites.{count_of_site}
use Rattle.room_lock.specs.Passes.{PartView}
use Rattle.room_lock.specs.Shelves.{Shelf}

-- the shelf with this at the place of a site
abbrev pub with_at : Shelf → ℕ → Option PartView → Shelf
with_at shelf zero part = shelf
with_at shelf (suc place) part = slice_set shelf place part

-- how many sites a session is in as
abbrev pub count_away : Shelf → ℕ
count_away shelf = count_by (λ part. not (is_some part)) shelf

-- the part of a site that has seen the whole record, and added all its entries there
abbrev pub whole_part : OpeningView → List Entry → ℕ → PartView
whole_part opening r site =
    record { opening = opening; site = site; seen = r; added = count_of_site site r }

-- the shelf when no session is in the room, and each site has seen the whole record
abbrev pub full_shelf : OpeningView → List Entry → Shelf
full_shelf opening r = map (λ site. Some (whole_part opening r site)) (range_with_len 1 (sites r))
