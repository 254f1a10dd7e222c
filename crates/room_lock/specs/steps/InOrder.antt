-- Openings among rooms and prefixes, their numbers and their places.
use Rattle.std.specs.Prelude.{ℕ, List, map}
use Rattle.crossbeam_utils.specs.Padded.{padded_value}
use Rattle.crossbeam_utils.specs.declared.cache_padded.CachePadded.{CachePadded}
use Rattle.base_types.specs.Texts.{Bytes}
use Rattle.openings.specs.Openings.{OpeningView}
use Rattle.room_lock.specs.Passes.{PrefixView}

abbrev pub number_of : OpeningView → ℕ
number_of opening = opening.number

abbrev pub opening_place : OpeningView → ℕ
opening_place opening = opening.room.place

-- the openings of the rooms that these are prefixes of
abbrev pub openings_of : List PrefixView → List OpeningView
openings_of prefixes = map (λ (prefix : PrefixView). prefix.opening) prefixes

-- the openings of rooms by name
abbrev pub openings_in : List (Bytes × CachePadded OpeningView) → List OpeningView
openings_in rooms = map (λ (room : Bytes × CachePadded OpeningView). padded_value room.1) rooms
