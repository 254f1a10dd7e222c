-- Rooms that were opened in the order of their names.
use Rattle.std.proofs.Common.{◌≡◌, ℕ, zero, suc, ◌+◌, ◌-◌, Bool, List, [], ◌∷◌, ◌++◌, Option, None, Some, length, map, get_or, set, ap, sym, ◌∙◌, arith, length-append, slice_get, subst}
use Rattle.std.specs.Prelude.{Contains, bytes_eq, option_map, position}
use Rattle.std.specs.List.{range_with_len, swap_remove}
use Rattle.std.specs.Option.{option_map_or}
use Rattle.std.specs.Map.{keys_of}
use Rattle.std.proofs.lemmas.List.{length-map, map-append}
use Rattle.std.proofs.lemmas.List.Elements.{All-set, All-take}
use Rattle.std.proofs.lemmas.List.FromFn.{get_or-range_with_len, length-range_with_len}
use Rattle.std.proofs.lemmas.Option.{get_or_from_slice_get, slice_get-map, slice_get_within}
use Rattle.indexmap.specs.IndexMap.{swap_remove_entry}
use Rattle.crossbeam_utils.specs.Padded.{padded_value}
use Rattle.crossbeam_utils.specs.declared.cache_padded.CachePadded.{CachePadded}
use Rattle.base_types.specs.Texts.{Bytes}
use Rattle.openings.specs.Openings.{OpeningView}
use Rattle.room_core.proofs.Seen.{some_same}
use Rattle.room_lock.specs.InOrder.{AreInOrder, IsOpeningFor, opening_name}
use Rattle.room_lock.specs.steps.InOrder.{number_of, openings_in, opening_place}
use Rattle.room_lock.specs.steps.Openings.{AreNamed}
use Rattle.room_lock.specs.Rooms.{RoomsView}

-- a run of numbers with the next one
run_more : (from count next : ℕ) → from + count ≡ next → range_with_len from (suc count) ≡ range_with_len from count ++ next ∷ []
run_more from zero next e = let same : from ≡ next = omega (arith, e) in ap (λ k. k ∷ []) same
run_more from (suc count) next e = ap (λ l. from ∷ l) (run_more (from + 1) count next (omega (arith, e)))

-- where numbers run from 0, each is its place
run_at : {X : Type 0} (f : X → ℕ) (xs : List X) (count : ℕ) → map f xs ≡ range_with_len 0 count → (place : ℕ) (x : X) → slice_get xs place ≡ Some x → f x ≡ place
run_at f xs count run place x is =
    let counted : length xs ≡ count = sym (length-map xs f) ∙ ap length run ∙ length-range_with_len 0 count in
    let within = slice_get_within xs place x is in
    let at : slice_get (range_with_len 0 count) place ≡ Some (f x) = ap (λ l. slice_get l place) (sym run) ∙ slice_get-map f xs place ∙ ap (option_map f) is in
    let found = get_or_from_slice_get (range_with_len 0 count) place (f x) 0 at in
    let here = get_or-range_with_len 0 count place 0 (omega (arith, within, counted)) in
    omega (arith, found, here)

-- ---- a room among the rooms

module _ (rooms : List (Bytes × CachePadded OpeningView)) (kept : AreInOrder (keys_of rooms) (openings_in rooms))
    (place : ℕ) (room : Bytes × CachePadded OpeningView) (is : slice_get rooms place ≡ Some room)
  where
    opened : slice_get (openings_in rooms) place ≡ Some (padded_value room.1)
    opened = slice_get-map (λ (room : Bytes × CachePadded OpeningView). padded_value room.1) rooms place ∙ ap (option_map (λ (room : Bytes × CachePadded OpeningView). padded_value room.1)) is

    pub number_is_place : number_of (padded_value room.1) ≡ place
    number_is_place = run_at number_of (openings_in rooms) (length (keys_of rooms)) kept.numbers_are place (padded_value room.1) opened

    pub opened_at_place : opening_place (padded_value room.1) ≡ place
    opened_at_place = run_at opening_place (openings_in rooms) (length (keys_of rooms)) kept.places_are place (padded_value room.1) opened

    pub opened_by_name : room.0 ≡ opening_name (padded_value room.1)
    opened_by_name =
        let key : slice_get (keys_of rooms) place ≡ Some room.0 = slice_get-map (λ (room : Bytes × CachePadded OpeningView). room.0) rooms place ∙ ap (option_map (λ (room : Bytes × CachePadded OpeningView). room.0)) is in
        let name : slice_get (map opening_name (openings_in rooms)) place ≡ Some (opening_name (padded_value room.1)) = slice_get-map opening_name (openings_in rooms) place ∙ ap (option_map opening_name) opened in
        some_same (sym key ∙ ap (λ l. slice_get l place) (sym kept.names_are) ∙ name)

    -- the room that stands first under a name is the name's
    pub opening_for : (view : RoomsView) → keys_of rooms ≡ view.names → (name : Bytes) → name ≡ room.0 → position (bytes_eq name) (keys_of rooms) ≡ Some place → IsOpeningFor view name (padded_value room.1)
    opening_for view names name key at = record {
      name_is = sym (key ∙ opened_by_name);
      number_is = λ first. ap (position (bytes_eq name)) (sym names) ∙ at ∙ ap Some (sym number_is_place);
      place_is = λ first. opened_at_place ∙ sym number_is_place;
    }

-- an opening of a room on demand
pub opening_of_other : (view : RoomsView) (name : Bytes) (opening : OpeningView) → ¬ (Contains view.names name) → opening_name opening ≡ name → IsOpeningFor view name opening
opening_of_other view name opening other named = record {
  name_is = named;
  number_is = λ first. absurd (other first);
  place_is = λ first. absurd (other first);
}

-- what stands at a place among named openings has its name
pub named_at : (openings : List (Bytes × OpeningView)) → AreNamed openings → (place : ℕ) (name : Bytes) (opening : OpeningView) → slice_get openings place ≡ Some (name, opening) → opening_name opening ≡ name
named_at openings all place name opening is =
    let within = slice_get_within openings place (name, opening) is in
    let P : Bytes × OpeningView → Type 0 = λ named. opening_name named.1 ≡ named.0 in
    subst P (get_or_from_slice_get openings place (name, opening) (name, opening) is) (all place (name, opening) within)

-- without the room that stands first under a name
pub named_without : (test : Bytes → Bool) (openings : List (Bytes × OpeningView)) → AreNamed openings → AreNamed (swap_remove_entry test openings)
named_without test [] all = all
named_without test (e ∷ es) all = at (position test (keys_of (e ∷ es)))
  where
    at : (place : Option ℕ) → AreNamed (option_map_or (λ i. swap_remove (e ∷ es) i e) place (e ∷ es))
    at None = all
    at (Some i) =
        let P : Bytes × OpeningView → Type 0 = λ named. opening_name named.1 ≡ named.0 in
        let last = get_or (e ∷ es) (length (e ∷ es) - 1) e in
        All-take P (length (e ∷ es) - 1) (set (e ∷ es) i last) (All-set P (e ∷ es) i last (all (length (e ∷ es) - 1) e (omega arith)) all)

-- with a room more, which was opened behind them
pub more_in_order : (names : List Bytes) (openings : List OpeningView) (name : Bytes) (opening : OpeningView) → AreInOrder names openings
    → opening_name opening ≡ name → number_of opening ≡ length names → opening_place opening ≡ length names → AreInOrder (names ++ name ∷ []) (openings ++ opening ∷ [])
more_in_order names openings name opening kept named number place =
    let more : length (names ++ name ∷ []) ≡ suc (length names) = omega (arith, length-append names (name ∷ [])) in
    let run : range_with_len 0 (length names) ++ length names ∷ [] ≡ range_with_len 0 (length (names ++ name ∷ [])) = sym (run_more 0 (length names) (length names) (omega arith)) ∙ ap (range_with_len 0) (sym more) in
    record {
      names_are = map-append opening_name openings (opening ∷ []) ∙ (λ j. kept.names_are j ++ named j ∷ []);
      numbers_are = map-append number_of openings (opening ∷ []) ∙ (λ j. kept.numbers_are j ++ number j ∷ []) ∙ run;
      places_are = map-append opening_place openings (opening ∷ []) ∙ (λ j. kept.places_are j ++ place j ∷ []) ∙ run;
    }
