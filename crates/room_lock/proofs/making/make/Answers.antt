use Rattle.std.proofs.Common.{◌≡◌, ◌+◌, ◌<◌, ◌≤◌, ◌++◌, ◌∷◌, [], List, bytes_eq, length, take, drop, map, ap, sym, ◌∙◌, arith, append_assoc, length-append, get_or, subst}
use Rattle.std.proofs.lemmas.List.{map-append, take_more}
use Rattle.std.proofs.lemmas.Map.Entries.{length-keys_of}
use Rattle.indexmap.specs.IndexMap.{keys}
use Rattle.base_types.specs.Repeats.{repeat_from}
use Rattle.base_types.specs.Texts.{Bytes}
use Rattle.room_core.specs.declared.room.RoomState.{RoomState}
use Rattle.openings.specs.Openings.{OpeningView}
use Rattle.room_lock.specs.Passes.{PrefixView}
use Rattle.room_lock.specs.InOrder.{AreInOrder}
use Rattle.room_lock.specs.steps.InOrder.{openings_of}
use Rattle.room_lock.proofs.InOrder.{more_in_order}
use Rattle.room_lock.proofs.Names.{name_is_new, place_of_next}
use Rattle.room_lock.proofs.making.make.Goals as goal

pub offset_bounds-names-place : goal.offset_bounds-names-place
offset_bounds-names-place g c =
    let i = c.loop-state.invariant in
    let parts = ap (λ l. c.loop-state.yielded ++ l) (sym c.in-Some.ensures.steps.0) ∙ i.parts in
    let at = place_of_next c.args.names.now c.loop-state.rooms.entries c.loop-state.yielded _ c.args.states.items _ parts c.requires.counted i.names in
    let counted : c.len-place.result ≡ length c.loop-state.rooms.entries = c.len-place.ensures.len in
    let within : c.len-place.result < length c.args.names.now = omega (arith, counted, at.0, at.1) in
    let few : length c.args.names.now ≤ 562949953421312 = c.requires.few in
    record { fits = omega (arith, within, few) }

pub bounds-names-place : goal.bounds-names-place
bounds-names-place g c =
    let i = c.loop-state.invariant in
    let parts = ap (λ l. c.loop-state.yielded ++ l) (sym c.in-Some.ensures.steps.0) ∙ i.parts in
    let at = place_of_next c.args.names.now c.loop-state.rooms.entries c.loop-state.yielded _ c.args.states.items _ parts c.requires.counted i.names in
    let counted : c.len-place.result ≡ length c.loop-state.rooms.entries = c.len-place.ensures.len in
    omega (arith, counted, at.0, at.1)

pub begin_room-requires-clause-name : goal.begin_room-requires-clause-name
begin_room-requires-clause-name g c =
    let i = c.loop-state.invariant in
    let names = c.args.names.now in
    let yielded = c.loop-state.yielded in
    let parts = ap (λ l. yielded ++ l) (sym c.in-Some.ensures.steps.0) ∙ i.parts in
    let at = place_of_next names c.loop-state.rooms.entries yielded _ c.args.states.items _ parts c.requires.counted i.names in
    let place : c.len-place.result ≡ length yielded = c.len-place.ensures.len ∙ at.0 in
    let copied : c.in_ok-name.name ≡ c.index-names-place.result = c.in_ok-name.ensures in
    let stands : c.in_ok-name.name ≡ get_or names (length yielded) c.in_ok-name.name = copied ∙ c.index-names-place.is ∙ (λ j. get_or names (place j) (sym copied j)) in
    (name_is_new names c.loop-state.rooms.entries (length yielded) c.in_ok-name.name at.1 stands i.names i.apart).0

pub loop-state-preserved : goal.loop-state-preserved
loop-state-preserved g c =
    let i = c.loop-state.invariant in
    let names = c.args.names.now in
    let yielded = c.loop-state.yielded in
    let old = c.loop-state.begun.items in
    let prefix = c.in_ok-begin_room.field-0 in
    let e = c.in_ok-begin_room.ensures in
    let parts = ap (λ l. yielded ++ l) (sym c.in-Some.ensures.steps.0) ∙ i.parts in
    let at = place_of_next names c.loop-state.rooms.entries yielded _ c.args.states.items _ parts c.requires.counted i.names in
    let place : c.len-place.result ≡ length yielded = c.len-place.ensures.len ∙ at.0 in
    let known : length yielded ≡ length (keys c.loop-state.rooms) = sym (length-keys_of c.loop-state.rooms.entries ∙ at.0) in
    let more : length (yielded ++ c.in-Some.state ∷ []) ≡ length yielded + 1 = length-append yielded (c.in-Some.state ∷ []) in
    let copied : c.in_ok-name.name ≡ c.index-names-place.result = c.in_ok-name.ensures in
    let stands : c.in_ok-name.name ≡ get_or names (length yielded) c.in_ok-name.name = copied ∙ c.index-names-place.is ∙ (λ j. get_or names (place j) (sym copied j)) in
    let new = name_is_new names c.loop-state.rooms.entries (length yielded) c.in_ok-name.name at.1 stands i.names i.apart in
    let one : take (length yielded) names ++ c.in_ok-name.name ∷ [] ≡ take (length yielded + 1) names =
    ap (λ name. take (length yielded) names ++ name ∷ []) stands ∙ sym (take_more names (length yielded) c.in_ok-name.name at.1) in
    let put = c.in_ok-push.ensures.items in
    let opened : openings_of c.push.new.self.items ≡ openings_of old ++ prefix.opening ∷ [] = ap openings_of put ∙ map-append (λ (begun : PrefixView). begun.opening) old (prefix ∷ []) in
    let ordered = more_in_order (keys c.loop-state.rooms) (openings_of old) c.in_ok-name.name prefix.opening i.in_order e.opened_name (e.number ∙ i.register ∙ known) (e.opened_place ∙ place ∙ known) in
    record {
      can_next = tt;
      is_finite = tt;
      parts = append_assoc yielded (c.in-Some.state ∷ []) _ ∙ parts;
      names = e.rooms ∙ ap (λ l. l ++ c.in_ok-name.name ∷ []) i.names ∙ one ∙ ap (λ n. take n names) (sym more);
      apart = (λ j. repeat_from bytes_eq (more j) (take (more j) names) (drop (more j) names)) ∙ new.1;
      register = e.register ∙ ap (λ n. n + 1) i.register ∙ sym more;
      records = ap (map (λ (begun : PrefixView). begun.entries)) put ∙ map-append (λ (begun : PrefixView). begun.entries) old (prefix ∷ [])
          ∙ (λ j. i.records j ++ e.entries j ∷ []) ∙ sym (map-append (λ (state : RoomState). state.room.entries) yielded (c.in-Some.state ∷ []));
      openings = e.openings ∙ ap (λ l. l ++ prefix.opening ∷ []) i.openings ∙ sym opened;
      in_order = subst (λ (l : List Bytes). AreInOrder l (openings_of c.push.new.self.items)) (sym e.rooms)
          (subst (λ (l : List OpeningView). AreInOrder (keys c.loop-state.rooms ++ c.in_ok-name.name ∷ []) l) (sym opened) ordered);
    }
