-- What one answer does to the rooms side by side.
use Rattle.std.proofs.Common.{◌≡◌, ℕ, ◌<◌, List, length, get_or, set, Option, Some, None, Bool, true, false, cond, eqb, Result, Ok, Err, OnOk, refl, sym, ap, subst, ◌∙◌}
use Rattle.std.specs.Option.{option_map, option_and_then, option_or}
use mathlib.Core.Path.{fun_ext}
use Rattle.std.proofs.lemmas.Bool.{eq-eqb, eqb-true, eqb-false}
use Rattle.std.proofs.lemmas.List.{get_or-set_same, get_or-set_other, length-map}
use Rattle.wire.specs.declared.request.Request.{Request}
use Rattle.wire.specs.declared.request.Request.TheVariants as request
use Rattle.wire.specs.declared.reply.Reply.{Reply}
use Rattle.wire.specs.Entering.{room_to_enter}
use Rattle.wire_reader.specs.steps.Reads.{request_read, note_request_read}
use Rattle.wire.specs.declared.note.NoteRequest.{NoteRequest}
use Rattle.wire.specs.Notes.{Notes, no_notes}
use Rattle.notes.specs.Notes.{notes_at}
use Rattle.room_core.specs.Room.{Room, with_entry}
use Rattle.room_core.specs.Answers.{Outcome}
use Rattle.world.specs.declared.seats.Seat.{Seat}
use Rattle.world.specs.declared.seats.Asker.{Asker}
use Rattle.world.specs.Alone.{Message, Alone, answer_to, move_of, after_move, use_after_move, noted_by, notes_after_move, alone_answer, alone_after}
use Rattle.world.specs.Rooms.{Rooms, place_of, owner_of, after_at, rooms_after}
use Rattle.world.specs.steps.State.{WorldState, Named, names_in, names_of, seat_of, no_room, rooms_in, room_at, is_used, uses_in, use_at, notes_of_rooms, notes_of, site_at, alone_at, rooms_of, no_site}
use Rattle.world.specs.steps.Seated.{SeatsWithin}
use Rattle.world.specs.steps.Steps.{asker_answer, place_answer, asker_of, seat_in, IsMoved, named_place}
use Rattle.world.proofs.Places.{place_of_within}
use Rattle.world.proofs.SeatMaps.{seat_within}

pub alone_same : (a b : Alone) → a.room ≡ b.room → a.site_of ≡ b.site_of → a.in_use ≡ b.in_use → a.notes ≡ b.notes → a ≡ b
alone_same a b e f g n =
    ap (λ r. record { room = r; site_of = a.site_of; in_use = a.in_use; notes = a.notes }) e
    ∙ ap (λ (h : ℕ → Option ℕ). record { room = b.room; site_of = h; in_use = a.in_use; notes = a.notes }) f
    ∙ ap (λ (h : ℕ → Bool). record { room = b.room; site_of = b.site_of; in_use = h; notes = a.notes }) g
    ∙ ap (λ (h : Notes). record { room = b.room; site_of = b.site_of; in_use = b.in_use; notes = h }) n

-- a request that is about no notes changes none, but where it leaves
pub not_noted : (who : Option ℕ) (request : Request) (asked : Option NoteRequest) (notes : Notes) → noted_by who (Some request) asked notes ≡ notes
not_noted None request asked notes = refl
not_noted (Some site) request asked notes = refl

pub rooms_same : (a b : Rooms) → a.inside ≡ b.inside → a.alone ≡ b.alone → a ≡ b
rooms_same a b e f = ap (λ (i : ℕ → Option ℕ). record { inside = i; alone = a.alone }) e ∙ ap (λ (g : ℕ → Alone). record { inside = b.inside; alone = g }) f

-- ---- what one move does to a session

place_by : (place : ℕ) (move : Option (Option ℕ)) (session : ℕ) (old : ℕ → Option Seat) (q : ℕ)
    → option_map (λ (s : Seat). s.place) (after_move move (seat_in place) session old q) ≡ after_move move (λ site. place) session (λ s. option_map (λ (s : Seat). s.place) (old s)) q
place_by place None session old q = refl
place_by place (Some None) session old q = elim (eqb session q) as (λ b. option_map (λ (s : Seat). s.place) (cond b None (old q)) ≡ cond b None (option_map (λ (s : Seat). s.place) (old q))) [ true ↦ refl | false ↦ refl ]
place_by place (Some (Some site)) session old q = elim (eqb session q) as (λ b. option_map (λ (s : Seat). s.place) (cond b (Some (seat_in place site)) (old q)) ≡ cond b (Some place) (option_map (λ (s : Seat). s.place) (old q))) [ true ↦ refl | false ↦ refl ]

site_by : (place : ℕ) (move : Option (Option ℕ)) (session : ℕ) (old : ℕ → Option Seat) (q : ℕ)
    → site_at place (after_move move (seat_in place) session old q) ≡ after_move move (λ site. site) session (λ s. site_at place (old s)) q
site_by place None session old q = refl
site_by place (Some None) session old q = elim (eqb session q) as (λ b. site_at place (cond b None (old q)) ≡ cond b None (site_at place (old q))) [ true ↦ refl | false ↦ refl ]
site_by place (Some (Some site)) session old q = elim (eqb session q) as (λ b. site_at place (cond b (Some (seat_in place site)) (old q)) ≡ cond b (Some site) (site_at place (old q))) [ true ↦ rw (eq-eqb place place refl) refl | false ↦ refl ]

-- where a session is after it moved
inside-moved : (place : ℕ) (reply : Reply) (session : ℕ) (old : ℕ → Option Seat) (q : ℕ)
    → option_map (λ (s : Seat). s.place) (after_move (move_of reply) (seat_in place) session old q) ≡ after_move (move_of reply) (λ site. place) session (λ s. option_map (λ (s : Seat). s.place) (old s)) q
inside-moved place reply session old q = place_by place (move_of reply) session old q

-- its site in the room that it moved in
site_at-moved : (place : ℕ) (reply : Reply) (session : ℕ) (old : ℕ → Option Seat) (q : ℕ)
    → site_at place (after_move (move_of reply) (seat_in place) session old q) ≡ after_move (move_of reply) (λ site. site) session (λ s. site_at place (old s)) q
site_at-moved place reply session old q = site_by place (move_of reply) session old q

-- in each other room nothing moved
kept_by : (b : Bool) (session q : ℕ) (f : ℕ → Option ℕ) → eqb session q ≡ b → f session ≡ None → cond b None (f q) ≡ f q
kept_by true session q f e none = sym (subst (λ k. f k ≡ None) (eqb-true session q e) none)
kept_by false session q f e none = refl

other_by : (place other : ℕ) (move : Option (Option ℕ)) (session : ℕ) (old : ℕ → Option Seat) (q : ℕ)
    → eqb place other ≡ false → site_at other (old session) ≡ None → site_at other (after_move move (seat_in place) session old q) ≡ site_at other (old q)
other_by place other None session old q apart none = refl
other_by place other (Some None) session old q apart none =
    elim (eqb session q) as (λ b. site_at other (cond b None (old q)) ≡ cond b None (site_at other (old q))) [ true ↦ refl | false ↦ refl ]
    ∙ kept_by (eqb session q) session q (λ s. site_at other (old s)) refl none
other_by place other (Some (Some site)) session old q apart none =
    elim (eqb session q) as (λ b. site_at other (cond b (Some (seat_in place site)) (old q)) ≡ cond b None (site_at other (old q))) [ true ↦ rw apart refl | false ↦ refl ]
    ∙ kept_by (eqb session q) session q (λ s. site_at other (old s)) refl none

site_at_other-moved : (place other : ℕ) (reply : Reply) (session : ℕ) (old : ℕ → Option Seat) (q : ℕ)
    → eqb place other ≡ false → site_at other (old session) ≡ None → site_at other (after_move (move_of reply) (seat_in place) session old q) ≡ site_at other (old q)
site_at_other-moved place other reply session old q apart none = other_by place other (move_of reply) session old q apart none

-- an answer of one room, with its entry and its moves, is that room's alone
module _ (state new : WorldState) (message : Message) (place : ℕ) (outcome : Outcome)
    (within : place < length state.rooms)
    (apart : (other : ℕ) → eqb place other ≡ false → site_at other (seat_of state.seats message.session) ≡ None)
    (is_answer : alone_answer (alone_at state place) message ≡ outcome)
    (rooms : rooms_in new.rooms ≡ set (rooms_in state.rooms) place (with_entry (room_at state.rooms place) outcome.1))
    (uses : uses_in new.rooms ≡ set (uses_in state.rooms) place (use_after_move (move_of outcome.0) (site_at place (seat_of state.seats message.session)) (use_at state.rooms place)))
    (seats : IsMoved state.seats new.seats outcome.0 message.session place)
    (noted : notes_of_rooms new.rooms ≡ set (notes_of_rooms state.rooms) place
    (notes_after_move (move_of outcome.0) (site_at place (seat_of state.seats message.session))
    (noted_by (site_at place (seat_of state.seats message.session)) (request_read message.bytes) (note_request_read message.bytes) (notes_of state.rooms place))))
  where
    inside_is : (rooms_of new).inside ≡ (after_at (rooms_of state) message (Some place)).inside
    inside_is = fun_ext (λ q. ap (option_map (λ (seat : Seat). seat.place)) (seats q) ∙ inside-moved place outcome.0 message.session (seat_of state.seats) q
        ∙ ap (λ (o : Outcome). after_move (move_of o.0) (λ site. place) message.session (rooms_of state).inside q) (sym is_answer))

    here : (q : ℕ) → place ≡ q → alone_at new q ≡ alone_after (alone_at state place) message
    here q e = subst (λ p. alone_at new p ≡ alone_after (alone_at state place) message) e (alone_same _ _
        (ap (λ (rooms : List Room). get_or rooms place no_room) rooms
        ∙ get_or-set_same (rooms_in state.rooms) place _ no_room (rw (length-map state.rooms (λ room. room.room)) within)
        ∙ ap (λ (o : Outcome). with_entry (room_at state.rooms place) o.1) (sym is_answer))
        (fun_ext (λ s. ap (site_at place) (seats s) ∙ site_at-moved place outcome.0 message.session (seat_of state.seats) s
        ∙ ap (λ (o : Outcome). after_move (move_of o.0) (λ site. site) message.session (alone_at state place).site_of s) (sym is_answer)))
        (ap (λ (uses : List (ℕ → Bool)). get_or uses place no_site) uses
        ∙ get_or-set_same (uses_in state.rooms) place _ no_site (rw (length-map state.rooms (λ room. is_used room.in_use)) within)
        ∙ ap (λ (o : Outcome). use_after_move (move_of o.0) (site_at place (seat_of state.seats message.session)) (use_at state.rooms place)) (sym is_answer))
        (ap (λ (all : List Notes). get_or all place no_notes) noted
        ∙ get_or-set_same (notes_of_rooms state.rooms) place _ no_notes (rw (length-map state.rooms (λ room. notes_at room.notes)) within)
        ∙ ap (λ (o : Outcome). notes_after_move (move_of o.0) (site_at place (seat_of state.seats message.session))
        (noted_by (site_at place (seat_of state.seats message.session)) (request_read message.bytes) (note_request_read message.bytes) (notes_of state.rooms place))) (sym is_answer)))

    there : (q : ℕ) → eqb place q ≡ false → alone_at new q ≡ alone_at state q
    there q ne = alone_same _ _
        (ap (λ (rooms : List Room). get_or rooms q no_room) rooms
        ∙ get_or-set_other (rooms_in state.rooms) place q _ no_room (λ e. eqb-false place q ne (sym e)))
        (fun_ext (λ s. ap (site_at q) (seats s) ∙ site_at_other-moved place q outcome.0 message.session (seat_of state.seats) s ne (apart q ne)))
        (ap (λ (uses : List (ℕ → Bool)). get_or uses q no_site) uses
        ∙ get_or-set_other (uses_in state.rooms) place q _ no_site (λ e. eqb-false place q ne (sym e)))
        (ap (λ (all : List Notes). get_or all q no_notes) noted
        ∙ get_or-set_other (notes_of_rooms state.rooms) place q _ no_notes (λ e. eqb-false place q ne (sym e)))

    each : (b : Bool) (q : ℕ) → eqb place q ≡ b → alone_at new q ≡ cond b (alone_after (alone_at state place) message) (alone_at state q)
    each true q e = here q (eqb-true place q e)
    each false q e = there q e

    pub rooms_of-changed : rooms_of new ≡ after_at (rooms_of state) message (Some place)
    rooms_of-changed = rooms_same _ _ inside_is (fun_ext (λ q. each (eqb place q) q refl))

-- ---- who asks

-- what is known of whoever asks a room
pub record Asks (names : List (List ℕ)) (session : ℕ) (seat : Option Seat) (request : Request) (asker : Asker) : Type 0 where
  pub session_is : asker.session ≡ session
  pub owner : option_or (option_map (λ (s : Seat). s.place) seat) (named_place names (Some request)) ≡ Some asker.place
  pub site : site_at asker.place seat ≡ asker.site
  pub apart : (other : ℕ) → eqb asker.place other ≡ false → site_at other seat ≡ None

asks_in : (names : List (List ℕ)) (session : ℕ) (request : Request) (name : List ℕ) (o : Option ℕ) (asker : Asker) → room_to_enter request ≡ Some name → place_of names name ≡ o
    → option_map (λ place. record { session = session; place = place; site = None }) o ≡ Some asker → Asks names session None request asker
asks_in names session request name None asker e f g = absurd (cc)
asks_in names session request name (Some place) asker e f g =
    let same : record { session = session; place = place; site = None } ≡ asker = cc in
    subst (λ a. Asks names session None request a) same (record {
      session_is = refl;
      owner = ap (option_and_then (place_of names)) e ∙ f;
      site = refl;
      apart = λ other ne. refl;
    })

asks_by : (names : List (List ℕ)) (session : ℕ) (request : Request) (o : Option (List ℕ)) (asker : Asker) → room_to_enter request ≡ o
    → option_map (λ place. record { session = session; place = place; site = None }) (option_and_then (place_of names) o) ≡ Some asker → Asks names session None request asker
asks_by names session request None asker e g = absurd (cc)
asks_by names session request (Some name) asker e g = asks_in names session request name (place_of names name) asker e refl g

asks_of : (names : List (List ℕ)) (session : ℕ) (seat : Option Seat) (request : Request) (asker : Asker) → asker_of names session seat request ≡ Some asker → Asks names session seat request asker
asks_of names session None request asker e = asks_by names session request (room_to_enter request) asker refl e
asks_of names session (Some seat) request asker e =
    let same : record { session = session; place = seat.place; site = Some seat.site } ≡ asker = cc in
    subst (λ a. Asks names session (Some seat) request a) same (record {
      session_is = refl;
      owner = refl;
      site = rw (eq-eqb seat.place seat.place refl) refl;
      apart = λ other ne. ap (λ b. cond b (Some seat.site) None) ne;
    })

-- a request is answered by who asks
pub by_asker : (alone : Alone) (who : Option ℕ) (request : Request) (asked : Option NoteRequest) → answer_to alone who (Some request) asked ≡ asker_answer alone.room alone.in_use who request
by_asker alone (Some site) request asked = refl
by_asker alone None (request.Join name) asked = refl
by_asker alone None (request.Back name site) asked = refl
by_asker alone None (request.Change seq seen body) asked = refl
by_asker alone None (request.Show name) asked = refl
by_asker alone None (request.List from) asked = refl
by_asker alone None (request.Pull from waits) asked = refl
by_asker alone None request.Leave asked = refl

module _ (state : WorldState) (message : Message) (request : Request)
    (is_request : request_read message.bytes ≡ Some request)
  where
    owner_by : (o : Option ℕ) → option_or (option_map (λ (s : Seat). s.place) (seat_of state.seats message.session)) (named_place (names_of state) (Some request)) ≡ o → owner_of (names_of state) (rooms_of state) message ≡ o
    owner_by o e = ap (λ r. option_or (option_map (λ (s : Seat). s.place) (seat_of state.seats message.session)) (named_place (names_of state) r)) is_request ∙ e

    module _ (asker : Asker)
        (found : asker_of (names_of state) message.session (seat_of state.seats message.session) request ≡ Some asker)
      where
        asks : Asks (names_of state) message.session (seat_of state.seats message.session) request asker
        asks = asks_of (names_of state) message.session (seat_of state.seats message.session) request asker found

        pub owner_is : owner_of (names_of state) (rooms_of state) message ≡ Some asker.place
        owner_is = owner_by (Some asker.place) asks.owner

        pub answer_is : alone_answer (alone_at state asker.place) message ≡ place_answer state.rooms asker.place asker.site request
        answer_is =
            let room = room_at state.rooms asker.place in
            let in_use = use_at state.rooms asker.place in
            let who = site_at asker.place (seat_of state.seats message.session) in
            let asked = note_request_read message.bytes in
            let alone = alone_at state asker.place in
            ap (λ r. answer_to alone who r asked) is_request ∙ by_asker alone who request asked ∙ ap (λ w. asker_answer room in_use w request) asks.site

        pub asked_after : (new : WorldState) → asker.place < length state.rooms
            → rooms_in new.rooms ≡ set (rooms_in state.rooms) asker.place (with_entry (room_at state.rooms asker.place) (place_answer state.rooms asker.place asker.site request).1)
            → uses_in new.rooms ≡ set (uses_in state.rooms) asker.place (use_after_move (move_of (place_answer state.rooms asker.place asker.site request).0) asker.site (use_at state.rooms asker.place))
            → IsMoved state.seats new.seats (place_answer state.rooms asker.place asker.site request).0 asker.session asker.place
            → notes_of_rooms new.rooms ≡ set (notes_of_rooms state.rooms) asker.place (notes_after_move (move_of (place_answer state.rooms asker.place asker.site request).0) asker.site (notes_of state.rooms asker.place))
            → rooms_of new ≡ rooms_after (names_of state) (rooms_of state) message
        asked_after new within rooms uses seats notes =
            let outcome = place_answer state.rooms asker.place asker.site request in
            let used = subst (λ who. uses_in new.rooms ≡ set (uses_in state.rooms) asker.place (use_after_move (move_of outcome.0) who (use_at state.rooms asker.place))) (sym asks.site) uses in
            let who = site_at asker.place (seat_of state.seats message.session) in
            let move = move_of outcome.0 in
            let asked = note_request_read message.bytes in
            let had = notes_of state.rooms asker.place in
            let kept : notes_after_move move who (noted_by who (request_read message.bytes) asked had) ≡ notes_after_move move asker.site had =
            ap (λ r. notes_after_move move who (noted_by who r asked had)) is_request
            ∙ ap (notes_after_move move who) (not_noted who request asked had)
            ∙ ap (λ w. notes_after_move move w had) asks.site in
            rooms_of-changed state new message asker.place outcome within asks.apart answer_is rooms used (rw asks.session_is at seats)
            (notes ∙ ap (set (notes_of_rooms state.rooms) asker.place) (sym kept))
            ∙ ap (after_at (rooms_of state) message) (sym owner_is)

-- whoever asks a room asks one that is there
within_at : (rooms : List Named) (session : ℕ) (name : List ℕ) (o : Option ℕ) (asker : Asker) → place_of (names_in rooms) name ≡ o
    → option_map (λ place. record { session = session; place = place; site = None }) o ≡ Some asker → asker.place < length rooms
within_at rooms session name None asker f g = absurd (cc)
within_at rooms session name (Some place) asker f g =
    let same : record { session = session; place = place; site = None } ≡ asker = cc in
    subst (λ (a : Asker). a.place < length rooms) same (place_of_within rooms name place f)

within_by : (rooms : List Named) (session : ℕ) (request : Request) (o : Option (List ℕ)) (asker : Asker)
    → option_map (λ place. record { session = session; place = place; site = None }) (option_and_then (place_of (names_in rooms)) o) ≡ Some asker → asker.place < length rooms
within_by rooms session request None asker g = absurd (cc)
within_by rooms session request (Some name) asker g = within_at rooms session name (place_of (names_in rooms) name) asker refl g

pub asker_within : (state : WorldState) (session : ℕ) (seat : Option Seat) (request : Request) (asker : Asker) → SeatsWithin state.seats (length state.rooms) → seat_of state.seats session ≡ seat
    → asker_of (names_of state) session seat request ≡ Some asker → asker.place < length state.rooms
asker_within state session None request asker h e f = within_by state.rooms session request (room_to_enter request) asker f
asker_within state session (Some seat) request asker h e f =
    let same : record { session = session; place = seat.place; site = Some seat.site } ≡ asker = cc in
    subst (λ (a : Asker). a.place < length state.rooms) same (seat_within _ _ session seat h e)

pub both_ok : {T E P Q R : Type 0} (r : Result T E) → (P → Q → R) → OnOk r P → OnOk r Q → OnOk r R
both_ok (Ok x) f p q = f p q
both_ok (Err y) f p q = tt
