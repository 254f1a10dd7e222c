-- The sites in use are those that sessions are in as, each by one session.
use Rattle.std.proofs.Common.{◌≡◌, ◌≢◌, ℕ, inl, inr, Bool, true, false, cond, eqb, List, [], ◌∷◌, get_or, zero, suc, Option, Some, None, refl, sym, ap, subst, ◌∙◌, ◌<◌, arith, length}
use Rattle.std.proofs.lemmas.Bool.{eq-eqb, eqb-true, eqb-false}
use Rattle.rules.specs.declared.limits.LimitValues.{LimitValues}
use Rattle.wire.specs.declared.request.Request.{Request}
use Rattle.wire.specs.declared.note.NoteRequest.{NoteRequest}
use Rattle.wire.specs.declared.note.NoteRequest.TheVariants.{Set, Read}
use Rattle.wire.specs.Notes.{Notes, no_notes, note_of}
use Rattle.wire_reader.specs.steps.Reads.{request_read, note_request_read}
use Rattle.room_core.specs.Room.{Room, empty_room, with_entry}
use Rattle.room_core.specs.Answers.{Outcome, has_site}
use Rattle.world.specs.Alone.{Alone, Message, after_move, use_after_move, move_of, noted_by, notes_after_move, alone_answer, alone_after, empty_alone}
use Rattle.world.specs.Rooms.{AreEmpty, owners, of_owner}
use Rattle.world.specs.steps.Ends.{rooms_end, alone_end}
use Rattle.world.specs.steps.State.{uses_in, names_of, notes_of_rooms, empty_rooms, alone_at, rooms_of, new_world, no_site}
use Rattle.world.specs.steps.Seated.{IsSeated}
use Rattle.world.proofs.Moves.{Moves, answer_moves, still_joined}
use Rattle.world.proofs.UsedSites.{nobody_in}
use Rattle.world.proofs.Runs.{end_law}

-- sites with notes are in use
abbrev AreInUse : Alone → Notes → Type 0
AreInUse alone notes = (site : ℕ) → notes site ≢ None → alone.in_use site ≡ true

-- a room with these notes after a move of a session, which was in as a site or in none
abbrev moved : Alone → Notes → Room → ℕ → Option ℕ → Option (Option ℕ) → Alone
moved alone notes room session who move = record {
  room = room;
  site_of = after_move move (λ site. site) session alone.site_of;
  in_use = use_after_move move who alone.in_use;
  notes = notes_after_move move who notes;
}

module _ (alone : Alone) (seated : IsSeated alone) (notes : Notes) (noted : AreInUse alone notes) (session : ℕ) (room : Room) (kept : (site : ℕ) → has_site alone.room site ≡ true → has_site room site ≡ true) where
  stays : (who : Option ℕ) → IsSeated (moved alone notes room session who None)
  stays who = record {
    used = seated.used;
    apart = seated.apart;
    joined = λ site u. kept site (seated.joined site u);
    noted = noted;
  }

  -- ---- a session enters
  module _ (site : ℕ) (was_out : alone.site_of session ≡ None) (free : alone.in_use site ≡ false) (has : has_site room site ≡ true) where
    nobody : (q : ℕ) → alone.site_of q ≡ Some site → ⊥
    nobody q e = let u : alone.in_use site ≡ true = (seated.used site).1 (q, e) in cc

    other_by : (b : Bool) (q t : ℕ) → eqb session q ≡ b → alone.site_of q ≡ Some t → b ≡ false
    other_by false q t e f = refl
    other_by true q t e f = let out : alone.site_of q ≡ None = subst (λ s. alone.site_of s ≡ None) (eqb-true session q e) was_out in absurd (cc)

    or_true : (b now : Bool) → now ≡ true → cond b true now ≡ true
    or_true true now e = refl
    or_true false now e = e

    who_enters : (t : ℕ) (b : Bool) → eqb site t ≡ b → cond b true (alone.in_use t) ≡ true → (q : ℕ) × (cond (eqb session q) (Some site) (alone.site_of q) ≡ Some t)
    who_enters t true e u = (session, rw (eq-eqb session session refl) (ap Some (eqb-true site t e)))
    who_enters t false e u =
        let w = (seated.used t).0 u in
        (w.0, ap (λ b. cond b (Some site) (alone.site_of w.0)) (other_by (eqb session w.0) w.0 t refl w.1) ∙ w.1)

    use_enters : (t q : ℕ) (b : Bool) → cond b (Some site) (alone.site_of q) ≡ Some t → cond (eqb site t) true (alone.in_use t) ≡ true
    use_enters t q true f = let same : site ≡ t = cc in ap (λ b. cond b true (alone.in_use t)) (eq-eqb site t same)
    use_enters t q false f = or_true (eqb site t) (alone.in_use t) ((seated.used t).1 (q, f))

    apart_enters : (t p q : ℕ) (b c : Bool) → eqb session p ≡ b → eqb session q ≡ c
        → cond b (Some site) (alone.site_of p) ≡ Some t → cond c (Some site) (alone.site_of q) ≡ Some t → p ≡ q
    apart_enters t p q true true e f x y = sym (eqb-true session p e) ∙ eqb-true session q f
    apart_enters t p q true false e f x y = absurd (nobody q (y ∙ sym x))
    apart_enters t p q false true e f x y = absurd (nobody p (x ∙ sym y))
    apart_enters t p q false false e f x y = seated.apart t p q x y

    joined_enters : (t : ℕ) (b : Bool) → eqb site t ≡ b → cond b true (alone.in_use t) ≡ true → has_site room t ≡ true
    joined_enters t true e u = subst (λ s. has_site room s ≡ true) (eqb-true site t e) has
    joined_enters t false e u = kept t (seated.joined t u)

    enters : (who : Option ℕ) → IsSeated (moved alone notes room session who (Some (Some site)))
    enters who = record {
      used = λ t. (who_enters t (eqb site t) refl, λ (q, e). use_enters t q (eqb session q) e);
      apart = λ t p q. apart_enters t p q (eqb session p) (eqb session q) refl refl;
      joined = λ t. joined_enters t (eqb site t) refl;
      noted = λ t n. or_true (eqb site t) (alone.in_use t) (noted t n);
    }

  -- ---- a session leaves
  module _ (site : ℕ) (was_in : alone.site_of session ≡ Some site) where
    apart_by : (b : Bool) (q t : ℕ) → eqb session q ≡ b → alone.site_of q ≡ Some t → eqb site t ≡ false → b ≡ false
    apart_by false q t e f g = refl
    apart_by true q t e f g =
        let his : alone.site_of q ≡ Some site = subst (λ s. alone.site_of s ≡ Some site) (eqb-true session q e) was_in in
        let same : site ≡ t = cc in
        absurd (eqb-false site t g same)

    who_stays : (t : ℕ) (b : Bool) → eqb site t ≡ b → cond b false (alone.in_use t) ≡ true → (q : ℕ) × (cond (eqb session q) None (alone.site_of q) ≡ Some t)
    who_stays t true e u = absurd (cc)
    who_stays t false e u =
        let w = (seated.used t).0 u in
        (w.0, ap (λ b. cond b None (alone.site_of w.0)) (apart_by (eqb session w.0) w.0 t refl w.1 e) ∙ w.1)

    was_there : (q t : ℕ) (b : Bool) → cond b None (alone.site_of q) ≡ Some t → alone.site_of q ≡ Some t
    was_there q t true e = absurd (cc)
    was_there q t false e = e

    use_stays : (t q : ℕ) (b c : Bool) → eqb session q ≡ b → eqb site t ≡ c → cond b None (alone.site_of q) ≡ Some t → cond c false (alone.in_use t) ≡ true
    use_stays t q true c e f x = absurd (cc)
    use_stays t q false true e f x = absurd (eqb-false session q e (seated.apart t session q (was_in ∙ ap Some (eqb-true site t f)) x))
    use_stays t q false false e f x = (seated.used t).1 (q, x)

    joined_stays : (t : ℕ) (b : Bool) → cond b false (alone.in_use t) ≡ true → has_site room t ≡ true
    joined_stays t true u = absurd (cc)
    joined_stays t false u = kept t (seated.joined t u)

    noted_stays : (t : ℕ) (b : Bool) → cond b None (notes t) ≢ None → cond b false (alone.in_use t) ≡ true
    noted_stays t true n = absurd (n refl)
    noted_stays t false n = noted t n

    leaves : IsSeated (moved alone notes room session (Some site) (Some None))
    leaves = record {
      used = λ t. (who_stays t (eqb site t) refl, λ (q, e). use_stays t q (eqb session q) (eqb site t) refl refl e);
      apart = λ t p q x y. seated.apart t p q (was_there p t (eqb session p) x) (was_there q t (eqb session q) y);
      joined = λ t. joined_stays t (eqb site t);
      noted = λ t. noted_stays t (eqb site t);
    }

-- ---- a message

module _ (alone : Alone) (seated : IsSeated alone) (session : ℕ) where
  set_by : (site t : ℕ) (text : List ℕ) (b : Bool) → alone.site_of session ≡ Some site → eqb site t ≡ b → cond b (note_of text) (alone.notes t) ≢ None → alone.in_use t ≡ true
  set_by site t text true in_as e n = subst (λ s. alone.in_use s ≡ true) (eqb-true site t e) ((seated.used site).1 (session, in_as))
  set_by site t text false in_as e n = seated.noted t n

  noted_in : (who : Option ℕ) (asks : Option Request) (asked : Option NoteRequest) → alone.site_of session ≡ who → AreInUse alone (noted_by who asks asked alone.notes)
  noted_in None asks asked e t n = seated.noted t n
  noted_in (Some site) (Some asks) asked e t n = seated.noted t n
  noted_in (Some site) None None e t n = seated.noted t n
  noted_in (Some site) None (Some Read) e t n = seated.noted t n
  noted_in (Some site) None (Some (Set text)) e t n = set_by site t text (eqb site t) e refl n

module _ (alone : Alone) (seated : IsSeated alone) (notes : Notes) (noted : AreInUse alone notes) (session : ℕ) where
  seated_by : (outcome : Outcome) → Moves alone.room alone.in_use (alone.site_of session) outcome
      → IsSeated (moved alone notes (with_entry alone.room outcome.1) session (alone.site_of session) (move_of outcome.0))
  seated_by outcome (inl stay) =
      let room = with_entry alone.room outcome.1 in
      subst (λ move. IsSeated (moved alone notes room session (alone.site_of session) move)) (sym stay)
      (stays alone seated notes noted session room (still_joined alone.room outcome.1) (alone.site_of session))
  seated_by outcome (inr (inl e)) =
      let room = with_entry alone.room outcome.1 in
      subst (λ move. IsSeated (moved alone notes room session (alone.site_of session) move)) (sym e.moves)
      (enters alone seated notes noted session room (still_joined alone.room outcome.1) e.site e.was_out e.free e.joined (alone.site_of session))
  seated_by outcome (inr (inr l)) =
      let room = with_entry alone.room outcome.1 in
      subst (λ move. IsSeated (moved alone notes room session (alone.site_of session) move)) (sym l.moves)
      (subst (λ who. IsSeated (moved alone notes room session who (Some None))) (sym l.was_in)
      (leaves alone seated notes noted session room (still_joined alone.room outcome.1) l.site l.was_in))

pub seated_after : (alone : Alone) (message : Message) → IsSeated alone → IsSeated (alone_after alone message)
seated_after alone message seated =
    let who = alone.site_of message.session in
    let asks = request_read message.bytes in
    let asked = note_request_read message.bytes in
    seated_by alone seated (noted_by who asks asked alone.notes) (noted_in alone seated message.session who asks asked refl) message.session (alone_answer alone message)
    (answer_moves alone seated.joined who asks asked)

-- messages, one after the other
pub seated_end : (alone : Alone) (messages : List Message) → IsSeated alone → IsSeated (alone_end alone messages)
seated_end alone [] seated = seated
seated_end alone (message ∷ messages) seated = seated_end (alone_after alone message) messages (seated_after alone message seated)

-- ---- at the start

seated_if_empty : (alone : Alone) → ((site : ℕ) → alone.in_use site ≡ false) → ((session : ℕ) → alone.site_of session ≡ None) → ((site : ℕ) → alone.notes site ≡ None) → IsSeated alone
seated_if_empty alone free out bare = record {
  used = λ site. (λ u. let no = free site in absurd (cc), λ (q, e). let no = out q in absurd (cc));
  apart = λ site one other e f. let no = out one in absurd (cc);
  joined = λ site u. let no = free site in absurd (cc);
  noted = λ site n. absurd (n (bare site));
}

pub seated_empty : (limits : LimitValues) → IsSeated (empty_alone limits)
seated_empty limits = seated_if_empty (empty_alone limits) (λ site. refl) (λ session. refl) (λ site. refl)

free_at : (names : List (List ℕ)) (limits : LimitValues) (place site : ℕ) → get_or (uses_in (empty_rooms names limits)) place no_site site ≡ false
free_at [] limits place site = refl
free_at (name ∷ names) limits zero site = nobody_in site
free_at (name ∷ names) limits (suc place) site = free_at names limits place site

bare_at : (names : List (List ℕ)) (limits : LimitValues) (place site : ℕ) → get_or (notes_of_rooms (empty_rooms names limits)) place no_notes site ≡ None
bare_at [] limits place site = refl
bare_at (name ∷ names) limits zero site = refl
bare_at (name ∷ names) limits (suc place) site = bare_at names limits place site

-- each room of a new world, after any messages
pub seated_rooms : (names : List (List ℕ)) (limits : LimitValues) (place : ℕ) (messages : List Message) → IsSeated ((rooms_end names (rooms_of (new_world names limits)) messages).alone place)
seated_rooms names limits place messages =
    let start = rooms_of (new_world names limits) in
    let first = alone_at (new_world names limits) place in
    subst IsSeated (sym (end_law names place start messages))
    (seated_end first (of_owner (Some place) (owners names start messages) messages) (seated_if_empty first (free_at names limits place) (λ session. refl) (bare_at names limits place)))

-- a new world is empty rooms of its names
pub names_new : (names : List (List ℕ)) (limits : LimitValues) → names_of (new_world names limits) ≡ names
names_new [] limits = refl
names_new (name ∷ names) limits = ap (λ (ns : List (List ℕ)). name ∷ ns) (names_new names limits)

alone_new : (names : List (List ℕ)) (limits : LimitValues) (place : ℕ) → place < length names → alone_at (new_world names limits) place ≡ empty_alone limits
alone_new [] limits place l = absurd (omega (arith, l))
alone_new (name ∷ names) limits zero l = λ i. record {
  room = empty_room limits;
  site_of = λ session. None;
  in_use = λ site. nobody_in site i;
  notes = no_notes;
}
alone_new (name ∷ names) limits (suc place) l = alone_new names limits place (omega (arith, l))

pub new_is_empty : (names : List (List ℕ)) (limits : LimitValues) → AreEmpty limits (length names) (rooms_of (new_world names limits))
new_is_empty names limits = record { inside = λ session. refl; alone = alone_new names limits }
