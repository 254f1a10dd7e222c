-- The place of a name.
use Rattle.std.proofs.Common.{sym, ◌≡◌, ℕ, ◌+◌, ◌<◌, List, [], ◌∷◌, length, get_or, set, zero, suc, Option, Some, None, ltb, Bool, cond, not, position, refl, ap, ◌∙◌, bytes_eq, arith}
use Rattle.std.specs.List.{position_or_len}
use Rattle.std.proofs.lemmas.List.{map-set, length-map}
use Rattle.std.proofs.lemmas.List.Quantifiers.{position-Some}
use Rattle.room_core.specs.Room.{Room}
use Rattle.wire.specs.declared.request.Request.{Request}
use Rattle.wire.specs.Notes.{Notes}
use Rattle.notes.specs.Notes.{notes_at}
use Rattle.world.specs.Alone.{use_after_move, move_of, notes_after_move}
use Rattle.world.specs.Rooms.{place_of}
use Rattle.world.specs.steps.State.{Named, names_in, no_room, rooms_in, room_at, is_used, uses_in, use_at, notes_of_rooms, notes_of, no_site}
use Rattle.world.specs.steps.Steps.{asker_answer, place_answer}

-- one room is replaced by another of its name
pub names_set : (rooms : List Named) (i : ℕ) (old new : Named) → old ≡ get_or rooms i old → new.name ≡ old.name → names_in (set rooms i new) ≡ names_in rooms
names_set [] i old new e f = refl
names_set (r ∷ rs) zero old new e f = ap (λ x. x ∷ names_in rs) (f ∙ ap (λ (x : Named). x.name) e)
names_set (r ∷ rs) (suc i) old new e f = ap (λ xs. r.name ∷ xs) (names_set rs i old new e f)

pub rooms_set : (rooms : List Named) (i : ℕ) (new : Named) (target : Room) → new.room ≡ target → rooms_in (set rooms i new) ≡ set (rooms_in rooms) i target
rooms_set rooms i new target e = map-set (λ (room : Named). room.room) rooms i new ∙ ap (set (rooms_in rooms) i) e

pub room_at_read : (rooms : List Named) (i : ℕ) (room : Named) → i < length rooms → room ≡ get_or rooms i room → room.room ≡ room_at rooms i
room_at_read [] i room lt e = absurd (omega arith)
room_at_read (r ∷ rs) zero room lt e = ap (λ (x : Named). x.room) e
room_at_read (r ∷ rs) (suc i) room lt e = room_at_read rs i room (omega arith) e

use_at_read : (rooms : List Named) (i : ℕ) (room : Named) → i < length rooms → room ≡ get_or rooms i room → is_used room.in_use ≡ use_at rooms i
use_at_read [] i room lt e = absurd (omega arith)
use_at_read (r ∷ rs) zero room lt e = ap (λ (x : Named). is_used x.in_use) e
use_at_read (r ∷ rs) (suc i) room lt e = use_at_read rs i room (omega arith) e

-- the sites in use, once the room at a place has answered
pub uses_after : (rooms : List Named) (i : ℕ) (old new : Named) (who : Option ℕ) (request : Request) → i < length rooms → old ≡ get_or rooms i old
    → is_used new.in_use ≡ use_after_move (move_of (asker_answer old.room (is_used old.in_use) who request).0) who (is_used old.in_use)
    → uses_in (set rooms i new) ≡ set (uses_in rooms) i (use_after_move (move_of (place_answer rooms i who request).0) who (use_at rooms i))
uses_after rooms i old new who request lt e f =
    map-set (λ (room : Named). is_used room.in_use) rooms i new
    ∙ ap (set (uses_in rooms) i)
    (f
    ∙ ap (λ room. use_after_move (move_of (asker_answer room (is_used old.in_use) who request).0) who (is_used old.in_use)) (room_at_read rooms i old lt e)
    ∙ ap (λ (in_use : ℕ → Bool). use_after_move (move_of (asker_answer (room_at rooms i) in_use who request).0) who in_use) (use_at_read rooms i old lt e))

pub notes_of_read : (rooms : List Named) (i : ℕ) (room : Named) → i < length rooms → room ≡ get_or rooms i room → notes_at room.notes ≡ notes_of rooms i
notes_of_read [] i room lt e = absurd (omega arith)
notes_of_read (r ∷ rs) zero room lt e = ap (λ (x : Named). notes_at x.notes) e
notes_of_read (r ∷ rs) (suc i) room lt e = notes_of_read rs i room (omega arith) e

-- the notes, once those of the room at a place are these
pub notes_set : (rooms : List Named) (i : ℕ) (new : Named) (target : Notes) → notes_at new.notes ≡ target → notes_of_rooms (set rooms i new) ≡ set (notes_of_rooms rooms) i target
notes_set rooms i new target e = map-set (λ (room : Named). notes_at room.notes) rooms i new ∙ ap (set (notes_of_rooms rooms) i) e

-- once the room at a place has answered
pub notes_after_answer : (rooms : List Named) (i : ℕ) (old new : Named) (who : Option ℕ) (request : Request) → i < length rooms → old ≡ get_or rooms i old
    → notes_at new.notes ≡ notes_after_move (move_of (asker_answer old.room (is_used old.in_use) who request).0) who (notes_at old.notes)
    → notes_of_rooms (set rooms i new) ≡ set (notes_of_rooms rooms) i (notes_after_move (move_of (place_answer rooms i who request).0) who (notes_of rooms i))
notes_after_answer rooms i old new who request lt e f =
    notes_set rooms i new _
    (f
    ∙ ap (λ room. notes_after_move (move_of (asker_answer room (is_used old.in_use) who request).0) who (notes_at old.notes)) (room_at_read rooms i old lt e)
    ∙ ap (λ (in_use : ℕ → Bool). notes_after_move (move_of (asker_answer (room_at rooms i) in_use who request).0) who (notes_at old.notes)) (use_at_read rooms i old lt e)
    ∙ ap (notes_after_move (move_of (place_answer rooms i who request).0) who) (notes_of_read rooms i old lt e))

-- what stands at a place stays there
pub set_same : {A : Type 0} (xs : List A) (i : ℕ) (other : A) → set xs i (get_or xs i other) ≡ xs
set_same [] i other = refl
set_same (x ∷ xs) zero other = refl
set_same (x ∷ xs) (suc i) other = ap (λ ys. x ∷ ys) (set_same xs i other)

-- the room at a place is replaced by one with other notes
pub same_rooms : (rooms : List Named) (i : ℕ) (old new : Named) → i < length rooms → old ≡ get_or rooms i old → new.room ≡ old.room → rooms_in (set rooms i new) ≡ rooms_in rooms
same_rooms rooms i old new lt e f = rooms_set rooms i new (room_at rooms i) (f ∙ room_at_read rooms i old lt e) ∙ set_same (rooms_in rooms) i no_room

pub same_uses : (rooms : List Named) (i : ℕ) (old new : Named) → i < length rooms → old ≡ get_or rooms i old → new.in_use ≡ old.in_use → uses_in (set rooms i new) ≡ uses_in rooms
same_uses rooms i old new lt e f =
    map-set (λ (room : Named). is_used room.in_use) rooms i new
    ∙ ap (set (uses_in rooms) i) (ap is_used f ∙ use_at_read rooms i old lt e)
    ∙ set_same (uses_in rooms) i no_site

-- the names stand in the rooms' order
first_of : (rooms : List Named) (name : List ℕ) → position_or_len (λ room. bytes_eq room.name name) rooms ≡ position_or_len (λ other. bytes_eq other name) (names_in rooms)
first_of [] name = refl
first_of (room ∷ rooms) name = ap (λ n. cond (not (bytes_eq room.name name)) (1 + n) 0) (first_of rooms name)

pub place_of_found : (rooms : List Named) (name : List ℕ) (o : Option ℕ) → o ≡ position (λ room. bytes_eq room.name name) rooms → o ≡ place_of (names_in rooms) name
place_of_found rooms name o e =
    e ∙ ap (λ n. cond (ltb n (length rooms)) (Some n) None) (first_of rooms name)
    ∙ ap (λ k. cond (ltb (position_or_len (λ other. bytes_eq other name) (names_in rooms)) k) (Some (position_or_len (λ other. bytes_eq other name) (names_in rooms))) None) (sym (length-map rooms (λ (room : Named). room.name)))

pub place_of_within : (rooms : List Named) (name : List ℕ) (place : ℕ) → place_of (names_in rooms) name ≡ Some place → place < length rooms
place_of_within rooms name place e =
    let within : place < length (names_in rooms) = (position-Some (λ other. bytes_eq other name) (names_in rooms) place [] e).0 in
    omega (arith, within, length-map rooms (λ (room : Named). room.name))

pub same_length : (rooms others : List Named) → names_in others ≡ names_in rooms → length others ≡ length rooms
same_length rooms others e = sym (length-map others (λ (room : Named). room.name)) ∙ ap length e ∙ length-map rooms (λ (room : Named). room.name)
