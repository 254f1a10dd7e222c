-- The room of a record's first entries, added one by one.
use Rattle.std.proofs.Common.{◌≡◌, ℕ, ◌+◌, ◌<◌, true, false, List, [], ◌∷◌, ◌++◌, length, get_or, take, drop, sym, ap, ◌∙◌, subst, Some, None, cond}
use Rattle.std.proofs.lemmas.List.{take_more, drop_more, take-append-drop}
use Rattle.rules.specs.declared.history.Entry.{Entry}
use Rattle.rules.specs.Limits.{full_limits}
use Rattle.rules.specs.Records.{admits, IsLegal}
use Rattle.rules.proofs.Records.{legal_push, admitted_at}
use Rattle.room_core.specs.Room.{Room, empty_room, full_room, with_entry}
use Rattle.room_core.specs.steps.Plans.{admitted}

-- the room has the first k of the entries, which are a legal record
pub record HasReplayed (entries : List Entry) (k : ℕ) (room : Room) : Type 0 where
  pub is : room ≡ full_room (take k entries)
  pub legal : IsLegal full_limits (take k entries)

pub replay_none : (entries : List Entry) (room : Room) → room ≡ empty_room full_limits → HasReplayed entries 0 room
replay_none entries room e = record { is = e; legal = tt }

admits_next : (entries : List Entry) (k : ℕ) (x : Entry) (old : Room) → x ≡ get_or entries k x → HasReplayed entries k old
    → admits full_limits (take k entries) (get_or entries k x) ≡ admits old.limits old.entries x
admits_next entries k x old is h =
    (λ i. admits full_limits (take k entries) (sym is i))
    ∙ (λ i. let room : Room = sym h.is i in admits room.limits room.entries x)

pub replay_more : (entries : List Entry) (k : ℕ) (x : Entry) (old new : Room) → k < length entries → x ≡ get_or entries k x
    → HasReplayed entries k old → true ≡ admits old.limits old.entries x → new ≡ with_entry old (admitted old x) → HasReplayed entries (k + 1) new
replay_more entries k x old new within is h taken added =
    let next = take_more entries k x within in
    record {
      is =
          added ∙ ap (λ b. with_entry old (cond b (Some x) None)) (sym taken)
          ∙ (λ i. with_entry (h.is i) (Some (is i)))
          ∙ ap full_room (sym next);
      legal = subst (IsLegal full_limits) (sym next)
          (legal_push full_limits (take k entries) (get_or entries k x) h.legal (admits_next entries k x old is h ∙ sym taken));
    }

pub replay_refused : (entries : List Entry) (k : ℕ) (x : Entry) (old : Room) → k < length entries → x ≡ get_or entries k x
    → HasReplayed entries k old → false ≡ admits old.limits old.entries x → IsLegal full_limits entries → false ≡ true
replay_refused entries k x old within is h refused legal =
    let whole : entries ≡ take k entries ++ get_or entries k x ∷ drop (k + 1) entries =
    sym (take-append-drop k entries) ∙ ap (λ l. take k entries ++ l) (drop_more entries k x within) in
    let fits = admitted_at full_limits [] (take k entries) (get_or entries k x) (drop (k + 1) entries) (subst (IsLegal full_limits) whole legal) in
    refused ∙ sym (admits_next entries k x old is h) ∙ fits
