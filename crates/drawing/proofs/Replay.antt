-- A drawing with one more entry is the replay of its record with that entry.
use Rattle.std.proofs.Common.{◌≡◌, ◌+◌, ◌<◌, Bool, true, false, List, [], ◌∷◌, ◌++◌, length, sym, ap, ◌∙◌, subst, arith, Some, None, leb, cond}
use Rattle.std.specs.List.{IsDistinct}
use Rattle.std.specs.Map.{keys_of, lookup, set_value}
use Rattle.std.proofs.lemmas.Bool.{leb-false}
use Rattle.std.proofs.lemmas.List.{length_push}
use Rattle.base_types.specs.Names.{Name, same_name}
use Rattle.rules.specs.declared.history.Op.{Op}
use Rattle.rules.specs.declared.history.Entry.{Entry}
use Rattle.rules.specs.declared.history.Entry.TheVariants.{Operation}
use Rattle.rules.specs.declared.refusal.Refusal.TheVariants.{TooManyObjects}
use Rattle.rules.specs.Admission.{count_at_site, first_that_applies}
use Rattle.rules.specs.Bodies.{is_change_body}
use Rattle.rules.specs.Operations.{object_of}
use Rattle.rules.specs.Records.{operation_in, operations, objects, creation_conditions, change_conditions}
use Rattle.rules.proofs.Conditions.{not_first}
use Rattle.rules.proofs.Founded.{HasGround, founded_push, ground_if}
use Rattle.rules.proofs.Histories.{IsNumbered, follows_if}
use Rattle.rules.proofs.Records.{operations-alone, operations-push, objects-alone}
use Rattle.shape.specs.steps.Objects.{Stored, with_change}
use Rattle.shape.proofs.Next.{next_history, next_ordered, numbered_if}
use Rattle.drawing.specs.steps.Additions.{IsNext, body_refusal}
use Rattle.drawing.specs.steps.Drawing.{IsReplay, IsSound}
use Rattle.drawing.specs.Room.{Room}
use Rattle.drawing.proofs.Lookup.{none_there}
use Rattle.drawing.proofs.NewNames.{no_change_yet, not_created}
use Rattle.drawing.proofs.OneMore.{length-objects-creation, objects-change, with_alone, with_creation, with_change_on}
use Rattle.drawing.proofs.WithChanges.{objects_with_changes_same}

-- the room with one more entry
abbrev pub more : Room → Entry → Room
more room entry = record { limits = room.limits; entries = room.entries ++ entry ∷ [] }

-- ---- why what an operation does is refused, by its body

module _ (room : Room) (o : Op) where
  abbrev of_body : Bool → Type 0
  of_body b = first_that_applies (cond b (change_conditions room.limits (operations room.entries) o) (creation_conditions room.limits room.entries)) ≡ None

  -- a change that isn't refused has its object and its base
  pub ground : body_refusal room o ≡ None → is_change_body o.body ≡ true → HasGround (operations room.entries) o
  ground allowed change = ground_if room.limits (operations room.entries) o (subst of_body change allowed)

  -- a creation that isn't finds room for an object
  pub fits_one_more : body_refusal room o ≡ None → is_change_body o.body ≡ false → length (objects room.entries) < room.limits.objects
  fits_one_more allowed creates =
      leb-false _ _ (not_first (leb room.limits.objects (length (objects room.entries)), TooManyObjects) [] (subst of_body creates allowed)).0

-- ---- one more entry

module _ (room : Room) (shapes : List (Name × Stored)) (history : List Op) (replay : IsReplay room shapes history) where
  abbrev r : List Entry
  r = room.entries

  abbrev h : List Op
  h = operations r

  pub replay_alone : (e : Entry) → operation_in e ≡ None → length r < room.limits.entries → IsReplay (more room e) shapes history
  replay_alone e none room_for = record {
    sound = subst IsSound (sym (operations-alone r e none)) replay.sound;
    shapes_are = with_alone room.limits r shapes replay.shapes_are e none;
    past = replay.past ∙ sym (operations-alone r e none);
    short = (let l = length_push r e in omega (arith, l, room_for));
    fits = (let l = ap length (objects-alone r e none) in omega (arith, l, replay.fits));
  }

  module _ (o : Op) (next : IsNext room o) where
    numbered : IsNumbered h
    numbered = numbered_if replay.sound.history

    next_seq : o.name.1 ≡ count_at_site h o.name.0 + 1
    next_seq = (follows_if h o next.ready next.vector).seq

    -- an operation that is next creates no object that is there
    pub new_name : lookup (same_name o.name) shapes ≡ None
    new_name = none_there room.limits r shapes replay.shapes_are o.name (not_created h numbered o next_seq)

    module _ (allowed : body_refusal room o ≡ None) where
      sound_after : IsSound (operations (r ++ Operation o ∷ []))
      sound_after =
          let s = replay.sound in
          let history_after = next_history h o s.history s.ordered next.ready next.vector in
          subst IsSound (sym (operations-push r o)) (record {
            history = history_after;
            ordered = next_ordered h o s.history s.ordered next.ready next.vector;
            founded = founded_push h o s.history s.founded history_after (ground room o allowed);
          })

      past_after : history ++ o ∷ [] ≡ operations (r ++ Operation o ∷ [])
      past_after = ap (λ (k : List Op). k ++ o ∷ []) replay.past ∙ sym (operations-push r o)

      pub replay_creation : (d : Stored) → is_change_body o.body ≡ false → d.object ≡ record { limits = room.limits; creation = o; changes = [] }
          → IsReplay (more room (Operation o)) (shapes ++ (o.name, d) ∷ []) (history ++ o ∷ [])
      replay_creation d creates made = record {
        sound = sound_after;
        shapes_are = with_creation room.limits r shapes replay.shapes_are o d creates (no_change_yet h numbered o next_seq replay.sound.founded) made;
        past = past_after;
        short = (let e = length_push r (Operation o) in let s = next.short in omega (arith, e, s));
        fits = (let e = length-objects-creation r o creates in let f = fits_one_more room o allowed creates in omega (arith, e, f));
      }

      pub replay_change : (d w : Stored) → is_change_body o.body ≡ true → IsDistinct same_name (keys_of shapes)
          → lookup (same_name (object_of o)) shapes ≡ Some d → w.object ≡ with_change d.object o
          → IsReplay (more room (Operation o)) (set_value (same_name (object_of o)) shapes w) (history ++ o ∷ [])
      replay_change d w changes unique there taken = record {
        sound = sound_after;
        shapes_are = with_change_on room.limits r shapes replay.shapes_are o d w changes unique there taken;
        past = past_after;
        short = (let e = length_push r (Operation o) in let s = next.short in omega (arith, e, s));
        fits = (let e = ap length (objects-change r o changes) in omega (arith, e, replay.fits));
      }

  -- an object that stays, in another's place
  pub replay_same : (t : Name → Bool) (d w : Stored) → lookup t shapes ≡ Some d → w.object ≡ d.object → IsReplay room (set_value t shapes w) history
  replay_same t d w there same = record {
    sound = replay.sound;
    shapes_are = objects_with_changes_same t d w shapes there same ∙ replay.shapes_are;
    past = replay.past;
    short = replay.short;
    fits = replay.fits;
  }

-- the same for another name of the entry
pub pushed : (room : Room) (shapes : List (Name × Stored)) (history : List Op) (x entry : Entry) → x ≡ entry → IsReplay (more room entry) shapes history → IsReplay (more room x) shapes history
pushed room shapes history x entry is = subst (λ e. IsReplay (more room e) shapes history) (sym is)
