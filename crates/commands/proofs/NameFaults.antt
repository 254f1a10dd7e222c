-- The faults of names of which one is bad or stands twice.
use Rattle.std.proofs.Common.{◌≡◌, ◌≢◌, ℕ, ◌<◌, List, [], ◌∷◌, ◌&&◌, length, get_or, map, zero, suc, Bool, true, false, Result, Ok, Err, IfErr, IsErrAnd, Some, cond, bytes_eq, refl, sym, subst, ap, ◌∙◌, arith}
use Rattle.std.proofs.Math.Bool.{and-false}
use Rattle.std.specs.List.{list_all}
use Rattle.std.specs.Option.{option_map}
use Rattle.base_types.specs.Repeats.{first_repeat}
use Rattle.base_types.specs.RoomNames.{is_first_name}
use Rattle.base_types.specs.declared.fault.NameFault.{NameFault}
use Rattle.base_types.specs.declared.fault.NameFault.TheVariants as name
use Rattle.base_types.specs.declared.fault.RoomsFault.{RoomsFault}
use Rattle.base_types.specs.declared.fault.RoomsFault.TheVariants as rooms
use Rattle.command_fault.specs.declared.fault.Fault.{Fault}
use Rattle.command_fault.specs.declared.fault.Fault.TheVariants.{BadRoomName, RoomNamedTwice, NoMemory}
use Rattle.command_fault.specs.steps.Faults.{of_name}
use Rattle.commands.specs.steps.Faults.{of_rooms}
use Rattle.commands.specs.steps.Statuses.{MayEnd}

-- one member fails
pub one_fails : {X Y : Type 0} (p : Y → Bool) (f : X → Y) (xs : List X) (i : ℕ) (x : X) → i < length xs → p (f (get_or xs i x)) ≡ false → list_all p (map f xs) ≡ false
one_fails p f [] i x within fails = absurd (omega (arith, within))
one_fails p f (y ∷ xs) zero x within fails = ap (λ b. b && list_all p (map f xs)) fails
one_fails p f (y ∷ xs) (suc i) x within fails = ap (λ b. p (f y) && b) (one_fails p f xs i x (omega (arith, within)) fails) ∙ and-false (p (f y))

bad_name : (fault : NameFault) → of_name fault ≢ NoMemory → (fault ≢ name.NoMemory) × (of_name fault ≡ BadRoomName)
bad_name name.Empty other = (λ e. absurd (cc), refl)
bad_name name.TooLong other = (λ e. absurd (cc), refl)
bad_name (name.BadByte place) other = (λ e. absurd (cc), refl)
bad_name name.BadNumber other = (λ e. absurd (cc), refl)
bad_name name.NoMemory other = absurd (other refl)

-- the fault of a name that is none
pub name_fault : {T P : Type 0} (r : Result T Fault) (fault : NameFault) → IsErrAnd r (λ e. e ≡ of_name fault) → (fault ≢ name.NoMemory → P)
    → IfErr r (λ e. e ≢ NoMemory → (e ≡ BadRoomName) × P)
name_fault (Ok x) fault is bad = absurd is
name_fault (Err e) fault is bad = λ other. let known = bad_name fault (λ n. other (is ∙ n)) in (is ∙ known.1, bad known.0)

-- the fault of names of which one stands twice
pub repeat_fault : {T : Type 0} (r : Result T Fault) (fault : RoomsFault) (names given : List (List ℕ)) → IsErrAnd r (λ e. e ≡ of_rooms fault) → list_all is_first_name names ≡ true → given ≡ names
    → ((place : ℕ) → fault ≡ rooms.SameName place → first_repeat bytes_eq given ≡ Some place) → IfErr r (MayEnd names)
repeat_fault (Ok x) fault names given is good same twice = absurd is
repeat_fault (Err e) rooms.NoMemory names given is good same twice = subst (MayEnd names) (sym is) tt
repeat_fault (Err e) (rooms.SameName place) names given is good same twice =
    subst (MayEnd names) (sym is)
    (ap (λ b. cond b (option_map (λ (place : ℕ). RoomNamedTwice) (first_repeat bytes_eq names)) (Some BadRoomName)) good
    ∙ ap (λ ns. option_map (λ (place : ℕ). RoomNamedTwice) (first_repeat bytes_eq ns)) (sym same)
    ∙ ap (option_map (λ (place : ℕ). RoomNamedTwice)) (twice place refl))
