-- The seats of sessions, in a map.
use Rattle.std.proofs.Common.{◌≡◌, ℕ, ◌<◌, List, [], ◌∷◌, Option, Some, None, true, false, cond, eqb, IfSome, Result, Ok, Err, IfOk, OnOk, OnErr, refl, sym, subst, ap, ◌∙◌, inl, inr, arith}
use Rattle.std.specs.Ordering.{nat_cmp, is_eq}
use Rattle.std.specs.declared.cmp.Ordering.TheVariants.{Less, Equal, Greater}
use Rattle.std.specs.Cmp.{nat_cmp_is}
use Rattle.std.specs.BTreeMap.{is_at}
use Rattle.std.specs.Map.{lookup}
use Rattle.std.proofs.lemmas.Bool.{cases_order, eq-eqb, ne_eqb}
use Rattle.world.specs.declared.seats.Seat.{Seat}
use Rattle.world.specs.declared.seats.Asker.{Asker}
use Rattle.wire.specs.declared.reply.Reply.{Reply}
use Rattle.world.specs.Alone.{move_of, after_move}
use Rattle.world.specs.steps.State.{WorldState, Named, seat_of}
use Rattle.world.specs.steps.Seated.{SeatsWithin}
use Rattle.world.specs.steps.Steps.{seat_in, IsMoved, RepliesTo}

-- the test of a number in a tree is equality
is_at-nat : (a b : ℕ) → is_at (nat_cmp a) b ≡ eqb a b
is_at-nat a b = elim (cases_order a b) [
  | inl e ↦ ap is_eq (sym (nat_cmp_is a b Equal e)) ∙ sym (eq-eqb a b e)
  | inr h ↦ elim h [
    | inl l ↦ ap is_eq (sym (nat_cmp_is a b Less l)) ∙ sym (ne_eqb a b (λ e. omega arith))
    | inr g ↦ ap is_eq (sym (nat_cmp_is a b Greater g)) ∙ sym (ne_eqb a b (λ e. omega arith))
  ]
]

lookup-is_at : {X : Type 0} (session : ℕ) (es : List (ℕ × X)) → lookup (is_at (nat_cmp session)) es ≡ lookup (λ key. eqb session key) es
lookup-is_at session [] = refl
lookup-is_at session (e ∷ es) =
    ap (λ b. cond b (Some e.1) (lookup (is_at (nat_cmp session)) es)) (is_at-nat session e.0)
    ∙ ap (cond (eqb session e.0) (Some e.1)) (lookup-is_at session es)

-- what a change of one key does to the seats
pub seat_of-changed : (old new : List (ℕ × Seat)) (session : ℕ) (w : Option Seat)
    → ((q : ℕ) → lookup (is_at (nat_cmp q)) new ≡ cond (is_at (nat_cmp session) q) w (lookup (is_at (nat_cmp q)) old))
    → (q : ℕ) → seat_of new q ≡ cond (eqb session q) w (seat_of old q)
seat_of-changed old new session w h q =
    sym (lookup-is_at q new) ∙ h q ∙ ap (λ b. cond b w (lookup (is_at (nat_cmp q)) old)) (is_at-nat session q)
    ∙ ap (cond (eqb session q) w) (lookup-is_at q old)

pub seat_of_get : (es : List (ℕ × Seat)) (session : ℕ) (o : Option Seat) → o ≡ lookup (is_at (nat_cmp session)) es → o ≡ seat_of es session
seat_of_get es session o e = e ∙ lookup-is_at session es

pub seat_within : (es : List (ℕ × Seat)) (n session : ℕ) (seat : Seat) → SeatsWithin es n → seat_of es session ≡ Some seat → seat.place < n
seat_within es n session seat h e = subst (λ o. IfSome o (λ (s : Seat). s.place < n)) e (h session)

moved_within : (move : Option (Option ℕ)) (place n session : ℕ) (old : ℕ → Option Seat) → place < n → (q : ℕ) → IfSome (old q) (λ (s : Seat). s.place < n)
    → IfSome (after_move move (seat_in place) session old q) (λ (s : Seat). s.place < n)
moved_within None place n session old lt q h = h
moved_within (Some None) place n session old lt q h = elim (eqb session q) as (λ b. IfSome (cond b None (old q)) (λ (s : Seat). s.place < n)) [ true ↦ tt | false ↦ h ]
moved_within (Some (Some site)) place n session old lt q h = elim (eqb session q) as (λ b. IfSome (cond b (Some (seat_in place site)) (old q)) (λ (s : Seat). s.place < n)) [ true ↦ lt | false ↦ h ]

-- the seats stay within, whether the answer was put in place or not
pub seats_within : {T E : Type 0} (r : Result T E) (reply : Reply) (place n m session : ℕ) (old new : List (ℕ × Seat)) → place < n → m ≡ n → SeatsWithin old n
    → OnOk r (IsMoved old new reply session place) → OnErr r (new ≡ old) → SeatsWithin new m
seats_within (Ok x) reply place n m session old new lt e h moves same =
    λ q. subst (λ k. IfSome (seat_of new q) (λ (s : Seat). s.place < k)) (sym e) (subst (λ o. IfSome o (λ (s : Seat). s.place < n)) (sym (moves q)) (moved_within (move_of reply) place n session (seat_of old) lt q (h q)))
seats_within (Err y) reply place n m session old new lt e h moves same =
    λ q. subst (λ k. IfSome (seat_of new q) (λ (s : Seat). s.place < k)) (sym e) (subst (λ es. IfSome (seat_of es q) (λ (s : Seat). s.place < n)) (sym same) (h q))

abbrev pub state_of : List Named → List (ℕ × Seat) → WorldState
state_of rooms seats = record { rooms = rooms; seats = seats }

pub moves_of : {T E : Type 0} (r : Result T E) (bytes : T → List ℕ) (asker : Asker) (reply : Reply) (old new : List (ℕ × Seat))
    → IfOk r (λ text. RepliesTo asker reply (bytes text) old new) → OnOk r (IsMoved old new reply asker.session asker.place)
moves_of (Ok text) bytes asker reply old new h = h.moves
moves_of (Err fault) bytes asker reply old new h = tt
