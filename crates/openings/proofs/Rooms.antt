-- Rooms by the numbers of their openings.
use Rattle.std.proofs.Common.{◌≡◌, ℕ, zero, suc, ◌<◌, List, [], ◌∷◌, ◌++◌, length, ap, sym, ◌∙◌, arith}
use Rattle.std.proofs.Math.Seq.{get_or-append_seam}
use mathlib.Core.List.{IsPrefix}
use Rattle.openings.specs.Openings.{Opened, OpeningView}
use Rattle.openings.specs.steps.OpenedRooms.{never_opened, opened_at}

-- what stands in a beginning stands in the whole
prefix_get : (xs ys : List Opened) (n : ℕ) → IsPrefix xs ys → n < length xs → opened_at xs n ≡ opened_at ys n
prefix_get [] ys n pre lt = absurd (omega (arith, lt))
prefix_get (x ∷ xs) [] n pre lt = absurd (cc (pre.1))
prefix_get (x ∷ xs) (y ∷ ys) zero pre lt = cc (pre.1)
prefix_get (x ∷ xs) (y ∷ ys) (suc n) pre lt = prefix_get xs ys n (pre.0, cc (pre.1)) (omega (arith, lt))

-- two beginnings of one list have one room of each number
pub same_opening : (xs ys both : List Opened) (n m : ℕ) → IsPrefix xs both → IsPrefix ys both → n < length xs → m < length ys → n ≡ m
    → (let one : OpeningView = record { number = n; room = opened_at xs n } in let other : OpeningView = record { number = m; room = opened_at ys m } in one ≡ other)
same_opening xs ys both n m this that within other same =
    let room : opened_at xs n ≡ opened_at ys m = prefix_get xs both n this within ∙ ap (opened_at both) same ∙ sym (prefix_get ys both m that other) in
    (λ i. record { number = same i; room = room i })

-- the room behind others
pub room_at_end : (xs : List Opened) (x : Opened) → opened_at (xs ++ x ∷ []) (length xs) ≡ x
room_at_end xs x = get_or-append_seam xs x [] never_opened
