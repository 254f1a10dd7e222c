-- The lines of a transcript by their AT.
use Rattle.std.proofs.Common.{◌≡◌, ℕ, suc, ◌+◌, ◌<◌, ◌≤◌, List, [], ◌∷◌, ◌++◌, length, get_or, take, refl, sym, ap, ◌∙◌, subst, arith, append_assoc, add-one, Some}
use Rattle.std.specs.Prelude.{slice_get, All, false}
use Rattle.std.specs.List.Sorted.{IsPermutation, IsSorted, IsNonDecreasingBy}
use Rattle.std.specs.Ordering.{is_lt, ordering_then, nat_cmp}
use Rattle.std.specs.declared.cmp.Ordering.{Ordering}
use Rattle.std.specs.declared.cmp.Ordering.TheVariants.{Less, Equal, Greater}
use Rattle.std.proofs.lemmas.Map.Keys.{ge_from_not_lt}
use Rattle.std.proofs.lemmas.Option.{get_or_from_slice_get, slice_get-get_or, slice_get_within}
use Rattle.std.proofs.lemmas.List.Sorted.{All-permutation, IsNonDecreasingBy-from_all_adjacent}
use Rattle.std.proofs.Math.Seq.{take-suc}
use Rattle.std.proofs.lemmas.List.{length-append, length-take-le}
use Rattle.std.proofs.lemmas.List.Elements.{All-nil, All-cons, All-get_or}
use Rattle.transcript.specs.declared.line.TranscriptLine.{TranscriptLine}
use Rattle.wire.specs.Replies.{at_of}
use Rattle.room_core.proofs.Seen.{at_seam, some_same}
use Rattle.history_check.specs.steps.Replays.{AreByTime, timed_from}

timed_push : (place : ℕ) (lines : List TranscriptLine) (line : TranscriptLine)
    → timed_from place (lines ++ line ∷ []) ≡ timed_from place lines ++ (at_of line.reply, place + length lines) ∷ []
timed_push place [] line = ap (λ n. (at_of line.reply, n) ∷ []) (omega arith)
timed_push place (x ∷ lines) line =
    let e : place + 1 + length lines ≡ place + suc (length lines) = omega arith in
    ap (λ timed. (at_of x.reply, place) ∷ timed) (timed_push (place + 1) lines line ∙ ap (λ n. timed_from (place + 1) lines ++ (at_of line.reply, n) ∷ []) e)

-- the next line
pub timed_more : (lines : List TranscriptLine) (k : ℕ) (line : TranscriptLine) → slice_get lines k ≡ Some line
    → timed_from 0 (take k lines) ++ (at_of line.reply, k) ∷ [] ≡ timed_from 0 (take (k + 1) lines)
timed_more lines k line at =
    let h = slice_get_within lines k line at in
    let is : get_or lines k line ≡ line = get_or_from_slice_get lines k line line at in
    let long : length (take k lines) ≡ k = length-take-le k lines (omega (arith, h)) in
    let size : 0 + length (take k lines) ≡ k = omega (arith, long) in
    sym (ap (λ n. timed_from 0 (take n lines)) (add-one k) ∙ ap (timed_from 0) (take-suc lines k line h) ∙ ap (λ l. timed_from 0 (take k lines ++ l ∷ [])) is
    ∙ timed_push 0 (take k lines) line ∙ ap (λ n. timed_from 0 (take k lines) ++ (at_of line.reply, n) ∷ []) size)

-- ---- a line that comes with its AT and its place

pub IsTimed : List TranscriptLine → ℕ × ℕ → Type 0
IsTimed lines timed = (line : TranscriptLine) × (slice_get lines timed.1 ≡ Some line) × (timed.0 ≡ at_of line.reply)

all_timed_from : (front lines : List TranscriptLine) (place : ℕ) → place ≡ length front → All (IsTimed (front ++ lines)) (timed_from place lines)
unfolding IsTimed
all_timed_from front [] place is = All-nil (IsTimed (front ++ []))
all_timed_from front (line ∷ lines) place is =
    let here : slice_get (front ++ line ∷ lines) place ≡ Some line = ap (slice_get (front ++ line ∷ lines)) is ∙ at_seam front line lines in
    let next : place + 1 ≡ length (front ++ line ∷ []) = ap (λ n. n + 1) is ∙ sym (length-append front (line ∷ [])) in
    All-cons (IsTimed (front ++ line ∷ lines)) (at_of line.reply, place) (timed_from (place + 1) lines) (line, here, refl)
    (subst (λ all. All (IsTimed all) (timed_from (place + 1) lines)) (append_assoc front (line ∷ []) lines) (all_timed_from (front ++ line ∷ []) lines (place + 1) next))

-- each one of what is sorted stands in the lines
pub all_timed : (lines : List TranscriptLine) (order : List (ℕ × ℕ)) → IsPermutation (timed_from 0 lines) order → All (IsTimed lines) order
all_timed lines order same = All-permutation (IsTimed lines) (timed_from 0 lines) order same (all_timed_from [] lines 0 refl)

-- ---- by rising AT

lt_first : (p o : Ordering) → is_lt (ordering_then p o) ≡ false → is_lt p ≡ false
lt_first Less o h = h
lt_first Equal o h = refl
lt_first Greater o h = refl

pub rises_if_sorted : (order : List (ℕ × ℕ)) → IsSorted (λ a b. ordering_then (nat_cmp a.0 b.0) (nat_cmp a.1 b.1)) order → IsNonDecreasingBy (λ timed. timed.0) order
rises_if_sorted order sorted = IsNonDecreasingBy-from_all_adjacent (λ timed. timed.0) order
    (λ k d h. ge_from_not_lt (get_or order (k + 1) d).0 (get_or order k d).0 (lt_first _ _ (sorted k d (omega arith) h)))

-- an element that was read stands in its place
pub at_place : {X : Type 0} (xs : List X) (k : ℕ) (x : X) → k < length xs → x ≡ get_or xs k x → slice_get xs k ≡ Some x
at_place xs k x h is = slice_get-get_or xs k x h ∙ ap Some (sym is)

-- the AT that stands beside a line's place is the line's
pub in_time : (lines : List TranscriptLine) (order : List (ℕ × ℕ)) → AreByTime lines order → (k : ℕ) (line : TranscriptLine) → k < length order
    → slice_get lines (get_or order k (0, 0)).1 ≡ Some line → (get_or order k (0, 0)).0 ≡ at_of line.reply
unfolding IsTimed
in_time lines order time k line h at =
    let timed = All-get_or (IsTimed lines) order k (0, 0) h (all_timed lines order time.same) in
    timed.2 ∙ ap (λ (l : TranscriptLine). at_of l.reply) (some_same (sym timed.1 ∙ at))

-- the line that stands beside a time
pub timed_line : (lines : List TranscriptLine) (order : List (ℕ × ℕ)) → AreByTime lines order → (k : ℕ) → k < length order → IsTimed lines (get_or order k (0, 0))
timed_line lines order time k h = All-get_or (IsTimed lines) order k (0, 0) h (all_timed lines order time.same)

pub place_within : (lines : List TranscriptLine) (order : List (ℕ × ℕ)) → AreByTime lines order → (k : ℕ) → k < length order → (get_or order k (0, 0)).1 < length lines
unfolding IsTimed
place_within lines order time k h = let timed = timed_line lines order time k h in slice_get_within lines (get_or order k (0, 0)).1 timed.0 timed.1

-- what holds of each line holds of the one at a place
pub line_within : {X : Type 0} (P : X → Type 0) (xs : List X) (k : ℕ) (x : X) → All P xs → slice_get xs k ≡ Some x → P x
line_within P xs k x all at = subst P (get_or_from_slice_get xs k x x at) (All-get_or P xs k x (slice_get_within xs k x at) all)

pub time_within : (lines : List TranscriptLine) (order : List (ℕ × ℕ)) (count : ℕ) → AreByTime lines order → All (λ line. at_of line.reply ≤ count) lines → (k : ℕ) → k < length order
    → (get_or order k (0, 0)).0 ≤ count
unfolding IsTimed
time_within lines order count time within k h =
    let timed = timed_line lines order time k h in
    let low = line_within (λ line. at_of line.reply ≤ count) lines (get_or order k (0, 0)).1 timed.0 within timed.1 in
    let is = timed.2 in omega (arith, low, is)
