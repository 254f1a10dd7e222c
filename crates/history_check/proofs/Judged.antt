-- How many lines were judged.
use Rattle.std.proofs.Common.{◌≡◌, ◌≢◌, ℕ, zero, suc, ◌+◌, ◌<◌, ◌≤◌, List, [], ◌∷◌, length, get_or, take, Option, Some, refl, sym, ap, ◌∙◌, subst, arith, inl, inr}
use Rattle.std.specs.Prelude.{slice_get, slice_set, All}
use Rattle.std.proofs.lemmas.Bool.Decides.{eqb_tells}
use Rattle.std.proofs.lemmas.List.{length-take-le, length-set, get_or-set_same, get_or-set_other}
use Rattle.std.proofs.lemmas.List.Elements.{All-from_get_or, All-get_or}
use Rattle.std.proofs.lemmas.List.Sorted.{All-permutation, IsPermutation-sym}
use Rattle.std.proofs.lemmas.Option.{get_or_from_slice_get, slice_get-get_or, slice_get_within}
use Rattle.rules.specs.declared.history.Entry.{Entry}
use Rattle.rules.specs.Limits.{full_limits}
use Rattle.room_core.specs.Room.{Room, empty_room, full_room}
use Rattle.room_core.proofs.Seen.{some_same}
use Rattle.transcript.specs.declared.line.TranscriptLine.{TranscriptLine}
use Rattle.wire.specs.Replies.{at_of}
use Rattle.history_check.specs.declared.findings.Fault.{Fault}
use Rattle.history_check.specs.steps.Findings.{IsFinding, AreFindings}
use Rattle.history_check.specs.steps.Replays.{AreByTime, IsRoomOfPrefix, timed_from}
use Rattle.history_check.specs.Transcripts.{room_at_line}
use Rattle.history_check.proofs.Timed.{in_time}

-- what was found of the line in this place
pub IsJudged : List Entry → List TranscriptLine → List (Option Fault) → ℕ → Type 0
IsJudged r lines findings place = (line : TranscriptLine) → slice_get lines place ≡ Some line → (found : Option Fault) × (slice_get findings place ≡ Some found) × IsFinding r line found

-- the first k lines by time are judged, and the room is no further than the next one
pub record HasJudged (r : List Entry) (lines : List TranscriptLine) (order : List (ℕ × ℕ)) (k : ℕ) (findings : List (Option Fault)) (room : Room) : Type 0 where
  pub size : length findings ≡ length lines
  pub front : IsRoomOfPrefix r room
  pub later : (j : ℕ) → k ≤ j → j < length order → length room.entries ≤ (get_or order j (0, 0)).0
  pub done : (j : ℕ) → j < k → j < length order → IsJudged r lines findings (get_or order j (0, 0)).1

pub judged_none : (r : List Entry) (lines : List TranscriptLine) (order : List (ℕ × ℕ)) (findings : List (Option Fault)) → length findings ≡ length lines
    → HasJudged r lines order 0 findings (empty_room full_limits)
judged_none r lines order findings size = record { size = size; front = refl; later = λ j k h. omega arith; done = λ j h. absurd (omega (arith, h)) }

-- a finding that is written leaves the others
set_judged : (r : List Entry) (lines : List TranscriptLine) (findings : List (Option Fault)) (place other : ℕ) (line : TranscriptLine) (found : Option Fault)
    → length findings ≡ length lines → slice_get lines place ≡ Some line → IsFinding r line found → (place ≢ other → IsJudged r lines findings other) → IsJudged r lines (slice_set findings place found) other
unfolding IsJudged
set_judged r lines findings place other line found size at is old l there = elim (eqb_tells place other) [
  | inl same ↦ (
      let e : place ≡ other = same.1 in
      let h = slice_get_within lines place line at in
      let l_is : line ≡ l = some_same (sym at ∙ ap (slice_get lines) e ∙ there) in
      let inside : place < length findings = omega (arith, size, h) in
      let wide : place < length (slice_set findings place found) = rw length-set inside in
      let here : slice_get (slice_set findings place found) other ≡ Some found =
      ap (slice_get (slice_set findings place found)) (sym e) ∙ slice_get-get_or (slice_set findings place found) place found wide ∙ ap Some (get_or-set_same findings place found found inside) in
      (found, here, subst (λ x. IsFinding r x found) l_is is))
  | inr differ ↦ (
      let o = old differ.1 l there in
      let h = slice_get_within findings other o.0 o.1 in
      let wide : other < length (slice_set findings place found) = rw length-set h in
      let here : slice_get (slice_set findings place found) other ≡ Some o.0 =
      slice_get-get_or (slice_set findings place found) other o.0 wide
      ∙ ap Some (get_or-set_other findings place other found o.0 (λ e. differ.1 (sym e)) ∙ get_or_from_slice_get findings other o.0 o.0 o.1) in
      (o.0, here, o.2))
]

-- the next line is judged in the room as it was
pub judged_more : (r : List Entry) (lines : List TranscriptLine) (order : List (ℕ × ℕ)) (k : ℕ) (findings : List (Option Fault)) (old new : Room) (line : TranscriptLine) (found : Option Fault)
    → HasJudged r lines order k findings old → AreByTime lines order → k < length order
    → slice_get lines (get_or order k (0, 0)).1 ≡ Some line → at_of line.reply ≤ length r → new ≡ room_at_line r line → IsFinding r line found
    → HasJudged r lines order (k + 1) (slice_set findings (get_or order k (0, 0)).1 found) new
unfolding IsJudged
judged_more r lines order k findings old new line found h time inside at within room is =
    let long : length new.entries ≡ at_of line.reply = ap (λ (q : Room). length q.entries) room ∙ length-take-le (at_of line.reply) r within in
    let now : (get_or order k (0, 0)).0 ≡ at_of line.reply = in_time lines order time k line inside at in
    record {
      size = length-set findings (get_or order k (0, 0)).1 found ∙ h.size;
      front = room ∙ ap (λ n. full_room (take n r)) (sym long);
      later = λ j from to. (let up : (get_or order k (0, 0)).0 ≤ (get_or order j (0, 0)).0 = time.rises k j (0, 0) (omega (arith, from)) to in omega (arith, long, now, up));
      done = λ j below to. set_judged r lines findings (get_or order k (0, 0)).1 (get_or order j (0, 0)).1 line found h.size at is (other_one j below to);
    }
  where
    other_one : (j : ℕ) → j < k + 1 → j < length order → (get_or order k (0, 0)).1 ≢ (get_or order j (0, 0)).1 → IsJudged r lines findings (get_or order j (0, 0)).1
    other_one j below to differ = elim (eqb_tells j k) [
      | inl same ↦ absurd (differ (ap (λ n. (get_or order n (0, 0)).1) (sym same.1)))
      | inr other ↦ h.done j (let d = other.1 in omega (arith, below, d)) to
    ]

-- each place was judged
pub judged_places : (r : List Entry) (lines : List TranscriptLine) (order : List (ℕ × ℕ)) (k : ℕ) (findings : List (Option Fault)) (room : Room) → HasJudged r lines order k findings room → AreByTime lines order
    → length order ≤ k → All (λ timed. IsJudged r lines findings timed.1) (timed_from 0 lines)
judged_places r lines order k findings room h time end =
    All-permutation (λ timed. IsJudged r lines findings timed.1) order (timed_from 0 lines) (IsPermutation-sym (timed_from 0 lines) order time.same)
    (All-from_get_or (λ timed. IsJudged r lines findings timed.1) order (0, 0) (λ j l. h.done j (omega (arith, end, l)) l))

place_in_time : (lines : List TranscriptLine) (from place : ℕ) → place < length lines → (get_or (timed_from from lines) place (0, 0)).1 ≡ from + place
place_in_time [] from place h = absurd (omega (arith, h))
place_in_time (l ∷ lines) from zero h = omega arith
place_in_time (l ∷ lines) from (suc place) h = place_in_time lines (from + 1) place (omega (arith, h)) ∙ omega arith

long_in_time : (lines : List TranscriptLine) (from : ℕ) → length (timed_from from lines) ≡ length lines
long_in_time [] from = refl
long_in_time (l ∷ lines) from = ap suc (long_in_time lines (from + 1))

are_findings : (r : List Entry) (lines : List TranscriptLine) (findings : List (Option Fault)) → length findings ≡ length lines → ((place : ℕ) → place < length lines → IsJudged r lines findings place) → AreFindings r lines findings
unfolding IsJudged
are_findings r [] [] size judged = tt
are_findings r [] (f ∷ findings) size judged = absurd (omega (arith, size))
are_findings r (l ∷ lines) [] size judged = absurd (omega (arith, size))
are_findings r (l ∷ lines) (f ∷ findings) size judged = (
  (let first = judged 0 (omega arith) l refl in subst (IsFinding r l) (sym (some_same first.1)) first.2),
  are_findings r lines findings (omega (arith, size)) (λ place h. judged (suc place) (omega (arith, h))),
)

-- all are judged
pub judged_all : (r : List Entry) (lines : List TranscriptLine) (order : List (ℕ × ℕ)) (k : ℕ) (findings : List (Option Fault)) (room : Room) → HasJudged r lines order k findings room → AreByTime lines order
    → length order ≤ k → AreFindings r lines findings
judged_all r lines order k findings room h time end =
    are_findings r lines findings h.size (λ place l.
    (let wide : place < length (timed_from 0 lines) = rw long_in_time l in
    let is : (get_or (timed_from 0 lines) place (0, 0)).1 ≡ place = place_in_time lines 0 place l ∙ omega arith in
    subst (IsJudged r lines findings) is (All-get_or (λ timed. IsJudged r lines findings timed.1) (timed_from 0 lines) place (0, 0) wide (judged_places r lines order k findings room h time end))))
