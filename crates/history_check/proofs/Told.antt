-- What a line was told.
use Rattle.std.proofs.Common.{◌≡◌, ℕ, Bool, true, false, true≢false, List, Option, Some, None, length, map, sym, ap, ◌∙◌, arith, inl, inr}
use Rattle.std.specs.Prelude.{IsTrue, slice_get, not, nat_le, ◌↔◌}
use Rattle.std.proofs.lemmas.Bool.{leb-true, le-leb}
use Rattle.std.proofs.lemmas.List.{length-map}
use Rattle.std.proofs.lemmas.Option.{slice_get_cases, slice_get_past}
use Rattle.rules.specs.declared.history.Entry.{Entry}
use Rattle.rules.specs.steps.Equality.{same_entry, same_entry-Decides}
use Rattle.wire.specs.declared.reply.Reply.{Reply}
use Rattle.wire.specs.steps.Equality.{same_reply, same_reply-Decides}
use Rattle.room_core.specs.Answers.{Outcome}
use Rattle.room_core.proofs.Seen.{some_same}
use Rattle.transcript.specs.declared.line.TranscriptLine.{TranscriptLine}
use Rattle.wire.specs.Replies.{adds, at_of}
use Rattle.history_check.specs.Transcripts.{IsGiven}

-- the entry at a place, where there is one
pub same_if_there : (there wanted : Option Entry) (x y : Entry) (r : Bool) → there ≡ Some x → wanted ≡ Some y → r ≡ same_entry x y → IsTrue r ↔ (there ≡ wanted)
same_if_there there wanted x y r is_x is_y test = (
  (λ yes. is_x ∙ ap Some ((same_entry-Decides x y).0 (sym test ∙ yes)) ∙ sym is_y),
  (λ same. test ∙ (same_entry-Decides x y).1 (some_same (sym is_x ∙ same ∙ is_y))),
)

flipped : (b differs : Bool) → differs ≡ not b → b ≡ not differs
flipped true differs e = sym (ap not e)
flipped false differs e = sym (ap not e)

-- whether the planned reply, which is read as this one, differs from what was told
pub compared : (reply planned told : Reply) (differs : Bool) → reply ≡ planned → differs ≡ not (same_reply reply told) → same_reply planned told ≡ not differs
compared reply planned told differs is test = ap (λ (x : Reply). same_reply x told) (sym is) ∙ flipped (same_reply reply told) differs test

-- another reply is none that was given
pub not_given : (r : List Entry) (outcome : Outcome) (line : TranscriptLine) → same_reply outcome.0 line.reply ≡ false → IsTrue false ↔ IsGiven r outcome line
not_given r outcome line differ = (
  (λ yes. absurd (true≢false (sym yes))),
  (λ given. absurd (true≢false (sym ((same_reply-Decides outcome.0 line.reply).1 given.reply) ∙ differ))),
)

-- nothing was added
pub given_alone : (r : List Entry) (outcome : Outcome) (line : TranscriptLine) (b : Bool) → same_reply outcome.0 line.reply ≡ true → b ≡ adds line.reply → b ≡ false → IsTrue (not b) ↔ IsGiven r outcome line
given_alone r outcome line b same is none = (
  (λ yes. record { reply = (same_reply-Decides outcome.0 line.reply).0 same; entry = λ some. absurd (true≢false (sym some ∙ sym is ∙ none)) }),
  (λ given. ap not none),
)

-- an entry was added, and stands there or not
pub given_with : (r : List Entry) (outcome : Outcome) (line : TranscriptLine) (b : Bool) → same_reply outcome.0 line.reply ≡ true → adds line.reply ≡ true → IsTrue b ↔ (slice_get r (at_of line.reply) ≡ outcome.1) → IsTrue b ↔ IsGiven r outcome line
given_with r outcome line b same added stands = (
  (λ yes. record { reply = (same_reply-Decides outcome.0 line.reply).0 same; entry = λ _. stands.0 yes }),
  (λ given. stands.1 (given.entry added)),
)

-- an entry is wanted past the end
pub not_there : {X : Type 0} (there wanted : Option X) (y : X) (r : Bool) → there ≡ None → wanted ≡ Some y → r ≡ false → IsTrue r ↔ (there ≡ wanted)
not_there there wanted y r none some fails = (
  (λ yes. absurd (true≢false (sym yes ∙ fails))),
  (λ same. absurd (let is_conflict : None ≡ Some y = sym none ∙ same ∙ some in cc)),
)

-- none is wanted
pub none_there : {A X : Type 0} (f : A → X) (xs : List A) (k : ℕ) (wanted : Option X) → wanted ≡ None → IsTrue (nat_le (length xs) k) ↔ (slice_get (map f xs) k ≡ wanted)
none_there f xs k wanted none =
    let size = length-map xs f in (
      (λ past. let h = leb-true (length xs) k past in slice_get_past (map f xs) k (omega (arith, size, h)) ∙ sym none),
      (λ same. le-leb (length xs) k (elim (slice_get_cases (map f xs) k).1 [
        | inl found ↦ absurd (let is_conflict : Some found.0 ≡ None = sym found.2 ∙ same ∙ none in cc)
        | inr past ↦ (let h = past.0 in omega (arith, size, h))
      ])),
    )
