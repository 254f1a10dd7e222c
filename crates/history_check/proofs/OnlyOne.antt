-- There is no more than one verdict: before a faulty line all is well, and a faulty line stands in nothing that is well.
use Rattle.std.proofs.Common.{◌≡◌, ℕ, ◌+◌, ◌<◌, Bool, true, false, cond, List, [], ◌∷◌, ◌++◌, length, get_or, map, refl, sym, ap, ◌∙◌, subst, arith, ◌⊎◌, inl, inr, length-append}
use Rattle.std.specs.Prelude.{◌↔◌, All, IfOk, Some, Result, Ok, Err}
use Rattle.std.specs.List.{AllPairs}
use Rattle.std.proofs.lemmas.Bool.{true≢false}
use Rattle.std.proofs.lemmas.List.{get_or_append_left, get_or_at}
use Rattle.std.proofs.lemmas.Option.{same_Some}
use Rattle.rules.specs.declared.history.Entry.{Entry}
use Rattle.rules.specs.Limits.{full_limits}
use Rattle.rules.specs.Records.{admits, EachAfter}
use Rattle.rules.proofs.Records.{admitted_at}
use Rattle.wire.specs.Lines.{lines_of}
use Rattle.wire_reader.specs.steps.Reads.{entry_read}
use Rattle.transcript.specs.declared.line.TranscriptLine.{TranscriptLine}
use Rattle.transcript.specs.Lines.{is_join_request}
use Rattle.transcript.specs.steps.Reads.{line_read}
use Rattle.transcript.specs.Order.{IsInOrder}
use Rattle.history_check.specs.declared.verdict.Verdict.{Verdict}
use Rattle.history_check.specs.declared.verdict.Verdict.TheVariants.{Holds, BadRecord, BadTranscript, WrongReply}
use Rattle.restore.specs.Records.{AreRecord, IsBadRecord}
use Rattle.history_check.specs.Transcripts.{IsAnswered, IsTrueLine, IsTrueTranscript, MayFollow}
use Rattle.history_check.specs.Verdicts.{AreTranscript, AreTrue, FailsAt, IsBadLine, IsWrongLine, IsVerdict, IsVerdictOn}
use Rattle.history_check.proofs.Parts.{same_read, split_read, nested}

-- ---- records

-- a line that is refused after these stands in no legal record after them
no_record : (front : List (List ℕ)) (line : List ℕ) (later : List (List ℕ)) (entries r : List Entry) → AreRecord front entries
    → ((entry : Entry) → entry_read line ≡ Some entry → admits full_limits entries entry ≡ false) → AreRecord (front ++ line ∷ later) r → ⊥
no_record front line later entries r before refused whole =
    let s = split_read entry_read front line later r whole.read in
    let same : entries ≡ s.before = same_read entry_read front entries s.before before.read s.front_read in
    let legal : EachAfter (admits full_limits) [] (s.before ++ s.this ∷ s.later) = subst (EachAfter (admits full_limits) []) s.whole whole.legal in
    let admitted : admits full_limits s.before s.this ≡ true = admitted_at full_limits [] s.before s.this s.later legal in
    true≢false (sym admitted ∙ ap (λ x. admits full_limits x s.this) (sym same) ∙ refused s.this s.line_read)

bad_or_record : (lines : List (List ℕ)) (number : ℕ) (r : List Entry) → IsBadRecord lines number → AreRecord lines r → ⊥
bad_or_record lines number r bad whole =
    no_record bad.front bad.line bad.split.later bad.entries r bad.before bad.refused
    (subst (λ (ls : List (List ℕ)). AreRecord ls r) bad.split.whole whole)

one_bad_record : (lines : List (List ℕ)) (m n : ℕ) → IsBadRecord lines m → IsBadRecord lines n → m ≡ n
one_bad_record lines m n a b =
    elim (nested a.front a.line a.split.later b.front b.line b.split.later (sym a.split.whole ∙ b.split.whole)) [
      | inl same ↦ a.split.counted ∙ ap (λ (ls : List (List ℕ)). length ls + 1) same.0 ∙ sym b.split.counted
      | inr far ↦ elim far [
        | inl s ↦ absurd (no_record a.front a.line s.0 a.entries b.entries a.before a.refused (subst (λ (ls : List (List ℕ)). AreRecord ls b.entries) s.1 b.before))
        | inr s ↦ absurd (no_record b.front b.line s.0 b.entries a.entries b.before b.refused (subst (λ (ls : List (List ℕ)). AreRecord ls a.entries) s.1 a.before))
      ]
    ]

-- ---- transcripts

all_left : {X : Type 0} (P : X → Type 0) (xs ys : List X) → All P (xs ++ ys) → All P xs
all_left P xs ys h = λ k d l. subst P (get_or_append_left xs ys d k l) (h k d (omega (arith, l, length-append xs ys)))

length_more : {X : Type 0} (xs : List X) (y : X) (ys : List X) → length xs < length (xs ++ y ∷ ys)
length_more xs y ys = omega (arith, length-append xs (y ∷ ys))

get_or_there : {X : Type 0} (xs : List X) (y : X) (ys : List X) (d : X) → get_or (xs ++ y ∷ ys) (length xs) d ≡ y
get_or_there xs y ys d = get_or_at xs y ys d (length xs) refl

all_at : {X : Type 0} (P : X → Type 0) (xs : List X) (y : X) (ys : List X) → All P (xs ++ y ∷ ys) → P y
all_at P xs y ys h = subst P (get_or_there xs y ys y) (h (length xs) y (length_more xs y ys))

all_before : {X : Type 0} (R : X → X → Type 0) (xs : List X) (y : X) (ys : List X) → AllPairs R (xs ++ y ∷ ys) → All (λ x. R x y) xs
all_before R xs y ys h = λ k d l.
    subst (λ x. R x y) (get_or_append_left xs (y ∷ ys) d k l)
    (subst (λ z. R (get_or (xs ++ y ∷ ys) k d) z) (get_or_there xs y ys d) (h k (length xs) d l (length_more xs y ys)))

asker_may : (b p q : Bool) → cond b p q ≡ true → cond b true q ≡ true
asker_may true p q e = refl
asker_may false p q e = e

module _ (r : List Entry) where
  -- no line that these bytes are may follow these and is answered so
  abbrev IsNoTrueLine : List TranscriptLine → List ℕ → Type 0
  IsNoTrueLine before bytes = (line : TranscriptLine) → line_read bytes ≡ Some line → MayFollow r before line → IsAnswered r line → ⊥

  bad_line : (before : List TranscriptLine) (bytes : List ℕ) → IsBadLine r before bytes → IsNoTrueLine before bytes
  bad_line before bytes bad line read follows answered = bad line read follows

  wrong_line : (before : List TranscriptLine) (bytes : List ℕ) → IsWrongLine r before bytes → IsNoTrueLine before bytes
  wrong_line before bytes wrong line read follows answered =
      wrong.wrong (subst (IsAnswered r) (same_Some line wrong.line (sym read ∙ wrong.read)) answered)

  follows_there : (before : List TranscriptLine) (line : TranscriptLine) (later : List TranscriptLine) → IsTrueTranscript r (before ++ line ∷ later) → MayFollow r before line × IsAnswered r line
  follows_there before line later h =
      let this : IsTrueLine r line = all_at (IsTrueLine r) before line later h.each in (
        record {
          next = record { within = this.within; order = all_before IsInOrder before line later h.order };
          joined = asker_may (is_join_request line.request) _ _ this.answered.asker;
        },
        this.answered,
      )

  -- a line that is faulty after these stands in no true transcript after them
  no_transcript : (front : List (List ℕ)) (bytes : List ℕ) (later : List (List ℕ)) (before said : List TranscriptLine) → AreTranscript r front before
      → IsNoTrueLine before bytes → AreTranscript r (front ++ bytes ∷ later) said → ⊥
  no_transcript front bytes later before said a faulty whole =
      let s = split_read line_read front bytes later said whole.read in
      let same : before ≡ s.before = same_read line_read front before s.before a.read s.front_read in
      let holds : IsTrueTranscript r (s.before ++ s.this ∷ s.later) = subst (IsTrueTranscript r) s.whole whole.holds in
      let there = follows_there s.before s.this s.later holds in
      faulty s.this s.line_read (subst (λ (ls : List TranscriptLine). MayFollow r ls s.this) (sym same) there.0) there.1

  module _ (lines : List (List ℕ)) where
    -- what is faulty so is no line of a true transcript
    abbrev IsFault : (List TranscriptLine → List ℕ → Type 0) → Type 0
    IsFault F = (before : List TranscriptLine) (bytes : List ℕ) → F before bytes → IsNoTrueLine before bytes

    fails_or_holds : (F : List TranscriptLine → List ℕ → Type 0) (n : ℕ) (said : List TranscriptLine) → IsFault F → FailsAt r lines n F → AreTranscript r lines said → ⊥
    fails_or_holds F n said fault a whole =
        no_transcript a.front a.line a.split.later a.said said a.before (fault a.said a.line a.faulty)
        (subst (λ (ls : List (List ℕ)). AreTranscript r ls said) a.split.whole whole)

    one_place : (F G : List TranscriptLine → List ℕ → Type 0) (m n : ℕ) → IsFault F → IsFault G
        → (a : FailsAt r lines m F) (b : FailsAt r lines n G) → (a.front ≡ b.front) × (a.line ≡ b.line)
    one_place F G m n f g a b =
        elim (nested a.front a.line a.split.later b.front b.line b.split.later (sym a.split.whole ∙ b.split.whole)) [
          | inl same ↦ same
          | inr far ↦ elim far [
            | inl s ↦ absurd (no_transcript a.front a.line s.0 a.said b.said a.before (f a.said a.line a.faulty) (subst (λ (ls : List (List ℕ)). AreTranscript r ls b.said) s.1 b.before))
            | inr s ↦ absurd (no_transcript b.front b.line s.0 b.said a.said b.before (g b.said b.line b.faulty) (subst (λ (ls : List (List ℕ)). AreTranscript r ls a.said) s.1 a.before))
          ]
        ]

    one_number : (F : List TranscriptLine → List ℕ → Type 0) (m n : ℕ) → IsFault F → FailsAt r lines m F → FailsAt r lines n F → m ≡ n
    one_number F m n f a b = a.split.counted ∙ ap (λ (ls : List (List ℕ)). length ls + 1) (one_place F F m n f f a b).0 ∙ sym b.split.counted

    bad_or_wrong : (m n : ℕ) → FailsAt r lines m (IsBadLine r) → FailsAt r lines n (IsWrongLine r) → ⊥
    bad_or_wrong m n a b =
        let p = one_place (IsBadLine r) (IsWrongLine r) m n bad_line wrong_line a b in
        let read : map line_read a.front ≡ map Some b.said = ap (map line_read) p.0 ∙ b.before.read in
        let same : a.said ≡ b.said = same_read line_read a.front a.said b.said a.before.read read in
        let w = b.faulty in
        a.faulty w.line (ap line_read p.1 ∙ w.read) (subst (λ (ls : List TranscriptLine). MayFollow r ls w.line) (sym same) w.follows)

    one_on : (v w : Verdict) → IsVerdictOn r lines v → IsVerdictOn r lines w → v ≡ w
    one_on Holds Holds a b = refl
    one_on Holds (BadRecord n) a b = absurd b
    one_on Holds (BadTranscript n) a b = absurd (fails_or_holds (IsBadLine r) n a.0 bad_line b a.1)
    one_on Holds (WrongReply n) a b = absurd (fails_or_holds (IsWrongLine r) n a.0 wrong_line b a.1)
    one_on (BadRecord m) w a b = absurd a
    one_on (BadTranscript m) Holds a b = absurd (fails_or_holds (IsBadLine r) m b.0 bad_line a b.1)
    one_on (BadTranscript m) (BadRecord n) a b = absurd b
    one_on (BadTranscript m) (BadTranscript n) a b = ap BadTranscript (one_number (IsBadLine r) m n bad_line a b)
    one_on (BadTranscript m) (WrongReply n) a b = absurd (bad_or_wrong m n a b)
    one_on (WrongReply m) Holds a b = absurd (fails_or_holds (IsWrongLine r) m b.0 wrong_line a b.1)
    one_on (WrongReply m) (BadRecord n) a b = absurd b
    one_on (WrongReply m) (BadTranscript n) a b = absurd (bad_or_wrong n m b a)
    one_on (WrongReply m) (WrongReply n) a b = ap WrongReply (one_number (IsWrongLine r) m n wrong_line a b)

-- ---- both files

module _ (entries transcript : List ℕ) where
  abbrev IsOfBadRecord : Verdict → Type 0
  IsOfBadRecord v = (n : ℕ) × (v ≡ BadRecord n) × IsBadRecord (lines_of entries) n

  abbrev IsOfRecord : Verdict → Type 0
  IsOfRecord v = (r : List Entry) × AreRecord (lines_of entries) r × IsVerdictOn r (lines_of transcript) v

  by_record : (v : Verdict) → IsVerdict entries transcript v → IsOfBadRecord v ⊎ IsOfRecord v
  by_record Holds h = inr h
  by_record (BadRecord n) h = inl (n, refl, h)
  by_record (BadTranscript n) h = inr h
  by_record (WrongReply n) h = inr h

  one_of_record : (v w : Verdict) → IsOfRecord v → IsOfRecord w → v ≡ w
  one_of_record v w a b =
      let same : b.0 ≡ a.0 = same_read entry_read (lines_of entries) b.0 a.0 b.1.read a.1.read in
      one_on a.0 (lines_of transcript) v w a.2 (subst (λ (r : List Entry). IsVerdictOn r (lines_of transcript) w) same b.2)

  pub one : (v w : Verdict) → IsVerdict entries transcript v → IsVerdict entries transcript w → v ≡ w
  one v w a b =
      elim (by_record v a) [
        | inl p ↦ elim (by_record w b) [
          | inl q ↦ p.1 ∙ ap BadRecord (one_bad_record (lines_of entries) p.0 q.0 p.2 q.2) ∙ sym q.1
          | inr q ↦ absurd (bad_or_record (lines_of entries) p.0 q.0 p.2 q.1)
        ]
        | inr p ↦ elim (by_record w b) [
          | inl q ↦ absurd (bad_or_record (lines_of entries) q.0 p.0 q.2 p.1)
          | inr q ↦ one_of_record v w p q
        ]
      ]

  true_if_holds : (v : Verdict) → IsVerdict entries transcript v → v ≡ Holds → AreTrue entries transcript
  true_if_holds v h e =
      let t : IsOfRecord Holds = subst (IsVerdict entries transcript) e h in
      record { r = t.0; said = t.2.0; legal = t.1; holds = t.2.1 }

  holds_if_true : (v : Verdict) → IsVerdict entries transcript v → AreTrue entries transcript → v ≡ Holds
  holds_if_true v h t = one v Holds h (t.r, t.legal, (t.said, t.holds))

  pub holds_exactly : (v : Verdict) → IsVerdict entries transcript v → (v ≡ Holds) ↔ AreTrue entries transcript
  holds_exactly v h = (λ e. true_if_holds v h e, λ t. holds_if_true v h t)

  with_record : (r : List Entry) → AreRecord (lines_of entries) r → (v : Verdict) → IsVerdictOn r (lines_of transcript) v → IsVerdict entries transcript v
  with_record r a Holds h = (r, a, h)
  with_record r a (BadRecord n) h = absurd h
  with_record r a (BadTranscript n) h = (r, a, h)
  with_record r a (WrongReply n) h = (r, a, h)

  pub holds_on : {E : Type 0} (r read : List Entry) → read ≡ r → AreRecord (lines_of entries) r → (answer : Result Verdict E)
      → IfOk answer (IsVerdictOn read (lines_of transcript)) → IfOk answer (λ v. (v ≡ Holds) ↔ AreTrue entries transcript)
  holds_on r read e a (Ok v) h = holds_exactly v (with_record read (subst (AreRecord (lines_of entries)) (sym e) a) v h)
  holds_on r read e a (Err x) h = tt
