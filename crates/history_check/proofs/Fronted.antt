-- What is said of a transcript after its front was read and looked over.
use Rattle.std.proofs.Common.{◌≡◌, ℕ, ◌+◌, ◌<◌, ◌≤◌, true, false, List, [], ◌∷◌, ◌++◌, length, get_or, take, refl, sym, ap, ◌∙◌, subst, append_assoc, arith}
use Rattle.std.specs.Prelude.{All, Option, Some, None, slice_get}
use Rattle.std.specs.List.{AllPairs}
use Rattle.std.proofs.lemmas.Bool.{true≢false}
use Rattle.std.proofs.lemmas.List.{append-nil, get_or-take, length-take-le}
use Rattle.std.proofs.lemmas.List.Elements.{All-take}
use Rattle.std.proofs.lemmas.Option.{same_Some, slice_get_within, get_or_from_slice_get}
use Rattle.rules.specs.declared.history.Entry.{Entry}
use Rattle.transcript.specs.declared.line.TranscriptLine.{TranscriptLine}
use Rattle.wire.specs.Replies.{at_of}
use Rattle.transcript.specs.steps.Reads.{line_read}
use Rattle.transcript.specs.Order.{IsInOrder, IsNext}
use Rattle.transcript.specs.steps.OrderedParts.{OrderedPartView, EndsBefore, IsOrderedPart}
use Rattle.history_check.specs.declared.findings.Fault.{Fault}
use Rattle.history_check.specs.declared.findings.Fault.TheVariants.{NotJoined, WrongReply}
use Rattle.history_check.specs.steps.Findings.{IsFinding, IsFirstFault}
use Rattle.history_check.specs.Transcripts.{room_at_line, may_ask, IsAnswered, IsTrueTranscript}
use Rattle.history_check.specs.Verdicts.{AreTranscript, FailsAt, IsBadLine, IsWrongLine}
use Rattle.restore.proofs.Lengths.{same_length}
use Rattle.history_check.proofs.Parts.{split_lines, IsLineSplit}

-- ---- how long a take is, and what stands in it

take_within : {X : Type 0} (xs : List X) (n k : ℕ) → n < length xs → k < length (take n xs) → k < n
take_within xs n k l h = omega (arith, length-take-le n xs (omega (arith, l)), h)

pairs_take : {X : Type 0} (R : X → X → Type 0) (xs : List X) (n : ℕ) → n < length xs → AllPairs R xs → AllPairs R (take n xs)
pairs_take R xs n l h = λ i j d below within.
    let small : j < n = take_within xs n j l within in
    let first = get_or-take n xs i d (omega (arith, small, below)) in
    let second = get_or-take n xs j d small in
    subst (λ x. R x (get_or (take n xs) j d)) (sym first)
    (subst (λ y. R (get_or xs i d) y) (sym second) (h i j d below (omega (arith, small, l))))

module _ (r : List Entry) (file : List (List ℕ)) (front : OrderedPartView) (f : IsOrderedPart (length r) file front) where
  -- lines in order of which each is answered so are a true transcript
  true_lines : (lines : List TranscriptLine) → All (λ line. at_of line.reply ≤ length r) lines → All (IsAnswered r) lines → AllPairs IsInOrder lines → IsTrueTranscript r lines
  true_lines lines within answered order = record {
    each = λ k d l. record { within = within k d l; answered = answered k d l };
    order = order;
  }

  whole_front : All (IsAnswered r) front.lines → AreTranscript r f.heads front.lines
  whole_front answered = record { read = f.read; holds = true_lines front.lines f.order.within answered f.order.order }

  -- ---- where no fault was found

  pub all_hold : (rest : List (List ℕ)) → f.rest ≡ rest → front.stopped ≡ false → EndsBefore (length r) front rest → All (IsAnswered r) front.lines → AreTranscript r file front.lines
  all_hold [] e s ends answered =
      let p : file ≡ f.heads = f.whole ∙ ap (λ (ls : List (List ℕ)). f.heads ++ ls) e ∙ append-nil f.heads in
      subst (λ (ls : List (List ℕ)). AreTranscript r ls front.lines) (sym p) (whole_front answered)
  all_hold (bytes ∷ later) e s ends answered = absurd (true≢false (sym ends.0 ∙ s))

  pub stopped_at : (rest : List (List ℕ)) → f.rest ≡ rest → front.stopped ≡ true → EndsBefore (length r) front rest → All (IsAnswered r) front.lines → FailsAt r file (length front.lines + 1) (IsBadLine r)
  stopped_at [] e s ends answered = absurd (true≢false (sym s ∙ ends))
  stopped_at (bytes ∷ later) e s ends answered = record {
    front = f.heads;
    line = bytes;
    split = record {
      later = later;
      whole = f.whole ∙ ap (λ (ls : List (List ℕ)). f.heads ++ ls) e;
      counted = ap (λ n. n + 1) (same_length line_read f.heads front.lines f.read);
    };
    said = front.lines;
    before = whole_front answered;
    faulty = λ line read follows. ends.1 line read follows.next;
  }

  -- ---- where one was found

  module _ (place : ℕ) (line : TranscriptLine) (answered : All (IsAnswered r) (take place front.lines)) (at : slice_get front.lines place ≡ Some line) where
    place_within : place < length front.lines
    place_within = slice_get_within front.lines place line at

    lines_split : IsLineSplit line_read f.heads front.lines place line
    lines_split = split_lines line_read f.heads front.lines place line f.read at

    line_is : (d : TranscriptLine) → get_or front.lines place d ≡ line
    line_is d = get_or_from_slice_get front.lines place line d at

    pub fails_there : (IsFaulty : List TranscriptLine → List ℕ → Type 0)
        → ((bytes : List ℕ) → line_read bytes ≡ Some line → IsFaulty (take place front.lines) bytes) → FailsAt r file (place + 1) IsFaulty
    fails_there IsFaulty faulty =
        let s = lines_split in
        record {
          front = s.front;
          line = s.line;
          split = record {
            later = s.later ++ f.rest;
            whole = f.whole ∙ ap (λ (ls : List (List ℕ)). ls ++ f.rest) s.whole ∙ append_assoc s.front (s.line ∷ s.later) f.rest;
            counted = ap (λ n. n + 1) s.counted;
          };
          said = take place front.lines;
          before = record {
            read = s.front_read;
            holds = true_lines (take place front.lines) (All-take (λ (l : TranscriptLine). at_of l.reply ≤ length r) place front.lines f.order.within) answered (pairs_take IsInOrder front.lines place place_within f.order.order);
          };
          faulty = faulty s.line s.line_read;
        }

    pub is_next : IsNext (length r) (take place front.lines) line
    is_next = record {
      within = subst (λ (l : TranscriptLine). at_of l.reply ≤ length r) (line_is line) (f.order.within place line place_within);
      order = λ k d l.
          let small : k < place = take_within front.lines place k place_within l in
          subst (λ (x : TranscriptLine). IsInOrder x line) (sym (get_or-take place front.lines k d small))
          (subst (λ (y : TranscriptLine). IsInOrder (get_or front.lines k d) y) (line_is d) (f.order.order k place d small place_within));
    }

    pub not_joined : IsFinding r line (Some NotJoined) → FailsAt r file (place + 1) (IsBadLine r)
    not_joined finding = fails_there (IsBadLine r) (λ bytes read other read_so follows.
        let same : line ≡ other = same_Some line other (sym read ∙ read_so) in
        true≢false (sym follows.joined ∙ ap (λ (l : TranscriptLine). may_ask (room_at_line r l) l) (sym same) ∙ finding))

    pub wrong_reply : IsFinding r line (Some WrongReply) → FailsAt r file (place + 1) (IsWrongLine r)
    wrong_reply finding = fails_there (IsWrongLine r) (λ bytes read. record {
      line = line;
      read = read;
      follows = record { next = is_next; joined = finding.0 };
      wrong = finding.1;
    })

-- ---- what follows from the first fault

module _ (r : List Entry) (file : List (List ℕ)) (front : OrderedPartView) (count : ℕ) (counted : count ≡ length r) (whole : IsOrderedPart count file front)
    (lines : List TranscriptLine) (same : lines ≡ front.lines) (found : Option (ℕ × Fault)) (first : IsFirstFault r lines found) where
  moved : IsOrderedPart (length r) file front
  moved = subst (λ k. IsOrderedPart k file front) counted whole

  first_is : (other : Option (ℕ × Fault)) → found ≡ other → IsFirstFault r front.lines other
  first_is other e = subst (λ (ls : List TranscriptLine). IsFirstFault r ls other) same (subst (λ (o : Option (ℕ × Fault)). IsFirstFault r lines o) e first)

  pub within_lines : (place : ℕ) (fault : Fault) → found ≡ Some (place, fault) → place < length lines
  within_lines place fault e =
      let t = first_is (Some (place, fault)) e in
      subst (λ (ls : List TranscriptLine). place < length ls) (sym same) (slice_get_within front.lines place t.1.0 t.1.1)

  pub bad_line : (place : ℕ) → found ≡ Some (place, NotJoined) → FailsAt r file (place + 1) (IsBadLine r)
  bad_line place e = let t = first_is (Some (place, NotJoined)) e in not_joined r file front moved place t.1.0 t.0 t.1.1 t.1.2

  pub wrong_line : (place : ℕ) → found ≡ Some (place, WrongReply) → FailsAt r file (place + 1) (IsWrongLine r)
  wrong_line place e = let t = first_is (Some (place, WrongReply)) e in wrong_reply r file front moved place t.1.0 t.0 t.1.1 t.1.2

  pub bad_next : found ≡ None → front.stopped ≡ true → FailsAt r file (length front.lines + 1) (IsBadLine r)
  bad_next e s = stopped_at r file front moved moved.rest refl s moved.ends (first_is None e)

  pub true_of : found ≡ None → front.stopped ≡ false → AreTranscript r file front.lines
  true_of e s = all_hold r file front moved moved.rest refl s moved.ends (first_is None e)
