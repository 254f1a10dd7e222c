-- The lines of a file that are read so far, and what is left of it.
use Rattle.std.proofs.Common.{◌≡◌, ℕ, true, false, List, [], ◌∷◌, ◌++◌, map, Option, Some, refl, sym, ap, subst, ◌∙◌, append_assoc}
use Rattle.std.proofs.lemmas.List.{map-append}
use Rattle.transcript.specs.declared.line.TranscriptLine.{TranscriptLine}
use Rattle.transcript.specs.steps.Reads.{line_read}
use Rattle.transcript.specs.steps.OrderedParts.{AreInOrder, IsNoNext, IsOrderedPart}
use Rattle.transcript.specs.steps.Tables.{OrderedLines}

-- the first lines of the file are read, and these are left
pub record IsReadSoFar (count : ℕ) (file : List (List ℕ)) (ordered : OrderedLines) (rest : List (List ℕ)) : Type 0 where
  pub heads : List (List ℕ)
  pub whole : file ≡ heads ++ rest
  pub read : map line_read heads ≡ map Some ordered.lines
  pub bound : ordered.count ≡ count

pub so_far_none : (count : ℕ) (file : List (List ℕ)) (ordered : OrderedLines) → ordered.count ≡ count → ordered.lines ≡ [] → IsReadSoFar count file ordered file
so_far_none count file ordered bound none = record { heads = []; whole = refl; read = ap (λ (lines : List TranscriptLine). map Some lines) (sym none); bound = bound }

some_line : TranscriptLine → Option TranscriptLine
some_line line = Some line

pub so_far_more : (count : ℕ) (file : List (List ℕ)) (before after : OrderedLines) (bytes : List ℕ) (later : List (List ℕ)) (line : TranscriptLine) → IsReadSoFar count file before (bytes ∷ later)
    → line_read bytes ≡ Some line → after.count ≡ before.count → after.lines ≡ before.lines ++ line ∷ [] → IsReadSoFar count file after later
so_far_more count file before after bytes later line h is same more = record {
  heads = h.heads ++ bytes ∷ [];
  whole = h.whole ∙ sym (append_assoc h.heads (bytes ∷ []) later);
  read = map-append line_read h.heads (bytes ∷ []) ∙ rw (h.read, is, more, map-append {A = TranscriptLine} (λ (l : TranscriptLine). Some l)) refl;
  bound = same ∙ h.bound;
}

-- nothing is left
pub front_whole : (count : ℕ) (file : List (List ℕ)) (ordered : OrderedLines) (lines : List TranscriptLine) → IsReadSoFar count file ordered [] → lines ≡ ordered.lines → AreInOrder ordered.count ordered.lines
    → IsOrderedPart count file (record { lines = lines; stopped = false })
front_whole count file ordered lines h same order = record {
  heads = h.heads;
  rest = [];
  whole = h.whole;
  read = h.read ∙ ap (λ (ls : List TranscriptLine). map Some ls) (sym same);
  order = subst (λ (ls : List TranscriptLine). AreInOrder count ls) (sym same) (subst (λ (n : ℕ). AreInOrder n ordered.lines) h.bound order);
  ends = refl;
}

-- what is left begins with a line that may not come next
pub front_stopped : (count : ℕ) (file : List (List ℕ)) (ordered : OrderedLines) (lines : List TranscriptLine) (bytes : List ℕ) (later : List (List ℕ)) → IsReadSoFar count file ordered (bytes ∷ later) → lines ≡ ordered.lines
    → AreInOrder ordered.count ordered.lines → IsNoNext ordered.count ordered.lines bytes → IsOrderedPart count file (record { lines = lines; stopped = true })
front_stopped count file ordered lines bytes later h same order none = record {
  heads = h.heads;
  rest = bytes ∷ later;
  whole = h.whole;
  read = h.read ∙ ap (λ (ls : List TranscriptLine). map Some ls) (sym same);
  order = subst (λ (ls : List TranscriptLine). AreInOrder count ls) (sym same) (subst (λ (n : ℕ). AreInOrder n ordered.lines) h.bound order);
  ends = (refl, subst (λ (ls : List TranscriptLine). IsNoNext count ls bytes) (sym same) (subst (λ (n : ℕ). IsNoNext n ordered.lines bytes) h.bound none));
}
