-- The lines that end in bytes.
use Rattle.std.proofs.Common.{◌≡◌, ◌≢◌, ℕ, ◌+◌, List, [], ◌∷◌, ◌++◌, append-nil, length, take, map, Option, Bool, true, false, cond, eqb, Result, Ok, Err, IfErr, IsErrOf, refl, sym, ap, subst, ◌∙◌, arith}
use Rattle.std.proofs.lemmas.Bool.{ne_eqb}
use Rattle.std.proofs.lemmas.List.{length-map, length-append}
use Rattle.std.specs.Io.KnownBytes.{Appends}
use Rattle.wire.specs.Lines.{lines_of, onto_first}
use Rattle.wire.specs.steps.OneLine.{IsOneLine}
use Rattle.world.specs.steps.State.{WorldState, names_of, rooms_of}
use Rattle.world.specs.steps.Ends.{lines_out, lines_end}
use Rattle.world.specs.steps.Endings.{breaks_in, ended_lines, AnswersRead}
use Rattle.world.specs.steps.Answered.{kept_part, Answered}
use Rattle.world.proofs.Parts.{first_output, first_end}
use Rattle.world.proofs.Transcript.{ReadSoFar}

count_by : (t : Bool) (byte : ℕ) (lines : List (List ℕ)) (n : ℕ) → length lines ≡ n + 1 → length (cond t ([] ∷ lines) (onto_first byte lines)) ≡ cond t (n + 1) n + 1
count_by true byte lines n e = omega (arith, e)
count_by false byte [] n e = absurd (omega (arith, e))
count_by false byte (line ∷ lines) n e = omega (arith, e)

count_lines : (bytes : List ℕ) → length (lines_of (bytes ++ 0 ∷ [])) ≡ breaks_in bytes + 1
count_lines [] = refl
count_lines (byte ∷ bytes) = count_by (eqb byte 10) byte (lines_of (bytes ++ 0 ∷ [])) (breaks_in bytes) (count_lines bytes)

no_breaks : (line : List ℕ) → IsOneLine line → breaks_in line ≡ 0
no_breaks [] h = refl
no_breaks (x ∷ line) h = rw (ne_eqb x 10 h.0) (no_breaks line h.1)

-- as many lines were answered as end in what was taken
ended_count : {from to : WorldState} {taken held text : List ℕ} (h : Answered from to taken held text) → IsOneLine held → length h.lines ≡ breaks_in taken
ended_count {taken = taken} {held = held} h clean =
    let all = lines_of (taken ++ 0 ∷ []) in
    let last = lines_of (held ++ 0 ∷ []) in
    let same : length (map kept_part all) ≡ length (map kept_part (h.lines ++ last)) = ap length (h.same (0 ∷ [])) in
    let left : length (map kept_part all) ≡ length all = length-map all kept_part in
    let right : length (map kept_part (h.lines ++ last)) ≡ length (h.lines ++ last) = length-map (h.lines ++ last) kept_part in
    let parts : length (h.lines ++ last) ≡ length h.lines + length last = length-append h.lines last in
    let one : length all ≡ breaks_in taken + 1 = count_lines taken in
    let other : length last ≡ breaks_in held + 1 = count_lines held in
    let none : breaks_in held ≡ 0 = no_breaks held clean in
    omega arith

ended_are : {from to : WorldState} {taken held text : List ℕ} (h : Answered from to taken held text) → IsOneLine held → take (length h.lines + 0) (lines_of (taken ++ [])) ≡ ended_lines taken
ended_are {taken = taken} h clean =
    let count : length h.lines + 0 ≡ breaks_in taken = omega (arith, ended_count h clean) in
    ap (λ k. take k (lines_of (taken ++ []))) count ∙ ap (λ xs. take (breaks_in taken) (lines_of xs)) (append-nil taken)

-- a read failed
pub read_fault : {had has a b : Option (List ℕ)} {old now : WorldState} {line : List ℕ} → ReadSoFar had has a b old now line → IsOneLine line → AnswersRead had has a b old now
read_fault {a = a} {b = b} {old = old} h clean =
    let answered = h.wrote.answered in
    record {
      bytes = h.taken;
      consumed = h.consumed;
      rooms = sym (first_end answered [] 0) ∙ ap (lines_end (names_of old) (rooms_of old)) (ended_are answered clean);
      answers = subst (Appends a b)
          (sym (append-nil h.wrote.written) ∙ sym (append-nil (h.wrote.written ++ [])) ∙ sym (first_output answered [] 0) ∙ ap (lines_out (names_of old) (rooms_of old)) (ended_are answered clean))
          h.wrote.adds;
    }

-- a fault of another kind
pub no_fault : {T E P : Type 0} (r : Result T E) (e : E) → IfErr r (λ fault. fault ≢ e) → IsErrOf r e → P
no_fault (Ok x) e h is = absurd (cc)
no_fault (Err y) e h is = let same : y ≡ e = cc in absurd (h same)
