-- What was told stands at the beginning of what is restored.
use Rattle.std.proofs.Common.{◌≡◌, ◌<◌, ◌≤◌, ℕ, suc, ◌+◌, List, [], ◌∷◌, ◌++◌, map, length, Option, Some, None, true, false, refl, sym, ap, ◌∙◌, subst, append_assoc, append-nil, arith}
use Rattle.std.proofs.lemmas.Bool.{true≢false}
use Rattle.std.proofs.lemmas.List.{map-append}
use mathlib.Core.List.{IsPrefix}
use Rattle.rules.specs.declared.history.Entry.{Entry}
use Rattle.rules.specs.Limits.{full_limits}
use Rattle.rules.specs.Records.{admits, IsLegal, EachAfter}
use Rattle.wire.specs.Lines.{lines_of}
use Rattle.wire_reader.specs.steps.Reads.{entry_read}
use Rattle.record_file.specs.RecordText.{AreLines, whole_lines}
use Rattle.record_file.proofs.Lines.{stays}
use Rattle.restore.specs.declared.restored.Restored.{Restored}
use Rattle.restore.specs.declared.restored.Restored.TheVariants as restored
use Rattle.restore.specs.Records.{AreRecord, IsBadRecord}
use Rattle.restore.specs.Restoring.{IsRestored, HasAllOf}

some_prefix : {A : Type 0} (told r : List A) (m : List (Option A)) → map Some told ++ m ≡ map Some r → IsPrefix told r
some_prefix [] r m e = (r, refl)
some_prefix (x ∷ told) [] m e = absurd (cc)
some_prefix (x ∷ told) (y ∷ r) m e =
    let head : x ≡ y = cc in
    let rest = some_prefix told r m cc in
    (rest.0, cc (head, rest.1))

-- a line that may not come next stands behind a legal record
behind : (before told entries : List Entry) (ls more front later : List (List ℕ)) (line : List ℕ)
    → map entry_read ls ≡ map Some told → ls ++ more ≡ front ++ line ∷ later → map entry_read front ≡ map Some entries
    → ((entry : Entry) → entry_read line ≡ Some entry → admits full_limits (before ++ entries) entry ≡ false)
    → EachAfter (admits full_limits) before told → length told ≤ length front
behind before [] entries ls more front later line read split fronts refused legal = omega arith
behind before (e ∷ told) entries [] more front later line read split fronts refused legal = absurd (cc)
behind before (e ∷ told) [] (l ∷ ls) more [] later line read split fronts refused legal =
    let same : l ≡ line = cc in
    let first : entry_read l ≡ Some e = cc in
    let here : entry_read line ≡ Some e = ap entry_read (sym same) ∙ first in
    let no : admits full_limits before e ≡ false = subst (λ (r : List Entry). admits full_limits r e ≡ false) (append-nil before) (refused e here) in
    absurd (true≢false (sym legal.0 ∙ no))
behind before (e ∷ told) (x ∷ entries) (l ∷ ls) more [] later line read split fronts refused legal = absurd (cc)
behind before (e ∷ told) [] (l ∷ ls) more (f ∷ front) later line read split fronts refused legal = absurd (cc)
behind before (e ∷ told) (x ∷ entries) (l ∷ ls) more (f ∷ front) later line read split fronts refused legal =
    let same : l ≡ f = cc in
    let a : Some e ≡ entry_read l = cc in
    let b : entry_read f ≡ Some x = cc in
    let both : Some e ≡ Some x = a ∙ ap entry_read same ∙ b in
    let one : e ≡ x = cc in
    let reads : map entry_read ls ≡ map Some told = cc in
    let splits : ls ++ more ≡ front ++ line ∷ later = cc in
    let rest_reads : map entry_read front ≡ map Some entries = cc in
    let refused' : (entry : Entry) → entry_read line ≡ Some entry → admits full_limits ((before ++ e ∷ []) ++ entries) entry ≡ false =
    λ entry q. subst (λ (r : List Entry). admits full_limits r entry ≡ false)
    (ap (λ y. before ++ y ∷ entries) (sym one) ∙ sym (append_assoc before (e ∷ []) entries)) (refused entry q) in
    let rest = behind (before ++ e ∷ []) told entries ls more front later line reads splits rest_reads refused' legal.1 in
    omega (arith, rest)

pub has_all : (bytes behind' : List ℕ) (told : List Entry) (one : Restored) → AreLines bytes told → IsLegal full_limits told → IsRestored (bytes ++ behind') one → HasAllOf told one
has_all bytes behind' told (restored.Room room whole) lines legal is =
    let split = stays bytes behind' lines.whole in
    let read : map Some told ++ map entry_read (lines_of (whole_lines behind')) ≡ map Some room.room.entries =
    ap (λ l. l ++ map entry_read (lines_of (whole_lines behind'))) (sym lines.read)
    ∙ sym (map-append entry_read (lines_of bytes) (lines_of (whole_lines behind'))) ∙ ap (map entry_read) (sym split) ∙ is.0.read in
    some_prefix told room.room.entries _ read
has_all bytes behind' told (restored.Bad number) lines legal is =
    let within = behind [] told is.entries (lines_of bytes) (lines_of (whole_lines behind')) is.front is.split.later is.line lines.read
    (sym (stays bytes behind' lines.whole) ∙ is.split.whole) is.before.read is.refused legal in
    omega (arith, within, is.split.counted)

-- lines that are read as a list begin with lines that are read as its beginning
split_read : {A B : Type 0} (f : A → Option B) (xs : List A) (told rest : List B) → map f xs ≡ map Some (told ++ rest)
    → (first : List A) × (more : List A) × (xs ≡ first ++ more) × (map f first ≡ map Some told)
split_read f xs [] rest e = ([], xs, refl, refl)
split_read f [] (t ∷ told) rest e = absurd (cc)
split_read f (x ∷ xs) (t ∷ told) rest e =
    let here : f x ≡ Some t = cc in
    let later : map f xs ≡ map Some (told ++ rest) = cc in
    let split = split_read f xs told rest later in
    (x ∷ split.0, split.1, ap (λ (l : List _). x ∷ l) split.2, cc (here, split.3))

-- the same for what was told of more that is kept
pub has_all_told : (bytes behind' : List ℕ) (told kept : List Entry) (one : Restored)
    → IsPrefix told kept → AreLines bytes kept → IsLegal full_limits told → IsRestored (bytes ++ behind') one → HasAllOf told one
has_all_told bytes behind' told kept (restored.Room room whole) begins lines legal is =
    let split = stays bytes behind' lines.whole in
    let more = map entry_read (lines_of (whole_lines behind')) in
    let read : map Some told ++ (map Some begins.0 ++ more) ≡ map Some room.room.entries =
    sym (append_assoc (map Some told) (map Some begins.0) more)
    ∙ ap (λ l. l ++ more) (sym (map-append Some told begins.0) ∙ ap (map Some) begins.1 ∙ sym lines.read)
    ∙ sym (map-append entry_read (lines_of bytes) (lines_of (whole_lines behind'))) ∙ ap (map entry_read) (sym split) ∙ is.0.read in
    some_prefix told room.room.entries _ read
has_all_told bytes behind' told kept (restored.Bad number) begins lines legal is =
    let first = split_read entry_read (lines_of bytes) told begins.0 (lines.read ∙ ap (map Some) (sym begins.1)) in
    let whole : first.0 ++ (first.1 ++ lines_of (whole_lines behind')) ≡ is.front ++ is.line ∷ is.split.later =
    sym (append_assoc first.0 first.1 (lines_of (whole_lines behind'))) ∙ ap (λ l. l ++ lines_of (whole_lines behind')) (sym first.2)
    ∙ sym (stays bytes behind' lines.whole) ∙ is.split.whole in
    let within = behind [] told is.entries first.0 (first.1 ++ lines_of (whole_lines behind')) is.front is.split.later is.line first.3
    whole is.before.read is.refused legal in
    omega (arith, within, is.split.counted)
