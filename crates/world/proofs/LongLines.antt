-- A line that is longer than any request: what comes after its limit decides nothing.
use Rattle.std.proofs.Common.{◌≡◌, ◌≢◌, ℕ, ◌+◌, ◌<◌, ◌≤◌, List, [], ◌∷◌, ◌++◌, append_assoc, append-nil, length, take, drop, map, Option, Some, None, Bool, true, false, cond, eqb, ltb, refl, sym, ap, subst, ◌∙◌, arith}
use mathlib.Core.Path.{fun_ext}
use Rattle.std.specs.Fmt.{decimal}
use Rattle.std.proofs.lemmas.Bool.{ne_eqb, lt-leb, eqb-true, ltb-true, ltb-false}
use Rattle.std.proofs.lemmas.List.{length-append, length-drop, length-take, take_all, take_at, drop_at, take-append-le, drop-append-le, take-append-drop}
use Rattle.std.proofs.lemmas.Fmt.{length-decimal-le}
use Rattle.std.specs.Option.{option_or}
use Rattle.rules.specs.declared.refusal.Refusal.TheVariants.{BadMessage}
use Rattle.wire.specs.Lines.{lines_of, onto_first}
use Rattle.wire.specs.steps.OneLine.{IsOneLine}
use Rattle.wire.specs.declared.reply.Reply.TheVariants.{No}
use Rattle.wire.specs.Texts.{reply_text}
use Rattle.wire.specs.declared.request.Request.{Request}
use Rattle.wire.specs.declared.note.NoteRequest.{NoteRequest}
use Rattle.wire.specs.Notes.{Notes}
use Rattle.wire_reader.specs.steps.Reads.{request_read, note_request_read, reply_read}
use Rattle.room_core.specs.Room.{with_entry}
use Rattle.room_core.specs.Shown.{HasObject}
use Rattle.world.specs.steps.Steps.{named_place}
use Rattle.world.specs.Alone.{Message, Alone, answer_to, move_of, noted_by, notes_after_move, after_move, use_after_move, alone_reply, alone_after}
use Rattle.world.specs.Rooms.{Rooms, lone_answer, owner_of, after_at, rooms_after}
use Rattle.world.specs.steps.State.{WorldState, names_of, rooms_of, message_of}
use Rattle.world.specs.steps.Messages.{message_in}
use Rattle.world.specs.declared.script.TheConstants.{LINE_LIMIT}
use Rattle.world.specs.steps.Answered.{kept_part, LineShows, LinesShow}
use Rattle.world.proofs.Changed.{rooms_same, alone_same}
use Rattle.world.proofs.Lines.{no_break_parts}
use Rattle.world.proofs.LineForms.{line_of_message, message_of_line}
use Rattle.world.specs.steps.Ends.{output_of, reply_at, reply_to, text_for, rooms_for, lines_out, lines_end}

-- ---- what is no request

pub no_request : (bytes : List ℕ) → 16384 < length bytes → request_read bytes ≡ None
unfolding request_read
no_request bytes long = rw (lt-leb (length bytes) 16384 long) refl

pub no_note_request : (bytes : List ℕ) → 16384 < length bytes → note_request_read bytes ≡ None
unfolding note_request_read
no_note_request bytes long = rw (lt-leb (length bytes) 16384 long) refl

-- the bytes are a request of no kind
pub record IsBad (bytes : List ℕ) : Type 0 where
  pub request : request_read bytes ≡ None
  pub note : note_request_read bytes ≡ None

pub bad_if_long : (bytes : List ℕ) → 16384 < length bytes → IsBad bytes
bad_if_long bytes long = record { request = no_request bytes long; note = no_note_request bytes long }

alone_bad : (alone : Alone) (m : Message) → IsBad m.bytes → alone_reply alone m ≡ No 0 BadMessage
alone_bad alone m bad =
    ap (λ r. (answer_to alone (alone.site_of m.session) r (note_request_read m.bytes)).0) bad.request
    ∙ ap (λ a. (answer_to alone (alone.site_of m.session) None a).0) bad.note

pub bad_reply : (names : List (List ℕ)) (rooms : Rooms) (m : Message) → IsBad m.bytes → reply_to names rooms m ≡ No 0 BadMessage
bad_reply names rooms m bad = elim (rooms.inside m.session) as (λ o. reply_at rooms m (option_or o (named_place names (request_read m.bytes))) ≡ No 0 BadMessage) [
  | None ↦ ap (λ r. reply_at rooms m (named_place names r)) bad.request ∙ ap (λ r. lone_answer r (note_request_read m.bytes)) bad.request ∙ ap (lone_answer None) bad.note
  | Some place ↦ alone_bad (rooms.alone place) m bad
]

un_noted : (who : Option ℕ) (asks : Option Request) (asked : Option NoteRequest) (notes : Notes) → asks ≡ None → asked ≡ None → noted_by who asks asked notes ≡ notes
un_noted None asks asked notes e f = refl
un_noted (Some site) (Some request) asked notes e f = refl
un_noted (Some site) None None notes e f = refl
un_noted (Some site) None (Some request) notes e f = absurd cc

alone_kept : (alone : Alone) (m : Message) → IsBad m.bytes → alone_after alone m ≡ alone
alone_kept alone m bad =
    let reply = alone_bad alone m bad in
    let who = alone.site_of m.session in
    alone_same _ _
    (ap (λ r. with_entry alone.room (answer_to alone who r (note_request_read m.bytes)).1) bad.request ∙ ap (λ a. with_entry alone.room (answer_to alone who None a).1) bad.note)
    (ap (λ r. after_move (move_of r) (λ site. site) m.session alone.site_of) reply) (ap (λ r. use_after_move (move_of r) who alone.in_use) reply)
    (ap (λ r. notes_after_move (move_of r) who (noted_by who (request_read m.bytes) (note_request_read m.bytes) alone.notes)) reply
    ∙ un_noted who (request_read m.bytes) (note_request_read m.bytes) alone.notes bad.request bad.note)

kept_at : (b : Bool) (rooms : Rooms) (m : Message) (place other : ℕ) → eqb place other ≡ b → IsBad m.bytes → cond b (alone_after (rooms.alone place) m) (rooms.alone other) ≡ rooms.alone other
kept_at true rooms m place other t bad = alone_kept (rooms.alone place) m bad ∙ ap rooms.alone (eqb-true place other t)
kept_at false rooms m place other t bad = refl

pub bad_after : (names : List (List ℕ)) (rooms : Rooms) (m : Message) → IsBad m.bytes → rooms_after names rooms m ≡ rooms
bad_after names rooms m bad = elim (rooms.inside m.session) as (λ o. after_at rooms m (option_or o (named_place names (request_read m.bytes))) ≡ rooms) [
  | None ↦ ap (λ r. after_at rooms m (named_place names r)) bad.request
  | Some place ↦ rooms_same _ _ (ap (λ r. after_move (move_of r) (λ site. place) m.session rooms.inside) (alone_bad (rooms.alone place) m bad)) (fun_ext (λ other. kept_at (eqb place other) rooms m place other refl bad))
]

-- ---- two ends of one long line

-- the message of a long line, with another end
other_end : (line a b : List ℕ) (m : Message) → LINE_LIMIT ≤ length line → message_in (line ++ a) ≡ Some m
    → (more : List ℕ) × (16384 < length m.bytes) × (16384 < length more) × (message_in (line ++ b) ≡ Some (message_of m.session more))
other_end line a b m long e =
    let h = line_of_message (line ++ a) m e in
    let digits = decimal m.session in
    let few : length digits ≤ 10 = length-decimal-le 10 m.session (omega arith) (omega (arith, h.small)) (omega (arith, h.small)) in
    let n = length digits + 1 in
    let rest = drop n line in
    let head : List ℕ = digits ++ 32 ∷ [] in
    let head_length : length head ≡ n = length-append digits (32 ∷ []) in
    let le : n ≤ length line = omega (arith, few, long) in
    let whole : line ++ a ≡ head ++ m.bytes = h.form ∙ sym (append_assoc digits (32 ∷ []) m.bytes) in
    let prefix : take n line ≡ head = sym (take-append-le n line a le) ∙ ap (take n) whole ∙ take_at head m.bytes n head_length in
    let line_is : line ≡ head ++ rest = sym (take-append-drop n line) ∙ ap (λ f. f ++ rest) prefix in
    let bytes_is : m.bytes ≡ rest ++ a = sym (drop_at head m.bytes n head_length) ∙ ap (drop n) (sym whole) ∙ drop-append-le n line a le in
    let rest_long : 16384 < length rest = omega (arith, length-drop n line, few, long) in
    let first : 16384 < length m.bytes = omega (arith, ap length bytes_is, length-append rest a, rest_long) in
    let second : 16384 < length (rest ++ b) = omega (arith, length-append rest b, rest_long) in (
      rest ++ b,
      first,
      second,
      message_of_line (line ++ b) (message_of m.session (rest ++ b)) (record {
        small = h.small;
        form = ap (λ l. l ++ b) line_is ∙ append_assoc head rest b ∙ append_assoc digits (32 ∷ []) (rest ++ b);
      }),
    )

-- both get one answer, and one shows what the other does
abbrev SameAnswer : List (List ℕ) → Rooms → Option Message → Option Message → Type 0
SameAnswer names rooms o p =
    (text_for names rooms o ≡ text_for names rooms p) × (rooms_for names rooms o ≡ rooms_for names rooms p) × (LineShows names rooms o → LineShows names rooms p) × (LineShows names rooms p → LineShows names rooms o)

bad_shows : (names : List (List ℕ)) (rooms : Rooms) (m n : Message) → IsBad m.bytes → IsBad n.bytes → n.session ≡ m.session
    → LineShows names rooms (Some m) → LineShows names rooms (Some n)
bad_shows names rooms m n e f same shows at object kind versions is_read =
    let replies = bad_reply names rooms m e ∙ sym (bad_reply names rooms n f) in
    let rooms_are = bad_after names rooms m e ∙ sym (bad_after names rooms n f) in
    let owners_are : owner_of names rooms n ≡ owner_of names rooms m =
    ap (λ q. option_or (rooms.inside q) (named_place names (request_read n.bytes))) same ∙ ap (λ r. option_or (rooms.inside m.session) (named_place names r)) (f.request ∙ sym e.request) in
    let there = shows at object kind versions (ap (λ r. reply_read (reply_text r)) replies ∙ is_read) in
    record {
      place = there.place;
      owner = owners_are ∙ there.owner;
      has = subst (λ (rs : Rooms). HasObject (rs.alone there.place).room at object kind versions) rooms_are there.has;
    }

same_bad : (names : List (List ℕ)) (rooms : Rooms) (m : Message) (more : List ℕ) → 16384 < length m.bytes → 16384 < length more → SameAnswer names rooms (Some m) (Some (message_of m.session more))
same_bad names rooms m more long longer =
    let e = bad_if_long m.bytes long in
    let f = bad_if_long more longer in (
      ap (λ r. decimal m.session ++ (32 ∷ reply_text r) ++ 10 ∷ []) (bad_reply names rooms m e ∙ sym (bad_reply names rooms (message_of m.session more) f)),
      bad_after names rooms m e ∙ sym (bad_after names rooms (message_of m.session more) f),
      bad_shows names rooms m (message_of m.session more) e f refl,
      bad_shows names rooms (message_of m.session more) m f e refl,
    )

same_by : (names : List (List ℕ)) (rooms : Rooms) (line a b : List ℕ) → LINE_LIMIT ≤ length line → (o p : Option Message) → message_in (line ++ a) ≡ o → message_in (line ++ b) ≡ p → SameAnswer names rooms o p
same_by names rooms line a b long None None e f = (refl, refl, λ h. h, λ h. h)
same_by names rooms line a b long (Some m) p e f =
    let other = other_end line a b m long e in
    subst (λ q. SameAnswer names rooms (Some m) q) (sym other.3 ∙ f) (same_bad names rooms m other.0 other.1 other.2)
same_by names rooms line a b long None (Some m) e f =
    let other = other_end line b a m long f in
    let is_conflict : None ≡ Some (message_of m.session other.0) = sym e ∙ other.3 in
    absurd (cc)

same_answer : (names : List (List ℕ)) (rooms : Rooms) (line a b : List ℕ) → LINE_LIMIT ≤ length line → SameAnswer names rooms (message_in (line ++ a)) (message_in (line ++ b))
same_answer names rooms line a b long = same_by names rooms line a b long _ _ refl refl

-- ---- what is kept of a line decides

kept_by : (b : Bool) (names : List (List ℕ)) (rooms : Rooms) (line : List ℕ) → ltb LINE_LIMIT (length line) ≡ b → SameAnswer names rooms (message_in line) (message_in (kept_part line))
kept_by true names rooms line e =
    let long : LINE_LIMIT < length line = ltb-true LINE_LIMIT (length line) e in
    let enough : LINE_LIMIT ≤ length (kept_part line) = omega (arith, length-take LINE_LIMIT line, long) in
    let whole = same_answer names rooms (kept_part line) (drop LINE_LIMIT line) [] enough in
    subst (λ l. SameAnswer names rooms (message_in l) (message_in (kept_part line))) (take-append-drop LINE_LIMIT line)
    (subst (λ l. SameAnswer names rooms (message_in (kept_part line ++ drop LINE_LIMIT line)) (message_in l)) (append-nil (kept_part line)) whole)
kept_by false names rooms line e =
    subst (λ l. SameAnswer names rooms (message_in line) (message_in l)) (sym (take_all LINE_LIMIT line (ltb-false LINE_LIMIT (length line) e))) (refl, refl, λ h. h, λ h. h)

same_kept : (names : List (List ℕ)) (rooms : Rooms) (line : List ℕ) → SameAnswer names rooms (message_in line) (message_in (kept_part line))
same_kept names rooms line = kept_by (ltb LINE_LIMIT (length line)) names rooms line refl

pub out_kept : (names : List (List ℕ)) (rooms : Rooms) (lines : List (List ℕ)) → lines_out names rooms lines ≡ lines_out names rooms (map kept_part lines)
out_kept names rooms [] = refl
out_kept names rooms (line ∷ lines) =
    let same = same_kept names rooms line in
    ap (λ t. t ++ lines_out names (rooms_for names rooms (message_in line)) lines) same.0
    ∙ ap (λ r. text_for names rooms (message_in (kept_part line)) ++ lines_out names r lines) same.1
    ∙ ap (λ t. text_for names rooms (message_in (kept_part line)) ++ t) (out_kept names (rooms_for names rooms (message_in (kept_part line))) lines)

pub end_kept : (names : List (List ℕ)) (rooms : Rooms) (lines : List (List ℕ)) → lines_end names rooms lines ≡ lines_end names rooms (map kept_part lines)
end_kept names rooms [] = refl
end_kept names rooms (line ∷ lines) =
    ap (λ r. lines_end names r lines) (same_kept names rooms line).1 ∙ end_kept names (rooms_for names rooms (message_in (kept_part line))) lines

pub shows_kept : (names : List (List ℕ)) (rooms : Rooms) (lines : List (List ℕ)) → LinesShow names rooms lines → LinesShow names rooms (map kept_part lines)
shows_kept names rooms [] h = tt
shows_kept names rooms (line ∷ lines) h =
    let same = same_kept names rooms line in
    (same.2 h.0, shows_kept names (rooms_for names rooms (message_in (kept_part line))) lines (subst (λ r. LinesShow names r lines) same.1 h.1))

pub shows_whole : (names : List (List ℕ)) (rooms : Rooms) (lines : List (List ℕ)) → LinesShow names rooms (map kept_part lines) → LinesShow names rooms lines
shows_whole names rooms [] h = tt
shows_whole names rooms (line ∷ lines) h =
    let same = same_kept names rooms line in
    (same.3 h.0, subst (λ r. LinesShow names r lines) (sym same.1) (shows_whole names (rooms_for names rooms (message_in (kept_part line))) lines h.1))

-- ---- a byte that comes after the limit

join : List ℕ → List (List ℕ) → List (List ℕ)
join line [] = (line ++ []) ∷ []
join line (h ∷ t) = (line ++ h) ∷ t

join_more : (x y : ℕ) (line : List ℕ) (ls : List (List ℕ)) → onto_first x (join (y ∷ line) ls) ≡ join (x ∷ y ∷ line) ls
unfolding join
join_more x y line [] = refl
join_more x y line (h ∷ t) = refl

join_one : (x : ℕ) (ls : List (List ℕ)) → onto_first x ls ≡ join (x ∷ []) ls
unfolding join
join_one x [] = refl
join_one x (h ∷ t) = refl

lines_join : (x : ℕ) (line rest : List ℕ) → IsOneLine (x ∷ line) → lines_of ((x ∷ line) ++ rest) ≡ join (x ∷ line) (lines_of rest)
lines_join x [] rest h = rw (ne_eqb x 10 h.0) (join_one x (lines_of rest))
lines_join x (y ∷ line) rest h = rw (ne_eqb x 10 h.0) (ap (onto_first x) (lines_join y line rest h.1) ∙ join_more x y line (lines_of rest))

same_front : (line a b : List ℕ) → LINE_LIMIT ≤ length line → kept_part (line ++ a) ≡ kept_part (line ++ b)
same_front line a b long = take-append-le LINE_LIMIT line a long ∙ sym (take-append-le LINE_LIMIT line b long)

join_kept : (line : List ℕ) (x : ℕ) (ls : List (List ℕ)) → LINE_LIMIT ≤ length line → map kept_part (join line (onto_first x ls)) ≡ map kept_part (join line ls)
unfolding join
join_kept line x [] long = ap (λ l. l ∷ []) (same_front line (x ∷ []) [] long)
join_kept line x (h ∷ t) long = ap (λ l. l ∷ map kept_part t) (same_front line (x ∷ h) h long)

lines_dropped : (line : List ℕ) (x : ℕ) (rest : List ℕ) → IsOneLine line → x ≢ 10 → LINE_LIMIT ≤ length line → map kept_part (lines_of (line ++ x ∷ rest)) ≡ map kept_part (lines_of (line ++ rest))
lines_dropped [] x rest h ne long = absurd (omega (arith, long))
lines_dropped (y ∷ line) x rest h ne long =
    let read : lines_of (x ∷ rest) ≡ onto_first x (lines_of rest) = rw (ne_eqb x 10 ne) refl in
    ap (map kept_part) (lines_join y line (x ∷ rest) h ∙ ap (join (y ∷ line)) read)
    ∙ join_kept (y ∷ line) x (lines_of rest) long
    ∙ ap (map kept_part) (sym (lines_join y line rest h))

lines_dropped_all : (line more rest : List ℕ) → IsOneLine line → IsOneLine more → LINE_LIMIT ≤ length line → map kept_part (lines_of (line ++ (more ++ rest))) ≡ map kept_part (lines_of (line ++ rest))
lines_dropped_all line [] rest h k long = refl
lines_dropped_all line (x ∷ more) rest h k long = lines_dropped line x (more ++ rest) h k.0 long ∙ lines_dropped_all line more rest h k.1 long

lines_cut_by : (b : Bool) (line rest : List ℕ) → ltb LINE_LIMIT (length line) ≡ b → IsOneLine line → map kept_part (lines_of (line ++ rest)) ≡ map kept_part (lines_of (kept_part line ++ rest))
lines_cut_by true line rest e h =
    let long : LINE_LIMIT < length line = ltb-true LINE_LIMIT (length line) e in
    let enough : LINE_LIMIT ≤ length (kept_part line) = omega (arith, length-take LINE_LIMIT line, long) in
    let parts = no_break_parts (kept_part line) (drop LINE_LIMIT line) (subst IsOneLine (sym (take-append-drop LINE_LIMIT line)) h) in
    ap (λ l. map kept_part (lines_of (l ++ rest))) (sym (take-append-drop LINE_LIMIT line))
    ∙ ap (λ l. map kept_part (lines_of l)) (append_assoc (kept_part line) (drop LINE_LIMIT line) rest)
    ∙ lines_dropped_all (kept_part line) (drop LINE_LIMIT line) rest parts.0 parts.1 enough
lines_cut_by false line rest e h = ap (λ l. map kept_part (lines_of (l ++ rest))) (sym (take_all LINE_LIMIT line (ltb-false LINE_LIMIT (length line) e)))

-- a line that is cut at the limit
pub lines_cut : (line rest : List ℕ) → IsOneLine line → map kept_part (lines_of (line ++ rest)) ≡ map kept_part (lines_of (kept_part line ++ rest))
lines_cut line rest h = lines_cut_by (ltb LINE_LIMIT (length line)) line rest refl h

pub output_dropped : (mid : WorldState) (line : List ℕ) (x : ℕ) (rest : List ℕ) → IsOneLine line → x ≢ 10 → LINE_LIMIT ≤ length line → output_of mid (line ++ x ∷ rest) ≡ output_of mid (line ++ rest)
output_dropped mid line x rest h ne long =
    out_kept (names_of mid) (rooms_of mid) (lines_of (line ++ x ∷ rest))
    ∙ ap (lines_out (names_of mid) (rooms_of mid)) (lines_dropped line x rest h ne long)
    ∙ sym (out_kept (names_of mid) (rooms_of mid) (lines_of (line ++ rest)))
