-- Parts of a script that are answered one after the other.
use Rattle.std.proofs.Common.{◌≡◌, ℕ, ◌+◌, ◌-◌, ◌<◌, ◌≤◌, ◌⊎◌, inl, inr, min, List, [], ◌∷◌, ◌++◌, append_assoc, append-nil, length, take, drop, map, Option, Result, Ok, Err, OnOk, OnErr, refl, sym, ap, subst, ◌∙◌, arith}
use Rattle.std.proofs.lemmas.List.{length-take, take-append-drop, take_min, map-append, take-map}
use Rattle.std.proofs.Math.Seq.{take-append-add}
use Rattle.std.proofs.KnownBytes.{Appends-trans, Appends-nil, Appends-kept}
use Rattle.std.specs.Io.KnownBytes.{Appends, Keeps}
use Rattle.byte_streams.specs.Prefixes.{AppendsPrefix}
use Rattle.byte_streams.proofs.Written.{no_front}
use Rattle.wire.specs.Lines.{lines_of}
use Rattle.wire.specs.steps.OneLine.{IsOneLine}
use Rattle.world.specs.Rooms.{Rooms}
use Rattle.world.specs.steps.State.{WorldState, names_of, rooms_of}
use Rattle.world.specs.steps.Messages.{message_in}
use Rattle.world.specs.steps.Endings.{Stops}
use Rattle.world.specs.declared.script.TheConstants.{LINE_LIMIT}
use Rattle.world.specs.steps.Answered.{kept_part, line_text, IsHeld, LinesShow, IsPastLine, IsPastEnd, Answered, Adds, AnswersSome, Hands, Wrote, WroteSome}
use Rattle.world.proofs.LongLines.{lines_cut, out_kept, end_kept, shows_kept, shows_whole}
use Rattle.wire.proofs.OneLine.{one_line_append}
use Rattle.world.proofs.Lines.{lines_break, lines_last, end_last, no_break_parts}
use Rattle.world.specs.steps.Ends.{output_of, end_of, text_for, rooms_for, lines_out, lines_end}

-- ---- lines one after the other

out_append : (names : List (List ℕ)) (rooms : Rooms) (a b : List (List ℕ)) → lines_out names rooms (a ++ b) ≡ lines_out names rooms a ++ lines_out names (lines_end names rooms a) b
out_append names rooms [] b = refl
out_append names rooms (line ∷ a) b =
    ap (λ t. text_for names rooms (message_in line) ++ t) (out_append names (rooms_for names rooms (message_in line)) a b)
    ∙ sym (append_assoc (text_for names rooms (message_in line)) (lines_out names (rooms_for names rooms (message_in line)) a) (lines_out names (lines_end names rooms (line ∷ a)) b))

end_append : (names : List (List ℕ)) (rooms : Rooms) (a b : List (List ℕ)) → lines_end names rooms (a ++ b) ≡ lines_end names (lines_end names rooms a) b
end_append names rooms [] b = refl
end_append names rooms (line ∷ a) b = end_append names (rooms_for names rooms (message_in line)) a b

out_from : (from to : WorldState) (lines more : List (List ℕ)) → rooms_of to ≡ lines_end (names_of from) (rooms_of from) lines → names_of to ≡ names_of from
    → lines_out (names_of from) (rooms_of from) (lines ++ more) ≡ lines_out (names_of from) (rooms_of from) lines ++ lines_out (names_of to) (rooms_of to) more
out_from from to lines more e f =
    out_append (names_of from) (rooms_of from) lines more
    ∙ ap (λ r. lines_out (names_of from) (rooms_of from) lines ++ lines_out (names_of from) r more) (sym e)
    ∙ ap (λ ns. lines_out (names_of from) (rooms_of from) lines ++ lines_out ns (rooms_of to) more) (sym f)

end_from : (from to : WorldState) (lines more : List (List ℕ)) → rooms_of to ≡ lines_end (names_of from) (rooms_of from) lines → names_of to ≡ names_of from
    → lines_end (names_of from) (rooms_of from) (lines ++ more) ≡ lines_end (names_of to) (rooms_of to) more
end_from from to lines more e f =
    end_append (names_of from) (rooms_of from) lines more
    ∙ ap (λ r. lines_end (names_of from) r more) (sym e)
    ∙ ap (λ ns. lines_end ns (rooms_of to) more) (sym f)

shows_append : (names : List (List ℕ)) (rooms : Rooms) (a b : List (List ℕ)) → LinesShow names rooms a → LinesShow names (lines_end names rooms a) b → LinesShow names rooms (a ++ b)
shows_append names rooms [] b h k = k
shows_append names rooms (line ∷ a) b h k = (h.0, shows_append names (rooms_for names rooms (message_in line)) a b h.1 k)

shows_from : (from to : WorldState) (lines more : List (List ℕ)) → rooms_of to ≡ lines_end (names_of from) (rooms_of from) lines → names_of to ≡ names_of from
    → LinesShow (names_of from) (rooms_of from) lines → LinesShow (names_of to) (rooms_of to) more → LinesShow (names_of from) (rooms_of from) (lines ++ more)
shows_from from to lines more e f h k =
    shows_append (names_of from) (rooms_of from) lines more h (subst (λ r. LinesShow (names_of from) r more) e (subst (λ ns. LinesShow ns (rooms_of to) more) f k))

-- ---- what was answered so far

pub answered_none : (s : WorldState) (held : List ℕ) → Answered s s held held []
answered_none s held = record { lines = []; rooms = refl; names = refl; is_text = refl; shown = tt; same = λ rest. refl }

answered_more : {from to : WorldState} {taken held text : List ℕ} (more : List ℕ) → Answered from to taken held text → Answered from to (taken ++ more) (held ++ more) text
answered_more {taken = taken} {held = held} more h = record {
  lines = h.lines;
  rooms = h.rooms;
  names = h.names;
  is_text = h.is_text;
  shown = h.shown;
  same = λ rest.
      ap (λ xs. map kept_part (lines_of xs)) (append_assoc taken more rest) ∙ h.same (more ++ rest)
      ∙ ap (λ xs. map kept_part (h.lines ++ lines_of xs)) (sym (append_assoc held more rest));
}

answered_then : {s0 s1 s2 : WorldState} {taken held last t u : List ℕ} → Answered s0 s1 taken held t → Answered s1 s2 held last u → Answered s0 s2 taken last (t ++ u)
answered_then {s0 = s0} {s1 = s1} {s2 = s2} {taken = taken} {held = held} {last = last} {t = t} {u = u} h k = record {
  lines = h.lines ++ k.lines;
  rooms = k.rooms ∙ sym (end_from s0 s1 h.lines k.lines h.rooms h.names);
  names = k.names ∙ h.names;
  is_text = ap (λ x. x ++ u) h.is_text ∙ ap (λ x. lines_out (names_of s0) (rooms_of s0) h.lines ++ x) k.is_text ∙ sym (out_from s0 s1 h.lines k.lines h.rooms h.names);
  shown = shows_from s0 s1 h.lines k.lines h.rooms h.names h.shown k.shown;
  same = λ rest.
      h.same rest
      ∙ map-append kept_part h.lines (lines_of (held ++ rest))
      ∙ ap (λ xs. map kept_part h.lines ++ xs) (k.same rest)
      ∙ sym (map-append kept_part h.lines (k.lines ++ lines_of (last ++ rest)))
      ∙ ap (map kept_part) (sym (append_assoc h.lines k.lines (lines_of (last ++ rest))));
}

-- by the first lines of all, or by all
module _ {from to : WorldState} {taken held text : List ℕ} (h : Answered from to taken held text) (rest : List ℕ) where
  first_same : (n : ℕ) → map kept_part (take (length h.lines + n) (lines_of (taken ++ rest))) ≡ map kept_part (h.lines ++ take n (lines_of (held ++ rest)))
  first_same n =
      sym (take-map kept_part (length h.lines + n) (lines_of (taken ++ rest)))
      ∙ ap (take (length h.lines + n)) (h.same rest)
      ∙ take-map kept_part (length h.lines + n) (h.lines ++ lines_of (held ++ rest))
      ∙ ap (map kept_part) (take-append-add h.lines (lines_of (held ++ rest)) n)

  by_text : (more : List (List ℕ)) → lines_out (names_of from) (rooms_of from) (h.lines ++ more) ≡ text ++ lines_out (names_of to) (rooms_of to) more
  by_text more = out_from from to h.lines more h.rooms h.names ∙ ap (λ t. t ++ lines_out (names_of to) (rooms_of to) more) (sym h.is_text)

  out_by : (a more : List (List ℕ)) → map kept_part a ≡ map kept_part (h.lines ++ more) → lines_out (names_of from) (rooms_of from) a ≡ text ++ lines_out (names_of to) (rooms_of to) more
  out_by a more e =
      out_kept (names_of from) (rooms_of from) a ∙ ap (lines_out (names_of from) (rooms_of from)) e ∙ sym (out_kept (names_of from) (rooms_of from) (h.lines ++ more)) ∙ by_text more

  end_by : (a more : List (List ℕ)) → map kept_part a ≡ map kept_part (h.lines ++ more) → lines_end (names_of from) (rooms_of from) a ≡ lines_end (names_of to) (rooms_of to) more
  end_by a more e =
      end_kept (names_of from) (rooms_of from) a ∙ ap (lines_end (names_of from) (rooms_of from)) e ∙ sym (end_kept (names_of from) (rooms_of from) (h.lines ++ more))
      ∙ end_from from to h.lines more h.rooms h.names

  pub output_after : output_of from (taken ++ rest) ≡ text ++ output_of to (held ++ rest)
  output_after = out_by (lines_of (taken ++ rest)) (lines_of (held ++ rest)) (h.same rest)

  pub end_after : end_of from (taken ++ rest) ≡ end_of to (held ++ rest)
  end_after = end_by (lines_of (taken ++ rest)) (lines_of (held ++ rest)) (h.same rest)

  pub shown_after : LinesShow (names_of to) (rooms_of to) (lines_of (held ++ rest)) → LinesShow (names_of from) (rooms_of from) (lines_of (taken ++ rest))
  shown_after more =
      shows_whole (names_of from) (rooms_of from) (lines_of (taken ++ rest)) (subst (LinesShow (names_of from) (rooms_of from)) (sym (h.same rest))
      (shows_kept (names_of from) (rooms_of from) (h.lines ++ lines_of (held ++ rest)) (shows_from from to h.lines (lines_of (held ++ rest)) h.rooms h.names h.shown more)))

  pub first_output : (n : ℕ) → lines_out (names_of from) (rooms_of from) (take (length h.lines + n) (lines_of (taken ++ rest))) ≡ text ++ lines_out (names_of to) (rooms_of to) (take n (lines_of (held ++ rest)))
  first_output n = out_by (take (length h.lines + n) (lines_of (taken ++ rest))) (take n (lines_of (held ++ rest))) (first_same n)

  pub first_shows : (n : ℕ) → LinesShow (names_of to) (rooms_of to) (take n (lines_of (held ++ rest))) → LinesShow (names_of from) (rooms_of from) (take (length h.lines + n) (lines_of (taken ++ rest)))
  first_shows n more =
      shows_whole (names_of from) (rooms_of from) (take (length h.lines + n) (lines_of (taken ++ rest))) (subst (LinesShow (names_of from) (rooms_of from)) (sym (first_same n))
      (shows_kept (names_of from) (rooms_of from) (h.lines ++ take n (lines_of (held ++ rest))) (shows_from from to h.lines (take n (lines_of (held ++ rest))) h.rooms h.names h.shown more)))

  pub first_end : (n : ℕ) → lines_end (names_of from) (rooms_of from) (take (length h.lines + n) (lines_of (taken ++ rest))) ≡ lines_end (names_of to) (rooms_of to) (take n (lines_of (held ++ rest)))
  first_end n = end_by (take (length h.lines + n) (lines_of (taken ++ rest))) (take n (lines_of (held ++ rest))) (first_same n)

-- ---- more bytes of a line

-- they join it
pub answered_kept : (s : WorldState) (line bytes longer : List ℕ) → longer ≡ kept_part (line ++ bytes) → IsOneLine line → IsOneLine bytes
    → IsHeld longer × Answered s s (line ++ bytes) longer []
answered_kept s line bytes longer e clean more =
    let all = line ++ bytes in
    let both = one_line_append line bytes clean more in (
      record {
        clean = rw e (no_break_parts (kept_part all) (drop LINE_LIMIT all) (subst IsOneLine (sym (take-append-drop LINE_LIMIT all)) both)).0;
        short = omega (arith, ap length e, length-take LINE_LIMIT all);
      },
      subst (λ l. Answered s s all l []) (sym e) (record { lines = []; rooms = refl; names = refl; is_text = refl; shown = tt; same = λ rest. lines_cut all rest both }),
    )

-- they are as many as are kept
pub kept_bytes : (line bytes : List ℕ) (held count : ℕ) → held ≡ length line → held ≤ LINE_LIMIT → count ≡ min (LINE_LIMIT - held) (length bytes) → line ++ take count bytes ≡ kept_part (line ++ bytes)
kept_bytes line bytes held count is_held short is_count =
    let limit : length line + (LINE_LIMIT - held) ≡ LINE_LIMIT = omega (arith, is_held, short) in
    ap (λ n. line ++ take n bytes) is_count
    ∙ ap (λ xs. line ++ xs) (take_min (LINE_LIMIT - held) bytes)
    ∙ sym (take-append-add line bytes (LINE_LIMIT - held))
    ∙ ap (λ n. take n (line ++ bytes)) limit

-- nothing was answered
pub answers_nothing : (s new : WorldState) (taken : List ℕ) → new ≡ s → AnswersSome s new taken
answers_nothing s new taken same = subst (λ n. AnswersSome s n taken) (sym same) (record { held = taken; text = []; answered = answered_none s taken })

-- ---- a line ends

pub answered_line : (s new : WorldState) (line : List ℕ) → IsOneLine line → IsPastLine s line new → Answered s new (line ++ 10 ∷ []) [] (line_text s line)
answered_line s new line clean past = record {
  lines = line ∷ [];
  rooms = past.rooms;
  names = past.names;
  is_text = sym (append-nil (line_text s line));
  shown = (past.shown, tt);
  same = λ rest. ap (λ xs. map kept_part (lines_of xs)) (append_assoc line (10 ∷ []) rest) ∙ ap (map kept_part) (lines_break line rest clean);
}

-- it was answered, but the answer is lost, or it was not answered
pub answered_lost : (s new : WorldState) (line : List ℕ) → IsOneLine line → (new ≡ s) ⊎ IsPastLine s line new → AnswersSome s new (line ++ 10 ∷ [])
answered_lost s new line clean (inl same) = answers_nothing s new (line ++ 10 ∷ []) same
answered_lost s new line clean (inr past) = record { held = []; text = line_text s line; answered = answered_line s new line clean past }

-- it is the line that was held
pub answered_end : {s0 s1 s2 : WorldState} {taken held text : List ℕ} → Answered s0 s1 taken held [] → Answered s1 s2 (held ++ 10 ∷ []) [] text → Answered s0 s2 (taken ++ 10 ∷ []) [] text
answered_end h k = answered_then (answered_more (10 ∷ []) h) k

pub answers_end : {s0 s1 s2 : WorldState} {taken held : List ℕ} → Answered s0 s1 taken held [] → AnswersSome s1 s2 (held ++ 10 ∷ []) → AnswersSome s0 s2 (taken ++ 10 ∷ [])
answers_end h k = record { held = k.held; text = k.text; answered = answered_then (answered_more (10 ∷ []) h) k.answered }

-- ---- what was written so far

pub wrote_none : (a : Option (List ℕ)) (s : WorldState) (held pending : List ℕ) → pending ≡ [] → Wrote a a s s held held pending
wrote_none a s held pending e = record { written = []; adds = Appends-nil a; answered = subst (λ p. Answered s s held held p) (sym e) (answered_none s held) }

-- a line ended
pub wrote_line : {a b : Option (List ℕ)} {s0 : WorldState} (s1 s2 : WorldState) {taken : List ℕ} (line first others rest longer before after : List ℕ) → rest ≡ first ++ 10 ∷ others
    → Wrote a b s0 s1 taken (line ++ rest) before → Adds s1 s2 (line ++ first ++ 10 ∷ []) longer before after → Wrote a b s0 s2 taken (longer ++ others) after
wrote_line {s0 = s0} s1 s2 {taken = taken} line first others rest longer before after is h k =
    let next : line ++ rest ≡ (line ++ first ++ 10 ∷ []) ++ others =
    ap (λ xs. line ++ xs) is ∙ sym (append_assoc line first (10 ∷ others)) ∙ sym (append_assoc (line ++ first) (10 ∷ []) others) in
    let more = answered_then (subst (λ xs. Answered s0 s1 taken xs (h.written ++ before)) next h.answered) (answered_more others k.answered) in
    record {
      written = h.written;
      adds = h.adds;
      answered = subst (λ t. Answered s0 s2 taken (longer ++ others) t) (append_assoc h.written before k.text ∙ ap (λ t. h.written ++ t) (sym k.added)) more;
    }

-- the bytes that are held were cut
pub wrote_cut : {a b : Option (List ℕ)} {s0 s1 : WorldState} {taken held shorter pending : List ℕ} → Wrote a b s0 s1 taken held pending → Answered s1 s1 held shorter [] → Wrote a b s0 s1 taken shorter pending
wrote_cut {s0 = s0} {s1 = s1} {taken = taken} {shorter = shorter} {pending = pending} h k = record {
  written = h.written;
  adds = h.adds;
  answered = subst (λ t. Answered s0 s1 taken shorter t) (append-nil (h.written ++ pending)) (answered_then h.answered k);
}

-- some of the answers were written
pub wrote_hands : {a b c : Option (List ℕ)} {s0 s1 : WorldState} {taken held before after : List ℕ} → Wrote a b s0 s1 taken held before → Hands b c before after → Wrote a c s0 s1 taken held after
wrote_hands {a = a} {b = b} {c = c} {s0 = s0} {s1 = s1} {taken = taken} {held = held} {before = before} {after = after} h k = record {
  written = h.written ++ k.prefix;
  adds = Appends-trans a b c _ _ h.adds k.adds;
  answered = subst (λ t. Answered s0 s1 taken held t) (ap (λ t. h.written ++ t) k.whole ∙ sym (append_assoc h.written k.prefix after)) h.answered;
}

pub hands_all : {b c : Option (List ℕ)} {before after : List ℕ} → Appends b c before → after ≡ [] → Hands b c before after
hands_all {before = before} h e = record { prefix = before; adds = h; whole = sym (append-nil before) ∙ ap (λ t. before ++ t) (sym e) }

pub hands_front : {b c : Option (List ℕ)} {before : List ℕ} (h : AppendsPrefix b c before) → Hands b c before h.rest
hands_front h = record { prefix = h.prefix; adds = h.adds; whole = h.whole }

pub wrote_kept : {a b c : Option (List ℕ)} {s0 s1 : WorldState} {taken held pending : List ℕ} → Wrote a b s0 s1 taken held pending → Keeps b c → Wrote a c s0 s1 taken held pending
wrote_kept {a = a} {b = b} {c = c} h k = record { written = h.written; adds = Appends-kept a b c _ h.adds k; answered = h.answered }

pub some_of : {a b : Option (List ℕ)} {s0 s1 : WorldState} {taken held pending : List ℕ} → Wrote a b s0 s1 taken held pending → WroteSome a b s0 s1 taken
some_of {held = held} {pending = pending} h = record { held = held; pending = pending; wrote = h }

hands_more : {b c : Option (List ℕ)} {before after : List ℕ} (lost : List ℕ) → Hands b c before after → Hands b c (before ++ lost) (after ++ lost)
hands_more {after = after} lost h = record { prefix = h.prefix; adds = h.adds; whole = ap (λ t. t ++ lost) h.whole ∙ append_assoc h.prefix after lost }

-- a line ended, and answers up to here are there
pub record WroteUpTo (a b : Option (List ℕ)) (s0 s2 : WorldState) (taken after : List ℕ) : Type 0 where
  pub held : List ℕ
  pub lost : List ℕ
  pub wrote : Wrote a b s0 s2 taken held (after ++ lost)

pub wrote_up_to : {T E : Type 0} {a b : Option (List ℕ)} {s0 : WorldState} (r : Result T E) (s1 s2 : WorldState) {taken : List ℕ} (line first others rest longer before after : List ℕ) → rest ≡ first ++ 10 ∷ others
    → Wrote a b s0 s1 taken (line ++ rest) before → OnOk r (Adds s1 s2 (line ++ first ++ 10 ∷ []) longer before after) → OnErr r (after ≡ before) → OnErr r (AnswersSome s1 s2 (line ++ first ++ 10 ∷ []))
    → WroteUpTo a b s0 s2 taken after
wrote_up_to {a = a} {b = b} {s0 = s0} (Ok x) s1 s2 {taken = taken} line first others rest longer before after is h k none some = record {
  held = longer ++ others;
  lost = [];
  wrote = subst (λ p. Wrote a b s0 s2 taken (longer ++ others) p) (sym (append-nil after)) (wrote_line s1 s2 line first others rest longer before after is h k);
}
wrote_up_to {a = a} {b = b} {s0 = s0} (Err y) s1 s2 {taken = taken} line first others rest longer before after is h k none some = record {
  held = some.held ++ others;
  lost = some.text;
  wrote = subst (λ p. Wrote a b s0 s2 taken (some.held ++ others) (p ++ some.text)) (sym none)
      (wrote_line s1 s2 line first others rest some.held before (before ++ some.text) is h (record { text = some.text; added = refl; answered = some.answered }));
}

pub up_to_hands : {a b c : Option (List ℕ)} {s0 s2 : WorldState} {taken after left : List ℕ} → WroteUpTo a b s0 s2 taken after → Hands b c after left → WroteSome a c s0 s2 taken
up_to_hands h k = some_of (wrote_hands h.wrote (hands_more h.lost k))

-- one part after another
pub wrote_then : {a b c : Option (List ℕ)} {s0 s1 s2 : WorldState} {taken held last pending : List ℕ} → Wrote a b s0 s1 taken held [] → Wrote b c s1 s2 held last pending → Wrote a c s0 s2 taken last pending
wrote_then {a = a} {b = b} {c = c} {s0 = s0} {s2 = s2} {taken = taken} {last = last} {pending = pending} h k = record {
  written = h.written ++ k.written;
  adds = Appends-trans a b c _ _ h.adds k.adds;
  answered = subst (λ t. Answered s0 s2 taken last t) (ap (λ t. t ++ (k.written ++ pending)) (append-nil h.written) ∙ sym (append_assoc h.written k.written pending)) (answered_then h.answered k.answered);
}

pub wrote_more : {a b : Option (List ℕ)} {s0 s1 : WorldState} {taken held pending : List ℕ} (more : List ℕ) → Wrote a b s0 s1 taken held pending → Wrote a b s0 s1 (taken ++ more) (held ++ more) pending
wrote_more more h = record { written = h.written; adds = h.adds; answered = answered_more more h.answered }

-- ---- where a script stops

pub stops_of : {a b : Option (List ℕ)} {s0 s1 : WorldState} {taken held pending : List ℕ} (rest : List ℕ) → Wrote a b s0 s1 taken held pending → Stops a b s0 s1 (taken ++ rest)
stops_of {s0 = s0} {s1 = s1} {pending = pending} rest h = record {
  count = length h.answered.lines + 0;
  rooms = sym (first_end h.answered rest 0);
  names = h.answered.names;
  shown = first_shows h.answered rest 0 tt;
  answers = record {
    prefix = h.written;
    rest = pending;
    adds = h.adds;
    whole = first_output h.answered rest 0 ∙ append-nil (h.written ++ pending);
  };
}

pub stops_then : {a b c : Option (List ℕ)} {s0 s1 s2 : WorldState} {taken held : List ℕ} (rest : List ℕ) → Wrote a b s0 s1 taken held [] → Stops b c s1 s2 (held ++ rest) → Stops a c s0 s2 (taken ++ rest)
stops_then {a = a} {b = b} {c = c} {s1 = s1} {held = held} rest h k = record {
  count = length h.answered.lines + k.count;
  rooms = k.rooms ∙ sym (first_end h.answered rest k.count);
  names = k.names ∙ h.answered.names;
  shown = first_shows h.answered rest k.count k.shown;
  answers = record {
    prefix = h.written ++ k.answers.prefix;
    rest = k.answers.rest;
    adds = Appends-trans a b c _ _ h.adds k.answers.adds;
    whole =
        first_output h.answered rest k.count
        ∙ ap (λ t. t ++ lines_out (names_of s1) (rooms_of s1) (take k.count (lines_of (held ++ rest)))) (append-nil h.written)
        ∙ ap (λ t. h.written ++ t) k.answers.whole
        ∙ sym (append_assoc h.written k.answers.prefix k.answers.rest);
  };
}

-- the last line was answered, and some of the answer written
pub stops_line : (a c : Option (List ℕ)) (s new : WorldState) (line : List ℕ) → IsOneLine line → 0 < length line → IsPastLine s line new → AppendsPrefix a c (line_text s line) → Stops a c s new line
stops_line a c s new [] clean some past part = absurd (omega (arith, some))
stops_line a c s new (x ∷ line) clean some past part =
    let one : (x ∷ line) ∷ [] ≡ take 1 (lines_of (x ∷ line)) = ap (take 1) (sym (lines_last x line clean)) in
    record {
      count = 1;
      rooms = past.rooms ∙ ap (lines_end (names_of s) (rooms_of s)) one;
      names = past.names;
      shown = subst (LinesShow (names_of s) (rooms_of s)) one (past.shown, tt);
      answers = record {
        prefix = part.prefix;
        rest = part.rest;
        adds = part.adds;
        whole = ap (lines_out (names_of s) (rooms_of s)) (sym one) ∙ append-nil (line_text s (x ∷ line)) ∙ part.whole;
      };
    }

-- nothing was done
pub stops_at_once : (a : Option (List ℕ)) (s : WorldState) (bytes : List ℕ) → Stops a a s s bytes
stops_at_once a s bytes = stops_of bytes (wrote_none a s [] [] refl)

-- the last line was answered or not, and nothing is written
pub stops_lost : (a : Option (List ℕ)) (s new : WorldState) (line : List ℕ) → IsOneLine line → 0 < length line → (new ≡ s) ⊎ IsPastLine s line new → Stops a a s new line
stops_lost a s new line clean some (inl same) = subst (λ n. Stops a a s n line) (sym same) (stops_at_once a s line)
stops_lost a s new line clean some (inr past) = stops_line a a s new line clean some past (no_front a _)

-- the last line was answered
pub past_end : (s new : WorldState) (line : List ℕ) → IsOneLine line → 0 < length line → IsPastLine s line new → IsPastEnd s line new
past_end s new [] clean some past = absurd (omega (arith, some))
past_end s new (x ∷ line) clean some past = record {
  rooms = past.rooms ∙ sym (end_last s (x ∷ line) clean some);
  names = past.names;
  shown = subst (LinesShow (names_of s) (rooms_of s)) (sym (lines_last x line clean)) (past.shown, tt);
}

-- what was written is a prefix of the whole output
pub stops_front : {a b : Option (List ℕ)} {s0 s1 : WorldState} {bytes : List ℕ} → Stops a b s0 s1 bytes → AppendsPrefix a b (output_of s0 bytes)
stops_front {s0 = s0} {bytes = bytes} h =
    let later = lines_out (names_of s0) (lines_end (names_of s0) (rooms_of s0) (take h.count (lines_of bytes))) (drop h.count (lines_of bytes)) in
    record {
      prefix = h.answers.prefix;
      rest = h.answers.rest ++ later;
      adds = h.answers.adds;
      whole =
          ap (lines_out (names_of s0) (rooms_of s0)) (sym (take-append-drop h.count (lines_of bytes)))
          ∙ out_append (names_of s0) (rooms_of s0) (take h.count (lines_of bytes)) (drop h.count (lines_of bytes))
          ∙ ap (λ t. t ++ later) h.answers.whole
          ∙ append_assoc h.answers.prefix h.answers.rest later;
    }
