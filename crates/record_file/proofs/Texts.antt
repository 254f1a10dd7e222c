-- The texts of entries are one line each.
use Rattle.std.proofs.Common.{Bool, ◌≡◌, ◌≢◌, inl, inr, ℕ, zero, suc, ◌+◌, ◌<◌, ◌/◌, ◌%◌, pos, negsuc, List, [], ◌∷◌, ◌++◌, map, length, take, get_or, true, false, cond, sym, ◌∙◌, ap, subst, arith, append-nil, append_assoc}
use Rattle.std.specs.Prelude.{nat_lt}
use Rattle.std.proofs.lemmas.Bool.{cases_eq, ne_eqb, eq-eqb}
use Rattle.std.proofs.lemmas.Bool.Decides.{nat_tests}
use Rattle.std.proofs.lemmas.List.Concat.{flat_map-append}
use Rattle.std.proofs.lemmas.List.{take_more, map-append}
use Rattle.std.specs.Fmt.{decimal, digits, digits_onto, digit_glyph}
use Rattle.std.specs.Char.{digit_char}
use Rattle.json.specs.Print.{escape_letter, escape_byte, escape, quoted}
use Rattle.serde_json.specs.Data.{Num, unsigned, negative, float, Data, null, boolean, number, string, array, object, Items, no_items, item, Members, no_members, member}
use Rattle.serde_json.specs.Written.{number_text, comma_if, compact_text, items_text, members_text}
use Rattle.rules.specs.declared.history.Entry.{Entry}
use Rattle.wire.specs.Form.{entry_form, IsEntryText}
use Rattle.wire_reader.specs.steps.Reads.{entry_read}
use Rattle.wire_reader.proofs.EntryTexts.{entries_by_form}
use Rattle.wire.specs.steps.OneLine.{IsOneLine}
use Rattle.record_file.specs.RecordText.{AreLines, entry_line, record_text}
use Rattle.wire.proofs.OneLine.{one_line_append}
use Rattle.record_file.proofs.Lines.{goes_on, line_whole, line_lines}

-- ---- numbers

glyph_stays : (d : ℕ) → digit_glyph false d ≢ 10
glyph_stays d = grind (arith, nat_tests)

onto_digits : (k n : ℕ) (acc : List ℕ) → IsOneLine acc → IsOneLine (digits_onto k 10 false n acc)
onto_digits zero n acc h = h
onto_digits (suc k) n acc h = elim (cases_eq (n / 10) 0) [
  | inl is ↦ rw (eq-eqb (n / 10) 0 is) (glyph_stays (n % 10), h)
  | inr not ↦ rw (ne_eqb (n / 10) 0 not) (onto_digits k (n / 10) (digit_glyph false (n % 10) ∷ acc) (glyph_stays (n % 10), h))
]

decimal_line : (n : ℕ) → IsOneLine (decimal n)
unfolding digits
decimal_line n = onto_digits 64 n [] tt

number_line : (n : Num) → IsOneLine (number_text n)
number_line (unsigned n) = decimal_line n
number_line (negative (pos n)) = decimal_line n
number_line (negative (negsuc n)) = ((λ e. absurd (omega (arith, e))), decimal_line (suc n))
number_line (float x) = tt

-- ---- strings

char_stays : (d : ℕ) → digit_char d ≢ 10
char_stays d = grind (arith, nat_tests)

letter_stays : (x : ℕ) → escape_letter x ≡ 10 → ⊥
letter_stays x e = grind (arith, nat_tests)

cond_line : (b : Bool) (xs ys : List ℕ) → IsOneLine xs → IsOneLine ys → IsOneLine (cond b xs ys)
cond_line true xs ys h k = h
cond_line false xs ys h k = k

byte_line : (x : ℕ) → IsOneLine (escape_byte x)
unfolding escape_byte
byte_line x = elim (cases_eq x 10) [
  | inl is ↦ subst (λ (y : ℕ). IsOneLine (escape_byte y)) (sym is) ((λ e. absurd (omega (arith, e))), ((λ e. absurd (omega (arith, e))), tt))
  | inr not ↦ cond_line (nat_lt 0 (escape_letter x)) (92 ∷ escape_letter x ∷ []) (cond (nat_lt x 32) (92 ∷ 117 ∷ 48 ∷ 48 ∷ digit_char (x / 16) ∷ digit_char (x % 16) ∷ []) (x ∷ [])) ((λ e. absurd (omega (arith, e))), (letter_stays x, tt)) (cond_line (nat_lt x 32) (92 ∷ 117 ∷ 48 ∷ 48 ∷ digit_char (x / 16) ∷ digit_char (x % 16) ∷ []) (x ∷ []) ((λ e. absurd (omega (arith, e))), ((λ e. absurd (omega (arith, e))), ((λ e. absurd (omega (arith, e))), ((λ e. absurd (omega (arith, e))), (char_stays (x / 16), (char_stays (x % 16), tt)))))) (not, tt))
]

escape_line : (s : List ℕ) → IsOneLine (escape s)
escape_line [] = tt
escape_line (x ∷ s) = one_line_append (escape_byte x) (escape s) (byte_line x) (escape_line s)

quoted_line : (s : List ℕ) → IsOneLine (quoted s)
quoted_line s = ((λ e. absurd (omega (arith, e))), one_line_append (escape s) (34 ∷ []) (escape_line s) ((λ e. absurd (omega (arith, e))), tt))

comma_line : (later : Bool) → IsOneLine (comma_if later)
comma_line true = ((λ e. absurd (omega (arith, e))), tt)
comma_line false = tt

-- ---- values

mutual
  value_line : (d : Data) → IsOneLine (compact_text d)
  value_line null = ((λ e. absurd (omega (arith, e))), ((λ e. absurd (omega (arith, e))), ((λ e. absurd (omega (arith, e))), ((λ e. absurd (omega (arith, e))), tt))))
  value_line (boolean true) = ((λ e. absurd (omega (arith, e))), ((λ e. absurd (omega (arith, e))), ((λ e. absurd (omega (arith, e))), ((λ e. absurd (omega (arith, e))), tt))))
  value_line (boolean false) = ((λ e. absurd (omega (arith, e))), ((λ e. absurd (omega (arith, e))), ((λ e. absurd (omega (arith, e))), ((λ e. absurd (omega (arith, e))), ((λ e. absurd (omega (arith, e))), tt)))))
  value_line (number n) = number_line n
  value_line (string s) = quoted_line s
  value_line (array ds) = ((λ e. absurd (omega (arith, e))), items_line false ds)
  value_line (object ms) = ((λ e. absurd (omega (arith, e))), members_line false ms)

  items_line : (later : Bool) (ds : Items) → IsOneLine (items_text later ds)
  items_line later no_items = ((λ e. absurd (omega (arith, e))), tt)
  items_line later (item d ds) = one_line_append (comma_if later) (compact_text d ++ items_text true ds) (comma_line later)
      (one_line_append (compact_text d) (items_text true ds) (value_line d) (items_line true ds))

  members_line : (later : Bool) (ms : Members) → IsOneLine (members_text later ms)
  members_line later no_members = ((λ e. absurd (omega (arith, e))), tt)
  members_line later (member k d ms) = one_line_append (comma_if later) (quoted k ++ 58 ∷ (compact_text d ++ members_text true ms)) (comma_line later)
      (one_line_append (quoted k) (58 ∷ (compact_text d ++ members_text true ms)) (quoted_line k)
      ((λ e. absurd (omega (arith, e))), one_line_append (compact_text d) (members_text true ms) (value_line d) (members_line true ms)))

-- ---- entries

pub entry_is_line : (e : Entry) (line : List ℕ) → line ≡ compact_text (entry_form e) → IsOneLine line
entry_is_line e line is = subst IsOneLine (sym is) (value_line (entry_form e))

pub line_more : (text line : List ℕ) (r : List Entry) (e : Entry) → AreLines text r → line ≡ compact_text (entry_form e) → IsEntryText line e
    → AreLines ((text ++ line) ++ 10 ∷ []) (r ++ e ∷ [])
line_more text line r e so_far is back =
    let one : IsOneLine line = entry_is_line e line is in
    let last : AreLines (line ++ 10 ∷ []) (e ∷ []) = record {
      whole = line_whole line one;
      read = ap (map entry_read) (line_lines line one) ∙ ap (λ x. x ∷ []) ((entries_by_form line e).1 back);
    } in
    subst (λ (bytes : List ℕ). AreLines bytes (r ++ e ∷ [])) (sym (append_assoc text line (10 ∷ []))) (goes_on text (line ++ 10 ∷ []) r (e ∷ []) so_far last)

pub text_more : (text line : List ℕ) (r : List Entry) (e : Entry) → text ≡ record_text r → line ≡ compact_text (entry_form e) → (text ++ line) ++ 10 ∷ [] ≡ record_text (r ++ e ∷ [])
text_more text line r e so_far is =
    append_assoc text line (10 ∷ []) ∙ ap (λ t. t ++ (line ++ 10 ∷ [])) so_far ∙ ap (λ t. record_text r ++ (t ++ 10 ∷ [])) is
    ∙ ap (λ t. record_text r ++ t) (sym (append-nil (entry_line e))) ∙ sym (flat_map-append entry_line r (e ∷ []))

pub map_take_more : {X Y : Type 0} (f : X → Y) (xs : List X) (i : ℕ) (d : X) → i < length xs → map f (take (i + 1) xs) ≡ map f (take i xs) ++ f (get_or xs i d) ∷ []
map_take_more f xs i d lt = ap (map f) (take_more xs i d lt) ∙ map-append f (take i xs) (get_or xs i d ∷ [])
