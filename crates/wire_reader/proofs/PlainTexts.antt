-- A plain text stands for its message.
use Rattle.std.proofs.Common.{◌≡◌, ℕ, zero, suc, negsuc, ◌^◌, ◌<◌, Bool, true, false, cond, not, ◌&&◌, ◌||◌, ◌==◌, nat_le, ◌≤◌, length, get_or, drop, subst, List, [], ◌∷◌, ◌++◌, Option, Some, None, inl, inr, refl, sym, ap, ap₂, ◌∙◌, ◌⊎◌, append_assoc, arith, decimal, take, take_at, length-append, ◌-◌, ◌+◌, ◌/◌, ◌%◌}
use Rattle.std.specs.Char.{encode_utf8, is_digit, InScalarRange}
use Rattle.std.specs.List.{list_all, AllByRecursion}
use Rattle.std.specs.Prelude.{IsTrue}
use Rattle.std.proofs.lemmas.Bool.{and_from, and_parts, cases_lt, leb-true, le-ltb, lt-ltb, ne_eqb, not-true, true≢false}
use Rattle.std.proofs.lemmas.Bool.Decides.{nat_tests}
use Rattle.std.proofs.lemmas.Fmt.{decimal_digit}
use Rattle.std.proofs.lemmas.List.{drop_more}
use Rattle.json.specs.Lex.{Lexeme, Mode, backslash, between, class, in_string, lex, lex_byte, operator, operator_lexeme, other, quote, space, string_token, token}
use Rattle.json.specs.Print.{IsNumber}
use Rattle.json.specs.Text.{code_unit, content, is_high_surrogate, is_low_surrogate, plain, prepend, short_escape}
use Rattle.json.specs.Token.{number}
use Rattle.json.specs.Word.{after_number, ends_word, is_operator, is_space}
use Rattle.json.proofs.Printed.Decimals.{IsNumber-decimal, IsNumber-signed_decimal}
use Rattle.json.proofs.Printed.Numbers.{lex-number}
use Rattle.wire.specs.steps.Quoting.{is_plain_byte}
use Rattle.wire_reader.specs.steps.PlainTexts.{IsEscape, IsUnicode, StandsFor, StandsInside}

-- ---- a byte of a string

-- no quote and no backslash
abbrev IsInside : ℕ → Type 0
IsInside x = ((x == 34) ≡ false) × ((x == 92) ≡ false)

stays_inside : (o s : Bool) (x : ℕ) (xs : List ℕ) (k : Mode → List Lexeme) → lex_byte in_string (cond o operator (cond s space other)) x xs k ≡ k in_string
stays_inside true s x xs k = refl
stays_inside false true x xs k = refl
stays_inside false false x xs k = refl

lex_inside : (x : ℕ) (xs : List ℕ) → IsInside x → lex in_string (x ∷ xs) ≡ lex in_string xs
unfolding lex
lex_inside x xs inside = rw (inside.0, inside.1) (stays_inside (is_operator x) (is_space x) x xs (λ m. lex m xs))

plain_is_inside : (x : ℕ) → is_plain_byte x ≡ true → IsInside x
plain_is_inside x h =
    let tests = and_parts (not (x == 34)) (not (x == 92)) (and_parts (nat_le 32 x) _ h).1 in
    (not-true (x == 34) tests.0, not-true (x == 92) tests.1)

content_byte : (x : ℕ) (xs : List ℕ) → is_plain_byte x ≡ true → content plain (x ∷ xs) ≡ prepend (x ∷ []) (content plain xs)
unfolding content
content_byte x xs h =
    let inside = plain_is_inside x h in
    let no_control = le-ltb x 32 (leb-true 32 x (and_parts (nat_le 32 x) _ h).0) in
    rw (inside.0, inside.1, no_control)

-- ---- plain bytes of a string

prepend_none : (o : Option (List ℕ)) → prepend [] o ≡ o
prepend_none None = refl
prepend_none (Some s) = refl

prepend_both : (xs ys : List ℕ) (o : Option (List ℕ)) → prepend xs (prepend ys o) ≡ prepend (xs ++ ys) o
prepend_both xs ys None = refl
prepend_both xs ys (Some s) = ap Some (sym (append_assoc xs ys s))

content_run : (run xs : List ℕ) → list_all is_plain_byte run ≡ true → content plain (run ++ xs) ≡ prepend run (content plain xs)
content_run [] xs h = sym (prepend_none (content plain xs))
content_run (x ∷ run) xs h =
    let both = and_parts (is_plain_byte x) (list_all is_plain_byte run) h in
    content_byte x (run ++ xs) both.0 ∙ ap (prepend (x ∷ [])) (content_run run xs both.1) ∙ prepend_both (x ∷ []) run (content plain xs)

lex_run : (run xs : List ℕ) → list_all is_plain_byte run ≡ true → lex in_string (run ++ xs) ≡ lex in_string xs
lex_run [] xs h = refl
lex_run (x ∷ run) xs h =
    let both = and_parts (is_plain_byte x) (list_all is_plain_byte run) h in
    lex_inside x (run ++ xs) (plain_is_inside x both.0) ∙ lex_run run xs both.1

-- ---- the parts of a string

module _ (message text rest : List ℕ) where
  pub opened : StandsFor message text (34 ∷ rest) → StandsInside message (text ++ 34 ∷ []) rest
  unfolding lex
  opened stands xs same follows =
      ap (lex between) (append_assoc text (34 ∷ []) xs) ∙ stands (34 ∷ xs) (ap₂ (λ o l. token (string_token o) ∷ l) same follows)

  pub closed : StandsInside message text (34 ∷ rest) → StandsFor message (text ++ 34 ∷ []) rest
  unfolding lex content
  closed stands xs follows = ap (lex between) (append_assoc text (34 ∷ []) xs) ∙ stands (34 ∷ xs) refl follows

  pub run_kept : (run : List ℕ) → list_all is_plain_byte run ≡ true → StandsInside message text (run ++ rest) → StandsInside message (text ++ run) rest
  run_kept run h stands xs same follows =
      ap (lex between) (append_assoc text run xs)
      ∙ stands (run ++ xs) (content_run run xs h ∙ ap (prepend run) same ∙ sym (content_run run rest h)) (lex_run run xs h ∙ follows ∙ sym (lex_run run rest h))

  pub escape_kept : (character : ℕ) (bytes : List ℕ) → IsEscape character bytes rest → list_all is_plain_byte (encode_utf8 character) ≡ true → StandsInside message text (92 ∷ bytes) → StandsInside message (text ++ encode_utf8 character) rest
  unfolding lex content
  escape_kept character bytes is h stands xs same follows =
      let written = encode_utf8 character in
      ap (lex between) (append_assoc text written xs)
      ∙ stands (written ++ xs) (content_run written xs h ∙ ap (prepend written) same ∙ sym is.0) (lex_run written xs h ∙ follows ∙ sym is.1)

-- ---- characters

-- bytes beyond ASCII
abbrev AreHigh : List ℕ → Type 0
AreHigh = AllByRecursion (λ x. 128 ≤ x)

high_are_plain : (xs : List ℕ) → AreHigh xs → list_all is_plain_byte xs ≡ true
high_are_plain [] high = refl
high_are_plain (x ∷ xs) high = let low : 128 ≤ x = high.0 in and_from (is_plain_byte x) (list_all is_plain_byte xs) (grind (arith, nat_tests)) (high_are_plain xs high.1)

encode_two : (c : ℕ) → 128 ≤ c → c < 2048 → encode_utf8 c ≡ (192 + c / 64) ∷ (128 + c % 64) ∷ []
unfolding encode_utf8
encode_two c low high = rw (le-ltb c 128 low, lt-ltb c 2048 high) refl

encode_three : (c : ℕ) → 2048 ≤ c → c < 65536 → encode_utf8 c ≡ (224 + c / 4096) ∷ (128 + c / 64 % 64) ∷ (128 + c % 64) ∷ []
unfolding encode_utf8
encode_three c low high = rw (le-ltb c 128 (omega arith), le-ltb c 2048 low, lt-ltb c 65536 high) refl

encode_four : (c : ℕ) → 65536 ≤ c → encode_utf8 c ≡ (240 + c / 262144) ∷ (128 + c / 4096 % 64) ∷ (128 + c / 64 % 64) ∷ (128 + c % 64) ∷ []
unfolding encode_utf8
encode_four c low = rw (le-ltb c 128 (omega arith), le-ltb c 2048 (omega arith), le-ltb c 65536 low) refl

two_plain : (c : ℕ) → 128 ≤ c → c < 2048 → list_all is_plain_byte (encode_utf8 c) ≡ true
two_plain c low high = ap (list_all is_plain_byte) (encode_two c low high) ∙ high_are_plain ((192 + c / 64) ∷ (128 + c % 64) ∷ []) (omega arith, (omega arith, tt))

three_plain : (c : ℕ) → 2048 ≤ c → c < 65536 → list_all is_plain_byte (encode_utf8 c) ≡ true
three_plain c low high = ap (list_all is_plain_byte) (encode_three c low high) ∙ high_are_plain ((224 + c / 4096) ∷ (128 + c / 64 % 64) ∷ (128 + c % 64) ∷ []) (omega arith, (omega arith, (omega arith, tt)))

four_plain : (c : ℕ) → 65536 ≤ c → list_all is_plain_byte (encode_utf8 c) ≡ true
four_plain c low = ap (list_all is_plain_byte) (encode_four c low) ∙ high_are_plain ((240 + c / 262144) ∷ (128 + c / 4096 % 64) ∷ (128 + c / 64 % 64) ∷ (128 + c % 64) ∷ []) (omega arith, (omega arith, (omega arith, (omega arith, tt))))

three_or_four : (c : ℕ) → 2048 ≤ c → (c < 65536) ⊎ (65536 ≤ c) → list_all is_plain_byte (encode_utf8 c) ≡ true
three_or_four c low (inl less) = three_plain c low less
three_or_four c low (inr more) = four_plain c more

two_or_more : (c : ℕ) → 128 ≤ c → (c < 2048) ⊎ (2048 ≤ c) → list_all is_plain_byte (encode_utf8 c) ≡ true
two_or_more c low (inl less) = two_plain c low less
two_or_more c low (inr more) = three_or_four c more (cases_lt c 65536)

-- a character beyond ASCII is plain
pub high_character : (c : ℕ) → 128 ≤ c → list_all is_plain_byte (encode_utf8 c) ≡ true
high_character c high = two_or_more c high (cases_lt c 2048)

-- ---- escapes

hex_is_inside : (x : ℕ) → is_digit x 16 ≡ true → IsInside x
hex_is_inside x h = (
  ne_eqb x 34 (λ e. true≢false (sym h ∙ ap (λ y. is_digit y 16) e)),
  ne_eqb x 92 (λ e. true≢false (sym h ∙ ap (λ y. is_digit y 16) e)),
)

are_hex : (b : Bool) (u v : ℕ) → cond b (Some u) None ≡ Some v → b ≡ true
are_hex true u v e = refl
are_hex false u v e = absurd cc

no_surrogate : (u : ℕ) → InScalarRange u → (is_high_surrogate u ≡ false) × (is_low_surrogate u ≡ false)
no_surrogate u (inl h) = (grind (arith, nat_tests), grind (arith, nat_tests))
no_surrogate u (inr h) = (grind (arith, nat_tests), grind (arith, nat_tests))

pub unicode_is : (a b c d u : ℕ) (rest : List ℕ) → code_unit a b c d ≡ Some u → InScalarRange u → IsUnicode u (a ∷ b ∷ c ∷ d ∷ rest) rest
unfolding content code_unit
unicode_is a b c d u rest e h =
    let hex = are_hex (is_digit a 16 && is_digit b 16 && is_digit c 16 && is_digit d 16) _ u e in
    let three = and_parts (is_digit a 16 && is_digit b 16 && is_digit c 16) (is_digit d 16) hex in
    let two = and_parts (is_digit a 16 && is_digit b 16) (is_digit c 16) three.0 in
    let one = and_parts (is_digit a 16) (is_digit b 16) two.0 in
    let none = no_surrogate u h in (
      rw (e, none.0, none.1) refl,
      lex_inside a _ (hex_is_inside a one.0) ∙ lex_inside b _ (hex_is_inside b one.1) ∙ lex_inside c _ (hex_is_inside c two.1) ∙ lex_inside d rest (hex_is_inside d three.1),
    )

pub slash_is : (rest : List ℕ) → IsEscape 47 (47 ∷ rest) rest
unfolding content lex short_escape encode_utf8
slash_is rest = (refl, refl)

pub u_is : (character : ℕ) (digits rest : List ℕ) → IsUnicode character digits rest → IsEscape character (117 ∷ digits) rest
unfolding content lex
u_is character digits rest is = is

-- ---- between strings

class_operator : (x : ℕ) → is_operator x ≡ true → class x ≡ operator
class_operator x h =
    let no_quote = ne_eqb x 34 (λ e. true≢false (sym h ∙ ap is_operator e)) in
    let no_backslash = ne_eqb x 92 (λ e. true≢false (sym h ∙ ap is_operator e)) in
    λ i. cond (no_quote i) quote (cond (no_backslash i) backslash (cond (h i) operator (cond (is_space x) space other)))

class_space : (x : ℕ) → is_space x ≡ true → class x ≡ space
class_space x h = grind (arith, nat_tests)

lex_operator : (x : ℕ) (xs : List ℕ) → is_operator x ≡ true → lex between (x ∷ xs) ≡ operator_lexeme x ∷ lex between xs
unfolding lex
lex_operator x xs h = ap (λ c. lex_byte between c x xs (λ m. lex m xs)) (class_operator x h)

same_operator : (x : ℕ) (xs ys : List ℕ) → is_operator x ≡ true → lex between xs ≡ lex between ys → lex between (x ∷ xs) ≡ lex between (x ∷ ys)
same_operator x xs ys h same = lex_operator x xs h ∙ ap (λ l. operator_lexeme x ∷ l) same ∙ sym (lex_operator x ys h)

same_number : (s xs ys : List ℕ) → IsNumber s → ends_word xs ≡ true → ends_word ys ≡ true → lex between xs ≡ lex between ys → lex between (s ++ xs) ≡ lex between (s ++ ys)
same_number s xs ys is ends end same = lex-number s xs is ends ∙ ap (λ l. token (number s) ∷ l) same ∙ sym (lex-number s ys is end)

pub space_more : (bytes : List ℕ) (i : ℕ) → i < length bytes → is_space (get_or bytes i 0) ≡ true → lex between (drop (i + 1) bytes) ≡ lex between (drop i bytes)
unfolding lex
space_more bytes i within h =
    let x = get_or bytes i 0 in
    let rest = drop (i + 1) bytes in
    sym (ap (lex between) (drop_more bytes i 0 within) ∙ ap (λ c. lex_byte between c x rest (λ m. lex m rest)) (class_space x h))

module _ (message text rest : List ℕ) where
  pub operator_kept : (x : ℕ) → is_operator x ≡ true → StandsFor message text (x ∷ rest) → StandsFor message (text ++ x ∷ []) rest
  operator_kept x h stands xs same = ap (lex between) (append_assoc text (x ∷ []) xs) ∙ stands (x ∷ xs) (same_operator x xs rest h same)

  pub number_kept : (s : List ℕ) (x : ℕ) → IsNumber s → is_operator x ≡ true → StandsFor message text (s ++ x ∷ rest) → StandsFor message ((text ++ s) ++ x ∷ []) rest
  number_kept s x is h stands xs same =
      let ends = ap (λ b. b || is_space x) h in
      ap (lex between) (append_assoc (text ++ s) (x ∷ []) xs ∙ append_assoc text s (x ∷ xs))
      ∙ stands (s ++ x ∷ xs) (same_number s (x ∷ xs) (x ∷ rest) is ends ends (same_operator x xs rest h same))

-- ---- at the front of what is left

four : (bytes : List ℕ) → 4 ≤ length bytes → bytes ≡ get_or bytes 0 0 ∷ get_or bytes 1 0 ∷ get_or bytes 2 0 ∷ get_or bytes 3 0 ∷ drop 4 bytes
four [] h = absurd (omega arith)
four (a ∷ []) h = absurd (omega arith)
four (a ∷ b ∷ []) h = absurd (omega arith)
four (a ∷ b ∷ c ∷ []) h = absurd (omega arith)
four (a ∷ b ∷ c ∷ d ∷ rest) h = refl

pub unicode_at : (bytes : List ℕ) (u : ℕ) → 4 ≤ length bytes → code_unit (get_or bytes 0 0) (get_or bytes 1 0) (get_or bytes 2 0) (get_or bytes 3 0) ≡ Some u → InScalarRange u → IsUnicode u bytes (drop 4 bytes)
unicode_at bytes u long e h = subst (λ (front : List ℕ). IsUnicode u front (drop 4 bytes)) (sym (four bytes long)) (unicode_is _ _ _ _ u (drop 4 bytes) e h)

pub u_at : (character x : ℕ) (bytes digits rest : List ℕ) → bytes ≡ x ∷ digits → x ≡ 117 → IsUnicode character digits rest → IsEscape character bytes rest
u_at character x bytes digits rest e is unicode =
    subst (λ (front : List ℕ). IsEscape character front rest) (sym (e ∙ ap (λ y. y ∷ digits) is)) (u_is character digits rest unicode)

pub slash_at : (x : ℕ) (bytes rest : List ℕ) → bytes ≡ x ∷ rest → x ≡ 47 → IsEscape 47 bytes rest
slash_at x bytes rest e is = subst (λ (front : List ℕ). IsEscape 47 front rest) (sym (e ∙ ap (λ y. y ∷ rest) is)) (slash_is rest)

-- ---- numbers

pub minus_is : (n : ℕ) → n < 2 ^ 63 → IsNumber (45 ∷ decimal n)
unfolding after_number
minus_is zero h = ap (λ (digits : List ℕ). after_number (45 ∷ digits)) (decimal_digit 0 (omega arith))
minus_is (suc n) h = IsNumber-signed_decimal (negsuc n) (omega arith)

-- what stands before a rest
front_is : (bytes front rest : List ℕ) (k : ℕ) → bytes ≡ front ++ rest → k ≡ length bytes - length rest → take k bytes ≡ front
front_is bytes front rest k e long =
    let size : k ≡ length front = omega (arith, ap length e, length-append front rest) in
    ap (take k) e ∙ ap (λ n. take n (front ++ rest)) size ∙ take_at front rest _ refl

pub number_front : (bytes middle rest : List ℕ) (n k : ℕ) (has_minus : Bool) → n < 2 ^ 63 → (IsTrue has_minus → bytes ≡ 45 ∷ middle) → (has_minus ≡ false → middle ≡ bytes) → middle ≡ decimal n ++ rest → k ≡ length bytes - length rest → IsNumber (take k bytes)
number_front bytes middle rest n k true small taken stays e long =
    subst IsNumber (sym (front_is bytes (45 ∷ decimal n) rest k (taken refl ∙ ap (λ (s : List ℕ). 45 ∷ s) e) long)) (minus_is n small)
number_front bytes middle rest n k false small taken stays e long =
    subst IsNumber (sym (front_is bytes (decimal n) rest k (sym (stays refl) ∙ e) long)) (IsNumber-decimal n (omega arith))
