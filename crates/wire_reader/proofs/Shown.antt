-- How what is shown of a version is read, and the number and the word of a refusal.
use Rattle.std.proofs.Common.{◌≡◌, ℕ, ◌-◌, ◌<◌, List, [], ◌∷◌, codes, bytes_eq, true, false, Some, None, cond, refl, ap, ◌∙◌}
use Rattle.json.specs.Token.{Token}
use Rattle.serde_json.specs.Data.{array, Items}
use Rattle.serde_json.specs.Find.{as_str}
use Rattle.rules.specs.declared.refusal.TheConstants.{MAX_REFUSAL_CODE}
use Rattle.rules.specs.declared.version.Shown.TheVariants.{Attrs, Gone}
use Rattle.wire.specs.Rising.{rise, attr_before}
use Rattle.wire_reader.specs.steps.Reading.{◌>>=◌, listed, all_in, attr_in, id_in, items_in, list_in, two_in, field_at, end_at, whole_in}
use Rattle.wire_reader.specs.steps.Replies.{shown_attrs_at, shown_attrs_in, shown_in, version_in, refusal_with, refusal_fields}
use Rattle.wire_reader.specs.steps.Streams.{next_in, rest_in, begins_list, string_of}
use Rattle.wire_reader.proofs.Tokens.{leaving, rest_then, next_then, next_at_string, next_at_list, next_at_none, next_elsewhere}

pub attrs_steps : (n : ℕ) (ts : List Token) → rest_in shown_attrs_at n ts ≡ (rest_in (all_in attr_in) n ts >>= λ q. leaving q.1 (cond (rise attr_before q.0) (Some q.0) None))
unfolding shown_attrs_at
attrs_steps n ts = rest_then (all_in attr_in) (λ attrs. cond (rise attr_before attrs) (Some attrs) None) n ts

pub refusal_steps : (n : ℕ) (ts : List Token)
    → rest_in refusal_fields n ts ≡ (rest_in (field_at (whole_in 1 MAX_REFUSAL_CODE) (field_at as_str end_at)) n ts >>= λ q. leaving q.1 (refusal_with q.0.0 q.0.1.0))
unfolding refusal_fields
refusal_steps n ts = rest_then (field_at (whole_in 1 MAX_REFUSAL_CODE) (field_at as_str end_at)) (λ p. refusal_with p.0 p.1.0) n ts

pub version_steps : (n : ℕ) (ts : List Token) → next_in version_in n ts ≡ (next_in (two_in id_in shown_in) n ts >>= λ q. Some (record { id = q.0.0; shown = q.0.1 }, q.1))
unfolding version_in
version_steps n ts = next_then (two_in id_in shown_in) (λ p. Some (record { id = p.0; shown = p.1 })) n ts

-- ---- what is shown of a version

pub shown_none : (n : ℕ) → next_in shown_in n [] ≡ None
shown_none n = next_at_none shown_in n

pub shown_text : (n : ℕ) (s : List ℕ) (ts : List Token) → next_in shown_in n (Token.string s ∷ ts) ≡ leaving ts (cond (bytes_eq s (codes "gone")) (Some Gone) None)
unfolding shown_in
shown_text n s ts = next_at_string shown_in n s ts

listed_shown : (is : Items) → shown_in (array is) ≡ (shown_attrs_at (listed is) >>= λ attrs. Some (Attrs attrs))
unfolding shown_in shown_attrs_in shown_attrs_at list_in items_in
listed_shown is = refl

pub shown_list : (n : ℕ) (ts : List Token) → 0 < n → next_in shown_in n (Token.begin_array ∷ ts) ≡ (rest_in shown_attrs_at (n - 1) ts >>= λ q. Some (Attrs q.0, q.1))
shown_list n ts deep =
    next_at_list shown_in (λ ds. shown_attrs_at ds >>= λ attrs. Some (Attrs attrs)) listed_shown n ts deep ∙ rest_then shown_attrs_at (λ attrs. Some (Attrs attrs)) (n - 1) ts

pub shown_other : (n : ℕ) (t : Token) (ts : List Token) → None ≡ string_of t → begins_list t ≡ false → next_in shown_in n (t ∷ ts) ≡ None
unfolding shown_in shown_attrs_in list_in items_in
shown_other n t ts e f = next_elsewhere shown_in refl (λ b. refl) (λ x. refl) (λ ms. refl) n t ts e f

-- the string that a token is
string_is : (t : Token) (s : List ℕ) → Some s ≡ string_of t → t ≡ Token.string s
string_is Token.begin_object s e = absurd cc
string_is Token.end_object s e = absurd cc
string_is Token.begin_array s e = absurd cc
string_is Token.end_array s e = absurd cc
string_is (Token.key k) s e = absurd cc
string_is (Token.string r) s e = cc
string_is (Token.number r) s e = absurd cc
string_is (Token.boolean b) s e = absurd cc
string_is Token.null s e = absurd cc
string_is Token.bad s e = absurd cc

list_is : (t : Token) → begins_list t ≡ true → t ≡ Token.begin_array
list_is Token.begin_object e = absurd cc
list_is Token.end_object e = absurd cc
list_is Token.begin_array e = refl
list_is Token.end_array e = absurd cc
list_is (Token.key k) e = absurd cc
list_is (Token.string r) e = absurd cc
list_is (Token.number r) e = absurd cc
list_is (Token.boolean b) e = absurd cc
list_is Token.null e = absurd cc
list_is Token.bad e = absurd cc

pub text_here : (n : ℕ) (old new : List Token) (t : Token) (s : List ℕ) → old ≡ t ∷ new → Some s ≡ string_of t → next_in shown_in n old ≡ leaving new (cond (bytes_eq s (codes "gone")) (Some Gone) None)
text_here n old new t s is e = ap (next_in shown_in n) (is ∙ ap (λ u. u ∷ new) (string_is t s e)) ∙ shown_text n s new

pub list_here : (n : ℕ) (old new : List Token) (t : Token) → 0 < n → old ≡ t ∷ new → begins_list t ≡ true → next_in shown_in n old ≡ (rest_in shown_attrs_at (n - 1) new >>= λ q. Some (Attrs q.0, q.1))
list_here n old new t deep is e = ap (next_in shown_in n) (is ∙ ap (λ u. u ∷ new) (list_is t e)) ∙ shown_list n new deep

pub other_here : (n : ℕ) (old new : List Token) (t : Token) → old ≡ t ∷ new → None ≡ string_of t → begins_list t ≡ false → next_in shown_in n old ≡ None
other_here n old new t is e f = ap (next_in shown_in n) is ∙ shown_other n t new e f
