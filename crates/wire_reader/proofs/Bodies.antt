-- The reader of operations is exact.
use Rattle.std.proofs.Common.{◌≡◌, ◌⊎◌, inl, inr, ℕ, true, List, [], ◌∷◌, codes, Option, Some, refl, ap, ◌∙◌}
use Rattle.serde_json.specs.Data.{Data, string}
use Rattle.base_types.specs.Vectors.{Vector, is_vector}
use Rattle.rules.specs.AttrLists.{Attr, are_pairs, pairs_fault}
use Rattle.rules.specs.declared.history.Body.{Body}
use Rattle.rules.specs.declared.history.Body.TheVariants.{New, Put, DropVersion}
use Rattle.wire.specs.Form.{list_form, names_form, WordAndFields, body_form, old_body_form, operation_form, IsBody, IsFormBy}
use Rattle.wire_reader.specs.steps.Reading.{no_others, by_word, Words, WordReader}
use Rattle.wire_reader.specs.steps.Bodies.{new_at, put_at, drop_at, one_pair_at, body_words, body_at, operation_at}
use Rattle.wire_reader.proofs.Exact.{IsExact, exact_end, exact_field, field_some, IsWordOf, word_of_fields, words_take, no_other_word, same_message}
use Rattle.wire_reader.proofs.PartForms.{exact_name, exact_seen, exact_id, exact_key, exact_kind, exact_value, exact_attrs, exact_pairs}

-- a word and what follows it, as one list
abbrev message : WordAndFields → Data
message does = list_form (string does.0 ∷ does.1)

abbrev IsBodyWord : List ℕ × (List Data → Option Body) → Type 0
IsBodyWord = IsWordOf (IsFormBy (λ of_body body. message (of_body body))) IsBody

new_word : IsBodyWord (codes "new", new_at)
unfolding new_at
new_word = word_of_fields (exact_field exact_kind (exact_field exact_attrs exact_end)) (codes "new") (λ p. New p.0 p.1.0) (λ p fit. ((fit.0, fit.1.0), inl refl))

put_word : IsBodyWord (codes "put", put_at)
unfolding put_at
put_word =
    word_of_fields (exact_field exact_name (exact_field exact_id (exact_field exact_pairs exact_end))) (codes "put")
    (λ p. Put p.0 p.1.0 p.1.1.0) (λ p fit. ((fit.0, fit.1.0, fit.1.1.0), inl refl))

drop_word : IsBodyWord (codes "drop", drop_at)
unfolding drop_at
drop_word =
    word_of_fields (exact_field exact_name (exact_field exact_id exact_end)) (codes "drop") (λ p. DropVersion p.0 p.1.0) (λ p fit. ((fit.0, fit.1.0), inl refl))

one_pair : (pair : Attr) → are_pairs (pair ∷ []) ≡ true
unfolding pairs_fault
one_pair pair = refl

set_word : IsBodyWord (codes "set", one_pair_at)
unfolding one_pair_at
set_word =
    word_of_fields (exact_field exact_name (exact_field exact_id (exact_field exact_key (exact_field exact_value exact_end)))) (codes "set")
    (λ p. Put p.0 p.1.0 ((p.1.1.0, p.1.1.1.0) ∷ []))
    (λ p fit. ((fit.0, fit.1.0, (((fit.1.1.0, fit.1.1.1.0), tt), one_pair (p.1.1.0, p.1.1.1.0))), inr refl))

same_does : (does others : WordAndFields) → message does ≡ message others → does ≡ others
same_does does others e = let same = same_message does.0 others.0 does.1 others.1 e in rw (same.0, same.1) refl

body_takes : (does : WordAndFields) (body : Body) → body_at does.0 does.1 ≡ Some body → IsBody body × ((does ≡ body_form body) ⊎ (does ≡ old_body_form body))
unfolding body_at
body_takes does body e =
    let a =
    words_take (IsFormBy (λ of_body body. message (of_body body))) IsBody body_words no_others (new_word, (put_word, (drop_word, (set_word, tt)))) no_other_word does.0 does.1 body e in (
      a.0,
      elim a.1 [
        | inl same ↦ inl (same_does does (body_form body) same)
        | inr same ↦ inr (same_does does (old_body_form body) same)
      ],
    )

-- what operations do is read again from these forms
abbrev pub AreReadAgain : (Body → WordAndFields) → Type 0
AreReadAgain of_body = (body : Body) → IsBody body → body_at (of_body body).0 (of_body body).1 ≡ Some body

pub body_again : AreReadAgain body_form
unfolding body_at new_at put_at drop_at
body_again (New kind attrs) fit = rw (exact_kind.again kind fit.0, exact_attrs.again attrs fit.1) refl
body_again (Put object version pairs) fit =
    rw (exact_name.again object fit.0, exact_id.again version fit.1, exact_pairs.again pairs fit.2) refl
body_again (DropVersion object version) fit = rw (exact_name.again object fit.0, exact_id.again version fit.1) refl

pub old_body_again : AreReadAgain old_body_form
unfolding body_at one_pair_at
old_body_again (New kind attrs) fit = body_again (New kind attrs) fit
old_body_again (Put object version []) fit = body_again (Put object version []) fit
old_body_again (Put object version (pair ∷ [])) fit =
    rw (exact_name.again object fit.0, exact_id.again version fit.1, exact_key.again pair.0 fit.2.0.0.0, exact_value.again pair.1 fit.2.0.0.1) refl
old_body_again (Put object version (first ∷ second ∷ pairs)) fit = body_again (Put object version (first ∷ second ∷ pairs)) fit
old_body_again (DropVersion object version) fit = body_again (DropVersion object version) fit

-- ---- with what comes before

-- what follows a word is read as an operation in one of its forms
pub operation_takes : {X : Type 0} {head : Data → Option X} {form : X → Data} {Fits : X → Type 0} → IsExact X head form Fits → (word : List ℕ) (ds : List Data) (p : X × (Vector × Body)) → operation_at head word ds ≡ Some p
    → (Fits p.0 × (is_vector p.1.0 ≡ true) × IsBody p.1.1) × IsFormBy (λ of_body (q : X × (Vector × Body)). operation_form (form q.0) q.1.0 (of_body q.1.1)) (list_form (string word ∷ ds)) p
operation_takes {head = head} {form = form} exact word ds p e =
    let a = field_some head _ ds p e in
    let b = field_some _ (body_at word) a.1 p.1 a.4 in
    let first = exact.takes a.0 p.0 a.3 in
    let second = exact_seen.takes b.0 p.1.0 b.3 in
    let body = body_takes (word, b.1) p.1.1 b.4 in
    let fields = a.2 ∙ ap (λ d. d ∷ a.1) first.1 ∙ ap (λ es. form p.0 ∷ es) (b.2 ∙ ap (λ d. d ∷ b.1) second.1) in
    let is : list_form (string word ∷ ds) ≡ operation_form (form p.0) p.1.0 (word, b.1) = ap (λ es. list_form (string word ∷ es)) fields in (
      (first.0, second.0, body.0),
      elim body.1 [
        | inl same ↦ inl (is ∙ ap (operation_form (form p.0) p.1.0) same)
        | inr same ↦ inr (is ∙ ap (operation_form (form p.0) p.1.0) same)
      ],
    )

pub operation_again : {X : Type 0} {head : Data → Option X} {form : X → Data} {Fits : X → Type 0} → IsExact X head form Fits → (of_body : Body → WordAndFields) → AreReadAgain of_body
    → (p : X × (Vector × Body)) → Fits p.0 → is_vector p.1.0 ≡ true → IsBody p.1.1 → operation_at head (of_body p.1.1).0 (form p.0 ∷ names_form p.1.0 ∷ (of_body p.1.1).1) ≡ Some p
operation_again exact of_body again p first second body = rw (exact.again p.0 first, exact_seen.again p.1.0 second, again p.1.1 body) refl

-- ---- the words

-- these words of operations are no words of the messages that are listed
abbrev pub AreAlone : {X : Type 0} → Words X → WordReader X → (Body → WordAndFields) → Type 0
AreAlone words others of_body = (body : Body) (ds : List Data) → by_word words others (of_body body).0 ds ≡ others (of_body body).0 ds

pub old_alone : {X : Type 0} (words : Words X) (others : WordReader X) → AreAlone words others body_form → ((ds : List Data) → by_word words others (codes "set") ds ≡ others (codes "set") ds) → AreAlone words others old_body_form
old_alone words others alone set (New kind attrs) ds = alone (New kind attrs) ds
old_alone words others alone set (Put object version []) ds = alone (Put object version []) ds
old_alone words others alone set (Put object version (pair ∷ [])) ds = set ds
old_alone words others alone set (Put object version (first ∷ second ∷ pairs)) ds = alone (Put object version (first ∷ second ∷ pairs)) ds
old_alone words others alone set (DropVersion object version) ds = alone (DropVersion object version) ds

-- what is read again from the form that is written and from the old one is read again from any
pub from_any : {X : Type 0} (form_by : (Body → WordAndFields) → X → Data) (read : Data → Option X) (d : Data) (x : X) → IsFormBy form_by d x → read (form_by body_form x) ≡ Some x → read (form_by old_body_form x) ≡ Some x → read d ≡ Some x
from_any form_by read d x (inl form) written old = ap read form ∙ written
from_any form_by read d x (inr form) written old = ap read form ∙ old
