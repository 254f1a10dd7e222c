-- What reads forms reads them exactly: what is read is the value of that form, and each value is read from its forms.
use Rattle.std.proofs.Common.{◌≡◌, ℕ, ◌^◌, ◌<◌, ℤ, pos, negsuc, List, [], ◌∷◌, map, Bool, true, false, cond, ltb, leb, Option, Some, None, refl, sym, ap, subst, ◌∙◌, lt-ltb, ◌&&◌, bytes_eq, FitsSigned, arith}
use Rattle.std.specs.Prelude.{⊤}
use Rattle.std.specs.Int.{w64}
use Rattle.std.specs.List.{AllByRecursion}
use Rattle.std.proofs.lemmas.Option.{cond_some}
use borrow.Author.Tests.{ltb-true}
use Rattle.serde_json.specs.Data.{unsigned, negative, float, Data, null, boolean, number, string, array, object, Items, no_items, item}
use Rattle.serde_json.specs.Find.{as_str, of_integer}
use Rattle.serde_json.specs.View.{items_of}
use Rattle.wire.specs.Form.{list_form, whole_form, AreForms, IsListForm}
use Rattle.std.proofs.lemmas.Slice.Eq.{bytes_eq-Decides}
use Rattle.wire_reader.specs.steps.Reading.{◌>>=◌, listed, items_in, passing, all_in, list_in, two_at, two_in, natural_in, whole_in, integer_at, integer_in, end_at, field_at, worded_at, worded_in, Words, WordReader, no_others, by_word, worded_message_in}

-- of values that have one form each
pub record IsExact (X : Type 0) (read : Data → Option X) (form : X → Data) (Fits : X → Type 0) : Type 0 where
  pub takes : (d : Data) (x : X) → read d ≡ Some x → Fits x × (d ≡ form x)
  pub again : (x : X) → Fits x → read (form x) ≡ Some x

-- of values that may have several
pub record ReadsForms (X : Type 0) (read : Data → Option X) (IsForm : Data → X → Type 0) (Fits : X → Type 0) : Type 0 where
  pub takes : (d : Data) (x : X) → read d ≡ Some x → Fits x × IsForm d x
  pub again : (d : Data) (x : X) → IsForm d x → Fits x → read d ≡ Some x

pub reads_form : {X : Type 0} {read : Data → Option X} {form : X → Data} {Fits : X → Type 0} → IsExact X read form Fits → ReadsForms X read (λ d x. d ≡ form x) Fits
reads_form {read = read} exact = record { takes = exact.takes; again = λ d x e fit. ap read e ∙ exact.again x fit }

-- what fits may be said otherwise
pub exact_by : {X : Type 0} {read : Data → Option X} {form : X → Data} {Fits Gits : X → Type 0} → IsExact X read form Fits → ((x : X) → Fits x → Gits x) → ((x : X) → Gits x → Fits x) → IsExact X read form Gits
exact_by exact to from = record {
  takes = λ d x e. let a = exact.takes d x e in (to x a.0, a.1);
  again = λ x fit. exact.again x (from x fit);
}

-- the value of a step that gave one
pub bind_some : {A B : Type 0} (o : Option A) (f : A → Option B) (y : B) → (o >>= f) ≡ Some y → (x : A) × (o ≡ Some x) × (f x ≡ Some y)
bind_some (Some x) f y e = (x, refl, e)
bind_some None f y e = absurd cc

abbrev some : {A : Type 0} → A → Option A
some x = Some x

pub some_is : {A : Type 0} (x y : A) → some x ≡ some y → x ≡ y
some_is x y e = cc

-- ---- lists

items_of-listed : (is : Items) → items_of (listed is) ≡ is
items_of-listed no_items = refl
items_of-listed (item d is) = ap (item d) (items_of-listed is)

listed-items_of : (ds : List Data) → listed (items_of ds) ≡ ds
listed-items_of [] = refl
listed-items_of (d ∷ ds) = ap (λ es. d ∷ es) (listed-items_of ds)

pub items_take : (d : Data) (ds : List Data) → items_in d ≡ Some ds → d ≡ list_form ds
unfolding items_in
items_take null ds e = absurd cc
items_take (boolean b) ds e = absurd cc
items_take (number n) ds e = absurd cc
items_take (string s) ds e = absurd cc
items_take (array is) ds e = ap array (sym (items_of-listed is) ∙ ap items_of (some_is (listed is) ds e))
items_take (object ms) ds e = absurd cc

pub items_again : (ds : List Data) → items_in (list_form ds) ≡ Some ds
unfolding items_in
items_again ds = ap (λ (es : List Data). Some es) (listed-items_of ds)

all_take : {X : Type 0} {read : Data → Option X} {IsForm : Data → X → Type 0} {Fits : X → Type 0} → ReadsForms X read IsForm Fits → (ds : List Data) (xs : List X) → all_in read ds ≡ Some xs → AllByRecursion Fits xs × AreForms IsForm ds xs
unfolding all_in
all_take {X = X} {IsForm = IsForm} {Fits = Fits} reads [] xs e =
    subst (λ (ys : List X). AllByRecursion Fits ys × AreForms IsForm [] ys) (some_is [] xs e) (tt, tt)
all_take {X = X} {read = read} {IsForm = IsForm} {Fits = Fits} reads (d ∷ ds) xs e =
    let a = bind_some (read d) (λ x. all_in read ds >>= λ ys. Some (x ∷ ys)) xs e in
    let b = bind_some (all_in read ds) (λ ys. Some (a.0 ∷ ys)) xs a.2 in
    let first = reads.takes d a.0 a.1 in
    let others = all_take reads ds b.0 b.1 in
    subst (λ (ys : List X). AllByRecursion Fits ys × AreForms IsForm (d ∷ ds) ys) (some_is (a.0 ∷ b.0) xs b.2) ((first.0, others.0), (first.1, others.1))

all_again : {X : Type 0} {read : Data → Option X} {IsForm : Data → X → Type 0} {Fits : X → Type 0} → ReadsForms X read IsForm Fits → (ds : List Data) (xs : List X) → AreForms IsForm ds xs → AllByRecursion Fits xs → all_in read ds ≡ Some xs
unfolding all_in
all_again reads [] [] forms fit = refl
all_again reads [] (x ∷ xs) forms fit = absurd forms
all_again reads (d ∷ ds) [] forms fit = absurd forms
all_again reads (d ∷ ds) (x ∷ xs) forms fit = rw (reads.again d x forms.0 fit.0, all_again reads ds xs forms.1 fit.1) refl

pub reads_list : {X : Type 0} {read : Data → Option X} {IsForm : Data → X → Type 0} {Fits : X → Type 0} → ReadsForms X read IsForm Fits → ReadsForms (List X) (list_in read) (IsListForm IsForm) (AllByRecursion Fits)
unfolding list_in
reads_list {read = read} reads = record {
  takes = λ d xs e.
      let a = bind_some (items_in d) (all_in read) xs e in
      let b = all_take reads a.0 xs a.2 in
      (b.0, (a.0, b.1, items_take d a.0 a.1));
  again = λ d xs form fit. rw (form.2, items_again form.0) (all_again reads form.0 xs form.1 fit);
}

-- where each has one form, so has their list
one_form_each : {X : Type 0} (form : X → Data) (ds : List Data) (xs : List X) → AreForms (λ d x. d ≡ form x) ds xs → ds ≡ map form xs
one_form_each form [] [] forms = refl
one_form_each form [] (x ∷ xs) forms = absurd forms
one_form_each form (d ∷ ds) [] forms = absurd forms
one_form_each form (d ∷ ds) (x ∷ xs) forms = rw (forms.0, one_form_each form ds xs forms.1) refl

each_its_form : {X : Type 0} (form : X → Data) (xs : List X) → AreForms (λ d x. d ≡ form x) (map form xs) xs
each_its_form form [] = tt
each_its_form form (x ∷ xs) = (refl, each_its_form form xs)

pub exact_list : {X : Type 0} {read : Data → Option X} {form : X → Data} {Fits : X → Type 0} → IsExact X read form Fits → IsExact (List X) (list_in read) (λ xs. list_form (map form xs)) (AllByRecursion Fits)
exact_list {form = form} exact = record {
  takes = λ d xs e.
      let a = (reads_list (reads_form exact)).takes d xs e in
      (a.0, a.1.2 ∙ ap list_form (one_form_each form a.1.0 xs a.1.1));
  again = λ xs fit. (reads_list (reads_form exact)).again (list_form (map form xs)) xs (map form xs, each_its_form form xs, refl) fit;
}

-- ---- a test

pub exact_passing : {X : Type 0} {read : Data → Option X} {form : X → Data} {Fits : X → Type 0} (test : X → Bool) → IsExact X read form Fits → IsExact X (passing test read) form (λ x. Fits x × (test x ≡ true))
exact_passing {X = X} {read = read} {form = form} {Fits = Fits} test exact = record {
  takes = λ d x e.
      let a = bind_some (read d) (λ y. cond (test y) (Some y) None) x e in
      let b = cond_some (test a.0) a.0 x a.2 in
      let c = exact.takes d a.0 a.1 in
      subst (λ (y : X). (Fits y × (test y ≡ true)) × (d ≡ form y)) b.1 ((c.0, b.0), c.1);
  again = λ x fit. rw (exact.again x fit.0, fit.1) refl;
}

-- ---- a list of two

two_take : {X Y : Type 0} {first : Data → Option X} {form : X → Data} {Fits : X → Type 0} {second : Data → Option Y} {gorm : Y → Data} {Gits : Y → Type 0} → IsExact X first form Fits → IsExact Y second gorm Gits
    → (ds : List Data) (p : X × Y) → two_at first second ds ≡ Some p → (Fits p.0 × Gits p.1) × (ds ≡ form p.0 ∷ gorm p.1 ∷ [])
unfolding two_at
two_take f g [] p e = absurd cc
two_take f g (a ∷ []) p e = absurd cc
two_take {X = X} {Y = Y} {first = first} {form = form} {Fits = Fits} {second = second} {gorm = gorm} {Gits = Gits} f g (a ∷ b ∷ []) p e =
    let x = bind_some (first a) (λ x. second b >>= λ y. Some (x, y)) p e in
    let y = bind_some (second b) (λ y. Some (x.0, y)) p x.2 in
    let k = f.takes a x.0 x.1 in
    let m = g.takes b y.0 y.1 in
    subst (λ (q : X × Y). (Fits q.0 × Gits q.1) × (a ∷ b ∷ [] ≡ form q.0 ∷ gorm q.1 ∷ [])) (some_is (x.0, y.0) p y.2) ((k.0, m.0), cc)
two_take f g (a ∷ b ∷ c ∷ ds) p e = absurd cc

pub exact_two : {X Y : Type 0} {first : Data → Option X} {form : X → Data} {Fits : X → Type 0} {second : Data → Option Y} {gorm : Y → Data} {Gits : Y → Type 0} → IsExact X first form Fits → IsExact Y second gorm Gits → IsExact (X × Y) (two_in first second) (λ p. list_form (form p.0 ∷ gorm p.1 ∷ [])) (λ p. Fits p.0 × Gits p.1)
unfolding two_in two_at
exact_two {first = first} {form = form} {second = second} {gorm = gorm} f g = record {
  takes = λ d p e.
      let a = bind_some (items_in d) (two_at first second) p e in
      let b = two_take f g a.0 p a.2 in
      (b.0, items_take d a.0 a.1 ∙ ap list_form b.1);
  again = λ p fit. rw (items_again (form p.0 ∷ gorm p.1 ∷ []), f.again p.0 fit.0, g.again p.1 fit.1) refl;
}

-- ---- what is made of a value

pub exact_made : {X Y : Type 0} {read : Data → Option X} {form : X → Data} {Fits : X → Type 0} → IsExact X read form Fits → (make : X → Y) (parts : Y → X) → ((x : X) → parts (make x) ≡ x) → ((y : Y) → make (parts y) ≡ y)
    → IsExact Y (λ d. read d >>= λ x. Some (make x)) (λ y. form (parts y)) (λ y. Fits (parts y))
exact_made {X = X} {Y = Y} {read = read} {form = form} {Fits = Fits} exact make parts same again = record {
  takes = λ d y e.
      let a = bind_some (read d) (λ x. Some (make x)) y e in
      let b = exact.takes d a.0 a.1 in
      let c : Fits (parts (make a.0)) × (d ≡ form (parts (make a.0))) = rw (same a.0) b in
      subst (λ (z : Y). Fits (parts z) × (d ≡ form (parts z))) (some_is (make a.0) y a.2) c;
  again = λ y fit. rw (exact.again (parts y) fit, again y) refl;
}

-- ---- texts and numbers

text_takes : (d : Data) (s : List ℕ) → as_str d ≡ Some s → Unit {0} × (d ≡ string s)
text_takes null s e = absurd cc
text_takes (boolean b) s e = absurd cc
text_takes (number n) s e = absurd cc
text_takes (string t) s e = (tt, ap string (some_is t s e))
text_takes (array is) s e = absurd cc
text_takes (object ms) s e = absurd cc

pub exact_text : IsExact (List ℕ) as_str string (λ _. Unit {0})
exact_text = record { takes = text_takes; again = λ s fit. refl }

natural_takes : (d : Data) (n : ℕ) → natural_in d ≡ Some n → Unit {0} × (d ≡ whole_form n)
unfolding natural_in
natural_takes null n e = absurd cc
natural_takes (boolean b) n e = absurd cc
natural_takes (number (unsigned m)) n e = (tt, ap whole_form (some_is m n e))
natural_takes (number (negative z)) n e = absurd cc
natural_takes (number (float x)) n e = absurd cc
natural_takes (string t) n e = absurd cc
natural_takes (array is) n e = absurd cc
natural_takes (object ms) n e = absurd cc

exact_natural : IsExact ℕ natural_in whole_form (λ _. Unit {0})
unfolding natural_in
exact_natural = record { takes = natural_takes; again = λ n fit. refl }

pub exact_text_where : (test : List ℕ → Bool) → IsExact (List ℕ) (passing test as_str) string (λ s. test s ≡ true)
exact_text_where test = exact_by (exact_passing test exact_text) (λ s fit. fit.1) (λ s fit. (tt, fit))

pub exact_whole : (low high : ℕ) → IsExact ℕ (whole_in low high) whole_form (λ n. (leb low n && leb n high) ≡ true)
unfolding whole_in
exact_whole low high = exact_by (exact_passing (λ n. leb low n && leb n high) exact_natural) (λ n fit. fit.1) (λ n fit. (tt, fit))

integer_takes : (d : Data) (z : ℤ) → integer_in d ≡ Some z → FitsSigned w64 z × (d ≡ number (of_integer z))
unfolding integer_in integer_at
integer_takes null z e = absurd cc
integer_takes (boolean b) z e = absurd cc
integer_takes (number (unsigned m)) z e =
    let a = cond_some (ltb m (2 ^ 63)) (pos m) z e in
    let below : m < 2 ^ 63 = ltb-true m (2 ^ 63) a.0 in
    subst (λ (y : ℤ). FitsSigned w64 y × (number (unsigned m) ≡ number (of_integer y))) a.1 (omega arith, refl)
integer_takes (number (negative (pos n))) z e = absurd cc
integer_takes (number (negative (negsuc n))) z e =
    let a = cond_some (ltb n (2 ^ 63)) (negsuc n) z e in
    let below : n < 2 ^ 63 = ltb-true n (2 ^ 63) a.0 in
    subst (λ (y : ℤ). FitsSigned w64 y × (number (negative (negsuc n)) ≡ number (of_integer y))) a.1 (omega arith, refl)
integer_takes (number (float x)) z e = absurd cc
integer_takes (string t) z e = absurd cc
integer_takes (array is) z e = absurd cc
integer_takes (object ms) z e = absurd cc

integer_again : (z : ℤ) → FitsSigned w64 z → integer_in (number (of_integer z)) ≡ Some z
unfolding integer_in integer_at
integer_again (pos n) fit = let below : n < 2 ^ 63 = omega arith in rw (lt-ltb n (2 ^ 63) below) refl
integer_again (negsuc n) fit = let below : n < 2 ^ 63 = omega arith in rw (lt-ltb n (2 ^ 63) below) refl

pub exact_integer : IsExact ℤ integer_in (λ z. number (of_integer z)) (FitsSigned w64)
exact_integer = record { takes = integer_takes; again = integer_again }

-- ---- fields

pub record AreExact (Y : Type 0) (read : List Data → Option Y) (forms : Y → List Data) (Fits : Y → Type 0) : Type 0 where
  pub takes : (ds : List Data) (y : Y) → read ds ≡ Some y → Fits y × (ds ≡ forms y)
  pub again : (y : Y) → Fits y → read (forms y) ≡ Some y

end_takes : (ds : List Data) (y : ⊤) → end_at ds ≡ Some y → ⊤ × (ds ≡ [])
end_takes [] y e = (tt, refl)
end_takes (d ∷ ds) y e = absurd cc

pub exact_end : AreExact ⊤ end_at (λ _. []) (λ _. ⊤)
exact_end = record { takes = end_takes; again = λ y fit. refl }

-- a field that was read, and the others
pub field_some : {X Y : Type 0} (first : Data → Option X) (others : List Data → Option Y) (ds : List Data) (p : X × Y) → field_at first others ds ≡ Some p → (d : Data) × (es : List Data) × (ds ≡ d ∷ es) × (first d ≡ Some p.0) × (others es ≡ Some p.1)
field_some first others [] p e = absurd cc
field_some first others (d ∷ ds) p e =
    let x = bind_some (first d) (λ x. others ds >>= λ y. Some (x, y)) p e in
    let y = bind_some (others ds) (λ y. Some (x.0, y)) p x.2 in
    let same = some_is (x.0, y.0) p y.2 in
    (d, ds, refl, x.1 ∙ ap (λ q. Some q.0) same, y.1 ∙ ap (λ q. Some q.1) same)

field_takes : {X Y : Type 0} {first : Data → Option X} {form : X → Data} {Fits : X → Type 0} {others : List Data → Option Y} {forms : Y → List Data} {Git : Y → Type 0} → IsExact X first form Fits → AreExact Y others forms Git
    → (ds : List Data) (p : X × Y) → field_at first others ds ≡ Some p → (Fits p.0 × Git p.1) × (ds ≡ form p.0 ∷ forms p.1)
field_takes {first = first} {others = others} f g ds p e =
    let a = field_some first others ds p e in
    let k = f.takes a.0 p.0 a.3 in
    let m = g.takes a.1 p.1 a.4 in
    ((k.0, m.0), a.2 ∙ rw (k.1, m.1) refl)

pub exact_field : {X Y : Type 0} {first : Data → Option X} {form : X → Data} {Fits : X → Type 0} {others : List Data → Option Y} {forms : Y → List Data} {Git : Y → Type 0} → IsExact X first form Fits → AreExact Y others forms Git
    → AreExact (X × Y) (field_at first others) (λ p. form p.0 ∷ forms p.1) (λ p. Fits p.0 × Git p.1)
exact_field f g = record { takes = field_takes f g; again = λ p fit. rw (f.again p.0 fit.0, g.again p.1 fit.1) refl }

-- what was made of the fields
pub made_of : {Y Q : Type 0} {read : List Data → Option Y} {forms : Y → List Data} {Fits : Y → Type 0} → AreExact Y read forms Fits
    → (make : Y → Q) (ds : List Data) (q : Q) → (read ds >>= λ y. Some (make y)) ≡ Some q → (y : Y) × Fits y × (ds ≡ forms y) × (make y ≡ q)
made_of {read = read} exact make ds q e =
    let a = bind_some (read ds) (λ y. Some (make y)) q e in
    let b = exact.takes ds a.0 a.1 in
    (a.0, b.0, b.1, some_is (make a.0) q a.2)

-- ---- a word and what follows it

-- what follows the word is read as a value that has a form which begins with the word
pub record IsWordOf {X : Type 0} (IsForm : Data → X → Type 0) (Fits : X → Type 0) (w : List ℕ × (List Data → Option X)) : Type 0 where
  pub takes : (ds : List Data) (x : X) → w.1 ds ≡ Some x → Fits x × IsForm (list_form (string w.0 ∷ ds)) x

first_word : {X : Type 0} {IsForm : Data → X → Type 0} {Fits : X → Type 0} (b : Bool) (word : List ℕ) (first : List ℕ × (List Data → Option X)) (others : Option X) (ds : List Data) (x : X) → bytes_eq word first.0 ≡ b
    → IsWordOf IsForm Fits first → (others ≡ Some x → Fits x × IsForm (list_form (string word ∷ ds)) x) → cond b (first.1 ds) others ≡ Some x → Fits x × IsForm (list_form (string word ∷ ds)) x
first_word {IsForm = IsForm} {Fits = Fits} true word first others ds x same h k e =
    subst (λ (w : List ℕ). Fits x × IsForm (list_form (string w ∷ ds)) x) (sym ((bytes_eq-Decides word first.0).0 same)) (h.takes ds x e)
first_word false word first others ds x same h k e = k e

-- the words that are listed, and then the others
pub words_take : {X : Type 0} (IsForm : Data → X → Type 0) (Fits : X → Type 0) (words : Words X) (others : WordReader X) → AllByRecursion (IsWordOf IsForm Fits) words → ((word : List ℕ) → IsWordOf IsForm Fits (word, others word))
    → (word : List ℕ) (ds : List Data) (x : X) → by_word words others word ds ≡ Some x → Fits x × IsForm (list_form (string word ∷ ds)) x
words_take IsForm Fits [] others h k word ds x e = (k word).takes ds x e
words_take IsForm Fits (first ∷ words) others h k word ds x e =
    first_word (bytes_eq word first.0) word first (by_word words others word ds) ds x refl h.0 (words_take IsForm Fits words others h.1 k word ds x) e

pub no_other_word : {X : Type 0} {IsForm : Data → X → Type 0} {Fits : X → Type 0} (word : List ℕ) → IsWordOf IsForm Fits (word, no_others word)
no_other_word word = record { takes = λ ds x e. absurd cc }

worded_take : (ds : List Data) (p : List ℕ × List Data) → worded_at ds ≡ Some p → list_form ds ≡ list_form (string p.0 ∷ p.1)
worded_take [] p e = absurd cc
worded_take (d ∷ ds) p e =
    let a = bind_some (as_str d) (λ w. Some (w, ds)) p e in
    subst (λ (q : List ℕ × List Data). list_form (d ∷ ds) ≡ list_form (string q.0 ∷ q.1)) (some_is (a.0, ds) p a.2)
    (ap (λ (x : Data). list_form (x ∷ ds)) (exact_text.takes d a.0 a.1).1)

pub message_takes : {X : Type 0} (IsForm : Data → X → Type 0) (Fits : X → Type 0) (words : Words X) (others : WordReader X) → AllByRecursion (IsWordOf IsForm Fits) words → ((word : List ℕ) → IsWordOf IsForm Fits (word, others word))
    → (d : Data) (x : X) → worded_message_in words others d ≡ Some x → Fits x × IsForm d x
unfolding worded_in
message_takes IsForm Fits words others h k d x e =
    let a = bind_some (items_in d >>= worded_at) (λ p. by_word words others p.0 p.1) x e in
    let b = bind_some (items_in d) worded_at a.0 a.1 in
    let c = words_take IsForm Fits words others h k a.0.0 a.0.1 x a.2 in
    (c.0, subst (λ (f : Data). IsForm f x) (sym (items_take d b.0 b.1 ∙ worded_take b.0 a.0 b.2)) c.1)

pub message_again : {X : Type 0} (words : Words X) (others : WordReader X) (word : List ℕ) (ds : List Data) → worded_message_in words others (list_form (string word ∷ ds)) ≡ by_word words others word ds
unfolding worded_in
message_again words others word ds = rw (items_again (string word ∷ ds)) refl

-- one message has one word and the same fields
pub same_message : (v w : List ℕ) (ds es : List Data) → list_form (string v ∷ ds) ≡ list_form (string w ∷ es) → (v ≡ w) × (ds ≡ es)
same_message v w ds es e =
    let same : items_of ds ≡ items_of es = cc in
    (cc, sym (listed-items_of ds) ∙ ap listed same ∙ listed-items_of es)

-- fields that are read exactly, and the value made of them
pub word_of_fields : {X Y : Type 0} {IsForm : Data → X → Type 0} {Fits : X → Type 0} {read : List Data → Option Y} {forms : Y → List Data} {Gits : Y → Type 0} → AreExact Y read forms Gits
    → (word : List ℕ) (make : Y → X) → ((y : Y) → Gits y → Fits (make y) × IsForm (list_form (string word ∷ forms y)) (make y)) → IsWordOf IsForm Fits (word, λ ds. read ds >>= λ y. Some (make y))
word_of_fields {X = X} {IsForm = IsForm} {Fits = Fits} exact word make h = record {
  takes = λ ds x e.
      let a = made_of exact make ds x e in
      let b = h a.0 a.1 in
      let is = subst (λ (fs : List Data). IsForm (list_form (string word ∷ fs)) (make a.0)) (sym a.2) b.1 in
      subst (λ (y : X). Fits y × IsForm (list_form (string word ∷ ds)) y) a.3 (b.0, is);
}
