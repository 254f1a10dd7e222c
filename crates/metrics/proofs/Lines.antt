-- How many lines a text has.
use Rattle.std.proofs.Common.{◌≡◌, ℕ, ◌+◌, ◌/◌, ◌%◌, ◌-◌, ◌≤◌, suc, zero, Bool, true, false, cond, eqb, eqb-true, ◌&&◌, List, [], ◌∷◌, ◌++◌, length, refl, sym, ◌∙◌, arith}
use Rattle.std.specs.Prelude.{◌==◌, not, codes, count_by, sum_by, replicate}
use Rattle.std.specs.List.{flat_map, list_all}
use Rattle.std.specs.Fmt.{decimal, digits, digits_onto, digit_glyph}
use Rattle.std.proofs.lemmas.Bool.Decides.{nat_tests}
use Rattle.std.proofs.lemmas.List.Sums.{sum_by-append, sum_by-cons}
use Rattle.std.proofs.lemmas.List.Folds.{sum_by-replicate}
use Rattle.metrics.specs.declared.number.Number.{Number}
use Rattle.metrics.specs.declared.number.Number.TheVariants.{Whole, Micros}
use Rattle.metrics.specs.declared.family.Kind.{Kind}
use Rattle.metrics.specs.declared.family.Kind.TheVariants.{Counter, Gauge, Histogram}
use Rattle.metrics.specs.declared.family.Suffix.{Suffix}
use Rattle.metrics.specs.declared.family.Suffix.TheVariants.{Plain, Bucket, Sum, Count}
use Rattle.metrics.specs.Numbers.{number_text}
use Rattle.metrics.specs.Names.{has_no_line_end, has_names_in_line}
use Rattle.metrics.specs.Families.{LabelView, SampleView, FamilyView, kind_word, suffix_text, help_byte, value_byte, label_text, labels_text, sample_text, family_head, family_text, families_text}

-- how many lines a text ends
abbrev ends : List ℕ → ℕ
ends text = count_by (λ byte. byte == 10) text

-- a text ends so many lines
record Ends (text : List ℕ) (count : ℕ) : Type 0 where
  is : ends text ≡ count

-- the text ends as many lines as it computes
lit : (text : List ℕ) → Ends text (ends text)
lit text = record { is = refl }

two : {xs ys : List ℕ} {m n : ℕ} → Ends xs m → Ends ys n → Ends (xs ++ ys) (m + n)
two {xs} {ys} e f = record { is = sum_by-append (λ (b : ℕ). cond (eqb b 10) 1 0) xs ys ∙ (λ i. e.is i + f.is i) }

-- a byte that ends no line
other : (byte : ℕ) (text : List ℕ) → 11 ≤ byte → ends (byte ∷ text) ≡ ends text
other byte text high = let e = sum_by-cons (λ (b : ℕ). cond (eqb b 10) 1 0) byte text in grind (arith, nat_tests)

both : (a b : Bool) → a && b ≡ true → (a ≡ true) × (b ≡ true)
both true b e = (refl, e)
both false b e = cc

-- the parts of the elements that pass a test end as many lines as a function says
ends-flat_map : {X : Type 0} (part : X → List ℕ) (count : X → ℕ) (passes : X → Bool)
    → ((x : X) → passes x ≡ true → Ends (part x) (count x))
    → (xs : List X) → list_all passes xs ≡ true → Ends (flat_map part xs) (sum_by count xs)
ends-flat_map part count passes each [] all = record { is = refl }
ends-flat_map part count passes each (x ∷ xs) all =
    let parts = both (passes x) (list_all passes xs) all in
    let more = two (each x parts.0) (ends-flat_map part count passes each xs parts.1) in
    record { is = more.is ∙ sym (sum_by-cons count x xs) }

-- a byte that passes a test that LF does not pass
not_lf : (passes : ℕ → Bool) → passes 10 ≡ false → (byte : ℕ) → passes byte ≡ true → eqb byte 10 ≡ false
not_lf passes fails byte passed = by (eqb byte 10) refl
  where
    by : (t : Bool) → eqb byte 10 ≡ t → t ≡ false
    by false e = refl
    by true e = let same : byte ≡ 10 = eqb-true byte 10 e in cc

none-cons : (passes : ℕ → Bool) → passes 10 ≡ false → (byte : ℕ) (text : List ℕ) → passes byte ≡ true → Ends text 0
    → Ends (byte ∷ text) 0
none-cons passes fails byte text passed rest =
    record { is = sum_by-cons (λ (b : ℕ). cond (eqb b 10) 1 0) byte text ∙ rw (not_lf passes fails byte passed, rest.is) }

none : (passes : ℕ → Bool) → passes 10 ≡ false → (text : List ℕ) → list_all passes text ≡ true → Ends text 0
none passes fails [] all = record { is = refl }
none passes fails (byte ∷ text) all =
    let parts = both (passes byte) (list_all passes text) all in
    none-cons passes fails byte text parts.0 (none passes fails text parts.1)

sum_by-none : {X : Type 0} (xs : List X) → sum_by (λ (x : X). 0) xs ≡ 0
sum_by-none [] = refl
sum_by-none {X} (x ∷ xs) = let e = sum_by-cons (λ (y : X). 0) x xs in let f = sum_by-none xs in omega arith

sum_by-one : {X : Type 0} (xs : List X) → sum_by (λ (x : X). 1) xs ≡ length xs
sum_by-one [] = refl
sum_by-one {X} (x ∷ xs) = let e = sum_by-cons (λ (y : X). 1) x xs in let f = sum_by-one xs in omega arith

-- ---- numbers

high : (digit : ℕ) → 11 ≤ digit_glyph false digit
high digit = grind (arith, nat_tests)

onto : (k n : ℕ) (text : List ℕ) → ends (digits_onto k 10 false n text) ≡ ends text
onto zero n text = refl
onto (suc k) n text =
    let digit = digit_glyph false (n % 10) in
    elim (eqb (n / 10) 0) as (λ t. ends (cond t (digit ∷ text) (digits_onto k 10 false (n / 10) (digit ∷ text))) ≡ ends text) [
      | true ↦ other digit text (high (n % 10))
      | false ↦ onto k (n / 10) (digit ∷ text) ∙ other digit text (high (n % 10))
    ]

of_decimal : (n : ℕ) → Ends (decimal n) 0
unfolding digits
of_decimal n = record { is = onto 64 n [] }

of_zeros : (n : ℕ) → Ends (replicate n 48) 0
of_zeros n = record { is = sum_by-replicate (λ (b : ℕ). cond (eqb b 10) 1 0) n 48 ∙ omega arith }

of_number : (number : Number) → Ends (number_text number) 0
of_number (Whole n) = of_decimal n
of_number (Micros micros) =
    two (two (of_decimal (micros / 1000000)) (lit (codes ".")))
    (two (of_zeros (6 - length (decimal (micros % 1000000)))) (of_decimal (micros % 1000000)))

-- ---- texts with escapes

of_help_byte : (byte : ℕ) → Ends (help_byte byte) 0
of_help_byte byte = by (eqb byte 92) (eqb byte 10) refl
  where
    by : (t u : Bool) → eqb byte 10 ≡ u → Ends (cond t (92 ∷ 92 ∷ []) (cond u (92 ∷ 110 ∷ []) (byte ∷ []))) 0
    by true u e = lit (92 ∷ 92 ∷ [])
    by false true e = lit (92 ∷ 110 ∷ [])
    by false false e = record { is = rw e }

of_value_byte : (byte : ℕ) → Ends (value_byte byte) 0
of_value_byte byte =
    elim (eqb byte 34) as (λ t. Ends (cond t (92 ∷ 34 ∷ []) (help_byte byte)) 0) [
      | true ↦ lit (92 ∷ 34 ∷ [])
      | false ↦ of_help_byte byte
    ]

of_escaped : (escape : ℕ → List ℕ) → ((byte : ℕ) → Ends (escape byte) 0) → (text : List ℕ) → Ends (flat_map escape text) 0
of_escaped escape each [] = record { is = refl }
of_escaped escape each (byte ∷ text) = two (each byte) (of_escaped escape each text)

-- ---- names

of_name : (name : List ℕ) → has_no_line_end name ≡ true → Ends name 0
of_name name legal = none (λ (byte : ℕ). not (eqb byte 10)) refl name legal

-- ---- families

of_label : (label : LabelView) → has_no_line_end label.name ≡ true → Ends (label_text label) 0
of_label label legal =
    two (two (two (of_name label.name legal) (lit (codes "=\""))) (of_escaped value_byte of_value_byte label.value)) (lit (codes "\""))

of_labels : (labels : List LabelView) → list_all (λ label. has_no_line_end label.name) labels ≡ true → Ends (labels_text labels) 0
of_labels [] legal = record { is = refl }
of_labels (first ∷ others) legal =
    let parts = both (has_no_line_end first.name) (list_all (λ label. has_no_line_end label.name) others) legal in
    let behind = ends-flat_map (λ (label : LabelView). codes "," ++ label_text label) (λ _. 0) (λ label. has_no_line_end label.name)
    (λ label legal'. two (lit (codes ",")) (of_label label legal')) others parts.1 in
    let more : Ends (flat_map (λ (label : LabelView). codes "," ++ label_text label) others) 0 = record { is = behind.is ∙ sum_by-none others } in
    two (two (two (lit (codes "{")) (of_label first parts.0)) more) (lit (codes "}"))

of_suffix : (suffix : Suffix) → Ends (suffix_text suffix) 0
of_suffix Plain = lit []
of_suffix Bucket = lit (codes "_bucket")
of_suffix Sum = lit (codes "_sum")
of_suffix Count = lit (codes "_count")

of_kind : (kind : Kind) → Ends (kind_word kind) 0
of_kind Counter = lit (codes "counter")
of_kind Gauge = lit (codes "gauge")
of_kind Histogram = lit (codes "histogram")

of_sample : (name : List ℕ) → Ends name 0 → (sample : SampleView)
    → list_all (λ label. has_no_line_end label.name) sample.labels ≡ true → Ends (sample_text name sample) 1
of_sample name named sample legal =
    two (two (two (two (two named (of_suffix sample.suffix)) (of_labels sample.labels legal)) (lit (codes " "))) (of_number sample.number))
    (lit (codes "\n"))

of_head : (family : FamilyView) → Ends family.name 0 → Ends (family_head family) 2
of_head family named =
    two (two (two (two (two (two (two (two (lit (codes "# HELP ")) named) (lit (codes " "))) (of_escaped help_byte of_help_byte family.help))
    (lit (codes "\n# TYPE "))) named) (lit (codes " "))) (of_kind family.kind)) (lit (codes "\n"))

of_family : (family : FamilyView) → has_names_in_line family ≡ true → Ends (family_text family) (2 + length family.samples)
of_family family legal =
    let parts = both (has_no_line_end family.name) (list_all (λ sample. list_all (λ label. has_no_line_end label.name) sample.labels) family.samples) legal in
    let named = of_name family.name parts.0 in
    let behind = ends-flat_map (sample_text family.name) (λ _. 1) (λ sample. list_all (λ label. has_no_line_end label.name) sample.labels)
    (of_sample family.name named) family.samples parts.1 in
    let samples : Ends (flat_map (sample_text family.name) family.samples) (length family.samples) = record { is = behind.is ∙ sum_by-one family.samples } in
    two (of_head family named) samples

-- two lines for each family and one for each sample
pub lines_of_families : (families : List FamilyView) → list_all has_names_in_line families ≡ true
    → count_by (λ byte. byte == 10) (families_text families) ≡ sum_by (λ family. 2 + length family.samples) families
lines_of_families families legal = (ends-flat_map family_text (λ family. 2 + length family.samples) has_names_in_line of_family families legal).is
