-- Families of metrics, and their text in Prometheus' text form, version 0.0.4.
use Rattle.std.specs.Prelude.{ℕ, ◌==◌, List, [], ◌∷◌, ◌++◌, codes, if◌then◌else◌}
use Rattle.std.specs.List.{flat_map}
use Rattle.base_types.specs.Texts.{Bytes}
use Rattle.metrics.specs.declared.family.Kind.{Kind}
use Rattle.metrics.specs.declared.family.Kind.TheVariants.{Counter, Gauge, Histogram}
use Rattle.metrics.specs.declared.family.Suffix.{Suffix}
use Rattle.metrics.specs.declared.family.Suffix.TheVariants.{Plain, Bucket, Sum, Count}
use Rattle.metrics.specs.declared.number.Number.{Number}
use Rattle.metrics.specs.Numbers.{number_text}

pub record LabelView : Type 0 where
  pub name : Bytes
  pub value : Bytes

pub record SampleView : Type 0 where
  pub suffix : Suffix
  pub labels : List LabelView
  pub number : Number

pub record FamilyView : Type 0 where
  pub name : Bytes
  pub help : Bytes
  pub kind : Kind
  pub samples : List SampleView

abbrev pub kind_word : Kind → Bytes
kind_word Counter = codes "counter"
kind_word Gauge = codes "gauge"
kind_word Histogram = codes "histogram"

abbrev pub suffix_text : Suffix → Bytes
suffix_text Plain = []
suffix_text Bucket = codes "_bucket"
suffix_text Sum = codes "_sum"
suffix_text Count = codes "_count"

-- a byte of a help: two backslashes for a backslash, a backslash and `n` for LF
abbrev pub help_byte : ℕ → Bytes
help_byte byte = if byte == 92 then codes "\\\\" else (if byte == 10 then codes "\\n" else byte ∷ [])

-- a byte of a label's value: also a backslash and a quote for a quote
abbrev pub value_byte : ℕ → Bytes
value_byte byte = if byte == 34 then codes "\\\"" else help_byte byte

-- NAME="VALUE"
abbrev pub label_text : LabelView → Bytes
label_text label = label.name ++ codes "=\"" ++ flat_map value_byte label.value ++ codes "\""

-- {LABEL,..,LABEL}, or nothing
abbrev pub labels_text : List LabelView → Bytes
labels_text [] = []
labels_text (first ∷ others) =
    codes "{" ++ label_text first ++ flat_map (λ label. codes "," ++ label_text label) others
    ++ codes "}"

-- NAME SUFFIX LABELS, a space, the number and LF
abbrev pub sample_text : Bytes → SampleView → Bytes
sample_text name sample =
    name ++ suffix_text sample.suffix ++ labels_text sample.labels
    ++ codes " " ++ number_text sample.number ++ codes "\n"

-- the lines `# HELP NAME HELP` and `# TYPE NAME KIND`
abbrev pub family_head : FamilyView → Bytes
family_head family =
    codes "# HELP " ++ family.name ++ codes " " ++ flat_map help_byte family.help
    ++ codes "\n# TYPE " ++ family.name ++ codes " " ++ kind_word family.kind ++ codes "\n"

abbrev pub family_text : FamilyView → Bytes
family_text family = family_head family ++ flat_map (sample_text family.name) family.samples

abbrev pub families_text : List FamilyView → Bytes
families_text families = flat_map family_text families
