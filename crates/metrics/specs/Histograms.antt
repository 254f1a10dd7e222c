-- The samples of a histogram of times.
use Rattle.std.specs.Prelude.{ℕ, ◌+◌, ◌-◌, ◌^◌, List, [], ◌∷◌, ◌++◌, codes, min}
use Rattle.std.specs.List.{sum_by}
use Rattle.base_types.specs.Texts.{Bytes}
use Rattle.metrics.specs.declared.family.Suffix.TheVariants as suffix
use Rattle.metrics.specs.declared.number.Number.TheVariants.{Whole, Micros}
use Rattle.metrics.specs.declared.histogram.Bucket.{Bucket}
use Rattle.metrics.specs.Numbers.{seconds_text}
use Rattle.metrics.specs.Families.{SampleView}

-- a count as it is told: at most the greatest number of 64 bits
abbrev pub told_count : ℕ → ℕ
told_count count = min count (2 ^ 64 - 1)

abbrev pub count_in : List Bucket → ℕ
count_in buckets = sum_by (λ bucket. bucket.count) buckets

abbrev pub bucket_sample : Bytes → ℕ → SampleView
bucket_sample bound count = record {
  suffix = suffix.Bucket;
  labels = record { name = codes "le"; value = bound } ∷ [];
  number = Whole count;
}

-- Buckets behind others: each counts all times up to its bound.
abbrev pub bucket_samples : List Bucket → List Bucket → List SampleView
bucket_samples before [] = []
bucket_samples before (bucket ∷ buckets) =
    bucket_sample (seconds_text bucket.bound) (told_count (count_in (before ++ bucket ∷ [])))
    ∷ bucket_samples (before ++ bucket ∷ []) buckets

-- The buckets, one of all times, the sum, and the number of the times, which the last bucket has too.
abbrev pub histogram_samples : List Bucket → ℕ → ℕ → List SampleView
histogram_samples buckets above sum =
    let count = told_count (count_in buckets + above) in
    bucket_samples [] buckets
    ++ bucket_sample (codes "+Inf") count
    ∷ record { suffix = suffix.Sum; labels = []; number = Micros sum }
    ∷ record { suffix = suffix.Count; labels = []; number = Whole count }
    ∷ []
