use Rattle.std.proofs.Common.{◌≡◌, ◌++◌, [], take, drop}
use Rattle.metrics.specs.Histograms.{bucket_samples, count_in, told_count}
use Rattle.metrics.proofs.histogram.push_buckets.Given as goal

abbrev pub invariant-loop-bucket : goal.invariant-loop-bucket
invariant-loop-bucket l =
    (l.count ≡ told_count (count_in (take l.bucket-index l.buckets)))
    × (l.samples.items ++ bucket_samples (take l.bucket-index l.buckets) (drop l.bucket-index l.buckets)
    ≡ l.initial.samples.items ++ bucket_samples [] l.buckets)
