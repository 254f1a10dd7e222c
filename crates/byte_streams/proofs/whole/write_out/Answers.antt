use Rattle.std.proofs.KnownBytes.{Appends-kept}
use Rattle.base_types.proofs.Results.{err_of}
use Rattle.byte_streams.proofs.Written.{front_at, wrote_more, wrote_within}
use Rattle.byte_streams.proofs.whole.write_out.Goals as goal

pub returns-in_err-count-clause-prefix : goal.returns-in_err-count-clause-prefix
returns-in_err-count-clause-prefix g c =
    err_of c.from_residual.result (front_at _ _ _ _ (Appends-kept _ _ _ _ c.loop-written.invariant.told c.in_err-count.ensures.bytes))

pub returns-then-count-eq0-clause-prefix : goal.returns-then-count-eq0-clause-prefix
returns-then-count-eq0-clause-prefix g c =
    front_at _ _ _ _ (wrote_more _ _ _ c.loop-written.written c.in_ok-count.count _ c.loop-written.invariant.told c.in_ok-count.ensures.bytes)

pub loop-written-preserved : goal.loop-written-preserved
loop-written-preserved g c = record {
  within = wrote_within _ _ _ c.loop-written.invariant.within c.in_ok-count.ensures.bound;
  told = wrote_more _ _ _ _ _ _ c.loop-written.invariant.told c.in_ok-count.ensures.bytes;
}
