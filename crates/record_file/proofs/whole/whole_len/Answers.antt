use Rattle.std.proofs.Common.{take, ◌∙◌, ap, arith, refl}
use Rattle.record_file.proofs.Lines.{part_here, part_stays}
use Rattle.record_file.proofs.whole.whole_len.Goals.{then-bytes-place-eq10, else-bytes-place-eq10}
use Rattle.record_file.proofs.whole.whole_len.Goals as goal

pub loop-place-preserved : goal.loop-place-preserved
loop-place-preserved c =
    let bytes = c.args.bytes.now in
    let inv = c.loop-place.invariant in
    elim c.if-bytes-place-eq10.branch [
      | then-bytes-place-eq10 w ↦ record {
        part = ap (λ n. take n bytes) w.end-is ∙ part_here bytes c.loop-place.place _ c.loop-place-test.true refl w.if-bytes-place-eq10.true;
        within = omega (arith, w.end-is);
        inside = omega (arith, c.loop-place-test.true);
      }
      | else-bytes-place-eq10 w ↦ record {
        part = ap (λ n. take n bytes) w.end-is ∙ part_stays bytes c.loop-place.end c.loop-place.place _ c.loop-place-test.true refl w.if-bytes-place-eq10.false inv.part;
        within = omega (arith, w.end-is, inv.within);
        inside = omega (arith, c.loop-place-test.true);
      }
    ]
