use Rattle.std.proofs.Common.{length}
use Rattle.wire_reader.proofs.rising.+do_rise.Given as goal

abbrev pub decreases-do_rise : goal.decreases-do_rise
decreases-do_rise g l = length l.items.now
