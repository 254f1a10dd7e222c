use Rattle.std.proofs.Common.{length}
use Rattle.base_types.proofs.version_id.+do_names_rise.Given as goal

abbrev pub decreases-do_names_rise : goal.decreases-do_names_rise
decreases-do_names_rise l = length l.names.now
