use Rattle.std.proofs.Common.{◌<◌, length}
use Rattle.places.proofs.Places.{in_all, in_if_has}
use Rattle.conflict_rows.proofs.conflict_rows.ConflictRows.last_of_base.Goals as goal

pub base_with_itself-requires : goal.base_with_itself-requires
base_with_itself-requires c = in_all (λ other. other < length c.args.self.now.ops) c.args.based.now c.requires c.in-Some.last (in_if_has c.args.based.now c.in-Some.last c.in-Some.ensures)
