use Rattle.late_join.proofs.AnyOrder.{same_shown, same_versions}
use Rattle.late_join.proofs.laws.a_replica_shows_what_the_room_shows.Goals as goal

pub returns-clause-versions : goal.returns-clause-versions
returns-clause-versions c = same_versions

pub returns-clause-shown : goal.returns-clause-shown
returns-clause-shown c = same_shown
