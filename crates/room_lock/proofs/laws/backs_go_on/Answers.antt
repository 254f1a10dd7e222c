use Rattle.room_lock.proofs.Standing.{back_goes_on}
use Rattle.room_lock.proofs.laws.backs_go_on.Goals as goal

pub returns : goal.returns
returns c = λ limits site now reply back. back_goes_on limits site now reply back
