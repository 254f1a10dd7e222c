use Rattle.room_lock.proofs.Standing.{back_stands}
use Rattle.room_lock.proofs.laws.backs_stand_in_the_record.Goals as goal

pub returns : goal.returns
returns c = back_stands
