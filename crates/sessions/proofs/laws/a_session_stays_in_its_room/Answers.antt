use Rattle.sessions.specs.Sessions.{host_of}
use Rattle.sessions.proofs.Staying.{turn_stays}
use Rattle.sessions.proofs.laws.a_session_stays_in_its_room.Goals as goal

pub returns : goal.returns
returns g c = λ limits rooms bytes turn. turn_stays (host_of limits rooms g.K.Keeper.permits g.K.Keeper.denies) turn bytes
