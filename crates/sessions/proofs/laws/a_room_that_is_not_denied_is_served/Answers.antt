use Rattle.sessions.specs.Sessions.{host_of}
use Rattle.sessions.proofs.Staying.{served}
use Rattle.sessions.proofs.laws.a_room_that_is_not_denied_is_served.Goals as goal

pub returns : goal.returns
returns g c = λ limits rooms. served (host_of limits rooms g.K.Keeper.permits g.K.Keeper.denies)
