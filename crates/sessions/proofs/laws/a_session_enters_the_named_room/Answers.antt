use Rattle.room_lock.specs.Calls.{IsBack, IsRefusalOver}
use Rattle.sessions.specs.Sessions.{host_of}
use Rattle.sessions.specs.Entering.{IsPermittedJoin}
use Rattle.sessions.proofs.Entering.{IsBackRefusal}
use Rattle.sessions.proofs.Staying.{let_in}
use Rattle.sessions.proofs.laws.a_session_enters_the_named_room.Goals as goal

pub returns : goal.returns
returns g c = record {
  join = λ limits rooms name turn.
      let_in rooms name (IsPermittedJoin (host_of limits rooms g.K.Keeper.permits g.K.Keeper.denies)) (IsRefusalOver limits) g.K.Keeper.denies turn;
  back = λ limits rooms name site turn. let_in rooms name (IsBack limits site) (IsBackRefusal limits site) (λ number. ⊥) turn;
}
