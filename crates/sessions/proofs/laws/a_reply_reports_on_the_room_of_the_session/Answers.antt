use Rattle.room_lock.specs.Calls.{IsBack, IsRefusalOver}
use Rattle.sessions.specs.Sessions.{host_of}
use Rattle.sessions.specs.Entering.{IsPermittedJoin}
use Rattle.sessions.proofs.Entering.{IsBackRefusal}
use Rattle.sessions.proofs.Staying.{told_of, turn_told}
use Rattle.sessions.proofs.laws.a_reply_reports_on_the_room_of_the_session.Goals as goal

pub returns : goal.returns
returns g c = record {
  join = λ limits rooms name turn.
      told_of rooms name (IsPermittedJoin (host_of limits rooms g.K.Keeper.permits g.K.Keeper.denies)) (IsRefusalOver limits) g.K.Keeper.denies turn;
  back = λ limits rooms name site turn. told_of rooms name (IsBack limits site) (IsBackRefusal limits site) (λ number. ⊥) turn;
  inside = λ limits rooms bytes turn. turn_told (host_of limits rooms g.K.Keeper.permits g.K.Keeper.denies) turn bytes;
}
