use Rattle.std.proofs.Common.{◌≡◌, true, subst}
use Rattle.scope.specs.Scopes.{allows}
use Rattle.scope.specs.declared.scope.Scope.{Scope}
use Rattle.scope.proofs.Targets.{room_of_target}
use Rattle.sessions.specs.Sessions.{host_of}
use Rattle.sessions.proofs.Staying.{turn_allowed}
use Rattle.sessions.proofs.laws.a_session_enters_only_the_chain_of_its_path.Goals as goal

pub returns : goal.returns
returns g c = λ limits rooms target bytes turn pass scope before after is.
    let host = host_of limits rooms g.K.Keeper.permits g.K.Keeper.denies in
    room_of_target target pass.room (subst (λ (s : Scope). allows s pass.room ≡ true) scope (turn_allowed host turn bytes pass before after is))
