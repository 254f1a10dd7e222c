use Rattle.std.proofs.Common.{rules, ◌≡◌, ◌++◌, refl}
use Rattle.connection.specs.steps.States.{state_of}
use Rattle.connection.proofs.Calls.{receives, stops}
use Rattle.connection.proofs.connection.Connection.receive.Goals as goal

pub returns-in-Ok-clause-ok : goal.returns-in-Ok-clause-ok
returns-in-Ok-clause-ok g c unended =
    let talk = c.args.talk.now in
    let more : c.extend.new.self ≡ c.self.inside.input ++ c.args.bytes.now = search rules in
    let ok = rw (← c.give_back.ensures) at c.in-Ok.ensures.ok in
    receives (g.T.Talk.turn talk) (g.T.Talk.waits talk) (g.T.Talk.blocks talk) _ _ _ c.args.bytes.now _ ok.0.0 c.self.view_is refl more ok.0.1 ok.1 ok.2

pub returns-in-Err-clause-err : goal.returns-in-Err-clause-err
returns-in-Err-clause-err g c unended =
    let talk = c.args.talk.now in
    let more : c.extend.new.self ≡ c.self.inside.input ++ c.args.bytes.now = search rules in
    let err = c.in-Err.ensures.err in
    stops (g.T.Talk.turn talk) (g.T.Talk.waits talk) (g.T.Talk.blocks talk) (g.T.Talk.fails talk) _ _ (state_of c.serve.new.context c.serve.new.input c.serve.new.self) _ err.1 c.args.bytes.now _ _ err.0 c.self.view_is c.stop-in-Err.ensures more err.2 err.3
