use Rattle.std.proofs.Common.{rules, ◌≡◌, ◌∷◌, [], ◌++◌, arith, length, length-drop, ap, Ok, true, false, refl}
use Rattle.websocket.proofs.StreamLemmas.{TookFrame_from_read}
use Rattle.connection.proofs.Runs.{served_snoc}
use Rattle.connection.specs.steps.States.{state_of}
use Rattle.connection.proofs.dialogue.Dialogue.serve.Goals as goal

pub returns-in-Err-clause-err : goal.returns-in-Err-clause-err
returns-in-Err-clause-err g c =
    let inv = c.loop-self.invariant in (
      inv.0,
      state_of c.loop-self.context c.loop-self.input c.loop-self.self,
      inv.1,
      c.in-Err.ensures.err,
    )

pub loop-self-smaller : goal.loop-self-smaller
loop-self-smaller g c =
    let ok : c.serve_frame.result ≡ Ok true = cc in
    let done = c.serve_frame.ensures.served ok in
    let took = TookFrame_from_read c.loop-self.context c.loop-self.input done.0 done.1 in
    omega (arith, took.not_empty, took.inside, ap length done.3, length-drop done.0.0 c.loop-self.input)

pub loop-self-preserved : goal.loop-self-preserved
loop-self-preserved g c =
    let talk = c.args.talk.now in
    let inv = c.loop-self.invariant in
    let may : c.is_paused.result ≡ false = search rules in
    let ok : c.serve_frame.result ≡ Ok true = cc in
    let done = c.serve_frame.ensures.served ok in (
      inv.0 ++ done.0 ∷ [],
      served_snoc (g.T.Talk.turn talk) (g.T.Talk.waits talk) (g.T.Talk.blocks talk) inv.0 done.0 (state_of c.args.context.now c.args.input.now c.args.self.now) (state_of c.loop-self.context c.loop-self.input c.loop-self.self)
          (state_of c.serve_frame.new.context c.serve_frame.new.input c.serve_frame.new.self) c.serve_frame.new.self inv.1
          (c.is_paused.ensures.serves may) done.1 done.4 (rw (done.2, done.3) refl),
    )
