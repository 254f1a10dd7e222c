-- Frames that are written.
use Rattle.std.proofs.Common.{◌≡◌, inl, inr, ◌∙◌, ℕ, List, [], ◌∷◌, ◌++◌, drop, Option, Some, Result, Err, Ok, OnOk, IfErr, refl, ap, subst}
use Rattle.std.specs.Prelude.{IsErrAnd, IsSomeAnd, option_map}
use Rattle.websocket.specs.declared.error.Error.{Error}
use Rattle.websocket.specs.Connection.{Connection, Effect, Sends, read_step, send, write_step, check_can_write}
use Rattle.websocket.specs.Content.{received_content, text}
use Rattle.websocket.specs.Frame.{after_check, Checked}
use Rattle.websocket.specs.View.{Leaves, ReadLeaves, Returns}
use Rattle.websocket.specs.declared.protocol.context.Step.{Step}
use Rattle.websocket.specs.declared.protocol.frame.codec.FrameStatus.{FrameStatus}
use Rattle.websocket.specs.declared.protocol.frame.codec.FrameStatus.TheVariants.{Partial, Complete}
use Rattle.websocket.specs.declared.protocol.frame.coding.OpCode.TheVariants as Op
use Rattle.websocket.specs.declared.protocol.frame.coding.Data.TheVariants as Data
use Rattle.connection.specs.Standing.{QueuedFrame, Standing}
use Rattle.connection.specs.declared.end.End.{End}
use Rattle.connection.specs.Serving.{Does, FailsHearing, Takes, data_of, queued_reply, sent_text}
use Rattle.connection.specs.Receiving.{EndsAt, stopped}
use Rattle.connection.specs.steps.States.{state_of}
use Rattle.connection.specs.Talks.{Fault, Turn, Wait}

sent_after : (c c' : Connection) (bs old out : List ℕ) (check : Checked Error)
    → Leaves (after_check check (send c (Op.Data Data.Text) bs)) c' old out
    → (c' ≡ c) × (frame : List ℕ) × Sends c.role (Some (sent_text bs)) [] frame × (out ≡ old ++ frame)
sent_after c c' bs old out (Err e) leaves = absurd leaves
sent_after c c' bs old out (Ok _) leaves =
    let sends = subst (λ (x : Connection). Sends x.role (Some (sent_text bs)) old out) leaves.0 leaves.1 in
    (leaves.0, _, (sends.0, sends.1, refl), sends.2)

-- a text that was written is one frame
pub sent : (c c' : Connection) (bs old out : List ℕ) → Leaves (write_step c (text bs)) c' old out
    → (c' ≡ c) × (frame : List ℕ) × Sends c.role (Some (sent_text bs)) [] frame × (out ≡ old ++ frame)
sent c c' bs old out leaves = sent_after c c' bs old out (check_can_write c.state) leaves

-- what a read says that took a frame
frame_facts : (r : Result (FrameStatus (ℕ × Effect)) Error) (input : List ℕ) (step : Step) (c c' : Connection) (out : List ℕ)
    → Returns r input (Complete step) → ReadLeaves r c c' [] out
    → (p : ℕ × Effect) × (r ≡ Ok (Complete p)) × (step.consumed ≡ p.0)
    × (option_map (received_content input) step.message ≡ p.1.message) × (c' ≡ p.1.next) × Sends c'.role p.1.reply [] out
frame_facts (Err e) input step c c' out returns leaves = absurd returns
frame_facts (Ok (Partial n)) input step c c' out returns leaves = absurd (cc returns)
frame_facts (Ok (Complete p)) input step c c' out returns leaves = (p, refl, returns.0, returns.1.0, leaves.0, leaves.1)

module _ {S D : Type 0} (turn : Turn S D) (waits : Wait S) where
  -- a frame was read, its message served, and its reply queued
  pub does : (r : Result (FrameStatus (ℕ × Effect)) Error) (protocol reached : Connection) (old new : List ℕ) (step : Step) (reply : List ℕ) (before mid : Standing S D)
      → Returns r new (Complete step) → ReadLeaves r protocol reached [] reply → drop step.consumed new ≡ drop step.consumed old
      → Takes turn waits (option_map (received_content new) step.message) reached.role before mid
      → (p : ℕ × Effect) × (r ≡ Ok (Complete p)) × (reached ≡ p.1.next) × (drop step.consumed new ≡ drop p.0 old)
      × Does turn waits p.1 before (record mid { waiting = mid.waiting ++ queued_reply reply })
  does r protocol reached old new step reply before mid returns leaves keeps takes =
      let facts = frame_facts r new step protocol reached reply returns leaves in (
        facts.0,
        facts.1,
        facts.4,
        rw (← facts.2) keeps,
        (mid, rw (← facts.4, ← facts.3) takes, reply, rw (← facts.4) facts.5, refl),
      )

  -- the message of a frame that was read fails
  pub fails_at : {X : Type 0} (result : Result X End) (fails : Fault S) (protocol reached reached' : Connection) (old new : List ℕ) (step : Step) (reply : List ℕ) (why : End) (before after : Standing S D)
      → Returns (read_step protocol old) new (Complete step) → ReadLeaves (read_step protocol old) protocol reached [] reply → reached' ≡ reached
      → IsSomeAnd (data_of (option_map (received_content new) step.message)) (λ bytes. FailsHearing turn fails reached bytes why before after)
      → IsErrAnd result (λ e. e ≡ why) → IfErr result (λ e. EndsAt turn waits fails (state_of protocol old before) e (stopped (state_of reached' new after) e))
  fails_at (Ok x) fails protocol reached reached' old new step reply why before after returns leaves same failed is = absurd is
  fails_at (Err e) fails protocol reached reached' old new step reply why before after returns leaves same failed is =
      let facts = frame_facts (read_step protocol old) new step protocol reached reply returns leaves in
      inr (facts.0, facts.1, ap (λ c. record (stopped (state_of protocol old after) e) { protocol = c }) (same ∙ facts.4), inl (rw (← facts.4, ← facts.3, is) failed))

-- a frame that waits behind the others
pub queued : {S D X E : Type 0} (r : Result X E) (P : List ℕ → Type 0) (reported : Option D) (a b : Standing S D) (waiting : List (QueuedFrame D)) → a ≡ b
    → OnOk r ((frame : List ℕ) × P frame × (waiting ≡ a.waiting ++ record { bytes = frame; reported = reported } ∷ []))
    → OnOk r ((frame : List ℕ) × P frame × (record a { waiting = waiting } ≡ record b { waiting = b.waiting ++ record { bytes = frame; reported = reported } ∷ [] }))
queued (Err e) P reported a b waiting same h = tt
queued (Ok x) P reported a b waiting same h = (h.0, h.1, rw (← same, h.2) refl)
