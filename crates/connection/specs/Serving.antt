-- What a connection does with the messages and the frames that come.
use Rattle.std.specs.Prelude.{◌≡◌, ◌≤◌, ◌⊎◌, ℕ, List, [], ◌∷◌, ◌++◌, length, Option, Some, None, Result}
use Rattle.std.specs.Prelude.{IsErrAnd, IsSome, IsSomeAnd}
use Rattle.websocket.specs.declared.error.Error.{Error}
use Rattle.websocket.specs.declared.error.Error.TheVariants as fault
use Rattle.websocket.specs.Connection.{Connection, Effect, Outgoing, Sends, write_step}
use Rattle.websocket.specs.Content.{Content, text, binary, close}
use Rattle.websocket.specs.declared.protocol.frame.coding.OpCode.TheVariants as Op
use Rattle.websocket.specs.declared.protocol.frame.coding.Data.TheVariants as Data
use Rattle.websocket.specs.declared.protocol.config.Role.{Role}
use Rattle.connection.specs.declared.end.End.{End}
use Rattle.connection.specs.declared.end.End.TheVariants as end
use Rattle.connection.specs.declared.item.TheConstants.{MAX_WAITING, MAX_WAITING_LEN}
use Rattle.connection.specs.declared.talk.TheConstants.{MAX_HELD_LEN}
use Rattle.connection.specs.Standing.{QueuedFrame, Standing, waiting_len}
use Rattle.connection.specs.Talks.{Block, Fault, Turn, Wait}

abbrev pub end_of_error : Error → End
end_of_error fault.ConnectionClosed = end.Closed
end_of_error fault.OutOfMemory = end.NoMemory
end_of_error _ = end.Fault

-- the connection ends at this step of the protocol: memory ran out, or the step fails
abbrev pub FailsStep : {A : Type 0} → Result A Error → End → Type 0
FailsStep step why = (why ≡ end.NoMemory) ⊎ IsErrAnd step (λ error. why ≡ end_of_error error)

abbrev pub sent_text : List ℕ → Outgoing
sent_text words = record { opcode = Op.Data Data.Text; payload = words }

-- the frame of the protocol's reply, if there is one
abbrev pub queued_reply : {D : Type 0} → List ℕ → List (QueuedFrame D)
queued_reply [] = []
queued_reply frame = record { bytes = frame; reported = None } ∷ []

abbrev pub IsBlocked : {S D : Type 0} → Block S → Standing S D → Type 0
IsBlocked blocks standing = IsSome standing.held × blocks standing.session

-- no frame is served for now: too much waits, or the held message blocks
abbrev pub IsPaused : {S D : Type 0} → Block S → Standing S D → Type 0
IsPaused blocks standing =
    (MAX_WAITING ≤ length standing.waiting)
    ⊎ ((MAX_WAITING_LEN ≤ waiting_len standing.waiting) ⊎ IsBlocked blocks standing)

-- the bytes of a text or binary message
abbrev pub data_of : Option Content → Option (List ℕ)
data_of (Some (text bytes)) = Some bytes
data_of (Some (binary bytes)) = Some bytes
data_of _ = None

module _ {S D : Type 0} (turn : Turn S D) where
  -- one turn answered the message, and its answer's frame stands behind those that waited
  abbrev pub Answered : Role → List ℕ → Standing S D → Standing S D → Type 0
  Answered role message before after =
      (words : List ℕ) × (reported : Option D) × (frame : List ℕ)
      × turn before.session after.session message words reported
      × Sends role (Some (sent_text words)) [] frame × (after.held ≡ before.held)
      × (after.waiting ≡ before.waiting ++ record { bytes = frame; reported = reported } ∷ [])

  -- the message that was held, if there was one, was answered
  abbrev pub Freed : Role → Option (List ℕ) → Standing S D → Standing S D → Type 0
  Freed role None before after = after ≡ before
  Freed role (Some message) before after = Answered role message (record before { held = None }) after

module _ {S D : Type 0} (turn : Turn S D) (waits : Wait S) where
  -- the message that was held was answered first, and then this one was answered or held
  abbrev pub Heard : Role → List ℕ → Standing S D → Standing S D → Type 0
  Heard role message before after =
      (mid : Standing S D) × Freed turn role before.held before mid
      × (Answered turn role message mid after
      ⊎ (waits mid.session message × (length message ≤ MAX_HELD_LEN)
      × (after ≡ record mid { held = Some message })))

  -- what the message of a frame does: a close drops the message that is held
  abbrev pub Takes : Option Content → Role → Standing S D → Standing S D → Type 0
  Takes (Some (text bytes)) role before after = Heard role bytes before after
  Takes (Some (binary bytes)) role before after = Heard role bytes before after
  Takes (Some (close frame)) role before after = after ≡ record before { held = None }
  Takes _ role before after = after ≡ before

  -- what a frame does: first its message, and then the protocol's reply waits behind all others
  abbrev pub Does : Effect → Standing S D → Standing S D → Type 0
  Does effect before after =
      (mid : Standing S D) × Takes effect.message effect.next.role before mid
      × (reply : List ℕ) × Sends effect.next.role effect.reply [] reply
      × (after ≡ record mid { waiting = mid.waiting ++ queued_reply reply })

module _ {S D : Type 0} (turn : Turn S D) (fails : Fault S) where
  -- the connection ends at this message: the talk fails, no answer can be sent, or memory ran out
  abbrev pub FailsAt : Connection → List ℕ → End → Standing S D → Standing S D → Type 0
  FailsAt protocol message why before after =
      (after.held ≡ None) × (after.waiting ≡ before.waiting)
      × (fails before.session after.session message why
      ⊎ (((words : List ℕ) × (reported : Option D)
      × turn before.session after.session message words reported
      × FailsStep (write_step protocol (text words)) why)
      ⊎ ((why ≡ end.NoMemory) × (after.session ≡ before.session))))

  -- a message came, and the connection ends at the one that was held, or at this one
  abbrev pub FailsHearing : Connection → List ℕ → End → Standing S D → Standing S D → Type 0
  FailsHearing protocol message why before after =
      IsSomeAnd before.held (λ held. FailsAt protocol held why before after)
      ⊎ ((mid : Standing S D) × Freed turn protocol.role before.held before mid
      × FailsAt protocol message why mid after)
