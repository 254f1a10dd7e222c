-- What was said over a connection, in order.
use Rattle.std.specs.Prelude.{◌≡◌, ◌⊎◌, ℕ, List, [], ◌∷◌, ◌++◌, All, map, Option, Some, None, IfSome, IsFalse}
use Rattle.std.specs.Prelude.{flat_map, option_to_list}
use Rattle.websocket.specs.Connection.{Sends}
use Rattle.websocket.specs.Content.{is_close}
use Rattle.websocket.specs.declared.protocol.config.Role.{Role}
use Rattle.connection.specs.Standing.{QueuedFrame, Standing}
use Rattle.connection.specs.Serving.{data_of, sent_text}
use Rattle.connection.specs.Receiving.{Run}
use Rattle.connection.specs.Talks.{Turn}

-- a message that was answered, the answer's text, and what that reports
pub record Exchange (D : Type 0) : Type 0 where
  pub message : List ℕ
  pub words : List ℕ
  pub reported : Option D

abbrev pub messages : Run → List (List ℕ)
messages run = flat_map (λ p. option_to_list (data_of p.1.message)) run

abbrev pub HasNoClose : Run → Type 0
HasNoClose run = All (λ p. IfSome p.1.message (λ content. IsFalse (is_close content))) run

-- the frames are those of the answers, in order, and between them replies of the protocol
abbrev pub Carries : {D : Type 0} → List (QueuedFrame D) → List (Exchange D) → Type 0
Carries [] exchanges = exchanges ≡ []
Carries {D} (frame ∷ frames) exchanges =
    ((frame.reported ≡ None) × Carries frames exchanges)
    ⊎ ((one : Exchange D) × (others : List (Exchange D)) × (exchanges ≡ one ∷ others)
    × ((role : Role) × Sends role (Some (sent_text one.words)) [] frame.bytes)
    × (frame.reported ≡ one.reported) × Carries frames others)

module _ {S D : Type 0} (turn : Turn S D) where
  -- one turn of the session for each exchange, in order
  abbrev pub Turns : S → List (Exchange D) → S → Type 0
  Turns before [] after = after ≡ before
  Turns before (one ∷ others) after =
      (mid : S) × turn before mid one.message one.words one.reported × Turns mid others after

  -- The message that was held and those that came were answered in order, and at most one is held
  -- now. The frames of the answers are in this order behind those that waited.
  pub record AnsweredInOrder (came : List (List ℕ)) (before after : Standing S D) : Type 0 where
    pub exchanges : List (Exchange D)
    pub frames : List (QueuedFrame D)
    pub turns : Turns before.session exchanges after.session
    pub order : option_to_list before.held ++ came
        ≡ map (λ one. one.message) exchanges ++ option_to_list after.held
    pub queued : after.waiting ≡ before.waiting ++ frames
    pub carried : Carries frames exchanges
