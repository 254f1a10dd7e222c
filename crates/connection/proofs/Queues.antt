-- Frames that wait.
use Rattle.std.proofs.Common.{◌≡◌, ◌≤◌, ◌+◌, ◌⊎◌, inl, inr, ℕ, List, [], ◌∷◌, ◌++◌, drop, length, refl, ap, arith, ◌∙◌, Option, Some, None, length-append}
use Rattle.websocket.specs.Connection.{Effect}
use Rattle.websocket.specs.Content.{Content, text, binary, ping, pong, close}
use Rattle.websocket.specs.declared.protocol.config.Role.{Role}
use Rattle.connection.specs.declared.talk.TheConstants.{MAX_HELD_LEN}
use Rattle.connection.specs.declared.item.TheConstants.{MAX_WAITING}
use Rattle.connection.specs.Talks.{Block, Turn, Wait}
use Rattle.connection.specs.Standing.{ConnectionState, Standing}
use Rattle.connection.specs.Serving.{Answered, Does, Freed, Heard, Takes, queued_reply}
use Rattle.connection.specs.Receiving.{Run, Served}
use Rattle.connection.specs.Connections.{Receives}

module _ {S D : Type 0} (turn : Turn S D) where
  answered_adds : (role : Role) (message : List ℕ) (a b : Standing S D) → Answered turn role message a b
      → length b.waiting ≡ length a.waiting + 1
  answered_adds role message a b h =
      ap length h.6 ∙ length-append a.waiting (record { bytes = h.2; reported = h.1 } ∷ [])

  freed_adds : (role : Role) (held : Option (List ℕ)) (a b : Standing S D) → Freed turn role held a b
      → length b.waiting ≤ length a.waiting + 1
  freed_adds role None a b h =
      let e : length b.waiting ≡ length a.waiting = ap (λ (x : Standing S D). length x.waiting) h in omega (arith, e)
  freed_adds role (Some message) a b h = omega (arith, answered_adds role message (record a { held = None }) b h)

module _ {S D : Type 0} (turn : Turn S D) (waits : Wait S) where
  last_adds : (role : Role) (message : List ℕ) (a b : Standing S D) → (Answered turn role message a b ⊎ (waits a.session message × (length message ≤ MAX_HELD_LEN) × (b ≡ record a { held = Some message })))
      → length b.waiting ≤ length a.waiting + 1
  last_adds role message a b (inl h) = omega (arith, answered_adds turn role message a b h)
  last_adds role message a b (inr h) =
      let e : length b.waiting ≡ length a.waiting = ap (λ (x : Standing S D). length x.waiting) h.2 in omega (arith, e)

  heard_adds : (role : Role) (message : List ℕ) (a b : Standing S D) → Heard turn waits role message a b
      → length b.waiting ≤ length a.waiting + 2
  heard_adds role message a b h =
      omega (arith, freed_adds turn role a.held a h.0 h.1, last_adds role message h.0 b h.2)

  same_adds : (a b c : Standing S D) → b ≡ c → length c.waiting ≡ length a.waiting → length b.waiting ≤ length a.waiting + 2
  same_adds a b c same e =
      let k : length b.waiting ≡ length c.waiting = ap (λ (x : Standing S D). length x.waiting) same in omega (arith, k, e)

  taken_adds : (content : Option Content) (role : Role) (a b : Standing S D) → Takes turn waits content role a b
      → length b.waiting ≤ length a.waiting + 2
  taken_adds None role a b h = same_adds a b a h refl
  taken_adds (Some (text bytes)) role a b h = heard_adds role bytes a b h
  taken_adds (Some (binary bytes)) role a b h = heard_adds role bytes a b h
  taken_adds (Some (ping bytes)) role a b h = same_adds a b a h refl
  taken_adds (Some (pong bytes)) role a b h = same_adds a b a h refl
  taken_adds (Some (close frame)) role a b h = same_adds a b (record a { held = None }) h refl

  reply_adds : (reply : List ℕ) → length (queued_reply {D = D} reply) ≤ 1
  reply_adds [] = omega arith
  reply_adds (b ∷ bs) = omega arith

  done_adds : (effect : Effect) (a b : Standing S D) → Does turn waits effect a b → length b.waiting ≤ length a.waiting + 3
  done_adds effect a b h =
      let e : length b.waiting ≡ length (h.0.waiting ++ queued_reply h.2) = ap (λ (x : Standing S D). length x.waiting) h.4 in
      omega (arith, e, length-append h.0.waiting (queued_reply h.2), reply_adds h.2, taken_adds effect.message effect.next.role a h.0 h.1)

module _ {S D : Type 0} (turn : Turn S D) (waits : Wait S) (blocks : Block S) where
  served_adds : (ps : Run) (a b : ConnectionState S D) → Served turn waits blocks ps a b → length a.standing.waiting ≤ MAX_WAITING + 2
      → length b.standing.waiting ≤ MAX_WAITING + 2
  served_adds [] a b h few =
      let e : length b.standing.waiting ≡ length a.standing.waiting = ap (λ (x : ConnectionState S D). length x.standing.waiting) h in omega (arith, e, few)
  served_adds (p ∷ ps) a b h few =
      let step = done_adds turn waits p.1 a.standing h.2 h.3 in
      let room : ¬ (MAX_WAITING ≤ length a.standing.waiting) = λ full. h.0 (inl full) in
      let here : length h.2.waiting ≤ MAX_WAITING + 2 = omega (arith, step, room) in
      served_adds ps (record a { protocol = p.1.next; input = drop p.0 a.input; standing = h.2 }) b h.4 here

  -- no more frames wait than these, whatever comes
  pub few_wait : (before after : ConnectionState S D) (bytes : List ℕ) → Receives turn waits blocks before bytes after
      → length before.standing.waiting ≤ MAX_WAITING + 2 → length after.standing.waiting ≤ MAX_WAITING + 2
  few_wait before after bytes r few =
      served_adds r.frames (record before { input = before.input ++ bytes }) (record after { is_behind = before.is_behind }) r.served few
