-- Messages that are answered or held, and those at which a connection ends.
use Rattle.std.proofs.Common.{◌≡◌, ◌≤◌, ◌⊎◌, inl, inr, ℕ, List, [], ◌∷◌, ◌++◌, length, Option, Some, None, Result, Ok, Err, true, false, OnOk, OnErr, IfErr, refl}
use Rattle.std.specs.Prelude.{IsSomeAnd}
use Rattle.websocket.specs.Connection.{Connection, Sends, write_step}
use Rattle.websocket.specs.Content.{text}
use Rattle.websocket.specs.declared.protocol.config.Role.{Role}
use Rattle.connection.specs.declared.end.End.{End}
use Rattle.connection.specs.declared.end.End.TheVariants as end
use Rattle.connection.specs.declared.talk.TheConstants.{MAX_HELD_LEN}
use Rattle.connection.specs.Standing.{Standing}
use Rattle.connection.specs.Serving.{FailsHearing, FailsStep, Freed, Heard, sent_text}
use Rattle.connection.specs.Talks.{Fault, Turn, Wait}

module _ {S D : Type 0} (turn : Turn S D) (waits : Wait S) (fails : Fault S) where
  -- without leave nothing stays held
  freed : (role : Role) (held : Option (List ℕ)) (before mid : Standing S D)
      → (Freed turn role held before mid ⊎ ((false ≡ true) × IsSomeAnd held (waits before.session) × (mid ≡ before))) → Freed turn role held before mid
  freed role held before mid (inl f) = f
  freed role held before mid (inr k) = absurd (cc k.0)

  nothing_held : (role : Role) (held : Option (List ℕ)) (before mid : Standing S D) → held ≡ before.held → Freed turn role held before mid → mid.held ≡ None
  nothing_held role None before mid same f = cc
  nothing_held role (Some m) before mid same f = f.5

  -- the answer of a message is sent
  pub heard : {X E : Type 0} (r : Result X E) (protocol protocol' : Connection) (message words : List ℕ) (reported : Option D) (before mid opened after : Standing S D) (session : S)
      → (Freed turn protocol.role before.held before mid ⊎ ((false ≡ true) × IsSomeAnd before.held (waits before.session) × (mid ≡ before)))
      → opened ≡ mid → protocol' ≡ protocol → turn opened.session session message words reported
      → OnOk r ((frame : List ℕ) × Sends protocol'.role (Some (sent_text words)) [] frame × (after ≡ record opened { session = session; waiting = opened.waiting ++ record { bytes = frame; reported = reported } ∷ [] }))
      → OnOk r (Heard turn waits protocol.role message before after)
  heard (Err e) protocol protocol' message words reported before mid opened after session f same kept t sent = tt
  heard (Ok x) protocol protocol' message words reported before mid opened after session f same kept t sent = (
    mid,
    freed protocol.role before.held before mid f,
    inl (words, reported, sent.0, rw (← same, sent.2) t, rw (← kept) sent.1, rw (← same, sent.2) refl, rw (← same, sent.2) refl),
  )

  -- the answer of a message cannot be sent
  pub unsent : {X : Type 0} (r : Result X End) (protocol protocol' : Connection) (message words : List ℕ) (reported : Option D) (before mid opened after : Standing S D) (session : S)
      → (Freed turn protocol.role before.held before mid ⊎ ((false ≡ true) × IsSomeAnd before.held (waits before.session) × (mid ≡ before)))
      → opened ≡ mid → protocol' ≡ protocol → turn opened.session session message words reported
      → OnErr r (after ≡ record opened { session = session }) → IfErr r (FailsStep (write_step protocol' (text words)))
      → IfErr r (λ why. FailsHearing turn fails protocol message why before after)
  unsent (Ok x) protocol protocol' message words reported before mid opened after session f same kept t stays why = tt
  unsent (Err e) protocol protocol' message words reported before mid opened after session f same kept t stays why =
      let is_freed = freed protocol.role before.held before mid f in
      inr (
        mid,
        is_freed,
        (rw (stays, same) (nothing_held protocol.role before.held before mid refl is_freed), rw (stays, same) refl, inr (inl (words, reported, rw (← same, stays) t, rw (← kept) why))),
      )

  -- a message is held
  pub held : {X E : Type 0} (r : Result X E) (protocol : Connection) (message : List ℕ) (before mid opened after : Standing S D) (session : S)
      → (Freed turn protocol.role before.held before mid ⊎ ((false ≡ true) × IsSomeAnd before.held (waits before.session) × (mid ≡ before)))
      → opened ≡ mid → session ≡ opened.session → waits opened.session message → length message ≤ MAX_HELD_LEN
      → OnOk r (after ≡ record opened { session = session; held = Some message })
      → OnOk r (Heard turn waits protocol.role message before after)
  held (Err e) protocol message before mid opened after session f same kept w short is = tt
  held (Ok x) protocol message before mid opened after session f same kept w short is =
      (mid, freed protocol.role before.held before mid f, inr (rw (← same) w, short, rw (is, kept, same) refl))

  -- there is no memory to hold a message
  pub unheld_for_memory : {X : Type 0} (r : Result X End) (protocol : Connection) (message : List ℕ) (before mid opened after : Standing S D) (session : S)
      → (Freed turn protocol.role before.held before mid ⊎ ((false ≡ true) × IsSomeAnd before.held (waits before.session) × (mid ≡ before)))
      → opened ≡ mid → session ≡ opened.session
      → OnErr r (after ≡ record opened { session = session }) → IfErr r (λ why. why ≡ end.NoMemory)
      → IfErr r (λ why. FailsHearing turn fails protocol message why before after)
  unheld_for_memory (Ok x) protocol message before mid opened after session f same kept stays why = tt
  unheld_for_memory (Err e) protocol message before mid opened after session f same kept stays why =
      let is_freed = freed protocol.role before.held before mid f in
      inr (
        mid,
        is_freed,
        (rw (stays, same) (nothing_held protocol.role before.held before mid refl is_freed), rw (stays, same) refl, inr (inr (why, rw (stays, kept, same) refl))),
      )

  -- the talk fails at a message
  pub failed : (why : End) (protocol : Connection) (message : List ℕ) (before mid opened : Standing S D) (session : S)
      → (Freed turn protocol.role before.held before mid ⊎ ((false ≡ true) × IsSomeAnd before.held (waits before.session) × (mid ≡ before)))
      → opened ≡ mid → fails opened.session session message why
      → FailsHearing turn fails protocol message why before (record opened { session = session })
  failed why protocol message before mid opened session f same fault =
      let is_freed = freed protocol.role before.held before mid f in
      inr (
        mid,
        is_freed,
        (rw same (nothing_held protocol.role before.held before mid refl is_freed), rw same refl, inl (rw (← same) fault)),
      )
