-- Messages are answered once, and in order.
use Rattle.std.proofs.Common.{◌≡◌, ◌≤◌, ◌⊎◌, inl, inr, ℕ, suc, arith, List, [], ◌∷◌, ◌++◌, drop, length, map, Option, Some, None, refl, sym, ap, subst, ◌∙◌, append_assoc, append-nil}
use Rattle.std.specs.Prelude.{IfSome, IsFalse, option_to_list}
use Rattle.websocket.specs.Connection.{Effect}
use Rattle.websocket.specs.Content.{Content, text, binary, ping, pong, close, is_close}
use Rattle.websocket.specs.declared.protocol.config.Role.{Role}
use Rattle.connection.specs.Standing.{ConnectionState, QueuedFrame, Standing}
use Rattle.connection.specs.Serving.{Answered, Does, Freed, Heard, Takes, data_of, queued_reply}
use Rattle.connection.specs.Receiving.{Run, Served}
use Rattle.connection.specs.Connections.{Receives}
use Rattle.connection.specs.Histories.{AnsweredInOrder, Carries, Exchange, HasNoClose, Turns, messages}
use Rattle.connection.specs.declared.talk.TheConstants.{MAX_HELD_LEN}
use Rattle.connection.specs.Talks.{Block, Turn, Wait}

carries_both : {D : Type 0} (f g : List (QueuedFrame D)) (e h : List (Exchange D)) → Carries f e → Carries g h → Carries (f ++ g) (e ++ h)
carries_both [] g e h c d = rw c d
carries_both (x ∷ f) g e h (inl c) d = inl (c.0, carries_both f g e h c.1 d)
carries_both (x ∷ f) g e h (inr c) d =
    inr (c.0, c.1 ++ h, rw c.2 refl, c.3, c.4, carries_both f g c.1 h c.5 d)

map_both : {X Y : Type 0} (f : X → Y) (xs ys : List X) → map f (xs ++ ys) ≡ map f xs ++ map f ys
map_both f [] ys = refl
map_both f (x ∷ xs) ys = ap (λ z. f x ∷ z) (map_both f xs ys)

carries_reply : (D : Type 0) (reply : List ℕ) → Carries {D = D} (queued_reply reply) []
carries_reply D [] = refl
carries_reply D (b ∷ bs) = inl (refl, refl)

module _ {S D : Type 0} (turn : Turn S D) where
  turns_both : (a b c : S) (e h : List (Exchange D)) → Turns turn a e b → Turns turn b h c → Turns turn a (e ++ h) c
  turns_both a b c [] h t k = rw (← t) k
  turns_both a b c (x ∷ e) h t k = (t.0, t.1, turns_both t.0 b c e h t.2 k)

  -- what came first and what came then
  in_order_both : (one two : List (List ℕ)) (a b c : Standing S D) → AnsweredInOrder turn one a b → AnsweredInOrder turn two b c
      → AnsweredInOrder turn (one ++ two) a c
  in_order_both one two a b c h k =
      let says = λ (e : Exchange D). e.message in
      record {
        exchanges = h.exchanges ++ k.exchanges;
        frames = h.frames ++ k.frames;
        turns = turns_both a.session b.session c.session h.exchanges k.exchanges h.turns k.turns;
        order = sym (append_assoc (option_to_list a.held) one two) ∙ ap (λ z. z ++ two) h.order
            ∙ append_assoc (map says h.exchanges) (option_to_list b.held) two
            ∙ ap (λ z. map says h.exchanges ++ z) k.order
            ∙ sym (append_assoc (map says h.exchanges) (map says k.exchanges) (option_to_list c.held))
            ∙ ap (λ z. z ++ option_to_list c.held) (sym (map_both says h.exchanges k.exchanges));
        queued = k.queued ∙ ap (λ z. z ++ k.frames) h.queued ∙ append_assoc a.waiting h.frames k.frames;
        carried = carries_both h.frames k.frames h.exchanges k.exchanges h.carried k.carried;
      }

  nothing : (a b : Standing S D) → b ≡ a → AnsweredInOrder turn [] a b
  nothing a b same =
      record {
        exchanges = [];
        frames = [];
        turns = ap (λ (x : Standing S D). x.session) same;
        order = append-nil (option_to_list a.held) ∙ ap (λ (x : Standing S D). option_to_list x.held) (sym same);
        queued = ap (λ (x : Standing S D). x.waiting) same ∙ sym (append-nil a.waiting);
        carried = refl;
      }

  replied : (a : Standing S D) (reply : List ℕ) → AnsweredInOrder turn [] a (record a { waiting = a.waiting ++ queued_reply reply })
  replied a reply =
      record {
        exchanges = [];
        frames = queued_reply reply;
        turns = refl;
        order = append-nil (option_to_list a.held);
        queued = refl;
        carried = carries_reply D reply;
      }

module _ {S D : Type 0} (turn : Turn S D) (waits : Wait S) where
  -- a message that is answered while none is held
  answered : (role : Role) (message : List ℕ) (a b : Standing S D) → a.held ≡ None → Answered turn role message a b
      → AnsweredInOrder turn (message ∷ []) a b
  answered role message a b none h =
      record {
        exchanges = record { message = message; words = h.0; reported = h.1 } ∷ [];
        frames = record { bytes = h.2; reported = h.1 } ∷ [];
        turns = (b.session, h.3, refl);
        order = rw (h.5, none) refl;
        queued = h.6;
        carried = inr (record { message = message; words = h.0; reported = h.1 }, [], refl, (role, h.4), refl, refl);
      }

  -- the held message is answered
  freed : (role : Role) (held : Option (List ℕ)) (a b : Standing S D) → held ≡ a.held → Freed turn role held a b
      → AnsweredInOrder turn [] a b × (b.held ≡ None)
  freed role None a b same h = (nothing turn a b h, ap (λ (x : Standing S D). x.held) h ∙ sym same)
  freed role (Some message) a b same h = (
    record {
      exchanges = record { message = message; words = h.0; reported = h.1 } ∷ [];
      frames = record { bytes = h.2; reported = h.1 } ∷ [];
      turns = (b.session, h.3, refl);
      order = rw (h.5, ← same) refl;
      queued = h.6;
      carried = inr (record { message = message; words = h.0; reported = h.1 }, [], refl, (role, h.4), refl, refl);
    },
    h.5,
  )

  held : (message : List ℕ) (a b : Standing S D) → a.held ≡ None → (waits a.session message × (length message ≤ MAX_HELD_LEN) × (b ≡ record a { held = Some message })) → AnsweredInOrder turn (message ∷ []) a b
  held message a b none h =
      record {
        exchanges = [];
        frames = [];
        turns = ap (λ (x : Standing S D). x.session) h.2;
        order = rw (none, h.2) refl;
        queued = ap (λ (x : Standing S D). x.waiting) h.2 ∙ sym (append-nil a.waiting);
        carried = refl;
      }

  last : (role : Role) (message : List ℕ) (a b : Standing S D) → a.held ≡ None
      → (Answered turn role message a b ⊎ (waits a.session message × (length message ≤ MAX_HELD_LEN) × (b ≡ record a { held = Some message }))) → AnsweredInOrder turn (message ∷ []) a b
  last role message a b none (inl h) = answered role message a b none h
  last role message a b none (inr h) = held message a b none h

  heard : (role : Role) (message : List ℕ) (a b : Standing S D) → Heard turn waits role message a b → AnsweredInOrder turn (message ∷ []) a b
  heard role message a b h =
      let free = freed role a.held a h.0 refl h.1 in
      in_order_both turn [] (message ∷ []) a h.0 b free.0 (last role message h.0 b free.1 h.2)

  taken : (content : Option Content) (role : Role) (a b : Standing S D) → IfSome content (λ c. IsFalse (is_close c)) → Takes turn waits content role a b
      → AnsweredInOrder turn (option_to_list (data_of content)) a b
  taken None role a b no_close h = nothing turn a b h
  taken (Some (text bytes)) role a b no_close h = heard role bytes a b h
  taken (Some (binary bytes)) role a b no_close h = heard role bytes a b h
  taken (Some (ping bytes)) role a b no_close h = nothing turn a b h
  taken (Some (pong bytes)) role a b no_close h = nothing turn a b h
  taken (Some (close frame)) role a b no_close h = absurd (cc no_close)

  done : (effect : Effect) (a b : Standing S D) → IfSome effect.message (λ c. IsFalse (is_close c)) → Does turn waits effect a b
      → AnsweredInOrder turn (option_to_list (data_of effect.message)) a b
  done effect a b no_close h =
      let came = option_to_list (data_of effect.message) in
      let first = taken effect.message effect.next.role a h.0 no_close h.1 in
      let then = in_order_both turn came [] a h.0 (record h.0 { waiting = h.0.waiting ++ queued_reply h.2 }) first (replied turn h.0 h.2) in
      subst (λ x. AnsweredInOrder turn x a b) (append-nil came) (subst (λ (x : Standing S D). AnsweredInOrder turn (came ++ []) a x) (sym h.4) then)

module _ {S D : Type 0} (turn : Turn S D) (waits : Wait S) (blocks : Block S) where
  in_order : (ps : Run) (a b : ConnectionState S D) → Served turn waits blocks ps a b → HasNoClose ps → AnsweredInOrder turn (messages ps) a.standing b.standing
  in_order [] a b h no_close = nothing turn a.standing b.standing (ap (λ (x : ConnectionState S D). x.standing) h)
  in_order (p ∷ ps) a b h no_close =
      let next = record a { protocol = p.1.next; input = drop p.0 a.input; standing = h.2 } in
      in_order_both turn (option_to_list (data_of p.1.message)) (messages ps) a.standing h.2 b.standing
      (done turn waits p.1 a.standing h.2 (no_close 0 p (omega arith)) h.3)
      (in_order ps next b h.4 (λ k d less. no_close (suc k) d (omega (arith, less))))

  pub received_in_order : (before after : ConnectionState S D) (bytes : List ℕ) (r : Receives turn waits blocks before bytes after)
      → HasNoClose r.frames → AnsweredInOrder turn (messages r.frames) before.standing after.standing
  received_in_order before after bytes r no_close =
      in_order r.frames (record before { input = before.input ++ bytes }) (record after { is_behind = before.is_behind }) r.served no_close
