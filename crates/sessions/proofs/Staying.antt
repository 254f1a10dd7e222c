-- Sessions stay in their rooms and in their scopes, and replies report on these rooms.
use Rattle.std.proofs.Common.{◌≡◌, ◌⊎◌, ◌∙◌, ℕ, inl, inr, true, List, Option, Some, None, sym, ap, subst}
use Rattle.std.specs.Prelude.{Contains, MatchOption}
use Rattle.base_types.specs.Texts.{Bytes}
use Rattle.rules.specs.declared.history.Entry.{Entry}
use Rattle.rules.specs.declared.limits.LimitValues.{LimitValues}
use Rattle.wire.specs.declared.reply.Reply.{Reply}
use Rattle.wire.specs.declared.request.Request.{Request}
use Rattle.wire.specs.declared.request.Request.TheVariants.{Join, Back, Leave, Change, Show, List as Listing, Pull}
use Rattle.wire.specs.declared.note.NoteRequest.{NoteRequest}
use Rattle.wire_reader.specs.steps.Reads.{request_read, note_request_read}
use Rattle.scope.specs.Scopes.{allows}
use Rattle.scope.specs.declared.scope.Scope.{Scope}
use Rattle.openings.specs.Openings.{OpeningView}
use Rattle.room_lock.specs.InOrder.{IsOpeningFor}
use Rattle.room_lock.specs.Passes.{PassView, PrefixView, prefix_of}
use Rattle.room_lock.specs.Rooms.{IsOnDemand, RoomsView}
use Rattle.sessions.specs.Sessions.{HostView, SessionTurn}
use Rattle.rules.specs.declared.refusal.Refusal.TheVariants.{BadMessage, NotJoined}
use Rattle.room_lock.specs.Calls.{IsBack, IsCall, IsNotesCall, IsRefusalOver}
use Rattle.sessions.specs.Entering.{IsEntering, HasPass, IsJoinBy, IsLetIn, IsPermittedJoin, IsRefused, IsSentOn, IsTurnedAway, MayEnter}
use Rattle.sessions.specs.Turns.{IsAnswerInside, IsAnswerOutside, IsTurn}
use Rattle.sessions.proofs.Entering.{IsBackRefusal}

-- the pass is of the named room, which the scope allows
abbrev pub IsInNamed : Scope → RoomsView → Bytes → PassView → Type 0
IsInNamed scope rooms name pass = (allows scope name ≡ true) × (pass.room ≡ name) × IsOpeningFor rooms name pass.part.opening

module _ (rooms : RoomsView) (name : Bytes) (Enters : PassView → Reply → Type 0) (Refuses : List Entry → Reply → Type 0) (denied : ℕ → Type 0) (turn : SessionTurn) where
  -- who is let in is in the named room
  pub let_in : (pass : PassView) → IsEntering Enters Refuses denied rooms name turn → turn.new.pass ≡ Some pass → IsInNamed turn.old.scope rooms name pass
  let_in pass (inl is) new =
      let same : pass ≡ is.0 = cc (new, is.5.1) in
      subst (IsInNamed turn.old.scope rooms name) (sym same) (is.2, is.3, is.4)
  let_in pass (inr (inl away)) new = absurd (cc (new, away.same))
  let_in pass (inr (inr (inl shut))) new = absurd (cc (new, shut.2.2))
  let_in pass (inr (inr (inr sent))) new = absurd (cc (new, sent.3.2))

  -- what is reported is of the named room
  pub told_of : (reported : PrefixView) → IsEntering Enters Refuses denied rooms name turn → turn.reported ≡ Some reported
      → MayEnter turn.old.scope rooms name → IsOpeningFor rooms name reported.opening
  told_of reported (inl is) told there =
      let same : reported ≡ prefix_of is.0.part = cc (told, is.5.0) in
      let P : PrefixView → Type 0 = λ p. IsOpeningFor rooms name p.opening in
      subst P (sym same) is.4
  told_of reported (inr (inl away)) told there =
      let is = away.known there in
      let same : reported ≡ is.0 = cc (told, is.3) in
      let P : PrefixView → Type 0 = λ p. IsOpeningFor rooms name p.opening in
      subst P (sym same) is.2
  told_of reported (inr (inr (inl shut))) told there = absurd (cc (told, shut.2.1))
  told_of reported (inr (inr (inr sent))) told there = absurd (cc (told, sent.3.1))

-- where no room is denied, a room that is open from the start is served
pub served : (host : HostView) (name : Bytes) (turn : SessionTurn) → ((number : ℕ) → ¬ (host.denied number)) → Contains host.rooms.names name → IsJoinBy host name turn
    → IsLetIn (IsPermittedJoin host) host.rooms name turn ⊎ IsTurnedAway (IsRefusalOver host.limits) host.rooms name turn ⊎ IsSentOn name turn
served host name turn never first (inl is) = inl is
served host name turn never first (inr (inl is)) = inr (inl is)
served host name turn never first (inr (inr (inr sent))) = inr (inr sent)
served host name turn never first (inr (inr (inl shut))) = absurd (go shut.1)
  where
    go : IsOnDemand host.rooms name ⊎ ((opening : OpeningView) × IsOpeningFor host.rooms name opening × host.denied opening.number) → ⊥
    go (inl demand) = demand.0 first
    go (inr denies) = never denies.0.number denies.2

-- a call by the session's pass, and one about notes
abbrev IsCallBy : LimitValues → PassView → Request → SessionTurn → Type 0
IsCallBy limits was request turn = (now : PassView) × IsCall limits was now request turn.reply × HasPass now turn

abbrev IsNotesBy : LimitValues → PassView → NoteRequest → SessionTurn → Type 0
IsNotesBy limits was request turn = (now : PassView) × IsNotesCall limits was now request turn.reply × HasPass now turn

-- the room of one pass is that of another
abbrev pub IsSameRoom : PassView → PassView → Type 0
IsSameRoom was now = (now.room ≡ was.room) × (now.part.opening ≡ was.part.opening)

unmoved : (was now : PassView) → now ≡ was → IsSameRoom was now
unmoved was now same = (ap (λ p. p.room) same, ap (λ p. p.part.opening) same)

module _ (limits : LimitValues) (turn : SessionTurn) (was : PassView) (before : turn.old.pass ≡ Some was) where
  module _ (now : PassView) (after : turn.new.pass ≡ Some now) where
    kept : turn.new.pass ≡ turn.old.pass → IsSameRoom was now
    kept same = unmoved was now (cc (before, after, same))

    -- a call keeps the room
    call_stays : (request : Request) → IsCallBy limits was request turn → IsSameRoom was now
    call_stays request is =
        let same : now ≡ is.0 = cc (after, is.2.1) in
        subst (IsSameRoom was) (sym same) (is.1.1.room, ap (λ p. p.opening) is.1.1.part_is)

    -- so does a request about notes
    notes_stay : (request : NoteRequest) → IsNotesBy limits was request turn → IsSameRoom was now
    notes_stay request is =
        let same : now ≡ is.0 = cc (after, is.2.1) in
        subst (IsSameRoom was) (sym same) (ap (λ p. p.room) is.1.3.now_is, ap (λ p. p.part.opening) is.1.3.now_is)

    inside_stays : (request : Request) → IsAnswerInside limits was request turn → IsSameRoom was now
    inside_stays (Join name) is = kept is.2
    inside_stays (Back name site) is = kept is.2
    inside_stays Leave is = absurd (cc (after, is.4))
    inside_stays (Change seq seen body) is = call_stays (Change seq seen body) is
    inside_stays (Show object) is = call_stays (Show object) is
    inside_stays (Listing from) is = call_stays (Listing from) is
    inside_stays (Pull from waits) is = call_stays (Pull from waits) is

  module _ (reported : PrefixView) (told : turn.reported ≡ Some reported) where
    -- a call reports on the room of the session
    call_told : (request : Request) → IsCallBy limits was request turn → reported.opening ≡ was.part.opening
    call_told request is =
        let same : reported ≡ prefix_of is.0.part = cc (told, is.2.0) in
        ap (λ p. p.opening) same ∙ ap (λ p. p.opening) is.1.1.part_is

    notes_told : (request : NoteRequest) → IsNotesBy limits was request turn → reported.opening ≡ was.part.opening
    notes_told request is =
        let same : reported ≡ prefix_of is.0.part = cc (told, is.2.0) in
        ap (λ p. p.opening) same ∙ ap (λ p. p.part.opening) is.1.3.now_is

    inside_told : (request : Request) → IsAnswerInside limits was request turn → reported.opening ≡ was.part.opening
    inside_told (Join name) is = absurd (cc (told, is.1))
    inside_told (Back name site) is = absurd (cc (told, is.1))
    inside_told Leave is = let same : reported ≡ is.0 = cc (told, is.3) in ap (λ p. p.opening) same ∙ is.2
    inside_told (Change seq seen body) is = call_told (Change seq seen body) is
    inside_told (Show object) is = call_told (Show object) is
    inside_told (Listing from) is = call_told (Listing from) is
    inside_told (Pull from waits) is = call_told (Pull from waits) is

module _ (host : HostView) (turn : SessionTurn) where
  -- who enters a room is allowed to
  outside_allowed : (now : PassView) (request : Request) → turn.old.pass ≡ None → turn.new.pass ≡ Some now → IsAnswerOutside host request turn → allows turn.old.scope now.room ≡ true
  outside_allowed now (Join name) before after is =
      let in_room = let_in host.rooms name (IsPermittedJoin host) (IsRefusalOver host.limits) host.denied turn now is after in
      ap (allows turn.old.scope) in_room.1 ∙ in_room.0
  outside_allowed now (Back name site) before after is =
      let in_room = let_in host.rooms name (IsBack host.limits site) (IsBackRefusal host.limits site) (λ number. ⊥) turn now is after in
      ap (allows turn.old.scope) in_room.1 ∙ in_room.0
  outside_allowed now Leave before after is = absurd (cc (before, after, is.2))
  outside_allowed now (Change seq seen body) before after is = absurd (cc (before, after, is.2))
  outside_allowed now (Show object) before after is = absurd (cc (before, after, is.2))
  outside_allowed now (Listing from) before after is = absurd (cc (before, after, is.2))
  outside_allowed now (Pull from waits) before after is = absurd (cc (before, after, is.2))

  -- what an answer to the bytes says of a turn from this pass, whatever they are read as
  abbrev AreNotesAnswered : Option PassView → Option NoteRequest → Type 0
  AreNotesAnswered old asked =
      MatchOption asked (IsRefused BadMessage turn) (λ request. MatchOption old (IsRefused NotJoined turn) (λ was. IsNotesBy host.limits was request turn))

  abbrev IsAnswered : Option PassView → Option Request → Option NoteRequest → Type 0
  IsAnswered old read asked =
      MatchOption read (AreNotesAnswered old asked) (λ request. MatchOption old (IsAnswerOutside host request turn) (λ was. IsAnswerInside host.limits was request turn))

  answered_stays : (was now : PassView) (read : Option Request) (asked : Option NoteRequest) → turn.old.pass ≡ Some was → turn.new.pass ≡ Some now
      → IsAnswered (Some was) read asked → IsSameRoom was now
  answered_stays was now None None before after is = kept host.limits turn was before now after is.2
  answered_stays was now None (Some request) before after is = notes_stay host.limits turn was before now after request is
  answered_stays was now (Some request) asked before after is = inside_stays host.limits turn was before now after request is

  answered_allowed : (now : PassView) (read : Option Request) (asked : Option NoteRequest) → turn.old.pass ≡ None → turn.new.pass ≡ Some now
      → IsAnswered None read asked → allows turn.old.scope now.room ≡ true
  answered_allowed now None None before after is = absurd (cc (before, after, is.2))
  answered_allowed now None (Some request) before after is = absurd (cc (before, after, is.2))
  answered_allowed now (Some request) asked before after is = outside_allowed now request before after is

  answered_told : (was : PassView) (reported : PrefixView) (read : Option Request) (asked : Option NoteRequest) → turn.old.pass ≡ Some was → turn.reported ≡ Some reported
      → IsAnswered (Some was) read asked → reported.opening ≡ was.part.opening
  answered_told was reported None None before told is = absurd (cc (told, is.1))
  answered_told was reported None (Some request) before told is = notes_told host.limits turn was before reported told request is
  answered_told was reported (Some request) asked before told is = inside_told host.limits turn was before reported told request is

  module _ (bytes : Bytes) where
    abbrev AreAnswered : Option PassView → Type 0
    AreAnswered old = IsAnswered old (request_read bytes) (note_request_read bytes)

    pub turn_stays : (was now : PassView) → turn.old.pass ≡ Some was → turn.new.pass ≡ Some now → IsTurn host bytes turn → IsSameRoom was now
    turn_stays was now before after is =
        answered_stays was now (request_read bytes) (note_request_read bytes) before after (subst AreAnswered before is.1)

    pub turn_allowed : (now : PassView) → turn.old.pass ≡ None → turn.new.pass ≡ Some now → IsTurn host bytes turn → allows turn.old.scope now.room ≡ true
    turn_allowed now before after is =
        answered_allowed now (request_read bytes) (note_request_read bytes) before after (subst AreAnswered before is.1)

    pub turn_told : (was : PassView) (reported : PrefixView) → turn.old.pass ≡ Some was → turn.reported ≡ Some reported → IsTurn host bytes turn
        → reported.opening ≡ was.part.opening
    turn_told was reported before told is =
        answered_told was reported (request_read bytes) (note_request_read bytes) before told (subst AreAnswered before is.1)
