-- What an answer of a room does with its session, and with the sites that have joined.
use Rattle.std.proofs.Common.{◌≡◌, ℕ, ◌+◌, ◌≤◌, ◌⊎◌, inl, inr, Bool, true, false, cond, leb, ltb, List, [], ◌∷◌, ◌++◌, length, Option, Some, None, refl, sym, subst, ◌&&◌, arith}
use Rattle.std.proofs.lemmas.Bool.{and_from, and_parts, le-leb, leb-true}
use Rattle.rules.specs.declared.history.Op.{Op}
use Rattle.rules.specs.declared.history.Entry.{Entry}
use Rattle.rules.specs.declared.history.Entry.TheVariants.{Join, Next, Operation}
use Rattle.rules.specs.declared.refusal.Refusal.{Refusal}
use Rattle.rules.specs.declared.refusal.Refusal.TheVariants.{NotJoined, NoSuchSite, SiteInUse}
use Rattle.rules.specs.Admission.{count_at_site}
use Rattle.rules.specs.Bodies.{is_change_body}
use Rattle.rules.specs.Operations.{creation_of}
use Rattle.rules.specs.Records.{objects, operations, refusal, sites}
use Rattle.rules.proofs.Records.{sites-end, sites-join, sites-operation}
use Rattle.wire.specs.declared.request.Request.{Request}
use Rattle.wire.specs.declared.request.Request.TheVariants as request
use Rattle.wire.specs.declared.reply.Reply.{Reply}
use Rattle.wire.specs.declared.reply.Reply.TheVariants.{Joined, Returned, No}
use Rattle.drawing.specs.Shown.{shown_by}
use Rattle.room_core.specs.Room.{Room, with_entry}
use Rattle.room_core.specs.Answers.{Outcome, answer, entry_or_refusal, has_site, join_answer, operation_by, operation_reply, reply_alone, site_answer}
use Rattle.wire.specs.declared.note.NoteRequest.{NoteRequest}
use Rattle.world.specs.steps.Steps.{outside_answer}
use Rattle.world.specs.Alone.{Alone, answer_to, move_of}
use Rattle.world.proofs.Changed.{by_asker}

-- the answer lets its session in, as a site that has joined and that nobody is in as
pub record Enters (room : Room) (in_use : ℕ → Bool) (who : Option ℕ) (outcome : Outcome) : Type 0 where
  pub site : ℕ
  pub was_out : who ≡ None
  pub moves : move_of outcome.0 ≡ Some (Some site)
  pub free : in_use site ≡ false
  pub joined : has_site (with_entry room outcome.1) site ≡ true

-- the answer takes its session out
pub record Leaves (who : Option ℕ) (outcome : Outcome) : Type 0 where
  pub site : ℕ
  pub was_in : who ≡ Some site
  pub moves : move_of outcome.0 ≡ Some None

-- it leaves its session where it is, or does one of these
abbrev pub Moves : Room → (ℕ → Bool) → Option ℕ → Outcome → Type 0
Moves room in_use who outcome = (move_of outcome.0 ≡ None) ⊎ (Enters room in_use who outcome ⊎ Leaves who outcome)

-- ---- replies that move nobody

either_stays : (b : Bool) (one other : Reply) → move_of one ≡ None → move_of other ≡ None → move_of (cond b one other) ≡ None
either_stays true one other e f = e
either_stays false one other e f = f

decided_stays : (room : Room) (o : Option Refusal) (entry : Entry) (reply : Reply) → move_of reply ≡ None → move_of (entry_or_refusal room o entry reply).0 ≡ None
decided_stays room None entry reply e = e
decided_stays room (Some why) entry reply e = refl

shown_stays : (room : Room) (name : ℕ × ℕ) (o : Option Op) → move_of (shown_by room.entries name o) ≡ None
shown_stays room name None = refl
shown_stays room name (Some op) = refl

-- ---- sites that have joined

module _ (room : Room) where
  joined_with : (more : List Entry) (site : ℕ) → sites room.entries ≤ sites more → has_site room site ≡ true → leb 1 site && leb site (sites more) ≡ true
  joined_with more site grew has =
      let parts = and_parts (leb 1 site) (leb site (sites room.entries)) has in
      let few = leb-true site (sites room.entries) parts.1 in
      and_from _ _ parts.0 (le-leb site (sites more) (omega (arith, few, grew)))

  -- an entry takes no site away
  pub still_joined : (added : Option Entry) (site : ℕ) → has_site room site ≡ true → has_site (with_entry room added) site ≡ true
  still_joined None site has = has
  still_joined (Some (Join next)) site has =
      let one = sites-join room.entries next in
      joined_with (room.entries ++ Join next ∷ []) site (omega (arith, one)) has
  still_joined (Some (Operation op)) site has =
      let same = sites-operation room.entries op in
      joined_with (room.entries ++ Operation op ∷ []) site (omega (arith, same)) has
  still_joined (Some (Next count)) site has =
      let same = sites-end room.entries count in
      joined_with (room.entries ++ Next count ∷ []) site (omega (arith, same)) has

  next_joined : has_site (with_entry room (Some (Join (sites room.entries + 1)))) (sites room.entries + 1) ≡ true
  next_joined =
      let next = sites room.entries + 1 in
      let one = sites-join room.entries next in
      and_from _ _ (le-leb 1 next (omega arith)) (le-leb next (sites (room.entries ++ Join next ∷ [])) (omega (arith, one)))

  -- ---- where each site in use has joined
  module _ (in_use : ℕ → Bool) (joined : (site : ℕ) → in_use site ≡ true → has_site room site ≡ true) where
    next_by : (b : Bool) → in_use (sites room.entries + 1) ≡ b → b ≡ false
    next_by false e = refl
    next_by true e =
        let past = leb-true (sites room.entries + 1) (sites room.entries) (and_parts (leb 1 (sites room.entries + 1)) _ (joined (sites room.entries + 1) e)).1 in
        absurd (omega (arith, past))

    join_moves : (o : Option Refusal) → Moves room in_use None (entry_or_refusal room o (Join (sites room.entries + 1)) (Joined (length room.entries) (sites room.entries + 1)))
    join_moves (Some why) = inl refl
    join_moves None = inr (inl (record {
      site = sites room.entries + 1;
      was_out = refl;
      moves = refl;
      free = next_by (in_use (sites room.entries + 1)) refl;
      joined = next_joined;
    }))

    joins : Moves room in_use None (join_answer room)
    unfolding join_answer
    joins = join_moves (refusal room.limits room.entries (Join (sites room.entries + 1)))

    back_moves : (has used : Bool) (site : ℕ) → has_site room site ≡ has → in_use site ≡ used
        → Moves room in_use None (reply_alone (cond has (cond used (No (length room.entries) SiteInUse) (Returned (length room.entries) site (count_at_site (operations room.entries) site))) (No (length room.entries) NoSuchSite)))
    back_moves true true site e f = inl refl
    back_moves false used site e f = inl refl
    back_moves true false site e f = inr (inl (record {
      site = site;
      was_out = refl;
      moves = refl;
      free = f;
      joined = e;
    }))

    outside_moves : (asks : Request) → Moves room in_use None (outside_answer room in_use asks)
    outside_moves (request.Join name) = joins
    outside_moves (request.Back name site) = back_moves (has_site room site) (in_use site) site refl refl
    outside_moves (request.Change seq seen body) = inl refl
    outside_moves (request.Show name) = inl refl
    outside_moves (request.List from) = inl refl
    outside_moves (request.Pull from waits) = inl refl
    outside_moves request.Leave = inl refl

    module _ (site : ℕ) where
      site_moves : (asks : Request) → Moves room in_use (Some site) (site_answer room site asks)
      site_moves (request.Join name) = inl refl
      site_moves (request.Back name other) = inl refl
      site_moves (request.Change seq seen body) =
          let op = operation_by site seq seen body in
          inl (decided_stays room (refusal room.limits room.entries (Operation op)) (Operation op) (operation_reply room op) (either_stays (is_change_body body) _ _ refl refl))
      site_moves (request.Show name) = inl (shown_stays room name (creation_of (operations room.entries) name))
      site_moves (request.List from) = inl (either_stays (ltb (length (objects room.entries)) from) _ _ refl refl)
      site_moves (request.Pull from waits) = inl (either_stays (ltb (length room.entries) from) _ _ refl refl)
      site_moves request.Leave = inr (inr (record { site = site; was_in = refl; moves = refl }))

      of_anyone : (has : Bool) (asks : Request) → Moves room in_use (Some site) (cond has (site_answer room site asks) (reply_alone (No 0 NotJoined)))
      of_anyone true asks = site_moves asks
      of_anyone false asks = inl refl

      inside_moves : (asks : Request) → Moves room in_use (Some site) (answer room site asks)
      unfolding answer
      inside_moves asks = of_anyone (has_site room site) asks

-- so of each answer
pub answer_moves : (alone : Alone) → ((site : ℕ) → alone.in_use site ≡ true → has_site alone.room site ≡ true)
    → (who : Option ℕ) (asks : Option Request) (asked : Option NoteRequest) → Moves alone.room alone.in_use who (answer_to alone who asks asked)
answer_moves alone joined None None None = inl refl
answer_moves alone joined None None (Some asked) = inl refl
answer_moves alone joined (Some site) None None = inl refl
answer_moves alone joined (Some site) None (Some asked) = inl refl
answer_moves alone joined None (Some asks) asked = subst (Moves alone.room alone.in_use None) (sym (by_asker alone None asks asked)) (outside_moves alone.room alone.in_use joined asks)
answer_moves alone joined (Some site) (Some asks) asked = inside_moves alone.room alone.in_use joined site asks
