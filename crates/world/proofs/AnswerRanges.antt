-- A room whose entries are in range answers requests in range with replies in range, and stays so.
use Rattle.std.proofs.Common.{◌≡◌, ◌+◌, ◌≤◌, ℕ, Bool, true, false, not, cond, eqb, leb, ltb, List, [], ◌∷◌, ◌++◌, length, Option, Some, None, IfSome, Result, Ok, Err, OnOk, OnErr, refl, sym, ap, ◌∙◌, subst, ◌&&◌, arith}
use Rattle.std.specs.Prelude.{is_none}
use Rattle.std.specs.List.{AllByRecursion}
use Rattle.std.proofs.lemmas.Bool.{and_from, and_parts, eq-eqb, le-leb, leb-true}
use Rattle.std.proofs.lemmas.List.{length_push}
use Rattle.std.proofs.lemmas.List.Sums.{length-filter, count_by-le-length}
use Rattle.base_types.specs.Names.{Name, is_site, is_seq, is_op_name}
use Rattle.base_types.specs.Texts.{Bytes}
use Rattle.rules.specs.declared.history.Op.{Op}
use Rattle.rules.specs.declared.history.Entry.{Entry}
use Rattle.rules.specs.declared.history.Entry.TheVariants.{Join, Next, Operation}
use Rattle.rules.specs.declared.refusal.Refusal.{Refusal}
use Rattle.rules.specs.declared.refusal.Refusal.TheVariants.{NotJoined, NoSuchSite, SiteInUse, TooFar}
use Rattle.rules.specs.declared.limits.LimitValues.{LimitValues}
use Rattle.rules.specs.Bodies.{is_change_body, kind_of_body}
use Rattle.rules.specs.Operations.{IsHistory, creation_of, is_creation_of, object_of}
use Rattle.rules.specs.Admission.{count_at_site}
use Rattle.rules.specs.Records.{admits, objects, operations, refusal, sites, IsLegal}
use Rattle.rules.proofs.Lists.{In, In-filter_back, In-map_back, find_is}
use Rattle.rules.proofs.Records.{kept_by_admitted, legal_push, length-operations, count_at_site-length, operations-push, sites-end, sites-join, sites-operation}
use Rattle.rules.proofs.Conditions.{room_for_end, room_for_join, room_for_operation}
use Rattle.rules.proofs.Founded.{history_if_legal}
use Rattle.wire.specs.declared.request.Request.{Request}
use Rattle.wire.specs.declared.request.Request.TheVariants as request
use Rattle.wire.specs.declared.reply.Reply.{Reply}
use Rattle.wire.specs.declared.reply.Reply.TheVariants.{Joined, Returned, Made, Taken, Versions, Objects, Entries, Left, Notes, Renewed, No}
use Rattle.wire.specs.Form.{IsEntry, IsObject, IsReply, IsRequest, is_at, is_from}
use Rattle.room_core.specs.Room.{Room, all_objects, with_entry}
use Rattle.drawing.specs.Shown.{ids_with, shown_by}
use Rattle.room_core.specs.Answers.{Outcome, answer, entry_or_refusal, has_site, join_answer, operation_answer, operation_reply, page, site_answer, reply_alone}
use Rattle.world.specs.Alone.{move_of}
use Rattle.world.specs.steps.Steps.{asker_answer, outside_answer}
use Rattle.world.proofs.Ranges.{IsOp, all_if, all_take, all_drop, all_push, ops_in_range, kind_in_range, versions_in_range, ids_in_range}

-- ---- a legal record is within its limits

record IsWithin (b : LimitValues) (r : List Entry) : Type 0 where
  joins : sites r ≤ b.joins
  short : length r ≤ b.entries

within_push : (b : LimitValues) (r : List Entry) (e : Entry) → IsWithin b r → admits b r e ≡ true → IsWithin b (r ++ e ∷ [])
within_push b r (Join site) w a =
    let room = room_for_join b r site a in
    let one = sites-join r site in
    let more = length_push r (Join site) in
    let free = room.0 in
    let place = room.1 in
    record { joins = omega (arith, one, free); short = omega (arith, more, place) }
within_push b r (Operation op) w a =
    let room = room_for_operation b r op a in
    let same = sites-operation r op in
    let more = length_push r (Operation op) in
    let few = w.joins in
    let place = room.0 in
    record { joins = omega (arith, same, few); short = omega (arith, more, place) }
within_push b r (Next count) w a =
    let place = room_for_end b r count a in
    let same = sites-end r count in
    let more = length_push r (Next count) in
    let few = w.joins in
    record { joins = omega (arith, same, few); short = omega (arith, more, place) }

within : (b : LimitValues) (r : List Entry) → IsLegal b r → IsWithin b r
within b = kept_by_admitted b (IsWithin b) (λ r e l. within_push b r e) (record { joins = omega arith; short = omega arith })

-- so its length is in range
pub short_if_legal : (room : Room) (limits : LimitValues) → limits ≡ room.limits → limits.entries ≤ 16384 → IsLegal room.limits room.entries → length room.entries ≤ 16384
short_if_legal room limits same most legal = let w = (within room.limits room.entries legal).short in omega (arith, w, ap (λ l. l.entries) same, most)

-- ---- answers

-- a room's record is legal and in range, and its limits are at most the full ones
pub record IsSound (room : Room) : Type 0 where
  pub legal : IsLegal room.limits room.entries
  pub joins : room.limits.joins ≤ 256
  pub short : room.limits.entries ≤ 16384
  pub entries : AllByRecursion IsEntry room.entries

pub sound_room : (room : Room) (limits : LimitValues) → limits ≡ room.limits → limits.joins ≤ 256 → limits.entries ≤ 16384 → IsLegal room.limits room.entries → AllByRecursion IsEntry room.entries → IsSound room
sound_room room limits same joins short legal entries = record { legal = legal; joins = rw same at joins; short = rw same at short; entries = entries }

-- the reply is in range, and so is the entry that is added
pub record InRange (outcome : Outcome) : Type 0 where
  pub reply : IsReply outcome.0
  pub added : IfSome outcome.1 IsEntry

module _ (room : Room) (sound : IsSound room) where
  at_most : length room.entries ≤ 16384
  at_most = let w = (within room.limits room.entries sound.legal).short in let s = sound.short in omega (arith, w, s)

  at_in_range : is_at (length room.entries) ≡ true
  at_in_range = le-leb (length room.entries) 16384 at_most

  site_at_most : sites room.entries ≤ 256
  site_at_most = let w = (within room.limits room.entries sound.legal).joins in let s = sound.joins in omega (arith, w, s)

  history : IsHistory (operations room.entries)
  history = history_if_legal room.limits room.entries sound.legal

  ops : (op : Op) → In op (operations room.entries) → IsOp op
  ops = ops_in_range room.entries sound.entries

  refused_in_range : (why : Refusal) → InRange (reply_alone (No (length room.entries) why))
  refused_in_range why = record { reply = at_in_range; added = tt }

  lone_in_range : (why : Refusal) → InRange (reply_alone (No 0 why))
  lone_in_range why = record { reply = refl; added = tt }

  told_in_range : (reply : Reply) → IsReply reply → InRange (reply_alone reply)
  told_in_range reply range = record { reply = range; added = tt }

  -- an entry that is added or refused
  decided_in_range : (o : Option Refusal) (entry : Entry) (reply : Reply) → refusal room.limits room.entries entry ≡ o
      → (refusal room.limits room.entries entry ≡ None → IsReply reply × IsEntry entry) → InRange (entry_or_refusal room o entry reply)
  decided_in_range None entry reply e range = let both = range e in record { reply = both.0; added = both.1 }
  decided_in_range (Some why) entry reply e range = refused_in_range why

  joins_next : refusal room.limits room.entries (Join (sites room.entries + 1)) ≡ None → is_site (sites room.entries + 1) ≡ true
  joins_next e =
      let admitted : admits room.limits room.entries (Join (sites room.entries + 1)) ≡ true = and_from (eqb (sites room.entries + 1) (sites room.entries + 1)) _ (eq-eqb _ _ refl) (ap is_none e) in
      let free = (room_for_join room.limits room.entries (sites room.entries + 1) admitted).0 in
      let most = sound.joins in
      and_from _ _ (le-leb 1 (sites room.entries + 1) (omega arith)) (le-leb (sites room.entries + 1) 256 (omega (arith, free, most)))

  join_in_range : InRange (join_answer room)
  unfolding join_answer
  join_in_range =
      decided_in_range (refusal room.limits room.entries (Join (sites room.entries + 1))) (Join (sites room.entries + 1)) (Joined (length room.entries) (sites room.entries + 1)) refl
      (λ e. let next = joins_next e in ((at_in_range, next), next))

  module _ (site : ℕ) (has : has_site room site ≡ true) where
    site_in_range : is_site site ≡ true
    site_in_range =
        let parts = and_parts (leb 1 site) (leb site (sites room.entries)) has in
        let low = parts.0 in
        let high = leb-true site (sites room.entries) parts.1 in
        let most = site_at_most in
        and_from (leb 1 site) (leb site 256) low (le-leb site 256 (omega (arith, high, most)))

    back_by : (used : Bool) → InRange (reply_alone (cond used (No (length room.entries) SiteInUse) (Returned (length room.entries) site (count_at_site (operations room.entries) site))))
    back_by true = refused_in_range SiteInUse
    back_by false =
        let few = count_at_site-length room.entries site in
        let most = at_most in
        told_in_range _ (at_in_range, site_in_range, le-leb (count_at_site (operations room.entries) site) 16384 (omega (arith, few, most)))

    history_with : (op : Op) → op.name.0 ≡ site → IsOp op → refusal room.limits room.entries (Operation op) ≡ None → IsHistory (operations room.entries ++ op ∷ [])
    history_with op e range none =
        let joined : leb 1 op.name.0 && leb op.name.0 (sites room.entries) ≡ true = ap (λ s. leb 1 s && leb s (sites room.entries)) e ∙ has in
        let admitted : admits room.limits room.entries (Operation op) ≡ true = and_from _ _ (and_from _ _ joined range.1) (ap is_none none) in
        subst IsHistory (operations-push room.entries op) (history_if_legal room.limits (room.entries ++ Operation op ∷ []) (legal_push room.limits room.entries (Operation op) sound.legal admitted))

    ops_with : (op : Op) → IsOp op → (x : Op) → In x (operations room.entries ++ op ∷ []) → IsOp x
    ops_with op range = subst (λ (h : List Op). (x : Op) → In x h → IsOp x) (operations-push room.entries op) (ops_in_range (room.entries ++ Operation op ∷ []) (all_push IsEntry room.entries (Operation op) sound.entries range))

    reply_in_range : (op : Op) (b : Bool) → op.name.0 ≡ site → IsOp op → refusal room.limits room.entries (Operation op) ≡ None → IsReply (cond b (Taken (length room.entries) (ids_with room op)) (Made (length room.entries) op.name))
    reply_in_range op true e range none = (at_in_range, ids_in_range (operations room.entries ++ op ∷ []) (history_with op e range none) (ops_with op range) (object_of op))
    reply_in_range op false e range none = (at_in_range, range.0)

    operation_in_range : (op : Op) → op.name.0 ≡ site → IsOp op → InRange (operation_answer room op)
    operation_in_range op e range =
        decided_in_range (refusal room.limits room.entries (Operation op)) (Operation op) (operation_reply room op) refl
        (λ none. (reply_in_range op (is_change_body op.body) e range none, range))

  shown_in_range : (name : Name) (o : Option Op) → is_op_name name ≡ true → creation_of (operations room.entries) name ≡ o → InRange (reply_alone (shown_by room.entries name o))
  shown_in_range name None range e = refused_in_range _
  shown_in_range name (Some op) range e =
      let c = find_is (is_creation_of name) op (operations room.entries) e in
      told_in_range _ (at_in_range, range, kind_in_range op (and_parts (not (is_change_body op.body)) _ c.1).0 (ops op c.0), versions_in_range (operations room.entries) history ops name)

  object_in_range : (o : Name × Bytes) → In o (all_objects room.entries) → IsObject o
  object_in_range o m =
      let c = In-map_back (λ (op : Op). (op.name, kind_of_body op.body)) o (objects room.entries) m in
      let d = In-filter_back (λ (op : Op). not (is_change_body op.body)) c.0 (operations room.entries) c.1 in
      subst IsObject (sym c.2) ((ops c.0 d.0).0, kind_in_range c.0 d.1 (ops c.0 d.0))

  total_in_range : is_at (length (objects room.entries)) ≡ true
  total_in_range =
      let creates : Op → Bool = λ op. not (is_change_body op.body) in
      let counted = length-filter creates (operations room.entries) in
      let fewer = count_by-le-length creates (operations room.entries) in
      let few = length-operations room.entries in
      let most = at_most in
      le-leb (length (objects room.entries)) 16384 (omega (arith, counted, fewer, few, most))

  list_in_range : (from : ℕ) (far : Bool) → is_from from ≡ true
      → InRange (reply_alone (cond far (No (length room.entries) TooFar) (Objects (length room.entries) from (length (objects room.entries)) (page room from (all_objects room.entries)))))
  list_in_range from true range = refused_in_range TooFar
  list_in_range from false range =
      told_in_range _ (at_in_range, range, total_in_range, all_take IsObject room.limits.page _ (all_drop IsObject from _ (all_if IsObject (all_objects room.entries) object_in_range)))

  pull_in_range : (from : ℕ) (far : Bool) → is_from from ≡ true
      → InRange (reply_alone (cond far (No (length room.entries) TooFar) (Entries (length room.entries) from (page room from room.entries))))
  pull_in_range from true range = refused_in_range TooFar
  pull_in_range from false range = told_in_range _ (at_in_range, range, all_take IsEntry room.limits.page _ (all_drop IsEntry from room.entries sound.entries))

  answer_of_site : (site : ℕ) → has_site room site ≡ true → (asks : Request) → IsRequest asks → InRange (site_answer room site asks)
  answer_of_site site has (request.Join name) range = lone_in_range _
  answer_of_site site has (request.Back name other) range = lone_in_range _
  answer_of_site site has (request.Change seq seen body) range =
      operation_in_range site has (record { name = (site, seq); seen = seen; body = body }) refl
      (and_from (is_site site) (is_seq seq) (site_in_range site has) range.0, range.1, range.2)
  answer_of_site site has (request.Show name) range = shown_in_range name (creation_of (operations room.entries) name) range refl
  answer_of_site site has (request.List from) range = list_in_range from (ltb (length (objects room.entries)) from) range
  answer_of_site site has (request.Pull from waits) range = pull_in_range from (ltb (length room.entries) from) range
  answer_of_site site has request.Leave range = told_in_range _ at_in_range

  of_anyone : (b : Bool) (site : ℕ) → has_site room site ≡ b → (asks : Request) → IsRequest asks → InRange (cond b (site_answer room site asks) (reply_alone (No 0 NotJoined)))
  of_anyone true site e asks range = answer_of_site site e asks range
  of_anyone false site e asks range = lone_in_range NotJoined

  full_answer_in_range : (site : ℕ) (asks : Request) → IsRequest asks → InRange (answer room site asks)
  unfolding answer
  full_answer_in_range site asks range = of_anyone (has_site room site) site refl asks range

  back_in_range : (has used : Bool) (site : ℕ) → has_site room site ≡ has
      → InRange (reply_alone (cond has (cond used (No (length room.entries) SiteInUse) (Returned (length room.entries) site (count_at_site (operations room.entries) site))) (No (length room.entries) NoSuchSite)))
  back_in_range true used site has = back_by site has used
  back_in_range false used site has = refused_in_range NoSuchSite

  outside_in_range : (in_use : ℕ → Bool) (asks : Request) → InRange (outside_answer room in_use asks)
  outside_in_range in_use (request.Join name) = join_in_range
  outside_in_range in_use (request.Back name site) = back_in_range (has_site room site) (in_use site) site refl
  outside_in_range in_use (request.Change seq seen body) = lone_in_range NotJoined
  outside_in_range in_use (request.Show name) = lone_in_range NotJoined
  outside_in_range in_use (request.List from) = lone_in_range NotJoined
  outside_in_range in_use (request.Pull from waits) = lone_in_range NotJoined
  outside_in_range in_use request.Leave = lone_in_range NotJoined

  pub answer_in_range : (in_use : ℕ → Bool) (who : Option ℕ) (asks : Request) → IsRequest asks → InRange (asker_answer room in_use who asks)
  answer_in_range in_use None asks range = outside_in_range in_use asks
  answer_in_range in_use (Some site) asks range = full_answer_in_range site asks range

  pub still_in_range : (added : Option Entry) → IfSome added IsEntry → AllByRecursion IsEntry (with_entry room added).entries
  still_in_range None range = sound.entries
  still_in_range (Some entry) range = all_push IsEntry room.entries entry sound.entries range

-- the room as it is planned for, and after the answer was put in place or not
pub in_range_after : {T E : Type 0} (r : Result T E) (room planned after : Room) (added : Option Entry) → IsSound room → IfSome added IsEntry → planned ≡ room
    → OnOk r (after ≡ with_entry planned added) → OnErr r (after ≡ planned) → AllByRecursion IsEntry after.entries
in_range_after (Ok x) room planned after added sound range same made kept =
    subst (λ (room : Room). AllByRecursion IsEntry room.entries) (sym (made ∙ ap (λ (room : Room). with_entry room added) same)) (still_in_range room sound added range)
in_range_after (Err y) room planned after added sound range same made kept = subst (λ (room : Room). AllByRecursion IsEntry room.entries) (sym (kept ∙ same)) sound.entries

-- where a reply in range puts its session, if it puts it anywhere
site_at_most_by : (site other : ℕ) → is_site site ≡ true → Some (Some site) ≡ Some (Some other) → other ≤ 256
site_at_most_by site other range e =
    let same : site ≡ other = cc in
    leb-true other 256 (and_parts (leb 1 other) (leb other 256) (subst (λ s. is_site s ≡ true) same range)).1

pub moved_in_range : (reply : Reply) (site : ℕ) → IsReply reply → move_of reply ≡ Some (Some site) → site ≤ 256
moved_in_range (Joined at other) site range e = site_at_most_by other site range.1 e
moved_in_range (Returned at other seq) site range e = site_at_most_by other site range.1 e
moved_in_range (Made at name) site range e = absurd (cc)
moved_in_range (Taken at ids) site range e = absurd (cc)
moved_in_range (Versions at name kind vs) site range e = absurd (cc)
moved_in_range (Objects at from total page) site range e = absurd (cc)
moved_in_range (Entries at from page) site range e = absurd (cc)
moved_in_range (Left at) site range e = absurd (cc)
moved_in_range (Notes at notes) site range e = absurd (cc)
moved_in_range (Renewed at room) site range e = absurd (cc)
moved_in_range (No at why) site range e = absurd (cc)
