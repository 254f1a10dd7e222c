-- What a room answers: a reply, and the entry that is added if there is one.
use Rattle.std.specs.Prelude.{ℕ, ◌+◌, Bool, ◌&&◌, List, Option, Some, None, nat_le, nat_lt, length}
use Rattle.std.specs.Prelude.{take, drop, if◌then◌else◌}
use Rattle.rules.specs.declared.history.Op.{Op}
use Rattle.base_types.specs.Vectors.{Vector}
use Rattle.rules.specs.declared.history.Body.{Body}
use Rattle.rules.specs.declared.history.Entry.{Entry}
use Rattle.rules.specs.declared.history.Entry.TheVariants.{Join, Operation}
use Rattle.rules.specs.declared.refusal.Refusal.{Refusal}
use Rattle.rules.specs.declared.refusal.Refusal.TheVariants.{NotJoined, AlreadyJoined, NoSuchSite}
use Rattle.rules.specs.declared.refusal.Refusal.TheVariants.{SiteInUse, TooFar}
use Rattle.rules.specs.Bodies.{is_change_body}
use Rattle.rules.specs.Admission.{count_at_site}
use Rattle.rules.specs.Records.{objects, operations, sites, refusal}
use Rattle.drawing.specs.Room.{Room, all_objects, with_entry}
use Rattle.drawing.specs.Shown.{ids_with, shown}
use Rattle.wire.specs.declared.request.Request.{Request}
use Rattle.wire.specs.declared.reply.Reply.{Reply}
use Rattle.wire.specs.declared.reply.Reply.TheVariants.{Joined, Returned, Made, Taken, Objects}
use Rattle.wire.specs.declared.reply.Reply.TheVariants.{Entries, Left, No}

-- a reply, and the entry that is added if there is one
abbrev pub Outcome : Type 0
Outcome = Reply × Option Entry

abbrev pub room_after : Room → Outcome → Room
room_after room outcome = with_entry room outcome.1

abbrev pub reply_alone : Reply → Outcome
reply_alone reply = (reply, None)

abbrev pub refusal_answer : Room → Refusal → Outcome
refusal_answer room why = reply_alone (No (length room.entries) why)

-- the entry is added with this reply, or refused
abbrev pub entry_or_refusal : Room → Option Refusal → Entry → Reply → Outcome
entry_or_refusal room None entry reply = (reply, Some entry)
entry_or_refusal room (Some why) entry reply = refusal_answer room why

abbrev pub entry_answer : Room → Entry → Reply → Outcome
entry_answer room entry reply =
    entry_or_refusal room (refusal room.limits room.entries entry) entry reply

-- the next site joins
unfoldable pub join_answer : Room → Outcome
join_answer room = let site = sites room.entries + 1 in
    entry_answer room (Join site) (Joined (length room.entries) site)

abbrev pub operation_by : ℕ → ℕ → Vector → Body → Op
operation_by site seq seen body = record { name = (site, seq); seen = seen; body = body }

-- the reply to a creation is made; to a change taken, with the identifiers of the object's versions
abbrev pub operation_reply : Room → Op → Reply
operation_reply room op =
    if is_change_body op.body then Taken (length room.entries) (ids_with room op)
    else Made (length room.entries) op.name

abbrev pub operation_answer : Room → Op → Outcome
operation_answer room op = entry_answer room (Operation op) (operation_reply room op)

-- a page of a list, from a place on
abbrev pub page : {X : Type 0} → Room → ℕ → List X → List X
page room from xs = take room.limits.page (drop from xs)

abbrev pub list_reply : Room → ℕ → Reply
list_reply room from = let total = length (objects room.entries) in
    if nat_lt total from then No (length room.entries) TooFar
    else Objects (length room.entries) from total (page room from (all_objects room.entries))

abbrev pub pull_reply : Room → ℕ → Reply
pull_reply room from =
    if nat_lt (length room.entries) from then No (length room.entries) TooFar
    else Entries (length room.entries) from (page room from room.entries)

-- the answer to a request of a site that has joined
abbrev pub site_answer : Room → ℕ → Request → Outcome
site_answer room site (Request.Join name) = reply_alone (No 0 AlreadyJoined)
site_answer room site (Request.Back name other) = reply_alone (No 0 AlreadyJoined)
site_answer room site (Request.Change seq seen body) =
    operation_answer room (operation_by site seq seen body)
site_answer room site (Request.Show object) = reply_alone (shown room.entries object)
site_answer room site (Request.List from) = reply_alone (list_reply room from)
site_answer room site (Request.Pull from waits) = reply_alone (pull_reply room from)
site_answer room site Request.Leave = reply_alone (Left (length room.entries))

-- a site of this number has joined
abbrev pub has_site : Room → ℕ → Bool
has_site room site = nat_le 1 site && nat_le site (sites room.entries)

-- the answer to a session that comes back as this site, which may be in use; nothing is added
abbrev pub back_reply : Room → Bool → ℕ → Reply
back_reply room in_use site = let at = length room.entries in
    if has_site room site
    then (if in_use then No at SiteInUse
    else Returned at site (count_at_site (operations room.entries) site)) else No at NoSuchSite

-- the answer to a request of a session that claims to be this site
unfoldable pub answer : Room → ℕ → Request → Outcome
answer room site request =
    if has_site room site then site_answer room site request else reply_alone (No 0 NotJoined)
