-- Which answers of a room show an object, and that they show its groups.
use Rattle.std.proofs.Common.{◌≡◌, ◌+◌, ℕ, Bool, true, false, cond, List, length, Option, Some, None, refl, sym, subst}
use Rattle.base_types.specs.Names.{Name}
use Rattle.base_types.specs.Texts.{Bytes}
use Rattle.rules.specs.declared.history.Op.{Op}
use Rattle.rules.specs.declared.history.Entry.{Entry}
use Rattle.rules.specs.declared.history.Entry.TheVariants.{Join, Operation}
use Rattle.rules.specs.declared.refusal.Refusal.{Refusal}
use Rattle.rules.specs.declared.refusal.Refusal.TheVariants.{NotJoined, NoSuchSite, SiteInUse}
use Rattle.rules.specs.declared.version.Version.{Version}
use Rattle.rules.specs.Bodies.{is_change_body, kind_of_body}
use Rattle.rules.specs.Operations.{IsHistory, creation_of, changes_on}
use Rattle.rules.specs.Conflicts.{conflict}
use Rattle.rules.specs.Admission.{count_at_site}
use Rattle.rules.specs.Records.{operations, refusal, sites, IsLegal}
use Rattle.rules.specs.Versions.{groups, versions}
use Rattle.rules.proofs.Once.{HasNoRepeats-from_Once}
use Rattle.rules.proofs.Changes.{Once-changes_on}
use Rattle.rules.proofs.Founded.{history_if_legal}
use Rattle.rules.proofs.Groups.{groups_of_is}
use Rattle.rules.proofs.Versions.{groups_once, each_shown, identifiers_rise}
use Rattle.wire.specs.declared.request.Request.{Request}
use Rattle.wire.specs.declared.request.Request.TheVariants as request
use Rattle.wire.specs.declared.reply.Reply.{Reply}
use Rattle.wire.specs.declared.reply.Reply.TheVariants.{Joined, Returned, Made, Taken, Versions, Objects, Entries, No}
use Rattle.drawing.specs.Room.{Room}
use Rattle.drawing.specs.Shown.{shown_by as shown_by_creation}
use Rattle.room_core.specs.Answers.{back_reply, entry_or_refusal, join_answer, operation_answer, operation_reply, site_answer, has_site, answer, reply_alone}
use Rattle.room_core.specs.Shown.{AreVersionsOf, HasObject}

-- the versions of a history are its groups
pub versions_are : (h : List Op) (object : Name) → IsHistory h → AreVersionsOf h object (versions h object)
unfolding groups
versions_are h object history = record {
  groups = groups h object;
  maximal = λ g. groups_of_is (conflict h) (changes_on h object) g (HasNoRepeats-from_Once (changes_on h object) (Once-changes_on history object));
  once = groups_once h object history;
  shown = each_shown h object;
  rising = identifiers_rise h object history;
}

-- a room's answer shows the object as its record has it, and adds nothing
pub record IsShownBy (room : Room) (at : ℕ) (object : Name) (kind : Bytes) (vs : List Version) (added : Option Entry) : Type 0 where
  pub at_end : at ≡ length room.entries
  pub nothing : added ≡ None
  pub creation : Op
  pub created : creation_of (operations room.entries) object ≡ Some creation
  pub of_kind : kind ≡ kind_of_body creation.body
  pub are_versions : vs ≡ versions (operations room.entries) object

module _ (room : Room) (at : ℕ) (object : Name) (kind : Bytes) (vs : List Version) where
  made_not : (n : ℕ) (name : Name) → Made n name ≡ Versions at object kind vs → ⊥
  made_not n name e = cc

  joined_not : (n site : ℕ) → Joined n site ≡ Versions at object kind vs → ⊥
  joined_not n site e = cc

  returned_not : (n site seq : ℕ) → Returned n site seq ≡ Versions at object kind vs → ⊥
  returned_not n site seq e = cc

  taken_not : (n : ℕ) (ids : List (List Name)) → Taken n ids ≡ Versions at object kind vs → ⊥
  taken_not n ids e = cc

  objects_not : (n from total : ℕ) (page : List (Name × Bytes)) → Objects n from total page ≡ Versions at object kind vs → ⊥
  objects_not n from total page e = cc

  entries_not : (n from : ℕ) (page : List Entry) → Entries n from page ≡ Versions at object kind vs → ⊥
  entries_not n from page e = cc

  refused_not : (n : ℕ) (why : Refusal) → No n why ≡ Versions at object kind vs → ⊥
  refused_not n why e = cc

  decided_not : (o : Option Refusal) (entry : Entry) (reply : Reply) → (reply ≡ Versions at object kind vs → ⊥) → (entry_or_refusal room o entry reply).0 ≡ Versions at object kind vs → ⊥
  decided_not None entry reply other e = other e
  decided_not (Some why) entry reply other e = refused_not (length room.entries) why e

  either_not : (late : Bool) (one other : Reply) → (one ≡ Versions at object kind vs → ⊥) → (other ≡ Versions at object kind vs → ⊥) → cond late one other ≡ Versions at object kind vs → ⊥
  either_not true one other f g e = f e
  either_not false one other f g e = g e

  shown_by : (name : Name) (o : Option Op) → creation_of (operations room.entries) name ≡ o → shown_by_creation room.entries name o ≡ Versions at object kind vs → IsShownBy room at object kind vs None
  shown_by name None f e = absurd cc
  shown_by name (Some op) f e = record {
    at_end = cc;
    nothing = refl;
    creation = op;
    created = cc;
    of_kind = cc;
    are_versions = cc;
  }

  -- a join shows nothing
  pub join_shows : (join_answer room).0 ≡ Versions at object kind vs → ⊥
  unfolding join_answer
  join_shows e = decided_not (refusal room.limits room.entries (Join (sites room.entries + 1))) (Join (sites room.entries + 1)) (Joined (length room.entries) (sites room.entries + 1)) (joined_not _ _) e

  -- nor does a coming back
  pub back_shows : (in_use : Bool) (site : ℕ) → back_reply room in_use site ≡ Versions at object kind vs → ⊥
  back_shows in_use site e = either_not (has_site room site) _ _ (λ first. either_not in_use _ _ (refused_not _ _) (returned_not _ _ _) first) (refused_not _ _) e

  -- nor does an operation
  operation_shows : (op : Op) {added : Option Entry} → (operation_answer room op).0 ≡ Versions at object kind vs → IsShownBy room at object kind vs added
  operation_shows op e =
      absurd (decided_not (refusal room.limits room.entries (Operation op)) (Operation op) (operation_reply room op)
      (either_not (is_change_body op.body) _ _ (taken_not _ _) (made_not _ _)) e)

  site_shows : (site : ℕ) (asks : Request) → (site_answer room site asks).0 ≡ Versions at object kind vs → IsShownBy room at object kind vs (site_answer room site asks).1
  site_shows site (request.Join name) e = absurd cc
  site_shows site (request.Back name other) e = absurd cc
  site_shows site (request.Change seq seen b) e = operation_shows (record { name = (site, seq); seen = seen; body = b }) e
  site_shows site (request.Show name) e = shown_by name (creation_of (operations room.entries) name) refl e
  site_shows site (request.List from) e = absurd (either_not _ _ _ (refused_not _ _) (objects_not _ _ _ _) e)
  site_shows site (request.Pull from waits) e = absurd (either_not _ _ _ (refused_not _ _) (entries_not _ _ _) e)
  site_shows site request.Leave e = absurd cc

  by_site : (b : Bool) (site : ℕ) (asks : Request) (why : Refusal) → (cond b (site_answer room site asks) (reply_alone (No 0 why))).0 ≡ Versions at object kind vs
      → IsShownBy room at object kind vs (cond b (site_answer room site asks) (reply_alone (No 0 why))).1
  by_site true site asks why e = site_shows site asks e
  by_site false site asks why e = absurd cc

  -- a room that answers with versions shows its own, and adds nothing
  pub answer_shows : (site : ℕ) (asks : Request) → (answer room site asks).0 ≡ Versions at object kind vs → IsShownBy room at object kind vs (answer room site asks).1
  unfolding answer
  answer_shows site asks e = by_site (has_site room site) site asks NotJoined e

  -- what a legal room shows it has so
  pub has_if_shown : (added : Option Entry) → IsLegal room.limits room.entries → IsShownBy room at object kind vs added → HasObject room at object kind vs
  has_if_shown added legal shows =
      let h = operations room.entries in
      record {
        at_end = shows.at_end;
        creation = shows.creation;
        created = shows.created;
        of_kind = shows.of_kind;
        versions_are = subst (AreVersionsOf h object) (sym shows.are_versions) (versions_are h object (history_if_legal room.limits room.entries legal));
      }
