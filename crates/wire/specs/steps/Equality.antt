-- Equality of replies, as a test.
use Rattle.std.specs.Prelude.{◌≡◌, ℕ, Bool, false, ◌&&◌, ◌==◌, List, bytes_eq, unwrap_or}
use Rattle.std.specs.Bool.{Decides}
use Rattle.std.specs.Cmp.{IsEquivalence, decided, unsigned_Decides}
use Rattle.std.specs.Cmp.Lexicographic.{pointwise}
use Rattle.std.proofs.Common.{ap, refl, sym, ◌∙◌}
use Rattle.std.proofs.lemmas.Bool.Decides.{Decides-like, Decides-and}
use Rattle.std.proofs.lemmas.Slice.Eq.{bytes_eq-Decides, slice_eq-Decides}
use Rattle.base_types.specs.Names.{Name, same_name}
use Rattle.base_types.specs.VersionIds.{same_names}
use Rattle.rules.specs.steps.Equality.{same_name-Decides, same_names-Decides, same_entry}
use Rattle.rules.specs.steps.Equality.{same_entry-Decides, same_shown, same_shown-Decides}
use Rattle.rules.specs.Refusals.{code_of}
use Rattle.rules.specs.steps.Codes.{refusal_at}
use Rattle.rules.specs.Texts.{Bytes}
use Rattle.rules.specs.declared.history.Entry.{Entry}
use Rattle.rules.specs.declared.refusal.Refusal.{Refusal}
use Rattle.rules.specs.declared.refusal.Refusal.TheVariants.{BadMessage}
use Rattle.rules.specs.declared.version.Version.{Version}
use Rattle.wire.specs.declared.reply.Reply.{Reply}
use Rattle.wire.specs.declared.reply.Reply.TheVariants.{Joined, Returned, Made, Taken, Versions}
use Rattle.wire.specs.declared.reply.Reply.TheVariants.{Objects, Entries, Left, Notes, Renewed, No}
use Rattle.wire.specs.Notes.{Note}

-- pairs are equal where both their parts are
pairs_decide : {A B : Type 0} {E : A → A → Bool} {F : B → B → Bool}
    → ((x y : A) → Decides (E x y) (x ≡ y)) → ((x y : B) → Decides (F x y) (x ≡ y))
    → (p q : A × B) → Decides (E p.0 q.0 && F p.1 q.1) (p ≡ q)
pairs_decide first second p q =
    Decides-like _ (λ e i. (e.0 i, e.1 i)) (λ e. (ap (λ r. r.0) e, ap (λ r. r.1) e))
    (Decides-and _ _ (first p.0 q.0) (second p.1 q.1))

-- ---- the lists

pub same_id-equivalence : IsEquivalence same_names
same_id-equivalence = decided same_names same_names-Decides

abbrev pub same_ids : List (List Name) → List (List Name) → Bool
same_ids = pointwise same_names

pub same_ids-Decides : (a b : List (List Name)) → Decides (same_ids a b) (a ≡ b)
same_ids-Decides a b = slice_eq-Decides same_names-Decides a b _ refl

pub same_ids-equivalence : IsEquivalence same_ids
same_ids-equivalence = decided same_ids same_ids-Decides

abbrev pub same_version : Version → Version → Bool
same_version a b = same_names a.id b.id && same_shown a.shown b.shown

same_version-Decides : (a b : Version) → Decides (same_version a b) (a ≡ b)
same_version-Decides a b =
    Decides-like _ (λ e i. record { id = e.0 i; shown = e.1 i })
    (λ e. (ap (λ v. v.id) e, ap (λ v. v.shown) e))
    (Decides-and _ _ (same_names-Decides a.id b.id) (same_shown-Decides a.shown b.shown))

abbrev pub same_versions : List Version → List Version → Bool
same_versions = pointwise same_version

pub same_versions-Decides : (a b : List Version) → Decides (same_versions a b) (a ≡ b)
same_versions-Decides a b = slice_eq-Decides same_version-Decides a b _ refl

pub same_versions-equivalence : IsEquivalence same_versions
same_versions-equivalence = decided same_versions same_versions-Decides

abbrev pub same_object : Name × Bytes → Name × Bytes → Bool
same_object a b = same_name a.0 b.0 && bytes_eq a.1 b.1

abbrev pub same_objects : List (Name × Bytes) → List (Name × Bytes) → Bool
same_objects = pointwise same_object

pub same_objects-Decides : (a b : List (Name × Bytes)) → Decides (same_objects a b) (a ≡ b)
same_objects-Decides a b =
    slice_eq-Decides (pairs_decide same_name-Decides bytes_eq-Decides) a b _ refl

pub same_objects-equivalence : IsEquivalence same_objects
same_objects-equivalence = decided same_objects same_objects-Decides

abbrev pub same_note : Note → Note → Bool
same_note a b = a.0 == b.0 && bytes_eq a.1 b.1

abbrev pub same_notes : List Note → List Note → Bool
same_notes = pointwise same_note

pub same_notes-Decides : (a b : List Note) → Decides (same_notes a b) (a ≡ b)
same_notes-Decides a b =
    slice_eq-Decides (pairs_decide unsigned_Decides bytes_eq-Decides) a b _ refl

pub same_notes-equivalence : IsEquivalence same_notes
same_notes-equivalence = decided same_notes same_notes-Decides

abbrev pub same_entries : List Entry → List Entry → Bool
same_entries = pointwise same_entry

pub same_entries-Decides : (a b : List Entry) → Decides (same_entries a b) (a ≡ b)
same_entries-Decides a b = slice_eq-Decides same_entry-Decides a b _ refl

pub same_entries-equivalence : IsEquivalence same_entries
same_entries-equivalence = decided same_entries same_entries-Decides

-- ---- replies

abbrev pub same_refusal : Refusal → Refusal → Bool
same_refusal a b = code_of a == code_of b

abbrev refusal_with : ℕ → Refusal
refusal_with code = unwrap_or (refusal_at code) BadMessage

with_its_code : (r : Refusal) → refusal_with (code_of r) ≡ r
with_its_code BadMessage = refl
with_its_code r = refl

same_refusal-Decides : (a b : Refusal) → Decides (same_refusal a b) (a ≡ b)
same_refusal-Decides a b =
    Decides-like _ (λ e. sym (with_its_code a) ∙ ap refusal_with e ∙ with_its_code b)
    (λ e. ap code_of e)
    (unsigned_Decides (code_of a) (code_of b))

-- both entered the room as the same site
abbrev pub same_entrance : Reply → Reply → Bool
same_entrance (Joined at site) (Joined other_at other_site) = at == other_at && site == other_site
same_entrance (Returned at site seq) (Returned other_at other_site other_seq) =
    at == other_at && site == other_site && seq == other_seq
same_entrance _ _ = false

-- both accepted a change, with the same outcome
abbrev pub same_change : Reply → Reply → Bool
same_change (Made at name) (Made other_at other_name) = at == other_at && same_name name other_name
same_change (Taken at ids) (Taken other_at other_ids) = at == other_at && same_ids ids other_ids
same_change _ _ = false

-- both show the same versions of an object
abbrev pub same_listing : Reply → Reply → Bool
same_listing (Versions at object kind versions)
    (Versions other_at other_object other_kind other_versions) =
    at == other_at && same_name object other_object && bytes_eq kind other_kind
    && same_versions versions other_versions
same_listing _ _ = false

-- both are the same page, of the objects or of the record
abbrev pub same_page : Reply → Reply → Bool
same_page (Objects at from total objects) (Objects other_at other_from other_total other_objects) =
    at == other_at && from == other_from && total == other_total
    && same_objects objects other_objects
same_page (Entries at from entries) (Entries other_at other_from other_entries) =
    at == other_at && from == other_from && same_entries entries other_entries
same_page _ _ = false

abbrev pub same_reply : Reply → Reply → Bool
same_reply (Joined at site) other = same_entrance (Joined at site) other
same_reply (Returned at site seq) other = same_entrance (Returned at site seq) other
same_reply (Made at name) other = same_change (Made at name) other
same_reply (Taken at ids) other = same_change (Taken at ids) other
same_reply (Versions at object kind versions) other =
    same_listing (Versions at object kind versions) other
same_reply (Objects at from total objects) other = same_page (Objects at from total objects) other
same_reply (Entries at from entries) other = same_page (Entries at from entries) other
same_reply (Left at) (Left other_at) = at == other_at
same_reply (Notes at notes) (Notes other_at other_notes) =
    at == other_at && same_notes notes other_notes
same_reply (Renewed at room) (Renewed other_at other_room) = at == other_at && bytes_eq room other_room
same_reply (No at refusal) (No other_at other_refusal) =
    at == other_at && same_refusal refusal other_refusal
same_reply _ _ = false

pub same_reply-Decides : (a b : Reply) → Decides (same_reply a b) (a ≡ b)
same_reply-Decides (Joined at site) (Joined other_at other_site) =
    Decides-like _ (λ e i. Joined (e.0 i) (e.1 i)) (λ e. (cc, cc))
    (Decides-and _ _ (unsigned_Decides at other_at) (unsigned_Decides site other_site))
same_reply-Decides (Returned at site seq) (Returned other_at other_site other_seq) =
    Decides-like _ (λ e i. Returned (e.0.0 i) (e.0.1 i) (e.1 i)) (λ e. ((cc, cc), cc))
    (Decides-and _ _
    (Decides-and _ _ (unsigned_Decides at other_at) (unsigned_Decides site other_site))
    (unsigned_Decides seq other_seq))
same_reply-Decides (Made at name) (Made other_at other_name) =
    Decides-like _ (λ e i. Made (e.0 i) (e.1 i)) (λ e. (cc, cc))
    (Decides-and _ _ (unsigned_Decides at other_at) (same_name-Decides name other_name))
same_reply-Decides (Taken at ids) (Taken other_at other_ids) =
    Decides-like _ (λ e i. Taken (e.0 i) (e.1 i)) (λ e. (cc, cc))
    (Decides-and _ _ (unsigned_Decides at other_at) (same_ids-Decides ids other_ids))
same_reply-Decides (Versions at object kind versions)
    (Versions other_at other_object other_kind other_versions) =
    Decides-like _ (λ e i. Versions (e.0.0.0 i) (e.0.0.1 i) (e.0.1 i) (e.1 i))
    (λ e. (((cc, cc), cc), cc))
    (Decides-and _ _
    (Decides-and _ _
    (Decides-and _ _ (unsigned_Decides at other_at) (same_name-Decides object other_object))
    (bytes_eq-Decides kind other_kind))
    (same_versions-Decides versions other_versions))
same_reply-Decides (Objects at from total objects)
    (Objects other_at other_from other_total other_objects) =
    Decides-like _ (λ e i. Objects (e.0.0.0 i) (e.0.0.1 i) (e.0.1 i) (e.1 i))
    (λ e. (((cc, cc), cc), cc))
    (Decides-and _ _
    (Decides-and _ _
    (Decides-and _ _ (unsigned_Decides at other_at) (unsigned_Decides from other_from))
    (unsigned_Decides total other_total))
    (same_objects-Decides objects other_objects))
same_reply-Decides (Entries at from entries) (Entries other_at other_from other_entries) =
    Decides-like _ (λ e i. Entries (e.0.0 i) (e.0.1 i) (e.1 i)) (λ e. ((cc, cc), cc))
    (Decides-and _ _
    (Decides-and _ _ (unsigned_Decides at other_at) (unsigned_Decides from other_from))
    (same_entries-Decides entries other_entries))
same_reply-Decides (Left at) (Left other_at) =
    Decides-like _ (λ e i. Left (e i)) (λ e. cc) (unsigned_Decides at other_at)
same_reply-Decides (Notes at notes) (Notes other_at other_notes) =
    Decides-like _ (λ e i. Notes (e.0 i) (e.1 i)) (λ e. (cc, cc))
    (Decides-and _ _ (unsigned_Decides at other_at) (same_notes-Decides notes other_notes))
same_reply-Decides (Renewed at room) (Renewed other_at other_room) =
    Decides-like _ (λ e i. Renewed (e.0 i) (e.1 i)) (λ e. (cc, cc))
    (Decides-and _ _ (unsigned_Decides at other_at) (bytes_eq-Decides room other_room))
same_reply-Decides (No at refusal) (No other_at other_refusal) =
    Decides-like _ (λ e i. No (e.0 i) (e.1 i)) (λ e. (cc, cc))
    (Decides-and _ _ (unsigned_Decides at other_at)
    (same_refusal-Decides refusal other_refusal))
same_reply-Decides a b = (λ e. cc, λ e. cc)

pub same_reply-equivalence : IsEquivalence same_reply
same_reply-equivalence = decided same_reply same_reply-Decides
