-- The reader of replies is exact.
use Rattle.std.proofs.Common.{◌≡◌, ℕ, List, [], ◌∷◌, map, codes, Bool, true, false, cond, Option, Some, None, bytes_eq, refl, sym, ap, subst, ◌∙◌}
use Rattle.std.specs.Prelude.{find, ◌==◌}
use Rattle.std.specs.List.{AllByRecursion}
use Rattle.std.proofs.lemmas.Bool.{eqb-true}
use Rattle.std.proofs.lemmas.Option.{cond_some}
use Rattle.std.proofs.lemmas.Slice.Eq.{bytes_eq-Decides}
use Rattle.serde_json.specs.Data.{Data, null, boolean, number, string, array, object}
use Rattle.serde_json.specs.Find.{as_str}
use Rattle.rules.specs.AttrLists.{Attr}
use Rattle.rules.specs.Refusals.{code_of, word_of}
use Rattle.rules.specs.steps.Codes.{refusal_at}
use Rattle.rules.specs.declared.refusal.TheConstants.{MAX_REFUSAL_CODE}
use Rattle.rules.specs.declared.refusal.Refusal.{Refusal}
use Rattle.rules.specs.declared.refusal.Refusal.TheVariants.{BadMessage, NotJoined, AlreadyJoined, NoSuchRoom, RoomFull, RecordFull, WrongSeq, OwnCount, Ahead, NotClosed, NoSuchObject, NoSuchVersion, ObjectFull, TooManyKeys, TooManyVersions, TooManyObjects, TooFar, Gone, NoSuchSite, SiteInUse, NotServed, Renewed as RenewedRefusal}
use Rattle.rules.specs.declared.history.Entry.{Entry}
use Rattle.rules.specs.declared.version.Version.{Version}
use Rattle.rules.specs.declared.version.Shown.{Shown}
use Rattle.rules.specs.declared.version.Shown.TheVariants.{Attrs, Gone as ShownGone}
use Rattle.wire.specs.declared.request.TheConstants.{MAX_FROM}
use Rattle.wire.specs.declared.reply.Reply.{Reply}
use Rattle.wire.specs.declared.reply.Reply.TheVariants.{Joined, Returned, Made, Taken, Versions, Objects, Entries, Left, Notes, Renewed, No}
use Rattle.wire.specs.Rising.{rise, attr_before, id_before, version_before}
use Rattle.wire.specs.Form.{list_form, whole_form, name_form, names_form, attrs_form, shown_form, version_form, object_form, note_form, AreIds, AreShown, IsShown, IsVersion, AreVersions, IsObject, IsEntry, IsEntryForm, IsListForm, IsReply, IsReplyForm}
use Rattle.wire_reader.specs.steps.Reading.{◌>>=◌, field_at, end_at, whole_in, natural_in, list_in, no_others, by_word}
use Rattle.wire_reader.specs.steps.Entries.{entry_of}
use Rattle.wire_reader.specs.steps.Replies.{at_in, ids_in, shown_attrs_in, shown_in, version_in, versions_in, object_in, joined_at, returned_at, made_at, taken_at, versions_at, objects_at, entries_at, left_at, notes_reply_at, renewed_at, refusal_with, refusal_fields, no_at, reply_words, reply_of}
use Rattle.wire_reader.proofs.Exact.{IsExact, ReadsForms, AreExact, reads_list, field_some, bind_some, some_is, exact_list, exact_passing, exact_two, exact_made, exact_text, exact_whole, exact_end, exact_field, IsWordOf, word_of_fields, no_other_word, message_takes, message_again}
use Rattle.wire_reader.proofs.PartForms.{exact_site, exact_from, exact_at, exact_name, exact_id, exact_kind, exact_attr, exact_room}
use Rattle.wire_reader.proofs.Entries.{reads_entries}
use Rattle.wire_reader.proofs.Notes.{exact_notes}

-- ---- the parts

exact_ids : IsExact (List (List (ℕ × ℕ))) ids_in (λ ids. list_form (map names_form ids)) AreIds
unfolding ids_in
exact_ids = exact_passing (rise id_before) (exact_list exact_id)

exact_shown_attrs : IsExact (List Attr) shown_attrs_in attrs_form AreShown
unfolding shown_attrs_in
exact_shown_attrs = exact_passing (rise attr_before) (exact_list exact_attr)

attrs_take : (d : Data) (s : Shown) → (shown_attrs_in d >>= λ attrs. Some (Attrs attrs)) ≡ Some s → IsShown s × (d ≡ shown_form s)
attrs_take d s e =
    let a = bind_some (shown_attrs_in d) (λ attrs. Some (Attrs attrs)) s e in
    subst (λ (t : Shown). IsShown t × (d ≡ shown_form t)) (some_is (Attrs a.0) s a.2) (exact_shown_attrs.takes d a.0 a.1)

shown_takes : (d : Data) (s : Shown) → shown_in d ≡ Some s → IsShown s × (d ≡ shown_form s)
unfolding shown_in
shown_takes null s e = attrs_take null s e
shown_takes (boolean b) s e = attrs_take (boolean b) s e
shown_takes (number n) s e = attrs_take (number n) s e
shown_takes (string word) s e =
    let a = cond_some (bytes_eq word (codes "gone")) ShownGone s e in
    subst (λ (t : Shown). IsShown t × (string word ≡ shown_form t)) a.1 (tt, ap string ((bytes_eq-Decides word (codes "gone")).0 a.0))
shown_takes (array is) s e = attrs_take (array is) s e
shown_takes (object ms) s e = attrs_take (object ms) s e

shown_again : (s : Shown) → IsShown s → shown_in (shown_form s) ≡ Some s
unfolding shown_in
shown_again (Attrs attrs) fit = rw (exact_shown_attrs.again attrs fit) refl
shown_again ShownGone fit = refl

exact_shown : IsExact Shown shown_in shown_form IsShown
exact_shown = record { takes = shown_takes; again = shown_again }

exact_version : IsExact Version version_in version_form IsVersion
unfolding version_in
exact_version = exact_made (exact_two exact_id exact_shown) (λ p. record { id = p.0; shown = p.1 }) (λ v. (v.id, v.shown)) (λ p. refl) (λ v. refl)

exact_versions : IsExact (List Version) versions_in (λ vs. list_form (map version_form vs)) AreVersions
unfolding versions_in
exact_versions = exact_passing (rise version_before) (exact_list exact_version)

exact_object : IsExact ((ℕ × ℕ) × List ℕ) object_in object_form IsObject
unfolding object_in
exact_object = exact_two exact_name exact_kind

exact_objects : IsExact (List ((ℕ × ℕ) × List ℕ)) (list_in object_in) (λ os. list_form (map object_form os)) (AllByRecursion IsObject)
exact_objects = exact_list exact_object

reads_page : ReadsForms (List Entry) (list_in entry_of) (IsListForm IsEntryForm) (AllByRecursion IsEntry)
reads_page = reads_list reads_entries

-- ---- refusals

first_passes : {X : Type 0} (p : X → Bool) (y : X) (others : Option X) (x : X) (b : Bool) → p y ≡ b → (others ≡ Some x → p x ≡ true) → cond b (Some y) others ≡ Some x → p x ≡ true
first_passes p y others x true is h e = let same : y ≡ x = some_is y x e in subst (λ z. p z ≡ true) same is
first_passes p y others x false is h e = h e

found_passes : {X : Type 0} (p : X → Bool) (xs : List X) (x : X) → find p xs ≡ Some x → p x ≡ true
found_passes p [] x e = absurd cc
found_passes p (y ∷ ys) x e = first_passes p y (find p ys) x (p y) refl (found_passes p ys x) e

refusal_takes : (code : ℕ) (word : List ℕ) (r : Refusal) → refusal_with code word ≡ Some r → (code ≡ code_of r) × (word ≡ word_of r)
unfolding refusal_with
refusal_takes code word r e =
    let a = bind_some (refusal_at code) (λ r. cond (bytes_eq (word_of r) word) (Some r) None) r e in
    let b = cond_some (bytes_eq (word_of a.0) word) a.0 r a.2 in
    let is : a.0 ≡ r = b.1 in
    let found : (code_of a.0 == code) ≡ true = search (found_passes (λ r. code_of r == code), a.1) in
    let same : code_of a.0 ≡ code = eqb-true (code_of a.0) code found in
    let says : word_of a.0 ≡ word = (bytes_eq-Decides (word_of a.0) word).0 b.0 in
    (sym same ∙ ap code_of is, sym says ∙ ap word_of is)

refusal_again : (r : Refusal) → refusal_fields (whole_form (code_of r) ∷ string (word_of r) ∷ []) ≡ Some r
unfolding refusal_fields refusal_with whole_in natural_in
refusal_again BadMessage = refl
refusal_again NotJoined = refl
refusal_again AlreadyJoined = refl
refusal_again NoSuchRoom = refl
refusal_again RoomFull = refl
refusal_again RecordFull = refl
refusal_again WrongSeq = refl
refusal_again OwnCount = refl
refusal_again Ahead = refl
refusal_again NotClosed = refl
refusal_again NoSuchObject = refl
refusal_again NoSuchVersion = refl
refusal_again ObjectFull = refl
refusal_again TooManyKeys = refl
refusal_again TooManyVersions = refl
refusal_again TooManyObjects = refl
refusal_again TooFar = refl
refusal_again Gone = refl
refusal_again NoSuchSite = refl
refusal_again SiteInUse = refl
refusal_again NotServed = refl
refusal_again RenewedRefusal = refl

fields_take : (ds : List Data) (r : Refusal) → refusal_fields ds ≡ Some r → Unit {0} × (ds ≡ whole_form (code_of r) ∷ string (word_of r) ∷ [])
unfolding refusal_fields
fields_take ds r e =
    let a = bind_some (field_at (whole_in 1 MAX_REFUSAL_CODE) (field_at as_str end_at) ds) (λ p. refusal_with p.0 p.1.0) r e in
    let b = (exact_field (exact_whole 1 MAX_REFUSAL_CODE) (exact_field exact_text exact_end)).takes ds a.0 a.1 in
    let c = refusal_takes a.0.0 a.0.1.0 r a.2 in
    (tt, b.1 ∙ rw (c.0, c.1) refl)

exact_refusal : AreExact Refusal refusal_fields (λ r. whole_form (code_of r) ∷ string (word_of r) ∷ []) (λ _. Unit {0})
exact_refusal = record { takes = fields_take; again = λ r fit. refusal_again r }

-- ---- the replies

abbrev IsReplyWord : List ℕ × (List Data → Option Reply) → Type 0
IsReplyWord = IsWordOf IsReplyForm IsReply

joined_word : IsReplyWord (codes "joined", joined_at)
unfolding joined_at
joined_word = word_of_fields (exact_field exact_at (exact_field exact_site exact_end)) (codes "joined") (λ p. Joined p.0 p.1.0) (λ p fit. ((fit.0, fit.1.0), refl))

returned_word : IsReplyWord (codes "back", returned_at)
unfolding returned_at
returned_word =
    word_of_fields (exact_field exact_at (exact_field exact_site (exact_field exact_at exact_end))) (codes "back")
    (λ p. Returned p.0 p.1.0 p.1.1.0) (λ p fit. ((fit.0, fit.1.0, fit.1.1.0), refl))

made_word : IsReplyWord (codes "made", made_at)
unfolding made_at
made_word = word_of_fields (exact_field exact_at (exact_field exact_name exact_end)) (codes "made") (λ p. Made p.0 p.1.0) (λ p fit. ((fit.0, fit.1.0), refl))

taken_word : IsReplyWord (codes "taken", taken_at)
unfolding taken_at
taken_word = word_of_fields (exact_field exact_at (exact_field exact_ids exact_end)) (codes "taken") (λ p. Taken p.0 p.1.0) (λ p fit. ((fit.0, fit.1.0), refl))

versions_word : IsReplyWord (codes "versions", versions_at)
unfolding versions_at
versions_word =
    word_of_fields (exact_field exact_at (exact_field exact_name (exact_field exact_kind (exact_field exact_versions exact_end)))) (codes "versions")
    (λ p. Versions p.0 p.1.0 p.1.1.0 p.1.1.1.0) (λ p fit. ((fit.0, fit.1.0, fit.1.1.0, fit.1.1.1.0), refl))

objects_word : IsReplyWord (codes "objects", objects_at)
unfolding objects_at
objects_word =
    word_of_fields (exact_field exact_at (exact_field exact_from (exact_field exact_at (exact_field exact_objects exact_end)))) (codes "objects")
    (λ p. Objects p.0 p.1.0 p.1.1.0 p.1.1.1.0) (λ p fit. ((fit.0, fit.1.0, fit.1.1.0, fit.1.1.1.0), refl))

entries_word : IsReplyWord (codes "entries", entries_at)
unfolding entries_at
entries_word = record {
  takes = λ ds r e.
      let a =
      bind_some (field_at at_in (field_at (whole_in 0 MAX_FROM) (field_at (list_in entry_of) end_at)) ds) (λ p. Some (Entries p.0 p.1.0 p.1.1.0)) r e in
      let b = field_some at_in _ ds a.0 a.1 in
      let c = field_some (whole_in 0 MAX_FROM) _ b.1 a.0.1 b.4 in
      let f = field_some (list_in entry_of) end_at c.1 a.0.1.1 c.4 in
      let at = exact_at.takes b.0 a.0.0 b.3 in
      let from = exact_from.takes c.0 a.0.1.0 c.3 in
      let page = reads_page.takes f.0 a.0.1.1.0 f.3 in
      let end = exact_end.takes f.1 a.0.1.1.1 f.4 in
      let word = string (codes "entries") in
      let last = f.2 ∙ ap (λ es. f.0 ∷ es) end.1 in
      let others = c.2 ∙ ap (λ d. d ∷ c.1) from.1 ∙ ap (λ es. whole_form a.0.1.0 ∷ es) last in
      let fields = b.2 ∙ ap (λ d. d ∷ b.1) at.1 ∙ ap (λ es. whole_form a.0.0 ∷ es) others in
      let is : list_form (word ∷ ds) ≡ list_form (word ∷ whole_form a.0.0 ∷ whole_form a.0.1.0 ∷ f.0 ∷ []) = ap (λ es. list_form (word ∷ es)) fields in
      subst (λ (s : Reply). IsReply s × IsReplyForm (list_form (word ∷ ds)) s) (some_is (Entries a.0.0 a.0.1.0 a.0.1.1.0) r a.2) ((at.0, from.0, page.0), (f.0, page.1, is));
}

left_word : IsReplyWord (codes "left", left_at)
unfolding left_at
left_word = word_of_fields (exact_field exact_at exact_end) (codes "left") (λ p. Left p.0) (λ p fit. (fit.0, refl))

notes_word : IsReplyWord (codes "notes", notes_reply_at)
unfolding notes_reply_at
notes_word = word_of_fields (exact_field exact_at (exact_field exact_notes exact_end)) (codes "notes") (λ p. Notes p.0 p.1.0) (λ p fit. ((fit.0, fit.1.0), refl))

renewed_word : IsReplyWord (codes "renewed", renewed_at)
unfolding renewed_at
renewed_word = word_of_fields (exact_field exact_at (exact_field exact_room exact_end)) (codes "renewed") (λ p. Renewed p.0 p.1.0) (λ p fit. ((fit.0, fit.1.0), refl))

no_word : IsReplyWord (codes "no", no_at)
unfolding no_at
no_word = word_of_fields (exact_field exact_at exact_refusal) (codes "no") (λ p. No p.0 p.1) (λ p fit. (fit.0, refl))

-- ---- back

-- the fields of a word, read again
again_by : (d : Data) (word : List ℕ) (ds : List Data) (r : Reply) → d ≡ list_form (string word ∷ ds) → by_word reply_words no_others word ds ≡ Some r → reply_of d ≡ Some r
unfolding reply_of
again_by d word ds r form e = ap reply_of form ∙ message_again reply_words no_others word ds ∙ e

reply_again : (d : Data) (r : Reply) → IsReplyForm d r → IsReply r → reply_of d ≡ Some r
unfolding joined_at returned_at made_at taken_at versions_at objects_at entries_at left_at notes_reply_at renewed_at no_at
reply_again d (Joined at site) form fit =
    again_by d (codes "joined") (whole_form at ∷ whole_form site ∷ []) _ form (rw (exact_at.again at fit.0, exact_site.again site fit.1) refl)
reply_again d (Returned at site seq) form fit =
    again_by d (codes "back") (whole_form at ∷ whole_form site ∷ whole_form seq ∷ []) _ form
    (rw (exact_at.again at fit.0, exact_site.again site fit.1, exact_at.again seq fit.2) refl)
reply_again d (Made at name) form fit =
    again_by d (codes "made") (whole_form at ∷ name_form name ∷ []) _ form (rw (exact_at.again at fit.0, exact_name.again name fit.1) refl)
reply_again d (Taken at ids) form fit =
    again_by d (codes "taken") (whole_form at ∷ list_form (map names_form ids) ∷ []) _ form (rw (exact_at.again at fit.0, exact_ids.again ids fit.1) refl)
reply_again d (Versions at name kind versions) form fit =
    again_by d (codes "versions") (whole_form at ∷ name_form name ∷ string kind ∷ list_form (map version_form versions) ∷ []) _ form
    (rw (exact_at.again at fit.0, exact_name.again name fit.1, exact_kind.again kind fit.2, exact_versions.again versions fit.3) refl)
reply_again d (Objects at from total objects) form fit =
    again_by d (codes "objects") (whole_form at ∷ whole_form from ∷ whole_form total ∷ list_form (map object_form objects) ∷ []) _ form
    (rw (exact_at.again at fit.0, exact_from.again from fit.1, exact_at.again total fit.2, exact_objects.again objects fit.3) refl)
reply_again d (Entries at from entries) form fit =
    again_by d (codes "entries") (whole_form at ∷ whole_form from ∷ form.0 ∷ []) _ form.2
    (rw (exact_at.again at fit.0, exact_from.again from fit.1, reads_page.again form.0 entries form.1 fit.2) refl)
reply_again d (Left at) form fit = again_by d (codes "left") (whole_form at ∷ []) _ form (rw (exact_at.again at fit) refl)
reply_again d (Notes at notes) form fit =
    again_by d (codes "notes") (whole_form at ∷ list_form (map note_form notes) ∷ []) _ form (rw (exact_at.again at fit.0, exact_notes.again notes fit.1) refl)
reply_again d (Renewed at room) form fit =
    again_by d (codes "renewed") (whole_form at ∷ string room ∷ []) _ form (rw (exact_at.again at fit.0, exact_room.again room fit.1) refl)
reply_again d (No at refusal) form fit =
    again_by d (codes "no") (whole_form at ∷ whole_form (code_of refusal) ∷ string (word_of refusal) ∷ []) _ form (rw (exact_at.again at fit, refusal_again refusal) refl)

pub reads_replies : ReadsForms Reply reply_of IsReplyForm IsReply
unfolding reply_of
reads_replies = record {
  takes = message_takes IsReplyForm IsReply reply_words no_others (joined_word, (returned_word, (made_word, (taken_word, (versions_word, (objects_word, (entries_word, (left_word, (notes_word, (renewed_word, (no_word, tt))))))))))) no_other_word;
  again = reply_again;
}
