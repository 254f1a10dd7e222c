-- What the reader of replies reads from a JSON value.
use Rattle.std.specs.Prelude.{ℕ, List, [], ◌∷◌, codes, Option, Some, None, bytes_eq, if◌then◌else◌}
use Rattle.serde_json.specs.Data.{Data}
use Rattle.serde_json.specs.Find.{as_str}
use Rattle.rules.specs.AttrLists.{Attr}
use Rattle.rules.specs.Refusals.{word_of}
use Rattle.rules.specs.steps.Codes.{refusal_at}
use Rattle.base_types.specs.declared.op_name.TheConstants.{MAX_SITE}
use Rattle.rules.specs.declared.limits.TheConstants.Limits.{MAX_ENTRIES}
use Rattle.rules.specs.declared.refusal.Refusal.{Refusal}
use Rattle.rules.specs.declared.refusal.TheConstants.{MAX_REFUSAL_CODE}
use Rattle.rules.specs.declared.version.Version.{Version}
use Rattle.rules.specs.declared.version.Shown.{Shown}
use Rattle.rules.specs.declared.version.Shown.TheVariants.{Attrs, Gone}
use Rattle.wire.specs.declared.request.TheConstants.{MAX_FROM}
use Rattle.wire.specs.declared.reply.Reply.{Reply}
use Rattle.wire.specs.declared.reply.Reply.TheVariants.{Joined, Returned, Made, Taken, Versions}
use Rattle.wire.specs.declared.reply.Reply.TheVariants.{Objects, Entries, Left, Notes, Renewed, No}
use Rattle.wire.specs.Rising.{rise, attr_before, id_before, version_before}
use Rattle.wire_reader.specs.steps.Reading.{◌>>=◌, passing, list_in, two_in, end_at, field_at}
use Rattle.wire_reader.specs.steps.Reading.{whole_in, name_in, all_in, id_in, kind_in, attr_in, room_in}
use Rattle.wire_reader.specs.steps.Reading.{Words, no_others, worded_message_in}
use Rattle.wire_reader.specs.steps.Entries.{entry_of}
use Rattle.wire_reader.specs.steps.Notes.{notes_in}

-- a place in the record, or a number of entries or objects
unfoldable pub at_in : Data → Option ℕ
at_in = whole_in 0 MAX_ENTRIES

-- the identifiers of an object's versions
unfoldable pub ids_in : Data → Option (List (List (ℕ × ℕ)))
ids_in = passing (rise id_before) (list_in id_in)

-- the attributes of a version
unfoldable pub shown_attrs_in : Data → Option (List Attr)
shown_attrs_in = passing (rise attr_before) (list_in attr_in)

-- the attributes of a version, of the values that a list has
unfoldable pub shown_attrs_at : List Data → Option (List Attr)
shown_attrs_at ds =
    all_in attr_in ds >>= λ attrs. if rise attr_before attrs then Some attrs else None

-- what is shown of a version, by whether it is a text
abbrev gone_or_attrs : Option (List ℕ) → Data → Option Shown
gone_or_attrs (Some word) d = if bytes_eq word (codes "gone") then Some Gone else None
gone_or_attrs None d = shown_attrs_in d >>= λ attrs. Some (Attrs attrs)

-- what is shown of a version
unfoldable pub shown_in : Data → Option Shown
shown_in d = gone_or_attrs (as_str d) d

-- a version
unfoldable pub version_in : Data → Option Version
version_in d = two_in id_in shown_in d >>= λ p. Some (record { id = p.0; shown = p.1 })

-- the versions of an object
unfoldable pub versions_in : Data → Option (List Version)
versions_in = passing (rise version_before) (list_in version_in)

-- an object with its kind
unfoldable pub object_in : Data → Option ((ℕ × ℕ) × List ℕ)
object_in = two_in name_in kind_in

-- what follows "joined"
unfoldable pub joined_at : List Data → Option Reply
joined_at ds =
    field_at at_in (field_at (whole_in 1 MAX_SITE) end_at) ds >>= λ p. Some (Joined p.0 p.1.0)

-- what follows "back"
unfoldable pub returned_at : List Data → Option Reply
returned_at ds =
    field_at at_in (field_at (whole_in 1 MAX_SITE) (field_at at_in end_at)) ds >>= λ p.
    Some (Returned p.0 p.1.0 p.1.1.0)

-- what follows "made"
unfoldable pub made_at : List Data → Option Reply
made_at ds = field_at at_in (field_at name_in end_at) ds >>= λ p. Some (Made p.0 p.1.0)

-- what follows "taken"
unfoldable pub taken_at : List Data → Option Reply
taken_at ds = field_at at_in (field_at ids_in end_at) ds >>= λ p. Some (Taken p.0 p.1.0)

-- what follows "versions"
unfoldable pub versions_at : List Data → Option Reply
versions_at ds =
    field_at at_in (field_at name_in (field_at kind_in (field_at versions_in end_at))) ds
    >>= λ p. Some (Versions p.0 p.1.0 p.1.1.0 p.1.1.1.0)

-- what follows "objects"
unfoldable pub objects_at : List Data → Option Reply
objects_at ds =
    field_at at_in
    (field_at (whole_in 0 MAX_FROM) (field_at at_in (field_at (list_in object_in) end_at))) ds
    >>= λ p. Some (Objects p.0 p.1.0 p.1.1.0 p.1.1.1.0)

-- what follows "entries"
unfoldable pub entries_at : List Data → Option Reply
entries_at ds =
    field_at at_in (field_at (whole_in 0 MAX_FROM) (field_at (list_in entry_of) end_at)) ds
    >>= λ p. Some (Entries p.0 p.1.0 p.1.1.0)

-- what follows "left"
unfoldable pub left_at : List Data → Option Reply
left_at ds = field_at at_in end_at ds >>= λ p. Some (Left p.0)

-- what follows "notes"
unfoldable pub notes_reply_at : List Data → Option Reply
notes_reply_at ds = field_at at_in (field_at notes_in end_at) ds >>= λ p. Some (Notes p.0 p.1.0)

-- what follows "renewed"
unfoldable pub renewed_at : List Data → Option Reply
renewed_at ds = field_at at_in (field_at room_in end_at) ds >>= λ p. Some (Renewed p.0 p.1.0)

-- the refusal of this number and word
unfoldable pub refusal_with : ℕ → List ℕ → Option Refusal
refusal_with code word =
    refusal_at code >>= λ refusal. if bytes_eq (word_of refusal) word then Some refusal else None

-- a number and a word of one refusal
unfoldable pub refusal_fields : List Data → Option Refusal
refusal_fields ds =
    field_at (whole_in 1 MAX_REFUSAL_CODE) (field_at as_str end_at) ds >>= λ p.
    refusal_with p.0 p.1.0

-- what follows "no"
unfoldable pub no_at : List Data → Option Reply
no_at ds = field_at at_in refusal_fields ds >>= λ p. Some (No p.0 p.1)

-- the words of the last replies
abbrev pub other_words : Words Reply
other_words =
    (codes "objects", objects_at) ∷ (codes "entries", entries_at)
    ∷ (codes "left", left_at) ∷ (codes "notes", notes_reply_at)
    ∷ (codes "renewed", renewed_at) ∷ (codes "no", no_at) ∷ []

abbrev pub reply_words : Words Reply
reply_words =
    (codes "joined", joined_at) ∷ (codes "back", returned_at) ∷ (codes "made", made_at)
    ∷ (codes "taken", taken_at) ∷ (codes "versions", versions_at) ∷ other_words

-- the reply that a JSON value is a form of
unfoldable pub reply_of : Data → Option Reply
reply_of = worded_message_in reply_words no_others
