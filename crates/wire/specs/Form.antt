-- The JSON forms of requests, replies and entries, and of their parts.
use Rattle.std.specs.Prelude.{◌≡◌, ℕ, ◌≤◌, FitsSigned, List, [], ◌∷◌, map, length, codes, Bool}
use Rattle.std.specs.Prelude.{nat_le, true, false, Some, IsUtf8, ◌⊎◌}
use Rattle.std.specs.Int.{w64}
use Rattle.std.specs.List.{AllByRecursion}
use Rattle.serde_json.specs.Data.{Data, number, unsigned, string, array}
use Rattle.serde_json.specs.Find.{of_integer}
use Rattle.serde_json.specs.Read.{read}
use Rattle.serde_json.specs.View.{items_of}
use Rattle.base_types.specs.Names.{is_site, is_seq, is_op_name}
use Rattle.base_types.specs.VersionIds.{names_rise}
use Rattle.base_types.specs.Texts.{is_key, is_kind, is_value_text}
use Rattle.base_types.specs.RoomNames.{is_room_name}
use Rattle.base_types.specs.declared.value.Value.{Value}
use Rattle.base_types.specs.declared.value.Value.TheVariants.{Number, Text}
use Rattle.base_types.specs.Vectors.{Vector, is_vector}
use Rattle.rules.specs.AttrLists.{Attr, are_attrs, are_pairs}
use Rattle.rules.specs.declared.limits.TheConstants.Limits.{MAX_ENTRIES}
use Rattle.wire.specs.declared.request.TheConstants.{MAX_FROM, MAX_REQUEST_LEN}
use Rattle.wire.specs.declared.request.Request.{Request}
use Rattle.wire.specs.declared.request.Request.TheVariants.{Join, Back, Change, Show, Pull, Leave}
use Rattle.wire.specs.declared.request.Request.TheVariants.{List as ListObjects}
use Rattle.rules.specs.declared.history.Entry.{Entry}
use Rattle.rules.specs.declared.history.Entry.TheVariants.{Operation, Next, Join as JoinOf}
use Rattle.rules.specs.declared.history.Body.{Body}
use Rattle.rules.specs.declared.history.Body.TheVariants.{New, Put, DropVersion}
use Rattle.rules.specs.declared.version.Version.{Version}
use Rattle.rules.specs.declared.version.Shown.{Shown}
use Rattle.rules.specs.declared.version.Shown.TheVariants.{Attrs, Gone}
use Rattle.rules.specs.Refusals.{code_of, word_of}
use Rattle.wire.specs.Notes.{Note}
use Rattle.wire.specs.Rising.{rise, attr_before, id_before, site_before, version_before}
use Rattle.wire.specs.declared.reply.Reply.{Reply}
use Rattle.wire.specs.declared.reply.Reply.TheVariants.{Joined, Returned, Made, Taken, Versions}
use Rattle.wire.specs.declared.reply.Reply.TheVariants.{Objects, Entries, Left, Notes, Renewed, No}
use Rattle.wire.specs.declared.note.NoteRequest.{NoteRequest}
use Rattle.wire.specs.declared.note.NoteRequest.TheVariants as note

abbrev pub list_form : List Data → Data
list_form ds = array (items_of ds)

abbrev pub whole_form : ℕ → Data
whole_form n = number (unsigned n)

-- a list of a word and further fields
abbrev pub form : List ℕ → List Data → Data
form word fields = list_form (string word ∷ fields)

-- [SITE,SEQ] of a name, and [SITE,COUNT] of a vector
abbrev pub name_form : ℕ × ℕ → Data
name_form n = list_form (whole_form n.0 ∷ whole_form n.1 ∷ [])

-- a version identifier's names, or a vector's pairs
abbrev pub names_form : List (ℕ × ℕ) → Data
names_form ns = list_form (map name_form ns)

abbrev pub value_form : Value → Data
value_form (Number z) = number (of_integer z)
value_form (Text s) = string s

-- [KEY,VALUE]
abbrev pub attr_form : Attr → Data
attr_form p = list_form (string p.0 ∷ value_form p.1 ∷ [])

abbrev pub attrs_form : List Attr → Data
attrs_form ps = list_form (map attr_form ps)

-- ---- what is in range

abbrev pub IsValue : Value → Type 0
IsValue (Number z) = FitsSigned w64 z
IsValue (Text s) = is_value_text s ≡ true

-- a version's identifier
abbrev pub IsId : List (ℕ × ℕ) → Type 0
IsId names = AllByRecursion (λ name. is_op_name name ≡ true) names × (names_rise names ≡ true)

-- the place that a page begins at
abbrev pub is_from : ℕ → Bool
is_from from = nat_le from MAX_FROM

-- a place in the record, or a number of entries or objects
abbrev pub is_at : ℕ → Bool
is_at at = nat_le at MAX_ENTRIES

abbrev pub IsAttr : Attr → Type 0
IsAttr p = (is_key p.0 ≡ true) × IsValue p.1

-- the attributes of a creation
abbrev pub AreAttrs : List Attr → Type 0
AreAttrs attrs = AllByRecursion IsAttr attrs × (are_attrs attrs ≡ true)

-- the attributes of a put
abbrev pub ArePairs : List Attr → Type 0
ArePairs pairs = AllByRecursion IsAttr pairs × (are_pairs pairs ≡ true)

-- ---- operations and requests

-- the word that an operation begins with, and the fields after what its author had seen
abbrev pub WordAndFields : Type 0
WordAndFields = List ℕ × List Data

-- what an operation does, as it is written
abbrev pub body_form : Body → WordAndFields
body_form (New kind attrs) = (codes "new", string kind ∷ attrs_form attrs ∷ [])
body_form (Put object version pairs) =
    (codes "put", name_form object ∷ names_form version ∷ attrs_form pairs ∷ [])
body_form (DropVersion object version) = (codes "drop", name_form object ∷ names_form version ∷ [])

-- the old form: in a put of one pair its key and its value are in no list
abbrev pub old_body_form : Body → WordAndFields
old_body_form (Put object version (pair ∷ [])) =
    (codes "set", name_form object ∷ names_form version ∷ string pair.0 ∷ value_form pair.1 ∷ [])
old_body_form body = body_form body

abbrev pub IsBody : Body → Type 0
IsBody (New kind attrs) = (is_kind kind ≡ true) × AreAttrs attrs
IsBody (Put object version pairs) = (is_op_name object ≡ true) × IsId version × ArePairs pairs
IsBody (DropVersion object version) = (is_op_name object ≡ true) × IsId version

-- an operation: its name or its number, what its author had seen, and what it does
abbrev pub operation_form : Data → Vector → WordAndFields → Data
operation_form head seen does = form does.0 (head ∷ names_form seen ∷ does.1)

-- the form of a request, with bodies in these forms
abbrev pub request_form_by : (Body → WordAndFields) → Request → Data
request_form_by of_body (Join room) = form (codes "join") (string room ∷ [])
request_form_by of_body (Back room site) = form (codes "back") (string room ∷ whole_form site ∷ [])
request_form_by of_body (Change seq seen body) = operation_form (whole_form seq) seen (of_body body)
request_form_by of_body (Show name) = form (codes "show") (name_form name ∷ [])
request_form_by of_body (ListObjects from) = form (codes "list") (whole_form from ∷ [])
request_form_by of_body (Pull from false) = form (codes "pull") (whole_form from ∷ [])
request_form_by of_body (Pull from true) = form (codes "wait") (whole_form from ∷ [])
request_form_by of_body Leave = form (codes "leave") []

abbrev pub IsRequest : Request → Type 0
IsRequest (Join room) = is_room_name room ≡ true
IsRequest (Back room site) = (is_room_name room ≡ true) × (is_site site ≡ true)
IsRequest (Change seq seen body) = (is_seq seq ≡ true) × (is_vector seen ≡ true) × IsBody body
IsRequest (Show name) = is_op_name name ≡ true
IsRequest (ListObjects from) = is_from from ≡ true
IsRequest (Pull from waits) = is_from from ≡ true
IsRequest Leave = Unit {0}

-- the JSON value is a form of x: the one that is written, or the old one
abbrev pub IsFormBy : {X : Type 0} → ((Body → WordAndFields) → X → Data) → Data → X → Type 0
IsFormBy form_by d x = (d ≡ form_by body_form x) ⊎ (d ≡ form_by old_body_form x)

abbrev pub IsRequestForm : Data → Request → Type 0
IsRequestForm = IsFormBy request_form_by

-- the bytes are UTF-8 that is read as a form of x, with any white space and escapes
pub record IsTextOf {X : Type 0} (IsForm : Data → X → Type 0) (Fits : X → Type 0)
    (bytes : List ℕ) (x : X) : Type 0 where
  pub utf8 : IsUtf8 bytes
  pub value : Data
  pub is_read : read bytes ≡ Some value
  pub form : IsForm value x
  pub in_range : Fits x

pub record IsRequestText (bytes : List ℕ) (q : Request) : Type 0 where
  pub short : length bytes ≤ MAX_REQUEST_LEN
  pub text : IsTextOf IsRequestForm IsRequest bytes q

abbrev pub note_request_form : NoteRequest → Data
note_request_form (note.Set text) = form (codes "note") (string text ∷ [])
note_request_form note.Read = form (codes "notes") []

abbrev pub IsNoteRequest : NoteRequest → Type 0
IsNoteRequest (note.Set text) = is_value_text text ≡ true
IsNoteRequest note.Read = Unit {0}

pub record IsNoteRequestText (bytes : List ℕ) (q : NoteRequest) : Type 0 where
  pub short : length bytes ≤ MAX_REQUEST_LEN
  pub text : IsTextOf (λ d q. d ≡ note_request_form q) IsNoteRequest bytes q

-- ---- entries and replies

abbrev pub shown_form : Shown → Data
shown_form (Attrs attrs) = attrs_form attrs
shown_form Gone = string (codes "gone")

abbrev pub version_form : Version → Data
version_form v = list_form (names_form v.id ∷ shown_form v.shown ∷ [])

abbrev pub object_form : (ℕ × ℕ) × List ℕ → Data
object_form o = list_form (name_form o.0 ∷ string o.1 ∷ [])

abbrev pub note_form : Note → Data
note_form n = list_form (whole_form n.0 ∷ string n.1 ∷ [])

-- the form of a record's entry, with bodies in these forms
abbrev pub entry_form_by : (Body → WordAndFields) → Entry → Data
entry_form_by of_body (JoinOf site) = form (codes "join") (whole_form site ∷ [])
entry_form_by of_body (Operation o) = operation_form (name_form o.name) o.seen (of_body o.body)
entry_form_by of_body (Next count) = form (codes "next") (whole_form count ∷ [])

-- the form in which an entry is written
abbrev pub entry_form : Entry → Data
entry_form = entry_form_by body_form

abbrev pub IsEntryForm : Data → Entry → Type 0
IsEntryForm = IsFormBy entry_form_by

abbrev pub IsEntry : Entry → Type 0
IsEntry (JoinOf site) = is_site site ≡ true
IsEntry (Operation o) = (is_op_name o.name ≡ true) × (is_vector o.seen ≡ true) × IsBody o.body
IsEntry (Next count) = is_at count ≡ true

abbrev pub IsEntryText : List ℕ → Entry → Type 0
IsEntryText = IsTextOf IsEntryForm IsEntry

-- these JSON values are forms of these, one of each
abbrev pub AreForms : {X : Type 0} → (Data → X → Type 0) → List Data → List X → Type 0
AreForms IsForm [] [] = Unit {0}
AreForms IsForm (d ∷ ds) (x ∷ xs) = IsForm d x × AreForms IsForm ds xs
AreForms IsForm _ _ = ⊥

-- the JSON value is a list of forms of these
abbrev pub IsListForm : {X : Type 0} → (Data → X → Type 0) → Data → List X → Type 0
IsListForm IsForm d xs = (ds : List Data) × AreForms IsForm ds xs × (d ≡ list_form ds)

-- the form in which a reply is written: its word, the number of entries before the call, and more
abbrev pub reply_form : Reply → Data
reply_form (Joined at site) = form (codes "joined") (whole_form at ∷ whole_form site ∷ [])
reply_form (Returned at site seq) =
    form (codes "back") (whole_form at ∷ whole_form site ∷ whole_form seq ∷ [])
reply_form (Made at name) = form (codes "made") (whole_form at ∷ name_form name ∷ [])
reply_form (Taken at ids) =
    form (codes "taken") (whole_form at ∷ list_form (map names_form ids) ∷ [])
reply_form (Versions at name kind versions) = form (codes "versions")
    (whole_form at ∷ name_form name ∷ string kind ∷ list_form (map version_form versions) ∷ [])
reply_form (Objects at from total objects) = form (codes "objects")
    (whole_form at ∷ whole_form from ∷ whole_form total ∷ list_form (map object_form objects) ∷ [])
reply_form (Entries at from entries) = form (codes "entries")
    (whole_form at ∷ whole_form from ∷ list_form (map entry_form entries) ∷ [])
reply_form (Left at) = form (codes "left") (whole_form at ∷ [])
reply_form (Notes at notes) =
    form (codes "notes") (whole_form at ∷ list_form (map note_form notes) ∷ [])
reply_form (Renewed at room) = form (codes "renewed") (whole_form at ∷ string room ∷ [])
reply_form (No at refusal) = form (codes "no")
    (whole_form at ∷ whole_form (code_of refusal) ∷ string (word_of refusal) ∷ [])

-- the form that is written, but that entries of a page may have their old forms
abbrev pub IsReplyForm : Data → Reply → Type 0
IsReplyForm d (Entries at from entries) =
    (page : Data) × IsListForm IsEntryForm page entries
    × (d ≡ form (codes "entries") (whole_form at ∷ whole_form from ∷ page ∷ []))
IsReplyForm d reply = d ≡ reply_form reply

-- the attributes of a version
abbrev pub AreShown : List Attr → Type 0
AreShown attrs = AllByRecursion IsAttr attrs × (rise attr_before attrs ≡ true)

abbrev pub IsShown : Shown → Type 0
IsShown (Attrs attrs) = AreShown attrs
IsShown Gone = Unit {0}

abbrev pub IsVersion : Version → Type 0
IsVersion v = IsId v.id × IsShown v.shown

abbrev pub AreVersions : List Version → Type 0
AreVersions versions = AllByRecursion IsVersion versions × (rise version_before versions ≡ true)

abbrev pub AreIds : List (List (ℕ × ℕ)) → Type 0
AreIds ids = AllByRecursion IsId ids × (rise id_before ids ≡ true)

abbrev pub IsObject : (ℕ × ℕ) × List ℕ → Type 0
IsObject o = (is_op_name o.0 ≡ true) × (is_kind o.1 ≡ true)

abbrev pub IsNote : Note → Type 0
IsNote n = (is_site n.0 ≡ true) × (is_value_text n.1 ≡ true)

abbrev pub AreNotes : List Note → Type 0
AreNotes notes = AllByRecursion IsNote notes × (rise site_before notes ≡ true)

abbrev pub IsReply : Reply → Type 0
IsReply (Joined at site) = (is_at at ≡ true) × (is_site site ≡ true)
IsReply (Returned at site seq) = (is_at at ≡ true) × (is_site site ≡ true) × (is_at seq ≡ true)
IsReply (Made at name) = (is_at at ≡ true) × (is_op_name name ≡ true)
IsReply (Taken at ids) = (is_at at ≡ true) × AreIds ids
IsReply (Versions at name kind versions) =
    (is_at at ≡ true) × (is_op_name name ≡ true) × (is_kind kind ≡ true) × AreVersions versions
IsReply (Objects at from total objects) =
    (is_at at ≡ true) × (is_from from ≡ true) × (is_at total ≡ true)
    × AllByRecursion IsObject objects
IsReply (Entries at from entries) = (is_at at ≡ true) × (is_from from ≡ true)
    × AllByRecursion IsEntry entries
IsReply (Left at) = is_at at ≡ true
IsReply (Notes at notes) = (is_at at ≡ true) × AreNotes notes
IsReply (Renewed at room) = (is_at at ≡ true) × (is_room_name room ≡ true)
IsReply (No at refusal) = is_at at ≡ true

abbrev pub IsReplyText : List ℕ → Reply → Type 0
IsReplyText = IsTextOf IsReplyForm IsReply
