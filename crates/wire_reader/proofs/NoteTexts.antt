-- The texts of requests about notes.
use Rattle.std.proofs.Common.{◌≡◌, ℕ, ◌≤◌, List, [], ◌∷◌, length, Option, Some, None, Bool, true, false, cond, refl, sym, ◌∙◌, arith, inl, inr, codes, ◌≢◌, bytes_eq}
use Rattle.std.specs.Prelude.{nat_le, ◌↔◌}
use Rattle.std.proofs.lemmas.Bool.Decides.{nat_tests}
use Rattle.std.proofs.lemmas.Slice.Eq.{bytes_eq-Decides}
use Rattle.serde_json.specs.Data.{Data, string}
use Rattle.rules.specs.declared.history.Body.{Body}
use Rattle.rules.specs.declared.history.Body.TheVariants.{New, Put, DropVersion}
use Rattle.wire.specs.declared.note.NoteRequest.TheVariants.{Set, Read}
use Rattle.wire.specs.declared.request.Request.{Request}
use Rattle.wire.specs.declared.request.Request.TheVariants.{Join, Back, Change, Show, Pull, Leave, List as ListObjects}
use Rattle.wire.specs.declared.request.TheConstants.{MAX_REQUEST_LEN}
use Rattle.wire.specs.declared.note.NoteRequest.{NoteRequest}
use Rattle.wire.specs.Form.{list_form, whole_form, name_form, names_form, WordAndFields, body_form, old_body_form, request_form_by, note_request_form, IsRequestForm, IsRequestText, IsNoteRequestText}
use Rattle.wire_reader.specs.steps.Notes.{note_request_of}
use Rattle.wire_reader.specs.steps.Reads.{text_in, note_request_read}
use Rattle.wire_reader.proofs.Exact.{some_is, same_message}
use Rattle.wire_reader.proofs.Notes.{reads_note_requests}
use Rattle.wire_reader.proofs.ByForm.{text_takes, text_again}

short_enough : (b : Bool) (o : Option NoteRequest) (q : NoteRequest) → cond b o None ≡ Some q → (b ≡ true) × (o ≡ Some q)
short_enough true o q e = (refl, e)
short_enough false o q e = absurd cc

pub note_text_takes : (bytes : List ℕ) (q : NoteRequest) → note_request_read bytes ≡ Some q → IsNoteRequestText bytes q
unfolding note_request_read
note_text_takes bytes q e =
    let a = short_enough (nat_le (length bytes) MAX_REQUEST_LEN) (text_in note_request_of bytes) q e in
    let is_short : nat_le (length bytes) MAX_REQUEST_LEN ≡ true = a.0 in
    record { short = grind (arith, nat_tests); text = text_takes reads_note_requests bytes q a.1 }

pub note_text_again : (bytes : List ℕ) (q : NoteRequest) → IsNoteRequestText bytes q → note_request_read bytes ≡ Some q
unfolding note_request_read
note_text_again bytes q h =
    let short : length bytes ≤ MAX_REQUEST_LEN = h.short in
    let is_short : nat_le (length bytes) MAX_REQUEST_LEN ≡ true = grind (arith, nat_tests) in
    rw is_short (text_again reads_note_requests bytes q h.text)

pub note_requests_by_form : (bytes : List ℕ) (q : NoteRequest) → (note_request_read bytes ≡ Some q) ↔ IsNoteRequestText bytes q
note_requests_by_form bytes q = (note_text_takes bytes q, note_text_again bytes q)

-- bytes are a text of one request about notes at most
pub one_note_request : (bytes : List ℕ) (p q : NoteRequest) → IsNoteRequestText bytes p → IsNoteRequestText bytes q → p ≡ q
one_note_request bytes p q g h = some_is p q (sym (note_text_again bytes p g) ∙ note_text_again bytes q h)

-- ---- no other request

abbrev request_word : NoteRequest → List ℕ
request_word (Set text) = codes "note"
request_word Read = codes "notes"

abbrev request_fields : NoteRequest → List Data
request_fields (Set text) = string text ∷ []
request_fields Read = []

by_parts : (p : NoteRequest) → note_request_form p ≡ list_form (string (request_word p) ∷ request_fields p)
by_parts (Set text) = refl
by_parts Read = refl

-- a word of another request
abbrev IsOther : List ℕ → Type 0
IsOther w = (bytes_eq (codes "note") w ≡ false) × (bytes_eq (codes "notes") w ≡ false)

differ : (v w : List ℕ) → bytes_eq v w ≡ false → v ≢ w
differ v w apart_by_bytes e = let same : bytes_eq v w ≡ true = (bytes_eq-Decides v w).1 e in cc

other : (p : NoteRequest) (w : List ℕ) → IsOther w → request_word p ≢ w
other (Set text) w o = differ (codes "note") w o.0
other Read w o = differ (codes "notes") w o.1

abbrev HasOther : (Body → WordAndFields) → Type 0
HasOther of_body = (body : Body) → IsOther (of_body body).0

body_other : HasOther body_form
body_other (New kind attrs) = (refl, refl)
body_other (Put object version pairs) = (refl, refl)
body_other (DropVersion object version) = (refl, refl)

old_body_other : HasOther old_body_form
old_body_other (New kind attrs) = (refl, refl)
old_body_other (Put object version []) = (refl, refl)
old_body_other (Put object version (pair ∷ [])) = (refl, refl)
old_body_other (Put object version (pair ∷ second ∷ pairs)) = (refl, refl)
old_body_other (DropVersion object version) = (refl, refl)

apart_by : (p : NoteRequest) (w : List ℕ) (ds : List Data) → IsOther w → note_request_form p ≢ list_form (string w ∷ ds)
apart_by p w ds o e = other p w o (same_message (request_word p) w (request_fields p) ds (sym (by_parts p) ∙ e)).0

apart : (of_body : Body → WordAndFields) → HasOther of_body → (p : NoteRequest) (q : Request) → note_request_form p ≢ request_form_by of_body q
apart of_body h p (Join room) = apart_by p (codes "join") (string room ∷ []) (refl, refl)
apart of_body h p (Back room site) = apart_by p (codes "back") (string room ∷ whole_form site ∷ []) (refl, refl)
apart of_body h p (Change seq seen body) = apart_by p (of_body body).0 (whole_form seq ∷ names_form seen ∷ (of_body body).1) (h body)
apart of_body h p (Show name) = apart_by p (codes "show") (name_form name ∷ []) (refl, refl)
apart of_body h p (ListObjects from) = apart_by p (codes "list") (whole_form from ∷ []) (refl, refl)
apart of_body h p (Pull from false) = apart_by p (codes "pull") (whole_form from ∷ []) (refl, refl)
apart of_body h p (Pull from true) = apart_by p (codes "wait") (whole_form from ∷ []) (refl, refl)
apart of_body h p Leave = apart_by p (codes "leave") [] (refl, refl)

apart_forms : (d : Data) (p : NoteRequest) (q : Request) → d ≡ note_request_form p → ¬ IsRequestForm d q
apart_forms d p q is (inl e) = apart body_form body_other p q (sym is ∙ e)
apart_forms d p q is (inr e) = apart old_body_form old_body_other p q (sym is ∙ e)

-- a text of a request about notes is one of no other request
pub no_other_request : (bytes : List ℕ) (p : NoteRequest) (q : Request) → IsNoteRequestText bytes p → ¬ IsRequestText bytes q
no_other_request bytes p q g h =
    let same : g.text.value ≡ h.text.value = some_is _ _ (sym g.text.is_read ∙ h.text.is_read) in
    apart_forms h.text.value p q (sym same ∙ g.text.form) h.text.form
