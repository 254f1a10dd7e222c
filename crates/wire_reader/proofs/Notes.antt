-- The readers of notes, and of requests about them, are exact.
use Rattle.std.proofs.Common.{◌≡◌, ℕ, List, [], ◌∷◌, map, codes, true, Option, Some, refl, ap, ◌∙◌}
use Rattle.serde_json.specs.Data.{Data, string}
use Rattle.base_types.specs.Texts.{is_value_text}
use Rattle.wire.specs.Notes.{Note}
use Rattle.wire.specs.Rising.{rise, site_before}
use Rattle.wire.specs.declared.note.NoteRequest.{NoteRequest}
use Rattle.wire.specs.declared.note.NoteRequest.TheVariants.{Set, Read}
use Rattle.wire.specs.Form.{list_form, note_form, note_request_form, AreNotes, IsNote, IsNoteRequest}
use Rattle.wire_reader.specs.steps.Reading.{by_word, no_others}
use Rattle.wire_reader.specs.steps.Notes.{note_text_in, note_in, notes_in, set_at, read_at, note_words, note_request_of}
use Rattle.wire_reader.proofs.Exact.{IsExact, ReadsForms, exact_list, exact_passing, exact_two, exact_text_where, exact_end, exact_field, IsWordOf, word_of_fields, no_other_word, message_takes, message_again}
use Rattle.wire_reader.proofs.PartForms.{exact_site}

pub exact_note_text : IsExact (List ℕ) note_text_in string (λ s. is_value_text s ≡ true)
unfolding note_text_in
exact_note_text = exact_text_where is_value_text

exact_note : IsExact Note note_in note_form IsNote
unfolding note_in
exact_note = exact_two exact_site exact_note_text

pub exact_notes : IsExact (List Note) notes_in (λ notes. list_form (map note_form notes)) AreNotes
unfolding notes_in
exact_notes = exact_passing (rise site_before) (exact_list exact_note)

abbrev IsNoteForm : Data → NoteRequest → Type 0
IsNoteForm d q = d ≡ note_request_form q

abbrev IsNoteWord : List ℕ × (List Data → Option NoteRequest) → Type 0
IsNoteWord = IsWordOf IsNoteForm IsNoteRequest

set_word : IsNoteWord (codes "note", set_at)
unfolding set_at
set_word = word_of_fields (exact_field exact_note_text exact_end) (codes "note") (λ p. Set p.0) (λ p fit. (fit.0, refl))

read_word : IsNoteWord (codes "notes", read_at)
unfolding read_at
read_word = word_of_fields exact_end (codes "notes") (λ _. Read) (λ p fit. (tt, refl))

again_by : (d : Data) (word : List ℕ) (ds : List Data) (q : NoteRequest) → d ≡ list_form (string word ∷ ds) → by_word note_words no_others word ds ≡ Some q → note_request_of d ≡ Some q
unfolding note_request_of
again_by d word ds q form e = ap note_request_of form ∙ message_again note_words no_others word ds ∙ e

request_again : (d : Data) (q : NoteRequest) → IsNoteForm d q → IsNoteRequest q → note_request_of d ≡ Some q
unfolding set_at read_at
request_again d (Set text) form fit = again_by d (codes "note") (string text ∷ []) _ form (rw (exact_note_text.again text fit) refl)
request_again d Read form fit = again_by d (codes "notes") [] _ form refl

pub reads_note_requests : ReadsForms NoteRequest note_request_of IsNoteForm IsNoteRequest
unfolding note_request_of
reads_note_requests = record {
  takes = message_takes IsNoteForm IsNoteRequest note_words no_others (set_word, (read_word, tt)) no_other_word;
  again = request_again;
}
