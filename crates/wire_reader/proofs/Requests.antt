-- The reader of requests is exact.
use Rattle.std.proofs.Common.{◌≡◌, inl, ℕ, Option, List, [], ◌∷◌, codes, Some, true, false, refl, subst, ◌∙◌}
use Rattle.serde_json.specs.Data.{Data, string}
use Rattle.base_types.specs.declared.op_name.TheConstants.{MAX_SEQ}
use Rattle.base_types.specs.Vectors.{Vector}
use Rattle.rules.specs.declared.history.Body.{Body}
use Rattle.rules.specs.declared.history.Body.TheVariants.{New, Put, DropVersion}
use Rattle.wire.specs.declared.request.Request.{Request}
use Rattle.wire.specs.declared.request.Request.TheVariants.{Join, Back, Change, Show, Pull, Leave, List as ListObjects}
use Rattle.wire.specs.Form.{list_form, whole_form, name_form, names_form, WordAndFields, body_form, old_body_form, request_form_by, IsRequest, IsRequestForm}
use Rattle.wire_reader.specs.steps.Reading.{by_word, whole_in}
use Rattle.wire_reader.specs.steps.Bodies.{operation_at}
use Rattle.wire_reader.specs.steps.Requests.{join_at, back_at, change_at, show_at, list_at, pull_at, leave_at, request_words, request_of}
use Rattle.wire_reader.proofs.Exact.{ReadsForms, bind_some, some_is, exact_end, exact_field, IsWordOf, word_of_fields, message_takes, message_again}
use Rattle.wire_reader.proofs.PartForms.{exact_seq, exact_site, exact_from, exact_name, exact_room}
use Rattle.wire_reader.proofs.Bodies.{AreReadAgain, body_again, old_body_again, operation_takes, operation_again, AreAlone, old_alone, from_any}

abbrev IsRequestWord : List ℕ × (List Data → Option Request) → Type 0
IsRequestWord = IsWordOf IsRequestForm IsRequest

join_word : IsRequestWord (codes "join", join_at)
unfolding join_at
join_word = word_of_fields (exact_field exact_room exact_end) (codes "join") (λ p. Join p.0) (λ p fit. (fit.0, inl refl))

back_word : IsRequestWord (codes "back", back_at)
unfolding back_at
back_word = word_of_fields (exact_field exact_room (exact_field exact_site exact_end)) (codes "back") (λ p. Back p.0 p.1.0) (λ p fit. ((fit.0, fit.1.0), inl refl))

change_word : (word : List ℕ) → IsRequestWord (word, change_at word)
unfolding change_at
change_word word = record {
  takes = λ ds q e.
      let a = bind_some (operation_at (whole_in 1 MAX_SEQ) word ds) (λ p. Some (Change p.0 p.1.0 p.1.1)) q e in
      let b = operation_takes exact_seq word ds a.0 a.1 in
      subst (λ (r : Request). IsRequest r × IsRequestForm (list_form (string word ∷ ds)) r) (some_is (Change a.0.0 a.0.1.0 a.0.1.1) q a.2) b;
}

show_word : IsRequestWord (codes "show", show_at)
unfolding show_at
show_word = word_of_fields (exact_field exact_name exact_end) (codes "show") (λ p. Show p.0) (λ p fit. (fit.0, inl refl))

list_word : IsRequestWord (codes "list", list_at)
unfolding list_at
list_word = word_of_fields (exact_field exact_from exact_end) (codes "list") (λ p. ListObjects p.0) (λ p fit. (fit.0, inl refl))

pull_word : IsRequestWord (codes "pull", pull_at false)
unfolding pull_at
pull_word = word_of_fields (exact_field exact_from exact_end) (codes "pull") (λ p. Pull p.0 false) (λ p fit. (fit.0, inl refl))

wait_word : IsRequestWord (codes "wait", pull_at true)
unfolding pull_at
wait_word = word_of_fields (exact_field exact_from exact_end) (codes "wait") (λ p. Pull p.0 true) (λ p fit. (fit.0, inl refl))

leave_word : IsRequestWord (codes "leave", leave_at)
unfolding leave_at
leave_word = word_of_fields exact_end (codes "leave") (λ _. Leave) (λ p fit. (tt, inl refl))

-- ---- back

-- the fields of a word, read again
again_by : (word : List ℕ) (ds : List Data) (q : Request) → by_word request_words change_at word ds ≡ Some q → request_of (list_form (string word ∷ ds)) ≡ Some q
unfolding request_of
again_by word ds q e = message_again request_words change_at word ds ∙ e

change_alone : AreAlone request_words change_at body_form
change_alone (New kind attrs) ds = refl
change_alone (Put object version pairs) ds = refl
change_alone (DropVersion object version) ds = refl

change_again : (of_body : Body → WordAndFields) → AreReadAgain of_body → (seq : ℕ) (seen : Vector) (body : Body) → IsRequest (Change seq seen body)
    → change_at (of_body body).0 (whole_form seq ∷ names_form seen ∷ (of_body body).1) ≡ Some (Change seq seen body)
unfolding change_at
change_again of_body again seq seen body fit = rw (operation_again exact_seq of_body again (seq, (seen, body)) fit.0 fit.1 fit.2) refl

request_again : (of_body : Body → WordAndFields) → AreReadAgain of_body → AreAlone request_words change_at of_body → (q : Request) → IsRequest q → request_of (request_form_by of_body q) ≡ Some q
unfolding join_at back_at show_at list_at pull_at leave_at
request_again of_body again alone (Join room) fit = again_by (codes "join") (string room ∷ []) _ (rw (exact_room.again room fit) refl)
request_again of_body again alone (Back room site) fit = again_by (codes "back") (string room ∷ whole_form site ∷ []) _ (rw (exact_room.again room fit.0, exact_site.again site fit.1) refl)
request_again of_body again alone (Change seq seen body) fit =
    let fields = whole_form seq ∷ names_form seen ∷ (of_body body).1 in
    again_by (of_body body).0 fields _ (alone body fields ∙ change_again of_body again seq seen body fit)
request_again of_body again alone (Show name) fit = again_by (codes "show") (name_form name ∷ []) _ (rw (exact_name.again name fit) refl)
request_again of_body again alone (ListObjects from) fit = again_by (codes "list") (whole_form from ∷ []) _ (rw (exact_from.again from fit) refl)
request_again of_body again alone (Pull from false) fit = again_by (codes "pull") (whole_form from ∷ []) _ (rw (exact_from.again from fit) refl)
request_again of_body again alone (Pull from true) fit = again_by (codes "wait") (whole_form from ∷ []) _ (rw (exact_from.again from fit) refl)
request_again of_body again alone Leave fit = again_by (codes "leave") [] _ refl

pub reads_requests : ReadsForms Request request_of IsRequestForm IsRequest
unfolding request_of
reads_requests = record {
  takes = message_takes IsRequestForm IsRequest request_words change_at (join_word, (back_word, (show_word, (list_word, (pull_word, (wait_word, (leave_word, tt))))))) change_word;
  again = λ d q form fit.
      from_any request_form_by request_of d q form (request_again body_form body_again change_alone q fit)
      (request_again old_body_form old_body_again (old_alone request_words change_at change_alone (λ ds. refl)) q fit);
}
