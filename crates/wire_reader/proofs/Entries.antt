-- The reader of entries is exact.
use Rattle.std.proofs.Common.{◌≡◌, inl, List, ℕ, [], ◌∷◌, codes, Option, Some, refl, subst, ◌∙◌}
use Rattle.serde_json.specs.Data.{Data, string}
use Rattle.rules.specs.declared.history.Entry.{Entry}
use Rattle.rules.specs.declared.history.Entry.TheVariants.{Operation, Join, Next}
use Rattle.rules.specs.declared.history.Op.{Op}
use Rattle.rules.specs.declared.history.Body.{Body}
use Rattle.rules.specs.declared.history.Body.TheVariants.{New, Put, DropVersion}
use Rattle.wire.specs.Form.{list_form, whole_form, name_form, names_form, WordAndFields, body_form, old_body_form, entry_form_by, IsEntry, IsEntryForm}
use Rattle.wire_reader.specs.steps.Reading.{name_in}
use Rattle.wire_reader.specs.steps.Bodies.{operation_at}
use Rattle.wire_reader.specs.steps.Entries.{entry_join_at, next_at, entry_change_at, entry_words, entry_of}
use Rattle.wire_reader.proofs.Exact.{ReadsForms, bind_some, some_is, exact_end, exact_field, IsWordOf, word_of_fields, message_takes, message_again}
use Rattle.wire_reader.proofs.PartForms.{exact_count, exact_site, exact_name}
use Rattle.wire_reader.proofs.Bodies.{AreReadAgain, body_again, old_body_again, operation_takes, operation_again, AreAlone, old_alone, from_any}

abbrev IsEntryWord : List ℕ × (List Data → Option Entry) → Type 0
IsEntryWord = IsWordOf IsEntryForm IsEntry

join_word : IsEntryWord (codes "join", entry_join_at)
unfolding entry_join_at
join_word = word_of_fields (exact_field exact_site exact_end) (codes "join") (λ p. Join p.0) (λ p fit. (fit.0, inl refl))

next_word : IsEntryWord (codes "next", next_at)
unfolding next_at
next_word = word_of_fields (exact_field exact_count exact_end) (codes "next") (λ p. Next p.0) (λ p fit. (fit.0, inl refl))

change_word : (word : List ℕ) → IsEntryWord (word, entry_change_at word)
unfolding entry_change_at
change_word word = record {
  takes = λ ds entry e.
      let a = bind_some (operation_at name_in word ds) (λ p. Some (Operation (record { name = p.0; seen = p.1.0; body = p.1.1 }))) entry e in
      let b = operation_takes exact_name word ds a.0 a.1 in
      subst (λ (f : Entry). IsEntry f × IsEntryForm (list_form (string word ∷ ds)) f) (some_is (Operation (record { name = a.0.0; seen = a.0.1.0; body = a.0.1.1 })) entry a.2) b;
}

change_alone : AreAlone entry_words entry_change_at body_form
change_alone (New kind attrs) ds = refl
change_alone (Put object version pairs) ds = refl
change_alone (DropVersion object version) ds = refl

change_again : (of_body : Body → WordAndFields) → AreReadAgain of_body → (o : Op) → IsEntry (Operation o)
    → entry_change_at (of_body o.body).0 (name_form o.name ∷ names_form o.seen ∷ (of_body o.body).1) ≡ Some (Operation o)
unfolding entry_change_at
change_again of_body again o fit = rw (operation_again exact_name of_body again (o.name, (o.seen, o.body)) fit.0 fit.1 fit.2) refl

entry_again : (of_body : Body → WordAndFields) → AreReadAgain of_body → AreAlone entry_words entry_change_at of_body → (e : Entry) → IsEntry e → entry_of (entry_form_by of_body e) ≡ Some e
unfolding entry_of entry_join_at next_at
entry_again of_body again alone (Join site) fit = message_again entry_words entry_change_at (codes "join") (whole_form site ∷ []) ∙ rw (exact_site.again site fit) refl
entry_again of_body again alone (Next count) fit = message_again entry_words entry_change_at (codes "next") (whole_form count ∷ []) ∙ rw (exact_count.again count fit) refl
entry_again of_body again alone (Operation o) fit =
    let fields = name_form o.name ∷ names_form o.seen ∷ (of_body o.body).1 in
    message_again entry_words entry_change_at (of_body o.body).0 fields ∙ alone o.body fields ∙ change_again of_body again o fit

pub reads_entries : ReadsForms Entry entry_of IsEntryForm IsEntry
unfolding entry_of
reads_entries = record {
  takes = message_takes IsEntryForm IsEntry entry_words entry_change_at (join_word, (next_word, tt)) change_word;
  again = λ d e form fit.
      from_any entry_form_by entry_of d e form (entry_again body_form body_again change_alone e fit)
      (entry_again old_body_form old_body_again (old_alone entry_words entry_change_at change_alone (λ ds. refl)) e fit);
}
