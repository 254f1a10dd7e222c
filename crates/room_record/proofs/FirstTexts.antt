-- Texts of a record's first entries.
use Rattle.std.proofs.Common.{◌≡◌, ℕ, ◌+◌, ◌<◌, ◌≤◌, List, [], ◌∷◌, ◌++◌, length, get_or, map, take, drop, ap, sym, ◌∙◌, arith}
use Rattle.std.proofs.lemmas.List.{drop-take, get_or-map, length-map, length-take, length_push, map-append, take-append-le, take_more, take-take}
use Rattle.rules.specs.declared.history.Entry.{Entry}
use Rattle.wire.specs.steps.Forms.{entry_text}
use Rattle.room_record.specs.steps.Records.{AreTexts}
use Rattle.room_record.proofs.Parts.{page_seen}

-- there is an entry for each text
within : (ts : List (List ℕ)) (es : List Entry) → AreTexts ts es → length ts ≤ length (map entry_text es)
within ts es are = let fewer = ap length are ∙ length-take (length ts) (map entry_text es) in omega (arith, fewer)

-- the texts are those of a record with one more entry
pub one_more_entry : (ts : List (List ℕ)) (es : List Entry) (e : Entry) → AreTexts ts es → AreTexts ts (es ++ e ∷ [])
one_more_entry ts es e are =
    are
    ∙ sym (take-append-le (length ts) (map entry_text es) (entry_text e ∷ []) (within ts es are))
    ∙ ap (take (length ts)) (sym (map-append entry_text es (e ∷ [])))

-- and the text of the next entry may follow them
pub one_more_text : (ts : List (List ℕ)) (es : List Entry) (t : List ℕ) (e : Entry) → length ts < length es → e ≡ get_or es (length ts) e → t ≡ entry_text e → AreTexts ts es → AreTexts (ts ++ t ∷ []) es
one_more_text ts es t e less there is are =
    let texts = map entry_text es in
    let next : get_or texts (length ts) (entry_text e) ≡ t = get_or-map entry_text es (length ts) e (entry_text e) less ∙ ap entry_text (sym there) ∙ sym is in
    let more : length ts < length texts = omega (arith, less, length-map es entry_text) in
    (λ i. are i ++ sym next i ∷ [])
    ∙ sym (take_more texts (length ts) (entry_text e) more)
    ∙ ap (λ n. take n texts) (sym (length_push ts t))

-- those of a page are the texts of its entries
pub page_texts : (ts : List (List ℕ)) (es : List Entry) (from count : ℕ) → AreTexts ts es → from + count ≤ length ts → take count (drop from ts) ≡ map entry_text (take count (drop from es))
page_texts ts es from count are all =
    sym (drop-take from count ts)
    ∙ ap (λ xs. drop from (take (from + count) xs)) are
    ∙ ap (drop from) (take-take (from + count) (length ts) (map entry_text es) all)
    ∙ drop-take from count (map entry_text es)
    ∙ sym (page_seen entry_text es count from)
