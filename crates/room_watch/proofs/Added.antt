-- The lines of one more entry.
use Rattle.std.proofs.Common.{◌≡◌, ℕ, ◌+◌, ◌<◌, List, [], ◌∷◌, ◌++◌, length, get_or, map, take, sym, ap, ◌∙◌, append-nil, append_assoc}
use Rattle.std.proofs.lemmas.List.{map-append, take_more}
use Rattle.rules.specs.declared.history.Entry.{Entry}
use Rattle.room_watch.specs.steps.Lines.{added_line, added_lines}

pub added_more : (r xs : List Entry) (e : Entry) → added_lines r (xs ++ e ∷ []) ≡ added_lines r xs ++ added_line (r ++ xs) e
added_more r [] e = append-nil (added_line r e) ∙ ap (λ t. added_line t e) (sym (append-nil r))
added_more r (x ∷ xs) e =
    let more = added_more (r ++ x ∷ []) xs e in
    let same : added_line ((r ++ x ∷ []) ++ xs) e ≡ added_line (r ++ x ∷ xs) e = ap (λ t. added_line t e) (append_assoc r (x ∷ []) xs) in
    ap (λ l. added_line r x ++ l) (more ∙ ap (λ l. added_lines (r ++ x ∷ []) xs ++ l) same)
    ∙ sym (append_assoc (added_line r x) (added_lines (r ++ x ∷ []) xs) (added_line (r ++ x ∷ xs) e))
