-- Texts that stand for themselves between quotes.
use Rattle.std.proofs.Common.{◌≡◌, ℕ, true, List, [], ◌∷◌, ◌++◌, refl, sym, ap, ◌∙◌, append_assoc, arith}
use Rattle.std.specs.List.{list_all}
use Rattle.std.proofs.lemmas.Bool.{and_parts}
use Rattle.std.proofs.lemmas.Bool.Decides.{nat_tests}
use Rattle.json.specs.Print.{escape, escape_byte, quoted}
use Rattle.wire.specs.steps.Quoting.{is_plain_byte}

plain_byte : (x : ℕ) → is_plain_byte x ≡ true → escape_byte x ≡ x ∷ []
unfolding escape_byte
plain_byte x h = grind (arith, nat_tests)

-- such a text has no escape
escape_plain : (s : List ℕ) → list_all is_plain_byte s ≡ true → escape s ≡ s
escape_plain [] h = refl
escape_plain (x ∷ xs) h =
    let both = and_parts (is_plain_byte x) (list_all is_plain_byte xs) h in
    ap (λ s. s ++ escape xs) (plain_byte x both.0) ∙ ap (λ s. x ∷ s) (escape_plain xs both.1)

-- such a text in quotes
pub quoted_plain : (front s : List ℕ) → list_all is_plain_byte s ≡ true → ((front ++ 34 ∷ []) ++ s) ++ 34 ∷ [] ≡ front ++ quoted s
quoted_plain front s h =
    append_assoc (front ++ 34 ∷ []) s (34 ∷ []) ∙ append_assoc front (34 ∷ []) (s ++ 34 ∷ []) ∙ ap (λ e. front ++ 34 ∷ (e ++ 34 ∷ [])) (sym (escape_plain s h))
