-- What follows the end of a record.
use Rattle.std.proofs.Common.{◌≡◌, ℕ, Bool, true, false, ◌||◌, List, [], ◌∷◌, ◌++◌, append_assoc, refl, sym, ◌∙◌, subst}
use Rattle.std.proofs.lemmas.Bool.{true≢false}
use Rattle.rules.specs.declared.history.Entry.{Entry}
use Rattle.rules.specs.declared.history.Entry.TheVariants.{Next}
use Rattle.rules.specs.declared.limits.LimitValues.{LimitValues}
use Rattle.rules.specs.Records.{admits, has_ended, IsLegal, EachAfter}
use Rattle.rules.proofs.Conditions.{open_if_admitted}
use Rattle.rules.proofs.Records.{admitted_at, has_ended-push}

or-true : (b : Bool) → (b || true) ≡ true
or-true true = refl
or-true false = refl

-- a record in which an end stands last has ended
pub ended_so : (q : List Entry) (count : ℕ) → has_ended (q ++ Next count ∷ []) ≡ true
ended_so q count = has_ended-push q (Next count) ∙ or-true (has_ended q)

pub nothing_after : (b : LimitValues) (q s : List Entry) (count : ℕ) → IsLegal b (q ++ Next count ∷ s) → s ≡ []
nothing_after b q [] count legal = refl
nothing_after b q (e ∷ s) count legal =
    let front = q ++ Next count ∷ [] in
    let a : admits b front e ≡ true = admitted_at b [] front e s (subst (EachAfter (admits b) []) (sym (append_assoc q (Next count ∷ []) (e ∷ s))) legal) in
    absurd (true≢false (sym (ended_so q count) ∙ (open_if_admitted b front e a).0))
