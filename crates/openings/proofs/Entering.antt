-- The exchange that enters a room keeps the rule.
use Rattle.std.proofs.Common.{◌≡◌, ℕ, ◌+◌, ◌<◌, ◌==◌, Bool, true, false, List, [], ◌∷◌, ◌++◌, length, refl, ap, sym, subst, arith, inl, length-append, None}
use Rattle.std.proofs.lemmas.List.{append-nil}
use Rattle.std.proofs.lemmas.Bool.Decides.{nat_tests}
use mathlib.Core.List.{IsPrefix}
use prog.Atomic.{either}
use Rattle.logbook.specs.Pages.{Cell, cell, keeps, no_nib, step, Moves, Goes}
use Rattle.shared_history.proofs.Prefixes.{prefix_whole}
use Rattle.openings.specs.Openings.{Opened}
use Rattle.openings.specs.steps.Rules.{CountsOpenings, Enters}

abbrev pub shown : List Opened → List Opened
shown log = []

abbrev pub moved : List Opened → List Opened → ℕ → Type 0
moved xs ys n = Unit {0}

pub enters_goes : (log v : List Opened) (e : Opened) (old : ℕ) → length v ≡ old → IsPrefix v log
    → (b : Bool) → (length log == old) ≡ b
    → Goes CountsOpenings shown moved 0 (v, (no_nib, None)) (λ n. either (n == old) (old + 1) n) (Enters (step 0 old (old + 1) e) (v, (no_nib, None))) ((length log, true) ∷ (0, true) ∷ []) log
enters_goes log v e old len pre true is =
    let here : length log ≡ old = grind (arith, nat_tests) in
    let same : v ≡ log = prefix_whole v log pre (omega arith) in
    let n : either (length log == old) (old + 1) (length log) ≡ length (log ++ e ∷ []) = rw is (omega (arith, length-append log (e ∷ []))) in (
      keeps,
      e ∷ [],
      None,
      tt,
      ap (λ (k : ℕ). (k, true) ∷ (0, true) ∷ []) n,
      inl (refl, refl),
      rw is (ap (λ w. w ++ e ∷ []) (sym same)),
    )
enters_goes log v e old len pre false is =
    let all : log ++ [] ≡ log = append-nil log in
    let n : either (length log == old) (old + 1) (length log) ≡ length (log ++ []) = rw is (ap length (sym all)) in (
      keeps,
      [],
      None,
      tt,
      ap (λ (k : ℕ). (k, true) ∷ (0, true) ∷ []) n,
      inl (refl, refl),
      rw is tt,
    )

-- whatever the book is, the exchange enters the room behind all that was seen, or enters nothing
pub enters_moves : (v : List Opened) (e : Opened) (old : ℕ) → length v ≡ old
    → Moves CountsOpenings shown moved 0 (v, (no_nib, None)) (λ n. either (n == old) (old + 1) n) (Enters (step 0 old (old + 1) e) (v, (no_nib, None)))
enters_moves v e old len cs log counted pre away =
    let P : List Cell → Type 0 = λ c. (0 < length c) × ((cell c 0).1 ≡ true) × Goes CountsOpenings shown moved 0 (v, (no_nib, None)) (λ n. either (n == old) (old + 1) n) (Enters (step 0 old (old + 1) e) (v, (no_nib, None))) c log in
    subst P (sym counted) (omega arith, refl, enters_goes log v e old len pre (length log == old) refl)
