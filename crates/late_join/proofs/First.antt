-- What is asked of an operation first, by what the past says of it.
use Rattle.std.proofs.Common.{◌≡◌, Bool, true, false, not, List, [], ◌∷◌, length, refl, sym, ap, ◌∙◌, Option, Some, cond, ◌||◌, leb}
use Rattle.std.specs.Prelude.{option_map}
use Rattle.std.proofs.lemmas.Bool.{true≢false, or_parts}
use Rattle.base_types.specs.Vectors.{is_vector}
use Rattle.rules.specs.declared.history.Op.{Op}
use Rattle.rules.specs.declared.history.Entry.{Entry}
use Rattle.rules.specs.declared.history.Entry.TheVariants.{Operation}
use Rattle.rules.specs.declared.refusal.Refusal.TheVariants.{RecordFull, WrongSeq, OwnCount, Ahead, NotClosed}
use Rattle.rules.specs.Admission.{count_at_site, first_that_applies, has_wrong_own_count}
use Rattle.rules.specs.Admission.{has_wrong_seq, is_ahead, is_not_closed}
use Rattle.rules.specs.steps.Histories.{causal_refusal}
use Rattle.rules.specs.declared.limits.LimitValues.{LimitValues}
use Rattle.rules.specs.Records.{operations}
use Rattle.late_join.specs.declared.fault.TakeFault.{TakeFault}
use Rattle.late_join.specs.declared.fault.TakeFault.TheVariants.{Repeat, Early, Refused}
use Rattle.late_join.specs.steps.Steps.{arrival_fault}
use Rattle.late_join.specs.Taking.{arriving_conditions, has_joined, is_early, is_repeat, lacks_another}
use Rattle.late_join.proofs.Taken.{IsSound, not_ahead}

module _ (b : LimitValues) (t : List Entry) (o : Op) where
  pub first_repeat : leb o.name.1 (count_at_site (operations t) o.name.0) ≡ true → arrival_fault b t o ≡ Some Repeat
  first_repeat e = rw e refl

  module _ (new : leb o.name.1 (count_at_site (operations t) o.name.0) ≡ false) where
    pub first_early : is_early t (Operation o) ≡ true → arrival_fault b t o ≡ Some Early
    first_early e = go (is_repeat t (Operation o)) (is_early t (Operation o)) (option_map Refused (first_that_applies (arriving_conditions b t o))) new e
      where
        go : (r y : Bool) (rest : Option TakeFault) → r ≡ false → y ≡ true → cond r (Some Repeat) (cond y (Some Early) rest) ≡ Some Early
        go true y rest p q = absurd (true≢false p)
        go false true rest p q = refl
        go false false rest p q = absurd (true≢false (sym q))

    module _ (early : is_early t (Operation o) ≡ false) where
      late : arrival_fault b t o ≡ option_map Refused (first_that_applies (arriving_conditions b t o))
      late = go (is_repeat t (Operation o)) (is_early t (Operation o)) (option_map Refused (first_that_applies (arriving_conditions b t o))) new early
        where
          go : (r y : Bool) (rest : Option TakeFault) → r ≡ false → y ≡ false → cond r (Some Repeat) (cond y (Some Early) rest) ≡ rest
          go true y rest p q = absurd (true≢false p)
          go false true rest p q = absurd (true≢false q)
          go false false rest p q = refl

      two : (has_wrong_seq (operations t) o.name ≡ false) × (lacks_another (operations t) o ≡ false)
      two =
          let e = or_parts (not (has_joined t o.name.0) || has_wrong_seq (operations t) o.name) (lacks_another (operations t) o) early in
          ((or_parts (not (has_joined t o.name.0)) (has_wrong_seq (operations t) o.name) e.0).1, e.1)

      pub first_full : leb b.entries (length t) ≡ true → arrival_fault b t o ≡ Some (Refused RecordFull)
      first_full e = late ∙ ap (λ f. option_map Refused (first_that_applies ((f, RecordFull) ∷ (has_wrong_own_count o.name o.seen, OwnCount) ∷ (is_not_closed (operations t) o.seen, NotClosed) ∷ []))) e

      pub first_causal : IsSound (operations t) → is_vector o.seen ≡ true → leb b.entries (length t) ≡ false → arrival_fault b t o ≡ option_map Refused (causal_refusal (operations t) o.name o.seen)
      unfolding causal_refusal
      first_causal s v room =
          late ∙ go (leb b.entries (length t)) (has_wrong_seq (operations t) o.name) (has_wrong_own_count o.name o.seen) (is_ahead (operations t) o.seen) (is_not_closed (operations t) o.seen) room two.0
          (λ own. not_ahead (operations t) o s.numbered.history s.whole v two.0 own two.1)
        where
          go : (full wrong own ahead loose : Bool) → full ≡ false → wrong ≡ false → (own ≡ false → ahead ≡ false)
              → option_map Refused (first_that_applies ((full, RecordFull) ∷ (own, OwnCount) ∷ (loose, NotClosed) ∷ []))
              ≡ option_map Refused (first_that_applies ((wrong, WrongSeq) ∷ (own, OwnCount) ∷ (ahead, Ahead) ∷ (loose, NotClosed) ∷ []))
          go true wrong own ahead loose p w f = absurd (true≢false p)
          go false true own ahead loose p w f = absurd (true≢false w)
          go false false true ahead loose p w f = refl
          go false false false true loose p w f = absurd (true≢false (f refl))
          go false false false false loose p w f = refl
