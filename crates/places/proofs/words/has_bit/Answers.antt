use Rattle.std.proofs.Common.{◌∙◌, sym, ap, eqb, ◌%◌}
use Rattle.std.proofs.lemmas.Nat.Bits.{shr_and_one}
use Rattle.std.specs.Int.{bit_at}
use Rattle.places.proofs.WordPlaces.{has-places_in}
use Rattle.places.specs.steps.Words.{has_bit}
use Rattle.places.proofs.words.has_bit.Goals as goal

pub returns : goal.returns
unfolding has_bit
returns c =
    ap (λ v. eqb v 1) (shr_and_one c.word.result (c.args.place % 64))
    ∙ ap (λ v. eqb (bit_at v (c.args.place % 64)) 1) c.word.ensures
    ∙ sym (has-places_in c.args.words.now c.args.place)
