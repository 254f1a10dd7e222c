use Rattle.std.proofs.Common.{◌≡◌, ◌<◌, ◌/◌, ◌%◌, ◌*◌, ◌^◌, ℕ, ◌∙◌, refl, ap, get_or, set, arith, length, List}
use Rattle.std.proofs.Math.ListN.{length-set}
use Rattle.std.specs.Prelude.{bit_or}
use Rattle.places.specs.steps.Words.{places_in}
use Rattle.rules.proofs.Lists.{written}
use Rattle.places.proofs.WordPlaces.{put_places_in}
use Rattle.places.proofs.words.set_bit.Goals as goal

pub returns-clause-ok : goal.returns-clause-ok
returns-clause-ok c =
    let lengthened : List ℕ = c.lengthen.new.words.items in
    let lent : List ℕ = c.deref_mut.result.now in
    let at : ℕ = c.args.place / 64 in
    let put : List ℕ = set lent at (bit_or (get_or lent at 0) (1 * 2 ^ (c.args.place % 64) % 2 ^ 64)) in
    let same = c.deref_mut.ensures.value in
    let long = ap length same in
    let kept : length put ≡ length lengthened = length-set lent at _ ∙ long in
    let inside : at < length lent = omega (arith, long, c.in_ok-lengthen.ensures.len) in
    ap places_in (written lengthened put kept)
    ∙ put_places_in c.args.words.now.items lent c.args.place (get_or lent at 0)
    (λ k. ap (λ (words : List ℕ). get_or words k 0) same ∙ c.in_ok-lengthen.ensures.same k) inside refl
