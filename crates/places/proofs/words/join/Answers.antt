use Rattle.std.proofs.Common.{◌≡◌, ◌+◌, ◌∙◌, sym, ap, subst, length, get_or, set, List, ℕ, arith}
use Rattle.std.proofs.Math.ListN.{length-set}
use Rattle.std.specs.Prelude.{bit_or}
use Rattle.rules.proofs.Lists.{written}
use Rattle.places.proofs.WordPlaces.{JoinedBelow, joined_more, joined_all, places_in_joined}
use Rattle.places.proofs.words.join.Goals as goal

pub loop-at-preserved : goal.loop-at-preserved
loop-at-preserved c =
    let old : List ℕ = c.loop-at.words.items in
    let lent : List ℕ = c.deref_mut.result.now in
    let same : lent ≡ old = c.deref_mut.ensures.value in
    let at : ℕ = c.loop-at.at in
    let put : List ℕ = set lent at (bit_or (get_or lent at 0) (get_or c.args.others.now at 0)) in
    let kept : length put ≡ length old = length-set lent at _ ∙ ap length same in
    subst (λ (w : List ℕ). JoinedBelow c.args.words.now.items c.args.others.now w (at + 1)) (sym (written old put kept))
    (joined_more c.args.words.now.items c.args.others.now old at (omega arith) c.loop-at.invariant put
    (λ i. set (same i) at (bit_or (get_or (same i) at 0) (get_or c.args.others.now at 0))))

pub returns-clause-ok : goal.returns-clause-ok
returns-clause-ok c =
    let all = joined_all c.args.words.now.items c.args.others.now c.loop-at.words.items c.loop-at.at (omega arith) c.loop-at.invariant in
    places_in_joined c.args.words.now.items c.args.others.now c.loop-at.words.items all.0 all.1
