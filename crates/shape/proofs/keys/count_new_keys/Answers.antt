use Rattle.std.proofs.Common.{◌+◌, Bool, List, not, bytes_eq, ◌∙◌, ap, sym, arith}
use Rattle.std.specs.List.{count_by, list_any}
use Rattle.std.proofs.lemmas.List.{take_all}
use Rattle.std.proofs.lemmas.List.Sums.{count_by_more_no, count_by_more_yes}
use Rattle.rules.specs.declared.history.Op.{Op}
use Rattle.rules.specs.AttrLists.{Attr}
use Rattle.rules.specs.Versions.{keys_of}
use Rattle.shape.proofs.KeyCounts.{any_key}
use Rattle.shape.proofs.keys.count_new_keys.Goals as goal
use Rattle.shape.proofs.keys.count_new_keys.Goals.{then-not-has_key, else-not-has_key}

pub loop-at-preserved : goal.loop-at-preserved
loop-at-preserved c =
    let k : List Op = c.args.changes.now.ops in
    let pairs : List Attr = c.args.pairs.now in
    let is_new : Attr → Bool = λ pair. not (list_any (bytes_eq pair.0) (keys_of k)) in
    let pair = c.index-pairs-at.result in
    let some = c.loop-at-test.true in
    let has = c.has_key.ensures ∙ any_key k pair.0 in
    let here = sym (ap is_new c.index-pairs-at.is) ∙ ap not (sym has) in
    let few = c.loop-at.invariant.1 in
    elim c.if-not-has_key.branch [
      | then-not-has_key w ↦ (
        w.count-is ∙ ap (λ n. n + 1) c.loop-at.invariant.0
            ∙ sym (count_by_more_yes is_new pairs c.loop-at.at pair some (here ∙ ap not w.if-not-has_key.true)),
        let more = w.count-is in omega (arith, few, more),
      )
      | else-not-has_key w ↦ (
        w.count-is ∙ c.loop-at.invariant.0
            ∙ sym (count_by_more_no is_new pairs c.loop-at.at pair some (here ∙ ap not w.if-not-has_key.false)),
        let same = w.count-is in omega (arith, few, same),
      )
    ]

pub returns : goal.returns
returns c =
    let is_new : Attr → Bool = λ pair. not (list_any (bytes_eq pair.0) (keys_of c.args.changes.now.ops)) in
    let all = c.loop-at-test.false in
    c.loop-at.invariant.0 ∙ ap (count_by is_new) (take_all c.loop-at.at c.args.pairs.now (omega (arith, all)))
