use Rattle.std.proofs.Common.{◌∙◌, ◌+◌, sym, ap, subst, List, map}
use Rattle.std.specs.Prelude.{bytes_eq}
use Rattle.std.specs.List.{list_any}
use Rattle.rules.specs.AttrLists.{Attr}
use Rattle.changes_by_key.specs.steps.Indexes.{of_key}
use Rattle.changes_by_key.proofs.Keyed.{IsLeftOrUnder, given_at, one_key_more}
use Rattle.changes_by_key.proofs.by_key.ByKey.insert_all.Goals as goal

pub insert-requires-clause-given : goal.insert-requires-clause-given
insert-requires-clause-given c =
    let pair = c.index-pairs-at.result in
    ap (of_key c.args.ops.now pair.0) c.loop-at.invariant.len
    ∙ ap (λ (pairs : List Attr). list_any (bytes_eq pair.0) (map (λ attr. attr.0) pairs)) (sym c.requires.pairs)
    ∙ given_at c.args.pairs.now c.loop-at.at pair c.loop-at-test.true c.index-pairs-at.is

pub loop-at-preserved : goal.loop-at-preserved
loop-at-preserved c =
    let pairs = c.args.pairs.now in
    let i = c.loop-at.at in
    let old = c.loop-at.self in
    let new = c.insert.new.self in
    record {
      are = c.insert.ensures.keys;
      len = c.insert.ensures.len ∙ c.loop-at.invariant.len;
      keys = λ key t. subst (λ n. IsLeftOrUnder pairs new.keys n (i + 1) key) (sym c.insert.ensures.len)
          (one_key_more pairs i c.index-pairs-at.result old.keys new.keys old.len c.loop-at-test.true c.index-pairs-at.is
          c.insert.ensures.kept c.in_ok-insert.ensures.there key (c.loop-at.invariant.keys key t));
    }
