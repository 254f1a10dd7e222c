use Rattle.std.proofs.Common.{◌∙◌, ap, List}
use Rattle.std.specs.Prelude.{bytes_eq}
use Rattle.std.specs.List.{list_any}
use Rattle.rules.specs.AttrLists.{Attr}
use Rattle.rules.specs.Bodies.{pairs_of_body}
use Rattle.changes_by_key.proofs.Keyed.{any_key}
use Rattle.changes_by_key.proofs.by_key.body_gives.Goals as goal

pub returns : goal.returns
returns c =
    c.has_key.ensures
    ∙ ap (λ (pairs : List Attr). list_any (λ pair. bytes_eq c.args.key.now pair.0) pairs) c.pairs.ensures
    ∙ any_key c.args.key.now (pairs_of_body c.args.body.now)
