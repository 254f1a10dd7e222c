-- How the attributes of a put lie in memory. No public clause cites this module.
use Rattle.std.specs.Prelude.{[], ◌∷◌, List}
use Rattle.rules.specs.AttrLists.{Attr}
use Rattle.rules.specs.declared.pairs.Held.{Held}
use Rattle.rules.specs.declared.pairs.Held.TheVariants.{One, Several}

abbrev pub pairs_held : Held → List Attr
pairs_held (One pair) = pair ∷ []
pairs_held (Several pairs) = pairs.items
