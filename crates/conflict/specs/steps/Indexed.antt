-- What is stored with the changes on an object, so that they are found.
use Rattle.std.specs.Prelude.{List}
use Rattle.rules.specs.declared.history.Op.{Op}
use Rattle.changes_by_site.specs.steps.Indexes.{SiteIndex, AreBySite}
use Rattle.changes_by_key.specs.steps.Indexes.{KeyIndex, AreByKey}

-- the places of the first changes by site and by key
pub record AreIndexed (k : List Op) (sites : SiteIndex) (keys : KeyIndex) : Type 0 where
  pub by_site : AreBySite k sites
  pub by_key : AreByKey k keys
