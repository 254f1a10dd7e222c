-- The invariant of a replica.
use Rattle.std.specs.Prelude.{◌≡◌, ℕ, Bool, List, Option, Some, None, filter_map}
use Rattle.rules.specs.declared.history.Entry.{Entry}
use Rattle.rules.specs.declared.history.Entry.TheVariants.{Join}
use Rattle.rules.specs.declared.limits.LimitValues.{LimitValues}
use Rattle.rules.specs.Records.{has_ended}
use Rattle.late_join.specs.Taking.{IsTakeable}

abbrev pub site_in : Entry → Option ℕ
site_in (Join site) = Some site
site_in _ = None

-- the sites whose joins were taken, in that order
abbrev pub sites_in : List Entry → List ℕ
sites_in t = filter_map site_in t

pub record IsReplica (limits : LimitValues) (t : List Entry) (joined : List ℕ) (ended : Bool)
    : Type 0 where
  pub takeable : IsTakeable limits t
  pub joins : joined ≡ sites_in t
  pub end : ended ≡ has_ended t
