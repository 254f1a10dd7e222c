-- Limits in range.
use Rattle.std.specs.Prelude.{ℕ, Bool, ◌&&◌, nat_le}
use Rattle.rules.specs.declared.limits.LimitValues.{LimitValues}
use Rattle.rules.specs.declared.limits.TheConstants.Limits.{MAX_JOINS, MAX_ENTRIES, MAX_OBJECTS}
use Rattle.rules.specs.declared.limits.TheConstants.Limits.{MAX_CHANGES, MAX_KEYS, MAX_VERSIONS}
use Rattle.rules.specs.declared.limits.TheConstants.Limits.{MAX_PAGE}

-- from 1 to the full value
abbrev pub is_limit : ℕ → ℕ → Bool
is_limit full value = nat_le 1 value && nat_le value full

-- each is from 1 to its full value
abbrev pub are_limits : LimitValues → Bool
are_limits limits =
    is_limit MAX_JOINS limits.joins
    && is_limit MAX_ENTRIES limits.entries
    && is_limit MAX_OBJECTS limits.objects
    && is_limit MAX_CHANGES limits.changes
    && is_limit MAX_KEYS limits.keys
    && is_limit MAX_VERSIONS limits.versions
    && is_limit MAX_PAGE limits.page
