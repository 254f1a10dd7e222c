-- The limits of a room.
use Rattle.rules.specs.declared.limits.LimitValues.{LimitValues}
use Rattle.rules.specs.declared.limits.TheConstants.Limits.{MAX_JOINS, MAX_ENTRIES, MAX_OBJECTS}
use Rattle.rules.specs.declared.limits.TheConstants.Limits.{MAX_CHANGES, MAX_KEYS, MAX_VERSIONS}
use Rattle.rules.specs.declared.limits.TheConstants.Limits.{MAX_PAGE}

abbrev pub full_limits : LimitValues
full_limits = record {
  joins = MAX_JOINS;
  entries = MAX_ENTRIES;
  objects = MAX_OBJECTS;
  changes = MAX_CHANGES;
  keys = MAX_KEYS;
  versions = MAX_VERSIONS;
  page = MAX_PAGE;
}
