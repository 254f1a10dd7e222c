-- What contracts see of a site in use, and of news.
use Rattle.std.specs.Prelude.{ℕ, List}
use Rattle.rules.specs.declared.history.Entry.{Entry}
use Rattle.room_lock.specs.Passes.{PrefixView}

-- a site that a session is in as, while its room has this record
pub record InUseView : Type 0 where
  pub prefix : PrefixView
  pub site : ℕ

-- the entries behind a prefix of a room's record, and all that the room has
pub record NewsView : Type 0 where
  pub entries : List Entry
  pub whole : PrefixView
