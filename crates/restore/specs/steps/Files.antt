-- A room's file, as contracts see it.
use Rattle.std.specs.Prelude.{List}
use Rattle.base_types.specs.Texts.{Bytes}
use Rattle.rules.specs.declared.history.Entry.{Entry}

-- the name of the room, and the record that the whole lines of its file are
pub record FileView : Type 0 where
  pub name : Bytes
  pub entries : List Entry
