-- The newest room of a chain.
use Rattle.base_types.specs.Texts.{Bytes}
use Rattle.room_folder.specs.declared.chain.Newest.{Newest}
use Rattle.room_folder.specs.declared.chain.Newest.TheVariants.{Found, Renewed}

-- the name of the newest room
abbrev pub newest_name : Newest → Bytes
newest_name (Found room) = room.name
newest_name (Renewed succeeded) = succeeded.new.name
