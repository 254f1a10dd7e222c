use Rattle.std.proofs.Common.{◌≡◌, All, IfSome}
use Rattle.base_types.specs.Texts.{Bytes}
use Rattle.base_types.specs.RoomNames.{first_name}
use Rattle.room_folder.proofs.folder.Folder.names_with_files.Given as goal

abbrev pub invariant-loop : goal.invariant-loop
invariant-loop g l =
    All (λ (name : Bytes). first_name name ≡ first_name l.first) l.names.items
    × IfSome l.next (λ (name : Bytes). first_name name ≡ first_name l.first)
