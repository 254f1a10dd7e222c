use Rattle.std.proofs.Common.{◌≡◌, map, take}
use Rattle.base_types.specs.RoomNames.{first_name}
use Rattle.room_folder.specs.steps.Chains.{newest_name}
use Rattle.room_folder.proofs.folder.Folder.read_chains.Given as goal

abbrev pub invariant-loop-name : goal.invariant-loop-name
invariant-loop-name g l =
    map (λ chain. first_name (newest_name chain.newest)) l.chains.items ≡ map first_name (take l.name-index l.names)
