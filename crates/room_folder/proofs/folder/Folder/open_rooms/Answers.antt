use Rattle.room_folder.proofs.Lists.{chains_begin}
use Rattle.room_folder.proofs.folder.Folder.open_rooms.Goals as goal

pub returns-clause-chains : goal.returns-clause-chains
returns-clause-chains g c =
    chains_begin _ _ _ _ c.in_ok-chains.ensures c.in_ok-rooms.ensures c.in_ok-lists_of.ensures.names
