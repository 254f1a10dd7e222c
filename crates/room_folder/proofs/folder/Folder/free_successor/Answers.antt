use Rattle.std.proofs.Common.{◌≡◌, ◌∙◌, sym}
use Rattle.room_folder.proofs.Chains.{successor_first}
use Rattle.room_folder.proofs.folder.Folder.free_successor.Goals as goal

pub returns-in-None : goal.returns-in-None
returns-in-None g c = successor_first _ _ (sym c.in-Some.is ∙ c.in_ok-next.ensures)
