use Rattle.std.proofs.Common.{◌≡◌, ◌∙◌, sym}
use Rattle.room_folder.proofs.Chains.{successor_first}
use Rattle.room_folder.proofs.folder.Folder.next_with_file.Goals as goal

pub returns-in-Some-2 : goal.returns-in-Some-2
returns-in-Some-2 g c = successor_first _ _ (sym c.in-Some.is ∙ c.in_ok-next.ensures)
