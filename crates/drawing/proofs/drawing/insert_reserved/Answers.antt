use Rattle.std.proofs.Common.{◌∙◌}
use Rattle.indexmap.proofs.CallerLemmas.{insert_entry-new}
use Rattle.drawing.proofs.drawing.insert_reserved.Goals as goal

pub returns : goal.returns
returns c = c.in-Ok-None.ensures.entries ∙ insert_entry-new _ c.args.objects.now c.args.name c.args.shape c.requires.absent
