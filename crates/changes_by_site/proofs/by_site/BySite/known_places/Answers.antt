use Rattle.std.proofs.Common.{◌∙◌}
use Rattle.changes_by_site.proofs.Sited.{rising, all_counted}
use Rattle.changes_by_site.proofs.by_site.BySite.known_places.Goals as goal

pub counted_places-requires : goal.counted_places-requires
counted_places-requires c = rising c.args.ops.now c.args.self.now c.requires.sites c.requires.order

pub insert_unindexed-requires-clause-indexed : goal.insert_unindexed-requires-clause-indexed
insert_unindexed-requires-clause-indexed c = c.in_ok-known.ensures ∙ all_counted c.args.ops.now c.args.self.now c.requires.sites c.args.seen.now
