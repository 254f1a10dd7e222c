use Rattle.std.proofs.Common.{◌∙◌, sym}
use Rattle.changes_by_site.proofs.Counted.{counts_all_places}
use Rattle.changes_by_site.proofs.by_site.BySite.known.Goals as goal

pub returns-then-are_all_counted : goal.returns-then-are_all_counted
returns-then-are_all_counted c = counts_all_places c.args.ops.now c.args.seen.now (sym c.are_all_counted.ensures ∙ c.if-are_all_counted.true)
