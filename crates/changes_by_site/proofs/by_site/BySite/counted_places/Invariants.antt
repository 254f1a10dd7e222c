use Rattle.std.proofs.Common.{◌≡◌, drop, []}
use Rattle.changes_by_site.specs.steps.Indexes.{with_counted}
use Rattle.changes_by_site.proofs.by_site.BySite.counted_places.Given as goal

-- what is counted so far with the sites to come is what all sites make
abbrev pub invariant-loop-changes : goal.invariant-loop-changes
invariant-loop-changes l = with_counted l.seen l.counted (drop l.changes-index l.self.sites) ≡ with_counted l.seen [] l.self.sites
