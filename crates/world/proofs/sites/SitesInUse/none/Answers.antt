use Rattle.world.specs.steps.State.{no_sites}
use Rattle.world.proofs.sites.SitesInUse.none.Goals as goal

pub returns : goal.returns
unfolding no_sites
returns c = c.in_ok-used.ensures.items_if_clones_equal (λ y same. same)
