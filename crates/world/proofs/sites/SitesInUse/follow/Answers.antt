use Rattle.std.proofs.Common.{◌≡◌, Some, None}
use Rattle.world.proofs.sites.SitesInUse.follow.Goals as goal

pub returns-in-Some-Some-default : goal.returns-in-Some-Some-default
returns-in-Some-Some-default c =
    let now : c.args.now ≡ Some (Some c.in-Some-Some-default.site) = cc in
    rw now c.add.ensures

pub returns-in-Some-None-Some : goal.returns-in-Some-None-Some
returns-in-Some-None-Some c =
    let now : c.args.now ≡ Some None = cc in
    rw (now, c.in-Some-None-Some.is-1) c.remove.ensures
