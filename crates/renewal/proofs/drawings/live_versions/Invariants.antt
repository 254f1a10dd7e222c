use Rattle.std.proofs.Common.{◌≡◌, take}
use Rattle.renewal.specs.Drawn.{live_versions}
use Rattle.renewal.proofs.drawings.live_versions.Given as goal

-- the live ones of the versions so far
abbrev pub invariant-loop-version : goal.invariant-loop-version
invariant-loop-version l = l.list.items ≡ live_versions (take l.version-index l.versions)
