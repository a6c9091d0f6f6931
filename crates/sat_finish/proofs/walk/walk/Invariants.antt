use Rattle.std.proofs.Common.{◌<◌, ℕ, None}
use Rattle.sat_finish.specs.Walking.{IsWalkedSite}
use Rattle.sat_finish.proofs.walk.walk.Given as goal

abbrev pub invariant-loop-site : goal.invariant-loop-site
invariant-loop-site g l = (i : ℕ) → i < l.site → IsWalkedSite l.d l.hubs l.gears i None
