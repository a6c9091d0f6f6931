use Rattle.std.proofs.Common.{◌≡◌, ◌<◌, ◌≤◌, ◌^◌, ℕ, Some, slice_get}
use Rattle.sat_site.specs.Seen.{SiteSeen}
use Rattle.sat_site.specs.Gives.{PromisesUpTo}
use Rattle.sat_world.specs.Clocks.{IsGreatestOf}
use Rattle.sat_world.proofs.clocks.greatest.Given as goal

abbrev pub invariant-loop-site : goal.invariant-loop-site
invariant-loop-site l = record {
  greatest : IsGreatestOf l.sites l.site-index l.gears l.greatest;
  above : (i : ℕ) (x : SiteSeen) → slice_get l.sites i ≡ Some x → i < l.site-index → PromisesUpTo x l.greatest;
  limit : l.greatest ≤ 2 ^ 62;
}
