use Rattle.std.proofs.Common.{◌≡◌, [], replicate}
use Rattle.sat_hub.proofs.beats.fresh_made.Given as goal

abbrev pub invariant-sites : goal.invariant-sites
invariant-sites l = l.made.items ≡ replicate l.counter []
