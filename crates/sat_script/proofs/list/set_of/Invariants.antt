use Rattle.std.proofs.Common.{◌≡◌, take}
use Rattle.sat_script.specs.Words.{set_of}
use Rattle.sat_script.proofs.list.set_of.Given as goal

abbrev pub invariant-loop-site : goal.invariant-loop-site
invariant-loop-site l = l.set.bits ≡ set_of (take l.site-index l.sites)
