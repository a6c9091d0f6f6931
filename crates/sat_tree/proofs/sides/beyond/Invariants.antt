use Rattle.std.proofs.Common.{◌≡◌, ℕ, ◌&&◌, nat_lt}
use Rattle.sat_label.specs.declared.node.NodeId.TheVariants.{Site}
use Rattle.sat_label.specs.Words.{bit}
use Rattle.sat_tree.specs.Cut.{beyond}
use Rattle.sat_tree.proofs.sides.beyond.Given as goal

abbrev pub invariant-loop-site : goal.invariant-loop-site
invariant-loop-site l = (k : ℕ) → bit l.sites.bits k ≡ (nat_lt k l.site && beyond l.layout l.u l.v (Site k))
