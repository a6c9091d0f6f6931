use Rattle.std.proofs.Common.{◌≡◌, length}
use Rattle.std.specs.List.{sum_by}
use Rattle.sat_label.specs.declared.node.NodeId.TheVariants.{Site, Serializer}
use Rattle.sat_label.specs.Words.{below}
use Rattle.sat_act.specs.Settling.{capped}
use Rattle.sat_tree.specs.Cut.{seat_of}
use Rattle.sat_net.specs.Nets.{link_of}
use Rattle.sat_net.proofs.net.Net.underway_up.Given as goal

abbrev pub invariant-loop-site : goal.invariant-loop-site
invariant-loop-site l = l.count ≡ capped (sum_by (λ i. length (link_of l.self (Site i) (Serializer (seat_of l.self.tree i)))) (below l.site))
