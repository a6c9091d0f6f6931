use Rattle.std.proofs.Common.{◌≡◌, ◌++◌, drop}
use Rattle.sat_report.specs.Fronts.{Keeps}
use Rattle.sat_report.specs.Frames.{commas}
use Rattle.sat_report.proofs.text.append_next_nodes.Given as goal

abbrev pub invariant-loop-node : goal.invariant-loop-node
invariant-loop-node l = Keeps l.fn.out.items l.out.items × (l.out.items ++ commas (drop l.node-index l.nodes) ≡ l.initial.out.items ++ commas l.nodes)
