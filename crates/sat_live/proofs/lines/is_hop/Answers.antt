use Rattle.std.proofs.Common.{rules, ◌≡◌, Some}
use Rattle.sat_tree.specs.Cut.{IsNode}
use Rattle.sat_act.specs.Parts.{tree_of}
use Rattle.sat_live.proofs.Journals.{hop_at}
use Rattle.sat_live.proofs.lines.is_hop.Goals as goal

pub returns : goal.returns
returns c = λ edge.
    let at : Some c.in-Some.tree.now ≡ tree_of c.args.d.now c.args.epoch = search rules in
    let node : IsNode c.in-Some.tree.now c.args.from = search rules in
    hop_at c.args.d.now c.args.epoch c.args.to c.args.from c.in-Some.tree.now c.is_edge.result at node c.is_edge.ensures.edge edge
