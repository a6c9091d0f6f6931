use Rattle.sat_node.proofs.Ties.{tied_new}
use Rattle.sat_node.proofs.held.Held.new.Goals as goal

pub invariant_of-result : goal.invariant_of-result
invariant_of-result g c = tied_new g.M.Machine.meaning (record { node = c.args.node; outs = c.args.outs.items; ins = c.args.ins.items }) c.requires.node c.requires.outs c.requires.ins c.requires.places
