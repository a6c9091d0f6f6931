use Rattle.std.proofs.Common.{refl}
use Rattle.sat_node.proofs.Ties.{tied_same}
use Rattle.sat_node.proofs.held.Held.reserve.Goals as goal

pub invariant_of-self : goal.invariant_of-self
invariant_of-self g c =
    let inside = c.self.inside in
    let same = c.reserve.ensures.same in
    tied_same g.M.Machine.meaning (record { node = inside.node; outs = inside.outs.items; ins = inside.ins.items }) (record { node = c.reserve.new.self; outs = inside.outs.items; ins = inside.ins.items })
    c.self.invariant same.0 same.2 refl refl
