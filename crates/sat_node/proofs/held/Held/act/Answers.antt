use Rattle.std.proofs.Common.{refl, sym, ap, subst}
use Rattle.sat_node.specs.Links.{IsLocal}
use Rattle.sat_node.proofs.Ties.{tied_act}
use Rattle.sat_node.proofs.held.Held.act.Goals as goal

pub invariant_of-self : goal.invariant_of-self
invariant_of-self g c =
    let m = g.M.Machine.meaning in
    let inside = c.self.inside in
    tied_act m c.take.result c.args.heard c.args.input (g.M.Machine.may_fail inside.node.machine c.args.input)
    (record { node = inside.node; outs = inside.outs.items; ins = inside.ins.items }) (record { node = c.take.new.self; outs = inside.outs.items; ins = inside.ins.items })
    c.self.invariant (subst (λ node. IsLocal m node c.args.input) (sym (ap (λ h. h.node) c.self.view_is)) c.requires.local) c.take.ensures.takes c.take.ensures.answer refl refl
