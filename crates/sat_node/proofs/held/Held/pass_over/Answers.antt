use Rattle.std.proofs.Common.{◌<◌, length, ap, ◌≡◌, Some, slice_get, refl}
use Rattle.std.proofs.lemmas.Option.{slice_get_read}
use Rattle.sat_node.specs.Links.{PassedOver}
use Rattle.sat_node.proofs.Members.{replaced}
use Rattle.sat_node.proofs.Ties.{tied_over}
use Rattle.sat_node.proofs.held.Held.pass_over.Goals as goal

pub invariant_of-self : goal.invariant_of-self
invariant_of-self g c =
    let ends = c.self.inside.ins.items in
    let was = c.index_mut-end.result.now in
    let less : c.args.link < length ends = rw (ap (λ h. length h.ins) c.self.view_is) c.requires in
    let at : slice_get ends c.args.link ≡ Some was = slice_get_read ends (length ends) c.args.link was refl less c.index_mut-end.ensures.value in
    tied_over g.M.Machine.meaning (record { node = c.self.inside.node; outs = c.self.inside.outs.items; ins = ends }) c.args.link was c.pass_over.new.self c.pass_over.result c.self.invariant at c.pass_over.ensures

pub returns-clause-passed : goal.returns-clause-passed
returns-clause-passed g c =
    let ends = c.self.inside.ins.items in
    let was = c.index_mut-end.result.now in
    let less : c.args.link < length ends = rw (ap (λ h. length h.ins) c.self.view_is) c.requires in
    let at : slice_get ends c.args.link ≡ Some was = slice_get_read ends (length ends) c.args.link was refl less c.index_mut-end.ensures.value in
    rw (← c.self.view_is) (replaced (PassedOver c.pass_over.result) ends c.args.link was c.pass_over.new.self at c.pass_over.ensures)
