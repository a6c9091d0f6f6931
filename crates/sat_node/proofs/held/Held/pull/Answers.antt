use Rattle.std.proofs.Common.{◌<◌, length, ap, ◌≡◌, Some, slice_get, refl}
use Rattle.std.proofs.lemmas.Option.{slice_get_read}
use Rattle.sat_node.specs.Links.{Pulled}
use Rattle.sat_node.proofs.Members.{replaced}
use Rattle.sat_node.proofs.Ties.{tied_pull}
use Rattle.sat_node.proofs.held.Held.pull.Goals as goal

pub invariant_of-self : goal.invariant_of-self
invariant_of-self g c =
    let ends = c.self.inside.ins.items in
    let was = c.index_mut-end.result.now in
    let less : c.args.link < length ends = rw (ap (λ h. length h.ins) c.self.view_is) c.requires in
    let at : slice_get ends c.args.link ≡ Some was = slice_get_read ends (length ends) c.args.link was refl less c.index_mut-end.ensures.value in
    tied_pull g.M.Machine.meaning (record { node = c.self.inside.node; outs = c.self.inside.outs.items; ins = ends }) c.args.link was c.pull.new.self c.self.invariant at c.pull.ensures.pulled

pub returns-clause-pulled : goal.returns-clause-pulled
returns-clause-pulled g c =
    let ends = c.self.inside.ins.items in
    let was = c.index_mut-end.result.now in
    let less : c.args.link < length ends = rw (ap (λ h. length h.ins) c.self.view_is) c.requires in
    let at : slice_get ends c.args.link ≡ Some was = slice_get_read ends (length ends) c.args.link was refl less c.index_mut-end.ensures.value in
    rw (← c.self.view_is) (replaced Pulled ends c.args.link was c.pull.new.self at c.pull.ensures.pulled)
