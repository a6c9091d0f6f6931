use Rattle.std.proofs.Common.{refl, sym, ap, subst, map}
use Rattle.sat_node.specs.Links.{IsLocal}
use Rattle.sat_host.specs.Cursors.{next_of}
use Rattle.sat_host.proofs.Slips.{slipped_act}
use Rattle.sat_host.proofs.Cursors.{at_taken, fails_by}
use Rattle.sat_host.proofs.host.Host.act.Goals as goal

pub invariant_of-self : goal.invariant_of-self
invariant_of-self g c =
    let m = g.M.Machine.meaning in
    let inside = c.self.inside in
    let may = g.M.Machine.may_fail inside.node.machine c.args.input in
    let places = map next_of inside.cursors.items in (
      slipped_act m c.take.result c.args.heard c.args.input may
          (record { node = inside.node; slips = inside.slips.items; wanted = inside.wanted.items; cursors = places }) (record { node = c.take.new.self; slips = inside.slips.items; wanted = inside.wanted.items; cursors = places })
          c.self.invariant.0 (subst (λ node. IsLocal m node c.args.input) (sym (ap (λ h. h.node) c.self.view_is)) c.requires.local) c.take.ensures.takes c.take.ensures.answer refl refl,
      at_taken m c.take.result c.args.heard c.args.input may inside.node c.take.new.self inside.cursors.items c.take.ensures.takes c.self.invariant.1,
    )

pub returns-clause-fault : goal.returns-clause-fault
returns-clause-fault g c =
    fails_by c.take.result c.args.heard c.args.input (g.M.Machine.may_fail c.self.inside.node.machine c.args.input) c.args.self.now c.self.inside.node c.take.new.self (sym (ap (λ h. h.node) c.self.view_is)) c.take.ensures.takes
