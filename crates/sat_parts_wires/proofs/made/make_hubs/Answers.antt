use Rattle.sat_wires.proofs.Names.{sites_grow}
use Rattle.sat_parts_wires.proofs.made.make_hubs.Goals as goal

pub loop-site-preserved : goal.loop-site-preserved
loop-site-preserved g c =
    sites_grow c.loop-site.site c.loop-site.hubs.items c.push.new.self.items c.in_ok-held.held c.in_ok-push.ensures.items c.loop-site.invariant c.in_ok-held.ensures.name c.in_ok-held.ensures.fresh
