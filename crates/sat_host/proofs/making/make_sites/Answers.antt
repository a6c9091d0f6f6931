use Rattle.sat_machines.specs.Sites.{site_meaning}
use Rattle.sat_host.proofs.Growing.{sites_grow}
use Rattle.sat_host.proofs.making.make_sites.Goals as goal

pub loop-site-preserved : goal.loop-site-preserved
loop-site-preserved g c =
    sites_grow (site_meaning g.N.Laid.deployment) c.loop-site.site c.loop-site.sites.items c.push.new.self.items c.in_ok-host.host c.in_ok-push.ensures.items c.loop-site.invariant c.in_ok-host.ensures.name c.in_ok-host.ensures.fresh
