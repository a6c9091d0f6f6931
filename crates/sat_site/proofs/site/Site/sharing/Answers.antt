use Rattle.std.proofs.Common.{subst}
use Rattle.sat_site.specs.Seen.{AreGears}
use Rattle.sat_site.proofs.Fresh.{hub-shape, fresh-site, made-same, made-stands}
use Rattle.sat_site.proofs.site.Site.sharing.Goals as goal

pub fresh_gears-requires : goal.fresh_gears-requires
fresh_gears-requires c = hub-shape _ _ c.shape.ensures.hub c.shape.ensures.shape

pub invariant_of-result : goal.invariant_of-result
invariant_of-result c = fresh-site c.args.d.now c.args.site _ _ _ c.shape.ensures.hub c.in_ok-hub.ensures c.shape.ensures.shape c.in_ok-gears.ensures (subst AreGears c.deref.ensures.value c.all_limits.ensures)

pub returns-clause-stands : goal.returns-clause-stands
returns-clause-stands c = made-stands c.args.d.now c.args.site _ _ _ c.proxy_laws.ensures.starts c.in_ok-hub.ensures c.shape.ensures.shape c.in_ok-gears.ensures

pub returns-clause-same : goal.returns-clause-same
returns-clause-same c = made-same c.args.d.now c.args.site _ _ _ c.in_ok-hub.ensures c.shape.ensures.shape c.in_ok-gears.ensures
