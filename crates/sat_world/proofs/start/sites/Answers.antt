use Rattle.std.proofs.Common.{◌+◌, subst, sym, List}
use Rattle.sat_site.specs.Seen.{SiteSeen}
use Rattle.sat_world.specs.Starts.{AreFresh}
use Rattle.sat_world.proofs.Fresh.{sites-more}
use Rattle.sat_world.proofs.start.sites.Goals as goal

pub loop-site-preserved : goal.loop-site-preserved
loop-site-preserved c = subst (λ (xs : List SiteSeen). AreFresh c.args.d.now (c.loop-site.site + 1) xs) (sym c.in_ok-push.ensures.items) (sites-more _ _ _ _ c.loop-site.invariant c.in_ok-sharing.ensures.stands)
