use Rattle.sat_host.proofs.Locals.{site_local}
use Rattle.sat_host.proofs.acting.take_local.Goals as goal

pub act-requires-clause-local : goal.act-requires-clause-local
act-requires-clause-local g c = site_local g.N.Laid.deployment c.args.host.now.node c.args.act c.requires.local
