use Rattle.sat_host.proofs.Locals.{kill_local}
use Rattle.sat_host.proofs.acting.kill_at_serializer.Goals as goal

pub act-requires-clause-local : goal.act-requires-clause-local
act-requires-clause-local g c = kill_local g.N.Laid.deployment c.args.host.now.node
