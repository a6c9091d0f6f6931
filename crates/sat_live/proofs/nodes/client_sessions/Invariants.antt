use Rattle.sat_live.specs.Coming.{AreGiven}
use Rattle.sat_live.proofs.nodes.client_sessions.Given as goal

abbrev pub invariant-clients : goal.invariant-clients
invariant-clients g l = AreGiven g.N.Laid.deployment l.cluster.given l.sessions.items
