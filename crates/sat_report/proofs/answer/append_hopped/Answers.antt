use Rattle.sat_report.proofs.Commas.{no_nodes_text}
use Rattle.sat_report.proofs.answer.append_hopped.Goals as goal

pub returns-in-None-clause-ok : goal.returns-in-None-clause-ok
returns-in-None-clause-ok c = rw (no_nodes_text c.args.to.now c.in-None.ensures.cases) c.append_no_hop.ensures.ok
