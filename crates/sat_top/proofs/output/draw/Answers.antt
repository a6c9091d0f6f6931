use Rattle.sat_top.proofs.Drawings.{drew}
use Rattle.sat_top.proofs.output.draw.Goals as goal

pub returns-clause-output : goal.returns-clause-output
returns-clause-output g c = drew (g.S.Source.left c.args.source.now) c.in_ok-reading.reading c.in_ok-output.output.text.items c.in_ok-output.output.status c.good_drawings.ensures c.in_ok-reading.ensures.script c.in_ok-output.ensures.text c.in_ok-output.ensures.status
