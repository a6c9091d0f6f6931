use Rattle.sat_top.proofs.Plans.{read_so}
use Rattle.sat_top.proofs.stream.read_delay_text.Goals as goal

pub returns-clause-text : goal.returns-clause-text
returns-clause-text g c = read_so (g.S.Source.left c.args.source.now) (g.S.Source.left c.read_past.new.source) c.in_ok-text.text.items c.in_ok-text.ensures.taken c.in_ok-text.ensures.end
