use Rattle.sat_node.specs.Together.{lent}
use Rattle.sat_parts_passes.proofs.Parting.{keeps_none, keeps_some, sure_some}
use Rattle.sat_parts_passes.proofs.taking.take_at.Goals as goal

pub take_one-requires-clause-part : goal.take_one-requires-clause-part
take_one-requires-clause-part g c = sure_some g.M.Machine.meaning g.M.Machine.takes_in g.M.Machine.may_fail c.args.k c.args.part c.in-Some.part (lent c.args.nodes.now.items) c.in-Some.is c.requires.part

pub returns-in-None : goal.returns-in-None
returns-in-None g c = keeps_none g.M.Machine.meaning _ c.args.k c.args.part (lent c.args.nodes.now.items) c.in-None.is

pub returns-in-Some : goal.returns-in-Some
returns-in-Some g c = keeps_some g.M.Machine.meaning _ c.args.k c.args.part c.in-Some.part (lent c.args.nodes.now.items) (lent c.take_one.new.nodes.items) c.in-Some.is c.take_one.ensures
