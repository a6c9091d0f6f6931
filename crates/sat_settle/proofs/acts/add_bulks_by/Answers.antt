use Rattle.sat_settle.specs.RoundActs.{bulk_to}
use Rattle.sat_settle.proofs.Joining.{joins-more}
use Rattle.sat_settle.proofs.acts.add_bulks_by.Goals as goal

pub loop-to-preserved : goal.loop-to-preserved
loop-to-preserved c = joins-more (bulk_to c.args.from c.args.gear) _ _ _ _ c.loop-to.invariant c.in_ok-add_bulk.ensures
