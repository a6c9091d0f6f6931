use Rattle.sat_settle.specs.RoundActs.{bulk_acts_from}
use Rattle.sat_settle.proofs.Joining.{joins-more}
use Rattle.sat_settle.proofs.acts.add_bulks.Goals as goal

pub loop-from-preserved : goal.loop-from-preserved
loop-from-preserved c = joins-more (bulk_acts_from c.args.gears c.args.sites) _ _ _ _ c.loop-from.invariant c.in_ok-add_bulks_from.ensures
