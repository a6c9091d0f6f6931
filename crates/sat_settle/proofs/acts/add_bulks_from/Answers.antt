use Rattle.sat_settle.specs.RoundActs.{bulk_acts_by}
use Rattle.sat_settle.proofs.Joining.{joins-more}
use Rattle.sat_settle.proofs.acts.add_bulks_from.Goals as goal

pub loop-gear-preserved : goal.loop-gear-preserved
loop-gear-preserved c = joins-more (bulk_acts_by c.args.from c.args.sites) _ _ _ _ c.loop-gear.invariant c.in_ok-add_bulks_by.ensures
