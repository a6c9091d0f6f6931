use Rattle.sat_site.proofs.Made.{lane-made, lane-seen}
use Rattle.sat_site.proofs.site.Site.made_for.Goals as goal

pub returns-clause-made : goal.returns-clause-made
returns-clause-made c = lane-made c.args.self.now c.args.gear c.args.to c.made_for.result c.gear-gear.result.now c.gear-gear.ensures.gear c.requires.site c.made_for.ensures.made

pub returns-clause-seen : goal.returns-clause-seen
returns-clause-seen c = lane-seen c.args.self.now c.args.gear c.args.to c.made_for.result c.gear-gear.result.now c.gear-gear.ensures.gear c.made_for.ensures.made
