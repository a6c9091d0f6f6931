use Rattle.sat_site.proofs.Shown.{payload-shown, payload-lane}
use Rattle.sat_site.proofs.site.Site.payload.Goals as goal

pub returns-clause-payload : goal.returns-clause-payload
returns-clause-payload c = λ d i s st. payload-shown d i c.args.self.now s c.args.gear c.args.to c.args.number c.gear-gear.result.now c.payload.result c.gear-gear.ensures.gear c.requires.site st c.payload.ensures.payload

pub returns-clause-lane : goal.returns-clause-lane
returns-clause-lane c = payload-lane c.args.self.now c.args.gear c.args.to c.args.number c.gear-gear.result.now c.payload.result c.gear-gear.ensures.site c.gear-gear.ensures.gear c.payload.ensures.limits c.payload.ensures.payload
