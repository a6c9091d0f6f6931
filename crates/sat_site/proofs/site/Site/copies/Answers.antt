use Rattle.sat_site.proofs.Shown.{copies-shown}
use Rattle.sat_site.proofs.site.Site.copies.Goals as goal

pub returns : goal.returns
returns c = λ d i s st. copies-shown c.copies.result (λ v. v.items) d i c.args.self.now s c.args.gear c.args.to c.args.number c.args.most c.gear-gear.result.now c.gear-gear.ensures.gear c.requires.site st c.copies.ensures.copies
