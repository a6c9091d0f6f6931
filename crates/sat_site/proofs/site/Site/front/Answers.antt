use Rattle.std.proofs.Common.{◌<◌, subst, sym}
use Rattle.sat_site.specs.Seen.{SiteSeen}
use Rattle.sat_site.proofs.Shown.{front-is}
use Rattle.sat_site.proofs.site.Site.front.Goals as goal

pub front-requires-clause-from : goal.front-requires-clause-from
front-requires-clause-from c = subst (λ (x : SiteSeen). c.args.from < x.shape.sites) (sym c.self.view_is) c.requires.from

pub front-requires-clause-gear : goal.front-requires-clause-gear
front-requires-clause-gear c = subst (λ (x : SiteSeen). c.args.gear < x.shape.gears) (sym c.self.view_is) c.requires.gear

pub returns-clause-front : goal.returns-clause-front
returns-clause-front c = λ d i s st. front-is _ _ d i s _ _ _ c.self.view_is c.self.invariant c.requires.from c.requires.gear c.front.ensures.front st
