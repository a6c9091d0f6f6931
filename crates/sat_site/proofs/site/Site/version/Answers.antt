use Rattle.std.proofs.Common.{sym}
use Rattle.sat_site.proofs.Deeds.{read-item}
use Rattle.sat_site.proofs.Shown.{away-version, kept-away, version-shown}
use Rattle.sat_site.proofs.site.Site.version.Goals as goal

pub returns-then-not-keeps-clause-kept : goal.returns-then-not-keeps-clause-kept
returns-then-not-keeps-clause-kept c = λ d i s st kept. away-version d i _ s _ (sym c.if-not-keeps.ensures) st kept

pub read-requires : goal.read-requires
read-requires c = read-item _ _ _ _ c.gear-gear.ensures.site c.gear_of.ensures.number c.gear-gear.ensures.gear c.requires (sym c.if-not-keeps.ensures)

pub returns-clause-kept : goal.returns-clause-kept
returns-clause-kept c = λ d i s st kept. version-shown d i c.args.self.now s c.gear_of.result c.args.item c.gear-gear.result.now c.read.result c.gear-gear.ensures.gear c.gear_of.ensures.number c.requires (sym c.if-not-keeps.ensures) st c.read.ensures

pub returns-clause-away : goal.returns-clause-away
returns-clause-away c = λ away. kept-away c.args.self.now c.args.item (sym c.if-not-keeps.ensures) away c.read.result
