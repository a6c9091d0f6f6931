use Rattle.std.proofs.Common.{sym, ◌∙◌}
use Rattle.sat_site.specs.Does.{read_not_here}
use Rattle.sat_site.proofs.Deeds.{did-read-none, did-read, read-item}
use Rattle.sat_site.proofs.site.Site.read.Goals as goal

pub returns-then-not-keeps : goal.returns-then-not-keeps
returns-then-not-keeps c = read_not_here (sym c.if-not-keeps.ensures)

pub read-requires : goal.read-requires
read-requires c = read-item _ _ _ _ c.gear-gear.ensures.site c.gear_of.ensures.number c.gear-gear.ensures.gear c.requires (sym c.if-not-keeps.ensures)

pub returns-in_default : goal.returns-in_default
returns-in_default c = did-read-none _ _ _ _ c.gear_of.ensures.number c.gear-gear.ensures.gear (sym c.if-not-keeps.ensures) c.in_default.ensures

pub returns : goal.returns
returns c = did-read _ _ _ _ _ _ _ c.gear_of.ensures.number c.gear-gear.ensures.gear (sym c.if-not-keeps.ensures) c.in-Some.ensures c.label.ensures (c.in_ok-value.ensures ∙ c.value.ensures)
