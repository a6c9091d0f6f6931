use Rattle.std.proofs.Common.{◌∙◌}
use Rattle.sat_world.proofs.Deeds.{seen-site, seen-items, seen-keeps, deployment-of}
use Rattle.sat_world.proofs.Shown.{shows-version}
use Rattle.sat_world.proofs.world.World.version.Goals as goal

pub version-requires : goal.version-requires
version-requires c = seen-items _ _ _ _ _ c.self.view_is c.self.invariant c.requires.site c.index-site.ensures c.requires.item

pub returns-clause-kept : goal.returns-clause-kept
returns-clause-kept c = λ h run st kept.
    shows-version _ h _ _ _ _ (deployment-of _ _ c.self.view_is c.self.invariant) run st (seen-site _ _ _ _ c.self.view_is c.self.invariant c.requires.site c.index-site.ensures) kept c.version.ensures.kept

pub returns-clause-away : goal.returns-clause-away
returns-clause-away c = λ none. c.version.ensures.away (seen-keeps _ _ _ _ _ c.self.view_is c.self.invariant c.requires.site c.index-site.ensures ∙ none)
