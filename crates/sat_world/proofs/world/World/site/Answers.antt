use Rattle.sat_world.proofs.Deeds.{seen-site, deployment-of}
use Rattle.sat_world.proofs.Shown.{shows-view, shows-emission, shows-mode, shows-waiting}
use Rattle.sat_world.proofs.world.World.site.Goals as goal

pub returns-clause-view : goal.returns-clause-view
returns-clause-view c = λ h run st. shows-view _ h _ _ _ run st (seen-site _ _ _ _ c.self.view_is c.self.invariant c.requires c.index-site.ensures) c.view.ensures.stands

pub returns-clause-emission : goal.returns-clause-emission
returns-clause-emission c = λ h run st. shows-emission _ h _ _ _ run st (seen-site _ _ _ _ c.self.view_is c.self.invariant c.requires c.index-site.ensures) c.view.ensures.stands

pub returns-clause-stamp : goal.returns-clause-stamp
returns-clause-stamp c = λ h run st. shows-mode _ h _ _ _ run st (seen-site _ _ _ _ c.self.view_is c.self.invariant c.requires c.index-site.ensures) c.view.ensures.stands

pub returns-clause-waiting : goal.returns-clause-waiting
returns-clause-waiting c = λ h run st. shows-waiting _ h _ _ _ run st (seen-site _ _ _ _ c.self.view_is c.self.invariant c.requires c.index-site.ensures) c.view.ensures.stands (deployment-of _ _ c.self.view_is c.self.invariant)
