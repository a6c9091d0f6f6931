use Rattle.std.proofs.Common.{◌≡◌, Bool, IfOk, subst}
use Rattle.sat_node.specs.Together.{lent}
use Rattle.sat_parts_passes.specs.Sendings.{HubHeld}
use Rattle.sat_parts_pump.specs.Shows.{may_show}
use Rattle.sat_parts_pump.proofs.Watching.{watched_more}
use Rattle.sat_parts_pump.proofs.showing.show.Goals as goal

pub invariant_of-watched : goal.invariant_of-watched
invariant_of-watched g c = watched_more c.watched.inside.held c.show_held.new.hub _ _ _ c.watched.invariant c.show_held.ensures.more.1

pub returns-clause-fits : goal.returns-clause-fits
returns-clause-fits g c =
    subst (λ (h : HubHeld). IfOk c.show_held.result (λ done. done ≡ may_show g.N.Laid.deployment h (lent c.args.gears.now.items))) c.watched.view_is c.show_held.ensures.fits
