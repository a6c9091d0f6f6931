use Rattle.std.proofs.Common.{◌∙◌, ap}
use Rattle.sat_parts_passes.specs.Sendings.{HubHeld}
use Rattle.sat_cluster.proofs.Doing.{did_close}
use Rattle.sat_cluster.proofs.Watching.{asked_watched}
use Rattle.sat_cluster.proofs.asking.close_at.Goals as goal

pub returns : goal.returns
returns g c = did_close g.N.Laid.deployment c.args.site c.close-result.result c.watched.inside.held.node c.close-result.new.held.node c.args.session.now c.close-result.new.session (ap (λ (h : HubHeld). h.node.name) c.watched.view_is ∙ c.requires.name) c.close-result.ensures.done c.hub_runs.ensures

pub invariant_of-watched : goal.invariant_of-watched
invariant_of-watched g c = asked_watched _ _ _ c.close-result.result c.watched.inside.held c.close-result.new.held c.args.session.now c.close-result.new.session _ _ c.close-result.ensures.done c.watched.invariant
