use Rattle.std.proofs.Common.{◌∙◌, ap}
use Rattle.sat_parts_passes.specs.Sendings.{HubHeld}
use Rattle.sat_cluster.proofs.Doing.{did_fall}
use Rattle.sat_cluster.proofs.Watching.{asked_watched}
use Rattle.sat_cluster.proofs.asking.fall_at.Goals as goal

pub returns : goal.returns
returns g c = did_fall g.N.Laid.deployment c.args.site c.fall-result.result c.watched.inside.held.node c.fall-result.new.held.node c.args.session.now c.fall-result.new.session (ap (λ (h : HubHeld). h.node.name) c.watched.view_is ∙ c.requires.name) c.fall-result.ensures.done c.hub_runs.ensures

pub invariant_of-watched : goal.invariant_of-watched
invariant_of-watched g c = asked_watched _ _ _ c.fall-result.result c.watched.inside.held c.fall-result.new.held c.args.session.now c.fall-result.new.session _ _ c.fall-result.ensures.done c.watched.invariant
