use Rattle.std.proofs.Common.{ap, ◌∙◌}
use Rattle.sat_parts_passes.proofs.Shown.{stamp_shown}
use Rattle.sat_parts_passes.proofs.showing.stamping.Goals as goal

pub returns : goal.returns
returns g c =
    stamp_shown c.args.held.now.node.machine c.hub.result.now _ c.copy_of.result (c.hub.ensures.hub ∙ (c.machine.ensures.machine ∙ ap (λ n. n.machine) c.node.ensures.node)) c.copy_of.ensures c.stamping.ensures.shows
