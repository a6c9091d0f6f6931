use Rattle.std.proofs.Common.{ap, ◌∙◌}
use Rattle.sat_parts_passes.proofs.Shown.{turn_front, turn_shown}
use Rattle.sat_parts_passes.proofs.showing.turning.Goals as goal

pub showing-requires : goal.showing-requires
showing-requires g c = turn_front c.args.held.now.node.machine c.hub.result.now c.args.front.now (c.hub.ensures.hub ∙ (c.machine.ensures.machine ∙ ap (λ n. n.machine) c.node.ensures.node)) c.requires

pub returns : goal.returns
returns g c =
    turn_shown c.args.held.now.node.machine c.hub.result.now c.args.front.now _ c.copy_of.result (c.hub.ensures.hub ∙ (c.machine.ensures.machine ∙ ap (λ n. n.machine) c.node.ensures.node)) c.copy_of.ensures c.showing.ensures.shows
