use Rattle.std.proofs.Common.{Some, ◌∙◌, ap}
use Rattle.sat_parts_passes.proofs.Shown.{turn_front}
use Rattle.sat_parts_pump.proofs.Nexts.{turn_lent}
use Rattle.sat_parts_pump.proofs.coming.turning.Goals as goal

pub showing-requires : goal.showing-requires
showing-requires g c =
    turn_front c.args.held.now.node.machine c.hub.result.now (Some c.args.label) (c.hub.ensures.hub ∙ (c.machine.ensures.machine ∙ ap (λ n. n.machine) c.node.ensures.node)) c.requires

pub returns : goal.returns
returns g c =
    c.lent_by.ensures
    ∙ turn_lent c.args.held.now.node.machine c.hub.result.now c.args.label _ (c.hub.ensures.hub ∙ (c.machine.ensures.machine ∙ ap (λ n. n.machine) c.node.ensures.node)) c.showing.ensures.shows
