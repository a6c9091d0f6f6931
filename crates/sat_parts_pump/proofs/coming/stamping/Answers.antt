use Rattle.std.proofs.Common.{◌∙◌, ap}
use Rattle.sat_parts_pump.proofs.Nexts.{stamp_lent}
use Rattle.sat_parts_pump.proofs.coming.stamping.Goals as goal

pub returns : goal.returns
returns g c =
    c.lent_by.ensures
    ∙ stamp_lent c.args.held.now.node.machine c.hub.result.now _ (c.hub.ensures.hub ∙ (c.machine.ensures.machine ∙ ap (λ n. n.machine) c.node.ensures.node)) c.stamping.ensures.shows
