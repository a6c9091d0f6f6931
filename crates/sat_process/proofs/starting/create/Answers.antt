use Rattle.std.proofs.Common.{◌∙◌, sym}
use Rattle.sat_process.proofs.Feeding.{fresh_on_disk}
use Rattle.sat_process.proofs.starting.create.Goals as goal

pub invariant_of-result : goal.invariant_of-result
invariant_of-result g c =
    (fresh_on_disk g.M.Hosted.asked g.M.Hosted.took g.M.Machine.meaning _ _ c.args.host c.requires.fresh c.node.ensures.kept c.in-Ok-begin.ensures.keeps, c.in-Ok.ensures.copy ∙ sym c.requires.deployment)
