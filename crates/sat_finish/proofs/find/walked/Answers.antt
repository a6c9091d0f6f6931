use Rattle.std.proofs.Common.{subst}
use Rattle.sat_act.specs.Deployed.{Deployed}
use Rattle.sat_finish.specs.Walking.{HasNames}
use Rattle.sat_finish.proofs.Named.{has-names}
use Rattle.sat_finish.proofs.find.walked.Goals as goal

pub walk-requires : goal.walk-requires
walk-requires g c =
    subst (λ (d : Deployed). HasNames d c.args.hubs.now c.args.gears.now) c.requires.deployment
    (has-names g.N.Laid.deployment c.args.hubs.now c.args.gears.now c.args.serials.now c.requires.opened)
