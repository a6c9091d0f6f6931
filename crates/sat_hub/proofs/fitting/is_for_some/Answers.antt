use Rattle.sat_label.proofs.Truth.{same-test}
use Rattle.sat_hub.specs.HubSteps.{has_target}
use Rattle.sat_hub.proofs.Quiet.{target-some, some-target-here}
use Rattle.sat_hub.proofs.Targets.{some-target, target-there}
use Rattle.sat_hub.proofs.fitting.is_for_some.Goals as goal

pub returns : goal.returns
returns c =
    let l = c.args.label.now in
    let shape = c.args.shape.now in
    same-test c.meets.result (has_target shape l)
    (λ t. target-some shape l (some-target shape l c.targets-targets.result.bits c.requires.shape c.targets-targets.ensures.targets c.requires.label (c.meets.ensures.0 t)))
    (λ e. c.meets.ensures.1 (target-there shape l c.targets-targets.result.bits c.targets-targets.ensures.targets (some-target-here shape l e)))
