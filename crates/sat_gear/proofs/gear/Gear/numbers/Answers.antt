use Rattle.std.proofs.Common.{◌∙◌, ap}
use Rattle.sat_label.specs.Words.{bit}
use Rattle.sat_sites.specs.Interested.{is_for}
use Rattle.sat_gear.specs.Gear.{GearSeen, lane_numbers}
use Rattle.sat_gear.proofs.Gears.{same-numbers}
use Rattle.sat_gear.proofs.gear.Gear.numbers.Goals as goal

pub returns : goal.returns
returns c =
    c.in_ok-numbers.ensures
    ∙ (same-numbers (bit c.targets-targets.result.bits) (is_for c.self.inside.shape.interest c.args.label.now) 0 c.self.inside.lanes c.targets-targets.ensures.targets
    ∙ ap (λ (s : GearSeen). lane_numbers s c.args.label.now) c.self.view_is)
