use Rattle.std.proofs.Common.{ap, ◌∙◌}
use Rattle.sat_machines.specs.Plain.{is_plain}
use Rattle.sat_parts.proofs.GearMachine.{gear-plain}
use Rattle.sat_parts.proofs.gear_step.plain.Goals as goal

pub copy_plain-again-requires : goal.copy_plain-again-requires
copy_plain-again-requires c = ap is_plain c.in_ok-answer.ensures.answer ∙ gear-plain c.args.gear.now c.args.input c.requires.plain
