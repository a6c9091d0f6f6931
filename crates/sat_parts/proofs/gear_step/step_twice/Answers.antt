use Rattle.sat_parts.specs.GearSteps.{gear_answers}
use Rattle.sat_parts.proofs.GearCode.{ok-twice, takes-read, twice-stays}
use Rattle.sat_parts.proofs.gear_step.step_twice.Goals as goal

pub read_twice-requires-clause-item : goal.read_twice-requires-clause-item
read_twice-requires-clause-item c = (takes-read c.args.gear.now c.args.input _ _ c.in-Read.is c.requires.takes).0

pub read_twice-requires-clause-own : goal.read_twice-requires-clause-own
read_twice-requires-clause-own c = (takes-read c.args.gear.now c.args.input _ _ c.in-Read.is c.requires.takes).1

pub returns-in-Read-clause-answer : goal.returns-in-Read-clause-answer
unfolding gear_answers
returns-in-Read-clause-answer c = ok-twice c.args.gear.now _ _ c.read_twice.result c.in-Read.is c.read_twice.ensures.answer

pub returns-in-Read-clause-after : goal.returns-in-Read-clause-after
returns-in-Read-clause-after c = twice-stays c.args.gear.now _ _ _ c.read_twice.result c.in-Read.is
