use Rattle.std.proofs.Common.{refl, sym, ap, ◌∙◌}
use Rattle.sat_act.specs.declared.answer.Answer.TheVariants as ans
use Rattle.sat_parts.specs.GearSteps.{gear_after, gear_answers}
use Rattle.sat_parts.proofs.GearCode.{err-may, ok-after, ok-answer, ok-written, takes-move, takes-show, takes-tick, takes-write}
use Rattle.sat_parts.proofs.gear_step.act.Goals as goal

pub tick-requires : goal.tick-requires
tick-requires c = takes-tick c.args.gear.now c.args.input _ c.in-Tick.is c.requires.takes

pub returns-in-Tick-clause-answer : goal.returns-in-Tick-clause-answer
unfolding gear_answers
returns-in-Tick-clause-answer c = ap ans.Ticked c.tick.ensures.promise ∙ ap (gear_answers c.args.gear.now) (sym c.in-Tick.is)

pub returns-in-Tick-clause-after : goal.returns-in-Tick-clause-after
unfolding gear_after
returns-in-Tick-clause-after c = c.tick.ensures.new ∙ ap (gear_after c.args.gear.now) (sym c.in-Tick.is)

pub write-requires-clause-takes : goal.write-requires-clause-takes
write-requires-clause-takes c = takes-write c.args.gear.now c.args.input _ _ _ _ c.in-Write.is c.as_slice.ensures c.requires.takes

pub returns-in-Write-clause-answer : goal.returns-in-Write-clause-answer
unfolding gear_answers
returns-in-Write-clause-answer c = ok-answer c.args.gear.now _ _ c.write.result c.in-Write.is c.write.ensures.answer

pub returns-in-Write-clause-after : goal.returns-in-Write-clause-after
returns-in-Write-clause-after c = ok-written c.args.gear.now _ _ _ _ _ _ c.write.result c.in-Write.is c.as_slice.ensures c.write.ensures.after

pub returns-in-Write-clause-err : goal.returns-in-Write-clause-err
returns-in-Write-clause-err c = err-may c.args.gear.now _ _ _ c.write.result c.in-Write.is refl c.write.ensures.err

pub move_to-requires-clause-first : goal.move_to-requires-clause-first
move_to-requires-clause-first c = (takes-move c.args.gear.now c.args.input _ _ c.in-Move.is c.requires.takes).0

pub move_to-requires-clause-to : goal.move_to-requires-clause-to
move_to-requires-clause-to c = (takes-move c.args.gear.now c.args.input _ _ c.in-Move.is c.requires.takes).1

pub returns-in-Move-clause-answer : goal.returns-in-Move-clause-answer
unfolding gear_answers
returns-in-Move-clause-answer c = ok-answer c.args.gear.now _ _ c.move_to.result c.in-Move.is c.move_to.ensures.answer

pub returns-in-Move-clause-after : goal.returns-in-Move-clause-after
unfolding gear_after
returns-in-Move-clause-after c = ok-after c.args.gear.now _ _ _ c.move_to.result c.in-Move.is c.move_to.ensures.after

pub returns-in-Move-clause-err : goal.returns-in-Move-clause-err
returns-in-Move-clause-err c = err-may c.args.gear.now _ _ _ c.move_to.result c.in-Move.is refl c.move_to.ensures.err

pub returns-in-Drain-clause-answer : goal.returns-in-Drain-clause-answer
unfolding gear_answers
returns-in-Drain-clause-answer c = ap (gear_answers c.args.gear.now) (sym c.in-Drain.is)

pub returns-in-Drain-clause-after : goal.returns-in-Drain-clause-after
unfolding gear_after
returns-in-Drain-clause-after c = c.drained.ensures ∙ ap (gear_after c.args.gear.now) (sym c.in-Drain.is)

pub show_part_of-requires-clause-takes : goal.show_part_of-requires-clause-takes
show_part_of-requires-clause-takes c = takes-show c.args.gear.now c.args.input _ _ c.in-Show.is c.requires.takes

pub returns-clause-answer : goal.returns-clause-answer
returns-clause-answer c = c.show_part_of.ensures.answer ∙ ap (gear_answers c.args.gear.now) (sym c.in-Show.is)

pub returns-clause-after : goal.returns-clause-after
returns-clause-after c = c.show_part_of.ensures.after ∙ ap (gear_after c.args.gear.now) (sym c.in-Show.is)
