use Rattle.sat_durable.specs.Memory.{memory_state}
use Rattle.sat_lasting.proofs.Slotting.{armed-fits, slot-done, slot-failed}
use Rattle.sat_lasting.proofs.slot.Slot.step.Goals as goal

pub take-requires : goal.take-requires
take-requires c = armed-fits c.args.input.now c.args.self.now _ c.arm.ensures.whole c.requires.fits

pub returns-then-branch : goal.returns-then-branch
returns-then-branch c xs fits has =
    slot-done c.args.d.now c.args.site xs c.args.input.now c.args.cut c.args.self.now c.arm.new.self c.take.new.self c.in_ok-take.field-0 c.requires.few c.arm.ensures.waits c.in_ok-take.ensures fits has c.if-branch.true

pub returns : goal.returns
returns c xs fits has =
    slot-failed c.args.d.now c.args.site xs c.args.input.now c.args.cut c.args.self.now c.arm.new.self c.take.new.self c.in_ok-take.field-0 c.requires.few c.arm.ensures.waits c.in_ok-take.ensures fits has
    (memory_state c.crashed-disk.result) _ _ c.if-branch.false c.crashed-disk.ensures.content c.crashed-disk.ensures.told c.in_ok-slot.ensures.keeps c.is_left.ensures
