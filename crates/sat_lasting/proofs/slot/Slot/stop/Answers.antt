use Rattle.sat_durable.specs.Memory.{memory_state}
use Rattle.sat_lasting.proofs.Slotting.{crashed-calm, slot-left}
use Rattle.sat_lasting.specs.Slots.{slot_disk}
use Rattle.sat_lasting.proofs.slot.Slot.stop.Goals as goal

pub returns : goal.returns
returns c xs has =
    let left = slot-left c.args.d.now c.args.site xs c.args.self.now _ c.crashed-disk.ensures.left has in
    (c.in_ok-slot.ensures.keeps xs left (crashed-calm (slot_disk c.args.self.now) (memory_state c.crashed-disk.result) c.crashed-disk.ensures.told), c.in_ok-slot.ensures.count xs left)
