use Rattle.sat_durable.specs.Durables.{disk_of}
use Rattle.sat_durable.specs.Memory.{memory_state}
use Rattle.sat_lasting.proofs.Slotting.{fresh-has, parts-keep}
use Rattle.sat_lasting.proofs.slot.Slot.new.Goals as goal

pub returns-in-Ok : goal.returns-in-Ok
returns-in-Ok c =
    parts-keep c.args.d.now c.args.site _ _ _ c.into_parts-journal.ensures.disk c.into_parts-journal.ensures.whole
    (fresh-has c.args.d.now c.args.site _ _ (memory_state c.new-disk.result) (memory_state (disk_of c.in-Ok.durable)) c.in_ok-fresh.ensures c.new-disk.ensures.told c.in-Ok.ensures.created (rw c.in-Ok.is at c.create.ensures.calm))
