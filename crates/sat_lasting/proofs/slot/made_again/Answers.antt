use Rattle.sat_durable.specs.Durables.{disk_of}
use Rattle.sat_durable.specs.Memory.{memory_state}
use Rattle.sat_lasting.proofs.Slotting.{made-count, made-has, parts-keep}
use Rattle.sat_lasting.proofs.slot.made_again.Goals as goal

pub returns-in-Ok-clause-keeps : goal.returns-in-Ok-clause-keeps
returns-in-Ok-clause-keeps c xs recovers calm =
    parts-keep c.args.d.now c.args.site _ _ _ c.into_parts-journal.ensures.disk c.into_parts-journal.ensures.whole
    (made-has c.args.d.now c.args.site xs _ _ (memory_state c.args.disk) (memory_state (disk_of c.in-Ok.made.durable)) c.in_ok-fresh.ensures c.in-Ok.ensures.keeps (rw c.in-Ok.is at c.recover.ensures.calm) recovers calm)

pub returns-in-Ok-clause-count : goal.returns-in-Ok-clause-count
returns-in-Ok-clause-count c xs recovers = made-count c.args.d.now c.args.site xs _ _ _ c.in_ok-fresh.ensures c.in-Ok.ensures.recovered recovers
