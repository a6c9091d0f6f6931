use Rattle.sat_lasting.proofs.Starting.{disk-is, disk-place}
use Rattle.sat_lasting.proofs.lasting.Lasting.disk.Goals as goal

pub slot_at-requires : goal.slot_at-requires
slot_at-requires c = disk-place _ _ c.self.view_is c.self.invariant _ c.requires

pub returns : goal.returns
returns c = disk-is _ _ c.self.view_is _ _ _ c.requires c.slot_at.ensures c.disk.ensures
