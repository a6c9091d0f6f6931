use Rattle.std.proofs.Common.{refl}
use Rattle.sat_parts.proofs.GearCode.{asks-drain, asks-move, asks-read, asks-show, asks-tick, asks-write}
use Rattle.sat_parts.proofs.gear_step.takes.Goals as goal

pub returns-in-Tick : goal.returns-in-Tick
returns-in-Tick c = asks-tick _ _ _ _ c.in-Tick.is refl

pub returns-in-Write : goal.returns-in-Write
returns-in-Write c = asks-write _ _ _ _ _ _ _ _ c.requires.shape c.requires.number c.in-Write.is c.may_write.ensures

pub returns-in-Read : goal.returns-in-Read
returns-in-Read c = asks-read _ _ _ _ _ _ _ c.requires.shape c.requires.number c.in-Read.is c.may_read.ensures

pub returns-in-Move : goal.returns-in-Move
returns-in-Move c = asks-move _ _ _ _ _ _ _ c.requires.shape c.requires.number c.in-Move.is c.may_move.ensures

pub returns-in-Drain : goal.returns-in-Drain
returns-in-Drain c = asks-drain _ _ _ _ _ _ c.in-Drain.is c.is_drained.ensures

pub returns-in-Show : goal.returns-in-Show
returns-in-Show c = asks-show _ _ _ _ _ _ c.requires.shape c.in-Show.is c.may_show.ensures
