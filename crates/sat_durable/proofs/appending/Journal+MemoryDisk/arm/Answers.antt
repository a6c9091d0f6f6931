use Rattle.sat_durable.specs.Memory.{memory_state}
use Rattle.sat_durable.proofs.Stepping.{settled_ready}
use Rattle.sat_durable.proofs.appending.Journal+MemoryDisk.arm.Goals as goal

pub invariant_of-self : goal.invariant_of-self
invariant_of-self c = record { settled = λ whole. settled_ready (memory_state c.args.self.now.disk) (memory_state c.arm.new.self) c.args.self.now.size (c.args.self.now.settled whole) c.arm.ensures.rests }
