use Rattle.sat_world.proofs.Counting.{flags-stay-free, undone-keeps}
use Rattle.sat_world.proofs.world_laws.Goals as goal

pub returns : goal.returns
returns c = record { flags = flags-stay-free; undone = undone-keeps }
