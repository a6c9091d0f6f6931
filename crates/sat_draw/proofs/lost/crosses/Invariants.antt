use Rattle.std.proofs.Common.{◌≡◌, take}
use Rattle.sat_draw.specs.Lost.{crosses_by}
use Rattle.sat_draw.specs.Tracks.{spot_by}
use Rattle.sat_draw.proofs.lost.crosses.Given as goal

abbrev pub invariant-loop-sending : goal.invariant-loop-sending
invariant-loop-sending l = l.all.items ≡ crosses_by (spot_by l.under_way) (take l.sending-index l.sendings)
