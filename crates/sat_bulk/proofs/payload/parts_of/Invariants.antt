use Rattle.std.proofs.Common.{◌≡◌, map, take}
use Rattle.sat_bulk.specs.Payloads.{part_of}
use Rattle.sat_bulk.proofs.payload.parts_of.Given as goal

abbrev pub invariant-loop-value : goal.invariant-loop-value
invariant-loop-value l = l.parts.items ≡ map (part_of l.label) (take l.value-index l.values)
