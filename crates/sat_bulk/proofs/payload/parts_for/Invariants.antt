use Rattle.std.proofs.Common.{◌≡◌, map, take}
use Rattle.sat_bulk.specs.Payloads.{version_for}
use Rattle.sat_bulk.proofs.payload.parts_for.Given as goal

abbrev pub invariant-loop-value : goal.invariant-loop-value
invariant-loop-value l = l.parts.items ≡ map (version_for l.label) (take l.value-index l.values)
