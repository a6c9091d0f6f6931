use Rattle.std.proofs.Common.{◌≡◌, ◌++◌, ◌+◌, ◌≤◌, true, length, drop}
use Rattle.std.specs.Prelude.{vec_capacity}
use Rattle.std.specs.List.{flat_map}
use Rattle.sat_wire.specs.Code.{all_fit}
use Rattle.sat_wire.specs.Payloads.{part}
use Rattle.sat_wire.proofs.payloads.write_parts.Given as goal

abbrev pub invariant-parts : goal.invariant-parts
invariant-parts l = record {
  written : l.out.items ++ flat_map part.spell (drop l.place l.payload.values) ≡ l.fn.out.items ++ flat_map part.spell l.payload.values;
  fit : all_fit part (drop l.place l.payload.values) ≡ true;
  room : length l.out.items + length (flat_map part.spell (drop l.place l.payload.values)) ≤ vec_capacity l.out;
  capacity : vec_capacity l.fn.out ≤ vec_capacity l.out;
}
