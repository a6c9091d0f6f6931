use Rattle.std.proofs.Common.{◌≡◌, ◌+◌, ◌*◌, ◌≤◌, true, length, drop}
use Rattle.std.specs.List.{flat_map}
use Rattle.sat_wire.specs.Code.{all_fit}
use Rattle.sat_wire.specs.Payloads.{part}
use Rattle.sat_wire.proofs.payloads.parts_size.Given as goal

abbrev pub invariant-parts : goal.invariant-parts
invariant-parts l = record {
  sum : l.size + length (flat_map part.spell (drop l.place l.payload.values)) ≡ length (flat_map part.spell l.payload.values);
  fit : all_fit part (drop l.place l.payload.values) ≡ true → all_fit part l.payload.values ≡ true;
  small : l.size ≤ l.place * 259;
}
