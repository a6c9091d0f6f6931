use Rattle.std.proofs.Common.{◌≡◌, ◌++◌, ◌+◌, ◌≤◌, true, length}
use Rattle.std.specs.Prelude.{vec_capacity}
use Rattle.std.specs.List.{flat_map}
use Rattle.sat_wire.specs.Code.{all_fit}
use Rattle.sat_wire.proofs.lists.write_members.Given as goal

abbrev pub invariant-members : goal.invariant-members
invariant-members g l = record {
  written : l.out.items ++ flat_map g.T.Wire.code.spell l.rest ≡ l.fn.out.items ++ flat_map g.T.Wire.code.spell l.items;
  fit : all_fit g.T.Wire.code l.rest ≡ true;
  room : length l.out.items + length (flat_map g.T.Wire.code.spell l.rest) ≤ vec_capacity l.out;
  capacity : vec_capacity l.fn.out ≤ vec_capacity l.out;
}

abbrev pub decreases-members : goal.decreases-members
decreases-members g l = length l.rest
