use Rattle.std.proofs.Common.{◌≡◌, ◌+◌, ◌*◌, ◌≤◌, true, length}
use Rattle.std.specs.List.{flat_map}
use Rattle.sat_wire.specs.Code.{all_fit}
use Rattle.sat_wire.proofs.lists.members_size.Given as goal

abbrev pub invariant-members : goal.invariant-members
invariant-members g l = record {
  sum : l.size + length (flat_map g.T.Wire.code.spell l.rest) ≡ length (flat_map g.T.Wire.code.spell l.items);
  fit : all_fit g.T.Wire.code l.rest ≡ true → all_fit g.T.Wire.code l.items ≡ true;
  small : l.size + length l.rest * 4294967296 ≤ length l.items * 4294967296;
}

abbrev pub decreases-members : goal.decreases-members
decreases-members g l = length l.rest
