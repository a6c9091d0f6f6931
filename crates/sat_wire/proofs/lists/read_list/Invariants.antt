use Rattle.std.proofs.Common.{◌≡◌, ◌-◌}
use Rattle.sat_wire.specs.Code.{read_members, with_front}
use Rattle.sat_wire.proofs.lists.read_list.Given as goal

abbrev pub invariant-members : goal.invariant-members
invariant-members g l = with_front l.items (read_members g.T.Wire.code (l.count - l.number) l.rest) ≡ read_members g.T.Wire.code l.count l.bytes
