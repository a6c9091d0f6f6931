use Rattle.std.proofs.Common.{◌-◌, arith}
use Rattle.sat_wire.specs.Code.{read_members}
use Rattle.sat_wire.proofs.Members.{fault_of, members_stopped}
use Rattle.sat_wire.proofs.lists.read_members.Goals as goal

pub returns-in_err-item-clause-err : goal.returns-in_err-item-clause-err
returns-in_err-item-clause-err g c =
    let left = c.args.count - c.members.number in
    fault_of c.from_residual.result c.in_err-item.field-0.0 (read_members g.T.Wire.code c.args.count c.args.bytes.now) c.from_residual.ensures.1
    (members_stopped g.T.Wire.code c.members.items.items c.members.rest.now left (left - 1) c.in_err-item.field-0.0 (read_members g.T.Wire.code c.args.count c.args.bytes.now)
    (omega arith) c.members.invariant c.in_err-item.ensures.err)
