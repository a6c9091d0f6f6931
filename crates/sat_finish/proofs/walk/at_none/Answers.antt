use Rattle.std.proofs.Common.{◌*◌, ◌+◌}
use Rattle.sat_finish.proofs.Walks.{none-ends}
use Rattle.sat_finish.proofs.walk.at_none.Goals as goal

pub returns : goal.returns
returns g c =
    none-ends c.args.d.now c.args.hubs.now c.args.gears.now c.requires c.args.site c.args.gear (c.args.site * c.gears.result + c.args.gear) c.gears-2.result c.in_ok-own.own.now c.of_strays.result c.gears-2.ensures.gears c.in_ok-own.ensures.there c.in_ok-own.ensures.name c.of_strays.ensures
