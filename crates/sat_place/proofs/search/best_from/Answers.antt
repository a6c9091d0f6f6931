use Rattle.std.proofs.Common.{ap}
use Rattle.sat_place.specs.Ways.{known}
use Rattle.sat_place.proofs.Costs.{known_small}
use Rattle.sat_place.proofs.Found.{worst_yields}
use Rattle.sat_place.proofs.search.best_from.Goals as goal

pub returns : goal.returns
returns c =
    worst_yields (known c.args.d.now c.args.ways.now) c.args.d.now.places c.args.left c.args.front.now c.worst.result c.in_ok-best.best
    (known_small c.args.d.now c.args.ways.now c.requires.ways) (ap (λ x. x.mismatch) c.worst.ensures) c.in_ok-best.ensures
