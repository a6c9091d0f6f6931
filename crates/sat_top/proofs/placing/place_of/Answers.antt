use Rattle.std.proofs.Common.{refl}
use Rattle.sat_top.proofs.Placements.{placed, unplaced, best_is}
use Rattle.sat_top.proofs.placing.place_of.Goals as goal

pub returns-in_ok-text-in-Ok : goal.returns-in_ok-text-in-Ok
returns-in_ok-text-in-Ok c =
    placed c.args.bytes.now _ c.in_ok-text-in-Ok.text.items 0 c.in-Ok.ensures.ok c.in_ok-text-in-Ok.ensures refl
    (best_is _ _ _ _ c.in_ok-placed-in-Ok.ensures.least c.in_ok-placed-in-Ok.ensures.found)

pub returns-in_ok-output-in-Err : goal.returns-in_ok-output-in-Err
returns-in_ok-output-in-Err c =
    let made = c.in_ok-output-in-Err.ensures in
    unplaced c.args.bytes.now c.in-Err.fault c.in_ok-output-in-Err.output.text.items c.in_ok-output-in-Err.output.status (c.in-Err.ensures.err made.0) made.1 made.2
