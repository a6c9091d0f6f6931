use Rattle.std.specs.Prelude.{◌<◌, length, refl}
use Rattle.std.proofs.Common.{arith}
use Rattle.std.proofs.lemmas.List.{get_or_default}
use Rattle.sat_verdict.specs.Tables.{scan}
use Rattle.sat_verdict.proofs.Freshly.{miss-step}
use Rattle.sat_verdict.proofs.reads.least_miss.Goals as goal

pub loop-at-init : goal.loop-at-init
unfolding scan
loop-at-init c = refl

pub loop-at-preserved : goal.loop-at-preserved
loop-at-preserved c =
    let l : c.loop-at.at < length c.args.tales.now = omega (arith, c.loop-at-test.true, c.requires.place) in
    miss-step c.args.tales.now c.args.numbers.now c.args.rows.now c.args.place c.args.item c.args.read c.loop-at.at _ c.loop-at.least c.miss-found.result c.lower-least.result
    c.loop-at-test.true c.requires.place (get_or_default c.args.tales.now c.loop-at.at _ _ l) c.loop-at.invariant c.miss-found.ensures c.lower-least.ensures
