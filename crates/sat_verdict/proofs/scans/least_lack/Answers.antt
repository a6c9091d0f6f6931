use Rattle.std.specs.Prelude.{refl}
use Rattle.std.proofs.lemmas.List.{get_or_default}
use Rattle.sat_verdict.specs.Tables.{scan, table_lacks}
use Rattle.sat_verdict.proofs.Scanned.{scan-step, lack-item}
use Rattle.sat_verdict.proofs.scans.least_lack.Goals as goal

pub loop-place-init : goal.loop-place-init
unfolding scan
loop-place-init c = refl

pub loop-place-preserved : goal.loop-place-preserved
loop-place-preserved c =
    scan-step (table_lacks c.args.rows.now c.args.unshown.now c.args.numbers.now c.args.tales.now c.args.made c.args.site) c.loop-place.place c.loop-place.least c.lack-found.result c.lower-least.result c.loop-place.invariant
    (lack-item c.args.rows.now c.args.unshown.now c.args.numbers.now c.args.tales.now c.args.made c.args.site c.loop-place.place _ c.lack-found.result c.loop-place-test.true (get_or_default c.args.tales.now c.loop-place.place _ _ c.loop-place-test.true)
    c.lack-found.ensures)
    c.lower-least.ensures
