use Rattle.std.proofs.Common.{List, take, sym, subst}
use Rattle.sat_act.specs.declared.entry.Entry.{Entry}
use Rattle.sat_undone.specs.Counted.{AreTallies}
use Rattle.sat_undone.proofs.Tables.{front-next}
use Rattle.sat_undone.proofs.lacking.tallies.Goals as goal

pub loop-place-preserved : goal.loop-place-preserved
loop-place-preserved c =
    subst (λ (es : List Entry). AreTallies c.args.clients es c.count_entry.new.tallies.items)
    (sym (front-next c.args.entries.now c.loop-place.place c.index-entries-place.result c.loop-place-test.true c.index-entries-place.is))
    (c.count_entry.ensures (take c.loop-place.place c.args.entries.now) c.loop-place.invariant)
