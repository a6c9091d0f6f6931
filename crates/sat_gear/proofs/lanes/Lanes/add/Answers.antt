use Rattle.sat_label.specs.Words.{bit}
use Rattle.sat_gear.proofs.Spreads.{none_meets, none_passes}
use Rattle.sat_gear.proofs.lanes.Lanes.add.Goals as goal

pub returns-then-not-meets-clause-ok : goal.returns-then-not-meets-clause-ok
returns-then-not-meets-clause-ok c = none_passes _ _ 0 _ (none_meets c.meets.result (bit c.args.targets.bits) c.meets.ensures c.if-not-meets.true)
