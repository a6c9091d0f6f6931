use Rattle.std.proofs.Common.{ap, sym, ◌∙◌, set, arith}
use Rattle.std.proofs.lemmas.List.Edits.{map_over_more}
use Rattle.sat_gear.specs.Gear.{after_drain}
use Rattle.sat_site.proofs.gears.drain_all.Goals as goal

pub loop-gear-preserved : goal.loop-gear-preserved
loop-gear-preserved c =
    ap (set c.loop-gear.gears c.loop-gear.gear-index) (c.drained.ensures ∙ ap after_drain (sym c.gear-item.is))
    ∙ map_over_more after_drain c.args.gears.now c.loop-gear.gears c.loop-gear.gear-index c.gear-item.result (omega arith) c.loop-gear.invariant c.gear-item.is
