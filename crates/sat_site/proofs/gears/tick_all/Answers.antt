use Rattle.std.proofs.Common.{ap, sym, ◌∙◌, set, arith}
use Rattle.std.proofs.lemmas.List.Edits.{map_over_more}
use Rattle.sat_site.specs.Changes.{ticked_to}
use Rattle.sat_site.proofs.gears.tick_all.Goals as goal

pub loop-gear-preserved : goal.loop-gear-preserved
loop-gear-preserved c =
    ap (set c.loop-gear.gears c.loop-gear.gear-index) (c.tick.ensures.new ∙ ap (ticked_to c.args.ts) (sym c.gear-item.is))
    ∙ map_over_more (ticked_to c.args.ts) c.args.gears.now c.loop-gear.gears c.loop-gear.gear-index c.gear-item.result (omega arith) c.loop-gear.invariant c.gear-item.is
