use Rattle.std.proofs.Common.{rules, ◌≡◌, ◌<◌, false, sym, slice_get}
use Rattle.sat_epoch.proofs.AllBelow.{all_stops}
use Rattle.sat_hub.specs.Inputs.{is_cut_here}
use Rattle.sat_hub.proofs.fitting.are_cuts.Goals as goal

pub returns-then-not-is_cut : goal.returns-then-not-is_cut
returns-then-not-is_cut c =
    let fails : is_cut_here c.args.shape.now (slice_get c.args.closes.now c.loop-place.place) ≡ false = search rules in
    let low : c.loop-place.place < c.args.epochs = search rules in
    sym (all_stops (λ n. is_cut_here c.args.shape.now (slice_get c.args.closes.now n)) c.loop-place.place c.args.epochs fails low)
