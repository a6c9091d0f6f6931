use Rattle.std.proofs.Common.{◌≡◌, ◌<◌, get_or, length, ap, sym, ◌∙◌, arith}
use Rattle.sat_sink.specs.Sink.{Sink, IsDrainOf}
use Rattle.sat_sink.proofs.Fits.{one-more, read-at}
use Rattle.sat_sink.proofs.sink.LabelSink.may_gather.Goals as goal

pub loop-gear-preserved : goal.loop-gear-preserved
loop-gear-preserved c =
    let low : c.loop-gear.gear < length c.self.inside.promises.items = omega arith in
    let own : c.args.self.now.site ≡ c.self.inside.site = ap (λ (s : Sink). s.site) (sym c.self.view_is) in
    let same : get_or c.args.self.now.promises c.loop-gear.gear 0 ≡ c.index.result.now =
    ap (λ (s : Sink). get_or s.promises c.loop-gear.gear 0) (sym c.self.view_is) ∙ read-at c.self.inside.promises.items c.loop-gear.gear c.index.result.now 0 low c.index.ensures in
    one-more c.args.self.now c.loop-gear.gear c.args.drained.now c.index-drained-gear.result (omega arith) c.index-drained-gear.is ((c.goes_on.ensures c.args.self.now own same).0 c.if-not-goes_on.false) c.loop-gear.invariant
