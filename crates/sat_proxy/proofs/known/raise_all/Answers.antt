use Rattle.std.proofs.Common.{rules, ◌<◌, Option, set, ap, ◌∙◌}
use Rattle.sat_label.specs.declared.point.Point.{Point}
use Rattle.sat_model.specs.Next.{raised}
use Rattle.sat_proxy.specs.Helps.{cut_of, known_to}
use Rattle.sat_proxy.proofs.Raised.{raised_next}
use Rattle.sat_proxy.proofs.known.raise_all.Goals as goal

pub loop-site-preserved : goal.loop-site-preserved
loop-site-preserved c =
    let low : c.loop-site.site < c.args.sites = search rules in
    c.raise.ensures ∙
    (ap (λ (o : Option Point). set c.loop-site.last c.loop-site.site (raised (known_to c.loop-site.last c.loop-site.site) o)) c.cut_of.ensures ∙
    raised_next c.args.last.now c.loop-site.last (cut_of c.args.beats.now c.args.own c.args.close c.args.epoch) c.loop-site.site c.args.sites c.loop-site.invariant low)
