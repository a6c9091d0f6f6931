use Rattle.std.proofs.Common.{Some, ap, ◌∙◌}
use Rattle.sat_sink.specs.Sink.{ready_of}
use Rattle.sat_site.specs.Seen.{SiteSeen}
use Rattle.sat_site.proofs.Hubs.{emit-site, known-emit}
use Rattle.sat_site.proofs.site.Site.emit_known.Goals as goal

pub emit_known-requires : goal.emit_known-requires
emit_known-requires c = ap (λ (x : SiteSeen). ready_of x.sink) c.self.view_is ∙ c.requires

pub invariant_of-self : goal.invariant_of-self
invariant_of-self c = emit-site _ _ (Some c.args.label) _ c.self.invariant c.limits_of.ensures c.emit_known.ensures

pub returns : goal.returns
returns c = known-emit _ _ _ _ c.args.label c.self.view_is c.requires c.emit_known.ensures
