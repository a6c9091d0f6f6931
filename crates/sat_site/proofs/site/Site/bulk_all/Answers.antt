use Rattle.std.proofs.Common.{refl, subst, sym}
use Rattle.sat_site.specs.Inputs.{BulksFit}
use Rattle.sat_site.specs.Seen.{SiteSeen}
use Rattle.sat_site.proofs.Bulked.{bulks-on}
use Rattle.sat_site.proofs.Hubs.{made-site}
use Rattle.sat_site.proofs.site.Site.bulk_all.Goals as goal

pub bulk_all-count-requires : goal.bulk_all-count-requires
bulk_all-count-requires c = subst (λ (x : SiteSeen). BulksFit x c.args.from c.args.gear c.args.first c.args.payloads.items) (sym c.self.view_is) c.requires

pub invariant_of-self : goal.invariant_of-self
invariant_of-self c = made-site _ _ _ _ c.self.invariant c.limits_of.ensures c.bulk_all-count.ensures.after refl refl

pub returns-clause-steps : goal.returns-clause-steps
returns-clause-steps c = bulks-on _ _ _ _ c.args.from c.args.gear c.args.first c.bulk_all-count.result c.args.payloads.items c.self.view_is c.self.invariant c.requires c.bulk_all-count.ensures.count c.bulk_all-count.ensures.after c.bulk_all-count.ensures.next
