use Rattle.std.proofs.Common.{◌≡◌, refl, subst, sym, IfOk}
use Rattle.sat_proxy.specs.Answers.{bulk_answer}
use Rattle.sat_proxy.specs.Steps.{after_bulk}
use Rattle.sat_hub.specs.Seen.{HubSeen}
use Rattle.sat_site.specs.Inputs.{BulkFits}
use Rattle.sat_site.specs.Seen.{SiteSeen}
use Rattle.sat_site.proofs.Hubs.{err-by, ok-by, result-site}
use Rattle.sat_site.proofs.site.Site.bulk.Goals as goal

pub bulk-answer-requires : goal.bulk-answer-requires
bulk-answer-requires c = subst (λ (x : SiteSeen). BulkFits x c.args.from c.args.gear c.args.number c.args.payload) (sym c.self.view_is) c.requires

pub invariant_of-self : goal.invariant_of-self
invariant_of-self c = result-site c.bulk-answer.result _ _ _ _ c.self.invariant c.limits_of.ensures c.bulk-answer.ensures.after c.bulk-answer.ensures.err refl refl

pub returns-clause-answer : goal.returns-clause-answer
returns-clause-answer c = subst (λ (x : SiteSeen). IfOk c.bulk-answer.result (λ answer. answer ≡ bulk_answer x.proxy c.args.from c.args.gear c.args.number c.args.payload.label)) c.self.view_is c.bulk-answer.ensures.answer

pub returns-clause-after : goal.returns-clause-after
returns-clause-after c = ok-by c.bulk-answer.result _ _ _ _ (λ (y : HubSeen). record y { proxy = after_bulk y.proxy c.args.from c.args.gear c.args.number c.args.payload }) c.self.view_is c.bulk-answer.ensures.after

pub returns-clause-err : goal.returns-clause-err
returns-clause-err c = err-by c.bulk-answer.result _ _ _ _ c.self.view_is c.bulk-answer.ensures.err
