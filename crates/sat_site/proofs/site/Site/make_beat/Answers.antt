use Rattle.std.proofs.Common.{◌≡◌, ◌<◌, length, refl, subst, sym, IfOk}
use Rattle.sat_act.specs.declared.answer.Answer.TheVariants as ans
use Rattle.sat_hub.specs.Changes.{beaten}
use Rattle.sat_hub.specs.Seen.{HubSeen}
use Rattle.sat_site.specs.Changes.{made_for}
use Rattle.sat_site.specs.Seen.{SiteSeen}
use Rattle.sat_site.proofs.Hubs.{err-by, ok-by, result-site}
use Rattle.sat_site.proofs.site.Site.make_beat.Goals as goal

pub make_beat-answer-requires : goal.make_beat-answer-requires
make_beat-answer-requires c = subst (λ (x : SiteSeen). c.args.to < x.shape.sites) (sym c.self.view_is) c.requires

pub invariant_of-self : goal.invariant_of-self
invariant_of-self c = result-site c.make_beat-answer.result _ _ _ _ c.self.invariant c.limits_of.ensures c.make_beat-answer.ensures.after c.make_beat-answer.ensures.err refl refl

pub returns-clause-answer : goal.returns-clause-answer
returns-clause-answer c = subst (λ (x : SiteSeen). IfOk c.make_beat-answer.result (λ answer. answer ≡ ans.Beat (length (made_for x c.args.to)))) c.self.view_is c.make_beat-answer.ensures.answer

pub returns-clause-after : goal.returns-clause-after
returns-clause-after c = ok-by c.make_beat-answer.result _ _ _ _ (λ (y : HubSeen). beaten y c.args.to) c.self.view_is c.make_beat-answer.ensures.after

pub returns-clause-err : goal.returns-clause-err
returns-clause-err c = err-by c.make_beat-answer.result _ _ _ _ c.self.view_is c.make_beat-answer.ensures.err
