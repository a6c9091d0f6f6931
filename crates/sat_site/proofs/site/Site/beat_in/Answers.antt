use Rattle.std.proofs.Common.{◌≡◌, ◌<◌, length, refl, subst, sym, IfOk}
use Rattle.sat_proxy.specs.Answers.{beat_answer}
use Rattle.sat_proxy.specs.Steps.{after_beat}
use Rattle.sat_hub.specs.Seen.{HubSeen}
use Rattle.sat_site.specs.Seen.{SiteSeen}
use Rattle.sat_site.proofs.Hubs.{err-by, ok-by, result-site}
use Rattle.sat_site.proofs.site.Site.beat_in.Goals as goal

pub beat_in-answer-requires-clause-from : goal.beat_in-answer-requires-clause-from
beat_in-answer-requires-clause-from c = subst (λ (x : SiteSeen). c.args.from < x.shape.sites) (sym c.self.view_is) c.requires.from

pub beat_in-answer-requires-clause-counts : goal.beat_in-answer-requires-clause-counts
beat_in-answer-requires-clause-counts c = subst (λ (x : SiteSeen). length c.args.beat.counts ≡ x.shape.gears) (sym c.self.view_is) c.requires.counts

pub invariant_of-self : goal.invariant_of-self
invariant_of-self c = result-site c.beat_in-answer.result _ _ _ _ c.self.invariant c.limits_of.ensures c.beat_in-answer.ensures.after c.beat_in-answer.ensures.err refl refl

pub returns-clause-answer : goal.returns-clause-answer
returns-clause-answer c = subst (λ (x : SiteSeen). IfOk c.beat_in-answer.result (λ answer. answer ≡ beat_answer x.proxy c.args.from c.args.number)) c.self.view_is c.beat_in-answer.ensures.answer

pub returns-clause-after : goal.returns-clause-after
returns-clause-after c = ok-by c.beat_in-answer.result _ _ _ _ (λ (y : HubSeen). record y { proxy = after_beat y.proxy c.args.from c.args.number c.args.beat }) c.self.view_is c.beat_in-answer.ensures.after

pub returns-clause-err : goal.returns-clause-err
returns-clause-err c = err-by c.beat_in-answer.result _ _ _ _ c.self.view_is c.beat_in-answer.ensures.err
