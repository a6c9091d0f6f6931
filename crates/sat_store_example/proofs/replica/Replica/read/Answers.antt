use Rattle.std.proofs.Common.{subst, sym}
use Rattle.sat_act.specs.declared.answer.Answer.{Answer}
use Rattle.sat_site.specs.SiteSteps.{site_after}
use Rattle.sat_store_example.specs.Replicas.{MayTell}
use Rattle.sat_store_example.proofs.Told.{read-told}
use Rattle.sat_store_example.proofs.replica.Replica.read.Goals as goal

pub tell-requires : goal.tell-requires
tell-requires c = subst (λ (r : Answer). MayTell r c.args.client.now) (sym c.in_ok-answer.ensures.answer) (read-told c.args.self.now.site c.args.client.now c.args.client.now.carried c.args.item)

pub returns-clause-replica : goal.returns-clause-replica
unfolding site_after
returns-clause-replica c = c.in_ok-answer.ensures.after
