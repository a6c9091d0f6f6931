use Rattle.std.proofs.Common.{subst, sym}
use Rattle.sat_act.specs.declared.answer.Answer.{Answer}
use Rattle.sat_store_example.specs.Replicas.{MayTell}
use Rattle.sat_store_example.proofs.Told.{moved-told}
use Rattle.sat_store_example.proofs.replica.Replica.migrate.Goals as goal

pub tell-requires : goal.tell-requires
tell-requires c = subst (λ (r : Answer). MayTell r c.args.client.now) (sym c.in_ok-answer.ensures.answer) (moved-told c.args.self.now.site c.args.client.now c.args.to)
