use Rattle.sat_live.proofs.Reruns.{only_settled}
use Rattle.sat_live.proofs.telling.settled.Goals as goal

pub unreachable-requires : goal.unreachable-requires
unreachable-requires c = only_settled c.args.world.now.deployment c.requires.0 c.in_ok-answer.answer (c.in_ok-answer.ensures.answer c.requires.0 c.requires.1 c.requires.2) c.in_default.not-Settled
