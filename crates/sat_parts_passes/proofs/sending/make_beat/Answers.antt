use Rattle.sat_parts_passes.proofs.Idling.{beaten_stays, beaten_told}
use Rattle.sat_parts_passes.proofs.sending.make_beat.Goals as goal

pub returns-clause-told : goal.returns-clause-told
returns-clause-told g c = beaten_told g.N.Laid.deployment _ c.args.to _ _ c.requires.to c.in_default.ensures.follows

pub returns-clause-stays : goal.returns-clause-stays
returns-clause-stays g c = beaten_stays g.N.Laid.deployment _ c.args.to _ _ c.in_default.ensures.follows
