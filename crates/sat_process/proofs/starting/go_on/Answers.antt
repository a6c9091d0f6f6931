use Rattle.sat_process.proofs.starting.go_on.Goals as goal

pub invariant_of-result : goal.invariant_of-result
invariant_of-result g c = (record { keeps = c.in-Ok.ensures.keeps _ c.requires.journal; fed = c.requires.fed }, c.requires.deployment)
