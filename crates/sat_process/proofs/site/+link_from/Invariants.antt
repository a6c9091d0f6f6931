use Rattle.sat_process.proofs.site.+link_from.Given as goal

abbrev pub decreases-link_from : goal.decreases-link_from
decreases-link_from l = l.place
