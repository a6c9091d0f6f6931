use Rattle.sat_process.specs.Starting.{Feeds}
use Rattle.sat_process.proofs.starting.feed.Given as goal

abbrev pub invariant-loop-number : goal.invariant-loop-number
invariant-loop-number g l = Feeds g.M.Hosted.asked g.M.Hosted.took l.bodies l.number l.initial.host l.host
