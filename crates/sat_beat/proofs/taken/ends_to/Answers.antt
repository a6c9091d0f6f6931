use Rattle.std.proofs.lemmas.Bool.{leb-true}
use Rattle.sat_beat.proofs.taken.ends_to.Goals as goal

pub returns-in-Some : goal.returns-in-Some
returns-in-Some c e = ((c.in-Some.last.now, c.in-Some.field-0-1.now), c.in-Some.ensures.last, leb-true c.in-Some.last.now c.args.number e)
