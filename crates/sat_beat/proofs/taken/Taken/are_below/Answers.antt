use Rattle.std.proofs.Common.{subst}
use Rattle.std.proofs.lemmas.Bool.{ltb-true}
use Rattle.sat_beat.specs.Beats.{TakenBeats}
use Rattle.sat_beat.specs.Rising.{AreBelow}
use Rattle.sat_beat.proofs.Last.{last_below}
use Rattle.sat_beat.proofs.taken.Taken.are_below.Goals as goal

pub returns-in-Some : goal.returns-in-Some
returns-in-Some c e =
    subst (λ (t : TakenBeats). AreBelow t.later c.args.number) c.self.view_is
    (last_below _ c.self.inside.later.entries (c.in-Some.last.now, c.in-Some.field-0-1.now) c.args.number c.self.invariant.taken c.in-Some.ensures.last (ltb-true c.in-Some.last.now c.args.number e))
