use Rattle.std.proofs.Common.{refl}
use Rattle.sat_world.proofs.Counted.{plainly}
use Rattle.sat_world.proofs.Beats.{beat-handed, did-not-beat}
use Rattle.sat_world.proofs.Deeds.{lane-site}
use Rattle.sat_world.proofs.Goes.{local-goes}
use Rattle.sat_world.proofs.Hands.{fit-here}
use Rattle.sat_world.proofs.Runs.{seen-as, stays}
use Rattle.sat_world.proofs.world.World.beat_in.Goals as goal

pub made_beat-requires : goal.made_beat-requires
made_beat-requires c = lane-site _ _ _ _ _ c.self.view_is c.self.invariant c.requires.0.0 c.index-sender.ensures c.requires.0.1

pub returns-in_default-clause-applies : goal.returns-in_default-clause-applies
returns-in_default-clause-applies c = plainly _ _ _ _ _ c.self.view_is c.self.invariant c.requires refl refl
    (did-not-beat _ _ _ _ _ _ c.self.view_is c.self.invariant c.requires.0.0 c.requires.0.1 c.index-sender.ensures c.in_default.ensures.beat)

pub step_at-requires-clause-fits : goal.step_at-requires-clause-fits
step_at-requires-clause-fits c = fit-here _ _ _ _ _ c.self.view_is c.self.invariant c.requires
    (beat-handed _ _ _ _ _ _ _ _ c.self.view_is c.self.invariant c.requires.0.0 c.requires.0.1 c.index-sender.ensures c.in-Some.ensures.sound c.in-Some.ensures.beat c.in_ok-beat.ensures c.if-number.false)

pub invariant_of-self-2 : goal.invariant_of-self-2
invariant_of-self-2 c = stays _ _ _ _ _ c.self.view_is c.self.invariant c.requires refl
    (local-goes _ _ _ _ _ _ c.self.invariant.frame refl (beat-handed _ _ _ _ _ _ _ _ c.self.view_is c.self.invariant c.requires.0.0 c.requires.0.1 c.index-sender.ensures c.in-Some.ensures.sound c.in-Some.ensures.beat c.in_ok-beat.ensures c.if-number.false) c.in_ok-answer.ensures.ok)

pub returns-clause-applies : goal.returns-clause-applies
returns-clause-applies c = plainly _ _ _ _ _ c.self.view_is c.self.invariant c.requires refl refl
    (seen-as _ _ _ _ _ c.self.view_is
    (local-goes _ _ _ _ _ _ c.self.invariant.frame refl (beat-handed _ _ _ _ _ _ _ _ c.self.view_is c.self.invariant c.requires.0.0 c.requires.0.1 c.index-sender.ensures c.in-Some.ensures.sound c.in-Some.ensures.beat c.in_ok-beat.ensures c.if-number.false) c.in_ok-answer.ensures.ok))
