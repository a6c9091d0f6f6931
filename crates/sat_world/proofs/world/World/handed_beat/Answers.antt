use Rattle.std.proofs.Common.{refl}
use Rattle.sat_world.proofs.Beats.{beat-handed}
use Rattle.sat_world.proofs.Deeds.{lane-site}
use Rattle.sat_world.proofs.Reaching.{reach, reach-no-beat}
use Rattle.sat_world.proofs.world.World.handed_beat.Goals as goal

pub made_beat-requires : goal.made_beat-requires
made_beat-requires c = lane-site _ _ _ _ _ c.self.view_is c.self.invariant c.requires.0.0 c.index-sender.ensures c.requires.0.1

pub returns-in_default : goal.returns-in_default
returns-in_default c = reach-no-beat _ _ _ _ _ _ c.self.view_is c.self.invariant c.requires.0.0 c.requires.0.1 c.index-sender.ensures c.in_default.ensures.beat

pub returns : goal.returns
returns c = reach _ _ _ _ _ c.self.view_is c.self.invariant c.requires refl c.requires.0.1
    (beat-handed _ _ _ _ _ _ _ _ c.self.view_is c.self.invariant c.requires.0.0 c.requires.0.1 c.index-sender.ensures c.in-Some.ensures.sound c.in-Some.ensures.beat c.in_ok-beat.ensures c.if-number.false)
