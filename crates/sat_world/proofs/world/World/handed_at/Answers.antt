use Rattle.std.proofs.Common.{refl}
use Rattle.sat_site.specs.declared.input.SiteInput.TheVariants as input
use Rattle.sat_world.proofs.Reaching.{reach-as, reach-here, reach-in, reach-nowhere}
use Rattle.sat_world.proofs.world.World.handed_at.Goals as goal

pub returns-in-Tick : goal.returns-in-Tick
returns-in-Tick c = reach-here _ _ _ _ (input.Tick _ _) c.self.view_is c.self.invariant c.requires c.in-Tick.is refl

pub returns-in-Gather : goal.returns-in-Gather
returns-in-Gather c = reach-here _ _ _ _ input.Gather c.self.view_is c.self.invariant c.requires c.in-Gather.is refl

pub returns-in-Emit : goal.returns-in-Emit
returns-in-Emit c = reach-here _ _ _ _ input.Emit c.self.view_is c.self.invariant c.requires c.in-Emit.is refl

pub returns-in-Pulse : goal.returns-in-Pulse
returns-in-Pulse c = reach-here _ _ _ _ input.Pulse c.self.view_is c.self.invariant c.requires c.in-Pulse.is refl

pub returns-in-Beat : goal.returns-in-Beat
returns-in-Beat c = reach-here _ _ _ _ (input.Beat _) c.self.view_is c.self.invariant c.requires c.in-Beat.is refl

pub returns-in-Stamp : goal.returns-in-Stamp
returns-in-Stamp c = reach-here _ _ _ _ input.Stamp c.self.view_is c.self.invariant c.requires c.in-Stamp.is refl

pub returns-in-Close : goal.returns-in-Close
returns-in-Close c = reach-here _ _ _ _ input.Close c.self.view_is c.self.invariant c.requires c.in-Close.is refl

pub returns-in-Fall : goal.returns-in-Fall
returns-in-Fall c = reach-here _ _ _ _ input.Fall c.self.view_is c.self.invariant c.requires c.in-Fall.is refl

pub returns-in-Advance : goal.returns-in-Advance
returns-in-Advance c = reach-here _ _ _ _ input.Advance c.self.view_is c.self.invariant c.requires c.in-Advance.is refl

pub returns-in-Clock : goal.returns-in-Clock
returns-in-Clock c = reach-nowhere _ _ _ c.in-Clock.is refl

pub returns-in-Leave : goal.returns-in-Leave
returns-in-Leave c = reach-nowhere _ _ _ c.in-Leave.is refl

pub returns-in-Hop : goal.returns-in-Hop
returns-in-Hop c = reach-nowhere _ _ _ c.in-Hop.is refl

pub returns-in-Kill : goal.returns-in-Kill
returns-in-Kill c = reach-nowhere _ _ _ c.in-Kill.is refl

pub returns-in-Settle : goal.returns-in-Settle
returns-in-Settle c = reach-nowhere _ _ _ c.in-Settle.is refl

pub returns-in-Read : goal.returns-in-Read
returns-in-Read c = reach-as _ _ _ _ c.in-Read.is c.handed_read.ensures

pub returns-in-Move : goal.returns-in-Move
returns-in-Move c = reach-as _ _ _ _ c.in-Move.is c.handed_move.ensures

pub returns-in-Attach : goal.returns-in-Attach
returns-in-Attach c = reach-as _ _ _ _ c.in-Attach.is c.handed_attach.ensures

pub returns-in-Turn : goal.returns-in-Turn
returns-in-Turn c = reach-as _ _ _ _ c.in-Turn.is c.handed_turn.ensures

pub returns-in-Write : goal.returns-in-Write
returns-in-Write c = reach-in _ _ _ c.handed_one.result c.in-Write.is c.handed_one.ensures

pub returns-in-Writes : goal.returns-in-Writes
returns-in-Writes c = reach-in _ _ _ c.handed_many.result c.in-Writes.is c.handed_many.ensures

pub returns-in-Bulk : goal.returns-in-Bulk
returns-in-Bulk c = reach-in _ _ _ c.handed_bulk.result c.in-Bulk.is c.handed_bulk.ensures

pub returns-in-BeatIn : goal.returns-in-BeatIn
returns-in-BeatIn c = reach-in _ _ _ c.handed_beat.result c.in-BeatIn.is c.handed_beat.ensures
