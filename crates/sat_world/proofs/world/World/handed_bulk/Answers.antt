use Rattle.std.proofs.Common.{refl}
use Rattle.sat_world.proofs.Deeds.{lane-site, lane-gear, bulk-handed}
use Rattle.sat_world.proofs.Reaching.{reach, reach-no-bulk}
use Rattle.sat_world.proofs.world.World.handed_bulk.Goals as goal

pub payload_number-number-requires-clause-from : goal.payload_number-number-requires-clause-from
payload_number-number-requires-clause-from c = lane-site _ _ _ _ _ c.self.view_is c.self.invariant c.requires.0.1 c.index-receiver.ensures c.requires.0.0

pub payload_number-number-requires-clause-gear : goal.payload_number-number-requires-clause-gear
payload_number-number-requires-clause-gear c = lane-gear _ _ _ _ _ c.self.view_is c.self.invariant c.requires.0.1 c.index-receiver.ensures c.requires.1

pub payload-requires-clause-gear : goal.payload-requires-clause-gear
payload-requires-clause-gear c = lane-gear _ _ _ _ _ c.self.view_is c.self.invariant c.requires.0.0 c.index-sender.ensures c.requires.1

pub payload-requires-clause-site : goal.payload-requires-clause-site
payload-requires-clause-site c = lane-site _ _ _ _ _ c.self.view_is c.self.invariant c.requires.0.0 c.index-sender.ensures c.requires.0.1

pub returns-in_default : goal.returns-in_default
returns-in_default c = reach-no-bulk _ _ _ _ _ _ _ _ _ c.self.view_is c.self.invariant c.requires.0.0 c.requires.0.1 c.index-sender.ensures c.index-receiver.ensures c.payload_number-number.ensures.number c.in_default.ensures.payload

pub returns : goal.returns
returns c = reach _ _ _ _ _ c.self.view_is c.self.invariant c.requires refl c.requires.0.1
    (bulk-handed _ _ _ _ _ _ _ _ _ _ _ c.self.view_is c.self.invariant c.requires.0.0 c.requires.0.1 c.index-sender.ensures c.index-receiver.ensures c.payload_number-number.ensures.number c.in-Some.ensures.payload c.in_ok-payload.ensures c.if-number.false)
