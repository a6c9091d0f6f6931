use Rattle.std.proofs.Common.{refl}
use Rattle.sat_world.proofs.Counted.{plainly}
use Rattle.sat_world.proofs.Deeds.{lane-site, lane-gear, did-not-bulk, bulk-handed}
use Rattle.sat_world.proofs.Goes.{local-goes}
use Rattle.sat_world.proofs.Hands.{fit-here}
use Rattle.sat_world.proofs.Runs.{seen-as, stays}
use Rattle.sat_world.proofs.world.World.bulk.Goals as goal

pub payload_number-number-requires-clause-from : goal.payload_number-number-requires-clause-from
payload_number-number-requires-clause-from c = lane-site _ _ _ _ _ c.self.view_is c.self.invariant c.requires.0.1 c.index-receiver.ensures c.requires.0.0

pub payload_number-number-requires-clause-gear : goal.payload_number-number-requires-clause-gear
payload_number-number-requires-clause-gear c = lane-gear _ _ _ _ _ c.self.view_is c.self.invariant c.requires.0.1 c.index-receiver.ensures c.requires.1

pub payload-requires-clause-gear : goal.payload-requires-clause-gear
payload-requires-clause-gear c = lane-gear _ _ _ _ _ c.self.view_is c.self.invariant c.requires.0.0 c.index-sender.ensures c.requires.1

pub payload-requires-clause-site : goal.payload-requires-clause-site
payload-requires-clause-site c = lane-site _ _ _ _ _ c.self.view_is c.self.invariant c.requires.0.0 c.index-sender.ensures c.requires.0.1

pub returns-in_default-clause-applies : goal.returns-in_default-clause-applies
returns-in_default-clause-applies c = plainly _ _ _ _ _ c.self.view_is c.self.invariant c.requires refl refl
    (did-not-bulk _ _ _ _ _ _ _ _ _ c.self.view_is c.self.invariant c.requires.0.0 c.requires.0.1 c.index-sender.ensures c.index-receiver.ensures c.payload_number-number.ensures.number c.in_default.ensures.payload)

pub bulk_at-requires-clause-fits : goal.bulk_at-requires-clause-fits
bulk_at-requires-clause-fits c = fit-here _ _ _ _ _ c.self.view_is c.self.invariant c.requires
    (bulk-handed _ _ _ _ _ _ _ _ _ _ _ c.self.view_is c.self.invariant c.requires.0.0 c.requires.0.1 c.index-sender.ensures c.index-receiver.ensures c.payload_number-number.ensures.number c.in-Some.ensures.payload c.in_ok-payload.ensures c.if-number.false)

pub invariant_of-self-2 : goal.invariant_of-self-2
invariant_of-self-2 c = stays _ _ _ _ _ c.self.view_is c.self.invariant c.requires refl
    (local-goes _ _ _ _ _ _ c.self.invariant.frame refl (bulk-handed _ _ _ _ _ _ _ _ _ _ _ c.self.view_is c.self.invariant c.requires.0.0 c.requires.0.1 c.index-sender.ensures c.index-receiver.ensures c.payload_number-number.ensures.number c.in-Some.ensures.payload c.in_ok-payload.ensures c.if-number.false) c.in_ok-answer.ensures.ok)

pub returns-clause-applies : goal.returns-clause-applies
returns-clause-applies c = plainly _ _ _ _ _ c.self.view_is c.self.invariant c.requires refl refl
    (seen-as _ _ _ _ _ c.self.view_is
    (local-goes _ _ _ _ _ _ c.self.invariant.frame refl (bulk-handed _ _ _ _ _ _ _ _ _ _ _ c.self.view_is c.self.invariant c.requires.0.0 c.requires.0.1 c.index-sender.ensures c.index-receiver.ensures c.payload_number-number.ensures.number c.in-Some.ensures.payload c.in_ok-payload.ensures c.if-number.false) c.in_ok-answer.ensures.ok))
