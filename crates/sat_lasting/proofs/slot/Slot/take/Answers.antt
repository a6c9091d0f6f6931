use Rattle.sat_lasting.proofs.Slotting.{err-is, five-head, five-short, took-done, took-failed}
use Rattle.sat_lasting.proofs.slot.Slot.take.Goals as goal

pub append-requires-clause-head : goal.append-requires-clause-head
append-requires-clause-head c = five-head _ _ _ c.in_ok-begin.ensures c.in_ok-put_body.ensures.body

pub append-requires-clause-short : goal.append-requires-clause-short
append-requires-clause-short c = five-short _ _ _ c.in_ok-begin.ensures c.in_ok-put_body.ensures.body c.put_body.ensures.short

pub returns-in-Ok : goal.returns-in-Ok
returns-in-Ok c =
    took-done c.args.input.now c.args.self.now _ _ _ c.put_body.ensures.again c.in_ok-begin.ensures c.in_ok-put_body.ensures.body
    c.in-Ok.ensures.whole c.in-Ok.ensures.added c.in-Ok.ensures.synced c.in-Ok.ensures.told

pub returns-in-Err-Disk : goal.returns-in-Err-Disk
returns-in-Err-Disk c = took-failed c.args.input.now c.args.self.now (record { journal = c.append.new.self }) _ _ c.put_body.ensures.again c.in_ok-begin.ensures c.in_ok-put_body.ensures.body (c.append.ensures.cut (err-is _ _ _ c.in-Err-Disk.is c.in-Err-Disk.field-0-is))
