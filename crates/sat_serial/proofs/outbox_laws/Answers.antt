use Rattle.sat_serial.proofs.Boxes.{each-outbox}
use Rattle.sat_serial.proofs.outbox_laws.Goals as goal

pub returns : goal.returns
returns c = each-outbox
