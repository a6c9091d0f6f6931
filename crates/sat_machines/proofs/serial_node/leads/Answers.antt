use Rattle.sat_serial.proofs.Ways.{meets-leads}
use Rattle.sat_machines.proofs.serial_node.leads.Goals as goal

pub returns : goal.returns
returns c =
    meets-leads c.meets.result c.targets-targets.result.bits c.beyond-beyond.result.bits c.args.interest.now c.args.tree.now c.args.from c.args.to c.args.label.now
    c.requires.sites c.targets-targets.ensures.targets c.beyond-beyond.ensures.beyond c.meets.ensures
