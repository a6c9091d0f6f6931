use Rattle.sat_machines.proofs.Serials.{serial-fits}
use Rattle.sat_machines.proofs.serial_node.SerialNodeMachine.step.Goals as goal

pub returns-in_ok-both-in-Hop-clause-fits : goal.returns-in_ok-both-in-Hop-clause-fits
returns-in_ok-both-in-Hop-clause-fits g c = λ name s. serial-fits g.N.Laid.deployment name c.args.self.now s c.args.input _ _ c.sound.ensures.deployment c.requires
