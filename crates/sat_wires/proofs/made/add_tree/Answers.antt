use Rattle.std.proofs.Common.{map}
use Rattle.sat_opened.specs.Opened.{name_in}
use Rattle.sat_wires.proofs.Names.{serials_grow}
use Rattle.sat_wires.proofs.made.add_tree.Goals as goal

pub loop-number-preserved : goal.loop-number-preserved
loop-number-preserved g c =
    serials_grow (map name_in c.args.serials.now.items) c.args.epoch c.loop-number.number c.loop-number.serials.items c.push.new.self.items c.in_ok-held.held c.in_ok-push.ensures.items c.loop-number.invariant c.in_ok-held.ensures.name c.in_ok-held.ensures.fresh
