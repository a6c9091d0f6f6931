use Rattle.std.proofs.Common.{map}
use Rattle.sat_host.specs.Cursors.{next_of}
use Rattle.sat_host.proofs.Cursors.{slipped_cursors}
use Rattle.sat_host.proofs.host.Host.rewind.Goals as goal

pub invariant_of-self : goal.invariant_of-self
invariant_of-self g c =
    let inside = c.self.inside in (
      slipped_cursors g.M.Machine.meaning (record { node = inside.node; slips = inside.slips.items; wanted = inside.wanted.items; cursors = map next_of inside.cursors.items }) (map next_of c.begin.new.cursors.items) c.self.invariant.0,
      c.begin.ensures.at,
    )
