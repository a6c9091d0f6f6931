use Rattle.std.proofs.Common.{◌≡◌, ◌-◌, ◌≤◌, length}
use Rattle.sat_node.specs.Puts.{Sends}
use Rattle.sat_node.proofs.outs.Out.flush.Given as goal

abbrev pub invariant-sending : goal.invariant-sending
invariant-sending g l = Sends (g.M.Machine.meaning.puts l.name l.link) l.journal l.self
    × (l.self.place ≡ l.initial.self.place) × (l.self.link.wire ≡ l.initial.self.link.wire) × (l.self.link.acked ≡ l.initial.self.link.acked)
    × (l.initial.self.next ≤ l.self.next) × (l.self.link.fulls ≡ l.initial.self.link.fulls)

abbrev pub decreases-sending : goal.decreases-sending
decreases-sending g l = length l.journal - l.self.next
