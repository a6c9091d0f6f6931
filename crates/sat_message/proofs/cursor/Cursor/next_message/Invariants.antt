use Rattle.std.proofs.Common.{◌≡◌, ◌-◌, ◌≤◌, length, None}
use Rattle.sat_message.specs.Numbering.{IsAt, put_before}
use Rattle.sat_message.proofs.cursor.Cursor.next_message.Given as goal

abbrev pub invariant-looking : goal.invariant-looking
invariant-looking g l = IsAt (g.M.Machine.meaning.puts l.name l.link) l.journal l.self
    × (l.found ≡ None)
    × (put_before (g.M.Machine.meaning.puts l.name l.link) l.journal l.self.next ≡ put_before (g.M.Machine.meaning.puts l.name l.link) l.journal l.initial.self.next)
    × (l.initial.self.next ≤ l.self.next)

abbrev pub decreases-looking : goal.decreases-looking
decreases-looking g l = length l.journal - l.self.next
