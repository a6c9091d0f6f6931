use Rattle.std.proofs.Common.{◌≡◌, ◌++◌, map, take}
use Rattle.sat_opened.specs.Keeping.{serial_kept, kept_under}
use Rattle.sat_opened.proofs.entries.add_serial.Given as goal

abbrev pub invariant-loop-kept : goal.invariant-loop-kept
invariant-loop-kept l = l.list ≡ l.initial.list ++ map (kept_under (serial_kept l.epoch l.number)) (take l.kept-index l.journal)
