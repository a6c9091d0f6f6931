use Rattle.std.specs.Prelude.{◌≡◌, map, take}
use Rattle.sat_audit.specs.Judging.{tale_of}
use Rattle.sat_audit.proofs.judging.tales_of.Given as goal

abbrev pub invariant-loop-entry : goal.invariant-loop-entry
invariant-loop-entry l = l.tales.items ≡ map tale_of (take l.entry-index l.heard)
