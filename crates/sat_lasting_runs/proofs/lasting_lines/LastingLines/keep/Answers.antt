use Rattle.std.proofs.Common.{refl}
use Rattle.sat_lasting_script.specs.Forms.{lasting_acts}
use Rattle.sat_lasting_runs.specs.Held.{deployed, AtAnyTime, HistoryOf}
use Rattle.sat_own_acts.proofs.Going.{held_line}
use Rattle.sat_lasting_runs.proofs.lasting_lines.LastingLines.keep.Goals as goal

pub invariant_of-self : goal.invariant_of-self
invariant_of-self c = held_line lasting_acts deployed AtAnyTime HistoryOf _ _ c.args.line.now c.line.result c.self.invariant c.line.ensures refl refl
