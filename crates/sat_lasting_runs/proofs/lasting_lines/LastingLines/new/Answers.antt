use Rattle.std.proofs.Common.{refl}
use Rattle.sat_lasting_laws.specs.Ranges.{IsLastingActOf}
use Rattle.sat_lasting_script.specs.Forms.{lasting_acts}
use Rattle.sat_lasting_script.proofs.Sound.{lasting_sound}
use Rattle.sat_lasting_runs.specs.LastingTexts.{lasting_telling}
use Rattle.sat_lasting_runs.specs.Held.{HistoryOf}
use Rattle.sat_own_acts.proofs.Going.{begins}
use Rattle.sat_lasting_runs.proofs.lasting_lines.LastingLines.new.Goals as goal

pub returns : goal.returns
returns c = begins lasting_acts IsLastingActOf lasting_sound lasting_telling HistoryOf _ c.of.ensures refl refl
