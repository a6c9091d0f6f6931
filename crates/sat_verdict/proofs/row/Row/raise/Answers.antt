use Rattle.sat_verdict.proofs.Columns.{raise-start}
use Rattle.sat_verdict.proofs.row.Row.raise.Goals as goal

pub loop-place-init : goal.loop-place-init
loop-place-init c = raise-start _ _
