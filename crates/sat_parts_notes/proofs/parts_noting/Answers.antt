use Rattle.sat_parts_notes.proofs.Fits.{notes-fit}
use Rattle.sat_parts_notes.proofs.Whole.{notes-are-runs, notes-stand}
use Rattle.sat_parts_notes.proofs.parts_noting.Goals as goal

pub returns : goal.returns
returns c = record { fit = notes-fit; runs = notes-are-runs; states = notes-stand }
