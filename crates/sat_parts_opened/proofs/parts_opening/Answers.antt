use Rattle.sat_parts_opened.proofs.Whole.{fits-join, opened-are-runs, opened-fit, opened-stand}
use Rattle.sat_parts_opened.proofs.parts_opening.Goals as goal

pub returns : goal.returns
returns c = record { nodes = opened-fit; whole = fits-join; runs = opened-are-runs; states = opened-stand }
