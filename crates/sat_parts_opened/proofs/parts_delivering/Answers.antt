use Rattle.sat_parts_opened.proofs.Whole.{hosts-are-runs, hosts-fit, hosts-stand, opened-are-hosts}
use Rattle.sat_parts_opened.proofs.parts_delivering.Goals as goal

pub returns : goal.returns
returns c = record { fit = hosts-fit; runs = hosts-are-runs; states = hosts-stand; opened = opened-are-hosts }
