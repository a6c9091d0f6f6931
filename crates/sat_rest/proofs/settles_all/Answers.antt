use Rattle.sat_rest.proofs.Headlines.{every-run}
use Rattle.sat_rest.proofs.Marked.{prints}
use Rattle.sat_rest.proofs.Rest.{rests}
use Rattle.sat_rest.proofs.SettleEnds.{settles}
use Rattle.sat_rest.proofs.WayBack.{way-back}
use Rattle.sat_rest.proofs.Flags.{answer-free}
use Rattle.sat_rest.proofs.settles_all.Goals as goal

pub returns : goal.returns
returns c = record { settles = settles; rests = rests; prints = prints; runs = every-run; back = way-back; flags = answer-free }
