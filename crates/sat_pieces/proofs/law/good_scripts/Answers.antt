use Rattle.std.specs.Prelude.{false}
use Rattle.sat_pieces.proofs.Good.{good_script}
use Rattle.sat_pieces.proofs.law.good_scripts.Goals as goal

pub returns : goal.returns
returns c = λ text none. let read = c.one_spelling.ensures.read false text none in good_script text read.0 (record { good = c.headline.ensures; settles = c.settles_all.ensures.settles; rests = c.settles_all.ensures.rests }) none read.1 read.2
