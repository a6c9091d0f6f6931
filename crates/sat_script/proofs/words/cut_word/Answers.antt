use Rattle.std.proofs.Common.{refl}
use Rattle.sat_script.proofs.Cuts.{none_more}
use Rattle.sat_script.proofs.words.cut_word.Goals as goal

pub loop-place-preserved : goal.loop-place-preserved
loop-place-preserved c = none_more c.args.text.now c.loop-place.place _ c.loop-place-test.true refl c.if-text-place-eq32.false c.loop-place.invariant
