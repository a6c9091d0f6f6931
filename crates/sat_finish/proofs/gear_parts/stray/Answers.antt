use Rattle.sat_finish.proofs.Parted.{stray_here}
use Rattle.sat_finish.proofs.gear_parts.stray.Goals as goal

pub returns-in-Some : goal.returns-in-Some
returns-in-Some g c = (
  c.in-Some.ensures.0,
  λ i m. stray_here i m c.in-Some.home c.args.journal.now c.loop-kept.kept-index c.kept-item.result c.loop-kept-test.true c.kept-item.is (c.in-Some.ensures.1 i m),
)
