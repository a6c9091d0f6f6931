use Rattle.std.proofs.Common.{ap, ◌+◌}
use Rattle.sat_finish.specs.Parts.{written_part}
use Rattle.sat_finish.proofs.Marked.{gear_untold, one_noted}
use Rattle.sat_finish.proofs.marks.written_marks.Goals as goal

pub loop-kept-preserved : goal.loop-kept-preserved
loop-kept-preserved g c = (
  ap (λ n. n + 1) c.loop-kept.invariant.0,
  λ d i h n. one_noted (written_part d i h n) c.args.journal.now c.loop-kept.place c.loop-kept.kept-index c.kept-item.result c.loop-kept.marks.items c.note.new.marks.items c.gear_tells.result c.loop-kept.invariant.0 c.loop-kept-test.true c.kept-item.is (gear_untold d i h n c.kept-item.result c.gear_tells.result c.gear_tells.ensures) c.in_ok-note.ensures (c.loop-kept.invariant.1 d i h n),
)
