use Rattle.std.proofs.Common.{ap, ◌+◌}
use Rattle.sat_finish.specs.Parts.{hub_part}
use Rattle.sat_finish.proofs.Marked.{hub_untold, one_noted}
use Rattle.sat_finish.proofs.marks.hub_marks.Goals as goal

pub loop-kept-preserved : goal.loop-kept-preserved
loop-kept-preserved g c = (
  ap (λ n. n + 1) c.loop-kept.invariant.0,
  λ d i n. one_noted (hub_part d i n) c.args.journal.now c.loop-kept.place c.loop-kept.kept-index c.kept-item.result c.loop-kept.marks.items c.note.new.marks.items c.hub_tells.result c.loop-kept.invariant.0 c.loop-kept-test.true c.kept-item.is (hub_untold d i n c.kept-item.result c.hub_tells.result c.hub_tells.ensures) c.in_ok-note.ensures (c.loop-kept.invariant.1 d i n),
)
