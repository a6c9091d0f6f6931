use Rattle.std.proofs.Common.{ap, Some, ◌+◌}
use Rattle.sat_finish.specs.Parts.{kept_part}
use Rattle.sat_finish.proofs.Marked.{not_handed, one_noted}
use Rattle.sat_finish.proofs.marks.handed_marks.Goals as goal

pub loop-kept-preserved : goal.loop-kept-preserved
loop-kept-preserved g c = (
  ap (λ n. n + 1) c.loop-kept.invariant.0,
  λ i n h. one_noted (kept_part i n (Some h)) c.args.journal.now c.loop-kept.place c.loop-kept.kept-index c.kept-item.result c.loop-kept.marks.items c.note.new.marks.items c.is_handed.result c.loop-kept.invariant.0 c.loop-kept-test.true c.kept-item.is (not_handed i n h c.kept-item.result c.is_handed.result c.is_handed.ensures) c.in_ok-note.ensures (c.loop-kept.invariant.1 i n h),
)
