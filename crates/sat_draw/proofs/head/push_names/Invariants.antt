use Rattle.std.proofs.Common.{◌≡◌, ◌++◌}
use Rattle.sat_draw.specs.Head.{names}
use Rattle.sat_draw.proofs.head.push_names.Given as goal

abbrev pub invariant-loop-n : goal.invariant-loop-n
invariant-loop-n l = l.out.items ≡ l.fn.out.items ++ names l.top l.column l.name l.n
