use Rattle.std.proofs.Common.{◌≡◌, None}
use Rattle.sat_label.specs.Words.{first_failing}
use Rattle.sat_act.specs.Flaw.{item_fits}
use Rattle.sat_act.proofs.checks.scan_items.Given as goal

abbrev pub invariant-loop-x : goal.invariant-loop-x
invariant-loop-x l = first_failing (item_fits l.sites l.items) l.x ≡ None
