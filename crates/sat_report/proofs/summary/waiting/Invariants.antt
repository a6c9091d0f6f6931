use Rattle.std.proofs.Common.{◌≡◌, List}
use Rattle.sat_act.specs.declared.entry.Entry.{Entry}
use Rattle.sat_act.specs.Runs.{IsRun}
use Rattle.sat_act.specs.Settling.{capped}
use Rattle.sat_world.specs.Stands.{StandsFor}
use Rattle.sat_report.specs.Summary.{waiting_count}
use Rattle.sat_report.proofs.summary.waiting.Given as goal

abbrev pub invariant-loop-site : goal.invariant-loop-site
invariant-loop-site l = (h : List Entry) → IsRun l.world.deployment h → StandsFor l.world h → l.waiting ≡ capped (waiting_count h l.site)
