use Rattle.std.proofs.Common.{◌≡◌, List, ◌++◌}
use Rattle.sat_act.specs.declared.entry.Entry.{Entry}
use Rattle.sat_act.specs.Runs.{IsRun}
use Rattle.sat_world.specs.Stands.{StandsFor}
use Rattle.sat_report.specs.Fronts.{Keeps}
use Rattle.sat_report.specs.Holdings.{site_lines}
use Rattle.sat_report.proofs.holdings.append_sites.Given as goal

abbrev pub invariant-loop-site : goal.invariant-loop-site
invariant-loop-site l =
    Keeps l.fn.out.items l.out.items × ((h : List Entry) → IsRun l.world.deployment h → StandsFor l.world h → l.out.items ≡ l.fn.out.items ++ site_lines l.world.deployment h l.site)
