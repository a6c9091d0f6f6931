-- Every good script has a good history, and each of its settles comes to rest.
use Rattle.std.proofs.Common.{◌≡◌, ℕ, false, List, Some, None, refl}
use Rattle.sat_act.specs.Deployed.{Deployed}
use Rattle.sat_stream.specs.Reading.{reading}
use Rattle.sat_script.specs.Spelled.{Spells}
use Rattle.sat_stream.specs.declared.stream.Reading.{Reading}
use Rattle.sat_report.specs.Holdings.{report}
use Rattle.sat_runs.specs.Runs.{history, run_text}
use Rattle.sat_runs.proofs.Good.{TheLaws, good_run}
use Rattle.sat_pieces.specs.Good.{IsGoodScript}

run_report : (r : Reading) (d : Deployed) → r.deployment ≡ Some d → r.fault ≡ None → run_text r ≡ report d (history d r.acts)
unfolding run_text report
run_report r d at none = rw (at, none) refl

pub good_script : (text : List ℕ) (d : Deployed) → TheLaws → (reading false text).fault ≡ None → (reading false text).deployment ≡ Some d → Spells text d (reading false text).acts → IsGoodScript text
good_script text d laws none at spells = record {
  deployment = d;
  acts = (reading false text).acts;
  spelled = spells;
  written = run_report (reading false text) d at none;
  good = good_run d (reading false text).acts laws spells.deployment spells.each;
}
