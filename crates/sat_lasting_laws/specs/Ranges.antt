-- Acts of scripts for sites that last whose numbers name what they should.
use Rattle.std.specs.Prelude.{◌≡◌, ◌<◌, ◌≤◌, ℕ, true}
use Rattle.sat_act.specs.Deployed.{Deployed}
use Rattle.sat_act.specs.Ranges.{IsActOf}
use Rattle.sat_lasting_laws.specs.declared.lasting_act.LastingAct.{LastingAct}
use Rattle.sat_lasting_laws.specs.declared.lasting_act.LastingAct.TheVariants as lasting
use Rattle.sat_lasting_laws.specs.declared.lasting_act.TheConstants.{MOST_CALLS}
use Rattle.sat_lasting_laws.specs.LastingAnswers.{is_allowed}

-- the act has a line under the deployment's header: a plain act is one that scripts for sites that last may have, and a
-- stop and a cut name a site. A history with stops asks for less, `IsLastingInRange` (LastingAnswers)
abbrev pub IsLastingActOf : Deployed → LastingAct → Type 0
IsLastingActOf d (lasting.Plain a) = IsActOf d a × (is_allowed a ≡ true)
IsLastingActOf d (lasting.Stop i) = i < d.sites
IsLastingActOf d (lasting.Cut i calls keep) = (i < d.sites) × (calls ≤ MOST_CALLS)
