use Rattle.std.proofs.Common.{subst, sym}
use Rattle.sat_world.specs.Stands.{StandsFor}
use Rattle.sat_lasting_laws.specs.Lastings.{kept}
use Rattle.sat_lasting.specs.Lasts.{LastingSeen}
use Rattle.sat_lasting.proofs.lasting.Lasting.world.Goals as goal

pub returns-clause-stands : goal.returns-clause-stands
returns-clause-stands c = λ h run st. subst (λ (s : LastingSeen). StandsFor s.world (kept h)) (sym c.self.view_is) st.world
