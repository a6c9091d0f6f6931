-- What a reading and its run come to.
use Rattle.std.proofs.Common.{◌≡◌, ℕ, false, List, Option, Some, None, refl, sym, ap, subst, ◌∙◌}
use Rattle.std.specs.Prelude.{IfSome}
use Rattle.sat_act.specs.Deployed.{Deployed}
use Rattle.sat_act.specs.Limits.{IsDeployment}
use Rattle.sat_script.specs.Spelled.{HaveNames, AreActsOf}
use Rattle.sat_stream.specs.Reading.{reading}
use Rattle.sat_script.specs.declared.fault.ScriptFault.{ScriptFault}
use Rattle.sat_stream.specs.declared.stream.Reading.{Reading}
use Rattle.sat_runs.specs.Good.{IsGoodRun}
use Rattle.sat_pieces.specs.Good.{IsGoodFront, EveryReadingIsGood}
use Rattle.sat_runs.specs.Runs.{run_text}
use Rattle.sat_runs.proofs.Good.{TheLaws, good_run}
use Rattle.sat_follow.specs.Following.{IsTextOf}
use Rattle.sat_pieces.specs.Streaming.{IsReported, run_status}

pub zero_fault : (fault : Option ScriptFault) (status : ℕ) → status ≡ run_status fault → status ≡ 0 → fault ≡ None
zero_fault None status means zero = refl
zero_fault (Some fault) status means zero = absurd (cc)

-- of an Option that is known
pub at_some : (o : Option Deployed) (d : Deployed) (P : Deployed → Type 0) → IfSome o P → o ≡ Some d → P d
at_some None d P p e = absurd (cc)
at_some (Some x) d P p e = let same : x ≡ d = cc in subst P same p

pub front : (text : List ℕ) (found : Reading) → TheLaws → IfSome found.deployment (λ d. IsDeployment d × HaveNames d × AreActsOf d found.acts) → reading false text ≡ found → IsGoodFront text
front text found laws sound same d at =
    let here = at_some found.deployment d (λ x. IsDeployment x × HaveNames x × AreActsOf x found.acts) sound (sym (ap (λ (r : Reading). r.deployment) same) ∙ at) in
    subst (λ (r : Reading). IsGoodRun d r.acts) (sym same) (good_run d found.acts laws here.0 here.2)

pub ran : (left : Option (List ℕ)) (found : Reading) (written : List ℕ) (status : ℕ) → EveryReadingIsGood → TheLaws → IfSome found.deployment (λ d. IsDeployment d × HaveNames d × AreActsOf d found.acts) → ((text : List ℕ) × IsTextOf left text × (reading false text ≡ found)) → written ≡ run_text found → status ≡ run_status found.fault
    → IsReported left written status
ran left found written status law laws sound from wrote means = record {
  input = from.0;
  whole = from.1;
  output = rw from.2 wrote;
  status_is = rw from.2 means;
  proves = (λ zero. law from.0 (ap (λ (r : Reading). r.fault) from.2 ∙ zero_fault found.fault status means zero), λ one. front from.0 found laws sound from.2);
}
