-- A line of an act says an act exactly where it spells it, whatever forms may stand.
use Rattle.std.specs.Prelude.{◌≡◌, ℕ, List, None, Ok}
use Rattle.std.specs.declared.option.Option.{Option}
use Rattle.sat_act.specs.Deployed.{Deployed}
use Rattle.sat_act.specs.Limits.{IsDeployment}
use Rattle.sat_act.specs.Ranges.{IsActOf}
use Rattle.sat_act.specs.declared.act.Act.{Act}
use Rattle.sat_script.specs.Spelled.{HaveNames}
use Rattle.sat_script.specs.Table.{act_line, act_words, form_of}
use Rattle.sat_script.specs.declared.fault.Cause.{Cause}
use Rattle.sat_script.specs.declared.form.Form.{Form}

-- what a line says is an act of the deployment, whose form may stand, and the line spells it
abbrev pub ActsAreSpelled : Type 0
ActsAreSpelled =
    (bars : Form → Option Cause) (d : Deployed) (words : List (List ℕ)) (a : Act) → IsDeployment d
    → act_line bars d words ≡ Ok a → (words ≡ act_words d a) × IsActOf d a × (bars (form_of a) ≡ None)

-- and the other way
abbrev pub ActsAreRead : Type 0
ActsAreRead =
    (bars : Form → Option Cause) (d : Deployed) (a : Act) → IsDeployment d → HaveNames d → IsActOf d a
    → bars (form_of a) ≡ None → act_line bars d (act_words d a) ≡ Ok a
