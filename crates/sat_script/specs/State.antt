-- What the lines so far say.
use Rattle.std.specs.Prelude.{ℕ, ◌+◌, [], length, Some, None}
use Rattle.std.specs.declared.option.Option.{Option}
use Rattle.sat_act.specs.Deployed.{Deployed}
use Rattle.sat_script.specs.Dialect.{limits_of}
use Rattle.sat_script.specs.declared.dialect.Dialect.{Dialect}
use Rattle.sat_script.specs.declared.dialect.Limits.{Limits}
use Rattle.sat_script.specs.declared.fault.Cause.{Cause}
use Rattle.sat_script.specs.declared.fault.ScriptFault.{ScriptFault}
use Rattle.sat_script.specs.declared.line.Stage.{Stage}
use Rattle.sat_script.specs.declared.line.Stage.TheVariants as stage

-- where the next line stands, the header as far as it has come, and how many acts have come, `settle` among them
pub record State : Type 0 where
  pub dialect : Dialect
  pub stage : Stage
  pub header : Deployed
  pub acts : ℕ
  pub settles : ℕ

-- and the fault that was told
pub record Seen : Type 0 where
  pub state : State
  pub fault : Option ScriptFault

-- a header of which nothing has come. Until its first line its format is 1
abbrev pub no_header : Deployed
no_header = record { format = 1; sites = 0; gears = 0; items = []; clients = []; plans = [] }

-- before the first line
abbrev pub start : Dialect → State
start dialect = record { dialect = dialect; stage = stage.Start; header = no_header; acts = 0; settles = 0 }

-- the limits of the script
abbrev pub limits_at : State → Limits
limits_at s = limits_of s.dialect s.header.format

-- the deployment that a header says, from the line `begin` on
abbrev pub deployed_at : Stage → Deployed → Option Deployed
deployed_at stage.Body d = Some d
deployed_at stage.Ended d = Some d
deployed_at _ d = None

-- the deployment that was read, once the line `begin` was
abbrev pub deployment_of : State → Option Deployed
deployment_of s = deployed_at s.stage s.header

-- the number of lines of items, clients and plans
abbrev pub header_lines : Deployed → ℕ
header_lines d = length d.items + length d.clients + length d.plans

-- the number of the next line, from 1
abbrev pub first_of : Stage → ℕ
first_of stage.Start = 1
first_of stage.Sites = 2
first_of stage.Gears = 3
first_of stage.Header = 4
first_of stage.Body = 5
first_of stage.Ended = 6

unfoldable pub number_of : State → ℕ
number_of s = first_of s.stage + header_lines s.header + s.acts

-- the state with an act more, which another reader has read
abbrev pub with_one_act : State → State
with_one_act s =
    record { dialect = s.dialect; stage = s.stage; header = s.header; acts = s.acts + 1; settles = s.settles }

-- the fault of the next line
abbrev pub fault_at : State → Cause → ScriptFault
fault_at s cause = record { line = number_of s; cause = cause }
