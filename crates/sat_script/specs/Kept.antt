-- What holds of the lines of a script that have come.
use Rattle.std.specs.Prelude.{ℕ, ◌≡◌, ◌≤◌, ◌<◌, [], length, true, false, None}
use Rattle.std.specs.declared.option.Option.{Option}
use Rattle.sat_label.specs.Formats.{is_format, limits_of as format_limits}
use Rattle.sat_label.specs.Words.{first_failing}
use Rattle.sat_act.specs.Deployed.{Deployed}
use Rattle.sat_act.specs.Flaw.{flaw, item_fits, client_fits, plan_fits}
use Rattle.sat_act.specs.Limits.{IsDeployment, HaveTrees}
use Rattle.sat_script.specs.Spelled.{HaveNames}
use Rattle.sat_script.specs.Causes.{has_client, has_item}
use Rattle.sat_script.specs.State.{State, no_header, limits_at, deployment_of}
use Rattle.sat_script.specs.declared.line.Parsed.{Parsed}
use Rattle.sat_script.specs.declared.line.Parsed.TheVariants as parsed
use Rattle.sat_script.specs.declared.line.Stage.{Stage}
use Rattle.sat_script.specs.declared.line.Stage.TheVariants as stage
use Rattle.sat_script.specs.declared.limits.TheConstants.{MOST_GEARS, MOST_PLANS}

-- a format, and no more yet
pub record IsFormatted (d : Deployed) : Type 0 where
  pub format : is_format d.format ≡ true
  pub items : d.items ≡ []
  pub clients : d.clients ≡ []
  pub plans : d.plans ≡ []

-- a format and as many sites as it allows, and no more yet
pub record IsSited (d : Deployed) : Type 0 where
  pub format : is_format d.format ≡ true
  pub some : 0 < d.sites
  pub few : d.sites ≤ (format_limits d.format).sites
  pub items : d.items ≡ []
  pub clients : d.clients ≡ []
  pub plans : d.plans ≡ []

-- a format, sites and gears, and items, clients and plans as far as they have come
pub record IsOpened (d : Deployed) : Type 0 where
  pub format : is_format d.format ≡ true
  pub some_site : 0 < d.sites
  pub few_sites : d.sites ≤ (format_limits d.format).sites
  pub some_gear : 0 < d.gears
  pub few_gears : d.gears ≤ MOST_GEARS
  pub items : first_failing (item_fits d.sites d.items) (length d.items) ≡ None
  pub clients : first_failing (client_fits d.sites d.clients) (length d.clients) ≡ None
  pub plans : first_failing (plan_fits d.sites d.plans) (length d.plans) ≡ None
  pub trees : HaveTrees d.plans
  pub names : HaveNames d

-- a whole header
pub record IsWhole (d : Deployed) : Type 0 where
  pub flawless : flaw d ≡ None
  pub deployment : IsDeployment d
  pub names : HaveNames d

-- the header as far as it has come at a stage
abbrev pub HasHeader : Stage → Deployed → Type 0
HasHeader stage.Start d = d ≡ no_header
HasHeader stage.Sites d = IsFormatted d
HasHeader stage.Gears d = IsSited d
HasHeader stage.Header d = IsOpened d
HasHeader stage.Body d = IsWhole d
HasHeader stage.Ended d = IsWhole d

-- no act comes before the line of the format, which says how many may come
abbrev pub HasActs : Stage → ℕ → Type 0
HasActs stage.Start n = n ≡ 0
HasActs _ n = Unit {0}

-- what holds after good lines
pub record IsFit (s : State) : Type 0 where
  pub header : HasHeader s.stage s.header
  pub sites : s.header.sites ≤ (limits_at s).sites
  pub items : length s.header.items ≤ (limits_at s).items
  pub clients : length s.header.clients ≤ (limits_at s).clients
  pub plans : length s.header.plans ≤ MOST_PLANS
  pub begun : HasActs s.stage s.acts
  pub acts : s.acts ≤ (limits_at s).acts
  pub settles : s.settles ≤ (limits_at s).settles

-- and the deployment that the header has become by then, if it has
pub record IsKept (s : State) (whole : Option Deployed) : Type 0 where
  pub fit : IsFit s
  pub deployed : whole ≡ deployment_of s

-- what a good line says comes at its stage, and has a name of its own; an act asks for neither
abbrev pub Suits : State → Parsed → Type 0
Suits s (parsed.Format f) = s.stage ≡ stage.Start
Suits s (parsed.Sites n) = s.stage ≡ stage.Sites
Suits s (parsed.Gears n) = s.stage ≡ stage.Gears
Suits s (parsed.Item item) = (s.stage ≡ stage.Header) × (has_item s.header item.name ≡ false)
Suits s (parsed.Client line) = (s.stage ≡ stage.Header) × (has_client s.header line.name ≡ false)
Suits s (parsed.Plan p) = s.stage ≡ stage.Header
Suits s parsed.Begin = s.stage ≡ stage.Header
Suits s (parsed.Act a) = Unit {0}
Suits s parsed.End = s.stage ≡ stage.Body
