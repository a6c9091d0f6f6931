-- The site that an act reaches, and what it is handed there.
use Rattle.std.specs.Prelude.{◌≡◌, ◌<◌, ℕ, Bool, true, false, List, Option, Some, None}
use Rattle.sat_act.specs.declared.act.Act.{Act}
use Rattle.sat_act.specs.declared.act.Act.TheVariants as act
use Rattle.sat_act.specs.declared.entry.Entry.{Entry}
use Rattle.sat_act.specs.Deployed.{Deployed}
use Rattle.sat_act.specs.Runs.{IsRun}
use Rattle.sat_model.specs.Input.{SiteInput}
use Rattle.sat_model.specs.Replay.{given_at, handed, site_state}
use Rattle.sat_site.specs.declared.input.SiteInput as code
use Rattle.sat_site.specs.Inputs.{input_of, fits_in}
use Rattle.sat_site.specs.Seen.{SiteSeen, IsSite}
use Rattle.sat_site.specs.Stands.{StandsSite}
use Rattle.sat_world.specs.Seen.{WorldSeen}
use Rattle.sat_world.specs.Stands.{StandsFor}

abbrev pub is_clock : Act → Bool
is_clock act.Clock = true
is_clock _ = false

-- what an act hands to site k, where it is an act at that site alone. A clock is one at all sites
abbrev pub handed_alone : Deployed → List Entry → Act → ℕ → Option SiteInput
handed_alone d h act.Clock k = None
handed_alone d h a k = handed d h a k

-- The act reaches site i, and no other one, and hands it this, which fits each site that stands for the history: its
-- copy in a world, and any other that was made of the same inputs.
pub record IsHandedTo (d : Deployed) (h : List Entry) (a : Act) (i : ℕ) (given : code.SiteInput) : Type 0 where
  pub site : i < d.sites
  pub hands : (k : ℕ) → handed_alone d h a k ≡ given_at i k (input_of given)
  pub fits : (x : SiteSeen) → IsSite x → StandsSite d i x (site_state d h i) → fits_in x given ≡ true

-- in each history that the world stands for the act reaches this site and hands it this, or reaches no site
abbrev pub Reaches : WorldSeen → Act → Option (ℕ × code.SiteInput) → Type 0
Reaches w a None =
    (h : List Entry) → IsRun w.deployment h → StandsFor w h → (k : ℕ) → handed_alone w.deployment h a k ≡ None
Reaches w a (Some found) =
    (h : List Entry) → IsRun w.deployment h → StandsFor w h → IsHandedTo w.deployment h a found.0 found.1

-- the same, of what is handed alone
abbrev pub HandsSome : WorldSeen → Act → Option code.SiteInput → Type 0
HandsSome w a None = Reaches w a None
HandsSome w a (Some given) = (i : ℕ) × Reaches w a (Some (i, given))
