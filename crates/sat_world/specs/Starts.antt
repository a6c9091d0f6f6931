-- The parts of a world in which nothing has happened.
use Rattle.std.specs.Prelude.{◌≡◌, ℕ, List, length, Option, Some, None, slice_get}
use Rattle.sat_act.specs.declared.deployment.ClientLine.{ClientLine}
use Rattle.sat_act.specs.declared.deployment.Plan.{Plan}
use Rattle.sat_act.specs.declared.deployment.Plan.TheVariants as plan
use Rattle.sat_act.specs.Deployed.{Deployed}
use Rattle.sat_client.specs.declared.client.Client.{Client}
use Rattle.sat_client.specs.Clients.{first_seat}
use Rattle.sat_model.specs.State.{fresh_site}
use Rattle.sat_net.specs.Nets.{NetSeen, fresh_net}
use Rattle.sat_site.specs.Seen.{SiteSeen}
use Rattle.sat_site.specs.Stands.{StandsSite}

-- the first n sites, at which nothing has happened
pub record AreFresh (d : Deployed) (n : ℕ) (xs : List SiteSeen) : Type 0 where
  pub count : length xs ≡ n
  pub each : (i : ℕ) (x : SiteSeen) → slice_get xs i ≡ Some x → StandsSite d i x (fresh_site i)

-- the net of a plan, with nothing on its links
abbrev pub fresh_for : Plan → Option NetSeen
fresh_for plan.Stamp = None
fresh_for (plan.Tree tree) = Some (fresh_net tree)

-- a client at its first site
abbrev pub seated : ClientLine → Client
seated line = first_seat line.site
