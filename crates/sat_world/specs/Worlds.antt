-- What holds of all that a world keeps, whatever happened.
use Rattle.std.specs.Prelude.{◌≡◌, ℕ, ◌+◌, List, length, Option, Some, None, slice_get}
use Rattle.sat_act.specs.declared.entry.Entry.{Entry}
use Rattle.sat_act.specs.Deployed.{Deployed}
use Rattle.sat_act.specs.Limits.{IsDeployment}
use Rattle.sat_act.specs.Parts.{tree_of}
use Rattle.sat_act.specs.Runs.{IsRun}
use Rattle.sat_model.specs.Interests.{interest_of}
use Rattle.sat_model.specs.World.{world_state}
use Rattle.sat_net.specs.Nets.{NetSeen}
use Rattle.sat_net.specs.NetStands.{IsNetOf}
use Rattle.sat_world.specs.Seen.{WorldSeen}
use Rattle.sat_world.specs.Stands.{Stands}

-- what stands at the place of an epoch: the net of its tree, or none where its plan is stamp order
abbrev pub IsPlanted : Deployed → ℕ → Option NetSeen → Type 0
IsPlanted d epoch None = tree_of d epoch ≡ None
IsPlanted d epoch (Some net) = IsNetOf d epoch net

-- the parts are those of the deployment: its interest, a site for each, a place for each epoch, and a client for each
pub record IsFrame (w : WorldSeen) : Type 0 where
  pub deployment : IsDeployment w.deployment
  pub interest : w.interest ≡ interest_of w.deployment
  pub sites : length w.sites ≡ w.deployment.sites
  pub nets : length w.nets ≡ length w.deployment.plans
  pub planted : (n : ℕ) (o : Option NetSeen) → slice_get w.nets n ≡ Some o → IsPlanted w.deployment (n + 1) o
  pub clients : length w.clients ≡ length w.deployment.clients

-- and its parts are those of some run: what holds of all runs holds of what it keeps
pub record IsWorld (w : WorldSeen) : Type 0 where
  pub frame : IsFrame w
  pub history : List Entry
  pub run : IsRun w.deployment history
  pub stands : Stands w (world_state w.deployment history)
