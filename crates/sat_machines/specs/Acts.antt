-- What a site is handed, and by which client.
use Rattle.std.specs.Prelude.{ℕ, ◌≡◌, ◌<◌, Bool, true, false, length, Option, Some, None}
use Rattle.sat_act.specs.Deployed.{Deployed}
use Rattle.sat_site.specs.declared.input.SiteInput.{SiteInput}
use Rattle.sat_site.specs.declared.input.SiteInput.TheVariants as input

-- an act at a node of a site: the client that asked, if one did, and what the site is handed
pub record ActSeen : Type 0 where
  pub by : Option ℕ
  pub input : SiteInput

-- whether it is an act of a client
abbrev pub is_clients : SiteInput → Bool
is_clients (input.Write seen items values) = true
is_clients (input.Read seen n) = true
is_clients (input.Move seen j) = true
is_clients (input.Attach seen) = true
is_clients _ = false

-- a client of the deployment exactly where it is an act of a client
abbrev pub IsBy : Deployed → Option ℕ → SiteInput → Type 0
IsBy d None given = is_clients given ≡ false
IsBy d (Some c) given = (is_clients given ≡ true) × (c < length d.clients)
