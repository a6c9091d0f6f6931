-- What a world keeps.
use Rattle.std.specs.Prelude.{ℕ, ◌≡◌, List, Option, Some, slice_get}
use Rattle.sat_sites.specs.Interested.{Interested}
use Rattle.sat_act.specs.Deployed.{Deployed}
use Rattle.sat_client.specs.declared.client.Client.{Client}
use Rattle.sat_net.specs.Nets.{NetSeen}
use Rattle.sat_site.specs.Seen.{SiteSeen}

-- the deployment, and which sites keep which items; the sites; by epoch from 1 on, the net of its tree, None where its
-- plan is stamp order; the clients; and how many answers showed an update, at most 2^64 - 1
pub record WorldSeen : Type 0 where
  pub deployment : Deployed
  pub interest : Interested
  pub sites : List SiteSeen
  pub nets : List (Option NetSeen)
  pub clients : List Client
  pub shown : ℕ

-- the site of a number
abbrev pub HasSite : WorldSeen → ℕ → SiteSeen → Type 0
HasSite w i x = slice_get w.sites i ≡ Some x

-- the net at a place, which is that of the epoch one above it
abbrev pub HasNet : WorldSeen → ℕ → NetSeen → Type 0
HasNet w n net = slice_get w.nets n ≡ Some (Some net)

-- the client of a number
abbrev pub HasClient : WorldSeen → ℕ → Client → Type 0
HasClient w c x = slice_get w.clients c ≡ Some x
