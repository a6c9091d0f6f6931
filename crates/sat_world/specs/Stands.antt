-- The history that a world stands for: part by part, what it keeps is that of the machine that stands for the history.
use Rattle.std.specs.Prelude.{◌≡◌, ℕ, ◌+◌, List}
use Rattle.sat_act.specs.declared.entry.Entry.{Entry}
use Rattle.sat_act.specs.Settling.{capped}
use Rattle.sat_client.specs.declared.client.Client.{Client}
use Rattle.sat_model.specs.World.{ClientState, WorldState, world_state}
use Rattle.sat_net.specs.Nets.{NetSeen}
use Rattle.sat_net.specs.NetStands.{StandsNet}
use Rattle.sat_site.specs.Seen.{SiteSeen}
use Rattle.sat_site.specs.Stands.{StandsSite}
use Rattle.sat_world.specs.Counts.{shown_count}
use Rattle.sat_world.specs.Seen.{WorldSeen, HasSite, HasNet, HasClient}

-- a client that carries and sits as the machine's
pub record StandsClient (x : Client) (s : ClientState) : Type 0 where
  pub carried : x.carried ≡ s.carried
  pub seat : x.seat ≡ s.seat

-- one clause for each part: the sites; the links of each epoch and its dead serializers; and the clients
pub record Stands (w : WorldSeen) (s : WorldState) : Type 0 where
  pub sites : (i : ℕ) (x : SiteSeen) → HasSite w i x → StandsSite w.deployment i x (s.sites i)
  pub nets : (n : ℕ) (net : NetSeen) → HasNet w n net → StandsNet net (s.links (n + 1)) (s.dead (n + 1))
  pub clients : (c : ℕ) (x : Client) → HasClient w c x → StandsClient x (s.clients c)

-- the world stands for the history: its parts are those of the machine, and it counted the answers Shown
pub record StandsFor (w : WorldSeen) (h : List Entry) : Type 0 where
  pub parts : Stands w (world_state w.deployment h)
  pub shown : w.shown ≡ capped (shown_count h)
