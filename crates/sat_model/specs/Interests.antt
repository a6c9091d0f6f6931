-- Which sites of a deployment keep which items.
use Rattle.std.specs.Prelude.{map}
use Rattle.sat_label.specs.declared.site_set.SiteSet.{SiteSet}
use Rattle.sat_sites.specs.Interested.{Interested}
use Rattle.sat_act.specs.declared.deployment.Item.{Item}
use Rattle.sat_act.specs.Deployed.{Deployed}

abbrev pub replicas_of : Item → SiteSet
replicas_of item = item.replicas

-- which sites of a deployment keep which items
abbrev pub interest_of : Deployed → Interested
interest_of d = record { sites = d.sites; replicas = map replicas_of d.items }
