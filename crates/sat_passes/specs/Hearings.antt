-- What a site's node hears from the other sites.
use Rattle.std.specs.Prelude.{ℕ, Option, Some, None}
use Rattle.sat_site.specs.declared.input.SiteInput.{SiteInput}
use Rattle.sat_site.specs.declared.input.SiteInput.TheVariants as input
use Rattle.sat_site.specs.Seen.{SiteSeen}
use Rattle.sat_node.specs.declared.kept.Kept.{Kept}
use Rattle.sat_node.specs.declared.kept.Body.{Body}
use Rattle.sat_node.specs.declared.kept.Body.TheVariants as body
use Rattle.sat_node.specs.Links.{HeldSeen}
use Rattle.sat_machines.specs.declared.site_answer.SiteAnswer.{SiteAnswer}
use Rattle.sat_machines.specs.Acts.{ActSeen}

-- a site's node with its link ends
abbrev pub SiteHeld : Type 0
SiteHeld = HeldSeen SiteSeen ActSeen SiteAnswer

-- an entry of a site's journal
abbrev pub SiteKept : Type 0
SiteKept = Kept ActSeen SiteAnswer

-- an input that is no client's act
abbrev pub of_site : SiteInput → ActSeen
of_site given = record { by = None; input = given }

-- a payload or a beat of site j, as an input
abbrev pub input_from : ℕ → Body → Option SiteInput
input_from j (body.Label l) = None
input_from j (body.Payload gear number payload) = Some (input.Bulk j gear number payload)
input_from j (body.Beat number beat) = Some (input.BeatIn j number beat)
