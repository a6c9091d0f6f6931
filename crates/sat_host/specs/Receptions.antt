-- What becomes of a message at a serializer and at a site.
use Rattle.std.specs.Prelude.{ℕ, ◌-◌, ◌==◌, nat_lt, Option, Some, None, get_or, if◌then◌else◌}
use Rattle.sat_label.specs.declared.label.Label.{Label}
use Rattle.sat_label.specs.declared.node.NodeName.{NodeName}
use Rattle.sat_act.specs.Deployed.{Deployed}
use Rattle.sat_epoch.specs.Epochs.{in_stamp}
use Rattle.sat_site.specs.declared.input.SiteInput.{SiteInput}
use Rattle.sat_site.specs.declared.input.SiteInput.TheVariants as input
use Rattle.sat_site.specs.Inputs.{fits_in}
use Rattle.sat_site.specs.Seen.{SiteSeen}
use Rattle.sat_node.specs.declared.kept.Body.{Body}
use Rattle.sat_node.specs.declared.kept.Body.TheVariants as body
use Rattle.sat_machines.specs.Acts.{ActSeen}
use Rattle.sat_machines.specs.Layout.{label_link, peer}
use Rattle.sat_machines.specs.Sites.{number_of}
use Rattle.sat_machines.specs.Serials.{SerialSeen}
use Rattle.sat_machines.specs.declared.serial_act.SerialAct.{SerialAct}
use Rattle.sat_passes.specs.Relays.{hop_with}
use Rattle.sat_passes.specs.Hearings.{input_from, of_site}
use Rattle.sat_passes.specs.Sendings.{would_do}
use Rattle.sat_message.specs.declared.message.Message.{Message}
use Rattle.sat_host.specs.declared.received.Received.{Received}
use Rattle.sat_host.specs.declared.received.Received.TheVariants.{Taken, Early, Unfit}
use Rattle.sat_host_laws.specs.Messages.{SiteHost, SerialHost}
use Rattle.sat_host.specs.Turns.{is_taken, turn_of}

abbrev pub if_hop : Option SerialAct → Received
if_hop None = Unfit
if_hop (Some hop) = Taken

-- where its turn has come
abbrev pub hop_reception : Deployed → SerialSeen → ℕ → Body → Received
hop_reception d x link b = if x.serial.killed then Unfit else if_hop (hop_with d x link b)

-- at a serializer. A dead one takes none
abbrev pub serial_reception : Deployed → SerialHost → ℕ → Message → Received
serial_reception d h link m =
    if is_taken (turn_of (get_or h.wanted link 0) m.number m.sent.body)
    then hop_reception d h.node.machine link m.sent.body else turn_of (get_or h.wanted link 0) m.number m.sent.body

-- a message at a site as what the site is handed: a label is turned, and comes from the tree; a payload and a beat are
-- another site's
abbrev pub act_with : NodeName → ℕ → Body → ActSeen
act_with name link (body.Label l) = of_site (input.Turn (Some l))
act_with name link (body.Payload g n p) = of_site (input.Bulk (peer (number_of name) link) g n p)
act_with name link (body.Beat n b) = of_site (input.BeatIn (peer (number_of name) link) n b)

abbrev pub if_fits : SiteSeen → Option SiteInput → Received
if_fits x None = Unfit
if_fits x (Some given) = if fits_in x given then Taken else Unfit

-- what came from another site
abbrev pub bulk_reception : Deployed → SiteHost → ℕ → Body → Received
bulk_reception d h link b =
    if nat_lt link (d.sites - 1) then if_fits h.node.machine (input_from (peer (number_of h.node.name) link) b)
    else Unfit

-- a label that came from the tree of an epoch: that of the view, where the site would show or take it now
abbrev pub label_reception : Deployed → SiteSeen → ℕ → Label → Received
label_reception d x link l = if in_stamp x.views then Early else if link == label_link d x.views.view
    then (if would_do x (input.Turn (Some l)) then Taken else Early) else Early

abbrev pub body_reception : Deployed → SiteHost → ℕ → Body → Received
body_reception d h link (body.Label l) = label_reception d h.node.machine link l
body_reception d h link (body.Payload g n p) = bulk_reception d h link (body.Payload g n p)
body_reception d h link (body.Beat n b) = bulk_reception d h link (body.Beat n b)

-- at a site
abbrev pub site_reception : Deployed → SiteHost → ℕ → Message → Received
site_reception d h link m =
    if is_taken (turn_of (get_or h.wanted link 0) m.number m.sent.body) then body_reception d h link m.sent.body
    else turn_of (get_or h.wanted link 0) m.number m.sent.body
