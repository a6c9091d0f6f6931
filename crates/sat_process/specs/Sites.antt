-- What a site is handed, and what becomes of it.
use Rattle.std.specs.Prelude.{ℕ, ◌+◌, ◌-◌, List, [], ◌∷◌, ◌==◌, ◌&&◌, ◌||◌, not, nat_lt, nat_le, Bool, true, false}
use Rattle.std.specs.Prelude.{length, get_or, Option, Some, None, if◌then◌else◌}
use Rattle.sat_label.specs.declared.label.Label.{Label}
use Rattle.sat_label.specs.declared.node.NodeName.{NodeName}
use Rattle.sat_label.specs.declared.node.NodeName.TheVariants as named
use Rattle.sat_act.specs.declared.deployment.Plan.{Plan}
use Rattle.sat_act.specs.declared.deployment.Plan.TheVariants as plan
use Rattle.sat_act.specs.Deployed.{Deployed}
use Rattle.sat_epoch.specs.Epochs.{in_stamp}
use Rattle.sat_bulk.specs.Windows.{has_number}
use Rattle.sat_proxy.specs.Proxy.{window_of}
use Rattle.sat_site.specs.declared.input.SiteInput.{SiteInput}
use Rattle.sat_site.specs.declared.input.SiteInput.TheVariants as input
use Rattle.sat_site.specs.Inputs.{fits_in}
use Rattle.sat_node.specs.declared.kept.Body.{Body}
use Rattle.sat_node.specs.declared.kept.Body.TheVariants as body
use Rattle.sat_node.specs.Seen.{last_number}
use Rattle.sat_machines.specs.Acts.{ActSeen, is_clients}
use Rattle.sat_machines.specs.Layout.{label_link, peer}
use Rattle.sat_passes.specs.Sendings.{would_do}
use Rattle.sat_message.specs.declared.message.Message.{Message}
use Rattle.sat_host.specs.Locals.{is_local}
use Rattle.sat_host_laws.specs.Messages.{SiteHost}
use Rattle.sat_handed.specs.declared.handed.Handed.{Handed}
use Rattle.sat_handed.specs.declared.handed.Handed.TheVariants as given
use Rattle.sat_process.specs.declared.hosted.Became.{Became}
use Rattle.sat_process.specs.declared.hosted.Became.TheVariants.{Taken, Early, Again, Unfit, Unspelled, Worn, Full}
use Rattle.sat_process.specs.declared.hosted.Became.TheVariants.{Memory}

-- ---- what an entry was handed

abbrev pub asked_if : Bool → Handed → Option Handed
asked_if true h = Some h
asked_if false h = None

-- an input that took nothing from a link
abbrev pub asked_at_site : ℕ → ActSeen → Option Handed
asked_at_site number act = asked_if (is_local act.input) (given.Asked number act.by act.input)

abbrev pub label_in : Option Label → Option Body
label_in None = None
label_in (Some l) = Some (body.Label l)

-- what a message's input took
abbrev pub took_of : SiteInput → Option Body
took_of (input.Turn front) = label_in front
took_of (input.Bulk from gear number payload) = Some (body.Payload gear number payload)
took_of (input.BeatIn from number beat) = Some (body.Beat number beat)
took_of _ = None

abbrev pub took_at_site : ActSeen → Option Body
took_at_site act = took_of act.input

-- ---- what would become of it

-- a client's act is of a client of the deployment, and anything else of none
abbrev pub is_by : Deployed → Option ℕ → SiteInput → Bool
is_by d None i = not (is_clients i)
is_by d (Some c) i = nat_lt c (length d.clients) && is_clients i

abbrev pub if_taken : Bool → Became
if_taken true = Taken
if_taken false = Unfit

-- what is asked is taken under a number above the last one, where it is no message, and fits
abbrev pub would_ask : Deployed → SiteHost → ℕ → Option ℕ → SiteInput → Became
would_ask d h number by i =
    if nat_le number h.node.number then Unfit else if not (is_local i) then Unfit else if not (is_by d by i) then Unfit
    else if_taken (fits_in h.node.machine i)

-- a label's turn comes once all before it were taken. The greatest number is none's
abbrev pub would_count : ℕ → ℕ → Became
would_count wanted number = if nat_lt number wanted then Again else if nat_lt wanted number then Early
    else if number == last_number then Worn else Taken

abbrev pub if_now : Bool → Became
if_now true = Taken
if_now false = Early

-- a label of the tree of the view, which the site shows or takes now
abbrev pub would_turn : Deployed → SiteHost → ℕ → Label → Became
would_turn d h link l = if in_stamp h.node.machine.views then Early
    else if link == label_link d h.node.machine.views.view then if_now (would_do h.node.machine (input.Turn (Some l)))
    else Early

abbrev pub when_taken : Became → Became → Became
when_taken Taken then_ = then_
when_taken Early then_ = Early
when_taken Again then_ = Again
when_taken Unfit then_ = Unfit
when_taken Unspelled then_ = Unspelled
when_taken Worn then_ = Worn
when_taken Full then_ = Full
when_taken Memory then_ = Memory

-- the site at the other end of a link between sites
abbrev pub peer_in : NodeName → ℕ → Option ℕ
peer_in (named.Site i) link = Some (peer i link)
peer_in (named.Serializer e z) link = None
peer_in (named.Gear i g) link = None

abbrev pub peer_of : Deployed → SiteHost → ℕ → Option ℕ
peer_of d h link = if nat_le (d.sites - 1) link then None else peer_in h.node.name link

abbrev pub would_fit : SiteHost → SiteInput → Became
would_fit h i = if_taken (fits_in h.node.machine i)

-- whether this payload came
abbrev pub has_come : Deployed → SiteHost → ℕ → ℕ → ℕ → Bool
has_come d h from gear number =
    (nat_lt from d.sites && nat_lt gear d.gears) && has_number (window_of h.node.machine.proxy from gear) number

-- a payload that came is not taken again
abbrev pub would_keep : Deployed → SiteHost → ℕ → ℕ → ℕ → SiteInput → Became
would_keep d h from gear number i = if has_come d h from gear number then Again else would_fit h i

-- what came from another site
abbrev pub would_bulk : Deployed → SiteHost → Option ℕ → Body → Became
would_bulk d h None b = Unfit
would_bulk d h (Some from) (body.Label l) = Unfit
would_bulk d h (Some from) (body.Payload gear number payload) =
    would_keep d h from gear number (input.Bulk from gear number payload)
would_bulk d h (Some from) (body.Beat number beat) = would_fit h (input.BeatIn from number beat)

abbrev pub would_body : Deployed → SiteHost → ℕ → ℕ → Body → Became
would_body d h link number (body.Label l) =
    when_taken (would_count (get_or h.wanted link 0) number) (would_turn d h link l)
would_body d h link number (body.Payload gear n payload) =
    would_bulk d h (peer_of d h link) (body.Payload gear n payload)
would_body d h link number (body.Beat n beat) = would_bulk d h (peer_of d h link) (body.Beat n beat)

-- a message of a link
abbrev pub would_come : Deployed → SiteHost → ℕ → Message → Became
would_come d h link m = if (m.sent.lamport == last_number) || (h.node.number == last_number) then Worn
    else would_body d h link m.number m.sent.body

-- what would become of what a site is handed
abbrev pub site_would : Deployed → SiteHost → Handed → Became
site_would d h (given.Asked number by i) = would_ask d h number by i
site_would d h (given.Killed number) = Unfit
site_would d h (given.Came link m) = would_come d h link m

-- ---- its links

abbrev pub trees_in : List Plan → ℕ
trees_in [] = 0
trees_in (plan.Stamp ∷ plans) = trees_in plans
trees_in (plan.Tree tree ∷ plans) = trees_in plans + 1

-- one with each other site, and one for each tree
abbrev pub site_link_count : Deployed → ℕ
site_link_count d = (d.sites - 1) + trees_in d.plans
