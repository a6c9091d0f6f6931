-- What a hub means as a machine of a node: its state, its answers, and what its entries put on links and take from
-- them.
use Rattle.std.specs.Prelude.{ℕ, ◌≡◌, ◌<◌, ◌==◌, ◌&&◌, true, Option, None}
use Rattle.sat_label.specs.declared.node.NodeName.{NodeName}
use Rattle.sat_label.specs.declared.node.NodeName.TheVariants as named
use Rattle.sat_act.specs.Deployed.{Deployed}
use Rattle.sat_proxy.specs.Stands.{StandsProxy}
use Rattle.sat_hub.specs.Changes.{shape_for}
use Rattle.sat_hub.specs.Seen.{HubSeen}
use Rattle.sat_site.specs.Stands.{StandsSink, StandsViews, StandsMade}
use Rattle.sat_stitch.specs.Nodes.{stands}
use Rattle.sat_joint.specs.Machines.{HubState, fresh_hub, hub_alone}
use Rattle.sat_hub_laws.specs.Hubs.{hub_answer, hub_fits, hub_then, hub_shows as shown_payload}
use Rattle.sat_node.specs.declared.kept.Body.{Body}
use Rattle.sat_node.specs.declared.kept.Body.TheVariants as body
use Rattle.sat_node.specs.declared.kept.Made.{Made}
use Rattle.sat_node.specs.Meanings.{Meaning}
use Rattle.sat_machines.specs.Layout.{label_link, peer}
use Rattle.sat_machines.specs.Sites.{beat_in, epoch_by, is_turned, label_or, label_taken, number_of, sent_by, some_if}
use Rattle.sat_machines.specs.Sites.{BeatBy}
use Rattle.sat_parts.specs.declared.hub_answer.HubAnswer.{HubAnswer}
use Rattle.sat_parts.specs.declared.hub_input.HubInput.{HubInput}
use Rattle.sat_parts.specs.declared.hub_input.HubInput.TheVariants as hub
use Rattle.sat_parts.specs.Acts.{HubActSeen, IsBy, hub_handed, is_hub_clients, site_handed}
use Rattle.sat_parts.specs.Layout.{lane_end, part_ins, part_outs}

-- the hub of site i of a deployment stands for a state of the model's hub, part by part
pub record StandsHub (d : Deployed) (i : ℕ) (x : HubSeen) (h : HubState) : Type 0 where
  pub shape : x.shape ≡ shape_for d i
  pub sink : StandsSink d x.sink x.counts h.sink
  pub views : StandsViews d i x.views h.views
  pub proxy : StandsProxy x.proxy h.proxy
  pub made : StandsMade d x.made h.made_beats

-- the hub of the site of this name
abbrev pub HubStands : Deployed → NodeName → HubSeen → HubState → Type 0
HubStands d (named.Site i) x h = StandsHub d i x h
HubStands d (named.Serializer e z) x h = ⊥
HubStands d (named.Gear i g) x h = ⊥

-- ---- answers

-- the answer of the model's hub, with what is put on links: the label that enters the tree of the emission epoch, by
-- the end for that tree, the beat of the model, and the payload that the model's hub shows
pub record HubAnswersAt (d : Deployed) (i : ℕ) (h : HubState) (act : HubActSeen) (a : HubAnswer) : Type 0 where
  pub answer : a.answer ≡ hub_answer d i h (hub_handed act.input)
  pub sent : a.sent ≡ sent_by d i (hub_alone d i h) (site_handed act.input) a.answer
  pub link : a.link ≡ label_link d (epoch_by (hub_alone d i h) (site_handed act.input) a.sent)
  pub beat : BeatBy d i (hub_alone d i h) (site_handed act.input) a.beat
  pub show : a.show ≡ shown_payload h a.answer

-- it fits the model's hub, and is a client's where it has to be
pub record HubFitsAt (d : Deployed) (i : ℕ) (h : HubState) (act : HubActSeen) : Type 0 where
  pub by : IsBy d act.by (is_hub_clients act.input)
  pub site : i < d.sites
  pub fits : hub_fits d i h (hub_handed act.input) ≡ true

-- ---- what entries put on links, and take from them

-- the beat for site j
abbrev pub beat_to : ℕ → HubInput → HubAnswer → Option Made
beat_to j (hub.Beat to) a = beat_in (to == j) a.beat
beat_to j _ a = None

-- a label that is sent, or else a beat for another site
abbrev pub hub_puts : NodeName → ℕ → HubActSeen → HubAnswer → Option Made
hub_puts (named.Site i) k act a = label_or a.sent (a.link == k) (beat_to (peer i k) act.input a)
hub_puts (named.Serializer e z) k act a = None
hub_puts (named.Gear i g) k act a = None

-- at hub i, by the end of this number
abbrev pub taken_at : Deployed → ℕ → ℕ → HubInput → HubAnswer → Option Body
taken_at d i k (hub.Turn front) a = label_taken (is_turned a.answer && (a.link == k)) front
taken_at d i k (hub.Bulk from g n payload) a = some_if (k == lane_end d i from g) (body.Payload g n payload)
taken_at d i k (hub.BeatIn from n beat) a = some_if (from == peer i k) (body.Beat n beat)
taken_at d i k _ a = None

-- what a hub takes from the link of this number
abbrev pub hub_takes_from : Deployed → NodeName → ℕ → HubActSeen → HubAnswer → Option Body
hub_takes_from d (named.Site i) k act a = taken_at d i k act.input a
hub_takes_from d (named.Serializer e z) k act a = None
hub_takes_from d (named.Gear i g) k act a = None

-- ---- all of it

-- what a hub is as a node: its state is the model's, and so are fits, answers and steps; and what its acts put on links
-- and take off them
abbrev pub hub_meaning : Deployed → Meaning HubState HubActSeen HubAnswer
hub_meaning d = record {
  fresh = λ name. fresh_hub (number_of name);
  fits = λ name h act. HubFitsAt d (number_of name) h act;
  answers = λ name h act a. HubAnswersAt d (number_of name) h act a;
  after = λ name h act a. hub_then d (number_of name) h (hub_handed act.input) a.answer;
  puts = hub_puts;
  takes = hub_takes_from d;
  stands = λ act a. stands a.answer;
  outs = part_outs d;
  ins = part_ins d;
}
