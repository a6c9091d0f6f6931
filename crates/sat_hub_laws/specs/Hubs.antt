-- A hub as a machine: what it answers to what it is handed, what it then is, and what its acts are.
use Rattle.std.specs.Prelude.{ℕ, ◌+◌, Bool, ◌||◌, not, ◌==◌, nat_le, length, Option, Some, None, is_some, if◌then◌else◌}
use Rattle.sat_label.specs.declared.limits.TheConstants.{PULSE_GEAR}
use Rattle.sat_label.specs.declared.label.Kind.TheVariants as kind
use Rattle.sat_label.specs.Order.{point_at}
use Rattle.sat_label.specs.Words.{has}
use Rattle.sat_act.specs.declared.act.Act.{Act}
use Rattle.sat_act.specs.declared.act.Act.TheVariants as act
use Rattle.sat_act.specs.declared.answer.Answer.{Answer}
use Rattle.sat_act.specs.declared.answer.Answer.TheVariants as ans
use Rattle.sat_act.specs.declared.answer.Refusal.TheVariants as why
use Rattle.sat_act.specs.Deployed.{Deployed}
use Rattle.sat_act.specs.Answers.{refused_if, turned}
use Rattle.sat_bulk.specs.Payloads.{Payload}
use Rattle.sat_model.specs.Fits.{fits}
use Rattle.sat_model.specs.Input.{SiteInput}
use Rattle.sat_model.specs.Input as site
use Rattle.sat_model.specs.Look.{stable_of, ready_of, cut_of, mode_of, waiting_of, best_of, numbers_of}
use Rattle.sat_model.specs.Reply.{may_come, may_pass, outlook_of, stamp_next}
use Rattle.sat_stitch.specs.Kept.{Nothing, OfFront, OfPayload, OfBeat, OfClient}
use Rattle.sat_joint.specs.Pieces.{Drain, Handed, Plain, Drains}
use Rattle.sat_joint.specs.Machines.{HubState, hub_alone, no_drain, of_gears, hub_next, gathers, shown_by}
use Rattle.sat_hub_laws.specs.Inputs.{HubInput}
use Rattle.sat_hub_laws.specs.Inputs as given

-- what the machine of the whole site is handed
abbrev pub site_of_hub : HubInput → SiteInput
site_of_hub (given.Attach seen) = site.Attach seen
site_of_hub (given.Gather f) = site.Gather
site_of_hub given.Emit = site.Emit
site_of_hub given.Pulse = site.Pulse
site_of_hub (given.Turn front) = site.Turn front
site_of_hub (given.Bulk from g n p) = site.Bulk from g n p
site_of_hub (given.Beat j) = site.Beat j
site_of_hub (given.BeatIn from n note) = site.BeatIn from n note
site_of_hub given.Stamp = site.Stamp
site_of_hub given.Close = site.Close
site_of_hub given.Fall = site.Fall
site_of_hub given.Advance = site.Advance

-- what a hub answers to what it is handed, one clause for each input. What it reads of itself is what a site with this
-- hub reads, whatever its gears are
unfoldable pub hub_answer : Deployed → ℕ → HubState → HubInput → Answer
hub_answer d i h (given.Attach seen) =
    refused_if (not (may_come d (outlook_of d (hub_alone d i h)) seen i)) why.NotYet ans.Attached
hub_answer d i h (given.Gather f) = gathers d f
hub_answer d i h given.Emit =
    elim (ready_of d (hub_alone d i h)) [ None ↦ ans.Refused why.Idle | Some l ↦ ans.Emitted l ]
hub_answer d i h given.Pulse =
    refused_if (is_some (ready_of d (hub_alone d i h)) || nat_le (stable_of d (hub_alone d i h)) h.sink.pulse) why.Idle
    (ans.Pulsed (record { point = point_at (stable_of d (hub_alone d i h)) i PULSE_GEAR; kind = kind.Pulse }))
hub_answer d i h (given.Turn front) =
    refused_if (mode_of d (hub_alone d i h)) why.StampOrder
    (elim front [ None ↦ ans.Refused why.Empty | Some l ↦ turned (waiting_of (hub_alone d i h)) l ])
hub_answer d i h (given.Bulk from g n p) = if has ◌==◌ (h.proxy.taken from g) n then ans.Again else ans.Brought p.label
hub_answer d i h (given.Beat j) = ans.Beat (length (h.made_beats j))
hub_answer d i h (given.BeatIn from n note) =
    elim (best_of d (hub_alone d i h) from) [
      | None ↦ if has ◌==◌ (numbers_of (hub_alone d i h) from) n then ans.Again else ans.Taken
      | Some b ↦ if nat_le n b.0
          then ans.Old else (if has ◌==◌ (numbers_of (hub_alone d i h) from) n then ans.Again else ans.Taken)
    ]
hub_answer d i h given.Stamp =
    refused_if (not (mode_of d (hub_alone d i h))) why.TreeOrder
    (elim (stamp_next d (outlook_of d (hub_alone d i h)) i) [ None ↦ ans.Refused why.NotYet | Some l ↦ ans.Shown l ])
hub_answer d i h given.Close =
    refused_if (h.views.emission == length d.plans) why.NoNextEpoch (
    refused_if (h.views.emission == h.views.view + 1) why.Behind (
    ans.Closed h.views.emission (cut_of d i (hub_alone d i h))))
hub_answer d i h given.Fall =
    refused_if (mode_of d (hub_alone d i h)) why.StampOrder
    (refused_if (h.views.emission == h.views.view) why.NotClosed ans.Fallen)
hub_answer d i h given.Advance =
    refused_if (h.views.emission == h.views.view) why.NotClosed (
    refused_if (not (may_pass d (outlook_of d (hub_alone d i h)) h.views.heard i)) why.NotYet
    (ans.View (h.views.view + 1)))

-- what came from the gears of the deployment
abbrev pub drained_in : Deployed → HubInput → ℕ → Drain
drained_in d (given.Gather f) = of_gears d f
drained_in d _ = λ g. no_drain

-- what an answer makes of a hub, part by part
abbrev pub hub_then : Deployed → ℕ → HubState → HubInput → Answer → HubState
hub_then d i h input r = hub_next d i h (drained_in d input) (site_of_hub input) r

-- a hub's step: its answer, and the hub after it
abbrev pub hub_step : Deployed → ℕ → HubState → HubInput → Answer × HubState
hub_step d i h input = (hub_answer d i h input, hub_then d i h input (hub_answer d i h input))

-- the payload that a step with this answer shows, if it shows one
abbrev pub hub_shows : HubState → Answer → Option Payload
hub_shows h (ans.Shown l) = Some (shown_by h l)
hub_shows h _ = None

-- a gear's promise at the last gather, 0 before the first
abbrev pub gathered_of : HubState → ℕ → ℕ
gathered_of h g = h.sink.promises g

-- whether an input fits. Nothing is asked of what gears give
abbrev pub hub_fits : Deployed → ℕ → HubState → HubInput → Bool
hub_fits d i h input = fits d i (hub_alone d i h) (site_of_hub input)

-- the act that an input is at site i, by client c where it is a client's. A payload and a beat have their numbers
abbrev pub hub_act : ℕ → ℕ → HubInput → Act
hub_act i c (given.Attach seen) = act.Attach c i
hub_act i c (given.Gather f) = act.Gather i
hub_act i c given.Emit = act.Emit i
hub_act i c given.Pulse = act.Pulse i
hub_act i c (given.Turn front) = act.Turn i
hub_act i c (given.Bulk from g n p) = act.Bulk from g i (Some n)
hub_act i c (given.Beat j) = act.Beat i j
hub_act i c (given.BeatIn from n note) = act.BeatIn from i n
hub_act i c given.Stamp = act.Stamp i
hub_act i c given.Close = act.Close i
hub_act i c given.Fall = act.Fall i
hub_act i c given.Advance = act.Advance i

-- what was handed to a hub with an input. A client that attaches has no seat
abbrev pub hub_handed : HubInput → Handed
hub_handed (given.Attach seen) = Plain (OfClient seen None)
hub_handed (given.Gather f) = Drains f
hub_handed (given.Turn front) = Plain (OfFront front)
hub_handed (given.Bulk from g n p) = Plain (OfPayload n p)
hub_handed (given.BeatIn from n note) = Plain (OfBeat note)
hub_handed _ = Plain Nothing
