-- A site is its hub and its gears: their states, what they answer, and what an act makes of them.
use Rattle.std.specs.Prelude.{◌≡◌, ℕ, Bool, true, false, nat_lt, List, [], ◌∷◌, length, Option, Some, None}
use Rattle.std.specs.Prelude.{if◌then◌else◌}
use Rattle.sat_label.specs.declared.label.Label.{Label}
use Rattle.sat_act.specs.declared.act.Act.{Act}
use Rattle.sat_act.specs.declared.act.Act.TheVariants as act
use Rattle.sat_act.specs.declared.answer.Answer.{Answer}
use Rattle.sat_act.specs.declared.answer.Answer.TheVariants as ans
use Rattle.sat_act.specs.Deployed.{Deployed}
use Rattle.sat_act.specs.Answers.{gear_of}
use Rattle.sat_act.specs.Parts.{BeatNote, is_update_of, items_of, replicates}
use Rattle.sat_bulk.specs.Payloads.{Payload}
use Rattle.sat_model.specs.State.{GearState, SinkState, ViewState, ProxyState, Version, SiteState, fresh_site}
use Rattle.sat_model.specs.Input.{SiteInput}
use Rattle.sat_model.specs.Input as given
use Rattle.sat_model.specs.Look.{rows, least_row, payload_in}
use Rattle.sat_model.specs.Next.{gear_next, gathered_next, pending_next, sent_next, pulse_next, views_next, proxy_next}
use Rattle.sat_model.specs.Next.{values_given, payload_at, put, version_at, part_for, store_next, made_next}
use Rattle.sat_model.specs.Reply.{site_answer}
use Rattle.sat_stitch.specs.Nodes.{input_of, beat_made, with_input, asked, dead_after, IsSerialAnswer, IsSessionAnswer}
use Rattle.sat_joint.specs.Pieces.{Drain, Handed, Plain, Drains, Drained, Showing, Piece, given_of, plains}
use Rattle.sat_joint.specs.Table.{Node, AtHub, AtGear, AtSerial, Alone}

-- a hub: the site's sink, its views, what it has of other sites, and the beats that it made
pub record HubState : Type 0 where
  pub sink : SinkState
  pub views : ViewState
  pub proxy : ProxyState
  pub made_beats : ℕ → List BeatNote

-- a gear with its versions of its own items
pub record GearNode : Type 0 where
  pub gear : GearState
  pub store : ℕ → Option Version

abbrev pub fresh_hub : ℕ → HubState
fresh_hub i = record {
  sink = (fresh_site i).sink;
  views = (fresh_site i).views;
  proxy = (fresh_site i).proxy;
  made_beats = (fresh_site i).made_beats;
}

abbrev pub fresh_gear : GearNode
fresh_gear = record { gear = record { promise = 0; fresh = []; lanes = λ j. [] }; store = λ x. None }

-- the versions that site i has of the items that it keeps
abbrev pub kept_store : Deployed → ℕ → (ℕ → Option Version) → ℕ → Option Version
kept_store d i store x = if replicates d x i then store x else None

-- a site's state, but for versions of items that it doesn't keep: nothing reads these
abbrev pub kept_site : Deployed → ℕ → SiteState → SiteState
kept_site d i s = record {
  gears = s.gears;
  sink = s.sink;
  views = s.views;
  proxy = s.proxy;
  store = kept_store d i s.store;
  made_beats = s.made_beats;
}

-- a hub and gears as one site: the version of each item that it keeps is that of the item's gear
abbrev pub whole : Deployed → ℕ → HubState → (ℕ → GearNode) → SiteState
whole d i h gs = record {
  gears = λ g. (gs g).gear;
  sink = h.sink;
  views = h.views;
  proxy = h.proxy;
  store = kept_store d i (λ x. (gs (gear_of d x)).store x);
  made_beats = h.made_beats;
}

-- a hub beside gears that did nothing, and gears that are this one beside a hub that did nothing: what each reads
-- of itself alone
abbrev pub hub_alone : Deployed → ℕ → HubState → SiteState
hub_alone d i h = whole d i h (λ g. fresh_gear)

abbrev pub gear_alone : Deployed → ℕ → GearNode → SiteState
gear_alone d i n = whole d i (fresh_hub i) (λ g. n)

-- ---- a hub

abbrev pub no_drain : Drain
no_drain = record { promise = 0; labels = []; counts = λ j. 0 }

-- what was handed for the deployment's gears
abbrev pub of_gears : Deployed → (ℕ → Drain) → ℕ → Drain
of_gears d f g = if nat_lt g d.gears then f g else no_drain

-- what a gear gives to a gather
abbrev pub drain_of : GearNode → Drain
drain_of n = record { promise = n.gear.promise; labels = n.gear.fresh; counts = λ j. length (n.gear.lanes j) }

abbrev pub sink_by : (ℕ → Drain) → SinkState → Answer → SinkState
sink_by f s r = record {
  promises = λ g. gathered_next (s.promises g) (f g).promise r;
  pending = λ g. pending_next (s.pending g) (f g).labels r;
  counts = λ g j. gathered_next (s.counts g j) ((f g).counts j) r;
  last = sent_next s.last r;
  pulse = pulse_next s.pulse r;
}

abbrev pub hub_next : Deployed → ℕ → HubState → (ℕ → Drain) → SiteInput → Answer → HubState
hub_next d i h f input r = record {
  sink = sink_by f h.sink r;
  views = views_next h.views r;
  proxy = proxy_next d i (hub_alone d i h) input r;
  made_beats = λ j. made_next d i (hub_alone d i h) j input r;
}

abbrev pub gathers : Deployed → (ℕ → Drain) → Answer
gathers d f =
    ans.Gathered (length (rows (λ g. (of_gears d f g).labels) d.gears))
    (least_row (λ g. (of_gears d f g).promise) d.gears)

abbrev pub hub_by_input : Deployed → ℕ → HubState → Option SiteInput → Answer → HubState
hub_by_input d i h None r = h
hub_by_input d i h (Some input) r = hub_next d i h (λ g. no_drain) input r

-- a hub after an act
abbrev pub hub_by : Deployed → ℕ → HubState → Act → Handed → Answer → HubState
hub_by d i h a (Plain x) r = hub_by_input d i h (input_of a x) r
hub_by d i h a (Drains f) r = hub_next d i h (of_gears d f) given.Gather r
hub_by d i h a Drained r = h
hub_by d i h a (Showing p) r = h

unfoldable pub hub_after : Deployed → ℕ → List Piece → HubState
hub_after d i [] = fresh_hub i
hub_after d i (k ∷ ks) = hub_by d i (hub_after d i ks) k.act k.handed k.answer

-- ---- a gear

abbrev pub gear_step : Deployed → ℕ → GearNode → SiteInput → Answer → GearNode
gear_step d g n input r =
    record { gear = gear_next d g n.gear input r; store = λ x. store_next x (n.store x) [] input r }

abbrev pub gear_by_input : Deployed → ℕ → GearNode → Option SiteInput → Answer → GearNode
gear_by_input d g n None r = n
gear_by_input d g n (Some input) r = gear_step d g n input r

-- a gear whose labels were gathered
abbrev pub gear_drained : GearNode → GearNode
gear_drained n =
    record { gear = record { promise = n.gear.promise; fresh = []; lanes = n.gear.lanes }; store = n.store }

-- a version of a gear's item after it showed a payload
abbrev pub shown_next : Payload → ℕ → Option Version → Option Version
shown_next p x old =
    if is_update_of p.label.kind x
    then put old (version_at p.label (part_for (items_of p.label.kind) p.values x))
    else old

-- a gear that shows a payload: its items get their values
abbrev pub gear_shows : GearNode → Payload → GearNode
gear_shows n p = record { gear = n.gear; store = λ x. shown_next p x (n.store x) }

-- a gear after an act
abbrev pub gear_by : Deployed → ℕ → GearNode → Act → Handed → Answer → GearNode
gear_by d g n a (Plain x) r = gear_by_input d g n (input_of a x) r
gear_by d g n a (Drains f) r = n
gear_by d g n a Drained r = gear_drained n
gear_by d g n a (Showing p) r = gear_shows n p

unfoldable pub gear_after : Deployed → ℕ → List Piece → GearNode
gear_after d g [] = fresh_gear
gear_after d g (k ∷ ks) = gear_by d g (gear_after d g ks) k.act k.handed k.answer

-- ---- answers

abbrev pub is_gather : Act → Bool
is_gather (act.Gather i) = true
is_gather _ = false

-- the answer of an act at a hub that is its home
abbrev pub IsHubAnswer : Deployed → ℕ → HubState → Act → Handed → Answer → Type 0
IsHubAnswer d i h a (Plain x) r = (is_gather a ≡ false) × ((input : SiteInput) × (input_of a x ≡ Some input) ×
    (r ≡ site_answer d i (hub_alone d i h) input))
IsHubAnswer d i h a (Drains f) r = (is_gather a ≡ true) × (r ≡ gathers d f)
IsHubAnswer d i h a Drained r = ⊥
IsHubAnswer d i h a (Showing p) r = ⊥

-- and at a gear
abbrev pub IsGearAnswer : Deployed → ℕ → GearNode → Act → Handed → Answer → Type 0
IsGearAnswer d i n a (Plain x) r = (input : SiteInput) × (input_of a x ≡ Some input) ×
    (r ≡ site_answer d i (gear_alone d i n) input)
IsGearAnswer d i n a (Drains f) r = ⊥
IsGearAnswer d i n a Drained r = ⊥
IsGearAnswer d i n a (Showing p) r = ⊥

-- whether the answer of a piece is the one that its home gives, by what stands before it in the home's list
abbrev pub IsHomeAnswer : Deployed → Node → List Piece → Piece → Type 0
IsHomeAnswer d (AtHub i) before k = IsHubAnswer d i (hub_after d i before) k.act k.handed k.answer
IsHomeAnswer d (AtGear i g) before k = IsGearAnswer d i (gear_after d g before) k.act k.handed k.answer
IsHomeAnswer d (AtSerial e z) before k =
    IsSerialAnswer d e z (dead_after e z (plains before)) k.act (given_of k.handed) k.answer
IsHomeAnswer d (Alone c) before k = IsSessionAnswer k.act (given_of k.handed) k.answer

-- ---- what nodes give

-- the payload that a hub shows under a label
abbrev pub shown_by : HubState → Label → Payload
shown_by h l = record { label = l; values = payload_in h.proxy.pool l }

-- the payload that a gear writes under a label, by what its machine is handed
abbrev pub written_by : Option SiteInput → Label → Payload
written_by None l = payload_at l []
written_by (Some input) l = payload_at l (values_given input)

-- the beat that a hub makes
abbrev pub hub_beat : Deployed → ℕ → ℕ → List Piece → Piece → Option BeatNote
hub_beat d i j before k =
    with_input (input_of k.act (given_of k.handed))
    (λ input. beat_made d i (hub_alone d i (hub_after d i before)) j input k.answer)

-- the number of the payload that an act asks a hub for
abbrev pub hub_asked : Deployed → ℕ → HubState → ℕ → ℕ → Option ℕ → ℕ
hub_asked d j h i g o = asked (hub_alone d j h) i g o
