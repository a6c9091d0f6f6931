-- A site with a hub and with gears that made nothing: what the laws of sites say of it, they say of the hub.
use Rattle.std.specs.Prelude.{◌≡◌, ◌<◌, ℕ, Bool, true, false, ◌&&◌, List, [], length, map, replicate, get_or, Option, Some, None, slice_get, if◌then◌else◌, refl}
use Rattle.std.proofs.Common.{subst, ap, sym, ◌∙◌, arith}
use Rattle.std.proofs.lemmas.List.{length-map, length-replicate}
use Rattle.sat_label.specs.declared.label.Kind.{Kind}
use Rattle.sat_label.specs.declared.label.Kind.TheVariants.{Update, Move, Pulse, Close}
use Rattle.sat_label.specs.Words.{below}
use Rattle.sat_label.proofs.Numbers.{below-get, length-below}
use Rattle.sat_bulk.specs.Payloads.{Payload}
use Rattle.sat_gear.specs.Gear.{GearSeen, IsGear, fresh_gear, places, version_of}
use Rattle.sat_act.specs.Deployed.{Deployed}
use Rattle.sat_act.specs.Answers.{gear_of}
use Rattle.sat_act.specs.Parts.{replicates}
use Rattle.sat_model.specs.State.{SiteState, Version}
use Rattle.sat_hub.specs.Seen.{HubSeen, IsHub}
use Rattle.sat_hub.proofs.Fresh.{always}
use Rattle.sat_hub.proofs.Lists.{map-cases, Mapped, get-within, same-get}
use Rattle.sat_site.specs.Seen.{SiteSeen, IsGearAt, IsSite, hub_of, site_of}
use Rattle.sat_site.specs.Stands.{StandsGear, StandsSite, StandsSink, StandsViews, StandsMade, version_seen}
use Rattle.sat_site.specs.SiteSteps.{show_some, shown_of, site_after, site_answers, site_beat, site_epoch, site_sends}
use Rattle.sat_site.specs.Inputs.{fits_here, fits_in}
use Rattle.sat_proxy.specs.Steps.{stamp_shows, turn_shows}
use Rattle.sat_proxy.specs.Stands.{StandsProxy}
use Rattle.sat_joint.specs.Machines.{HubState, GearNode, kept_site, whole}
use Rattle.sat_parts.specs.declared.hub_input.HubInput.{HubInput}
use Rattle.sat_parts.specs.declared.hub_input.HubInput.TheVariants as hub
use Rattle.sat_parts.specs.Acts.{site_handed}
use Rattle.sat_parts.specs.HubSteps.{hub_after, hub_answers, hub_beat, hub_epoch, hub_sends, hub_takes, HasTimes}
use Rattle.sat_parts.specs.Hubs.{StandsHub}

-- ---- the site

-- a gear that made nothing, of which this promise was gathered
abbrev stand_in : HubSeen → ℕ → GearSeen
stand_in x g = record (fresh_gear x.shape g) {
  promise = get_or x.sink.promises g 0;
  drained_promise = get_or x.sink.promises g 0;
}

abbrev pub gears_for : HubSeen → List GearSeen
gears_for x = map (stand_in x) (below x.shape.gears)

abbrev pub site_for : HubSeen → SiteSeen
site_for x = site_of x (gears_for x)

-- the model's gears beside it
abbrev pub gear_states : HubSeen → ℕ → GearNode
gear_states x g = record {
  gear = record { promise = get_or x.sink.promises g 0; fresh = []; lanes = λ j. [] };
  store = λ n. None;
}

record IsStandIn (x : HubSeen) (g : ℕ) (gear : GearSeen) : Type 0 where
  pub within : g < x.shape.gears
  pub is : stand_in x g ≡ gear

stands-in : (x : HubSeen) (g : ℕ) (gear : GearSeen) → slice_get (gears_for x) g ≡ Some gear → IsStandIn x g gear
stands-in x g gear at =
    let w : Mapped (stand_in x) (below x.shape.gears) g gear = map-cases (stand_in x) (below x.shape.gears) g gear at in
    let lt : g < x.shape.gears = subst (λ (n : ℕ). g < n) (length-below x.shape.gears) (get-within (below x.shape.gears) g w.old w.at) in
    record { within = lt; is = ap (stand_in x) (same-get (below x.shape.gears) g g w.old (below-get x.shape.gears g lt) w.at) ∙ w.is }

no-payload : (n j m : ℕ) (p : Payload) → slice_get (get_or (replicate n []) j []) m ≡ Some p → ⊥
no-payload n j m p at = let clash : None ≡ Some p = sym (ap (λ (ps : List Payload). slice_get ps m) (always n j [])) ∙ at in cc

is-gear : (x : HubSeen) (g : ℕ) → IsHub x → HasTimes x → g < x.shape.gears → IsGear (stand_in x g)
is-gear x g k times lt = record {
  shape = k.shape;
  gear = lt;
  promise = times g;
  drained_promise = (omega arith);
  rises = tt;
  fresh = λ l i. absurd i;
  lanes = length-replicate x.shape.sites [];
  payloads = λ j n p at. absurd (no-payload x.shape.sites j n p at);
  versions = length-replicate (places (length x.shape.interest.replicas) x.shape.gears) None;
}

is-gear-at : (x : HubSeen) (g : ℕ) → IsHub x → IsGearAt x.shape x.sink g (stand_in x g)
is-gear-at x g k = record { shape = refl; number = refl; gathered = refl; fresh = λ l i. absurd i; pending = λ l i. k.pending g l i }

pub is-site : (x : HubSeen) → IsHub x → HasTimes x → IsSite (site_for x)
is-site x k times = record {
  shape = k.shape;
  gears = record {
    count = length-map (below x.shape.gears) (stand_in x) ∙ length-below x.shape.gears;
    each = λ g gear at. subst (IsGearAt x.shape x.sink g) (stands-in x g gear at).is (is-gear-at x g k);
    are = λ g gear at. subst IsGear (stands-in x g gear at).is (is-gear x g k times (stands-in x g gear at).within);
  };
  sink = k.sink;
  counts = k.counts;
  views = k.views;
  proxy = k.proxy;
  made = k.made;
}

stands-gear : (d : Deployed) (x : HubSeen) (g : ℕ) → StandsGear d (stand_in x g) (gear_states x g).gear
stands-gear d x g = record { promise = refl; fresh = refl; lanes = λ j lt. always x.shape.sites j [] }

no-version : (x : HubSeen) (g n : ℕ) → version_of (stand_in x g) n ≡ None
no-version x g n = always (places (length x.shape.interest.replicas) x.shape.gears) _ None

abbrev none : Option Version
none = None

nothing : (b : Bool) → none ≡ (if b then none else none)
nothing true = refl
nothing false = refl

pub stands-site : (d : Deployed) (i : ℕ) (x : HubSeen) (h : HubState) → StandsHub d i x h → StandsSite d i (site_for x) (whole d i h (gear_states x))
stands-site d i x h st = record {
  shape = st.shape;
  gears = record {
    each = λ g gear at. subst (λ (y : GearSeen). StandsGear d y (gear_states x g).gear) (stands-in x g gear at).is (stands-gear d x g);
    none = λ g j past. refl;
  };
  sink = st.sink;
  views = st.views;
  proxy = st.proxy;
  store = record {
    each = λ n gear lt kept at.
        subst (λ (y : GearSeen). version_seen (version_of y n) ≡ none) (stands-in x (gear_of d n) gear at).is (ap version_seen (no-version x (gear_of d n) n))
        ∙ nothing (replicates d n i);
  };
  made = st.made;
}

-- ---- the hub's part of a site

-- the hub's part of a state
pub record HasHub (s : SiteState) (h : HubState) : Type 0 where
  pub sink : s.sink ≡ h.sink
  pub views : s.views ≡ h.views
  pub proxy : s.proxy ≡ h.proxy
  pub made : s.made_beats ≡ h.made_beats

pub has-hub : (d : Deployed) (i : ℕ) (s : SiteState) (h : HubState) (gs : ℕ → GearNode) → kept_site d i s ≡ whole d i h gs → HasHub s h
has-hub d i s h gs e = record {
  sink = ap (λ (s : SiteState). s.sink) e;
  views = ap (λ (s : SiteState). s.views) e;
  proxy = ap (λ (s : SiteState). s.proxy) e;
  made = ap (λ (s : SiteState). s.made_beats) e;
}

pub hub-stands : (d : Deployed) (i : ℕ) (y : SiteSeen) (s : SiteState) (h : HubState) → StandsSite d i y s → HasHub s h → StandsHub d i (hub_of y) h
hub-stands d i y s h st e = record {
  shape = st.shape;
  sink = subst (λ (q : _). StandsSink d y.sink y.counts q) e.sink st.sink;
  views = subst (λ (q : _). StandsViews d i y.views q) e.views st.views;
  proxy = subst (λ (q : _). StandsProxy y.proxy q) e.proxy st.proxy;
  made = subst (λ (q : _). StandsMade d y.made q) e.made st.made;
}

-- ---- its step is the hub's

abbrev pub is_gather : HubInput → Bool
is_gather (hub.Gather drained) = true
is_gather _ = false

and-true : (b : Bool) → b ≡ (b && true)
and-true true = refl
and-true false = refl

pub takes-is : (x : HubSeen) (gears : List GearSeen) (given : HubInput) → is_gather given ≡ false → hub_takes x given ≡ fits_in (site_of x gears) (site_handed given)
unfolding hub_takes fits_here
takes-is x gears (hub.Gather drained) e = absurd (cc)
takes-is x gears (hub.Attach seen) e = and-true _
takes-is x gears hub.Emit e = refl
takes-is x gears hub.Pulse e = refl
takes-is x gears (hub.Turn None) e = refl
takes-is x gears (hub.Turn (Some l)) e = and-true _
takes-is x gears (hub.Bulk from g n p) e = refl
takes-is x gears (hub.Beat j) e = and-true _
takes-is x gears (hub.BeatIn from n beat) e = refl
takes-is x gears hub.Stamp e = refl
takes-is x gears hub.Close e = refl
takes-is x gears hub.Fall e = refl
takes-is x gears hub.Advance e = refl

pub answers-is : (x : HubSeen) (gears : List GearSeen) (given : HubInput) → is_gather given ≡ false → hub_answers x given ≡ site_answers (site_of x gears) (site_handed given)
unfolding hub_answers site_answers
answers-is x gears (hub.Gather drained) e = absurd (cc)
answers-is x gears (hub.Attach seen) e = refl
answers-is x gears hub.Emit e = refl
answers-is x gears hub.Pulse e = refl
answers-is x gears (hub.Turn front) e = refl
answers-is x gears (hub.Bulk from g n p) e = refl
answers-is x gears (hub.Beat j) e = refl
answers-is x gears (hub.BeatIn from n beat) e = refl
answers-is x gears hub.Stamp e = refl
answers-is x gears hub.Close e = refl
answers-is x gears hub.Fall e = refl
answers-is x gears hub.Advance e = refl

pub sends-is : (x : HubSeen) (gears : List GearSeen) (given : HubInput) → hub_sends x given ≡ site_sends (site_of x gears) (site_handed given)
unfolding hub_sends site_sends
sends-is x gears (hub.Gather drained) = refl
sends-is x gears (hub.Attach seen) = refl
sends-is x gears hub.Emit = refl
sends-is x gears hub.Pulse = refl
sends-is x gears (hub.Turn front) = refl
sends-is x gears (hub.Bulk from g n p) = refl
sends-is x gears (hub.Beat j) = refl
sends-is x gears (hub.BeatIn from n beat) = refl
sends-is x gears hub.Stamp = refl
sends-is x gears hub.Close = refl
sends-is x gears hub.Fall = refl
sends-is x gears hub.Advance = refl

pub epoch-is : (x : HubSeen) (gears : List GearSeen) (given : HubInput) → hub_epoch x given ≡ site_epoch (site_of x gears) (site_handed given)
unfolding hub_epoch site_epoch
epoch-is x gears (hub.Gather drained) = refl
epoch-is x gears (hub.Attach seen) = refl
epoch-is x gears hub.Emit = refl
epoch-is x gears hub.Pulse = refl
epoch-is x gears (hub.Turn front) = refl
epoch-is x gears (hub.Bulk from g n p) = refl
epoch-is x gears (hub.Beat j) = refl
epoch-is x gears (hub.BeatIn from n beat) = refl
epoch-is x gears hub.Stamp = refl
epoch-is x gears hub.Close = refl
epoch-is x gears hub.Fall = refl
epoch-is x gears hub.Advance = refl

pub beat-is : (x : HubSeen) (gears : List GearSeen) (given : HubInput) → hub_beat x given ≡ site_beat (site_of x gears) (site_handed given)
unfolding hub_beat site_beat
beat-is x gears (hub.Gather drained) = refl
beat-is x gears (hub.Attach seen) = refl
beat-is x gears hub.Emit = refl
beat-is x gears hub.Pulse = refl
beat-is x gears (hub.Turn front) = refl
beat-is x gears (hub.Bulk from g n p) = refl
beat-is x gears (hub.Beat j) = refl
beat-is x gears (hub.BeatIn from n beat) = refl
beat-is x gears hub.Stamp = refl
beat-is x gears hub.Close = refl
beat-is x gears hub.Fall = refl
beat-is x gears hub.Advance = refl

-- what is shown changes gears alone
shown-hub : (y : SiteSeen) (p : Payload) (kind : Kind) → hub_of (shown_of y p kind) ≡ hub_of y
shown-hub y p (Update items) = refl
shown-hub y p (Move j) = refl
shown-hub y p Pulse = refl
shown-hub y p (Close e) = refl

show-hub : (y : SiteSeen) (o : Option Payload) → hub_of (show_some y o) ≡ hub_of y
show-hub y None = refl
show-hub y (Some p) = shown-hub y p p.label.kind

pub after-is : (x : HubSeen) (gears : List GearSeen) (given : HubInput) → is_gather given ≡ false → hub_of (site_after (site_of x gears) (site_handed given)) ≡ hub_after x given
unfolding hub_after site_after
after-is x gears (hub.Gather drained) e = absurd (cc)
after-is x gears (hub.Attach seen) e = refl
after-is x gears hub.Emit e = refl
after-is x gears hub.Pulse e = refl
after-is x gears (hub.Turn front) e = show-hub _ (turn_shows x.views x.proxy front)
after-is x gears (hub.Bulk from g n p) e = refl
after-is x gears (hub.Beat j) e = refl
after-is x gears (hub.BeatIn from n beat) e = refl
after-is x gears hub.Stamp e = show-hub _ (stamp_shows x.views x.proxy)
after-is x gears hub.Close e = refl
after-is x gears hub.Fall e = refl
after-is x gears hub.Advance e = refl
