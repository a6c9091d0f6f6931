-- Which messages fit a hub.
use Rattle.std.proofs.Common.{◌≡◌, ℕ, ◌^◌, ◌==◌, ◌&&◌, nat_le, nat_lt, Bool, true, false, List, length, refl, sym, ap, ◌∙◌}
use Rattle.sat_label.specs.declared.node.NodeName.{NodeName}
use Rattle.sat_label.specs.declared.node.NodeName.TheVariants as named
use Rattle.sat_bulk.specs.Payloads.{Payload}
use Rattle.sat_beat.specs.declared.Beat.{Beat}
use Rattle.sat_act.specs.Deployed.{Deployed}
use Rattle.sat_act.specs.Limits.{IsDeployment}
use Rattle.sat_model.specs.Fits.{fits}
use Rattle.sat_hub.specs.Seen.{HubSeen, IsHub}
use Rattle.sat_site.specs.Inputs.{input_of, is_sized}
use Rattle.sat_site.specs.Laws.{EachFits}
use Rattle.sat_joint.specs.Machines.{HubState, GearNode, whole}
use Rattle.sat_hub_laws.specs.Hubs.{hub_fits}
use Rattle.sat_node.specs.Meanings.{replay}
use Rattle.sat_machines.specs.Sites.{number_of}
use Rattle.sat_parts.specs.declared.hub_input.HubInput.{HubInput}
use Rattle.sat_parts.specs.declared.hub_input.HubInput.TheVariants as hub
use Rattle.sat_parts.specs.Acts.{hub_handed, site_handed}
use Rattle.sat_parts.specs.Hubs.{HubStands, StandsHub, hub_meaning}
use Rattle.sat_parts.specs.HubSteps.{hub_takes, HasTimes}
use Rattle.sat_parts.proofs.Instead.{gear_states, gears_for, is-site, is_gather, site_for, stands-site, takes-is}
use Rattle.sat_parts_passes.specs.Sendings.{HubKept}
use Rattle.sat_parts_hearing.specs.Hearings.{is_heard, is_small, may_take}

-- what comes is a payload or a beat
pub by_heard : (P : HubInput → Type 0) → ((j g n : ℕ) (p : Payload) → P (hub.Bulk j g n p)) → ((j n : ℕ) (beat : Beat) → P (hub.BeatIn j n beat)) → (given : HubInput) → is_heard given ≡ true → P given
by_heard P bulk beat-in (hub.Bulk j g n p) e = bulk j g n p
by_heard P bulk beat-in (hub.BeatIn j n beat) e = beat-in j n beat
by_heard P bulk beat-in (hub.Attach seen) e = absurd (cc (e))
by_heard P bulk beat-in (hub.Gather drained) e = absurd (cc (e))
by_heard P bulk beat-in hub.Emit e = absurd (cc (e))
by_heard P bulk beat-in hub.Pulse e = absurd (cc (e))
by_heard P bulk beat-in (hub.Turn front) e = absurd (cc (e))
by_heard P bulk beat-in (hub.Beat j) e = absurd (cc (e))
by_heard P bulk beat-in hub.Stamp e = absurd (cc (e))
by_heard P bulk beat-in hub.Close e = absurd (cc (e))
by_heard P bulk beat-in hub.Fall e = absurd (cc (e))
by_heard P bulk beat-in hub.Advance e = absurd (cc (e))

-- what the model's hub asks is what a site asks that has it
fits-beside : (d : Deployed) (i : ℕ) (h : HubState) (gs : ℕ → GearNode) (given : HubInput) → is_heard given ≡ true → fits d i (whole d i h gs) (input_of (site_handed given)) ≡ hub_fits d i h (hub_handed given)
unfolding fits
fits-beside d i h gs given e = by_heard (λ given. fits d i (whole d i h gs) (input_of (site_handed given)) ≡ hub_fits d i h (hub_handed given)) (λ j g n p. refl) (λ j n beat. refl) given e

sized-by : (d : Deployed) (i : ℕ) (x : HubSeen) (h : HubState) (given : HubInput) → StandsHub d i x h → is_heard given ≡ true → is_sized (site_for x) (site_handed given) ≡ is_small d given
sized-by d i x h given st e =
    by_heard (λ given. is_sized (site_for x) (site_handed given) ≡ is_small d given) (λ j g n p. refl)
    (λ j n beat. λ k. nat_lt n (2 ^ 63) && ((length beat.counts == (st.shape k).gears) && nat_le (length beat.closes) (st.views.count k))) given e

no-gather : (given : HubInput) → is_heard given ≡ true → is_gather given ≡ false
no-gather given e = by_heard (λ given. is_gather given ≡ false) (λ j g n p. refl) (λ j n beat. refl) given e

takes-by : (d : Deployed) (name : NodeName) (x : HubSeen) (h : HubState) (given : HubInput) → EachFits → IsDeployment d → IsHub x → HasTimes x → HubStands d name x h → is_heard given ≡ true
    → hub_takes x given ≡ (hub_fits d (number_of name) h (hub_handed given) && is_small d given)
takes-by d (named.Serializer e z) x h given law dep k times st heard = absurd st
takes-by d (named.Gear j g) x h given law dep k times st heard = absurd st
takes-by d (named.Site i) x h given law dep k times st heard =
    takes-is x (gears_for x) given (no-gather given heard)
    ∙ (law (site_for x) (site_handed given) d i (whole d i h (gear_states x)) dep (is-site x k times) (stands-site d i x h st)
    ∙ (λ n. fits-beside d i h (gear_states x) given heard n && sized-by d i x h given st heard n))

-- what a hub takes of what comes is what fits in the state after its entries
pub takes_now : (d : Deployed) (name : NodeName) (x : HubSeen) (ks : List HubKept) (given : HubInput) → EachFits → IsDeployment d → IsHub x → HasTimes x → HubStands d name x (replay (hub_meaning d) name ks) → is_heard given ≡ true
    → hub_takes x given ≡ may_take d name ks given
takes_now d name x ks given law dep k times st heard = takes-by d name x (replay (hub_meaning d) name ks) given law dep k times st heard

pub takes_then : (d : Deployed) (name : NodeName) (x : HubSeen) (ks : List HubKept) (given : HubInput) (r : Bool) → r ≡ hub_takes x given → EachFits → IsDeployment d → IsHub x → HasTimes x → HubStands d name x (replay (hub_meaning d) name ks)
    → is_heard given ≡ true → r ≡ may_take d name ks given
takes_then d name x ks given r e law dep k times st heard = e ∙ takes_now d name x ks given law dep k times st heard
