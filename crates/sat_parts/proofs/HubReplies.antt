-- What a hub answers and becomes is what the model's hub does, but in a gather.
use Rattle.std.specs.Prelude.{◌≡◌, ℕ, Bool, true, false, Option, Some, None, refl}
use Rattle.std.proofs.Common.{subst, ap, sym, ◌∙◌}
use Rattle.std.proofs.lemmas.Bool.{and_parts}
use Rattle.sat_label.specs.declared.label.Label.{Label}
use Rattle.sat_beat.specs.declared.Beat.{Beat}
use Rattle.sat_act.specs.declared.answer.Answer.{Answer}
use Rattle.sat_act.specs.declared.answer.Answer.TheVariants as ans
use Rattle.sat_act.specs.Deployed.{Deployed}
use Rattle.sat_act.specs.Limits.{IsDeployment}
use Rattle.sat_model.specs.Fits.{fits}
use Rattle.sat_model.specs.Reply.{site_answer, site_step}
use Rattle.sat_model.specs.Next.{site_next}
use Rattle.sat_model.specs.State.{SiteState}
use Rattle.sat_hub.specs.Seen.{HubSeen, IsHub}
use Rattle.sat_site.specs.Laws.{EachFits, EachStep}
use Rattle.sat_site.specs.Stands.{StandsSite}
use Rattle.sat_site.specs.Inputs.{fits_in, input_of, is_sized}
use Rattle.sat_site.specs.SiteSteps.{site_after, site_answers}
use Rattle.sat_joint.specs.Machines.{HubState, GearNode, hub_alone, kept_site, whole}
use Rattle.sat_joint.proofs.Sites.{hub-local, is_hubs}
use Rattle.sat_hub_laws.specs.Hubs.{hub_answer, hub_fits, hub_then, site_of_hub}
use Rattle.sat_hub_laws.specs.Sites.{is_shown, showing}
use Rattle.sat_hub_laws.specs.Sites as laws
use Rattle.sat_hub_laws.proofs.Sites.{alone-answers, hubs-act-alone, hubs-show}
use Rattle.sat_machines.specs.Layout.{label_link}
use Rattle.sat_machines.specs.Sites.{BeatBy, epoch_by, sent_by}
use Rattle.sat_machines.proofs.Replies.{beat-is as site-beat-is, epoch-is as site-epoch-is, sent-is as site-sent-is}
use Rattle.sat_parts.specs.declared.hub_input.HubInput.{HubInput}
use Rattle.sat_parts.specs.declared.hub_input.HubInput.TheVariants as hub
use Rattle.sat_parts.specs.Acts.{hub_handed, site_handed}
use Rattle.sat_parts.specs.HubSteps.{hub_after, hub_answers, hub_beat, hub_epoch, hub_sends, hub_takes, HasTimes}
use Rattle.sat_parts.specs.Hubs.{StandsHub}
use Rattle.sat_parts.proofs.Instead.{HasHub, after-is, answers-is, beat-is, epoch-is, gear_states, gears_for, has-hub, hub-stands, is-site, is_gather, sends-is, site_for, stands-site, takes-is}

-- what the model's site is handed is what the model's hub is handed
pub handed-is : (given : HubInput) → input_of (site_handed given) ≡ site_of_hub (hub_handed given)
handed-is (hub.Gather drained) = refl
handed-is _ = refl

pub handed-hubs : (given : HubInput) → is_gather given ≡ false → is_hubs (site_of_hub (hub_handed given)) ≡ true
handed-hubs (hub.Gather drained) e = absurd (cc)
handed-hubs _ e = refl

pub handed-gather : (given : HubInput) → is_gather given ≡ false → laws.is_gather (hub_handed given) ≡ false
handed-gather (hub.Gather drained) e = absurd (cc)
handed-gather _ e = refl

-- ---- fits

fits-local : (d : Deployed) (i : ℕ) (h : HubState) (gs : ℕ → GearNode) (given : HubInput) → is_gather given ≡ false → fits d i (whole d i h gs) (site_of_hub (hub_handed given)) ≡ hub_fits d i h (hub_handed given)
unfolding fits
fits-local d i h gs (hub.Gather drained) e = absurd (cc)
fits-local d i h gs (hub.Turn None) e = refl
fits-local d i h gs (hub.Turn (Some l)) e = refl
fits-local d i h gs _ e = refl

pub fits-hub : EachFits → (d : Deployed) (i : ℕ) (x : HubSeen) (h : HubState) (given : HubInput) → IsDeployment d → IsHub x → HasTimes x → StandsHub d i x h → is_gather given ≡ false → hub_takes x given ≡ true → hub_fits d i h (hub_handed given) ≡ true
fits-hub each d i x h given dep k times st other takes =
    let f : fits_in (site_for x) (site_handed given) ≡ true = sym (takes-is x (gears_for x) given other) ∙ takes in
    let w : fits d i (whole d i h (gear_states x)) (input_of (site_handed given)) ≡ true = (and_parts _ (is_sized (site_for x) (site_handed given)) (sym (each (site_for x) (site_handed given) d i (whole d i h (gear_states x)) dep (is-site x k times) (stands-site d i x h st)) ∙ f)).0 in
    sym (fits-local d i h (gear_states x) given other) ∙ (ap (fits d i (whole d i h (gear_states x))) (sym (handed-is given)) ∙ w)

-- ---- what it reads of the site it reads of the hub

sent-local : (d : Deployed) (i : ℕ) (h : HubState) (gs : ℕ → GearNode) (given : HubInput) (r : Answer) → sent_by d i (whole d i h gs) (site_handed given) r ≡ sent_by d i (hub_alone d i h) (site_handed given) r
unfolding sent_by
sent-local d i h gs hub.Emit r = refl
sent-local d i h gs hub.Pulse r = refl
sent-local d i h gs hub.Close r = refl
sent-local d i h gs _ r = refl

epoch-local : (d : Deployed) (i : ℕ) (h : HubState) (gs : ℕ → GearNode) (given : HubInput) (o : Option Label) → epoch_by (whole d i h gs) (site_handed given) o ≡ epoch_by (hub_alone d i h) (site_handed given) o
unfolding epoch_by
epoch-local d i h gs (hub.Turn front) o = refl
epoch-local d i h gs _ o = refl

beat-local : (d : Deployed) (i : ℕ) (h : HubState) (gs : ℕ → GearNode) (given : HubInput) (o : Option Beat) → BeatBy d i (whole d i h gs) (site_handed given) o → BeatBy d i (hub_alone d i h) (site_handed given) o
beat-local d i h gs (hub.Beat j) None e = absurd e
beat-local d i h gs (hub.Beat j) (Some b) e = e
beat-local d i h gs _ o e = e

-- ---- answers

module _ (steps : EachStep) (d : Deployed) (i : ℕ) (x : HubSeen) (h : HubState) (given : HubInput) (dep : IsDeployment d) (k : IsHub x) (times : HasTimes x) (st : StandsHub d i x h) (other : is_gather given ≡ false) (takes : hub_takes x given ≡ true) where
  abbrev beside : SiteState
  beside = whole d i h (gear_states x)

  f : fits_in (site_for x) (site_handed given) ≡ true
  f = sym (takes-is x (gears_for x) given other) ∙ takes

  replies : site_answers (site_for x) (site_handed given) ≡ site_answer d i beside (input_of (site_handed given))
  replies = (steps (site_for x) (site_handed given) (is-site x k times) f).answers d i beside dep (stands-site d i x h st)

  local : site_answer d i beside (site_of_hub (hub_handed given)) ≡ hub_answer d i h (hub_handed given)
  local = sym (hub-local d i h (gear_states x) (site_of_hub (hub_handed given)) (handed-hubs given other)) ∙ sym (alone-answers d i h (hub_handed given) (handed-gather given other))

  pub answers-hub : hub_answers x given ≡ hub_answer d i h (hub_handed given)
  answers-hub = answers-is x (gears_for x) given other ∙ (replies ∙ (ap (site_answer d i beside) (handed-is given) ∙ local))

  pub sent-hub : (r : Answer) → r ≡ hub_answers x given → hub_sends x given ≡ sent_by d i (hub_alone d i h) (site_handed given) r
  sent-hub r e =
      sends-is x (gears_for x) given ∙ (site-sent-is d i (site_for x) beside (site_handed given) (is-site x k times) (stands-site d i x h st) ∙
      (ap (sent_by d i beside (site_handed given)) (sym (e ∙ answers-is x (gears_for x) given other)) ∙ sent-local d i h (gear_states x) given r))

  pub link-hub : (o : Option Label) → o ≡ hub_sends x given → label_link d (hub_epoch x given) ≡ label_link d (epoch_by (hub_alone d i h) (site_handed given) o)
  link-hub o e =
      ap (label_link d) (epoch-is x (gears_for x) given ∙ (site-epoch-is d i (site_for x) beside (site_handed given) (stands-site d i x h st) ∙
      (ap (epoch_by beside (site_handed given)) (sym (e ∙ sends-is x (gears_for x) given)) ∙ epoch-local d i h (gear_states x) given o)))

  pub beat-hub : (o : Option Beat) → o ≡ hub_beat x given → BeatBy d i (hub_alone d i h) (site_handed given) o
  beat-hub o e =
      beat-local d i h (gear_states x) given o
      (subst (BeatBy d i beside (site_handed given)) (sym (e ∙ beat-is x (gears_for x) given)) (site-beat-is d i (site_for x) beside (site_handed given) (is-site x k times) (stands-site d i x h st) f))

  -- ---- what it becomes

  abbrev step : SiteState
  step = site_next d i beside (site_of_hub (hub_handed given)) (hub_answer d i h (hub_handed given))

  stands-step : StandsSite d i (site_after (site_for x) (site_handed given)) step
  stands-step =
      subst (λ (r : Answer). StandsSite d i (site_after (site_for x) (site_handed given)) (site_next d i beside (site_of_hub (hub_handed given)) r)) (sym (answers-is x (gears_for x) given other) ∙ answers-hub)
      (subst (λ (input : _). StandsSite d i (site_after (site_for x) (site_handed given)) (site_next d i beside input (site_answers (site_for x) (site_handed given)))) (handed-is given)
      ((steps (site_for x) (site_handed given) (is-site x k times) f).stands d i beside dep (stands-site d i x h st)))

  -- by what the laws of hubs say of the site's step
  from-law : (r : Answer) (n : HubState) (ns : ℕ → GearNode) → hub_answer d i h (hub_handed given) ≡ r → laws.IsSiteStep d i h (gear_states x) (site_of_hub (hub_handed given)) r n ns → HasHub step n
  unfolding site_step
  from-law r n ns e law = has-hub d i step n ns (ap (λ (r : Answer). kept_site d i (site_next d i beside (site_of_hub (hub_handed given)) r)) (sym local) ∙ law.state)

  has-step : HasHub step (hub_then d i h (hub_handed given) (hub_answer d i h (hub_handed given)))
  has-step = go (is_shown (hub_answer d i h (hub_handed given))) refl
    where
      shown : (r : Answer) → is_shown r ≡ true → (l : Label) × (r ≡ ans.Shown l)
      shown (ans.Shown l) e = (l, refl)
      shown _ e = absurd (cc)

      go : (b : Bool) → is_shown (hub_answer d i h (hub_handed given)) ≡ b → HasHub step (hub_then d i h (hub_handed given) (hub_answer d i h (hub_handed given)))
      go false q = from-law (hub_answer d i h (hub_handed given)) _ (gear_states x) refl (hubs-act-alone d i h (gear_states x) (hub_handed given) (handed-gather given other) q)
      go true q =
          let w = shown (hub_answer d i h (hub_handed given)) q in
          subst (λ (r : Answer). HasHub step (hub_then d i h (hub_handed given) r)) (sym w.1) (from-law (ans.Shown w.0) _ _ w.1 (hubs-show d i h (gear_states x) (hub_handed given) w.0 w.1))

  pub stands-hub : StandsHub d i (hub_after x given) (hub_then d i h (hub_handed given) (hub_answer d i h (hub_handed given)))
  stands-hub =
      subst (λ (y : HubSeen). StandsHub d i y (hub_then d i h (hub_handed given) (hub_answer d i h (hub_handed given)))) (after-is x (gears_for x) given other)
      (hub-stands d i (site_after (site_for x) (site_handed given)) step (hub_then d i h (hub_handed given) (hub_answer d i h (hub_handed given))) stands-step has-step)
