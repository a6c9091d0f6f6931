-- What a hub shows, and what its gears keep of it.
use Rattle.std.proofs.Common.{◌≡◌, ◌⊎◌, ◌↔◌, ◌≢◌, ℕ, zero, suc, ◌==◌, ◌&&◌, Bool, true, false, List, [], ◌∷◌, length, map, slice_get, Option, Some, None, option_map, Result, Ok, Err, IfErr, IfOk, IsErrOf, OnOk, inl, inr, refl, sym, ap, ◌∙◌, subst, arith, ⊎_elim}
use Rattle.std.specs.Prelude.{is_none}
use Rattle.std.proofs.lemmas.Bool.{and_parts, cases_eq}
use Rattle.std.proofs.lemmas.Bool.Decides.{nat_tests}
use Rattle.std.proofs.lemmas.List.{length-map}
use Rattle.std.proofs.lemmas.Option.{slice_get-map}
use Rattle.std.specs.declared.alloc.AllocError.{AllocError}
use Rattle.sat_label.specs.declared.items.Items.{Items}
use Rattle.sat_label.specs.declared.label.Kind.{Kind}
use Rattle.sat_label.specs.declared.label.Kind.TheVariants as kind
use Rattle.sat_label.specs.declared.label.Label.{Label}
use Rattle.sat_label.specs.declared.node.NodeName.{NodeName}
use Rattle.sat_label.specs.declared.node.NodeName.TheVariants as named
use Rattle.sat_label.specs.Grouped.{list_of}
use Rattle.sat_bulk.specs.Payloads.{Payload}
use Rattle.sat_sites.specs.Interested.{AreBelow, are_below}
use Rattle.sat_sites.proofs.Below.{below_is}
use Rattle.sat_gear.specs.Gear.{GearSeen}
use Rattle.sat_act.specs.Deployed.{Deployed}
use Rattle.sat_act.specs.Limits.{IsDeployment}
use Rattle.sat_act.specs.Settling.{is_done}
use Rattle.sat_proxy.specs.declared.proxy.TurnFault.{TurnFault}
use Rattle.sat_proxy.specs.declared.proxy.TurnFault.TheVariants as turn
use Rattle.sat_proxy.specs.Answers.{done_answer, front_answer}
use Rattle.sat_proxy.specs.Steps.{stamp_fault, stamp_shows, turn_fault, turn_shows}
use Rattle.sat_hub.specs.Inputs.{is_front_here, may_turn, IsFront}
use Rattle.sat_hub.specs.Seen.{HubSeen, IsHub, has_parts_here}
use Rattle.sat_site.specs.Laws.{EachStep}
use Rattle.sat_site.proofs.Asked.{stamp-done, turn-done, turn-none}
use Rattle.sat_joint.specs.Machines.{HubState, hub_alone}
use Rattle.sat_hub_laws.specs.Hubs.{hub_answer, hub_shows as shown_payload}
use Rattle.sat_model.specs.State.{SiteState}
use Rattle.sat_node.specs.declared.joint.Part.{Part}
use Rattle.sat_node.specs.declared.kept.Body.{Body}
use Rattle.sat_node.specs.declared.kept.Body.TheVariants as body
use Rattle.sat_node.specs.declared.kept.CallFault.{CallFault}
use Rattle.sat_node.specs.declared.kept.CallFault.TheVariants as fault
use Rattle.sat_node.specs.declared.kept.Envelope.{Envelope}
use Rattle.sat_node.specs.Links.{Both, IsOf, front_at}
use Rattle.sat_node.specs.Meanings.{replay}
use Rattle.sat_node.specs.Seen.{last_number}
use Rattle.sat_node.specs.Together.{IsFit, Keeps, TakesFrom, top_of}
use Rattle.sat_machines.specs.Layout.{label_link}
use Rattle.sat_machines.specs.Sites.{epoch_by, is_turned, label_taken}
use Rattle.sat_site.specs.declared.input.SiteInput.TheVariants as input
use Rattle.sat_parts.specs.declared.gear_input.GearInput.TheVariants as gear
use Rattle.sat_parts.specs.declared.gear_input.ShownBy.{ShownBy}
use Rattle.sat_parts.specs.declared.hub_answer.HubAnswer.{HubAnswer}
use Rattle.sat_parts.specs.declared.hub_input.HubInput.{HubInput}
use Rattle.sat_parts.specs.declared.hub_input.HubInput.TheVariants as hub
use Rattle.sat_parts.specs.Acts.{GearActSeen, HubActSeen, hub_handed}
use Rattle.sat_parts.specs.GearSteps.{gear_may_fail, gear_takes, is_written, may_show}
use Rattle.sat_parts.specs.Gears.{gear_meaning}
use Rattle.sat_parts.specs.Hubs.{HubStands, StandsHub, hub_meaning}
use Rattle.sat_parts.specs.HubSteps.{HasTimes, hub_answers, hub_shows, hub_takes}
use Rattle.sat_parts.specs.Locals.{PartsAreLocal}
use Rattle.sat_parts.proofs.HubCode.{takes-turn}
use Rattle.sat_parts.proofs.HubReplies.{answers-hub}
use Rattle.sat_parts.proofs.HubShows.{stamp-shows, turn-shows}
use Rattle.sat_parts.proofs.Instead.{is_gather}
use Rattle.sat_parts_passes.specs.Gathers.{GearHeld}
use Rattle.sat_parts_passes.specs.Partly.{ArePartlySure, KeepsPart, PartlyKeep, SureIf}
use Rattle.sat_parts_passes.specs.Sendings.{HubHeld, of_hub, would_do}
use Rattle.sat_parts_passes.specs.Shows.{FailsShown, IsShown, all_take, body_label, is_showing, label_of, may_take, part_if, show_act, show_input, show_number, show_part, shows_kind}
use Rattle.sat_parts_passes.proofs.Sent.{done_by, done_stands, would_fit}

-- ---- which gears show

may-show-items : (x : GearSeen) (act : ShownBy) (p : Payload) (k : Kind) (items : Items) → k ≡ kind.Update items → may_show x.shape act p k ≡ true → AreBelow (length x.shape.interest.replicas) (list_of items)
may-show-items x act p k items is e =
    let f : may_show x.shape act p (kind.Update items) ≡ true = subst (λ (j : Kind). may_show x.shape act p j ≡ true) is e in
    let w = and_parts (are_below (length x.shape.interest.replicas) (list_of items) && has_parts_here x.shape (list_of items) p.values) (is_written act x.shape items p.values) f in
    let v = and_parts (are_below (length x.shape.interest.replicas) (list_of items)) (has_parts_here x.shape (list_of items) p.values) w.0 in
    below_is (length x.shape.interest.replicas) (list_of items) v.0

pub known_items : (x : GearSeen) (act : ShownBy) (p : Payload) (l : Label) (items : Items) → l ≡ p.label → l.kind ≡ kind.Update items → gear_takes x (gear.Show act p) ≡ true → AreBelow (length x.shape.interest.replicas) (list_of items)
unfolding gear_takes
known_items x act p l items same is e = may-show-items x act p p.label.kind items (ap (λ (m : Label). m.kind) (sym same) ∙ is) e

pub first_takes : (o : Option GearActSeen) (g : GearHeld) (gs : List GearHeld) → all_take o (g ∷ gs) ≡ true → may_take o g ≡ true
first_takes o g gs e = (let w = and_parts (may_take o g) (all_take o gs) e in w.0)

pub rest_take : (o : Option GearActSeen) (g : GearHeld) (gs : List GearHeld) → all_take o (g ∷ gs) ≡ true → all_take o gs ≡ true
rest_take o g gs e = (let w = and_parts (may_take o g) (all_take o gs) e in w.1)

takes-at : (o : Option GearActSeen) (gs : List GearHeld) (k : ℕ) (g : GearHeld) → all_take o gs ≡ true → slice_get gs k ≡ Some g → may_take o g ≡ true
takes-at o [] k g all at = absurd (cc (at))
takes-at o (h ∷ hs) zero g all at = (let e : h ≡ g = cc (at) in subst (λ (i : GearHeld). may_take o i ≡ true) e (first_takes o h hs all))
takes-at o (h ∷ hs) (suc k) g all at = takes-at o hs k g (rest_take o h hs all) at

-- ---- their parts fit

part-sure : (d : Deployed) (act : ShownBy) (p : Payload) (g : GearHeld) (b : Bool) → PartsAreLocal → gear_takes g.node.machine (gear.Show act p) ≡ true
    → SureIf (gear_meaning d) (λ x a. gear_takes x a.input) (λ x a. gear_may_fail a.input) g (part_if b act p)
part-sure d act p g false locals e = tt
part-sure d act p g true locals e = record { fit = record { fits = e; copied = refl; from = locals d g.node (show_act act p) refl }; sure = refl }

shown-sure : (d : Deployed) (act : ShownBy) (shown : Option Payload) (g : GearHeld) → PartsAreLocal → may_take (show_input act shown) g ≡ true
    → SureIf (gear_meaning d) (λ x a. gear_takes x a.input) (λ x a. gear_may_fail a.input) g (show_part act shown g)
shown-sure d act None g locals e = tt
shown-sure d act (Some p) g locals e = part-sure d act p g (shows_kind g.node.machine p.label.kind) locals e

pub shows_sure : (d : Deployed) (act : ShownBy) (shown : Option Payload) (gears : List GearHeld) (parts : List (Option (Part GearActSeen))) → PartsAreLocal → parts ≡ map (show_part act shown) gears → all_take (show_input act shown) gears ≡ true
    → ArePartlySure (gear_meaning d) (λ x a. gear_takes x a.input) (λ x a. gear_may_fail a.input) gears parts
shows_sure d act shown gears parts locals e all = (
  ap (λ (ps : List (Option (Part GearActSeen))). length ps) e ∙ length-map gears (show_part act shown),
  λ k g at. (
    show_part act shown g,
    ap (λ (ps : List (Option (Part GearActSeen))). slice_get ps k) e ∙ (slice_get-map (show_part act shown) gears k ∙ ap (option_map (show_part act shown)) at),
    shown-sure d act shown g locals (takes-at (show_input act shown) gears k g all at),
  ),
)

-- ---- what the hub would do

pub stamp_can : (x : HubSeen) (can : Bool) → can ≡ is_none (stamp_fault x.views x.proxy) → can ≡ would_do x hub.Stamp
unfolding hub_takes hub_answers
stamp_can x can e = e ∙ stamp-done x.views x.proxy

turns : (x : HubSeen) (front : Option Label) → may_turn x front ≡ would_do x (hub.Turn front)
unfolding hub_takes hub_answers
turns x None = turn-none x.views x.proxy
turns x (Some l) = ap (λ (b : Bool). is_front_here x.shape x.views.view l && b) (turn-done x.views x.proxy l)

pub turn_can : (x : HubSeen) (front : Option Label) (can : Bool) → can ≡ may_turn x front → can ≡ would_do x (hub.Turn front)
turn_can x front can e = e ∙ turns x front

pub turn_front : (x y : HubSeen) (front : Option Label) → y ≡ x → would_do x (hub.Turn front) ≡ true → (l : Label) → front ≡ Some l → IsFront y l
turn_front x y front same would l is = subst (λ (z : HubSeen). IsFront z l) (sym same) (takes-turn x (hub.Turn front) front refl (would_fit x (hub.Turn front) would) l is)

pub stamp_shown : (x y : HubSeen) (p : Option Payload) (r : Result (Option Payload) AllocError) → y ≡ x → IfOk r (λ c. c ≡ p) → p ≡ stamp_shows y.views y.proxy → IfOk r (λ c. c ≡ hub_shows x hub.Stamp)
unfolding hub_shows
stamp_shown x y p (Ok c) same copied is = copied ∙ (is ∙ ap (λ (z : HubSeen). stamp_shows z.views z.proxy) same)
stamp_shown x y p (Err f) same copied is = tt

pub turn_shown : (x y : HubSeen) (front : Option Label) (p : Option Payload) (r : Result (Option Payload) AllocError) → y ≡ x → IfOk r (λ c. c ≡ p) → p ≡ turn_shows y.views y.proxy front → IfOk r (λ c. c ≡ hub_shows x (hub.Turn front))
unfolding hub_shows
turn_shown x y front p (Ok c) same copied is = copied ∙ (is ∙ ap (λ (z : HubSeen). turn_shows z.views z.proxy front) same)
turn_shown x y front p (Err f) same copied is = tt

-- ---- what it takes from links

number-self : (n : ℕ) → (n == n) ≡ true
number-self n = grind (arith, nat_tests)

other-number : (a k j : ℕ) → a ≡ k → j ≢ k → (a == j) ≡ false
other-number a k j is differ = elim (cases_eq a j) [
  | inl same ↦ absurd (differ (sym same ∙ is))
  | inr other ↦ grind (arith, nat_tests)
]

stamp-none : (d : Deployed) (name : NodeName) (k : ℕ) (a : HubAnswer) → (hub_meaning d).takes name k (of_hub hub.Stamp) a ≡ None
stamp-none d (named.Site i) k a = refl
stamp-none d (named.Serializer e z) k a = refl
stamp-none d (named.Gear i g) k a = refl

-- a stamp that would be done takes nothing from a link
pub stamp_local : (d : Deployed) (h : HubHeld) (can : Bool) → EachStep → IsDeployment d → IsHub h.node.machine → HasTimes h.node.machine → HubStands d h.node.name h.node.machine (replay (hub_meaning d) h.node.name h.node.entries)
    → can ≡ would_do h.node.machine hub.Stamp → can ≡ true → TakesFrom (hub_meaning d) h None (of_hub hub.Stamp)
stamp_local d h can law dep is times st says holds =
    let would : would_do h.node.machine hub.Stamp ≡ true = sym says ∙ holds in
    record {
      stands = λ a w. done_stands a.answer (ap is_done w.answer ∙ done_by d h.node.name h.node.machine (replay (hub_meaning d) h.node.name h.node.entries) hub.Stamp law dep is times st refl would);
      takes = λ a k w. stamp-none d h.node.name k a;
    }

kind-turned : (l : Label) (k : Kind) → is_turned (done_answer l k) ≡ true
kind-turned l (kind.Update n) = refl
kind-turned l (kind.Move j) = refl
kind-turned l kind.Pulse = refl
kind-turned l (kind.Close e) = refl

turned-by : (o : Option TurnFault) (l : Label) → is_done (front_answer o (Some l)) ≡ true → is_turned (front_answer o (Some l)) ≡ true
turned-by (Some turn.StampOrder) l e = absurd (cc (e))
turned-by (Some turn.Empty) l e = absurd (cc (e))
turned-by (Some (turn.NoPayload m)) l e = absurd (cc (e))
turned-by None l e = kind-turned l l.kind

hub-turned : (x : HubSeen) (l : Label) → would_do x (hub.Turn (Some l)) ≡ true → is_turned (hub_answers x (hub.Turn (Some l))) ≡ true
unfolding hub_answers
hub-turned x l would =
    let w = and_parts (hub_takes x (hub.Turn (Some l))) (is_done (hub_answers x (hub.Turn (Some l)))) would in
    turned-by (turn_fault x.views x.proxy (Some l)) l w.1

taken-by : (t b : Bool) (l : Label) → t ≡ true → b ≡ true → label_taken (t && b) (Some l) ≡ Some (body.Label l)
taken-by t b l ht hb = λ n. label_taken (ht n && hb n) (Some l)

left-by : (t b : Bool) (l : Label) → t ≡ true → b ≡ false → label_taken (t && b) (Some l) ≡ None
left-by t b l ht hb = λ n. label_taken (ht n && hb n) (Some l)

epoch-is : (s : SiteState) (front o : Option Label) → epoch_by s (input.Turn front) o ≡ s.views.view
unfolding epoch_by
epoch-is s front o = refl

turn-of : (d : Deployed) (name : NodeName) (x : HubSeen) (entries : List _) (number room : ℕ) (k : ℕ) (l : Label) → EachStep → IsDeployment d → IsHub x → HasTimes x → HubStands d name x (replay (hub_meaning d) name entries)
    → k ≡ label_link d x.views.view → would_do x (hub.Turn (Some l)) ≡ true
    → IsOf (hub_meaning d) (record { name = name; machine = x; entries = entries; number = number; room = room }) k (body.Label l) (of_hub (hub.Turn (Some l)))
turn-of d (named.Serializer e z) x entries number room k l law dep is times st at would = absurd st
turn-of d (named.Gear e z) x entries number room k l law dep is times st at would = absurd st
turn-of d (named.Site i) x entries number room k l law dep is times st at would =
    let h = replay (hub_meaning d) (named.Site i) entries in
    let given = hub.Turn (Some l) in
    let model : hub_answers x given ≡ hub_answer d i h (hub_handed given) = answers-hub law d i x h given dep is times st refl (would_fit x given would) in
    let turned : is_turned (hub_answer d i h (hub_handed given)) ≡ true = ap is_turned (sym model) ∙ hub-turned x l would in
    let view : x.views.view ≡ h.views.view = st.views.view in
    record {
      stands = λ a w. done_stands a.answer (ap is_done w.answer ∙ done_by d (named.Site i) x h given law dep is times st refl would);
      takes = λ a w.
          let here : a.link ≡ k = w.link ∙ (ap (label_link d) (epoch-is (hub_alone d i h) (Some l) a.sent ∙ sym view) ∙ sym at) in
          taken-by (is_turned a.answer) (a.link == k) l (ap is_turned w.answer ∙ turned) (ap (λ (m : ℕ). m == k) here ∙ number-self k);
      others = λ a j w differ.
          let here : a.link ≡ k = w.link ∙ (ap (label_link d) (epoch-is (hub_alone d i h) (Some l) a.sent ∙ sym view) ∙ sym at) in
          left-by (is_turned a.answer) (a.link == j) l (ap is_turned w.answer ∙ turned) (other-number a.link k j here differ);
    }

module _ (d : Deployed) (h : HubHeld) (k : ℕ) (law : EachStep) (dep : IsDeployment d) (is : IsHub h.node.machine) (times : HasTimes h.node.machine)
    (st : HubStands d h.node.name h.node.machine (replay (hub_meaning d) h.node.name h.node.entries)) (at : k ≡ label_link d h.node.machine.views.view) where
  abbrev Front : Option Label → Type 0
  Front front = TakesFrom (hub_meaning d) h (Some k) (of_hub (hub.Turn front))

  no-front : would_do h.node.machine (hub.Turn None) ≡ true → ⊥
  no-front would = (let e : false ≡ true = turns h.node.machine None ∙ would in cc (e))

  by-body : (e : Envelope) (b : Body) → e.body ≡ b → front_at h.ins k ≡ Some e → (front : Option Label) → front ≡ body_label b → would_do h.node.machine (hub.Turn front) ≡ true → Front front
  by-body e (body.Label l) same there front is-front would =
      subst Front (sym is-front) (
        e,
        there,
        subst (λ (b : Body). IsOf (hub_meaning d) h.node k b (of_hub (hub.Turn (Some l)))) (sym same)
            (turn-of d h.node.name h.node.machine h.node.entries h.node.number h.node.room k l law dep is times st at (subst (λ (o : Option Label). would_do h.node.machine (hub.Turn o) ≡ true) is-front would)),
      )
  by-body e (body.Payload g n p) same there front is-front would = absurd (no-front (subst (λ (o : Option Label). would_do h.node.machine (hub.Turn o) ≡ true) is-front would))
  by-body e (body.Beat n b) same there front is-front would = absurd (no-front (subst (λ (o : Option Label). would_do h.node.machine (hub.Turn o) ≡ true) is-front would))

  by-front : (f : Option Envelope) → front_at h.ins k ≡ f → (front : Option Label) → front ≡ label_of f → would_do h.node.machine (hub.Turn front) ≡ true → Front front
  by-front None there front is-front would = absurd (no-front (subst (λ (o : Option Label). would_do h.node.machine (hub.Turn o) ≡ true) is-front would))
  by-front (Some e) there front is-front would = by-body e e.body refl there front is-front would

  -- a turn that would be done takes the front of the link of the view's tree, and nothing from another
  pub turn_from : (front : Option Label) (can : Bool) → front ≡ label_of (front_at h.ins k) → can ≡ would_do h.node.machine (hub.Turn front) → can ≡ true → TakesFrom (hub_meaning d) h (Some k) (of_hub (hub.Turn front))
  turn_from front can is-front says holds = by-front (front_at h.ins k) refl front is-front (sym says ∙ holds)

pub own_fits : (d : Deployed) (h : HubHeld) (link : Option ℕ) (given : HubInput) (own : Part HubActSeen) → own.input ≡ of_hub given → own.copy ≡ own.input → would_do h.node.machine given ≡ true → TakesFrom (hub_meaning d) h link (of_hub given)
    → IsFit (hub_meaning d) (λ x act. hub_takes x act.input) link h own
own_fits d h link given own is copied would from = record {
  fits = ap (λ (a : HubActSeen). hub_takes h.node.machine a.input) is ∙ would_fit h.node.machine given would;
  copied = copied;
  from = subst (λ (a : HubActSeen). TakesFrom (hub_meaning d) h link a) (sym is) from;
}

-- ---- what they keep

shows-is : (d : Deployed) (i : ℕ) (x : HubSeen) (h : HubState) (given : HubInput) → IsHub x → HasTimes x → StandsHub d i x h → is_showing given ≡ true → hub_shows x given ≡ shown_payload h (hub_answers x given)
unfolding hub_shows hub_answers
shows-is d i x h (hub.Turn front) k times st e = turn-shows d i x h k times st front
shows-is d i x h hub.Stamp k times st e = stamp-shows d i x h k times st
shows-is d i x h _ k times st e = absurd (cc)

showing-other : (given : HubInput) → is_showing given ≡ true → is_gather given ≡ false
showing-other (hub.Turn front) e = refl
showing-other hub.Stamp e = refl
showing-other _ e = absurd (cc)

module _ (d : Deployed) (link : Option ℕ) (act : ShownBy) (given : HubInput) (h h' : HubHeld) (gears gears' : List GearHeld) (law : EachStep) (dep : IsDeployment d) (k : IsHub h.node.machine) (times : HasTimes h.node.machine)
    (st : HubStands d h.node.name h.node.machine (replay (hub_meaning d) h.node.name h.node.entries)) (showing : is_showing given ≡ true) (would : would_do h.node.machine given ≡ true) where
  record Told (a : HubAnswer) : Type 0 where
    pub told : a.answer ≡ hub_answers h.node.machine given
    pub shows : a.show ≡ hub_shows h.node.machine given

  told-by : (a : HubAnswer) (name : NodeName) (s : HubState) → HubStands d name h.node.machine s → (hub_meaning d).answers name s (of_hub given) a → Told a
  told-by a (named.Site i) s st answers =
      let told : a.answer ≡ hub_answers h.node.machine given = answers.answer ∙ sym (answers-hub law d i h.node.machine s given dep k times st (showing-other given showing) (would_fit h.node.machine given would)) in
      record { told = told; shows = answers.show ∙ (ap (shown_payload s) told ∙ sym (shows-is d i h.node.machine s given k times st showing)) }
  told-by a (named.Serializer e z) s st answers = absurd st
  told-by a (named.Gear i g) s st answers = absurd st

  part-is : (shown : Option Payload) (parts : List (Option (Part GearActSeen))) (n : ℕ) (x : GearHeld) (o : Option (Part GearActSeen)) → parts ≡ map (show_part act shown) gears → slice_get gears n ≡ Some x → slice_get parts n ≡ Some o → o ≡ show_part act shown x
  part-is shown parts n x o are at in_parts =
      let e : Some o ≡ Some (show_part act shown x) = sym in_parts ∙ (ap (λ (ps : List (Option (Part GearActSeen))). slice_get ps n) are ∙ (slice_get-map (show_part act shown) gears n ∙ ap (option_map (show_part act shown)) at)) in
      cc (e)

  parts-keep : (shown : Option Payload) (parts : List (Option (Part GearActSeen))) → parts ≡ map (show_part act shown) gears → shown ≡ hub_shows h.node.machine given → PartlyKeep (gear_meaning d) (show_number link h gears) parts gears gears'
      → Both (λ n x y. KeepsPart (gear_meaning d) (show_number link h gears) (show_part act (hub_shows h.node.machine given) x) x y) gears gears'
  parts-keep shown parts are is all = (
    all.0,
    λ n y at. (let f = all.1 n y at in (
      f.0,
      f.1,
      subst (λ (o : Option (Part GearActSeen)). KeepsPart (gear_meaning d) (show_number link h gears) o f.0 y) (part-is shown parts n f.0 f.2.0 are f.1 f.2.1 ∙ ap (λ (s : Option Payload). show_part act s f.0) is) f.2.2,
    )),
  )

  pub shown_is : (shown : Option Payload) (own : HubActSeen) (parts : List (Option (Part GearActSeen))) (r : Result HubAnswer CallFault) → own ≡ of_hub given → parts ≡ map (show_part act shown) gears → shown ≡ hub_shows h.node.machine given
      → IfOk r (λ a. Keeps (hub_meaning d) (show_number link h gears) link own a h h') → OnOk r (PartlyKeep (gear_meaning d) (show_number link h gears) parts gears gears') → OnOk r (IsShown d link act given h gears h' gears')
  shown_is shown own parts (Err f) is are shows keeps all = tt
  shown_is shown own parts (Ok a) is are shows keeps all =
      let home : Keeps (hub_meaning d) (show_number link h gears) link (of_hub given) a h h' = subst (λ (o : HubActSeen). Keeps (hub_meaning d) (show_number link h gears) link o a h h') is keeps in
      let t : Told a = told-by a h.node.name (replay (hub_meaning d) h.node.name h.node.entries) st home.answers in
      record { answer = a; told = t.told; shows = t.shows; home = home; parts = parts-keep shown parts are shows all }
