-- What sessions take to hubs and gears meets what is asked of it.
use Rattle.std.proofs.Common.{◌≡◌, ◌<◌, ℕ, true, false, List, [], ◌∷◌, length, Option, Some, None, refl, sym, ap, ◌∙◌, subst}
use Rattle.sat_label.specs.declared.carried.Carried.{Carried}
use Rattle.sat_label.specs.declared.items.Items.{Items}
use Rattle.sat_label.specs.declared.node.NodeName.{NodeName}
use Rattle.sat_label.specs.declared.node.NodeName.TheVariants as named
use Rattle.sat_act.specs.declared.act.Act.{Act}
use Rattle.sat_act.specs.declared.act.Act.TheVariants as act
use Rattle.sat_act.specs.declared.answer.Answer.{Answer}
use Rattle.sat_act.specs.declared.answer.Answer.TheVariants as ans
use Rattle.sat_act.specs.declared.answer.Refusal.{Refusal}
use Rattle.sat_act.specs.declared.answer.Refusal.TheVariants as why
use Rattle.sat_act.specs.Deployed.{Deployed}
use Rattle.sat_act.specs.Done.{Written, write_in}
use Rattle.sat_model.specs.Fits.{is_site, is_goal}
use Rattle.sat_model.specs.Input as site
use Rattle.sat_model.specs.Reply.{site_answer}
use Rattle.sat_node.specs.Links.{IsLocal}
use Rattle.sat_node.specs.Meanings.{Meaning, replay}
use Rattle.sat_node.specs.Seen.{NodeSeen}
use Rattle.sat_machines.specs.Sites.{is_standing, number_of}
use Rattle.sat_stitch.specs.Kept.{OfClient}
use Rattle.sat_stitch.specs.Nodes.{stands}
use Rattle.sat_stitch.specs.Places.{Place, AtSite, places, seat_places, attach_places, Session, Client as Owner, Operator, session_of}
use Rattle.sat_joint.specs.Machines.{GearNode, HubState, hub_alone}
use Rattle.sat_hub_laws.specs.Gears.{gear_answer}
use Rattle.sat_hub_laws.specs.Hubs.{hub_answer}
use Rattle.sat_hub_laws.specs.Inputs as model
use Rattle.sat_opened.specs.Opened.{place_at}
use Rattle.sat_session.specs.Notes.{SessionSeen, session_at}
use Rattle.sat_session.specs.Sessions.{IsSession}
use Rattle.sat_session.specs.Replies.{IsReply, given_of, Looked, Asks}
use Rattle.sat_session.proofs.Answering.{wrote-so, read-so, moved-so, attached-so, closed-so, fallen-so, is_read, plain-spare, plain-reply, reply-stands}
use Rattle.sat_session.proofs.Begins.{of-client, of-operator}
use Rattle.sat_session.proofs.Written.{write-read, write-session, write-places}
use Rattle.sat_parts.specs.declared.hub_answer.HubAnswer.{HubAnswer}
use Rattle.sat_parts.specs.declared.hub_input.HubInput.{HubInput}
use Rattle.sat_parts.specs.declared.hub_input.HubInput.TheVariants as hub
use Rattle.sat_parts.specs.declared.gear_answer.GearAnswer.{GearAnswer}
use Rattle.sat_parts.specs.declared.gear_input.GearInput.{GearInput}
use Rattle.sat_parts.specs.declared.gear_input.GearInput.TheVariants as gear
use Rattle.sat_parts.specs.Acts.{GearActSeen, HubActSeen}
use Rattle.sat_parts.specs.Gears.{GearAnswersAt, gear_meaning}
use Rattle.sat_parts.specs.Hubs.{HubAnswersAt, hub_meaning, hub_takes_from}
use Rattle.sat_parts_session.specs.Asked.{as_site, gear_asked, hub_asked, of_gear, of_hub}

-- ---- answers

refused-stands : (y : Refusal) → is_standing (ans.Refused y) ≡ true → stands (ans.Refused y) ≡ true
refused-stands why.Empty e = e
refused-stands (why.NoPayload l) e = e
refused-stands why.NoSuch e = e
refused-stands _ e = refl

pub stands-so : (r : Answer) → is_standing r ≡ true → stands r ≡ true
stands-so (ans.Refused y) e = refused-stands y e
stands-so (ans.Wrote l) e = refl
stands-so _ e = refl

-- what a gear answers is what a site answers that reads what it reads, and so with a hub
writes-as : (d : Deployed) (i : ℕ) (n : GearNode) (seen : Carried) (items : Items) (values : List (List ℕ)) → gear_answer d i n (model.Write seen items values) ≡ site_answer d i (as_site d i n) (site.Write seen items values)
unfolding gear_answer site_answer
writes-as d i n seen items values = refl

reads-as : (d : Deployed) (i : ℕ) (n : GearNode) (seen : Carried) (x : ℕ) → gear_answer d i n (model.Read seen x) ≡ site_answer d i (as_site d i n) (site.Read seen x)
unfolding gear_answer site_answer
reads-as d i n seen x = refl

moves-as : (d : Deployed) (i : ℕ) (n : GearNode) (seen : Carried) (j : ℕ) → gear_answer d i n (model.Move seen j) ≡ site_answer d i (as_site d i n) (site.Move seen j)
unfolding gear_answer site_answer
moves-as d i n seen j = refl

attaches-as : (d : Deployed) (i : ℕ) (h : HubState) (seen : Carried) → hub_answer d i h (model.Attach seen) ≡ site_answer d i (hub_alone d i h) (site.Attach seen)
unfolding hub_answer site_answer
attaches-as d i h seen = refl

closes-as : (d : Deployed) (i : ℕ) (h : HubState) → hub_answer d i h model.Close ≡ site_answer d i (hub_alone d i h) site.Close
unfolding hub_answer site_answer
closes-as d i h = refl

falls-as : (d : Deployed) (i : ℕ) (h : HubState) → hub_answer d i h model.Fall ≡ site_answer d i (hub_alone d i h) site.Fall
unfolding hub_answer site_answer
falls-as d i h = refl

-- ---- whose acts they are, and where they stand

module _ (d : Deployed) (x : SessionSeen) where
  pub own-client : x.number < length d.clients → (a : Act) → session_of a ≡ Some (Owner x.number) → session_of a ≡ Some (session_at d x.number)
  own-client lt a e = e ∙ ap (λ (s : Session). Some s) (sym (of-client d x.number lt))

  own-operator : x.number ≡ length d.clients → (a : Act) → session_of a ≡ Some Operator → session_of a ≡ Some (session_at d x.number)
  own-operator operator a e = e ∙ ap (λ (s : Session). Some s) (sym (ap (session_at d) operator ∙ of-operator d))

  placed-client : x.number < length d.clients → (a : Act) (i : ℕ) (name : NodeName) → place_at name ≡ AtSite i → places a (given_of (Owner x.number) x.client) ≡ AtSite i ∷ [] → places a (given_of (session_at d x.number) x.client) ≡ place_at name ∷ []
  placed-client lt a i name at e = ap (λ (s : Session). places a (given_of s x.client)) (of-client d x.number lt) ∙ (e ∙ ap (λ (p : Place). p ∷ []) (sym at))

-- ---- at a gear

module _ {M : Type 0} (d : Deployed) (x : SessionSeen) (node : NodeSeen M GearActSeen GearAnswer) where
  abbrev gear_state : GearNode
  gear_state = replay (gear_meaning d) node.name node.entries

  -- what the gear answers to this
  abbrev GearAnswers : Option ℕ → GearInput → GearAnswer → Type 0
  GearAnswers by given r = GearAnswersAt d (number_of node.name) gear_state (gear_asked by given) r

  gear-local : (by : Option ℕ) (given : GearInput) (a : Act) → ((r : GearAnswer) → GearAnswers by given r → IsReply d x.client.carried a r.answer) → IsLocal (gear_meaning d) node (gear_asked by given)
  gear-local by given a f = record { stands = λ r w. stands-so r.answer (reply-stands d x.client.carried a r.answer (f r w)); takes = λ r k w. refl }

  -- an act that is no read
  gear-asks : (by : Option ℕ) (given : GearInput) (a : Act) → is_read a ≡ false → session_of a ≡ Some (session_at d x.number) → places a (given_of (session_at d x.number) x.client) ≡ place_at node.name ∷ [] →
      ((r : GearAnswer) → GearAnswers by given r → IsReply d x.client.carried a r.answer) → Asks d (gear_meaning d) of_gear x node (gear_asked by given) a None
  gear-asks by given a e own placed f = record {
    own = own;
    placed = placed;
    replies = f;
    spares = λ r w. plain-spare r.answer None (plain-reply d x.client.carried a r.answer (f r w) e);
    stays = gear-local by given a f;
  }

  module _ (is : IsSession d x) (lt : x.number < length d.clients) (i g : ℕ) (at : node.name ≡ named.Gear i g) (seated : x.client.seat ≡ Some i) where
    here : is_site d (number_of node.name) ≡ true
    here = ap (is_site d) (ap number_of at) ∙ subst (λ (o : Option ℕ). is_goal d o ≡ true) seated is.sits

    placed-here : (a : Act) → places a (given_of (Owner x.number) x.client) ≡ AtSite i ∷ [] → places a (given_of (session_at d x.number) x.client) ≡ place_at node.name ∷ []
    placed-here a e = placed-client d x lt a i node.name (ap place_at at) e

    pub asks-write : (a : Act) (w : Written) → write_in a ≡ Some w → w.client ≡ x.number → Asks d (gear_meaning d) of_gear x node (gear_asked (Some x.number) (gear.Write x.client.carried w.items w.values)) a None
    asks-write a w e own =
        gear-asks (Some x.number) (gear.Write x.client.carried w.items w.values) a (write-read a w e) (own-client d x lt a (write-session a w x.number e own))
        (placed-here a (ap (λ (o : Option ℕ). places a (OfClient x.client.carried o)) seated ∙ write-places a w x.client.carried i e))
        (λ r v. wrote-so d x.client.carried (number_of node.name) (as_site d (number_of node.name) gear_state) r.answer a w e here (v.answer ∙ writes-as d (number_of node.name) gear_state x.client.carried w.items w.values))

    pub asks-move : (j : ℕ) → is_site d j ≡ true → Asks d (gear_meaning d) of_gear x node (gear_asked (Some x.number) (gear.Move x.client.carried j)) (act.Move x.number j) None
    asks-move j there =
        gear-asks (Some x.number) (gear.Move x.client.carried j) (act.Move x.number j) refl (own-client d x lt (act.Move x.number j) refl)
        (placed-here (act.Move x.number j) (ap (seat_places x.number) seated))
        (λ r v. moved-so d x.client.carried (number_of node.name) (as_site d (number_of node.name) gear_state) r.answer x.number j here there (v.answer ∙ moves-as d (number_of node.name) gear_state x.client.carried j))

    pub asks-read : (n : ℕ) (spare : Option Answer) → Looked d i (as_site d i gear_state) n spare → Asks d (gear_meaning d) of_gear x node (gear_asked (Some x.number) (gear.Read x.client.carried n)) (act.Read x.number n) spare
    asks-read n spare looks =
        let m = number_of node.name in
        let looked : Looked d m (as_site d m gear_state) n spare = subst (λ (k : ℕ). Looked d k (as_site d k gear_state) n spare) (sym (ap number_of at)) looks in
        let f : (r : GearAnswer) → GearAnswers (Some x.number) (gear.Read x.client.carried n) r → IsReply d x.client.carried (act.Read x.number n) r.answer =
        λ r v. read-so d x.client.carried m (as_site d m gear_state) r.answer x.number n looked.points (v.answer ∙ reads-as d m gear_state x.client.carried n) in
        record {
          own = own-client d x lt (act.Read x.number n) refl;
          placed = placed-here (act.Read x.number n) (ap (seat_places x.number) seated);
          replies = f;
          spares = λ r v. looked.spares x.client.carried r.answer (v.answer ∙ reads-as d m gear_state x.client.carried n);
          stays = gear-local (Some x.number) (gear.Read x.client.carried n) (act.Read x.number n) f;
        }

-- ---- at a hub

takes-none : (d : Deployed) (name : NodeName) (k : ℕ) (by : Option ℕ) (given : HubInput) (a : HubAnswer) → ((i : ℕ) → hub_takes_from d (named.Site i) k (hub_asked by given) a ≡ None) → hub_takes_from d name k (hub_asked by given) a ≡ None
takes-none d (named.Site i) k by given a f = f i
takes-none d (named.Serializer e z) k by given a f = refl
takes-none d (named.Gear i g) k by given a f = refl

module _ {M : Type 0} (d : Deployed) (x : SessionSeen) (node : NodeSeen M HubActSeen HubAnswer) where
  abbrev hub_state : HubState
  hub_state = replay (hub_meaning d) node.name node.entries

  -- what the hub answers to this
  abbrev HubAnswers : Option ℕ → HubInput → HubAnswer → Type 0
  HubAnswers by given r = HubAnswersAt d (number_of node.name) hub_state (hub_asked by given) r

  -- an act that is no read, and takes nothing from a link
  hub-asks : (by : Option ℕ) (given : HubInput) (a : Act) → ((k i : ℕ) (r : HubAnswer) → hub_takes_from d (named.Site i) k (hub_asked by given) r ≡ None) → is_read a ≡ false → session_of a ≡ Some (session_at d x.number) →
      places a (given_of (session_at d x.number) x.client) ≡ place_at node.name ∷ [] → ((r : HubAnswer) → HubAnswers by given r → IsReply d x.client.carried a r.answer) → Asks d (hub_meaning d) of_hub x node (hub_asked by given) a None
  hub-asks by given a t e own placed f = record {
    own = own;
    placed = placed;
    replies = f;
    spares = λ r w. plain-spare r.answer None (plain-reply d x.client.carried a r.answer (f r w) e);
    stays = record { stands = λ r w. stands-so r.answer (reply-stands d x.client.carried a r.answer (f r w)); takes = λ r k w. takes-none d node.name k by given r (λ i. t k i r) };
  }

  module _ (i : ℕ) (at : node.name ≡ named.Site i) where
    hub-number : number_of node.name ≡ i
    hub-number = ap number_of at

    pub asks-attach : IsSession d x → x.number < length d.clients → x.client.seat ≡ None → is_site d i ≡ true → Asks d (hub_meaning d) of_hub x node (hub_asked (Some x.number) (hub.Attach x.client.carried)) (act.Attach x.number i) None
    asks-attach is lt unseated there =
        hub-asks (Some x.number) (hub.Attach x.client.carried) (act.Attach x.number i) (λ k j r. refl) refl (own-client d x lt (act.Attach x.number i) refl)
        (placed-client d x lt (act.Attach x.number i) i node.name (ap place_at at) (ap (attach_places x.number i) unseated))
        (λ r w. subst (λ (j : ℕ). IsReply d x.client.carried (act.Attach x.number j) r.answer) hub-number
        (attached-so d x.client.carried (number_of node.name) (hub_alone d (number_of node.name) hub_state) r.answer x.number (ap (is_site d) hub-number ∙ there) (w.answer ∙ attaches-as d (number_of node.name) hub_state x.client.carried)))

    module _ (operator : x.number ≡ length d.clients) where
      pub asks-close : Asks d (hub_meaning d) of_hub x node (hub_asked None hub.Close) (act.Close i) None
      asks-close =
          hub-asks None hub.Close (act.Close i) (λ k j r. refl) refl (own-operator d x operator (act.Close i) refl) (ap (λ (n : NodeName). place_at n ∷ []) (sym at))
          (λ r w. subst (λ (j : ℕ). IsReply d x.client.carried (act.Close j) r.answer) hub-number
          (closed-so d x.client.carried (number_of node.name) (hub_alone d (number_of node.name) hub_state) r.answer (w.answer ∙ closes-as d (number_of node.name) hub_state)))

      pub asks-fall : Asks d (hub_meaning d) of_hub x node (hub_asked None hub.Fall) (act.Fall i) None
      asks-fall =
          hub-asks None hub.Fall (act.Fall i) (λ k j r. refl) refl (own-operator d x operator (act.Fall i) refl) (ap (λ (n : NodeName). place_at n ∷ []) (sym at))
          (λ r w. subst (λ (j : ℕ). IsReply d x.client.carried (act.Fall j) r.answer) hub-number
          (fallen-so d x.client.carried (number_of node.name) (hub_alone d (number_of node.name) hub_state) r.answer (w.answer ∙ falls-as d (number_of node.name) hub_state)))

-- ---- as the code has it

-- an act and an input that were made
pub asked_as : {S M I A : Type 0} (d : Deployed) (m : Meaning S I A) (answer_of : A → Answer) (x : SessionSeen) (node : NodeSeen M I A) (input made : I) (a b : Act) (spare : Option Answer) → input ≡ made → a ≡ b → Asks d m answer_of x node input a spare → Asks d m answer_of x node made b spare
asked_as {S} {M} {I} {A} d m answer_of x node input made a b spare e f asked = subst (λ (w : I × Act). Asks d m answer_of x node w.0 w.1 spare) (λ j. (e j, f j)) asked
