-- Emissions, pulses and closes: what a site sends enters the net of its emission epoch.
use Rattle.std.specs.Prelude.{◌≡◌, ◌<◌, ◌+◌, ℕ, Bool, true, false, not, ◌&&◌, ◌==◌, nat_lt, List, length, set, Option, Some, None, is_none, slice_get, if◌then◌else◌, refl}
use Rattle.std.proofs.Common.{sym, subst, ap, ◌∙◌, arith}
use Rattle.sat_label.proofs.Truth.{same-number}
use Rattle.sat_label.proofs.Least.{IsLeast, least-is}
use Rattle.sat_label.specs.declared.point.Point.{Point}
use Rattle.sat_label.specs.declared.label.Kind.{Kind}
use Rattle.sat_label.specs.declared.label.Kind.TheVariants as kind
use Rattle.sat_label.specs.declared.label.Label.{Label}
use Rattle.sat_label.specs.declared.node.NodeId.{NodeId}
use Rattle.sat_label.specs.declared.node.NodeId.TheVariants.{Site, Serializer}
use Rattle.sat_sites.specs.Interested.{Interested, is_for, keeps_one}
use Rattle.sat_label.specs.Grouped.{list_of}
use Rattle.sat_sites.specs.declared.shape.Shape.{Shape}
use Rattle.sat_tree.specs.Cut.{seat_of}
use Rattle.sat_act.specs.declared.act.Act.{Act}
use Rattle.sat_act.specs.declared.act.Act.TheVariants as act
use Rattle.sat_act.specs.declared.answer.Answer.{Answer}
use Rattle.sat_act.specs.declared.answer.Answer.TheVariants as ans
use Rattle.sat_act.specs.declared.answer.Refusal.{Refusal}
use Rattle.sat_act.specs.Deployed.{Deployed}
use Rattle.sat_act.specs.Done.{is_of}
use Rattle.sat_act.specs.Settling.{is_done}
use Rattle.sat_act.specs.Parts.{Handling, tree_of}
use Rattle.sat_laws.proofs.Labels.{some_is}
use Rattle.sat_epoch.specs.Epochs.{Epochs, close_fault, is_stamp}
use Rattle.sat_epoch.specs.declared.views.CloseFault.{CloseFault}
use Rattle.sat_epoch.specs.declared.views.CloseFault.TheVariants as close
use Rattle.sat_sink.specs.Pending.{all_of, is_up_to}
use Rattle.sat_sink.specs.Sink.{cut_of, may_pulse, pulse_of, ready_of, stable_of}
use Rattle.sat_sink.proofs.Queues.{In-all, Place}
use Rattle.sat_model.specs.Interests.{interest_of}
use Rattle.sat_model.specs.World.{WorldState, world_given, handled_by, dead_next}
use Rattle.sat_net.specs.Nets.{NetSeen, after_send}
use Rattle.sat_net.specs.NetStands.{StandsNet, handled_at, links_next}
use Rattle.sat_site.specs.declared.input.SiteInput as code
use Rattle.sat_site.specs.declared.input.SiteInput.TheVariants as input
use Rattle.sat_site.specs.Seen.{SiteSeen, IsSite, IsMadeHere}
use Rattle.sat_site.specs.Gives.{IsSent, IsSentOf, label_sent}
use Rattle.sat_site.specs.SiteSteps.{site_answers, site_sends, emit_answer, pulse_answer, close_answer, close_label}
use Rattle.sat_site.specs.Stands.{StandsSite}
use Rattle.sat_world.specs.Seen.{WorldSeen}
use Rattle.sat_world.specs.Stands.{Stands}
use Rattle.sat_world.specs.Steps.{Goes, StepsAt, Hands, act_at, is_sending, net_sent, NetAt}
use Rattle.sat_world.specs.Worlds.{IsFrame, IsPlanted}
use Rattle.sat_world.proofs.Laws.{sends, keeps, leaves, stays, net-send}
use Rattle.sat_world.proofs.Lists.{there, set-same, length-set}
use Rattle.sat_world.proofs.Parts.{handling_of, NetsStand, next-stands, no-net, one-net, no-client}
use Rattle.sat_world.proofs.Goes.{holds, told-by, stepped, unmoved, with-sites, planted-at}

-- ---- nets

-- a net after what was sent is one of the same epoch
planted-sent : (d : Deployed) (e : ℕ) (p : Option NetSeen) (i : ℕ) (sent : Option Label) → IsPlanted d e p → IsPlanted d e (net_sent p i sent)
planted-sent d e None i sent k = k
planted-sent d e (Some net) i None k = k
planted-sent d e (Some net) i (Some l) k = record { deployment = k.deployment; tree = k.tree; net = net-send net i l k.net }

sent-none : (p : Option NetSeen) (i : ℕ) → net_sent p i None ≡ p
sent-none None i = refl
sent-none (Some net) i = refl

-- what the net of the emission epoch becomes is what the history's links become, where the label is not for its own site
sent-stands : (d : Deployed) (i n : ℕ) (shape : Shape) (views : Epochs) (l : Label) (sent : Option Label) (p : Option NetSeen) (net : NetSeen) (links : NodeId → NodeId → List Label) (dead : ℕ → Bool) → shape.interest ≡ interest_of d → shape.sites ≡ d.sites → shape.site ≡ i → i < d.sites →
    IsSentOf shape views (Some l) sent → (l.point.site ≡ shape.site → is_for shape.interest l shape.site ≡ false) → is_stamp views views.emission ≡ is_none (tree_of d (n + 1)) → IsPlanted d (n + 1) p → ((m : NetSeen) → p ≡ Some m → StandsNet m links dead) → net_sent p i sent ≡ Some net →
    StandsNet net (links_next d (Some (handled_at (n + 1) (Site i) None l)) (n + 1) links) dead
sent-stands d i n shape views l sent None net links dead a b own lt s away f k st e = absurd (let g : None ≡ Some net = e in cc)
sent-stands d i n shape views l None (Some m) net links dead a b own lt s away f k st e =
    subst (λ (net : NetSeen). StandsNet net (links_next d (Some (handled_at (n + 1) (Site i) None l)) (n + 1) links) dead) (some_is m net e)
    (keeps d (n + 1) m shape.interest links dead i l k a (st m refl) lt
    (stays shape.interest m.tree (Site i) (Serializer (seat_of m.tree i)) l (λ j lt for. s (f ∙ ap is_none k.tree) (j, subst (λ (n : ℕ). j < n) (ap (λ (x : Interested). x.sites) a ∙ sym b) lt, for))))
sent-stands d i n shape views l (Some m) (Some before) net links dead a b own lt s away f k st e =
    subst (λ (net : NetSeen). StandsNet net (links_next d (Some (handled_at (n + 1) (Site i) None l)) (n + 1) links) dead) (ap (after_send before i) (sym s.0) ∙ some_is (after_send before i m) net e)
    (sends d (n + 1) before shape.interest links dead i l k a (st before refl) lt
    (leaves shape.interest before.tree i (seat_of before.tree i) s.2.target.0 l (subst (λ (i : ℕ). is_for shape.interest l i ≡ false) own (away s.2.own)) (subst (λ (n : ℕ). s.2.target.0 < n) (b ∙ sym (ap (λ (x : Interested). x.sites) a)) s.2.target.1) s.2.target.2))

-- ---- what is sent

-- the answer of a sending at site i in an epoch, with the label that it says was sent
data Sends (i e : ℕ) : Act → Answer → Option Label → Type 0 where
  refused : (a : Act) (y : Refusal) → Sends i e a (ans.Refused y) None
  emitted : (l : Label) → Sends i e (act.Emit i) (ans.Emitted l) (Some l)
  pulsed : (l : Label) → Sends i e (act.Pulse i) (ans.Pulsed l) (Some l)
  closed : (p : Point) → Sends i e (act.Close i) (ans.Closed e p) (Some (record { point = p; kind = kind.Close e }))

-- the label that is handled
abbrev handling_at : ℕ → ℕ → Option Label → Option Handling
handling_at i e None = None
handling_at i e (Some l) = Some (handled_at e (Site i) None l)

handles-sent : (d : Deployed) (emission view : ℕ → ℕ) (i e : ℕ) (a : Act) (r : Answer) (q : Option Label) → emission i ≡ e → Sends i e a r q → handled_by d emission view a r ≡ handling_at i e q
unfolding handled_by
handles-sent d emission view i e a r q is (refused f y) = refl
handles-sent d emission view i e a r q is (emitted l) = ap (λ (e : ℕ). Some (handled_at e (Site i) None l)) is
handles-sent d emission view i e a r q is (pulsed l) = ap (λ (e : ℕ). Some (handled_at e (Site i) None l)) is
handles-sent d emission view i e a r q is (closed p) = refl

kills-none : (i e : ℕ) (a : Act) (r : Answer) (q : Option Label) (epoch z : ℕ) (b : Bool) → Sends i e a r q → dead_next epoch z b a r ≡ b
kills-none i e a r q epoch z b (refused f y) = refl
kills-none i e a r q epoch z b (emitted l) = refl
kills-none i e a r q epoch z b (pulsed l) = refl
kills-none i e a r q epoch z b (closed p) = refl

sent-label : (i e : ℕ) (a : Act) (r : Answer) (q : Option Label) → Sends i e a r q → label_sent r ≡ q
sent-label i e a r q (refused f y) = refl
sent-label i e a r q (emitted l) = refl
sent-label i e a r q (pulsed l) = refl
sent-label i e a r q (closed p) = refl

sent-not : (i e : ℕ) (a : Act) (r : Answer) (q : Option Label) → Sends i e a r q → is_done r ≡ false → q ≡ None
sent-not i e a r q (refused g y) f = refl
sent-not i e a r q (emitted l) f = absurd (cc)
sent-not i e a r q (pulsed l) f = absurd (cc)
sent-not i e a r q (closed p) f = absurd (cc)

no-client-sends : (a : Act) (c : ℕ) → is_sending a ≡ true → is_of a c ≡ false
no-client-sends (act.Emit i) c e = refl
no-client-sends (act.Pulse i) c e = refl
no-client-sends (act.Close i) c e = refl
no-client-sends _ c e = absurd (cc)

-- ---- a label is not for its own site

and-no : (b : Bool) → (b && false) ≡ false
and-no true = refl
and-no false = refl

not-own : (a : Interested) (l : Label) (i : ℕ) (b : Bool) → l.point.site ≡ i → (b && not (i == l.point.site)) ≡ false
not-own a l i b f = ap (λ (j : ℕ). b && not (i == j)) f ∙ (ap (λ (c : Bool). b && not c) (same-number i) ∙ and-no b)

pulse-not : (a : Interested) (l : Label) (i : ℕ) → l.kind ≡ kind.Pulse → l.point.site ≡ i → is_for a l i ≡ false
unfolding is_for
pulse-not a l i e f = ap (λ (k : Kind). elim k [ kind.Update items ↦ keeps_one a (list_of items) i && not (i == l.point.site) | kind.Move j ↦ i == j | kind.Pulse ↦ nat_lt i a.sites && not (i == l.point.site) | kind.Close e ↦ nat_lt i a.sites && not (i == l.point.site) ]) e ∙ not-own a l i (nat_lt i a.sites) f

close-not : (a : Interested) (l : Label) (i e : ℕ) → l.kind ≡ kind.Close e → l.point.site ≡ i → is_for a l i ≡ false
unfolding is_for
close-not a l i n e f = ap (λ (k : Kind). elim k [ kind.Update items ↦ keeps_one a (list_of items) i && not (i == l.point.site) | kind.Move j ↦ i == j | kind.Pulse ↦ nat_lt i a.sites && not (i == l.point.site) | kind.Close e ↦ nat_lt i a.sites && not (i == l.point.site) ]) e ∙ not-own a l i (nat_lt i a.sites) f

-- a label of the sink is one that the site made
ready-here : (x : SiteSeen) (l : Label) → IsSite x → ready_of x.sink ≡ Some l → IsMadeHere x.shape l
ready-here x l k e =
    let w : IsLeast (is_up_to (stable_of x.sink)) (all_of x.sink.pending) l = least-is (is_up_to (stable_of x.sink)) (all_of x.sink.pending) l e in
    let p : Place x.sink.pending l = In-all x.sink.pending l w.member in
    let y = there x.gears p.gear (subst (λ (n : ℕ). p.gear < n) (k.sink.rows ∙ sym k.gears.count) p.within) in
    (k.gears.each p.gear y.0 y.1).pending l p.there

-- ---- what a site sends

-- the label of a sending, and that it is not for its own site
record SendsAt (x : SiteSeen) (i : ℕ) (a : Act) (r : Answer) : Type 0 where
  label : Option Label
  sends : Sends i x.views.emission a r label
  away : (l : Label) → label ≡ Some l → l.point.site ≡ x.shape.site → is_for x.shape.interest l x.shape.site ≡ false

emit-at : (x : SiteSeen) (i : ℕ) → IsSite x → (o : Option Label) → ready_of x.sink ≡ o → SendsAt x i (act.Emit i) (emit_answer o)
emit-at x i k None e = record { label = None; sends = refused (act.Emit i) _; away = λ l f. absurd (cc) }
emit-at x i k (Some l) e = record { label = Some l; sends = emitted l; away = λ m f own. (ready-here x m k (e ∙ f)).away }

pulse-at : (x : SiteSeen) (i : ℕ) (b : Bool) → SendsAt x i (act.Pulse i) (pulse_answer (if b then Some (pulse_of x.sink) else None))
pulse-at x i false = record { label = None; sends = refused (act.Pulse i) _; away = λ l f. absurd (cc) }
pulse-at x i true = record { label = Some (pulse_of x.sink); sends = pulsed (pulse_of x.sink); away = λ l f own. pulse-not x.shape.interest l x.shape.site (ap (λ (l : Label). l.kind) (sym (some_is (pulse_of x.sink) l f))) own }

close-at : (x : SiteSeen) (i : ℕ) (o : Option CloseFault) → SendsAt x i (act.Close i) (close_answer o x)
close-at x i (Some close.NoNextEpoch) = record { label = None; sends = refused (act.Close i) _; away = λ l f. absurd (cc) }
close-at x i (Some close.Behind) = record { label = None; sends = refused (act.Close i) _; away = λ l f. absurd (cc) }
close-at x i None = record { label = Some (close_label x); sends = closed (cut_of x.sink); away = λ l f own. close-not x.shape.interest l x.shape.site x.views.emission (ap (λ (l : Label). l.kind) (sym (some_is (close_label x) l f))) own }

sends-at : (x : SiteSeen) (i : ℕ) (given : code.SiteInput) → IsSite x → is_sending (act_at i given) ≡ true → SendsAt x i (act_at i given) (site_answers x given)
unfolding site_answers
sends-at x i input.Emit k e = emit-at x i k (ready_of x.sink) refl
sends-at x i input.Pulse k e = pulse-at x i (may_pulse x.sink)
sends-at x i input.Close k e = close-at x i (close_fault x.views)
sends-at x i _ k e = absurd (cc)

-- ---- the world

module _ (w : WorldSeen) (i n : ℕ) (given : code.SiteInput) (p : Option NetSeen) (r : Answer) (q o : Option Label) (ys : List SiteSeen) (nets : List (Option NetSeen)) (k : IsFrame w) (lt : i < w.deployment.sites) (epoch : (x : SiteSeen) → slice_get w.sites i ≡ Some x → x.views.emission ≡ n + 1) (few : n < length w.deployment.plans)
    (sending : is_sending (act_at i given) ≡ true) (hands : Hands w (act_at i given) i given) (h : StepsAt w.sites i given r ys) (leaves : o ≡ site_sends h.before given) (sent : Sends i (n + 1) (act_at i given) r q) (away : (l : Label) → q ≡ Some l → l.point.site ≡ h.before.shape.site → is_for h.before.shape.interest l h.before.shape.site ≡ false)
    (g : NetAt w.nets n p (net_sent p i o) nets)
  where
    abbrev a : Act
    a = act_at i given

    is-sent : IsSentOf h.before.shape h.before.views q o
    is-sent = subst (λ (q : Option Label). IsSentOf h.before.shape h.before.views q o) (ap label_sent (sym h.answers) ∙ sent-label i (n + 1) a r q sent) (subst (λ (o : Option Label). IsSent h.before.shape h.before.views (site_answers h.before given) o) (sym leaves) (holds w.sites ys i given r h).sent)

    same : q ≡ None → nets ≡ w.nets
    same none = g.rest ∙ (ap (λ (o : Option Label). set w.nets n (net_sent p i o)) (subst (λ (q : Option Label). IsSentOf h.before.shape h.before.views q o) none is-sent) ∙ (ap (set w.nets n) (sent-none p i) ∙ set-same w.nets n p g.at))

    handled : (s : WorldState) → Stands w s → handling_of w.deployment s a r ≡ handling_at i (n + 1) q
    handled s st = handles-sent w.deployment (λ i. (s.sites i).views.emission) (λ i. (s.sites i).views.view) i (n + 1) a r q (sym (st.sites i h.before h.at).views.emission ∙ epoch h.before h.at) sent

    dead : (s : WorldState) (e z : ℕ) → dead_next e z (s.dead e z) a r ≡ s.dead e z
    dead s e z = kills-none i (n + 1) a r q e z (s.dead e z) sent

    links : (s : WorldState) → Stands w s → (m : Option Label) → q ≡ m → NetsStand nets (λ e. links_next w.deployment (handling_of w.deployment s a r) e (s.links e)) (λ e z. dead_next e z (s.dead e z) a r)
    links s st None is =
        subst (λ (ns : List (Option NetSeen)). NetsStand ns (λ e. links_next w.deployment (handling_of w.deployment s a r) e (s.links e)) (λ e z. dead_next e z (s.dead e z) a r)) (sym (same is))
        (no-net w (handling_of w.deployment s a r) s.links s.dead (λ e z. dead_next e z (s.dead e z) a r) k (handled s st ∙ ap (handling_at i (n + 1)) is) (dead s) st.nets)
    links s st (Some l) is =
        let site : StandsSite w.deployment i h.before (s.sites i) = st.sites i h.before h.at in
        subst (λ (y : Option Handling). NetsStand nets (λ e. links_next w.deployment y e (s.links e)) (λ e z. dead_next e z (s.dead e z) a r)) (sym (handled s st ∙ ap (handling_at i (n + 1)) is))
        (one-net w (handled_at (n + 1) (Site i) None l) s.links s.dead (λ e z. dead_next e z (s.dead e z) a r) n (net_sent p i o) nets k refl (dead s) g.rest
        (λ net e. sent-stands w.deployment i n h.before.shape h.before.views l o p net (s.links (n + 1)) (s.dead (n + 1))
        (ap (λ (x : Shape). x.interest) site.shape) (ap (λ (x : Shape). x.sites) site.shape) (ap (λ (x : Shape). x.site) site.shape) lt
        (subst (λ (q : Option Label). IsSentOf h.before.shape h.before.views q o) is is-sent) (away l is)
        (ap (is_stamp h.before.views) (epoch h.before h.at) ∙ site.views.plans (n + 1) (omega arith) (omega arith))
        (k.planted n p g.at) (λ m e. st.nets n m (subst (λ (q : Option NetSeen). slice_get w.nets n ≡ Some q) e g.at)) e)
        st.nets)

    goes : Goes w a r (record w { sites = ys; nets = nets })
    goes = record {
      deployment = refl;
      shown = refl;
      frame = record {
        deployment = k.deployment;
        interest = k.interest;
        sites = with-sites w i given r ys h ∙ k.sites;
        nets = ap (λ (ns : List (Option NetSeen)). length ns) g.rest ∙ (length-set w.nets n (net_sent p i o) ∙ k.nets);
        planted = planted-at w n p (net_sent p i o) nets k g.at (λ q. planted-sent w.deployment (n + 1) p i o q) g.rest;
        clients = k.clients;
      };
      answer = λ s st. told-by w s i given r ys k st h ∙ sym (hands.hands s st).answer;
      stands = λ s st. next-stands w s a r ys nets w.clients
          (stepped w s (world_given w.deployment s a) i given r ys k st h (hands.hands s st).given)
          (links s st q refl)
          (no-client w.clients s.clients a r (λ c. no-client-sends a c sending) st.clients);
      refused = λ f. λ j. record w { sites = unmoved w.sites ys i given r h f j; nets = same (sent-not i (n + 1) a r q sent f) j };
    }

-- a site sends, and what it sends enters the net of its emission epoch
pub send-goes : (w : WorldSeen) (i n : ℕ) (given : code.SiteInput) (p : Option NetSeen) (r : Answer) (o : Option Label) (ys : List SiteSeen) (nets : List (Option NetSeen)) → IsFrame w → i < w.deployment.sites → ((x : SiteSeen) → slice_get w.sites i ≡ Some x → x.views.emission ≡ n + 1) → n < length w.deployment.plans →
    is_sending (act_at i given) ≡ true → Hands w (act_at i given) i given → (h : StepsAt w.sites i given r ys) → o ≡ site_sends h.before given → NetAt w.nets n p (net_sent p i o) nets → Goes w (act_at i given) r (record w { sites = ys; nets = nets })
send-goes w i n given p r o ys nets k lt epoch few sending hands h leaves g =
    let y : SendsAt h.before i (act_at i given) (site_answers h.before given) = sends-at h.before i given h.sound sending in
    let sent : Sends i (n + 1) (act_at i given) r y.label = subst (λ (r : Answer). Sends i (n + 1) (act_at i given) r y.label) (sym h.answers) (subst (λ (e : ℕ). Sends i e (act_at i given) (site_answers h.before given) y.label) (epoch h.before h.at) y.sends) in
    goes w i n given p r y.label o ys nets k lt epoch few sending hands h leaves sent y.away g
