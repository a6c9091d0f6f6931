-- Turns of a site one after another: from what the site does to the labels on the link to it to what the world has done.
use Rattle.std.specs.Prelude.{◌≡◌, ◌<◌, ◌≤◌, ◌+◌, ◌-◌, ◌^◌, ℕ, suc, Bool, true, false, List, [], length, set, drop, get_or, Option, Some, None, IsSome, is_some, slice_get, if◌then◌else◌, refl}
use Rattle.std.proofs.Common.{sym, subst, ap, ◌∙◌, arith}
use Rattle.std.proofs.lemmas.Bool.{and_from}
use Rattle.std.proofs.lemmas.List.{drop-drop, set-set}
use Rattle.sat_label.specs.declared.label.Kind.{Kind}
use Rattle.sat_label.specs.declared.label.Kind.TheVariants as kind
use Rattle.sat_label.specs.declared.label.Label.{Label}
use Rattle.sat_label.specs.declared.node.NodeId.TheVariants.{Site, Serializer}
use Rattle.sat_label.specs.Members.{In}
use Rattle.sat_tree.specs.Cut.{seat_of, IsNode}
use Rattle.sat_act.specs.declared.act.Act.TheVariants as act
use Rattle.sat_act.specs.declared.answer.Answer.{Answer}
use Rattle.sat_act.specs.declared.answer.Answer.TheVariants as ans
use Rattle.sat_act.specs.Deployed.{Deployed}
use Rattle.sat_act.specs.Parts.{tree_of, view}
use Rattle.sat_act.specs.Settling.{capped, is_done}
use Rattle.sat_act.proofs.Valid.{is_valid}
use Rattle.sat_laws.proofs.Handlings.{seat-edge}
use Rattle.sat_epoch.specs.Epochs.{Epochs, in_stamp}
use Rattle.sat_model.specs.Fits.{fits, is_front}
use Rattle.sat_model.specs.Input as given
use Rattle.sat_model.specs.Replay.{site_state}
use Rattle.sat_model.specs.World.{link_left, world_state}
use Rattle.sat_model.proofs.Fits.{left-fits}
use Rattle.sat_model.proofs.Simple.{view-agrees}
use Rattle.sat_net.specs.Nets.{NetSeen, link_to, with_link_to}
use Rattle.sat_net.specs.NetStands.{IsNetOf}
use Rattle.sat_net.proofs.Lent.{link-with, with-twice, with-own, take-with}
use Rattle.sat_proxy.specs.declared.proxy.TurnFault.{TurnFault}
use Rattle.sat_proxy.specs.declared.proxy.TurnFault.TheVariants as fault
use Rattle.sat_proxy.specs.Answers.{done_answer, front_answer, turn_answer}
use Rattle.sat_proxy.specs.Proxy.{ProxySeen}
use Rattle.sat_proxy.specs.Steps.{front_views, link_views, turn_fault, turn_shows, turn_views}
use Rattle.sat_bulk.specs.Payloads.{Payload}
use Rattle.sat_site.specs.declared.input.SiteInput.TheVariants as input
use Rattle.sat_site.specs.Inputs.{fits_here, fits_in, IsFront}
use Rattle.sat_site.specs.Seen.{SiteSeen, IsSite}
use Rattle.sat_site.specs.SiteSteps.{show_some, shown_of, site_after, site_answers, turned, turned_after}
use Rattle.sat_site.specs.Stands.{StandsSite}
use Rattle.sat_site.specs.Turns.{TurnsOn, shown_more, none, more}
use Rattle.sat_site.proofs.Fitting.{fits-turn}
use Rattle.sat_world.specs.Again.{Spends}
use Rattle.sat_world.specs.Again as times
use Rattle.sat_world.specs.Applies.{Applies}
use Rattle.sat_world.specs.Counts.{counted}
use Rattle.sat_world.specs.Seen.{WorldSeen, HasSite}
use Rattle.sat_world.specs.Steps.{Counts, Goes, LendsAt, StepsAt, TurnsAt, front_to, net_taken}
use Rattle.sat_world.specs.Worlds.{IsWorld}
use Rattle.sat_world.proofs.Again.{Gone, gone-counted, gone-none, spent-from}
use Rattle.sat_world.proofs.Ahead.{behind}
use Rattle.sat_world.proofs.Counted.{applies, counted-so}
use Rattle.sat_world.proofs.Counting.{cap-more}
use Rattle.sat_world.proofs.Deeds.{net-seat, turn-handed}
use Rattle.sat_laws.proofs.Labels.{some_is}
use Rattle.sat_world.proofs.Goes.{is_taking, taken-so, turn-goes}
use Rattle.sat_world.proofs.Hands.{fit-here, state-at}
use Rattle.sat_world.proofs.Laws.{each-fits}
use Rattle.sat_world.proofs.Lists.{both-are, get-is, get-set, length-set, set-same, there, within}

-- ---- answers of turns

done-takes : (l : Label) (k : Kind) → is_taking (done_answer l k) ≡ true
done-takes l (kind.Update items) = refl
done-takes l (kind.Move j) = refl
done-takes l kind.Pulse = refl
done-takes l (kind.Close e) = refl

-- a turn that is done takes the front
turn-takes : (o : Option TurnFault) (front : Option Label) → is_done (front_answer o front) ≡ true → is_taking (front_answer o front) ≡ true
turn-takes (Some fault.StampOrder) front e = absurd (cc)
turn-takes (Some fault.Empty) front e = absurd (cc)
turn-takes (Some (fault.NoPayload l)) front e = absurd (cc)
turn-takes None None e = absurd (cc)
turn-takes None (Some l) e = done-takes l l.kind

-- without a front none is done
pub empty-turn : (views : Epochs) (p : ProxySeen) → is_done (turn_answer views p None) ≡ false
empty-turn views p = go (in_stamp views)
  where
    go : (b : Bool) → is_done (front_answer (if b then Some fault.StampOrder else Some fault.Empty) None) ≡ false
    go true = refl
    go false = refl

-- the count of answers Shown
shown-on : (r : Answer) (s m : ℕ) → capped (s + shown_more r m) ≡ counted r (capped (s + m))
shown-on (ans.Shown l) s m = (let e : s + (m + 1) ≡ (s + m) + 1 = omega arith in ap capped e) ∙ sym (cap-more (s + m) (2 ^ 64 - 1))
shown-on _ s m = refl

one-more : (n : ℕ) → n + 1 ≡ suc n
one-more n = omega arith

-- ---- a turn leaves the site in its view

hears : (views : Epochs) (front : Option Label) → (turn_views views front).view ≡ views.view
hears views front = go (in_stamp views) front
  where
    kinds : (l : Label) (k : Kind) → (front_views views l k).view ≡ views.view
    kinds l (kind.Update items) = refl
    kinds l (kind.Move j) = refl
    kinds l kind.Pulse = refl
    kinds l (kind.Close e) = refl

    go : (b : Bool) (front : Option Label) → (if b then views else link_views views front).view ≡ views.view
    go true front = refl
    go false None = refl
    go false (Some l) = kinds l l.kind

shows : (x : SiteSeen) (o : Option Payload) → (show_some x o).views ≡ x.views
shows x None = refl
shows x (Some p) = go p.label.kind
  where
    go : (k : Kind) → (shown_of x p k).views ≡ x.views
    go (kind.Update items) = refl
    go (kind.Move j) = refl
    go kind.Pulse = refl
    go (kind.Close e) = refl

view-stays : (x : SiteSeen) (front : Option Label) → (turned_after x front).views.view ≡ x.views.view
view-stays x front = ap (λ (v : Epochs). v.view) (shows (turned x front) (turn_shows x.views x.proxy front)) ∙ hears x.views front

-- ---- the site's turns, in a world

module _ (w : WorldSeen) (j p : ℕ) (x : SiteSeen) (net : NetSeen) (k : IsWorld w) (lt : j < w.deployment.sites) (at : HasSite w j x) (at-net : slice_get w.nets p ≡ Some (Some net)) where
  net-of : IsNetOf w.deployment (p + 1) net
  net-of = k.frame.planted p (Some net) at-net

  seated : j < length net.tree.seats
  seated = let a : length net.tree.seats ≡ w.deployment.sites = net-of.deployment.all_seated (p + 1) net.tree net-of.tree in omega arith

  -- after so many turns, with these labels left on the link to the site
  abbrev turned_world : List Label → ℕ → SiteSeen → WorldSeen
  turned_world left m y = record w { sites = set w.sites j y; nets = set w.nets p (Some (with_link_to net j left)); shown = capped (w.shown + m) }

  site-there : (left : List Label) (m : ℕ) (y : SiteSeen) → HasSite (turned_world left m y) j y
  site-there left m y = get-set w.sites j y (within w.sites j x at)

  net-there : (left : List Label) → slice_get (set w.nets p (Some (with_link_to net j left))) p ≡ Some (Some (with_link_to net j left))
  net-there left = get-set w.nets p (Some (with_link_to net j left)) (within w.nets p (Some net) at-net)

  start : w.shown ≤ 2 ^ 64 - 1 → turned_world (link_to net j) 0 x ≡ w
  start small = λ i. record w {
    sites = set-same w.sites j x at i;
    nets = (ap (λ (m : NetSeen). set w.nets p (Some m)) (with-own net j) ∙ set-same w.nets p (Some net) at-net) i;
    shown = count i;
  }
    where
      count : capped (w.shown + 0) ≡ w.shown
      count = omega arith

  front-left : (left : List Label) → front_to (Some (with_link_to net j left)) j ≡ slice_get left 0
  front-left left = ap (λ (ls : List Label). slice_get ls 0) (link-with net j left net-of.net seated)

  -- what a turn makes of it
  abbrev answer_of : SiteSeen → Option Label → Answer
  answer_of y o = turn_answer y.views y.proxy o

  fits-front : (left : List Label) (m : ℕ) (y : SiteSeen) → IsWorld (turned_world left m y) → IsSite y → y.views.view ≡ p + 1 → fits_in y (input.Turn (slice_get left 0)) ≡ true
  fits-front left m y q sound view =
      fit-here v v (act.Turn j) j (input.Turn (slice_get left 0)) refl q lt
      (turn-handed v v j y.views.view y (slice_get left 0) refl q lt here sound refl fronts) y (site-there left m y) sound
    where
      v : WorldSeen
      v = turned_world left m y

      here : y ≡ get_or v.sites j y
      here = both-are (slice_get v.sites j) y (get_or v.sites j y) (site-there left m y) (get-is v.sites j y (within v.sites j y (site-there left m y)))

      place : y.views.view - 1 ≡ p
      place = omega arith

      fronts : (o : Option NetSeen) → slice_get v.nets (y.views.view - 1) ≡ Some o → slice_get left 0 ≡ front_to o j
      fronts o e = sym (ap (λ (n : Option NetSeen). front_to n j) (both-are (slice_get v.nets p) o (Some (with_link_to net j left)) (ap (slice_get v.nets) (sym place) ∙ e) (net-there left)) ∙ front-left left)

  steps : (left : List Label) (m : ℕ) (y : SiteSeen) → IsWorld (turned_world left m y) → IsSite y → y.views.view ≡ p + 1 →
      StepsAt (set w.sites j y) j (input.Turn (slice_get left 0)) (answer_of y (slice_get left 0)) (set w.sites j (turned_after y (slice_get left 0)))
  unfolding site_answers site_after
  steps left m y q sound view = record {
    before = y;
    at = site-there left m y;
    sound = sound;
    fits = fits-front left m y q sound view;
    answers = refl;
    rest = sym (set-set w.sites j y (turned_after y (slice_get left 0)));
  }

  turned-goes : (left : List Label) (m : ℕ) (y : SiteSeen) (after : Option NetSeen) → IsWorld (turned_world left m y) → IsSite y → y.views.view ≡ p + 1 → after ≡ net_taken (answer_of y (slice_get left 0)) (Some (with_link_to net j left)) j →
      Goes (turned_world left m y) (act.Turn j) (answer_of y (slice_get left 0)) (record (turned_world left m y) { sites = set w.sites j (turned_after y (slice_get left 0)); nets = set w.nets p after })
  turned-goes left m y after q sound view is =
      turn-goes (turned_world left m y) j p (Some (with_link_to net j left)) (answer_of y (slice_get left 0)) (set w.sites j (turned_after y (slice_get left 0))) (set w.nets p after) q.frame lt
      (λ z e. ap (λ (s : SiteSeen). s.views.view) (both-are (slice_get (set w.sites j y) j) z y e (site-there left m y)) ∙ view)
      (subst (λ (o : Option Label). StepsAt (set w.sites j y) j (input.Turn o) (answer_of y (slice_get left 0)) (set w.sites j (turned_after y (slice_get left 0)))) (sym (front-left left)) (steps left m y q sound view))
      (record { at = net-there left; rest = sym (set-set w.nets p (Some (with_link_to net j left)) (net_taken (answer_of y (slice_get left 0)) (Some (with_link_to net j left)) j) ∙ ap (set w.nets p) (sym is)) })

  -- a turn that is done
  turned-counts : (left : List Label) (m : ℕ) (y : SiteSeen) → IsWorld (turned_world left m y) → IsSite y → y.views.view ≡ p + 1 → is_done (answer_of y (slice_get left 0)) ≡ true →
      Counts (turned_world left m y) (act.Turn j) (answer_of y (slice_get left 0)) (turned_world (drop 1 left) (shown_more (answer_of y (slice_get left 0)) m) (turned_after y (slice_get left 0)))
  turned-counts left m y q sound view done =
      counted-so (turned_world left m y) next next (act.Turn j) r (capped (w.shown + shown_more r m)) refl
      (turned-goes left m y (Some (with_link_to net j (drop 1 left))) q sound view net-after) (shown-on r w.shown m)
    where
      r : Answer
      r = answer_of y (slice_get left 0)

      next : WorldSeen
      next = record (turned_world left m y) { sites = set w.sites j (turned_after y (slice_get left 0)); nets = set w.nets p (Some (with_link_to net j (drop 1 left))) }

      net-after : Some (with_link_to net j (drop 1 left)) ≡ net_taken r (Some (with_link_to net j left)) j
      net-after = sym (taken-so r (with_link_to net j left) j (turn-takes (turn_fault y.views y.proxy (slice_get left 0)) (slice_get left 0) done) ∙ ap (λ (n : NetSeen). Some n) (take-with net j left))

  -- one that is refused
  turned-refused : (left : List Label) (m : ℕ) (y : SiteSeen) → IsWorld (turned_world left m y) → IsSite y → y.views.view ≡ p + 1 → is_done (answer_of y (slice_get left 0)) ≡ false →
      Applies (turned_world left m y) (act.Turn j) (answer_of y (slice_get left 0)) (turned_world left m y)
  turned-refused left m y q sound view undone =
      subst (Applies v (act.Turn j) r) (a.refused undone) a
    where
      v : WorldSeen
      v = turned_world left m y

      r : Answer
      r = answer_of y (slice_get left 0)

      next : WorldSeen
      next = record v { sites = set w.sites j (turned_after y (slice_get left 0)); nets = set w.nets p (net_taken r (Some (with_link_to net j left)) j) }

      a : Applies v (act.Turn j) r (record next { shown = counted r v.shown })
      a = applies v v (record next { shown = counted r v.shown }) (act.Turn j) r refl q lt refl
          (counted-so v next next (act.Turn j) r (counted r v.shown) refl (turned-goes left m y (net_taken r (Some (with_link_to net j left)) j) q sound view refl) refl)

  turns-gone : w.shown ≤ 2 ^ 64 - 1 → x.views.view ≡ p + 1 → (n m : ℕ) (y : SiteSeen) → TurnsOn x (link_to net j) n m y → Gone (act.Turn j) w n (turned_world (drop n (link_to net j)) m y) × (y.views.view ≡ p + 1)
  turns-gone small view n m y none = (gone-none (act.Turn j) w (turned_world (link_to net j) 0 x) (start small) k, view)
  turns-gone small view n m y (more i s before l t sound here done) =
      let q : Gone (act.Turn j) w i (turned_world (drop i (link_to net j)) s before) × (before.views.view ≡ p + 1) = turns-gone small view i s before t in
      let left : List Label = drop i (link_to net j) in
      let front : slice_get left 0 ≡ Some l = behind (link_to net j) i 0 ∙ (ap (slice_get (link_to net j)) (omega arith) ∙ here) in
      let next : drop 1 left ≡ drop (suc i) (link_to net j) = drop-drop 1 i (link_to net j) ∙ ap (λ (c : ℕ). drop c (link_to net j)) (one-more i) in
      let c : Counts (turned_world left s before) (act.Turn j) (answer_of before (Some l)) (turned_world (drop (suc i) (link_to net j)) (shown_more (answer_of before (Some l)) s) (turned_after before (Some l))) =
      subst (λ (ls : List Label). Counts (turned_world left s before) (act.Turn j) (answer_of before (Some l)) (turned_world ls (shown_more (answer_of before (Some l)) s) (turned_after before (Some l)))) next
      (subst (λ (o : Option Label). Counts (turned_world left s before) (act.Turn j) (answer_of before o) (turned_world (drop 1 left) (shown_more (answer_of before o) s) (turned_after before o))) front
      (turned-counts left s before q.0.world sound q.1 (ap (λ (o : Option Label). is_done (answer_of before o)) front ∙ done))) in (
        gone-counted (act.Turn j) w (turned_world left s before) (turned_world (drop (suc i) (link_to net j)) (shown_more (answer_of before (Some l)) s) (turned_after before (Some l))) i (answer_of before (Some l)) q.0 lt refl c done,
        view-stays before (Some l) ∙ q.1,
      )

  turns-spent : w.shown ≤ 2 ^ 64 - 1 → x.views.view ≡ p + 1 → (n m : ℕ) (y : SiteSeen) → TurnsOn x (link_to net j) n m y → IsSite y → is_done (answer_of y (slice_get (link_to net j) n)) ≡ false → Spends (act.Turn j) w n (turned_world (drop n (link_to net j)) m y)
  turns-spent small view n m y t sound end =
      let q : Gone (act.Turn j) w n (turned_world (drop n (link_to net j)) m y) × (y.views.view ≡ p + 1) = turns-gone small view n m y t in
      let left : List Label = drop n (link_to net j) in
      let front : slice_get left 0 ≡ slice_get (link_to net j) n = behind (link_to net j) n 0 ∙ ap (slice_get (link_to net j)) (omega arith) in
      let undone : is_done (answer_of y (slice_get left 0)) ≡ false = ap (λ (o : Option Label). is_done (answer_of y o)) front ∙ end in
      record { again = q.0.again; refusal = answer_of y (slice_get left 0); applies = turned-refused left m y q.0.world sound q.1 undone; undone = undone }

-- ---- as the code sees them

-- a label on the link to a site is one that fits there
pub on-site : (w v : WorldSeen) (j m : ℕ) (x : SiteSeen) (labels : List Label) (nets : List (Option NetSeen)) → w ≡ v → IsWorld w → j < v.deployment.sites → IsSite x → m ≡ x.views.view → m ≡ (m - 1) + 1 → HasSite w j x → LendsAt w.nets (m - 1) j labels nets →
    (l : Label) → In labels l → IsFront x l
unfolding fits world_state
on-site w v j m x labels nets e k lt sound seen above at lends l member = fits-turn x (Some l) fitting l refl
  where
    d : Deployed
    d = w.deployment

    p : ℕ
    p = m - 1

    net : NetSeen
    net = lends.before

    of : IsNetOf d (p + 1) net
    of = k.frame.planted p (Some net) lends.at

    inside : j < d.sites
    inside = subst (λ (u : WorldSeen). j < u.deployment.sites) (sym e) lt

    seat-in : IsNode net.tree (Site j)
    seat-in = let a : length net.tree.seats ≡ d.sites = of.deployment.all_seated (p + 1) net.tree of.tree in let b : j < d.sites = inside in omega arith

    stands : StandsSite d j x (site_state d k.history j)
    stands = subst (StandsSite d j x) (state-at d k.history j) (k.stands.sites j x at)

    views : p + 1 ≡ view k.history j
    views = sym above ∙ (seen ∙ (stands.views.view ∙ view-agrees d k.history j k.run))

    same : labels ≡ link_left d k.history (view k.history j) (Serializer (seat_of net.tree j)) (Site j)
    same = lends.labels ∙ ((k.stands.nets p net lends.at).each (Serializer (seat_of net.tree j)) (Site j) (of.net.tree.seats j) seat-in (seat-edge net.tree j) ∙ ap (λ (n : ℕ). link_left d k.history n (Serializer (seat_of net.tree j)) (Site j)) views)

    front : is_front d j (site_state d k.history j) l ≡ true
    front = left-fits d k.history j l net.tree (is_valid d k.frame.deployment) k.run (subst (λ (n : ℕ). tree_of d n ≡ Some net.tree) views of.tree) (subst (λ (ls : List Label). In ls l) same member)

    fitting : fits_in x (input.Turn (Some l)) ≡ true
    fitting = each-fits x (input.Turn (Some l)) d j (site_state d k.history j) k.frame.deployment sound stands ∙ and_from (fits d j (site_state d k.history j) (given.Turn (Some l))) true front refl

-- the site's turns over the labels that were lent, and given back without those that it turned
pub record Turned (w v : WorldSeen) (j n : ℕ) (u : WorldSeen) : Type 0 where
  pub world : IsWorld u
  pub spends : Spends (act.Turn j) v n u

pub did-turns : (w v : WorldSeen) (j m n s total : ℕ) (x : SiteSeen) (labels left : List Label) (lent nets : List (Option NetSeen)) (ys : List SiteSeen) → w ≡ v → IsWorld w → j < v.deployment.sites → HasSite w j x → m ≡ x.views.view → m ≡ (m - 1) + 1 → w.shown ≤ 2 ^ 64 - 1 →
    LendsAt w.nets (m - 1) j labels lent → TurnsAt w.sites j labels n s ys → left ≡ drop n labels →
    ((q : NetSeen) → slice_get lent (m - 1) ≡ Some (Some q) → nets ≡ set lent (m - 1) (Some (with_link_to q j left))) → total ≡ capped (w.shown + s) → Turned w v j n (record w { sites = ys; nets = nets; shown = total })
did-turns w v j m n s total x labels left lent nets ys e k lt at seen above small lends turns rest given-back sum = record {
  world = subst IsWorld whole (turns-gone w j p x net k inside at lends.at small viewed n s turns.after by-site).0.world;
  spends = spent-from (act.Turn j) w v (record w { sites = ys; nets = nets; shown = total }) n e
      (subst (Spends (act.Turn j) w n) whole (turns-spent w j p x net k inside at lends.at small viewed n s turns.after by-site turns.sound (subst (λ (ls : List Label). is_done (turn_answer turns.after.views turns.after.proxy (slice_get ls n)) ≡ false) lends.labels turns.end)));
}
  where
    p : ℕ
    p = m - 1

    net : NetSeen
    net = lends.before

    inside : j < w.deployment.sites
    inside = subst (λ (u : WorldSeen). j < u.deployment.sites) (sym e) lt

    viewed : x.views.view ≡ p + 1
    viewed = sym seen ∙ above

    of : IsNetOf w.deployment (p + 1) net
    of = k.frame.planted p (Some net) lends.at

    seated : j < length net.tree.seats
    seated = let a : length net.tree.seats ≡ w.deployment.sites = of.deployment.all_seated (p + 1) net.tree of.tree in let b : j < w.deployment.sites = inside in omega arith

    by-site : TurnsOn x (link_to net j) n s turns.after
    by-site = subst (λ (y : SiteSeen). TurnsOn y (link_to net j) n s turns.after) (both-are (slice_get w.sites j) turns.before x turns.at at)
        (subst (λ (ls : List Label). TurnsOn turns.before ls n s turns.after) lends.labels turns.turns)

    place : p < length w.nets
    place = within w.nets p (Some net) lends.at

    lent-at : slice_get lent p ≡ Some (Some (with_link_to net j []))
    lent-at = ap (λ (ns : List (Option NetSeen)). slice_get ns p) lends.rest ∙ get-set w.nets p (Some (with_link_to net j [])) place

    nets-are : nets ≡ set w.nets p (Some (with_link_to net j (drop n (link_to net j))))
    nets-are =
        given-back (with_link_to net j []) lent-at
        ∙ (ap (λ (ns : List (Option NetSeen)). set ns p (Some (with_link_to (with_link_to net j []) j left))) lends.rest
        ∙ (set-set w.nets p (Some (with_link_to net j [])) (Some (with_link_to (with_link_to net j []) j left))
        ∙ ap (λ (q : NetSeen). set w.nets p (Some q)) (with-twice net j [] left ∙ ap (with_link_to net j) (rest ∙ ap (drop n) lends.labels))))

    whole : record w { sites = set w.sites j turns.after; nets = set w.nets p (Some (with_link_to net j (drop n (link_to net j)))); shown = capped (w.shown + s) } ≡ record w { sites = ys; nets = nets; shown = total }
    whole = λ i. record w { sites = sym turns.rest i; nets = sym nets-are i; shown = sym sum i }

-- of an epoch of stamp order none stands on a link
pub did-no-turn : (w v : WorldSeen) (j m : ℕ) (x : SiteSeen) → w ≡ v → IsWorld w → j < v.deployment.sites → HasSite w j x → IsSite x → m ≡ x.views.view → m ≡ (m - 1) + 1 → slice_get w.nets (m - 1) ≡ Some None → Spends (act.Turn j) v 0 v
unfolding site_answers site_after fits_here
did-no-turn w v j m x e k lt at sound seen above none-there = subst (λ (u : WorldSeen). Spends (act.Turn j) u 0 u) e (record {
  again = times.none;
  refusal = r;
  applies = subst (Applies w (act.Turn j) r) (a.refused undone) a;
  undone = undone;
})
  where
    inside : j < w.deployment.sites
    inside = subst (λ (u : WorldSeen). j < u.deployment.sites) (sym e) lt

    r : Answer
    r = turn_answer x.views x.proxy None

    undone : is_done r ≡ false
    undone = empty-turn x.views x.proxy

    steps-none : StepsAt w.sites j (input.Turn None) r (set w.sites j (turned_after x None))
    steps-none = record { before = x; at = at; sound = sound; fits = refl; answers = refl; rest = refl }

    next : WorldSeen
    next = record w { sites = set w.sites j (turned_after x None); nets = w.nets }

    a : Applies w (act.Turn j) r (record next { shown = counted r w.shown })
    a = applies w w (record next { shown = counted r w.shown }) (act.Turn j) r refl k inside refl
        (counted-so w next next (act.Turn j) r (counted r w.shown) refl
        (turn-goes w j (m - 1) None r (set w.sites j (turned_after x None)) w.nets k.frame inside
        (λ z f. ap (λ (y : SiteSeen). y.views.view) (both-are (slice_get w.sites j) z x f at) ∙ (sym seen ∙ above)) steps-none
        (record { at = none-there; rest = sym (set-same w.nets (m - 1) None none-there) })) refl)

-- what the calls between ask for
pub fronts-fit : (w v : WorldSeen) (j m : ℕ) (x : SiteSeen) (labels : List Label) (nets : List (Option NetSeen)) → w ≡ v → IsWorld w → j < v.deployment.sites → IsSite x → m ≡ x.views.view → m ≡ (m - 1) + 1 → HasSite w j x → LendsAt w.nets (m - 1) j labels nets →
    (y : SiteSeen) → slice_get w.sites j ≡ Some y → IsSite y → (l : Label) → In labels l → IsFront y l
fronts-fit w v j m x labels nets e k lt sound seen above at lends y here fine l member =
    subst (λ (z : SiteSeen). IsFront z l) (both-are (slice_get w.sites j) x y at here) (on-site w v j m x labels nets e k lt sound seen above at lends l member)

pub lent-within : (nets lent : List (Option NetSeen)) (p j : ℕ) (labels : List Label) → LendsAt nets p j labels lent → p < length lent
lent-within nets lent p j labels lends =
    let a : length lent ≡ length nets = ap (λ (ns : List (Option NetSeen)). length ns) lends.rest ∙ length-set nets p (Some (with_link_to lends.before j [])) in
    let b : p < length nets = within nets p (Some lends.before) lends.at in omega arith

lent-is : (nets lent : List (Option NetSeen)) (p j : ℕ) (labels : List Label) → (lends : LendsAt nets p j labels lent) → (o : Option NetSeen) → slice_get lent p ≡ Some o → Some (with_link_to lends.before j []) ≡ o
lent-is nets lent p j labels lends o at =
    both-are (slice_get lent p) (Some (with_link_to lends.before j [])) o
    (ap (λ (ns : List (Option NetSeen)). slice_get ns p) lends.rest ∙ get-set nets p (Some (with_link_to lends.before j [])) (within nets p (Some lends.before) lends.at)) at

pub lent-there : (nets lent : List (Option NetSeen)) (p j : ℕ) (labels : List Label) → LendsAt nets p j labels lent → (o : Option NetSeen) → slice_get lent p ≡ Some o → IsSome o
lent-there nets lent p j labels lends o at = subst (λ (x : Option NetSeen). IsSome x) (lent-is nets lent p j labels lends o at) refl

pub lent-seat : (w v : WorldSeen) (j p : ℕ) (labels : List Label) (lent : List (Option NetSeen)) → w ≡ v → IsWorld w → j < v.deployment.sites → LendsAt w.nets p j labels lent → (n : NetSeen) → slice_get lent p ≡ Some (Some n) → j < length n.tree.seats
lent-seat w v j p labels lent e k lt lends n at =
    subst (λ (m : NetSeen). j < length m.tree.seats) (some_is (with_link_to lends.before j []) n (lent-is w.nets lent p j labels lends (Some n) at))
    (net-seat w v j p lends.before e k lt lends.at)

-- an epoch without a net
pub none-at : (nets ns : List (Option NetSeen)) (p : ℕ) (b : Bool) → ns ≡ nets → p < length nets → ((o : Option NetSeen) → slice_get ns p ≡ Some o → b ≡ is_some o) → b ≡ false → slice_get nets p ≡ Some None
none-at nets ns p b same lt says away =
    let q : (o : Option NetSeen) × (slice_get nets p ≡ Some o) = there nets p lt in
    go q.0 q.1
  where
    go : (o : Option NetSeen) → slice_get nets p ≡ Some o → slice_get nets p ≡ Some None
    go None at = at
    go (Some n) at = absurd (let a : b ≡ true = says (Some n) (ap (λ (xs : List (Option NetSeen)). slice_get xs p) same ∙ at) in cc)

-- labels that are given back to the net at a place
pub given-back : (nets : List (Option NetSeen)) (p j : ℕ) (labels : List Label) (m after : NetSeen) → slice_get nets p ≡ Some (Some m) → after ≡ with_link_to m j labels → (n : NetSeen) → slice_get nets p ≡ Some (Some n) → set nets p (Some after) ≡ set nets p (Some (with_link_to n j labels))
given-back nets p j labels m after at e n here =
    ap (λ (x : NetSeen). set nets p (Some x)) (e ∙ ap (λ (x : NetSeen). with_link_to x j labels) (some_is m n (both-are (slice_get nets p) (Some m) (Some n) at here)))
