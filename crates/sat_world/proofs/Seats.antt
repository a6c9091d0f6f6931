-- Clients that move, leave and come.
use Rattle.std.specs.Prelude.{◌≡◌, ◌<◌, ◌+◌, ◌==◌, ℕ, Bool, true, false, max, List, length, set, get_or, Option, Some, None, slice_get, if◌then◌else◌, refl}
use Rattle.std.proofs.Common.{sym, subst, ap, ◌∙◌, arith}
use Rattle.std.proofs.lemmas.Bool.{false_from_ne_true}
use Rattle.sat_label.proofs.Truth.{same-number}
use Rattle.sat_label.proofs.Orders.{point_lt-trans, point_le-self, point_le_lt-absurd, ts-lt}
use Rattle.sat_label.specs.declared.carried.Carried.{Carried}
use Rattle.sat_label.specs.declared.point.Point.{Point}
use Rattle.sat_label.specs.declared.label.Kind.{Kind}
use Rattle.sat_label.specs.declared.label.Kind.TheVariants as kind
use Rattle.sat_label.specs.declared.label.Label.{Label}
use Rattle.sat_label.specs.Order.{greater_point, point_lt}
use Rattle.sat_act.specs.declared.act.Act.{Act}
use Rattle.sat_act.specs.declared.act.Act.TheVariants as act
use Rattle.sat_act.specs.declared.answer.Answer.{Answer}
use Rattle.sat_act.specs.declared.answer.Answer.TheVariants as ans
use Rattle.sat_act.specs.declared.answer.Refusal.{Refusal}
use Rattle.sat_act.specs.declared.answer.Refusal.TheVariants as why
use Rattle.sat_act.specs.Answers.{at_seat}
use Rattle.sat_act.specs.Done.{is_of}
use Rattle.sat_act.specs.Settling.{is_done}
use Rattle.sat_client.specs.declared.client.Client.{Client}
use Rattle.sat_client.specs.Clients.{after_leave, destination, is_move}
use Rattle.sat_gear.specs.Gear.{GearSeen, is_spent, stamped}
use Rattle.sat_proxy.specs.Proxy.{outlook_here}
use Rattle.sat_proxy.specs.Asks.{may_come_at}
use Rattle.sat_model.specs.Input as given
use Rattle.sat_model.specs.Reply.{site_answer}
use Rattle.sat_model.specs.Replay.{given_at, given_seat}
use Rattle.sat_model.specs.World.{ClientState, WorldState, world_given, world_answer, client_next, handled_by}
use Rattle.sat_site.specs.declared.input.SiteInput.TheVariants as input
use Rattle.sat_site.specs.Seen.{SiteSeen}
use Rattle.sat_site.specs.SiteSteps.{site_answers, move_answer, moved_answer}
use Rattle.sat_world.specs.Seen.{WorldSeen, HasClient}
use Rattle.sat_world.specs.Stands.{StandsClient, Stands}
use Rattle.sat_world.specs.Steps.{Goes, Hands, StepsAt, MayTell, told, joined}
use Rattle.sat_world.specs.Worlds.{IsFrame, IsWorld}
use Rattle.sat_world.proofs.Handles.{if-not, if-so, is_told}
use Rattle.sat_world.proofs.Hands.{client-at, seated, carries, unseated}
use Rattle.sat_world.proofs.Lists.{both-are, length-set}
use Rattle.sat_world.proofs.Parts.{next-stands, no-site, no-net, one-client}
use Rattle.sat_world.proofs.Goes.{client-goes, quiet-goes, of-other}

-- ---- a move

-- of two points the greater is the one above
above-stays : (p q : Point) → point_lt q p ≡ true → greater_point p q ≡ p
above-stays p q e = if-not (point_lt p q) q p (false_from_ne_true (point_lt p q) (λ t. point_le_lt-absurd q q (point_le-self q) (point_lt-trans q p q e t)))

-- what a site answers to a move to site j: a refusal, or a label of it above all that the client saw
data Moves (seen : Carried) (j : ℕ) : Answer → Type 0 where
  move_refused : (y : Refusal) → Moves seen j (ans.Refused y)
  moves : (l : Label) → l.kind ≡ kind.Move j → point_lt seen.point l.point ≡ true → Moves seen j (ans.Moved l)

past-max : (a b : ℕ) → b < max a b + 1
past-max a b = omega arith

move-moves : (b : Bool) (o : Option GearSeen) (seen : Carried) (j : ℕ) → Moves seen j (move_answer b o seen j)
move-moves true o seen j = move_refused why.SameSite
move-moves false None seen j = move_refused why.SameSite
move-moves false (Some gear) seen j = go (is_spent gear seen.point)
  where
    go : (b : Bool) → Moves seen j (moved_answer b (stamped gear seen.point (kind.Move j)))
    go true = move_refused why.Spent
    go false = moves (stamped gear seen.point (kind.Move j)) refl (ts-lt seen.point (stamped gear seen.point (kind.Move j)).point (past-max gear.promise seen.point.ts))

move-told : (xs ys : List SiteSeen) (i j : ℕ) (seen : Carried) (r : Answer) → StepsAt xs i (input.Move seen j) r ys → Moves seen j r
unfolding site_answers
move-told xs ys i j seen r h = subst (Moves seen j) (sym h.answers) (move-moves (j == h.before.shape.site) (slice_get h.before.gears 0) seen j)

-- what it makes of the client is what the machine makes of it
moved-stands : (c j : ℕ) (x : Client) (s : ClientState) (a : Act) (r : Answer) → is_of a c ≡ true → Moves x.carried j r → StandsClient x s → StandsClient (told r x) (client_next c s a r)
moved-stands c j x s a r e (move_refused y) st = st
moved-stands c j x s a r e (moves l kind_is above) st = record { carried = λ i. record { point = point i; moving = moving i }; seat = sym (if-so (is_of a c) None s.seat e) }
  where
    point : l.point ≡ (if is_of a c then greater_point l.point s.carried.point else s.carried.point)
    point = sym (if-so (is_of a c) (greater_point l.point s.carried.point) s.carried.point e ∙ above-stays l.point s.carried.point (subst (λ (k : Carried). point_lt k.point l.point ≡ true) st.carried above))

    moving : destination l.kind ≡ (if is_of a c then elim l.kind [ kind.Move j ↦ Some j | _ ↦ s.carried.moving ] else s.carried.moving)
    moving = ap destination kind_is ∙ sym (if-so (is_of a c) (elim l.kind [ kind.Move j ↦ Some j | _ ↦ s.carried.moving ]) s.carried.moving e ∙ ap (λ (k : Kind). elim k [ kind.Move j ↦ Some j | _ ↦ s.carried.moving ]) kind_is)

moved-none : (j : ℕ) (x : Client) (seen : Carried) (r : Answer) → Moves seen j r → is_done r ≡ false → told r x ≡ x
moved-none j x seen r (move_refused y) f = refl
moved-none j x seen r (moves l kind_is above) f = absurd (cc)

-- and the client may be told it
move-may : (j : ℕ) (x : Client) (r : Answer) → Moves x.carried j r → MayTell r x
move-may j x r (move_refused y) = λ l e. absurd (cc)
move-may j x r (moves m kind_is above) = λ l e.
    let f : m ≡ l = label-is m l e in
    (subst (λ (l : Label). is_move l.kind ≡ true) f (ap is_move kind_is), subst (λ (l : Label). point_lt x.carried.point l.point ≡ true) f above)
  where
    label_of : Label → Answer → Label
    label_of l (ans.Moved m) = m
    label_of l r = l

    label-is : (m l : Label) → ans.Moved m ≡ ans.Moved l → m ≡ l
    label-is m l e = ap (label_of m) e

-- the answer to a write or a read is no move
pub other-may : (x : Client) (r : Answer) → is_told r ≡ true → MayTell r x
other-may x r t = λ l e. absurd (let f : is_told (ans.Moved l) ≡ true = subst (λ (r : Answer). is_told r ≡ true) e t in let g : false ≡ true = f in cc)

move-hands : (w : WorldSeen) (c i j : ℕ) (x : Client) → HasClient w c x → x.seat ≡ Some i → Hands w (act.Move c j) i (input.Move x.carried j)
unfolding world_given world_answer
move-hands w c i j x at seat = record {
  hands = λ s st. record {
    given = λ k n. given_seat (seated w c x i at seat s st n) k (given.Move (carries w c x i at seat s st n) j);
    answer = λ n. at_seat (seated w c x i at seat s st n) (λ k. site_answer w.deployment k (s.sites k) (given.Move (carries w c x i at seat s st n) j));
  };
  sized = λ z here. refl;
}

move-none : (w : WorldSeen) (c j : ℕ) (x : Client) → HasClient w c x → x.seat ≡ None → (s : WorldState) → Stands w s → (ans.Refused why.NoSession ≡ world_answer w.deployment s (act.Move c j)) × ((k : ℕ) → world_given w.deployment s (act.Move c j) k ≡ None)
unfolding world_given world_answer
move-none w c j x at none s st = (sym (λ n. at_seat (unseated w c x at none s st n) (λ i. site_answer w.deployment i (s.sites i) (given.Move (s.clients c).carried j))), λ k n. given_seat (unseated w c x at none s st n) k (given.Move (s.clients c).carried j))

-- ---- an attach

-- what a site answers to it
data Attaches : Answer → Type 0 where
  attach_refused : (y : Refusal) → Attaches (ans.Refused y)
  attaches : Attaches ans.Attached

attach-told : (xs ys : List SiteSeen) (i : ℕ) (seen : Carried) (r : Answer) → StepsAt xs i (input.Attach seen) r ys → Attaches r
unfolding site_answers
attach-told xs ys i seen r h = subst Attaches (sym h.answers) (go (may_come_at h.before.proxy.sites (outlook_here h.before.views h.before.proxy) seen h.before.proxy.site))
  where
    go : (b : Bool) → Attaches (if b then ans.Attached else ans.Refused why.NotYet)
    go true = attaches
    go false = attach_refused why.NotYet

joined-stands : (c j : ℕ) (x : Client) (s : ClientState) (r : Answer) → Attaches r → StandsClient x s → StandsClient (joined r j x) (client_next c s (act.Attach c j) r)
joined-stands c j x s r (attach_refused y) st = st
joined-stands c j x s r attaches st = record {
  carried = λ i. record { point = (st.carried i).point; moving = sym (if-so (c == c) None s.carried.moving (same-number c)) i };
  seat = sym (if-so (c == c) (Some j) s.seat (same-number c));
}

joined-none : (j : ℕ) (x : Client) (r : Answer) → Attaches r → is_done r ≡ false → joined r j x ≡ x
joined-none j x r (attach_refused y) f = refl
joined-none j x r attaches f = absurd (cc)

attach-hands : (w : WorldSeen) (c j : ℕ) (x : Client) → HasClient w c x → x.seat ≡ None → Hands w (act.Attach c j) j (input.Attach x.carried)
unfolding world_given world_answer
attach-hands w c j x at none = record {
  hands = λ s st. record {
    given = λ k n. elim (unseated w c x at none s st n) [ None ↦ given_at j k (given.Attach (sym (st.clients c x at).carried n)) | Some i ↦ None ];
    answer = λ n. elim (unseated w c x at none s st n) [ None ↦ site_answer w.deployment j (s.sites j) (given.Attach (sym (st.clients c x at).carried n)) | Some i ↦ ans.Refused why.Joined ];
  };
  sized = λ z here. refl;
}

attach-none : (w : WorldSeen) (c i j : ℕ) (x : Client) → HasClient w c x → x.seat ≡ Some i → (s : WorldState) → Stands w s → (ans.Refused why.Joined ≡ world_answer w.deployment s (act.Attach c j)) × ((k : ℕ) → world_given w.deployment s (act.Attach c j) k ≡ None)
unfolding world_given world_answer
attach-none w c i j x at seat s st = (
  sym (ap (λ (o : Option ℕ). elim o [ None ↦ site_answer w.deployment j (s.sites j) (given.Attach (s.clients c).carried) | Some i ↦ ans.Refused why.Joined ]) (seated w c x i at seat s st)),
  λ k. ap (λ (o : Option ℕ). elim o [ None ↦ given_at j k (given.Attach (s.clients c).carried) | Some i ↦ None ]) (seated w c x i at seat s st),
)

-- ---- a leave

left-stands : (c : ℕ) (x : Client) (s : ClientState) (p : Point) → StandsClient x s → StandsClient (after_leave x) (client_next c s (act.Leave c) (ans.Left p))
left-stands c x s p st = record {
  carried = λ i. record { point = (st.carried i).point; moving = sym (if-so (c == c) None s.carried.moving (same-number c)) i };
  seat = sym (if-so (c == c) None s.seat (same-number c));
}

leave-goes : (w : WorldSeen) (c i : ℕ) (x : Client) (now : List Client) → IsFrame w → HasClient w c x → x.seat ≡ Some i → now ≡ set w.clients c (after_leave x) → Goes w (act.Leave c) (ans.Left x.carried.point) (record w { clients = now })
unfolding handled_by world_given world_answer
leave-goes w c i x now k at seat n = record {
  deployment = refl;
  shown = refl;
  frame = record { deployment = k.deployment; interest = k.interest; sites = k.sites; nets = k.nets; planted = k.planted; clients = ap (λ (cl : List Client). length cl) n ∙ (length-set w.clients c (after_leave x) ∙ k.clients) };
  answer = λ s st. sym (λ m. at_seat (seated w c x i at seat s st m) (λ k. ans.Left (carries w c x i at seat s st m).point));
  stands = λ s st. next-stands w s (act.Leave c) (ans.Left x.carried.point) w.sites w.nets now
      (no-site w.deployment s.sites (world_given w.deployment s (act.Leave c)) (ans.Left x.carried.point) w.sites st.sites (λ k. refl))
      (no-net w None s.links s.dead s.dead k refl (λ e z. refl) st.nets)
      (one-client w.clients now s.clients (act.Leave c) (ans.Left x.carried.point) c (after_leave x) (λ b ne. of-other (act.Leave c) c b refl ne) n (left-stands c x (s.clients c) x.carried.point (st.clients c x at)) st.clients);
  refused = λ f. absurd (cc);
}

leave-none : (w : WorldSeen) (c : ℕ) (x : Client) → HasClient w c x → x.seat ≡ None → (s : WorldState) → Stands w s → (ans.Refused why.NoSession ≡ world_answer w.deployment s (act.Leave c)) × ((k : ℕ) → world_given w.deployment s (act.Leave c) k ≡ None)
unfolding world_given world_answer
leave-none w c x at none s st = (sym (λ n. at_seat (unseated w c x at none s st n) (λ i. ans.Left (s.clients c).carried.point)), λ k. refl)

-- ---- as the code asks it

module _ (w v : WorldSeen) (c : ℕ) (x : Client) (e : w ≡ v) (k : IsWorld w) (lt : c < length v.deployment.clients) (is : x ≡ get_or w.clients c x) where
  at : HasClient w c x
  at = client-at w v c x e k lt is

  pub move-handed : (i j : ℕ) → x.seat ≡ Some i → Hands w (act.Move c j) i (input.Move x.carried j)
  move-handed i j seat = move-hands w c i j x at seat

  pub may-tell-move : (i j : ℕ) (r : Answer) (ys : List SiteSeen) → StepsAt w.sites i (input.Move x.carried j) r ys → (y : Client) → slice_get w.clients c ≡ Some y → MayTell r y
  may-tell-move i j r ys h y there = subst (MayTell r) (both-are (slice_get w.clients c) x y at there) (move-may j x r (move-told w.sites ys i j x.carried r h))

  pub did-move : (i j : ℕ) (r : Answer) (ys : List SiteSeen) (now : List Client) → x.seat ≡ Some i → StepsAt w.sites i (input.Move x.carried j) r ys → ((y : Client) → slice_get w.clients c ≡ Some y → now ≡ set w.clients c (told r y)) → Goes w (act.Move c j) r (record w { sites = ys; clients = now })
  did-move i j r ys now seat h tells =
      let m : Moves x.carried j r = move-told w.sites ys i j x.carried r h in
      client-goes w (act.Move c j) c x (told r x) i (input.Move x.carried j) r ys now k.frame refl refl at (λ s st. moved-stands c j x s (act.Move c j) r (same-number c) m st) (moved-none j x x.carried r m) (move-hands w c i j x at seat) h (tells x at)

  pub did-not-move : (j : ℕ) → x.seat ≡ None → Goes v (act.Move c j) (ans.Refused why.NoSession) v
  did-not-move j none = subst (λ (v : WorldSeen). Goes v (act.Move c j) (ans.Refused why.NoSession) v) e (quiet-goes w (act.Move c j) why.NoSession k.frame (move-none w c j x at none))

  pub attach-handed : (j : ℕ) → x.seat ≡ None → Hands w (act.Attach c j) j (input.Attach x.carried)
  attach-handed j none = attach-hands w c j x at none

  pub did-attach : (j : ℕ) (r : Answer) (ys : List SiteSeen) (now : List Client) → x.seat ≡ None → StepsAt w.sites j (input.Attach x.carried) r ys → ((y : Client) → slice_get w.clients c ≡ Some y → now ≡ set w.clients c (joined r j y)) → Goes w (act.Attach c j) r (record w { sites = ys; clients = now })
  did-attach j r ys now none h tells =
      let a : Attaches r = attach-told w.sites ys j x.carried r h in
      client-goes w (act.Attach c j) c x (joined r j x) j (input.Attach x.carried) r ys now k.frame refl refl at (λ s st. joined-stands c j x s r a st) (joined-none j x r a) (attach-hands w c j x at none) h (tells x at)

  pub did-not-attach : (i j : ℕ) → x.seat ≡ Some i → Goes v (act.Attach c j) (ans.Refused why.Joined) v
  did-not-attach i j seat = subst (λ (v : WorldSeen). Goes v (act.Attach c j) (ans.Refused why.Joined) v) e (quiet-goes w (act.Attach c j) why.Joined k.frame (attach-none w c i j x at seat))

  pub did-leave : (i : ℕ) (now : List Client) → x.seat ≡ Some i → ((y : Client) → slice_get w.clients c ≡ Some y → now ≡ set w.clients c (after_leave y)) → Goes w (act.Leave c) (ans.Left x.carried.point) (record w { clients = now })
  did-leave i now seat tells = leave-goes w c i x now k.frame at seat (tells x at)

  pub did-not-leave : x.seat ≡ None → Goes v (act.Leave c) (ans.Refused why.NoSession) v
  did-not-leave none = subst (λ (v : WorldSeen). Goes v (act.Leave c) (ans.Refused why.NoSession) v) e (quiet-goes w (act.Leave c) why.NoSession k.frame (leave-none w c x at none))
