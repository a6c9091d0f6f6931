-- Each act of a round that is done lowers what is left.
use Rattle.std.specs.Prelude.{◌≡◌, ◌⊎◌, ◌<◌, ◌≤◌, ℕ, ◌+◌, ◌-◌, Bool, true, false, ◌&&◌, ◌||◌, not, List, [], ◌∷◌, ◌++◌, Option, Some, None, refl, ◌==◌, if◌then◌else◌, length, map, slice_get}
use Rattle.std.specs.List.{list_any}
use Rattle.std.proofs.Common.{sym, subst, arith, inl, inr, ap, ◌∙◌}
use Rattle.std.proofs.lemmas.List.{append-nil}
use Rattle.std.proofs.lemmas.Bool.Decides.{nat_tests}
use Rattle.std.proofs.lemmas.Bool.{eqb-false, not_from_true, eqb-true}
use Rattle.sat_label.proofs.Truth.{same-number, some_if}
use Rattle.sat_label.specs.declared.label.Label.{Label}
use Rattle.sat_label.specs.declared.node.NodeId.{NodeId}
use Rattle.sat_label.specs.declared.node.NodeId.TheVariants.{Site, Serializer}
use Rattle.sat_label.specs.Order.{label_eq, node_eq}
use Rattle.sat_label.specs.Words.{below, has}
use Rattle.sat_tree.specs.Shape.{TreeShape}
use Rattle.sat_tree.specs.Cut.{is_edge}
use Rattle.sat_act.specs.declared.act.Act.{Act}
use Rattle.sat_act.specs.declared.act.Act.TheVariants as act
use Rattle.sat_act.specs.declared.answer.Answer.{Answer}
use Rattle.sat_act.specs.declared.answer.Answer.TheVariants as ans
use Rattle.sat_act.specs.declared.entry.Entry.{Entry}
use Rattle.sat_act.specs.Deployed.{Deployed}
use Rattle.sat_act.specs.Histories.{listed}
use Rattle.sat_act.specs.Done.{made_in}
use Rattle.sat_act.specs.Parts.{Handling, handling, is_target, is_update, tree_of, emission, closed_epoch_of_entry, view, seat_in, brought, brought_entry, shown, shown_entry, waiting, lane, link_front, entered, taken, came_from, goes_beyond}
use Rattle.sat_act.specs.Runs.{IsRun}
use Rattle.sat_act.specs.Goals.{Gives, IsValid}
use Rattle.sat_act.specs.Headline.{HasTrees}
use Rattle.sat_act.specs.Settling.{is_done, total, payload_entry, payloads, payload_left, payloads_left, handlings, sending_entry, sendings, nodes_of, was_handled, sending_left, epochs_left, left}
use Rattle.sat_laws.proofs.Steps.{Step, hopped, showed_turn, took, brought_now, showed_stamp, advanced, closed, wrote}
use Rattle.sat_laws.proofs.Runs.{step_of, before_of, range_of, entry}
use Rattle.sat_laws.proofs.Labels.{some_is}
use Rattle.sat_laws.proofs.Members.{listed-gives, gives-listed}
use Rattle.sat_laws.proofs.Sinks.{keep, gives-map}
use Rattle.sat_laws.proofs.Shows.{IsFor, in-lane, brings-for, waits, candidate-least, next-stamp-waits}
use Rattle.sat_laws.proofs.Views.{IsAbreast, abreast, view-rises, advance-view, add_if, count-if, count-none}
use Rattle.sat_laws.proofs.Handlings.{handled_as}
use Rattle.sat_label.proofs.SameNodes.{same-node, node-self}
use Rattle.sat_laws.proofs.Links.{HandledFrom, Handled, SentIn, tail_of, passing, view-of, taking, entered-in}
use Rattle.sat_laws.proofs.Order.{sent-handled}
use Rattle.sat_laws.proofs.Arrivals.{handled-sent-in}
use Rattle.sat_tree.proofs.Trees.{edge-end}
use Rattle.sat_rest.proofs.HandledOnce.{HandledOnce, handled-once}
use Rattle.sat_rest.proofs.Totals.{total-le, total-lt, filter-le, filter-lt, In-below}
use Rattle.sat_label.specs.Members.{In}
use Rattle.sat_label.proofs.Orders.{same-label, label_eq-self}
use Rattle.sat_label.proofs.Members.{In-get, In-left, In-right, In-filter, has-in, in-has}
use Rattle.sat_laws.proofs.Written.{by-write}

-- the acts of rounds
abbrev pub is_round_act : Act → Bool
is_round_act (act.Bulk i g j n) = true
is_round_act (act.Hop e u z) = true
is_round_act (act.Turn j) = true
is_round_act (act.Stamp j) = true
is_round_act (act.Advance j) = true
is_round_act _ = false

-- ---- payloads

abbrev pub payloads_all : Deployed → List Entry → ℕ
payloads_all d h = total (payloads_left d h) (below d.sites)

abbrev payload_of : Deployed → ℕ → Option Label → Option Label
payload_of d j o = elim o [ None ↦ None | Some l ↦ if is_update l.kind && is_target d l j then Some l else None ]

payloads-same : (d : Deployed) (h : List Entry) (x : Entry) (j : ℕ) → made_in x.answer ≡ None → payloads d (x ∷ h) j ≡ payloads d h j
unfolding payloads
payloads-same d h x j e =
    ap (λ (o : Option Label). listed (payload_entry d j) h ++ tail_of (payload_of d j o)) e ∙ append-nil (listed (payload_entry d j) h)

pub payloads_left-is : (d : Deployed) (h : List Entry) (j : ℕ) → payloads_left d h j ≡ total (payload_left (brought h j) (shown h j)) (payloads d h j)
unfolding payloads_left
payloads_left-is d h j = refl

pub brought-grows : (h : List Entry) (x : Entry) (j : ℕ) (l : Label) → has label_eq (brought h j) l ≡ true → has label_eq (brought (x ∷ h) j) l ≡ true
unfolding brought
brought-grows h x j l e =
    in-has (listed (brought_entry j) h ++ tail_of (brought_entry j h x)) l (In-left (listed (brought_entry j) h) (tail_of (brought_entry j h x)) l (has-in (listed (brought_entry j) h) l e))

shown-grows : (h : List Entry) (x : Entry) (j : ℕ) (l : Label) → has label_eq (shown h j) l ≡ true → has label_eq (shown (x ∷ h) j) l ≡ true
unfolding shown
shown-grows h x j l e =
    in-has (listed (shown_entry j) h ++ tail_of (shown_entry j h x)) l (In-left (listed (shown_entry j) h) (tail_of (shown_entry j h x)) l (has-in (listed (shown_entry j) h) l e))

brought-new : (h : List Entry) (x : Entry) (j : ℕ) (l : Label) → brought_entry j h x ≡ Some l → has label_eq (brought (x ∷ h) j) l ≡ true
unfolding brought Gives
brought-new h x j l e = in-has (listed (brought_entry j) (x ∷ h)) l (gives-listed (brought_entry j) (x ∷ h) l (inr e))

shown-new : (h : List Entry) (x : Entry) (j : ℕ) (l : Label) → shown_entry j h x ≡ Some l → has label_eq (shown (x ∷ h) j) l ≡ true
unfolding shown Gives
shown-new h x j l e = in-has (listed (shown_entry j) (x ∷ h)) l (gives-listed (shown_entry j) (x ∷ h) l (inr e))

abbrev weigh : Bool → Bool → ℕ
weigh b s = if b then (if s then 0 else 1) else 2

weigh-le : (b b' s s' : Bool) → (b ≡ true → b' ≡ true) → (s ≡ true → s' ≡ true) → weigh b' s' ≤ weigh b s
weigh-le false false s s' p q = omega arith
weigh-le false true s true p q = omega arith
weigh-le false true s false p q = omega arith
weigh-le true false s s' p q = absurd (let z : false ≡ true = p refl in cc)
weigh-le true true true true p q = omega arith
weigh-le true true true false p q = absurd (let z : false ≡ true = q refl in cc)
weigh-le true true false true p q = omega arith
weigh-le true true false false p q = omega arith

weigh-bring : (b b' s s' : Bool) → b ≡ false → b' ≡ true → weigh b' s' < weigh b s
weigh-bring false true s true p q = omega arith
weigh-bring false true s false p q = omega arith
weigh-bring true b' s s' p q = absurd (cc)
weigh-bring false false s s' p q = absurd (cc)

weigh-show : (b b' s s' : Bool) → b ≡ true → s ≡ false → b' ≡ true → s' ≡ true → weigh b' s' < weigh b s
weigh-show true true false true p q r t = omega arith
weigh-show false b' s s' p q r t = absurd (cc)
weigh-show true false s s' p q r t = absurd (cc)
weigh-show true true true s' p q r t = absurd (cc)
weigh-show true true false false p q r t = absurd (cc)

payload-le : (h : List Entry) (x : Entry) (j : ℕ) (l : Label) → payload_left (brought (x ∷ h) j) (shown (x ∷ h) j) l ≤ payload_left (brought h j) (shown h j) l
payload-le h x j l =
    weigh-le (has label_eq (brought h j) l) (has label_eq (brought (x ∷ h) j) l) (has label_eq (shown h j) l) (has label_eq (shown (x ∷ h) j) l) (brought-grows h x j l) (shown-grows h x j l)

payloads-le : (d : Deployed) (h : List Entry) (x : Entry) (j : ℕ) → made_in x.answer ≡ None → payloads_left d (x ∷ h) j ≤ payloads_left d h j
payloads-le d h x j e =
    let a : payloads_left d (x ∷ h) j ≡ total (payload_left (brought (x ∷ h) j) (shown (x ∷ h) j)) (payloads d (x ∷ h) j) = payloads_left-is d (x ∷ h) j in
    let b : total (payload_left (brought (x ∷ h) j) (shown (x ∷ h) j)) (payloads d (x ∷ h) j) ≡ total (payload_left (brought (x ∷ h) j) (shown (x ∷ h) j)) (payloads d h j) =
    ap (λ (ls : List Label). total (payload_left (brought (x ∷ h) j) (shown (x ∷ h) j)) ls) (payloads-same d h x j e) in
    let c : total (payload_left (brought (x ∷ h) j) (shown (x ∷ h) j)) (payloads d h j) ≤ total (payload_left (brought h j) (shown h j)) (payloads d h j) =
    total-le (payload_left (brought (x ∷ h) j) (shown (x ∷ h) j)) (payload_left (brought h j) (shown h j)) (payloads d h j) (λ l i. payload-le h x j l) in
    let f : payloads_left d h j ≡ total (payload_left (brought h j) (shown h j)) (payloads d h j) = payloads_left-is d h j in
    omega arith

payloads-lt : (d : Deployed) (h : List Entry) (x : Entry) (j : ℕ) (l : Label) → made_in x.answer ≡ None → In (payloads d h j) l → payload_left (brought (x ∷ h) j) (shown (x ∷ h) j) l < payload_left (brought h j) (shown h j) l →
    payloads_left d (x ∷ h) j < payloads_left d h j
payloads-lt d h x j l e i lt =
    let a : payloads_left d (x ∷ h) j ≡ total (payload_left (brought (x ∷ h) j) (shown (x ∷ h) j)) (payloads d (x ∷ h) j) = payloads_left-is d (x ∷ h) j in
    let b : total (payload_left (brought (x ∷ h) j) (shown (x ∷ h) j)) (payloads d (x ∷ h) j) ≡ total (payload_left (brought (x ∷ h) j) (shown (x ∷ h) j)) (payloads d h j) =
    ap (λ (ls : List Label). total (payload_left (brought (x ∷ h) j) (shown (x ∷ h) j)) ls) (payloads-same d h x j e) in
    let c : total (payload_left (brought (x ∷ h) j) (shown (x ∷ h) j)) (payloads d h j) < total (payload_left (brought h j) (shown h j)) (payloads d h j) =
    total-lt (payload_left (brought (x ∷ h) j) (shown (x ∷ h) j)) (payload_left (brought h j) (shown h j)) (payloads d h j) l (λ m i. payload-le h x j m) i lt in
    let f : payloads_left d h j ≡ total (payload_left (brought h j) (shown h j)) (payloads d h j) = payloads_left-is d h j in
    omega arith

pub in-payloads : (d : Deployed) (h : List Entry) (j : ℕ) (l : Label) → IsFor d h j l → In (payloads d h j) l
unfolding payloads
in-payloads d h j l f =
    gives-listed (payload_entry d j) h l
    (gives-map (λ before e. made_in e.answer) (payload_entry d j) l l
    (λ b x e. keep (λ (m : Label). is_update m.kind && is_target d m j) (made_in x.answer) l e (and_both (is_update l.kind) (is_target d l j) f.update f.target)) h f.made)
  where
    and_both : (a b : Bool) → a ≡ true → b ≡ true → (a && b) ≡ true
    and_both true b e f = f
    and_both false b e f = absurd (cc)

payloads_all-le : (d : Deployed) (h : List Entry) (x : Entry) → made_in x.answer ≡ None → payloads_all d (x ∷ h) ≤ payloads_all d h
payloads_all-le d h x e = total-le (payloads_left d (x ∷ h)) (payloads_left d h) (below d.sites) (λ j i. payloads-le d h x j e)

payloads_all-lt : (d : Deployed) (h : List Entry) (x : Entry) (j : ℕ) (l : Label) → made_in x.answer ≡ None → j < d.sites → IsFor d h j l → payload_left (brought (x ∷ h) j) (shown (x ∷ h) j) l < payload_left (brought h j) (shown h j) l →
    payloads_all d (x ∷ h) < payloads_all d h
payloads_all-lt d h x j l e b f lt =
    total-lt (payloads_left d (x ∷ h)) (payloads_left d h) (below d.sites) j (λ j i. payloads-le d h x j e) (In-below d.sites j b) (payloads-lt d h x j l e (in-payloads d h j l f) lt)

bring-lt : (d : Deployed) (h : List Entry) (x : Entry) (j : ℕ) (l : Label) → made_in x.answer ≡ None → j < d.sites → IsFor d h j l → has label_eq (brought h j) l ≡ false → brought_entry j h x ≡ Some l →
    payloads_all d (x ∷ h) < payloads_all d h
bring-lt d h x j l e b f q k =
    payloads_all-lt d h x j l e b f (weigh-bring (has label_eq (brought h j) l) (has label_eq (brought (x ∷ h) j) l) (has label_eq (shown h j) l) (has label_eq (shown (x ∷ h) j) l) q (brought-new h x j l k))

pub waiting-tests : (h : List Entry) (j : ℕ) (l : Label) → In (waiting h j) l → (has label_eq (brought h j) l ≡ true) × (has label_eq (shown h j) l ≡ false)
unfolding waiting
waiting-tests h j l m =
    let w : In (brought h j) l × (not (has label_eq (shown h j) l) ≡ true) = In-filter (λ l. not (has label_eq (shown h j) l)) (brought h j) l m in
    (in-has (brought h j) l w.0, not_from_true (has label_eq (shown h j) l) w.1)
  where
    not_from_true : (b : Bool) → not b ≡ true → b ≡ false
    not_from_true true e = absurd (cc)
    not_from_true false e = refl

show-lt : (d : Deployed) (h : List Entry) (x : Entry) (j : ℕ) (l : Label) → IsRun d h → made_in x.answer ≡ None → j < d.sites → In (waiting h j) l → shown_entry j h x ≡ Some l →
    payloads_all d (x ∷ h) < payloads_all d h
show-lt d h x j l run e b m k =
    let w : (has label_eq (brought h j) l ≡ true) × (has label_eq (shown h j) l ≡ false) = waiting-tests h j l m in
    payloads_all-lt d h x j l e b (brings-for d h j l run (waits h j l m).0)
    (weigh-show (has label_eq (brought h j) l) (has label_eq (brought (x ∷ h) j) l) (has label_eq (shown h j) l) (has label_eq (shown (x ∷ h) j) l) w.0 w.1 (brought-grows h x j l w.0) (shown-new h x j l k))

-- ---- links

abbrev pub sendings_all : Deployed → List Entry → ℕ
sendings_all d h = total (sending_left d (handlings d h)) (sendings d h)

abbrev pub pick_sending : Option Handling → Option Handling
pick_sending o = elim o [ None ↦ None | Some x ↦ elim x.from [ None ↦ Some x | Some u ↦ None ] ]

sendings-same : (d : Deployed) (h : List Entry) (x : Entry) → sending_entry d h x ≡ None → sendings d (x ∷ h) ≡ sendings d h
unfolding sendings
sendings-same d h x e = ap (λ (o : Option Handling). listed (sending_entry d) h ++ tail_of o) e ∙ append-nil (listed (sending_entry d) h)

handlings-step : (d : Deployed) (h : List Entry) (x : Entry) → handlings d (x ∷ h) ≡ handlings d h ++ tail_of (handling d h x)
unfolding handlings
handlings-step d h x = refl

any-left : {X : Type 0} (p : X → Bool) (xs ys : List X) → list_any p xs ≡ true → list_any p (xs ++ ys) ≡ true
any-left p [] ys e = absurd (cc)
any-left p (x ∷ xs) ys e = go (p x) e (λ k. any-left p xs ys k)
  where
    go : (b : Bool) → (b || list_any p xs) ≡ true → (list_any p xs ≡ true → list_any p (xs ++ ys) ≡ true) → (b || list_any p (xs ++ ys)) ≡ true
    go true e old = refl
    go false e old = old e

any-last : {X : Type 0} (p : X → Bool) (xs : List X) (y : X) → p y ≡ true → list_any p (xs ++ y ∷ []) ≡ true
any-last p [] y e = or_true (p y) false e
  where
    or_true : (b c : Bool) → b ≡ true → (b || c) ≡ true
    or_true true c e = refl
    or_true false c e = absurd (cc)
any-last p (x ∷ xs) y e = go (p x) (any-last p xs y e)
  where
    go : (b : Bool) → list_any p (xs ++ y ∷ []) ≡ true → (b || list_any p (xs ++ y ∷ [])) ≡ true
    go true k = refl
    go false k = k

pub any-In : {X : Type 0} (p : X → Bool) (xs : List X) → list_any p xs ≡ true → (x : X) × In xs x × (p x ≡ true)
any-In p [] e = absurd (cc)
any-In p (x ∷ xs) e = go (p x) refl e (λ k. any-In p xs k)
  where
    go : (b : Bool) → p x ≡ b → (b || list_any p xs) ≡ true → (list_any p xs ≡ true → (y : _) × In xs y × (p y ≡ true)) → (y : _) × In (x ∷ xs) y × (p y ≡ true)
    go true k e old = (x, inl refl, k)
    go false k e old = let r : (y : _) × In xs y × (p y ≡ true) = old e in (r.0, inr r.1, r.2)

pub handled-grows : (d : Deployed) (h : List Entry) (x : Entry) (e : ℕ) (l : Label) (v : NodeId) → was_handled (handlings d h) e l v ≡ true → was_handled (handlings d (x ∷ h)) e l v ≡ true
handled-grows d h x e l v k =
    subst (λ (xs : List Handling). was_handled xs e l v ≡ true) (sym (handlings-step d h x))
    (any-left (λ (y : Handling). (y.epoch == e) && (node_eq y.node v && label_eq y.label l)) (handlings d h) (tail_of (handling d h x)) k)

pub handled-now : (d : Deployed) (h : List Entry) (x : Entry) (e : ℕ) (l : Label) (v : NodeId) (o : Option NodeId) → handling d h x ≡ Some (handled_as e v o l) → was_handled (handlings d (x ∷ h)) e l v ≡ true
handled-now d h x e l v o k =
    subst (λ (xs : List Handling). was_handled xs e l v ≡ true) (sym (handlings-step d h x ∙ ap (λ (o : Option Handling). handlings d h ++ tail_of o) k))
    (any-last (λ (y : Handling). (y.epoch == e) && (node_eq y.node v && label_eq y.label l)) (handlings d h) (handled_as e v o l) (all_true (e == e) (node_eq v v) (label_eq l l) (same-number e) (node-self v) (label_eq-self l)))
  where
    same-number : (n : ℕ) → (n == n) ≡ true
    same-number n = grind (arith, nat_tests)

    all_true : (a b c : Bool) → a ≡ true → b ≡ true → c ≡ true → (a && (b && c)) ≡ true
    all_true true true c p q r = r
    all_true false b c p q r = absurd (cc)
    all_true true false c p q r = absurd (cc)

gives-handled-from : (d : Deployed) (h : List Entry) (y : Handling) → Gives (handling d) h y → HandledFrom d h y.epoch y.node y.from y.label
unfolding Gives HandledFrom
gives-handled-from d [] y k = k
gives-handled-from d (x ∷ h) y (inl k) = inl (gives-handled-from d h y k)
gives-handled-from d (x ∷ h) y (inr k) = inr k

-- what the test says was handled was
pub was-handled : (d : Deployed) (h : List Entry) (e : ℕ) (l : Label) (v : NodeId) → was_handled (handlings d h) e l v ≡ true → Handled d h e v l
unfolding handlings
was-handled d h e l v k =
    let r : (y : Handling) × In (listed (handling d) h) y × (((y.epoch == e) && (node_eq y.node v && label_eq y.label l)) ≡ true) =
    any-In (λ (y : Handling). (y.epoch == e) && (node_eq y.node v && label_eq y.label l)) (listed (handling d) h) k in
    parts r.0 (gives-handled-from d h r.0 (listed-gives (handling d) h r.0 r.1)) (r.0.epoch == e) (node_eq r.0.node v) (label_eq r.0.label l) refl refl refl r.2
  where
    parts : (y : Handling) → HandledFrom d h y.epoch y.node y.from y.label → (a b c : Bool) → (y.epoch == e) ≡ a → node_eq y.node v ≡ b → label_eq y.label l ≡ c → (a && (b && c)) ≡ true → Handled d h e v l
    parts y m true true true p q r w = (
      y.from,
      subst (λ (f : ℕ). HandledFrom d h f v y.from l) (eqb-true y.epoch e p)
          (subst (λ (n : NodeId). HandledFrom d h y.epoch n y.from l) (same-node y.node v q)
          (subst (λ (z : Label). HandledFrom d h y.epoch y.node y.from z) (same-label y.label l r) m)),
    )
    parts y m false b c p q r w = absurd (cc)
    parts y m true false c p q r w = absurd (cc)
    parts y m true true false p q r w = absurd (cc)

not_more : (a b : Bool) → (a ≡ true → b ≡ true) → not b ≡ true → not a ≡ true
not_more true true f e = e
not_more true false f e = absurd (let z : false ≡ true = f refl in cc)
not_more false b f e = refl

sending-le : (d : Deployed) (h : List Entry) (x : Entry) (s : Handling) → sending_left d (handlings d (x ∷ h)) s ≤ sending_left d (handlings d h) s
unfolding sending_left
sending-le d h x s =
    filter-le (λ (v : NodeId). not (was_handled (handlings d (x ∷ h)) s.epoch s.label v)) (λ (v : NodeId). not (was_handled (handlings d h) s.epoch s.label v)) (nodes_of d s.epoch)
    (λ v k. not_more (was_handled (handlings d h) s.epoch s.label v) (was_handled (handlings d (x ∷ h)) s.epoch s.label v) (handled-grows d h x s.epoch s.label v) k)

on : (b : Bool) → (b ≡ true → ⊥) → not b ≡ true
on true f = absurd (f refl)
on false f = refl

sending-lt : (d : Deployed) (h : List Entry) (x : Entry) (s : Handling) (v : NodeId) (o : Option NodeId) → In (nodes_of d s.epoch) v → handling d h x ≡ Some (handled_as s.epoch v o s.label) → (Handled d h s.epoch v s.label → ⊥) →
    sending_left d (handlings d (x ∷ h)) s < sending_left d (handlings d h) s
unfolding sending_left
sending-lt d h x s v o i k new =
    filter-lt (λ (v : NodeId). not (was_handled (handlings d (x ∷ h)) s.epoch s.label v)) (λ (v : NodeId). not (was_handled (handlings d h) s.epoch s.label v)) (nodes_of d s.epoch) v
    (λ v k. not_more (was_handled (handlings d h) s.epoch s.label v) (was_handled (handlings d (x ∷ h)) s.epoch s.label v) (handled-grows d h x s.epoch s.label v) k)
    i (not_from_true (was_handled (handlings d (x ∷ h)) s.epoch s.label v) (handled-now d h x s.epoch s.label v o k)) (on (was_handled (handlings d h) s.epoch s.label v) (λ m. new (was-handled d h s.epoch s.label v m)))

sendings_all-le : (d : Deployed) (h : List Entry) (x : Entry) → sending_entry d h x ≡ None → sendings_all d (x ∷ h) ≤ sendings_all d h
sendings_all-le d h x e =
    let a : total (sending_left d (handlings d (x ∷ h))) (sendings d (x ∷ h)) ≡ total (sending_left d (handlings d (x ∷ h))) (sendings d h) = ap (λ (ss : List Handling). total (sending_left d (handlings d (x ∷ h))) ss) (sendings-same d h x e) in
    let b : total (sending_left d (handlings d (x ∷ h))) (sendings d h) ≤ total (sending_left d (handlings d h)) (sendings d h) = total-le (sending_left d (handlings d (x ∷ h))) (sending_left d (handlings d h)) (sendings d h) (λ s i. sending-le d h x s) in
    omega arith

gives-sending : (d : Deployed) (h : List Entry) (e : ℕ) (u : NodeId) (l : Label) → HandledFrom d h e u None l → Gives (sending_entry d) h (handled_as e u None l)
unfolding Gives HandledFrom
gives-sending d [] e u l k = k
gives-sending d (x ∷ h) e u l (inl k) = inl (gives-sending d h e u l k)
gives-sending d (x ∷ h) e u l (inr k) = inr (ap (λ (o : Option Handling). pick_sending o) k)

pub in-sendings : (d : Deployed) (h : List Entry) (e : ℕ) (u : NodeId) (l : Label) → HandledFrom d h e u None l → In (sendings d h) (handled_as e u None l)
unfolding sendings
in-sendings d h e u l k = gives-listed (sending_entry d) h (handled_as e u None l) (gives-sending d h e u l k)

-- a label that was passed on is left at one node fewer
passed-lt : (d : Deployed) (h : List Entry) (x : Entry) (e : ℕ) (u v : NodeId) (l : Label) → IsValid d → HasTrees d → IsRun d (x ∷ h) → handling d h x ≡ Some (handled_as e v (Some u) l) → In (nodes_of d e) v →
    sendings_all d (x ∷ h) < sendings_all d h
unfolding HandledOnce HandledFrom
passed-lt d h x e u v l valid trees run k i =
    let run' : IsRun d h = before_of d h x run in
    let none : sending_entry d h x ≡ None = ap (λ (o : Option Handling). pick_sending o) k in
    let once : HandledOnce d (x ∷ h) = handled-once d (x ∷ h) valid trees run in
    let p : (t : TreeShape) × (tree_of d e ≡ Some t) × (is_edge t u v ≡ true) × (link_front d h e t u v ≡ Some l) = passing d h x (handled_as e v (Some u) l) u (view-of d h x (handled_as e v (Some u) l) run k) refl in
    let g : (slice_get (entered d h e p.0 u v) (taken d h e u v) ≡ Some l) × (is_edge p.0 u v ≡ true) = taking d h x e p.0 u v l run p.1 k in
    let q : (o : Option NodeId) × HandledFrom d h e u o l × (came_from (handled_as e u o l) v ≡ false) × (goes_beyond d p.0 u v l ≡ true) = entered-in d h e p.0 u v l (In-get (entered d h e p.0 u v) (taken d h e u v) l g.0) in
    let s : SentIn h l.point.site e l = handled-sent-in d h e u q.0 l run' q.1 in
    let m : In (sendings d h) (handled_as e (Site l.point.site) None l) = in-sendings d h e (Site l.point.site) l (sent-handled d h l.point.site e l run' s) in
    let lt : sending_left d (handlings d (x ∷ h)) (handled_as e (Site l.point.site) None l) < sending_left d (handlings d h) (handled_as e (Site l.point.site) None l) =
    sending-lt d h x (handled_as e (Site l.point.site) None l) v (Some u) i k (λ y. once.1 e v (Some u) l k y) in
    let a : total (sending_left d (handlings d (x ∷ h))) (sendings d (x ∷ h)) ≡ total (sending_left d (handlings d (x ∷ h))) (sendings d h) = ap (λ (ss : List Handling). total (sending_left d (handlings d (x ∷ h))) ss) (sendings-same d h x none) in
    let b : total (sending_left d (handlings d (x ∷ h))) (sendings d h) < total (sending_left d (handlings d h)) (sendings d h) =
    total-lt (sending_left d (handlings d (x ∷ h))) (sending_left d (handlings d h)) (sendings d h) (handled_as e (Site l.point.site) None l) (λ s i. sending-le d h x s) m lt in
    omega arith

-- ---- views

abbrev pub epochs_all : Deployed → List Entry → ℕ
epochs_all d h = total (epochs_left d h) (below d.sites)

epochs-le : (d : Deployed) (h : List Entry) (x : Entry) (j : ℕ) → IsRun d (x ∷ h) → epochs_left d (x ∷ h) j ≤ epochs_left d h j
epochs-le d h x j run = let a : view h j ≤ view (x ∷ h) j = view-rises d h x j run in omega arith

epochs_all-le : (d : Deployed) (h : List Entry) (x : Entry) → IsRun d (x ∷ h) → epochs_all d (x ∷ h) ≤ epochs_all d h
epochs_all-le d h x run = total-le (epochs_left d (x ∷ h)) (epochs_left d h) (below d.sites) (λ j i. epochs-le d h x j run)

epochs_all-lt : (d : Deployed) (h : List Entry) (x : Entry) (j : ℕ) → IsRun d (x ∷ h) → j < d.sites → view (x ∷ h) j ≡ view h j + 1 → view h j < length d.plans → epochs_all d (x ∷ h) < epochs_all d h
epochs_all-lt d h x j run b e v =
    total-lt (epochs_left d (x ∷ h)) (epochs_left d h) (below d.sites) j (λ j i. epochs-le d h x j run) (In-below d.sites j b) (let lt : length d.plans - view (x ∷ h) j < length d.plans - view h j = omega arith in lt)

add-most : (b : Bool) (n m p : ℕ) → n ≤ p → (b ≡ true → n ≡ p → ⊥) → m ≡ add_if b n → m ≤ p
add-most true n m p l f e = let ne : n ≡ p → ⊥ = f refl in grind arith
add-most false n m p l f e = omega arith

emission-step : (d : Deployed) (h : List Entry) (j : ℕ) (a : Act) (r : Answer) (n : Bool) → Step d h a r → emission h j ≤ length d.plans → emission (entry a r n ∷ h) j ≤ length d.plans
unfolding emission
emission-step d h j a r n (closed {i = k} p q) old =
    add-most (k == j) (emission h j) (emission (entry a r n ∷ h) j) (length d.plans) old
    (λ b e. eqb-false (emission h k) (length d.plans) p (ap (λ (i : ℕ). emission h i) (eqb-true k j b) ∙ e)) (count-if (k == j) (listed (closed_epoch_of_entry j) h) (emission h k))
emission-step d h j a r n _ old = subst (λ (m : ℕ). m ≤ length d.plans) (sym (count-none (listed (closed_epoch_of_entry j) h))) old

emission-start : (d : Deployed) (j : ℕ) → 0 < length d.plans → emission [] j ≤ length d.plans
unfolding emission
emission-start d j some = omega arith

-- the emission epoch is at most the last
pub emission-most : (d : Deployed) (h : List Entry) (j : ℕ) → 0 < length d.plans → IsRun d h → emission h j ≤ length d.plans
emission-most d [] j some run = emission-start d j some
emission-most d (x ∷ h) j some run = emission-step d h j x.act x.answer x.inner (step_of d h x run) (emission-most d h j some (before_of d h x run))

-- ---- what is left

pub left-is : (d : Deployed) (h : List Entry) → left d h ≡ (payloads_all d h + sendings_all d h) + epochs_all d h
unfolding left
left-is d h = refl

fall : (d : Deployed) (h : List Entry) (x : Entry) → payloads_all d (x ∷ h) ≤ payloads_all d h → sendings_all d (x ∷ h) ≤ sendings_all d h → epochs_all d (x ∷ h) ≤ epochs_all d h →
    (payloads_all d (x ∷ h) < payloads_all d h) ⊎ ((sendings_all d (x ∷ h) < sendings_all d h) ⊎ (epochs_all d (x ∷ h) < epochs_all d h)) → left d (x ∷ h) < left d h
fall d h x a b c w =
    let p : left d (x ∷ h) ≡ (payloads_all d (x ∷ h) + sendings_all d (x ∷ h)) + epochs_all d (x ∷ h) = left-is d (x ∷ h) in
    let q : left d h ≡ (payloads_all d h + sendings_all d h) + epochs_all d h = left-is d h in
    elim w [ inl k ↦ omega arith | inr k ↦ elim k [ inl m ↦ omega arith | inr m ↦ omega arith ] ]

pub In-map : {X Y : Type 0} (f : X → Y) (xs : List X) (x : X) → In xs x → In (map f xs) (f x)
In-map f [] x i = absurd i
In-map f (y ∷ xs) x (inl e) = inl (ap f e)
In-map f (y ∷ xs) x (inr i) = inr (In-map f xs x i)

pub site-node : (d : Deployed) (e j : ℕ) (t : TreeShape) → tree_of d e ≡ Some t → j < d.sites → In (nodes_of d e) (Site j)
unfolding nodes_of
site-node d e j t k b = go (tree_of d e) k
  where
    go : (o : Option TreeShape) → o ≡ Some t → In (elim o [ None ↦ [] | Some t ↦ map Site (below d.sites) ++ map Serializer (below (length t.parents)) ]) (Site j)
    go None e = absurd (cc)
    go (Some y) e = In-left (map Site (below d.sites)) (map Serializer (below (length y.parents))) (Site j) (In-map Site (below d.sites) j (In-below d.sites j b))

serializer-node : (d : Deployed) (e z : ℕ) (t : TreeShape) → tree_of d e ≡ Some t → z < length t.parents → In (nodes_of d e) (Serializer z)
unfolding nodes_of
serializer-node d e z t k b = go (tree_of d e) k
  where
    go : (o : Option TreeShape) → o ≡ Some t → In (elim o [ None ↦ [] | Some t ↦ map Site (below d.sites) ++ map Serializer (below (length t.parents)) ]) (Serializer z)
    go None e = absurd (cc)
    go (Some y) e =
        let s : y ≡ t = some_is y t e in
        In-right (map Site (below d.sites)) (map Serializer (below (length y.parents))) (Serializer z) (In-map Serializer (below (length y.parents)) z (In-below (length y.parents) z (subst (λ (t : TreeShape). z < length t.parents) (sym s) b)))

turned-as : (d : Deployed) (h : List Entry) (j : ℕ) (r : Answer) (n : Bool) (l : Label) (z : NodeId) → seat_in d (view h j) j ≡ Some z → handling d h (entry (act.Turn j) r n) ≡ Some (handled_as (view h j) (Site j) (seat_in d (view h j) j) l) →
    handling d h (entry (act.Turn j) r n) ≡ Some (handled_as (view h j) (Site j) (Some z) l)
turned-as d h j r n l z s k = k ∙ ap (λ (o : Option NodeId). Some (handled_as (view h j) (Site j) o l)) s

-- each act of a round that is done lowers what is left
pub left-falls : (d : Deployed) (h : List Entry) (a : Act) (r : Answer) (n : Bool) → IsValid d → HasTrees d → 0 < length d.plans → IsRun d (entry a r n ∷ h) → Step d h a r → is_round_act a ≡ true → is_done r ≡ true → left d (entry a r n ∷ h) < left d h
unfolding handling
left-falls d h a r n valid trees some run (brought_now {i = i} {g = g} {j = j} {o = o} {l = l} p w q) ra dn =
    let x : Entry = entry (act.Bulk i g j o) (ans.Brought l) n in
    let lt : payloads_all d (x ∷ h) < payloads_all d h = bring-lt d h x j l refl (range_of d h x run).2 (in-lane d h i g j l (In-get (lane d h i g j) p l w)) q (some_if (j == j) l (same-number j)) in
    fall d h x (omega arith) (sendings_all-le d h x refl) (epochs_all-le d h x run) (inl lt)
left-falls d h a r n valid trees some run (hopped {e = e} {z = z} {u = u} {t = t} {l = l} {to = to} k w) ra dn =
    let x : Entry = entry (act.Hop e u z) (ans.Hopped l to) n in
    let g : (s : TreeShape) × (tree_of d e ≡ Some s) × (is_edge s u (Serializer z) ≡ true) = range_of d h x run in
    let lt : sendings_all d (x ∷ h) < sendings_all d h = passed-lt d h x e u (Serializer z) l valid trees run refl (serializer-node d e z g.0 g.1 (edge-end g.0 (trees e g.0 g.1) u z g.2)) in
    fall d h x (payloads_all-le d h x refl) (omega arith) (epochs_all-le d h x run) (inr (inl lt))
left-falls d h a r n valid trees some run (showed_turn {j = j} {t = t} {z = z} {l = l} m k s w p q) ra dn =
    let x : Entry = entry (act.Turn j) (ans.Shown l) n in
    let lt : sendings_all d (x ∷ h) < sendings_all d h = passed-lt d h x (view h j) z (Site j) l valid trees run (turned-as d h j (ans.Shown l) n l z s refl) (site-node d (view h j) j t k (range_of d h x run)) in
    fall d h x (payloads_all-le d h x refl) (omega arith) (epochs_all-le d h x run) (inr (inl lt))
left-falls d h a r n valid trees some run (took {j = j} {t = t} {z = z} {l = l} m k s w p) ra dn =
    let x : Entry = entry (act.Turn j) (ans.Took l) n in
    let lt : sendings_all d (x ∷ h) < sendings_all d h = passed-lt d h x (view h j) z (Site j) l valid trees run (turned-as d h j (ans.Took l) n l z s refl) (site-node d (view h j) j t k (range_of d h x run)) in
    fall d h x (payloads_all-le d h x refl) (omega arith) (epochs_all-le d h x run) (inr (inl lt))
left-falls d h a r n valid trees some run (showed_stamp {j = j} {l = l} m q) ra dn =
    let x : Entry = entry (act.Stamp j) (ans.Shown l) n in
    let lt : payloads_all d (x ∷ h) < payloads_all d h = show-lt d h x j l (before_of d h x run) refl (range_of d h x run) (candidate-least d h j l (next-stamp-waits d h j l q).0).member (some_if (j == j) l (same-number j)) in
    fall d h x (omega arith) (sendings_all-le d h x refl) (epochs_all-le d h x run) (inl lt)
left-falls d h a r n valid trees some run (advanced {j = j} c m) ra dn =
    let x : Entry = entry (act.Advance j) (ans.View (view h j + 1)) n in
    let lt : epochs_all d (x ∷ h) < epochs_all d h = advance-lt d h j n some run (eqb-false (emission h j) (view h j) c) in
    fall d h x (payloads_all-le d h x refl) (sendings_all-le d h x refl) (omega arith) (inr (inr lt))
  where
    advance-lt : (d : Deployed) (h : List Entry) (j : ℕ) (n : Bool) → 0 < length d.plans → IsRun d (entry (act.Advance j) (ans.View (view h j + 1)) n ∷ h) → (emission h j ≡ view h j → ⊥) →
        epochs_all d (entry (act.Advance j) (ans.View (view h j + 1)) n ∷ h) < epochs_all d h
    advance-lt d h j n some run ne =
        let x : Entry = entry (act.Advance j) (ans.View (view h j + 1)) n in
        let w : IsAbreast h j = abreast d h j (before_of d h x run) in
        let lo : view h j ≤ emission h j = w.low in
        let hi : emission h j ≤ length d.plans = emission-most d h j some (before_of d h x run) in
        let b : view h j < length d.plans = grind arith in
        epochs_all-lt d h x j run (range_of d h x run) (advance-view h j j (view h j + 1) n (same-number j)) b
left-falls d h a r n valid trees some run (wrote {w = w} z p q b) ra dn = absurd (by-write (λ (a : Act). is_round_act a ≡ true → ⊥) a w z (λ c x v e. cc) (λ c items values e. cc) ra)
left-falls d h a r n valid trees some run _ ra dn = absurd (cc)
