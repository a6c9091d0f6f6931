-- What a site's last points tell: what it took, and what was closed.
use Rattle.std.specs.Prelude.{◌≡◌, ◌⊎◌, ◌<◌, ◌≤◌, ℕ, ◌+◌, Bool, true, false, ◌&&◌, List, [], ◌∷◌, Option, Some, None, refl, ◌==◌, if◌then◌else◌}
use Rattle.std.proofs.Common.{sym, subst, arith, inl, inr, ap, ◌∙◌}
use Rattle.std.proofs.lemmas.Bool.{and_parts, eqb-true}
use Rattle.sat_label.specs.declared.point.Point.{Point}
use Rattle.sat_label.specs.declared.label.Label.{Label}
use Rattle.sat_label.specs.declared.node.NodeId.{NodeId}
use Rattle.sat_label.specs.declared.node.NodeId.TheVariants.{Site}
use Rattle.sat_tree.specs.Shape.{TreeShape}
use Rattle.sat_act.specs.declared.act.Act.{Act}
use Rattle.sat_act.specs.declared.answer.Answer.{Answer}
use Rattle.sat_act.specs.declared.entry.Entry.{Entry}
use Rattle.sat_act.specs.Deployed.{Deployed}
use Rattle.sat_act.specs.Parts.{handling, tree_of, emission}
use Rattle.sat_act.specs.Runs.{IsRun}
use Rattle.sat_act.specs.Goals.{IsValid}
use Rattle.sat_laws.proofs.Steps.{Step}
use Rattle.sat_laws.proofs.Runs.{step_of, before_of, entry}
use Rattle.sat_laws.proofs.Gears.{split_le}
use Rattle.sat_laws.proofs.Cuts.{sent-site}
use Rattle.sat_laws.proofs.Handlings.{handled_as}
use Rattle.sat_laws.proofs.Sendings.{sent-once, picked_if}
use Rattle.sat_act.specs.Parts.{cut}
use Rattle.sat_label.specs.Order.{point_at}
use Rattle.sat_laws.proofs.Steps.{closed}
use Rattle.sat_laws.proofs.Links.{AllCuttable, HandledFrom, SentIn, Behind, Ahead}
use Rattle.sat_act.specs.declared.act.Act.TheVariants as act
use Rattle.sat_act.specs.declared.answer.Answer.TheVariants as ans
use Rattle.sat_act.specs.Parts.{view}
use Rattle.sat_laws.proofs.Steps.{showed_turn, took}
use Rattle.sat_laws.proofs.Order.{sent-in, InOrder}
use Rattle.sat_label.specs.Order.{point_le, point_lt}
use Rattle.sat_act.specs.Parts.{close_cut, close_cut_of_entry, known_by}
use Rattle.sat_act.specs.Goals.{Made}
use Rattle.sat_laws.proofs.Sinks.{Precedes}
use Rattle.sat_laws.proofs.Cuts.{sent-order}
use Rattle.sat_laws.proofs.Sendings.{picked_if}
use Rattle.sat_laws.proofs.Knowledge.{point_le-ts}
use Rattle.sat_laws.proofs.Arrivals.{sent-epoch, epoch-bound}
use Rattle.sat_label.specs.Order.{greater_point}
use Rattle.sat_act.specs.Histories.{highest}
use Rattle.sat_act.specs.Parts.{last, last_entry, in_stamp_mode}
use Rattle.sat_laws.proofs.Steps.{advanced}
use Rattle.sat_laws.proofs.Views.{view-rises, advance-view}
use Rattle.sat_laws.proofs.Arrivals.{handled-sent-in, self-ahead}
use Rattle.sat_laws.proofs.Order.{behind-first}
use Rattle.sat_laws.proofs.Labels.{made-positive}
use Rattle.sat_laws.proofs.Cuts.{precedes-later}
use Rattle.sat_laws.proofs.Origins.{closed-below, closing, cut-epoch}

-- j took a label of i that makes the point q known
pub record TookUp (d : Deployed) (h : List Entry) (j i : ℕ) (q : Point) : Type 0 where
  pub epoch : ℕ
  pub tree : TreeShape
  pub from : NodeId
  pub label : Label
  pub seen : epoch ≤ view h j
  pub is_tree : tree_of d epoch ≡ Some tree
  pub handled : HandledFrom d h epoch (Site j) (Some from) label
  pub site : label.point.site ≡ i
  pub point : known_by label ≡ q

-- or passed an epoch that i closed at q
pub record PassedUp (h : List Entry) (j i : ℕ) (q : Point) : Type 0 where
  pub epoch : ℕ
  pub passed : epoch < view h j
  pub close : close_cut h i epoch ≡ Some q

pub data LastSource (d : Deployed) (h : List Entry) (j i : ℕ) (q : Point) : Type 0 where
  took_up : TookUp d h j i q → LastSource d h j i q
  passed_up : PassedUp h j i q → LastSource d h j i q

still-closed : (h : List Entry) (x : Entry) (i e : ℕ) (p : Point) → close_cut_of_entry i e h x ≡ None → close_cut h i e ≡ Some p → close_cut (x ∷ h) i e ≡ Some p
unfolding close_cut
still-closed h x i e p w m = subst (λ (o : Option (Option Point)). elim o [ None ↦ close_cut h i e | Some y ↦ y ] ≡ Some p) (sym w) m

no-none-close : (d : Deployed) (h : List Entry) (i e : ℕ) (a : Act) (r : Answer) (n : Bool) → Step d h a r → close_cut_of_entry i e h (entry a r n) ≡ Some None → ⊥
no-none-close d h i e a r n (closed {i = k} q w) m = let z : Some (cut d h k) ≡ None = (picked_if ((k == i) && (emission h k == e)) (Some (cut d h k)) None m).1 in cc
no-none-close d h i e a r n _ m = cc

pub cut-keeps : (d : Deployed) (h : List Entry) (x : Entry) (i e : ℕ) (p : Point) → IsRun d (x ∷ h) → close_cut h i e ≡ Some p → close_cut (x ∷ h) i e ≡ Some p
unfolding close_cut
cut-keeps d h x i e p run m = go (close_cut_of_entry i e h x) refl
  where
    go : (o : Option (Option Point)) → close_cut_of_entry i e h x ≡ o → elim (close_cut_of_entry i e h x) [ None ↦ close_cut h i e | Some y ↦ y ] ≡ Some p
    go o w = subst (λ (o : Option (Option Point)). elim o [ None ↦ close_cut h i e | Some y ↦ y ] ≡ Some p) (sym w) (pick o w)
      where
        pick : (o : Option (Option Point)) → close_cut_of_entry i e h x ≡ o → elim o [ None ↦ close_cut h i e | Some y ↦ y ] ≡ Some p
        pick None w = m
        pick (Some None) w = absurd (no-none-close d h i e x.act x.answer x.inner (step_of d h x run) w)
        pick (Some (Some q)) w = absurd (let z : e ≡ emission h i = (closing d h i e q x.act x.answer x.inner (step_of d h x run) w).0 in let y : e < emission h i = closed-below d h i e p (before_of d h x run) m in omega arith)

source-later : (d : Deployed) (h : List Entry) (x : Entry) (j i : ℕ) (q : Point) → IsRun d (x ∷ h) → LastSource d h j i q → LastSource d (x ∷ h) j i q
unfolding HandledFrom
source-later d h x j i q run (took_up t) =
    let a : t.epoch ≤ view h j = t.seen in
    let b : view h j ≤ view (x ∷ h) j = view-rises d h x j run in
    took_up (record { epoch = t.epoch; tree = t.tree; from = t.from; label = t.label; seen = omega arith; is_tree = t.is_tree; handled = inl t.handled; site = t.site; point = t.point })
source-later d h x j i q run (passed_up t) =
    let a : t.epoch < view h j = t.passed in
    let b : view h j ≤ view (x ∷ h) j = view-rises d h x j run in
    passed_up (record { epoch = t.epoch; passed = omega arith; close = cut-keeps d h x i t.epoch q run t.close })

turned-up : (d : Deployed) (h : List Entry) (k j i : ℕ) (q : Point) (z : NodeId) (t : TreeShape) (l : Label) → {x : Entry} → k ≡ j → view h j ≤ view (x ∷ h) j → tree_of d (view h k) ≡ Some t → l.point.site ≡ i → known_by l ≡ q →
    HandledFrom d (x ∷ h) (view h k) (Site k) (Some z) l → TookUp d (x ∷ h) j i q
turned-up d h k j i q z t l {x} same up tree site point m =
    record {
      epoch = view h j;
      tree = t;
      from = z;
      label = l;
      seen = up;
      is_tree = subst (λ (y : ℕ). tree_of d (view h y) ≡ Some t) same tree;
      handled = subst (λ (y : ℕ). HandledFrom d (x ∷ h) (view h y) (Site y) (Some z) l) same m;
      site = site;
      point = point;
    }

passed-now : (d : Deployed) (h : List Entry) (k j i : ℕ) (q : Point) (n : Bool) → (b : Bool) →
    (if (k == j) && b then close_cut h i (view h j) else None) ≡ Some q → LastSource d (entry (act.Advance k) (ans.View (view h k + 1)) n ∷ h) j i q
passed-now d h k j i q n b e = go (k == j) refl b e
  where
    go : (c : Bool) → (k == j) ≡ c → (b : Bool) → (if c && b then close_cut h i (view h j) else None) ≡ Some q → LastSource d (entry (act.Advance k) (ans.View (view h k + 1)) n ∷ h) j i q
    go true w true e =
        let a : view (entry (act.Advance k) (ans.View (view h k + 1)) n ∷ h) j ≡ view h j + 1 = advance-view h k j (view h k + 1) n w in
        passed_up (record { epoch = view h j; passed = omega arith; close = still-closed h (entry (act.Advance k) (ans.View (view h k + 1)) n) i (view h j) q refl e })
    go true w false e = absurd (cc)
    go false w b e = absurd (cc)

-- what the last entry adds
source-now : (d : Deployed) (h : List Entry) (j i : ℕ) (q : Point) (a : Act) (r : Answer) (n : Bool) → Step d h a r → view h j ≤ view (entry a r n ∷ h) j → last_entry d j i h (entry a r n) ≡ Some q → LastSource d (entry a r n ∷ h) j i q
unfolding HandledFrom handling
source-now d h j i q a r n (showed_turn {j = k} {t = t} {z = z} {l = l} m p s w u c) up e =
    let y : (((k == j) && (l.point.site == i)) ≡ true) × (known_by l ≡ q) = picked_if ((k == j) && (l.point.site == i)) (known_by l) q e in
    let b : ((k == j) ≡ true) × ((l.point.site == i) ≡ true) = and_parts (k == j) (l.point.site == i) y.0 in
    took_up (turned-up d h k j i q z t l (eqb-true k j b.0) up p (eqb-true l.point.site i b.1) y.1 (inr (ap (λ (o : Option NodeId). Some (handled_as (view h k) (Site k) o l)) s)))
source-now d h j i q a r n (took {j = k} {t = t} {z = z} {l = l} m p s w u) up e =
    let y : (((k == j) && (l.point.site == i)) ≡ true) × (known_by l ≡ q) = picked_if ((k == j) && (l.point.site == i)) (known_by l) q e in
    let b : ((k == j) ≡ true) × ((l.point.site == i) ≡ true) = and_parts (k == j) (l.point.site == i) y.0 in
    took_up (turned-up d h k j i q z t l (eqb-true k j b.0) up p (eqb-true l.point.site i b.1) y.1 (inr (ap (λ (o : Option NodeId). Some (handled_as (view h k) (Site k) o l)) s)))
source-now d h j i q a r n (advanced {j = k} p w) up e = passed-now d h k j i q n (in_stamp_mode d h j) e
source-now d h j i q a r n _ up e = absurd (cc)

-- what is known at j of i's points
greater_pick : (p q : Point) → (greater_point p q ≡ p) ⊎ (greater_point p q ≡ q)
greater_pick p q = go (point_lt p q)
  where
    go : (b : Bool) → ((if b then q else p) ≡ p) ⊎ ((if b then q else p) ≡ q)
    go true = inr refl
    go false = inl refl

option_pick : (o : Option Point) (p : Point) → (elim o [ None ↦ p | Some q ↦ greater_point q p ] ≡ p) ⊎ ((q : Point) × (o ≡ Some q) × (elim o [ None ↦ p | Some q ↦ greater_point q p ] ≡ q))
option_pick None p = inl refl
option_pick (Some q) p = elim (greater_pick q p) [ inl e ↦ inr (q, refl, e) | inr e ↦ inl e ]

last-pick : (d : Deployed) (h : List Entry) (x : Entry) (j i : ℕ) → (last d (x ∷ h) j i ≡ last d h j i) ⊎ ((q : Point) × (last_entry d j i h x ≡ Some q) × (last d (x ∷ h) j i ≡ q))
unfolding last highest
last-pick d h x j i = option_pick (last_entry d j i h x) (highest (last_entry d j i) (point_at 0 i 0) h)

last-start : (d : Deployed) (j i : ℕ) → last d [] j i ≡ point_at 0 i 0
unfolding last
last-start d j i = refl

pub last-source : (d : Deployed) (h : List Entry) (j i : ℕ) → IsRun d h → (last d h j i ≡ point_at 0 i 0) ⊎ LastSource d h j i (last d h j i)
last-source d [] j i run = inl (last-start d j i)
last-source d (x ∷ h) j i run =
    elim (last-pick d h x j i) [
      | inl e ↦ elim (last-source d h j i (before_of d h x run)) [
        | inl k ↦ inl (e ∙ k)
        | inr k ↦ inr (subst (LastSource d (x ∷ h) j i) (sym e) (source-later d h x j i (last d h j i) run k))
      ]
      | inr w ↦ inr (subst (LastSource d (x ∷ h) j i) (sym w.2) (source-now d h j i w.0 x.act x.answer x.inner (step_of d h x run) (view-rises d h x j run) w.1))
    ]

-- ---- what a site's last point reaches

precedes-behind : (d : Deployed) (h : List Entry) (i e : ℕ) (a l : Label) → IsValid d → IsRun d h → Precedes h i a l → SentIn h i e l → ((f : ℕ) × (f < e) × SentIn h i f a) ⊎ Behind h e a l
unfolding Precedes SentIn Behind
precedes-behind d [] i e a l v run p s = absurd s
precedes-behind d (x ∷ h) i e a l v run (inl p) (inl s) = elim (precedes-behind d h i e a l v (before_of d h x run) p s) [ inl w ↦ inl (w.0, w.1, inl w.2) | inr w ↦ inr (inl w) ]
precedes-behind d (x ∷ h) i e a l v run (inl p) (inr s) = absurd (sent-once d h x i l v run s.0 (precedes-later h i a l p))
precedes-behind d (x ∷ h) i e a l v run (inr p) (inl s) = absurd (sent-once d h x i l v run p.0 (sent-in h i e l s))
precedes-behind d (x ∷ h) i e a l v run (inr p) (inr s) =
    let f : (f : ℕ) × SentIn h i f a = sent-epoch h i a p.1 in
    let g : f.0 ≤ emission h i = epoch-bound h i f.0 a f.1 in
    let m : emission h i ≡ e = s.1 in
    let t : a.point.site ≡ i = sent-site d h i a (before_of d h x run) p.1 in
    elim (split_le f.0 e (omega arith)) [
      | inl same ↦ inr (inr (i, s.0, s.1, subst (λ (k : ℕ). SentIn h k e a) (sym t) (subst (λ (k : ℕ). SentIn h i k a) same f.1), inr t))
      | inr lt ↦ inl (f.0, lt, inl f.1)
    ]

-- a label is known at j to have an epoch that j passed, or to be ahead of j in its view's tree
pub data Reached (d : Deployed) (h : List Entry) (j : ℕ) (a : Label) : Type 0 where
  long_ago : (e : ℕ) → e < view h j → SentIn h a.point.site e a → Reached d h j a
  just_now : (t : TreeShape) → tree_of d (view h j) ≡ Some t → SentIn h a.point.site (view h j) a → Ahead d h (view h j) t a (Site j) → Reached d h j a

module _ (d : Deployed) (h : List Entry) (j : ℕ) (a : Label) (v : IsValid d) (cuts : AllCuttable d) (run : IsRun d h) (inv : InOrder d h) where
  reach-epoch : (e : ℕ) (t : TreeShape) → e ≤ view h j → tree_of d e ≡ Some t → SentIn h a.point.site e a → Ahead d h e t a (Site j) → Reached d h j a
  reach-epoch e t le k s ah =
      elim (split_le e (view h j) le) [
        | inl same ↦ just_now t (subst (λ (f : ℕ). tree_of d f ≡ Some t) same k) (subst (λ (f : ℕ). SentIn h a.point.site f a) same s) (subst (λ (f : ℕ). Ahead d h f t a (Site j)) same ah)
        | inr lt ↦ long_ago e lt s
      ]

  reach-took : (q : Point) → a.point.site < d.sites → Made h a → point_le a.point q ≡ true → TookUp d h j a.point.site q → Reached d h j a
  reach-took q b m le t =
      let s : SentIn h t.label.point.site t.epoch t.label = handled-sent-in d h t.epoch (Site j) (Some t.from) t.label run t.handled in
      let s' : SentIn h a.point.site t.epoch t.label = subst (λ (i : ℕ). SentIn h i t.epoch t.label) t.site s in
      let le' : point_le a.point (known_by t.label) ≡ true = subst (λ (p : Point). point_le a.point p ≡ true) (sym t.point) le in
      go s' (sent-order d h a.point.site b v run t.label a (sent-in h a.point.site t.epoch t.label s') m refl le')
    where
      go : SentIn h a.point.site t.epoch t.label → (a ≡ t.label) ⊎ Precedes h a.point.site a t.label → Reached d h j a
      go s (inl same) = reach-epoch t.epoch t.tree t.seen t.is_tree (subst (λ (l : Label). SentIn h a.point.site t.epoch l) (sym same) s) (subst (λ (l : Label). Ahead d h t.epoch t.tree l (Site j)) (sym same) (self-ahead d h t.epoch t.tree (Site j) (Some t.from) t.label cuts run t.is_tree t.handled))
      go s (inr p) =
          elim (precedes-behind d h a.point.site t.epoch a t.label v run p s) [
            | inl w ↦ let x : w.0 < t.epoch = w.1 in let y : t.epoch ≤ view h j = t.seen in long_ago w.0 (omega arith) w.2
            | inr w ↦ reach-epoch t.epoch t.tree t.seen t.is_tree (behind-first h t.epoch a t.label w) (inv.ahead t.epoch t.tree (Site j) t.label a t.is_tree (Some t.from, t.handled) w)
          ]

  -- a made label at or below what j knows of its site is reached
  pub reached : a.point.site < d.sites → Made h a → point_le a.point (last d h j a.point.site) ≡ true → Reached d h j a
  reached b m le =
      elim (last-source d h j a.point.site run) [
        | inl e ↦ absurd (let x : a.point.ts ≤ 0 = point_le-ts a.point (point_at 0 a.point.site 0) (subst (λ (p : Point). point_le a.point p ≡ true) e le) in let y : 1 ≤ a.point.ts = made-positive d h a v run m in omega arith)
        | inr s ↦ source s
      ]
    where
      source : LastSource d h j a.point.site (last d h j a.point.site) → Reached d h j a
      source (took_up t) = reach-took (last d h j a.point.site) b m le t
      source (passed_up t) =
          let f : (f : ℕ) × (f ≤ t.epoch) × SentIn h a.point.site f a = cut-epoch d h a.point.site t.epoch (last d h j a.point.site) a b v run t.close m refl le in
          let x : f.0 ≤ t.epoch = f.1 in
          let y : t.epoch < view h j = t.passed in
          long_ago f.0 (omega arith) f.2
