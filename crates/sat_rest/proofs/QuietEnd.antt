-- After a settle nothing is under way.
use Rattle.std.specs.Prelude.{◌≡◌, ◌⊎◌, ◌<◌, ◌≤◌, ℕ, zero, suc, ◌+◌, Bool, true, false, ◌&&◌, not, ◌==◌, List, [], ◌∷◌, Option, Some, None, refl, length, slice_get, if◌then◌else◌}
use Rattle.std.proofs.Common.{sym, subst, arith, inl, inr, ap, ◌∙◌}
use Rattle.std.proofs.lemmas.Bool.Decides.{nat_tests}
use Rattle.std.proofs.lemmas.Bool.{cases_eq, and_parts}
use Rattle.sat_label.specs.declared.label.Kind.{Kind}
use Rattle.sat_label.specs.declared.label.Kind.TheVariants as kind
use Rattle.sat_label.specs.declared.label.Label.{Label}
use Rattle.sat_label.specs.declared.node.NodeId.{NodeId}
use Rattle.sat_label.specs.declared.node.NodeId.TheVariants.{Site, Serializer}
use Rattle.sat_label.specs.Order.{label_eq, node_eq}
use Rattle.sat_label.specs.Grouped.{list_of}
use Rattle.sat_label.specs.Words.{below}
use Rattle.sat_tree.specs.Shape.{TreeShape}
use Rattle.sat_tree.specs.Cut.{is_edge, beyond}
use Rattle.sat_act.specs.declared.entry.Entry.{Entry}
use Rattle.sat_act.specs.Deployed.{Deployed}
use Rattle.sat_act.specs.Parts.{keeps_some, is_target, tree_of, emission, view, in_stamp_mode, goes_beyond, entered, taken, came_from, waiting, all_others}
use Rattle.sat_act.specs.Answers.{may_advance, took_close}
use Rattle.sat_laws.proofs.Origins.{close-behind}
use Rattle.sat_act.specs.Runs.{IsRun}
use Rattle.sat_act.specs.Goals.{Shows, IsKeptAt}
use Rattle.sat_rest.specs.Ends.{IsWithin, IsQuiet}
use Rattle.sat_rest.specs.Rest.{CanEnd, IsPlace, LinkWhole, LeftByStamps}
use Rattle.sat_laws.proofs.Runs.{before_of}
use Rattle.sat_laws.proofs.Labels.{made-placed}
use Rattle.sat_laws.proofs.Sinks.{Sent}
use Rattle.sat_laws.proofs.Views.{Turning, turning-of, stays, closes, falls, advances}
use Rattle.sat_laws.proofs.Closes.{TookClose, took-close, took-later, close-epoch}
use Rattle.sat_laws.proofs.Handlings.{handled_as}
use Rattle.sat_label.proofs.SameNodes.{same-node, node-self}
use Rattle.sat_tree.specs.Laws.{IsCuttable}
use Rattle.sat_laws.proofs.Links.{HandledFrom, Handled, SentIn, Behind, Ahead, get-below, entered-in, into-entered, taken-below, taken-handled, own-site, came-from-side, In-place}
use Rattle.sat_laws.proofs.Order.{sent-in, sent-handled, goes-on}
use Rattle.sat_laws.proofs.Arrivals.{handled-sent-in, site_is, self-ahead, arrives-shown, goes-to, sent-epoch, epoch-bound}
use Rattle.sat_laws.proofs.Safety.{others-pass}
use Rattle.sat_laws.proofs.Shows.{IsFor, Brings, brings-for, for-kept, waits}
use Rattle.sat_laws.proofs.Stamps.{stamp-rules, view-positive}
use Rattle.sat_laws.proofs.Mains.{main}
use Rattle.sat_tree.proofs.Trees.{cuttable, other-side, depth, depth-falls}
use Rattle.sat_rest.proofs.HandledOnce.{all-cuttable, handled-once, taken-place, entered-once}
use Rattle.sat_rest.proofs.Totals.{below-In}
use Rattle.sat_rest.proofs.Lefts.{any-In, in-sendings}
use Rattle.sat_rest.proofs.Bounds.{IsSending, sending-is}
use Rattle.sat_rest.proofs.Emptying.{AllSent}
use Rattle.sat_rest.proofs.QuietLinks.{hop-whole, turn-whole}
use Rattle.sat_label.specs.Members.{In}
use Rattle.sat_label.proofs.Members.{In-get}
use Rattle.sat_label.proofs.Orders.{same-label, label_eq-self}

pub none_empty : (xs : List Label) → ((l : Label) → In xs l → ⊥) → xs ≡ []
none_empty [] w = refl
none_empty (x ∷ xs) w = absurd (w x (inl refl))

both_ways : (b : Bool) → b ≡ true → b ≡ false → ⊥
both_ways true e f = cc
both_ways false e f = cc

apart : (u v : NodeId) → node_eq u v ≡ false → u ≡ v → ⊥
apart u v e s = let z : node_eq u v ≡ true = subst (λ (n : NodeId). node_eq u n ≡ true) s (node-self u) in cc

-- ---- a label that was sent is handled all over a tree whose links are whole

module _ (d : Deployed) (h : List Entry) (w : IsWithin d) (run : IsRun d h) (e : ℕ) (t : TreeShape) (k : tree_of d e ≡ Some t) where
  cuts : IsCuttable t
  cuts = cuttable t (w.trees e t k)

  pub sent-range : (l : Label) → SentIn h l.point.site e l → l.point.site < d.sites
  sent-range l s =
      let q : IsSending d h (handled_as e (Site l.point.site) None l) = sending-is d h (handled_as e (Site l.point.site) None l) run (in-sendings d h e (Site l.point.site) l (sent-handled d h l.point.site e l run s)) in
      subst (λ (n : ℕ). n < d.sites) (sym (site_is l.point.site q.site q.node)) q.in_range

  -- the near side of an edge holds the site of what goes over it
  near-side : (u v : NodeId) (o : Option NodeId) (l : Label) → is_edge t u v ≡ true → HandledFrom d h e u o l → came_from (handled_as e u o l) v ≡ false → beyond t u v (Site l.point.site) ≡ false
  near-side u v None l g m f =
      let q : u ≡ Site l.point.site = own-site d h e u l run m in
      subst (λ (n : NodeId). beyond t u v n ≡ false) q (other-side t (w.trees e t k) u v u g ∙ ap (λ (b : Bool). not b) (cuts.far v u (cuts.back u v g)))
  near-side u v (Some y) l g m f =
      let s : (is_edge t y u ≡ true) × (beyond t u y (Site l.point.site) ≡ true) = came-from-side d h e t u y l (all-cuttable d w.trees) run k m in
      let b : beyond t v u (Site l.point.site) ≡ true = cuts.through v u y l.point.site (cuts.back u v g) (cuts.back y u s.0) (apart y v f) s.1 in
      other-side t (w.trees e t k) u v (Site l.point.site) g ∙ ap (λ (b : Bool). not b) b

  module _ (whole : (u v : NodeId) → IsPlace d u → IsPlace d v → is_edge t u v ≡ true → LinkWhole d h e t u v) (l : Label) (sent : SentIn h l.point.site e l) where
    not-back : (p q : NodeId) (o : Option NodeId) → beyond t p q (Site l.point.site) ≡ false → HandledFrom d h e p o l → came_from (handled_as e p o l) q ≡ false
    not-back p q None near m = refl
    not-back p q (Some y) near m = go (node_eq y q) refl
      where
        go : (b : Bool) → node_eq y q ≡ b → node_eq y q ≡ false
        go true s = absurd (both_ways (beyond t p q (Site l.point.site)) (subst (λ (n : NodeId). beyond t p n (Site l.point.site) ≡ true) (same-node y q s) (came-from-side d h e t p y l (all-cuttable d w.trees) run k m).1) near)
        go false s = s

    cross : (p q : NodeId) → IsPlace d p → IsPlace d q → is_edge t p q ≡ true → beyond t p q (Site l.point.site) ≡ false → goes_beyond d t p q l ≡ true → Handled d h e p l → Handled d h e q l
    cross p q pp pq edge near goes m =
        let i : (n : ℕ) × (slice_get (entered d h e t p q) n ≡ Some l) = In-place (entered d h e t p q) l (into-entered d h e t p q m.0 l m.1 (not-back p q m.0 near m.1) goes) in
        let b : i.0 < length (entered d h e t p q) = get-below (entered d h e t p q) i.0 l i.1 in
        let y : taken d h e p q ≡ length (entered d h e t p q) = whole p q pp pq edge in
        taken-handled d h e t p q i.0 l run k i.1 (omega arith)

    place-of : (p q : NodeId) → is_edge t p q ≡ true → beyond t p q (Site l.point.site) ≡ false → (Site l.point.site ≡ p → ⊥) → IsPlace d p
    place-of (Serializer z) q edge near n = tt
    place-of (Site i) q edge near n =
        absurd (both_ways (beyond t q (Site i) (Site l.point.site)) (other-side t (w.trees e t k) q (Site i) (Site l.point.site) (cuts.back (Site i) q edge) ∙ ap (λ (b : Bool). not b) near)
        (cuts.leaf q i l.point.site (cuts.back (Site i) q edge) (λ s. n (ap (λ (m : ℕ). Site m) s))))

    walk-step : (p q : NodeId) → IsPlace d q → is_edge t p q ≡ true → beyond t p q (Site l.point.site) ≡ false → goes_beyond d t p q l ≡ true →
        ((x : NodeId) → (x ≡ q → ⊥) → IsPlace d p → is_edge t x p ≡ true → beyond t x p (Site l.point.site) ≡ false → goes_beyond d t x p l ≡ true → Handled d h e p l) → Handled d h e q l
    walk-step p q pq edge near goes back = go (node_eq (Site l.point.site) p) refl
      where
        go : (b : Bool) → node_eq (Site l.point.site) p ≡ b → Handled d h e q l
        go true s =
            let same : Site l.point.site ≡ p = same-node (Site l.point.site) p s in
            cross p q (subst (IsPlace d) same (sent-range l sent)) pq edge near goes (None, subst (λ (n : NodeId). HandledFrom d h e n None l) same (sent-handled d h l.point.site e l run sent))
        go false s =
            let n : Site l.point.site ≡ p → ⊥ = apart (Site l.point.site) p s in
            let pp : IsPlace d p = place-of p q edge near n in
            let f : (x : NodeId) × (is_edge t x p ≡ true) × (beyond t x p (Site l.point.site) ≡ false) × ((m : ℕ) → beyond t p q (Site m) ≡ true → beyond t x p (Site m) ≡ true) = cuts.first p q l.point.site edge near n in
            cross p q pp pq edge near goes (back f.0 (other_way f.0 f.1 f.2) pp f.1 f.2 (goes-on d t p q f.0 p l f.3 goes))
          where
            other_way : (x : NodeId) → is_edge t x p ≡ true → beyond t x p (Site l.point.site) ≡ false → x ≡ q → ⊥
            other_way x g b s =
                both_ways (beyond t p q (Site l.point.site)) (other-side t (w.trees e t k) p q (Site l.point.site) edge ∙ ap (λ (b : Bool). not b) (subst (λ (y : NodeId). beyond t y p (Site l.point.site) ≡ false) s b)) near

    walk : (n : ℕ) (p q : NodeId) → depth t (w.trees e t k) p q < n → IsPlace d q → is_edge t p q ≡ true → beyond t p q (Site l.point.site) ≡ false → goes_beyond d t p q l ≡ true → Handled d h e q l
    walk zero p q lt pq edge near goes = absurd (omega arith)
    walk (suc n) p q lt pq edge near goes =
        walk-step p q pq edge near goes
        (λ x ne pp edge' near' goes'. walk n x p (let f : depth t (w.trees e t k) x p < depth t (w.trees e t k) p q = depth-falls t (w.trees e t k) x p q edge' edge ne in omega arith) pp edge' near' goes')

    far-place : (p q : NodeId) (j : ℕ) → j < d.sites → is_edge t p q ≡ true → beyond t p q (Site j) ≡ true → IsPlace d q
    far-place p (Serializer z) j b edge far = tt
    far-place p (Site i) j b edge far =
        elim (cases_eq j i) [
          | inl s ↦ subst (λ (n : ℕ). n < d.sites) s b
          | inr n ↦ absurd (both_ways (beyond t p (Site i) (Site j)) far (cuts.leaf p i j edge n))
        ]

    pub whole-ahead : (j : ℕ) → j < d.sites → Ahead d h e t l (Site j)
    unfolding Ahead
    whole-ahead j b p q edge near far goes = walk (suc (depth t (w.trees e t k) p q)) p q (omega arith) (far-place p q j b edge far) edge near goes

-- ---- no payload waits where the view's plan is a tree

module _ (d : Deployed) (h : List Entry) (w : IsWithin d) (run : IsRun d h) (quiet : IsQuiet d h) (end : CanEnd d h) where
  some-epoch : 1 ≤ end.epoch
  some-epoch = let a : 1 ≤ view h 0 = view-positive h 0 in let b : view h 0 ≡ end.epoch = end.views 0 w.some_site in omega arith

  -- each link of the view's tree is whole
  pub view-whole : (t : TreeShape) (u v : NodeId) → tree_of d end.epoch ≡ Some t → IsPlace d u → IsPlace d v → is_edge t u v ≡ true → LinkWhole d h end.epoch t u v
  view-whole t u (Serializer z) k pu pv edge = hop-whole d h end.epoch z t u w run quiet some-epoch k (end.no_kill z) pu edge
  view-whole t u (Site j) k pu pv edge = turn-whole d h w run quiet end j t u pv k edge

  all-shown : (j : ℕ) (t : TreeShape) (l : Label) → j < d.sites → tree_of d end.epoch ≡ Some t → ((i : ℕ) → i < d.sites → AllSent d i h) → IsFor d h j l → Shows h j l
  all-shown j t l b k sent f =
      let q : IsKeptAt d j l × (l.point.site ≡ j → ⊥) = for-kept d h j l f in
      let i : l.point.site < d.sites = (made-placed d h l w.valid run f.made).site in
      let s : (e : ℕ) × SentIn h l.point.site e l = sent-epoch h l.point.site l (sent l.point.site i l f.made refl) in
      let a : s.0 ≤ emission h l.point.site = epoch-bound h l.point.site s.0 l s.1 in
      let c : emission h l.point.site ≡ end.epoch = end.emissions l.point.site i in
      let v : view h j ≡ end.epoch = end.views j b in
      elim (at_most s.0 end.epoch (omega arith)) [
        | inl lt ↦ (main d h w.valid (all-cuttable d w.trees) (stamp-rules d w.valid) run).below j l.point.site s.0 l b (omega arith) s.1 q.0
        | inr same ↦
            let s' : SentIn h l.point.site end.epoch l = subst (λ (e : ℕ). SentIn h l.point.site e l) same s.1 in
            arrives-shown d h end.epoch t j l (all-cuttable d w.trees) run k b (whole-ahead d h w run end.epoch t k (λ u v pu pv edge. view-whole t u v k pu pv edge) l s' j b) q.1 q.0
      ]
    where
      at_most : (a b : ℕ) → a ≤ b → (a < b) ⊎ (a ≡ b)
      at_most a b l = grind arith

  pub nothing-waits : (j : ℕ) (t : TreeShape) → j < d.sites → tree_of d end.epoch ≡ Some t → ((i : ℕ) → i < d.sites → AllSent d i h) → waiting h j ≡ []
  nothing-waits j t b k sent = none_empty (waiting h j) (λ l m. let q : Brings h j l × (Shows h j l → ⊥) = waits h j l m in q.1 (all-shown j t l b k sent (brings-for d h j l run q.0)))

-- ---- trees that were left by their closes

first-view : (j : ℕ) → view [] j ≡ 1
unfolding view
first-view j = refl

left-now : (d : Deployed) (h : List Entry) (x : Entry) (e j : ℕ) → view h j ≡ e → view (x ∷ h) j ≡ e + 1 → in_stamp_mode d h j ≡ true → LeftByStamps d (x ∷ h) e
unfolding LeftByStamps
left-now d h x e j a b c = inr (j, a, b, c)

goes-target : (d : Deployed) (t : TreeShape) (u v : NodeId) (l : Label) → goes_beyond d t u v l ≡ true → (j : ℕ) × In (below d.sites) j × ((is_target d l j && beyond t u v (Site j)) ≡ true)
unfolding goes_beyond
goes-target d t u v l g = any-In (λ (k : ℕ). is_target d l k && beyond t u v (Site k)) (below d.sites) g

ahead-at : (d : Deployed) (h : List Entry) (e : ℕ) (t : TreeShape) (a : Label) (u : NodeId) → Ahead d h e t a u → (p q : NodeId) → is_edge t p q ≡ true → beyond t p q (Site a.point.site) ≡ false → beyond t p q u ≡ true → goes_beyond d t p q a ≡ true → Handled d h e q a
unfolding Ahead
ahead-at d h e t a u w p q edge near far goes = w p q edge near far goes

advance-tree : (d : Deployed) (h : List Entry) (j : ℕ) → in_stamp_mode d h j ≡ false → may_advance d h j ≡ true → all_others d j (λ i. took_close h j i (view h j)) ≡ true
unfolding may_advance
advance-tree d h j m a = pick (in_stamp_mode d h j) _ (all_others d j (λ i. took_close h j i (view h j))) m a
  where
    pick : (b x y : Bool) → b ≡ false → (if b then x else y) ≡ true → y ≡ true
    pick true x y e f = absurd (cc)
    pick false x y e f = f

module _ (d : Deployed) (w : IsWithin d) (j i e : ℕ) (bi : i < d.sites) (other : i ≡ j → ⊥) where
  not_true : (b : Bool) → (b ≡ true → ⊥) → b ≡ false
  not_true true f = absurd (f refl)
  not_true false f = refl

  -- a site that left a tree by its closes took the close of each other site
  took-all : (h : List Entry) → IsRun d h → 1 ≤ e → e < view h j → (LeftByStamps d h e → ⊥) → TookClose d h j i e
  took-all [] run p lt n = absurd (start lt)
    where
      start : e < view [] j → ⊥
      start lt = let a : view [] j ≡ 1 = first-view j in omega arith
  took-all (x ∷ h) run p lt n = go (turning-of d h x j run) (λ l. took-later d h x j i e (took-all h (before_of d h x run) p l (λ s. n (unfold LeftByStamps in inl s))))
    where
      now_left : may_advance d h j ≡ true → view h j ≡ e → view (x ∷ h) j ≡ view h j + 1 → TookClose d (x ∷ h) j i e
      now_left m s v =
          let tree : in_stamp_mode d h j ≡ false = not_true (in_stamp_mode d h j) (λ b. n (left-now d h x e j s (v ∙ ap (λ (n : ℕ). n + 1) s) b)) in
          let c : took_close h j i (view h j) ≡ true = others-pass d j i (λ i. took_close h j i (view h j)) (advance-tree d h j tree m) bi other in
          took-later d h x j i e (took-close d h j i e (before_of d h x run) (subst (λ (f : ℕ). took_close h j i f ≡ true) s c))

      below_or : (a b : ℕ) → a < b + 1 → (a < b) ⊎ (b ≡ a)
      below_or a b l = grind arith

      go : Turning d h x j → (e < view h j → TookClose d (x ∷ h) j i e) → TookClose d (x ∷ h) j i e
      go (stays v m f) old = old (omega arith)
      go (closes v m f q) old = old (omega arith)
      go (falls v m q) old = old (omega arith)
      go (advances v m f q a y) old = elim (below_or e (view h j) (omega arith)) [ inl l ↦ old l | inr s ↦ now_left y s v ]

module _ (d : Deployed) (h : List Entry) (w : IsWithin d) (run : IsRun d h) (e : ℕ) (t : TreeShape) (k : tree_of d e ≡ Some t) (p : 1 ≤ e) (left_all : (j : ℕ) → j < d.sites → e < view h j) (by_closes : LeftByStamps d h e → ⊥) where
  cut : IsCuttable t
  cut = cuttable t (w.trees e t k)

  -- what a node handled from the near side of an edge stands at a taken place of it
  from-near : (u v : NodeId) (c : Label) → is_edge t u v ≡ true → beyond t u v (Site c.point.site) ≡ false → Handled d h e v c → (m : ℕ) × (m < taken d h e u v) × (slice_get (entered d h e t u v) m ≡ Some c)
  from-near u v c edge near m = go m.0 m.1
    where
      go : (o : Option NodeId) → HandledFrom d h e v o c → (m : ℕ) × (m < taken d h e u v) × (slice_get (entered d h e t u v) m ≡ Some c)
      go None m = absurd (both_ways (beyond t u v v) (cut.far u v edge) (subst (λ (n : NodeId). beyond t u v n ≡ false) (sym (own-site d h e v c run m)) near))
      go (Some y) m = same (node_eq u y) refl
        where
          same : (b : Bool) → node_eq u y ≡ b → (m : ℕ) × (m < taken d h e u v) × (slice_get (entered d h e t u v) m ≡ Some c)
          same true s = taken-place d h e t u v c run k (subst (λ (n : NodeId). HandledFrom d h e v (Some n) c) (sym (same-node u y s)) m)
          same false s =
              let f : (is_edge t y v ≡ true) × (beyond t v y (Site c.point.site) ≡ true) = came-from-side d h e t v y c (all-cuttable d w.trees) run k m in
              let b : beyond t v u (Site c.point.site) ≡ true = other-side t (w.trees e t k) v u (Site c.point.site) (cut.back u v edge) ∙ ap (λ (b : Bool). not b) near in
              let a : beyond t y v (Site c.point.site) ≡ true = cut.through y v u c.point.site f.0 (cut.back u v edge) (apart u y s) b in
              absurd (both_ways (beyond t y v (Site c.point.site)) a (other-side t (w.trees e t k) y v (Site c.point.site) f.0 ∙ ap (λ (b : Bool). not b) f.1))

  close-target : (c : Label) (j : ℕ) (f : ℕ) → c.kind ≡ kind.Close f → (c.point.site ≡ j → ⊥) → is_target d c j ≡ true
  unfolding is_target
  close-target c j f q n = subst (λ (y : Kind). elim y [ kind.Update items ↦ keeps_some d (list_of items) j && not (j == c.point.site) | kind.Move y ↦ j == y | kind.Pulse ↦ not (j == c.point.site) | kind.Close e ↦ not (j == c.point.site) ] ≡ true) (sym q) (differ j c.point.site (λ s. n (sym s)))
    where
      differ : (m n : ℕ) → (m ≡ n → ⊥) → not (m == n) ≡ true
      differ m n e = grind (arith, nat_tests)

  -- each place of a link was taken
  place-taken : (u v : NodeId) (n : ℕ) (l : Label) → is_edge t u v ≡ true → slice_get (entered d h e t u v) n ≡ Some l → n < taken d h e u v
  place-taken u v n l edge at =
      let m : (o : Option NodeId) × HandledFrom d h e u o l × (came_from (handled_as e u o l) v ≡ false) × (goes_beyond d t u v l ≡ true) = entered-in d h e t u v l (In-get (entered d h e t u v) n l at) in
      let near : beyond t u v (Site l.point.site) ≡ false = near-side d h w run e t k u v m.0 l edge m.1 m.2 in
      let sent : SentIn h l.point.site e l = handled-sent-in d h e u m.0 l run m.1 in
      let i : l.point.site < d.sites = sent-range d h w run e t k l sent in
      let r : (j : ℕ) × In (below d.sites) j × ((is_target d l j && beyond t u v (Site j)) ≡ true) = target-of m.3 in
      let far : beyond t u v (Site r.0) ≡ true = (and_parts (is_target d l r.0) (beyond t u v (Site r.0)) r.2).1 in
      let b : r.0 < d.sites = below-In d.sites r.0 r.1 in
      let ne : l.point.site ≡ r.0 → ⊥ = λ (s : l.point.site ≡ r.0). both_ways (beyond t u v (Site r.0)) far (subst (λ (j : ℕ). beyond t u v (Site j) ≡ false) s near) in
      by_close r.0 b near sent far ne m.3 (took-all d w r.0 l.point.site e i ne h run p (left_all r.0 b) by_closes)
    where
      target-of : goes_beyond d t u v l ≡ true → (j : ℕ) × In (below d.sites) j × ((is_target d l j && beyond t u v (Site j)) ≡ true)
      target-of g = goes-target d t u v l g

      by_close : (j : ℕ) → j < d.sites → beyond t u v (Site l.point.site) ≡ false → SentIn h l.point.site e l → beyond t u v (Site j) ≡ true → (l.point.site ≡ j → ⊥) → goes_beyond d t u v l ≡ true → TookClose d h j l.point.site e → n < taken d h e u v
      by_close j b near sent far ne goes tc =
          let c : Label = tc.label in
          let ep : tc.epoch ≡ e = close-epoch d h c.point.site tc.epoch e c w.valid run (handled-sent-in d h tc.epoch (Site j) (Some tc.from) c run tc.handled) tc.kind in
          let hd : HandledFrom d h e (Site j) (Some tc.from) c = subst (λ (f : ℕ). HandledFrom d h f (Site j) (Some tc.from) c) ep tc.handled in
          let near' : beyond t u v (Site c.point.site) ≡ false = subst (λ (n : ℕ). beyond t u v (Site n) ≡ false) (sym tc.site) near in
          let ne' : c.point.site ≡ j → ⊥ = λ (s : c.point.site ≡ j). ne (sym tc.site ∙ s) in
          let goes' : goes_beyond d t u v c ≡ true = goes-to d t u v c j b (close-target c j e tc.kind ne') far in
          let m : Handled d h e v c = ahead-at d h e t c (Site j) (self-ahead d h e t (Site j) (Some tc.from) c (all-cuttable d w.trees) run k hd) u v edge near' far goes' in
          let q : (m : ℕ) × (m < taken d h e u v) × (slice_get (entered d h e t u v) m ≡ Some c) = from-near u v c edge near' m in
          let sc : SentIn h c.point.site e c = handled-sent-in d h e (Site j) (Some tc.from) c run hd in
          let sc' : Sent h l.point.site c = subst (λ (i : ℕ). Sent h i c) tc.site (sent-in h c.point.site e c sc) in
          same (label_eq l c) refl q sc' goes
        where
          same : (b : Bool) → label_eq l tc.label ≡ b → (m : ℕ) × (m < taken d h e u v) × (slice_get (entered d h e t u v) m ≡ Some tc.label) → Sent h l.point.site tc.label → goes_beyond d t u v l ≡ true → n < taken d h e u v
          same true s q sc goes =
              let z : n ≡ q.0 = entered-once d h e t u v n q.0 tc.label (handled-once d h w.valid w.trees run) (at ∙ ap (λ (y : Label). Some y) (same-label l tc.label s)) q.2 in
              let y : q.0 < taken d h e u v = q.1 in
              omega arith
          same false s q sc goes =
              let bh : Behind h e l tc.label = close-behind d h l.point.site e l tc.label w.valid run sent sc tc.kind (λ z. let y : label_eq l tc.label ≡ true = subst (λ (y : Label). label_eq l y ≡ true) z (label_eq-self l) in both_ways (label_eq l tc.label) y s) in
              let f : (m' : ℕ) × (m' < q.0) × (slice_get (entered d h e t u v) m' ≡ Some l) = (main d h w.valid (all-cuttable d w.trees) (stamp-rules d w.valid) run).order.order e t u v q.0 tc.label l k edge q.2 bh near goes in
              let z : n ≡ f.0 = entered-once d h e t u v n f.0 l (handled-once d h w.valid w.trees run) at f.2 in
              let x : f.0 < q.0 = f.1 in
              let y : q.0 < taken d h e u v = q.1 in
              omega arith

  get-some : (xs : List Label) (n : ℕ) → n < length xs → (l : Label) × (slice_get xs n ≡ Some l)
  get-some [] n b = absurd (omega arith)
  get-some (x ∷ xs) zero b = (x, refl)
  get-some (x ∷ xs) (suc n) b = get-some xs n (omega arith)

  pub left-whole : (u v : NodeId) → is_edge t u v ≡ true → LinkWhole d h e t u v
  left-whole u v edge =
      closed_up (taken d h e u v) (length (entered d h e t u v)) (taken-below d h e t u v run k)
      (λ lt. let g : (l : Label) × (slice_get (entered d h e t u v) (taken d h e u v) ≡ Some l) = get-some (entered d h e t u v) (taken d h e u v) lt in place-taken u v (taken d h e u v) g.0 edge g.1)
    where
      closed_up : (a b : ℕ) → a ≤ b → (a < b → a < a) → a ≡ b
      closed_up a b l f = elim (less_or a b l) [ inl lt ↦ absurd (let z : a < a = f lt in omega arith) | inr s ↦ s ]
        where
          less_or : (a b : ℕ) → a ≤ b → (a < b) ⊎ (a ≡ b)
          less_or a b l = grind arith
