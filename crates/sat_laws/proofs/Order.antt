-- In the tree of each epoch a node handles a label only after all that the label comes behind was handled ahead of it.
use Rattle.std.specs.Prelude.{◌≡◌, ◌⊎◌, ◌<◌, ℕ, Bool, true, false, ◌&&◌, ◌||◌, List, [], ◌∷◌, Option, Some, None, refl, ◌==◌, length, slice_get}
use Rattle.std.specs.List.{list_any}
use Rattle.std.proofs.Common.{sym, subst, arith, inl, inr, ap, ◌∙◌}
use Rattle.std.proofs.lemmas.Bool.Decides.{nat_tests}
use Rattle.std.proofs.lemmas.Bool.{eqb-true}
use Rattle.sat_label.specs.declared.label.Label.{Label}
use Rattle.sat_label.specs.declared.node.NodeId.{NodeId}
use Rattle.sat_label.specs.declared.node.NodeId.TheVariants.{Site, Serializer}
use Rattle.sat_label.specs.Order.{node_eq}
use Rattle.sat_label.specs.Words.{below}
use Rattle.sat_tree.specs.Shape.{TreeShape}
use Rattle.sat_tree.specs.Cut.{is_edge, beyond}
use Rattle.sat_act.specs.declared.act.Act.{Act}
use Rattle.sat_act.specs.declared.answer.Answer.{Answer}
use Rattle.sat_act.specs.declared.entry.Entry.{Entry}
use Rattle.sat_act.specs.Deployed.{Deployed}
use Rattle.sat_act.specs.Parts.{handling, tree_of, link_front, entered, entered_entry, taken, came_from, goes_beyond, is_target, emission, sent_entry}
use Rattle.sat_act.specs.Runs.{IsRun}
use Rattle.sat_act.specs.Causes.{Cause}
use Rattle.sat_act.specs.Goals.{Gives, IsValid}
use Rattle.sat_laws.proofs.Steps.{Step}
use Rattle.sat_laws.proofs.Runs.{step_of, before_of, entry}
use Rattle.sat_laws.proofs.Cuts.{sent-site}
use Rattle.sat_laws.proofs.Handlings.{handled_as}
use Rattle.sat_laws.proofs.Sinks.{Sent}
use Rattle.sat_laws.proofs.Sendings.{sent-once, picked_if}
use Rattle.sat_act.specs.Parts.{stable, cut}
use Rattle.sat_label.specs.Order.{point_at}
use Rattle.sat_label.specs.declared.label.Kind.TheVariants as kind
use Rattle.sat_laws.proofs.Steps.{emitted, pulsed, closed}
use Rattle.sat_label.proofs.SameNodes.{same-node}
use Rattle.sat_tree.specs.Laws.{IsCuttable}
use Rattle.sat_laws.proofs.Links.{AllCuttable, HandledFrom, Handled, SentIn, Behind, Ahead, ahead-later, entered-in, into-entered, came-from-side, taking, taken-handled, own-sending, passing, view-of, entered-if, get-cases, get-below, In-place, entered-step, entered-keeps}
use Rattle.sat_label.specs.Members.{In}
use Rattle.sat_label.proofs.Members.{In-get}

-- what a site knows when it sends a label is ahead of it
unfoldable pub SentAhead : Deployed → List Entry → Type 0
SentAhead d [] = Unit {0}
SentAhead d (x ∷ h) =
    SentAhead d h
    × ((i : ℕ) (l a : Label) (t : TreeShape) → sent_entry i h x ≡ Some l → tree_of d (emission h i) ≡ Some t → SentIn h a.point.site (emission h i) a → Cause h l a → (a.point.site ≡ i → ⊥) → Ahead d h (emission h i) t a (Site i))

-- each node handled what a label comes behind, and each link keeps that order
pub record InOrder (d : Deployed) (h : List Entry) : Type 0 where
  pub ahead : (e : ℕ) (t : TreeShape) (u : NodeId) (l a : Label) → tree_of d e ≡ Some t → Handled d h e u l → Behind h e a l → Ahead d h e t a u
  pub order : (e : ℕ) (t : TreeShape) (u v : NodeId) (n : ℕ) (l a : Label) → tree_of d e ≡ Some t → is_edge t u v ≡ true → slice_get (entered d h e t u v) n ≡ Some l → Behind h e a l →
      beyond t u v (Site a.point.site) ≡ false → goes_beyond d t u v a ≡ true → (m : ℕ) × (m < n) × (slice_get (entered d h e t u v) m ≡ Some a)

pub sent-in : (h : List Entry) (i e : ℕ) (l : Label) → SentIn h i e l → Sent h i l
unfolding SentIn Gives
sent-in [] i e l k = k
sent-in (x ∷ h) i e l (inl k) = inl (sent-in h i e l k)
sent-in (x ∷ h) i e l (inr k) = inr k.0

-- a label that is behind another was sent, and so was the other
pub behind-first : (h : List Entry) (e : ℕ) (a l : Label) → Behind h e a l → SentIn h a.point.site e a
unfolding Behind SentIn
behind-first [] e a l k = k
behind-first (x ∷ h) e a l (inl k) = inl (behind-first h e a l k)
behind-first (x ∷ h) e a l (inr k) = inl k.3

pub behind-sent : (d : Deployed) (h : List Entry) (e : ℕ) (a l : Label) → IsRun d h → Behind h e a l → Sent h l.point.site l
unfolding Behind Gives
behind-sent d [] e a l run k = k
behind-sent d (x ∷ h) e a l run (inl k) = inl (behind-sent d h e a l (before_of d h x run) k)
behind-sent d (x ∷ h) e a l run (inr k) =
    let s : l.point.site ≡ k.0 = sent-site d (x ∷ h) k.0 l run (inr k.1) in
    inr (subst (λ (i : ℕ). sent_entry i h x ≡ Some l) (sym s) k.1)

front-in : (d : Deployed) (h : List Entry) (e : ℕ) (t : TreeShape) (u v : NodeId) (l : Label) → link_front d h e t u v ≡ Some l → In (entered d h e t u v) l
unfolding link_front
front-in d h e t u v l k = In-get (entered d h e t u v) (taken d h e u v) l k

-- what is handled was sent
handled-sent : (d : Deployed) (h : List Entry) (e : ℕ) (u : NodeId) (o : Option NodeId) (l : Label) → IsRun d h → HandledFrom d h e u o l → Sent h l.point.site l
unfolding HandledFrom Gives
handled-sent d [] e u o l run k = k
handled-sent d (x ∷ h) e u o l run (inl k) = inl (handled-sent d h e u o l (before_of d h x run) k)
handled-sent d (x ∷ h) e u None l run (inr k) =
    let w : (i : ℕ) × (u ≡ Site i) × (i < d.sites) × (sent_entry i h x ≡ Some l) × (emission h i ≡ e) = own-sending d h x (handled_as e u None l) (view-of d h x (handled_as e u None l) run k) refl in
    let s : l.point.site ≡ w.0 = sent-site d (x ∷ h) w.0 l run (inr w.3) in
    inr (subst (λ (i : ℕ). sent_entry i h x ≡ Some l) (sym s) w.3)
handled-sent d (x ∷ h) e u (Some v) l run (inr k) =
    let p : (s : TreeShape) × (tree_of d e ≡ Some s) × (is_edge s v u ≡ true) × (link_front d h e s v u ≡ Some l) = passing d h x (handled_as e u (Some v) l) v (view-of d h x (handled_as e u (Some v) l) run k) refl in
    let q : (o : Option NodeId) × HandledFrom d h e v o l × (came_from (handled_as e v o l) u ≡ false) × (goes_beyond d p.0 v u l ≡ true) = entered-in d h e p.0 v u l (front-in d h e p.0 v u l p.3) in
    inl (handled-sent d h e v q.0 l (before_of d h x run) q.1)

-- ---- tests over the targets

-- a label that goes beyond one edge goes beyond each edge whose far side holds it
any-step : (b c : Bool) (x y : Bool) → (b ≡ true → c ≡ true) → (x ≡ true → y ≡ true) → (b || x) ≡ true → (c || y) ≡ true
any-step b true x y f g e = refl
any-step true false x y f g e = absurd (let q : false ≡ true = f refl in cc)
any-step false false x y f g e = g e

any-more : (f g : ℕ → Bool) (ks : List ℕ) → ((k : ℕ) → f k ≡ true → g k ≡ true) → list_any f ks ≡ true → list_any g ks ≡ true
any-more f g [] w e = e
any-more f g (k ∷ ks) w e = any-step (f k) (g k) (list_any f ks) (list_any g ks) (w k) (any-more f g ks w) e

and-more : (a b c : Bool) → (b ≡ true → c ≡ true) → (a && b) ≡ true → (a && c) ≡ true
and-more true b c f e = f e
and-more false b c f e = e

pub goes-on : (d : Deployed) (t : TreeShape) (u v p q : NodeId) (a : Label) → ((k : ℕ) → beyond t u v (Site k) ≡ true → beyond t p q (Site k) ≡ true) → goes_beyond d t u v a ≡ true → goes_beyond d t p q a ≡ true
unfolding goes_beyond
goes-on d t u v p q a w e =
    any-more (λ k. is_target d a k && beyond t u v (Site k)) (λ k. is_target d a k && beyond t p q (Site k)) (below d.sites) (λ k f. and-more (is_target d a k) (beyond t u v (Site k)) (beyond t p q (Site k)) (w k) f) e

-- ---- what is ahead of a front

-- an own label is handled where it is sent
sent-handled-now : (d : Deployed) (h : List Entry) (i : ℕ) (a : Act) (r : Answer) (n : Bool) (l : Label) → Step d h a r → sent_entry i h (entry a r n) ≡ Some l → handling d h (entry a r n) ≡ Some (handled_as (emission h i) (Site i) None l)
unfolding handling
sent-handled-now d h i a r n l (emitted {i = k} {l = m} q) e =
    let w : ((k == i) ≡ true) × (m ≡ l) = picked_if (k == i) m l e in
    let s : k ≡ i = eqb-true k i w.0 in
    λ z. Some (handled_as (emission h (s z)) (Site (s z)) None (w.1 z))
sent-handled-now d h i a r n l (pulsed {i = k} q p) e =
    let w : ((k == i) ≡ true) × (record { point = point_at (stable d h k) k 65534; kind = kind.Pulse } ≡ l) = picked_if (k == i) (record { point = point_at (stable d h k) k 65534; kind = kind.Pulse }) l e in
    let s : k ≡ i = eqb-true k i w.0 in
    λ z. Some (handled_as (emission h (s z)) (Site (s z)) None (w.1 z))
sent-handled-now d h i a r n l (closed {i = k} q p) e =
    let w : ((k == i) ≡ true) × (record { point = cut d h k; kind = kind.Close (emission h k) } ≡ l) = picked_if (k == i) (record { point = cut d h k; kind = kind.Close (emission h k) }) l e in
    let s : k ≡ i = eqb-true k i w.0 in
    λ z. Some (handled_as (emission h (s z)) (Site (s z)) None (w.1 z))
sent-handled-now d h i a r n l _ e = absurd (cc)

pub sent-handled : (d : Deployed) (h : List Entry) (i e : ℕ) (a : Label) → IsRun d h → SentIn h i e a → HandledFrom d h e (Site i) None a
unfolding SentIn HandledFrom
sent-handled d [] i e a run k = k
sent-handled d (x ∷ h) i e a run (inl k) = inl (sent-handled d h i e a (before_of d h x run) k)
sent-handled d (x ∷ h) i e a run (inr k) =
    inr (sent-handled-now d h i x.act x.answer x.inner a (step_of d h x run) k.0 ∙ ap (λ (f : ℕ). Some (handled_as f (Site i) None a)) k.1)

-- what must come behind a label that was handled already is old
old-behind : (d : Deployed) (h : List Entry) (x : Entry) (e : ℕ) (a l : Label) → IsValid d → IsRun d (x ∷ h) → Sent h l.point.site l → Behind (x ∷ h) e a l → Behind h e a l
unfolding Behind Gives
old-behind d h x e a l v run s (inl k) = k
old-behind d h x e a l v run s (inr k) =
    let w : l.point.site ≡ k.0 = sent-site d (x ∷ h) k.0 l run (inr k.1) in
    absurd (sent-once d h x k.0 l v run k.1 (subst (λ (i : ℕ). Sent h i l) w s))

-- all that the front of a link comes behind is ahead of it at the link's end
pub front-ahead : (d : Deployed) (h : List Entry) (e : ℕ) (t : TreeShape) (w u : NodeId) (l a : Label) → IsCuttable t → IsRun d h → tree_of d e ≡ Some t → InOrder d h → is_edge t w u ≡ true →
    slice_get (entered d h e t w u) (taken d h e w u) ≡ Some l → Behind h e a l → Ahead d h e t a u
unfolding Ahead
front-ahead d h e t w u l a c run k inv edge front behind p q g near far goes = go (beyond t p q w) refl
  where
    handled_w : Handled d h e w l
    handled_w =
        let m : (o : Option NodeId) × HandledFrom d h e w o l × (came_from (handled_as e w o l) u ≡ false) × (goes_beyond d t w u l ≡ true) = entered-in d h e t w u l (In-get (entered d h e t w u) (taken d h e w u) l front) in
        (m.0, m.1)

    go : (b : Bool) → beyond t p q w ≡ b → Handled d h e q a
    go true y = inv.ahead e t w l a k handled_w behind p q g near y goes
    go false y =
        let z : (p ≡ w) × (q ≡ u) = c.parts w u p q edge g far y in
        let near' : beyond t w u (Site a.point.site) ≡ false = subst (λ (n : NodeId). beyond t n u (Site a.point.site) ≡ false) z.0 (subst (λ (n : NodeId). beyond t p n (Site a.point.site) ≡ false) z.1 near) in
        let goes' : goes_beyond d t w u a ≡ true = subst (λ (n : NodeId). goes_beyond d t n u a ≡ true) z.0 (subst (λ (n : NodeId). goes_beyond d t p n a ≡ true) z.1 goes) in
        let m : (m : ℕ) × (m < taken d h e w u) × (slice_get (entered d h e t w u) m ≡ Some a) = inv.order e t w u (taken d h e w u) l a k edge front behind near' goes' in
        subst (λ (n : NodeId). Handled d h e n a) (sym z.1) (taken-handled d h e t w u m.0 a run k m.2 m.1)

-- what a site's own label comes behind is ahead of it there
pub own-ahead : (d : Deployed) (h : List Entry) (x : Entry) (i : ℕ) (t : TreeShape) (l a : Label) → IsValid d → IsCuttable t → IsRun d (x ∷ h) → tree_of d (emission h i) ≡ Some t → SentAhead d (x ∷ h) → sent_entry i h x ≡ Some l → Behind (x ∷ h) (emission h i) a l → Ahead d h (emission h i) t a (Site i)
unfolding Behind SentAhead Ahead Gives
own-ahead d h x i t l a v c run k known s (inl b) =
    let w : l.point.site ≡ i = sent-site d (x ∷ h) i l run (inr s) in
    absurd (sent-once d h x i l v run s (subst (λ (j : ℕ). Sent h j l) w (behind-sent d h (emission h i) a l (before_of d h x run) b)))
own-ahead d h x i t l a v c run k known s (inr b) = λ p q g near far goes. go p q g near far goes b.4 (dec_num a.point.site i)
  where
    dec_num : (m n : ℕ) → (m ≡ n) ⊎ (m ≡ n → ⊥)
    dec_num m n = grind (arith, nat_tests)

    same : i ≡ b.0
    same = sym (sent-site d (x ∷ h) i l run (inr s)) ∙ sent-site d (x ∷ h) b.0 l run (inr b.1)

    go : (p q : NodeId) → is_edge t p q ≡ true → beyond t p q (Site a.point.site) ≡ false → beyond t p q (Site i) ≡ true → goes_beyond d t p q a ≡ true → Cause h l a ⊎ (a.point.site ≡ b.0) → (a.point.site ≡ i) ⊎ (a.point.site ≡ i → ⊥) → Handled d h (emission h i) q a
    go p q g near far goes y (inl z) = absurd (let f : beyond t p q (Site i) ≡ false = subst (λ (j : ℕ). beyond t p q (Site j) ≡ false) z near in cc)
    go p q g near far goes (inr y) (inr z) = absurd (z (y ∙ sym same))
    go p q g near far goes (inl y) (inr z) = known.1 i l a t s k b.3 y z p q g near far goes

-- all that a label comes behind is ahead of it at the node that handles it
pub now-ahead : (d : Deployed) (h : List Entry) (x : Entry) (e : ℕ) (t : TreeShape) (u : NodeId) (o : Option NodeId) (l a : Label) → IsValid d → IsCuttable t → IsRun d (x ∷ h) → tree_of d e ≡ Some t → SentAhead d (x ∷ h) → InOrder d h →
    handling d h x ≡ Some (handled_as e u o l) → Behind (x ∷ h) e a l → Ahead d h e t a u
now-ahead d h x e t u None l a v c run k known inv w b =
    let q : (i : ℕ) × (u ≡ Site i) × (i < d.sites) × (sent_entry i h x ≡ Some l) × (emission h i ≡ e) = own-sending d h x (handled_as e u None l) (view-of d h x (handled_as e u None l) run w) refl in
    subst (λ (n : NodeId). Ahead d h e t a n) (sym q.1)
    (subst (λ (f : ℕ). Ahead d h f t a (Site q.0)) q.4
    (own-ahead d h x q.0 t l a v c run (subst (λ (f : ℕ). tree_of d f ≡ Some t) (sym q.4) k) known q.3 (subst (λ (f : ℕ). Behind (x ∷ h) f a l) (sym q.4) b)))
now-ahead d h x e t u (Some y) l a v c run k known inv w b =
    let p : (slice_get (entered d h e t y u) (taken d h e y u) ≡ Some l) × (is_edge t y u ≡ true) = taking d h x e t y u l run k w in
    let q : (o : Option NodeId) × HandledFrom d h e y o l × (came_from (handled_as e y o l) u ≡ false) × (goes_beyond d t y u l ≡ true) = entered-in d h e t y u l (In-get (entered d h e t y u) (taken d h e y u) l p.0) in
    front-ahead d h e t y u l a c (before_of d h x run) k inv p.1 p.0
    (old-behind d h x e a l v run (handled-sent d h e y q.0 l (before_of d h x run) q.1) b)

-- what is ahead at a node, and wants a link of it, entered that link
pub ahead-entered : (d : Deployed) (h : List Entry) (e : ℕ) (t : TreeShape) (u v : NodeId) (a : Label) → AllCuttable d → IsRun d h → tree_of d e ≡ Some t → is_edge t u v ≡ true → SentIn h a.point.site e a → Ahead d h e t a u →
    beyond t u v (Site a.point.site) ≡ false → goes_beyond d t u v a ≡ true → In (entered d h e t u v) a
unfolding Ahead
ahead-entered d h e t u v a cuts run k g s ah near goes = go (dec_node (Site a.point.site) u)
  where
    c : IsCuttable t
    c = cuts.each e t k

    dec_num : (m n : ℕ) → (m ≡ n) ⊎ (m ≡ n → ⊥)
    dec_num m n = grind (arith, nat_tests)

    site_of : (m n : ℕ) → Site m ≡ Site n → m ≡ n
    site_of m n e = cc

    dec_node : (m n : NodeId) → (m ≡ n) ⊎ (m ≡ n → ⊥)
    dec_node (Site m) (Site n) = elim (dec_num m n) [ inl y ↦ inl (ap (λ (i : ℕ). Site i) y) | inr y ↦ inr (λ z. y (site_of m n z)) ]
    dec_node (Serializer m) (Serializer n) = elim (dec_num m n) [ inl y ↦ inl (ap (λ (i : ℕ). Serializer i) y) | inr y ↦ inr (λ z. y (cc)) ]
    dec_node (Site m) (Serializer n) = inr (λ z. cc)
    dec_node (Serializer m) (Site n) = inr (λ z. cc)

    not_from : (o : Option NodeId) → HandledFrom d h e u o a → came_from (handled_as e u o a) v ≡ false
    not_from None w = refl
    not_from (Some y) w = side (node_eq y v) refl
      where
        side : (b : Bool) → node_eq y v ≡ b → b ≡ false
        side false z = refl
        side true z =
            let q : (is_edge t y u ≡ true) × (beyond t u y (Site a.point.site) ≡ true) = came-from-side d h e t u y a cuts run k w in
            absurd (let f : beyond t u v (Site a.point.site) ≡ true = subst (λ (n : NodeId). beyond t u n (Site a.point.site) ≡ true) (same-node y v z) q.1 in cc)

    go : (Site a.point.site ≡ u) ⊎ (Site a.point.site ≡ u → ⊥) → In (entered d h e t u v) a
    go (inl z) =
        into-entered d h e t u v None a (subst (λ (n : NodeId). HandledFrom d h e n None a) z (sent-handled d h a.point.site e a run s)) refl goes
    go (inr z) =
        let w : (w : NodeId) × (is_edge t w u ≡ true) × (beyond t w u (Site a.point.site) ≡ false) × ((k : ℕ) → beyond t u v (Site k) ≡ true → beyond t w u (Site k) ≡ true) = c.first u v a.point.site g near z in
        let m : Handled d h e u a = ah w.0 u w.1 w.2 (c.far w.0 u w.1) (goes-on d t u v w.0 u a w.3 goes) in
        into-entered d h e t u v m.0 a m.1 (not_from m.0 m.1) goes

pub behind-before : (h : List Entry) (x : Entry) (e : ℕ) (a l : Label) → Behind (x ∷ h) e a l → SentIn h a.point.site e a
unfolding Behind
behind-before h x e a l (inl k) = behind-first h e a l k
behind-before h x e a l (inr k) = k.3

module _ (d : Deployed) (h : List Entry) (x : Entry) (v : IsValid d) (cuts : AllCuttable d) (run : IsRun d (x ∷ h)) (known : SentAhead d (x ∷ h)) (inv : InOrder d h) where
  new-ahead : (e : ℕ) (t : TreeShape) (u : NodeId) (l a : Label) → tree_of d e ≡ Some t → (o : Option NodeId) → HandledFrom d (x ∷ h) e u o l → Behind (x ∷ h) e a l → Ahead d (x ∷ h) e t a u
  unfolding HandledFrom
  new-ahead e t u l a k o (inl m) b = ahead-later d h x e t a u (inv.ahead e t u l a k (o, m) (old-behind d h x e a l v run (handled-sent d h e u o l (before_of d h x run) m) b))
  new-ahead e t u l a k o (inr m) b = ahead-later d h x e t a u (now-ahead d h x e t u o l a v (cuts.each e t k) run k known inv m b)

  new-order : (e : ℕ) (t : TreeShape) (u w : NodeId) (n : ℕ) (l a : Label) → tree_of d e ≡ Some t → is_edge t u w ≡ true → Behind (x ∷ h) e a l → beyond t u w (Site a.point.site) ≡ false → goes_beyond d t u w a ≡ true →
      (slice_get (entered d h e t u w) n ≡ Some l) ⊎ ((n ≡ length (entered d h e t u w)) × (entered_entry d e t u w h x ≡ Some l)) → (m : ℕ) × (m < n) × (slice_get (entered d (x ∷ h) e t u w) m ≡ Some a)
  new-order e t u w n l a k g b near goes (inl s) =
      let q : (o : Option NodeId) × HandledFrom d h e u o l × (came_from (handled_as e u o l) w ≡ false) × (goes_beyond d t u w l ≡ true) = entered-in d h e t u w l (In-get (entered d h e t u w) n l s) in
      let m : (m : ℕ) × (m < n) × (slice_get (entered d h e t u w) m ≡ Some a) = inv.order e t u w n l a k g s (old-behind d h x e a l v run (handled-sent d h e u q.0 l (before_of d h x run) q.1) b) near goes in
      (m.0, m.1, entered-keeps d h x e t u w m.0 a m.2)
  new-order e t u w n l a k g b near goes (inr s) =
      let q : (o : Option NodeId) × (handling d h x ≡ Some (handled_as e u o l)) × (came_from (handled_as e u o l) w ≡ false) × (goes_beyond d t u w l ≡ true) = entered-if d e t u w h x l s.1 in
      let ah : Ahead d h e t a u = now-ahead d h x e t u q.0 l a v (cuts.each e t k) run k known inv q.1 b in
      let m : (m : ℕ) × (slice_get (entered d h e t u w) m ≡ Some a) = In-place (entered d h e t u w) a (ahead-entered d h e t u w a cuts (before_of d h x run) k g (behind-before h x e a l b) ah near goes) in
      let z : n ≡ length (entered d h e t u w) = s.0 in
      let y : m.0 < length (entered d h e t u w) = get-below (entered d h e t u w) m.0 a m.1 in
      (m.0, omega arith, entered-keeps d h x e t u w m.0 a m.1)

  pub in-order-step : InOrder d (x ∷ h)
  in-order-step = record {
    ahead = λ e t u l a k m b. new-ahead e t u l a k m.0 m.1 b;
    order = λ e t u w n l a k g s b near goes. new-order e t u w n l a k g b near goes (get-cases (entered d h e t u w) (entered_entry d e t u w h x) n l (subst (λ (xs : List Label). slice_get xs n ≡ Some l) (entered-step d h x e t u w) s));
  }

-- in each run where sites send labels only behind what they know, each node handles them so
pub in-order : (d : Deployed) (h : List Entry) → IsValid d → AllCuttable d → IsRun d h → SentAhead d h → InOrder d h
unfolding Behind SentAhead
in-order d [] v cuts run known = record { ahead = λ e t u l a k m b. absurd b; order = λ e t u w n l a k g s b. absurd b }
in-order d (x ∷ h) v cuts run known = in-order-step d h x v cuts run known (in-order d h v cuts (before_of d h x run) known.0)
