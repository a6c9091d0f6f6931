-- No node handles a label twice in the tree of an epoch.
use Rattle.std.specs.Prelude.{◌≡◌, ◌⊎◌, ◌<◌, ◌≤◌, ℕ, ◌+◌, Bool, true, false, ◌&&◌, not, List, [], ◌∷◌, ◌++◌, Option, Some, None, refl, ◌==◌, if◌then◌else◌, length, slice_get}
use Rattle.std.proofs.Common.{sym, subst, arith, inl, inr, ap, ◌∙◌, length-append}
use Rattle.std.proofs.lemmas.Bool.Decides.{nat_tests}
use Rattle.sat_label.specs.declared.label.Label.{Label}
use Rattle.sat_label.specs.declared.node.NodeId.{NodeId}
use Rattle.sat_label.specs.declared.node.NodeId.TheVariants.{Site}
use Rattle.sat_label.specs.Order.{node_eq}
use Rattle.sat_tree.specs.Shape.{TreeShape}
use Rattle.sat_tree.specs.Cut.{is_edge, beyond}
use Rattle.sat_act.specs.declared.entry.Entry.{Entry}
use Rattle.sat_act.specs.Deployed.{Deployed}
use Rattle.sat_act.specs.Histories.{listed}
use Rattle.sat_act.specs.Parts.{Handling, handling, tree_of, link_front, entered, entered_entry, taken, taken_entry, came_from, goes_beyond, emission, sent_entry}
use Rattle.sat_act.specs.Runs.{IsRun}
use Rattle.sat_act.specs.Goals.{Gives, IsValid}
use Rattle.sat_act.specs.Headline.{HasTrees}
use Rattle.sat_laws.proofs.Runs.{before_of}
use Rattle.sat_laws.proofs.Cuts.{sent-site}
use Rattle.sat_laws.proofs.Sinks.{Sent}
use Rattle.sat_laws.proofs.Sendings.{sent-once}
use Rattle.sat_laws.proofs.Handlings.{handled_as}
use Rattle.sat_label.proofs.SameNodes.{same-node, node-self}
use Rattle.sat_tree.specs.Laws.{IsCuttable}
use Rattle.sat_laws.proofs.Links.{AllCuttable, HandledFrom, Handled, entered-if, entered-in, entered-keeps, entered-step, taking, own-sending, passing, view-of, own-site, came-from-side, get-cases, tail_of}
use Rattle.sat_laws.proofs.Order.{sent-in}
use Rattle.sat_laws.proofs.Arrivals.{handled-sent-in}
use Rattle.sat_tree.proofs.Trees.{cuttable, other-side}
use Rattle.sat_label.proofs.Members.{In-get}

pub all-cuttable : (d : Deployed) → HasTrees d → AllCuttable d
all-cuttable d t = record { each = λ e s k. cuttable s (t e s k) }

unfoldable pub HandledOnce : Deployed → List Entry → Type 0
HandledOnce d [] = Unit {0}
HandledOnce d (x ∷ h) = HandledOnce d h × ((e : ℕ) (u : NodeId) (o : Option NodeId) (l : Label) → handling d h x ≡ Some (handled_as e u o l) → Handled d h e u l → ⊥)

-- ---- a taking is at a place that counts

taken-of : (d : Deployed) (e : ℕ) (u v : NodeId) (h : List Entry) (x : Entry) (l : Label) → handling d h x ≡ Some (handled_as e v (Some u) l) → taken_entry d e u v h x ≡ Some l
taken-of d e u v h x l w = go (handling d h x) w
  where
    pick : (b c f : Bool) → b ≡ true → c ≡ true → f ≡ true → (if ((b && c) && f) then Some l else None) ≡ Some l
    pick true true true eb ec ef = refl
    pick false c f eb ec ef = absurd (cc)
    pick true false f eb ec ef = absurd (cc)
    pick true true false eb ec ef = absurd (cc)

    num_self : (n : ℕ) → (n == n) ≡ true
    num_self n = grind (arith, nat_tests)

    go : (s : Option Handling) → s ≡ Some (handled_as e v (Some u) l) → elim s [ None ↦ None | Some y ↦ if ((y.epoch == e) && node_eq y.node v) && came_from y u then Some y.label else None ] ≡ Some l
    go s k = subst (λ (s : Option Handling). elim s [ None ↦ None | Some y ↦ if ((y.epoch == e) && node_eq y.node v) && came_from y u then Some y.label else None ] ≡ Some l) (sym k)
        (pick (e == e) (node_eq v v) (node_eq u u) (num_self e) (node-self v) (node-self u))

taken-grows : (d : Deployed) (h : List Entry) (x : Entry) (e : ℕ) (u v : NodeId) → taken d h e u v ≤ taken d (x ∷ h) e u v
unfolding taken
taken-grows d h x e u v = omega (arith, length-append (listed (taken_entry d e u v) h) (tail_of (taken_entry d e u v h x)))

taken-more : (d : Deployed) (h : List Entry) (x : Entry) (e : ℕ) (u v : NodeId) (l : Label) → taken_entry d e u v h x ≡ Some l → taken d (x ∷ h) e u v ≡ taken d h e u v + 1
unfolding taken
taken-more d h x e u v l k =
    ap (λ (o : Option Label). length (listed (taken_entry d e u v) h ++ tail_of o)) k ∙ length-append (listed (taken_entry d e u v) h) (l ∷ [])

-- what came from a node was taken at a place of its link
pub taken-place : (d : Deployed) (h : List Entry) (e : ℕ) (t : TreeShape) (u v : NodeId) (l : Label) → IsRun d h → tree_of d e ≡ Some t → HandledFrom d h e v (Some u) l →
    (m : ℕ) × (m < taken d h e u v) × (slice_get (entered d h e t u v) m ≡ Some l)
unfolding HandledFrom
taken-place d [] e t u v l run k w = absurd w
taken-place d (x ∷ h) e t u v l run k (inl w) =
    let p : (m : ℕ) × (m < taken d h e u v) × (slice_get (entered d h e t u v) m ≡ Some l) = taken-place d h e t u v l (before_of d h x run) k w in
    let a : p.0 < taken d h e u v = p.1 in
    let b : taken d h e u v ≤ taken d (x ∷ h) e u v = taken-grows d h x e u v in
    (p.0, omega arith, entered-keeps d h x e t u v p.0 l p.2)
taken-place d (x ∷ h) e t u v l run k (inr w) =
    let p : (slice_get (entered d h e t u v) (taken d h e u v) ≡ Some l) × (is_edge t u v ≡ true) = taking d h x e t u v l run k w in
    let b : taken d (x ∷ h) e u v ≡ taken d h e u v + 1 = taken-more d h x e u v l (taken-of d e u v h x l w) in
    (taken d h e u v, omega arith, entered-keeps d h x e t u v (taken d h e u v) l p.0)

-- ---- a label enters a link once

pub entered-once : (d : Deployed) (h : List Entry) (e : ℕ) (t : TreeShape) (u v : NodeId) (m n : ℕ) (l : Label) → HandledOnce d h → slice_get (entered d h e t u v) m ≡ Some l → slice_get (entered d h e t u v) n ≡ Some l → m ≡ n
unfolding HandledOnce
entered-once d [] e t u v m n l once a b = absurd (unfold entered in cc)
entered-once d (x ∷ h) e t u v m n l once a b = go (λ p q. entered-once d h e t u v m n l once.0 p q) (cases m a) (cases n b)
  where
    cases : (m : ℕ) → slice_get (entered d (x ∷ h) e t u v) m ≡ Some l → (slice_get (entered d h e t u v) m ≡ Some l) ⊎ ((m ≡ length (entered d h e t u v)) × (entered_entry d e t u v h x ≡ Some l))
    cases m a = get-cases (entered d h e t u v) (entered_entry d e t u v h x) m l (subst (λ (xs : List Label). slice_get xs m ≡ Some l) (entered-step d h x e t u v) a)

    clash : (m : ℕ) → slice_get (entered d h e t u v) m ≡ Some l → entered_entry d e t u v h x ≡ Some l → ⊥
    clash m a b =
        let old : (o : Option NodeId) × HandledFrom d h e u o l × (came_from (handled_as e u o l) v ≡ false) × (goes_beyond d t u v l ≡ true) = entered-in d h e t u v l (In-get (entered d h e t u v) m l a) in
        let new : (o : Option NodeId) × (handling d h x ≡ Some (handled_as e u o l)) × (came_from (handled_as e u o l) v ≡ false) × (goes_beyond d t u v l ≡ true) = entered-if d e t u v h x l b in
        once.1 e u new.0 l new.1 (old.0, old.1)

    go : (slice_get (entered d h e t u v) m ≡ Some l → slice_get (entered d h e t u v) n ≡ Some l → m ≡ n) → (slice_get (entered d h e t u v) m ≡ Some l) ⊎ ((m ≡ length (entered d h e t u v)) × (entered_entry d e t u v h x ≡ Some l)) →
        (slice_get (entered d h e t u v) n ≡ Some l) ⊎ ((n ≡ length (entered d h e t u v)) × (entered_entry d e t u v h x ≡ Some l)) → m ≡ n
    go old (inl a) (inl b) = old a b
    go old (inl a) (inr b) = absurd (clash m a b.1)
    go old (inr a) (inl b) = absurd (clash n b a.1)
    go old (inr a) (inr b) = a.0 ∙ sym b.0

-- ---- and no node handles it again

both : (b : Bool) → b ≡ true → b ≡ not true → ⊥
both true e f = cc
both false e f = cc

passes-once : (d : Deployed) (h : List Entry) (x : Entry) (e : ℕ) (t : TreeShape) (v u : NodeId) (l : Label) → IsValid d → HasTrees d → IsRun d (x ∷ h) → HandledOnce d h → tree_of d e ≡ Some t →
    handling d h x ≡ Some (handled_as e u (Some v) l) → (o : Option NodeId) → HandledFrom d h e u o l → ⊥
unfolding HandledFrom
passes-once d h x e t v u l valid trees run once k w None old =
    let c : IsCuttable t = cuttable t (trees e t k) in
    let s : (is_edge t v u ≡ true) × (beyond t u v (Site l.point.site) ≡ true) = came-from-side d (x ∷ h) e t u v l (all-cuttable d trees) run k (inr w) in
    let q : u ≡ Site l.point.site = own-site d h e u l (before_of d h x run) old in
    let y : beyond t u v u ≡ true = subst (λ (n : NodeId). beyond t u v n ≡ true) (sym q) s.1 in
    let z : beyond t v u u ≡ true = c.far v u s.0 in
    both (beyond t u v u) y (other-side t (trees e t k) u v u (c.back v u s.0) ∙ ap (λ (b : Bool). not b) z)
passes-once d h x e t v u l valid trees run once k w (Some y) old = go (node_eq v y) refl
  where
    c : IsCuttable t
    c = cuttable t (trees e t k)

    new : (is_edge t v u ≡ true) × (beyond t u v (Site l.point.site) ≡ true)
    new = came-from-side d (x ∷ h) e t u v l (all-cuttable d trees) run k (inr w)

    go : (b : Bool) → node_eq v y ≡ b → ⊥
    go true q =
        let r : (slice_get (entered d h e t v u) (taken d h e v u) ≡ Some l) × (is_edge t v u ≡ true) = taking d h x e t v u l run k w in
        let p : (m : ℕ) × (m < taken d h e v u) × (slice_get (entered d h e t v u) m ≡ Some l) = taken-place d h e t v u l (before_of d h x run) k (subst (λ (n : NodeId). HandledFrom d h e u (Some n) l) (sym (same-node v y q)) old) in
        let a : p.0 < taken d h e v u = p.1 in
        let b : p.0 ≡ taken d h e v u = entered-once d h e t v u p.0 (taken d h e v u) l once p.2 r.0 in
        omega arith
    go false q =
        let o : (is_edge t y u ≡ true) × (beyond t u y (Site l.point.site) ≡ true) = came-from-side d h e t u y l (all-cuttable d trees) (before_of d h x run) k old in
        let apart : v ≡ y → ⊥ = λ (s : v ≡ y). (let z : node_eq v y ≡ true = subst (λ (n : NodeId). node_eq v n ≡ true) s (node-self v) in cc) in
        let z : beyond t y u (Site l.point.site) ≡ true = c.through y u v l.point.site o.0 (c.back v u new.0) apart new.1 in
        both (beyond t y u (Site l.point.site)) z (other-side t (trees e t k) y u (Site l.point.site) o.0 ∙ ap (λ (b : Bool). not b) o.1)

sends-once : (d : Deployed) (h : List Entry) (x : Entry) (e : ℕ) (u : NodeId) (l : Label) → IsValid d → IsRun d (x ∷ h) → handling d h x ≡ Some (handled_as e u None l) → Handled d h e u l → ⊥
sends-once d h x e u l valid run w old =
    let p : (i : ℕ) × (u ≡ Site i) × (i < d.sites) × (sent_entry i h x ≡ Some l) × (emission h i ≡ e) = own-sending d h x (handled_as e u None l) (view-of d h x (handled_as e u None l) run w) refl in
    let s : Sent h l.point.site l = sent-in h l.point.site e l (handled-sent-in d h e u old.0 l (before_of d h x run) old.1) in
    let q : l.point.site ≡ p.0 = sent-site d h l.point.site l (before_of d h x run) s ∙ at_own p.0 p.3 in
    sent-once d h x p.0 l valid run p.3 (subst (λ (i : ℕ). Sent h i l) q s)
  where
    at_own : (i : ℕ) → sent_entry i h x ≡ Some l → l.point.site ≡ i
    at_own i k = sent-site d (x ∷ h) i l run (unfold Gives in inr k)

pub handled-once : (d : Deployed) (h : List Entry) → IsValid d → HasTrees d → IsRun d h → HandledOnce d h
unfolding HandledOnce
handled-once d [] valid trees run = tt
handled-once d (x ∷ h) valid trees run = let once : HandledOnce d h = handled-once d h valid trees (before_of d h x run) in (once, λ e u o l w old. go once e u o l w old)
  where
    go : HandledOnce d h → (e : ℕ) (u : NodeId) (o : Option NodeId) (l : Label) → handling d h x ≡ Some (handled_as e u o l) → Handled d h e u l → ⊥
    go once e u None l w old = sends-once d h x e u l valid run w old
    go once e u (Some v) l w old =
        let p : (t : TreeShape) × (tree_of d e ≡ Some t) × (is_edge t v u ≡ true) × (link_front d h e t v u ≡ Some l) = passing d h x (handled_as e u (Some v) l) v (view-of d h x (handled_as e u (Some v) l) run w) refl in
        passes-once d h x e p.0 v u l valid trees run once p.1 w old.0 old.1
