-- What arrives at a site: epochs of sent labels, and what a turn shows.
use Rattle.std.specs.Prelude.{◌≡◌, ◌<◌, ◌≤◌, ℕ, zero, suc, Bool, true, false, ◌&&◌, ◌||◌, not, List, [], ◌∷◌, ◌++◌, Option, Some, None, refl, ◌==◌, if◌then◌else◌, slice_get}
use Rattle.std.specs.List.{list_any}
use Rattle.std.proofs.Common.{sym, subst, arith, inl, inr, ap, ◌∙◌}
use Rattle.std.proofs.lemmas.Bool.Decides.{nat_tests}
use Rattle.sat_label.specs.declared.label.Label.{Label}
use Rattle.sat_label.specs.declared.node.NodeId.{NodeId}
use Rattle.sat_label.specs.declared.node.NodeId.TheVariants.{Site, Serializer}
use Rattle.sat_label.specs.Grouped.{list_of}
use Rattle.sat_label.specs.Words.{below}
use Rattle.sat_tree.specs.Shape.{TreeShape}
use Rattle.sat_tree.specs.Cut.{is_edge, beyond}
use Rattle.sat_act.specs.declared.act.Act.{Act}
use Rattle.sat_act.specs.declared.answer.Answer.{Answer}
use Rattle.sat_act.specs.declared.entry.Entry.{Entry}
use Rattle.sat_act.specs.Deployed.{Deployed}
use Rattle.sat_act.specs.Parts.{Handling, handling, tree_of, link_front, entered, taken, came_from, goes_beyond, is_target, emission, sent_entry}
use Rattle.sat_act.specs.Runs.{IsRun}
use Rattle.sat_act.specs.Goals.{Gives, IsValid}
use Rattle.sat_laws.proofs.Steps.{Step}
use Rattle.sat_laws.proofs.Runs.{step_of, before_of, entry}
use Rattle.sat_laws.proofs.Labels.{some_is}
use Rattle.sat_laws.proofs.Written.{kept-some, item-update}
use Rattle.sat_laws.proofs.Gears.{split_le}
use Rattle.sat_laws.proofs.Cuts.{sent-site}
use Rattle.sat_laws.proofs.Handlings.{handled_as}
use Rattle.sat_laws.proofs.Sinks.{Sent}
use Rattle.sat_laws.proofs.Sendings.{sent-once}
use Rattle.sat_label.specs.declared.label.Kind.TheVariants as kind
use Rattle.sat_laws.proofs.Steps.{emitted, pulsed, closed}
use Rattle.sat_tree.specs.Laws.{IsCuttable}
use Rattle.sat_laws.proofs.Links.{AllCuttable, HandledFrom, Handled, SentIn, Ahead, handled-later, handled-now, ahead-later, entered-in, own-site, taking, own-sending, passing, view-of}
use Rattle.sat_label.specs.declared.label.Kind.{Kind}
use Rattle.sat_act.specs.Parts.{is_update, is_update_of, keeps_some, shown_entry, view, seat_in}
use Rattle.sat_act.specs.Goals.{Shows, IsKeptAt}
use Rattle.sat_laws.proofs.Steps.{hopped, showed_turn, took}
use Rattle.sat_laws.proofs.Order.{sent-in}
use Rattle.sat_laws.proofs.Sendings.{emission-rises}
use Rattle.sat_tree.specs.Cut.{seat_of}
use Rattle.sat_laws.proofs.Handlings.{seat-edge}
use Rattle.sat_label.specs.Members.{In}
use Rattle.sat_label.proofs.Members.{In-get}

-- what is handled in the tree of an epoch was sent in that epoch
front-in : (d : Deployed) (h : List Entry) (e : ℕ) (t : TreeShape) (u v : NodeId) (l : Label) → link_front d h e t u v ≡ Some l → In (entered d h e t u v) l
unfolding link_front
front-in d h e t u v l k = In-get (entered d h e t u v) (taken d h e u v) l k

pub handled-sent-in : (d : Deployed) (h : List Entry) (e : ℕ) (u : NodeId) (o : Option NodeId) (l : Label) → IsRun d h → HandledFrom d h e u o l → SentIn h l.point.site e l
unfolding HandledFrom SentIn Gives
handled-sent-in d [] e u o l run k = k
handled-sent-in d (x ∷ h) e u o l run (inl k) = inl (handled-sent-in d h e u o l (before_of d h x run) k)
handled-sent-in d (x ∷ h) e u None l run (inr k) =
    let w : (i : ℕ) × (u ≡ Site i) × (i < d.sites) × (sent_entry i h x ≡ Some l) × (emission h i ≡ e) = own-sending d h x (handled_as e u None l) (view-of d h x (handled_as e u None l) run k) refl in
    let s : l.point.site ≡ w.0 = sent-site d (x ∷ h) w.0 l run (inr w.3) in
    inr (subst (λ (i : ℕ). sent_entry i h x ≡ Some l) (sym s) w.3, ap (λ (i : ℕ). emission h i) s ∙ w.4)
handled-sent-in d (x ∷ h) e u (Some v) l run (inr k) =
    let p : (s : TreeShape) × (tree_of d e ≡ Some s) × (is_edge s v u ≡ true) × (link_front d h e s v u ≡ Some l) = passing d h x (handled_as e u (Some v) l) v (view-of d h x (handled_as e u (Some v) l) run k) refl in
    let q : (o : Option NodeId) × HandledFrom d h e v o l × (came_from (handled_as e v o l) u ≡ false) × (goes_beyond d p.0 v u l ≡ true) = entered-in d h e p.0 v u l (front-in d h e p.0 v u l p.3) in
    inl (handled-sent-in d h e v q.0 l (before_of d h x run) q.1)

-- a label is sent in one epoch
pub one-epoch : (d : Deployed) (h : List Entry) (i e f : ℕ) (l : Label) → IsValid d → IsRun d h → SentIn h i e l → SentIn h i f l → e ≡ f
unfolding SentIn
one-epoch d [] i e f l v run a b = absurd a
one-epoch d (x ∷ h) i e f l v run (inl a) (inl b) = one-epoch d h i e f l v (before_of d h x run) a b
one-epoch d (x ∷ h) i e f l v run (inr a) (inr b) = sym a.1 ∙ b.1
one-epoch d (x ∷ h) i e f l v run (inl a) (inr b) = absurd (sent-once d h x i l v run b.0 (sent-in h i e l a))
one-epoch d (x ∷ h) i e f l v run (inr a) (inl b) = absurd (sent-once d h x i l v run a.0 (sent-in h i f l b))

pub epoch-bound : (h : List Entry) (i e : ℕ) (l : Label) → SentIn h i e l → e ≤ emission h i
unfolding SentIn
epoch-bound [] i e l a = absurd a
epoch-bound (x ∷ h) i e l (inl a) =
    let w : e ≤ emission h i = epoch-bound h i e l a in
    let y : emission h i ≤ emission (x ∷ h) i = emission-rises h x i in
    omega arith
epoch-bound (x ∷ h) i e l (inr a) =
    let w : emission h i ≡ e = a.1 in
    let y : emission h i ≤ emission (x ∷ h) i = emission-rises h x i in
    omega arith

pub sent-epoch : (h : List Entry) (i : ℕ) (l : Label) → Sent h i l → (e : ℕ) × SentIn h i e l
unfolding SentIn Gives
sent-epoch [] i l k = absurd k
sent-epoch (x ∷ h) i l (inl k) = let w : (e : ℕ) × SentIn h i e l = sent-epoch h i l k in (w.0, inl w.1)
sent-epoch (x ∷ h) i l (inr k) = (emission h i, inr (k, refl))

-- a handled label passed all on its way
own-way : (d : Deployed) (h : List Entry) (e : ℕ) (t : TreeShape) (u : NodeId) (l : Label) → u ≡ Site l.point.site → Ahead d h e t l u
unfolding Ahead
own-way d h e t u l s p q g near far goes = absurd (let f : beyond t p q (Site l.point.site) ≡ true = subst (λ (n : NodeId). beyond t p q n ≡ true) s far in cc)

passed-way : (d : Deployed) (h : List Entry) (x : Entry) (e : ℕ) (t : TreeShape) (w u : NodeId) (l : Label) → IsCuttable t → is_edge t w u ≡ true → Ahead d h e t l w → Handled d (x ∷ h) e u l → Ahead d (x ∷ h) e t l u
unfolding Ahead
passed-way d h x e t w u l c edge ah m p q g near far goes = go (beyond t p q w) refl
  where
    go : (b : Bool) → beyond t p q w ≡ b → Handled d (x ∷ h) e q l
    go true y = handled-later d h x e q l (ah p q g near y goes)
    go false y = let z : (p ≡ w) × (q ≡ u) = c.parts w u p q edge g far y in subst (λ (n : NodeId). Handled d (x ∷ h) e n l) (sym z.1) m

pub self-ahead : (d : Deployed) (h : List Entry) (e : ℕ) (t : TreeShape) (u : NodeId) (o : Option NodeId) (l : Label) → AllCuttable d → IsRun d h → tree_of d e ≡ Some t → HandledFrom d h e u o l → Ahead d h e t l u
unfolding HandledFrom
self-ahead d [] e t u o l cuts run k m = absurd m
self-ahead d (x ∷ h) e t u o l cuts run k (inl m) = ahead-later d h x e t l u (self-ahead d h e t u o l cuts (before_of d h x run) k m)
self-ahead d (x ∷ h) e t u None l cuts run k (inr m) = own-way d (x ∷ h) e t u l (own-site d (x ∷ h) e u l run (inr m))
self-ahead d (x ∷ h) e t u (Some w) l cuts run k (inr m) =
    let p : (slice_get (entered d h e t w u) (taken d h e w u) ≡ Some l) × (is_edge t w u ≡ true) = taking d h x e t w u l run k m in
    let q : (o : Option NodeId) × HandledFrom d h e w o l × (came_from (handled_as e w o l) u ≡ false) × (goes_beyond d t w u l ≡ true) = entered-in d h e t w u l (In-get (entered d h e t w u) (taken d h e w u) l p.0) in
    passed-way d h x e t w u l (cuts.each e t k) p.1 (self-ahead d h e t w q.0 l cuts (before_of d h x run) k q.1) (handled-now d h x e u (Some w) l m)

-- ---- what a turn takes is shown

pub site_is : (i j : ℕ) → Site i ≡ Site j → i ≡ j
site_is i j e = cc

shown_if : (k j : ℕ) (l : Label) → k ≡ j → (if (k == j) then Some l else None) ≡ Some l
shown_if k j l e = go (k == j) (equal k j e)
  where
    equal : (k j : ℕ) → k ≡ j → (k == j) ≡ true
    equal k j e = grind (arith, nat_tests)

    go : (b : Bool) → b ≡ true → (if b then Some l else None) ≡ Some l
    go true e = refl
    go false e = absurd (cc)

turn-shows : (d : Deployed) (h : List Entry) (a : Act) (r : Answer) (n : Bool) (e j : ℕ) (w : NodeId) (l : Label) → Step d h a r → handling d h (entry a r n) ≡ Some (handled_as e (Site j) (Some w) l) → is_update l.kind ≡ true → shown_entry j h (entry a r n) ≡ Some l
unfolding handling
turn-shows d h a r n e j w l (emitted q) m u = absurd (let z : None ≡ Some w = ap (λ (y : Handling). y.from) (some_is _ (handled_as e (Site j) (Some w) l) m) in cc)
turn-shows d h a r n e j w l (pulsed q p) m u = absurd (let z : None ≡ Some w = ap (λ (y : Handling). y.from) (some_is _ (handled_as e (Site j) (Some w) l) m) in cc)
turn-shows d h a r n e j w l (closed q p) m u = absurd (let z : None ≡ Some w = ap (λ (y : Handling). y.from) (some_is _ (handled_as e (Site j) (Some w) l) m) in cc)
turn-shows d h a r n e j w l (hopped {z = z} k q) m u = absurd (let y : Serializer z ≡ Site j = ap (λ (y : Handling). y.node) (some_is _ (handled_as e (Site j) (Some w) l) m) in cc)
turn-shows d h a r n e j w l (showed_turn {j = k} {l = y} p q s f g c) m u =
    let z : handled_as (view h k) (Site k) (seat_in d (view h k) k) y ≡ handled_as e (Site j) (Some w) l = some_is _ _ m in
    let s : k ≡ j = site_is k j (ap (λ (y : Handling). y.node) z) in
    shown_if k j y s ∙ ap (λ (y : Handling). Some y.label) z
turn-shows d h a r n e j w l (took {j = k} {l = y} p q s f g) m u =
    let z : handled_as (view h k) (Site k) (seat_in d (view h k) k) y ≡ handled_as e (Site j) (Some w) l = some_is _ _ m in
    absurd (let b : is_update y.kind ≡ is_update l.kind = ap (λ (y : Handling). is_update y.label.kind) z in cc)
turn-shows d h a r n e j w l _ m u = absurd (cc)

pub handled-shows : (d : Deployed) (h : List Entry) (e j : ℕ) (w : NodeId) (l : Label) → IsRun d h → HandledFrom d h e (Site j) (Some w) l → is_update l.kind ≡ true → Shows h j l
unfolding HandledFrom Gives
handled-shows d [] e j w l run m u = m
handled-shows d (x ∷ h) e j w l run (inl m) u = inl (handled-shows d h e j w l (before_of d h x run) m u)
handled-shows d (x ∷ h) e j w l run (inr m) u = inr (turn-shows d h x.act x.answer x.inner e j w l (step_of d h x run) m u)

-- ---- what is ahead of a site was shown there

one_of : (f : ℕ → Bool) (n k : ℕ) → k < n → f k ≡ true → list_any f (below n) ≡ true
one_of f zero k b e = absurd (omega arith)
one_of f (suc n) k b e =
    elim (split_le k n (omega arith)) [
      | inl s ↦ any-right f (below n) (n ∷ []) (subst (λ (m : ℕ). (f m || false) ≡ true) s (ap (λ (b : Bool). b || false) e))
      | inr l ↦ any-left f (below n) (n ∷ []) (one_of f n k l e)
    ]
  where
    or-right : (a b : Bool) → b ≡ true → (a || b) ≡ true
    or-right true b e = refl
    or-right false b e = e

    any-right : (f : ℕ → Bool) (xs ys : List ℕ) → list_any f ys ≡ true → list_any f (xs ++ ys) ≡ true
    any-right f [] ys e = e
    any-right f (x ∷ xs) ys e = or-right (f x) (list_any f (xs ++ ys)) (any-right f xs ys e)

    or-more : (a b c : Bool) → (b ≡ true → c ≡ true) → (a || b) ≡ true → (a || c) ≡ true
    or-more true b c w e = refl
    or-more false b c w e = w e

    any-left : (f : ℕ → Bool) (xs ys : List ℕ) → list_any f xs ≡ true → list_any f (xs ++ ys) ≡ true
    any-left f [] ys e = absurd (cc)
    any-left f (x ∷ xs) ys e = or-more (f x) (list_any f xs) (list_any f (xs ++ ys)) (any-left f xs ys) e

pub kept-target : (d : Deployed) (j : ℕ) (a : Label) → IsKeptAt d j a → (a.point.site ≡ j → ⊥) → is_target d a j ≡ true
unfolding is_target
kept-target d j a k n = go a.kind k.1
  where
    both : (a b : Bool) → a ≡ true → b ≡ true → (a && b) ≡ true
    both true b e f = f
    both false b e f = absurd (cc)

    other : (m n : ℕ) → (m ≡ n → ⊥) → not (m == n) ≡ true
    other m n e = grind (arith, nat_tests)

    go : (y : Kind) → is_update_of y k.0 ≡ true → elim y [ kind.Update items ↦ keeps_some d (list_of items) j && not (j == a.point.site) | kind.Move z ↦ j == z | kind.Pulse ↦ not (j == a.point.site) | kind.Close e ↦ not (j == a.point.site) ] ≡ true
    go (kind.Update items) u = both (keeps_some d (list_of items) j) (not (j == a.point.site)) (kept-some d (list_of items) k.0 j u k.2) (other j a.point.site (λ e. n (sym e)))
    go (kind.Move z) u = absurd (cc)
    go kind.Pulse u = absurd (cc)
    go (kind.Close e) u = absurd (cc)

pub kept-update : (d : Deployed) (j : ℕ) (a : Label) → IsKeptAt d j a → is_update a.kind ≡ true
kept-update d j a k = item-update a.kind k.0 k.1

pub goes-to : (d : Deployed) (t : TreeShape) (p q : NodeId) (a : Label) (j : ℕ) → j < d.sites → is_target d a j ≡ true → beyond t p q (Site j) ≡ true → goes_beyond d t p q a ≡ true
unfolding goes_beyond
goes-to d t p q a j b e f = one_of (λ k. is_target d a k && beyond t p q (Site k)) d.sites j b (both (is_target d a j) (beyond t p q (Site j)) e f)
  where
    both : (a b : Bool) → a ≡ true → b ≡ true → (a && b) ≡ true
    both true b e f = f
    both false b e f = absurd (cc)

-- a label of another site that is ahead of site j, and has j for a target, was handled there
pub arrives : (d : Deployed) (h : List Entry) (e : ℕ) (t : TreeShape) (j : ℕ) (a : Label) → AllCuttable d → IsRun d h → tree_of d e ≡ Some t → j < d.sites → Ahead d h e t a (Site j) → (a.point.site ≡ j → ⊥) → is_target d a j ≡ true → (w : NodeId) × HandledFrom d h e (Site j) (Some w) a
unfolding Ahead
arrives d h e t j a cuts run k b ah other target =
    let c : IsCuttable t = cuts.each e t k in
    let g : is_edge t (Serializer (seat_of t j)) (Site j) ≡ true = seat-edge t j in
    let f : beyond t (Serializer (seat_of t j)) (Site j) (Site j) ≡ true = c.far (Serializer (seat_of t j)) (Site j) g in
    let m : Handled d h e (Site j) a = ah (Serializer (seat_of t j)) (Site j) g (c.leaf (Serializer (seat_of t j)) j a.point.site g other) f (goes-to d t (Serializer (seat_of t j)) (Site j) a j b target f) in
    go m.0 m.1
  where
    go : (o : Option NodeId) → HandledFrom d h e (Site j) o a → (w : NodeId) × HandledFrom d h e (Site j) (Some w) a
    go None m = absurd (other (site_is a.point.site j (sym (own-site d h e (Site j) a run m))))
    go (Some w) m = (w, m)

pub arrives-shown : (d : Deployed) (h : List Entry) (e : ℕ) (t : TreeShape) (j : ℕ) (a : Label) → AllCuttable d → IsRun d h → tree_of d e ≡ Some t → j < d.sites → Ahead d h e t a (Site j) → (a.point.site ≡ j → ⊥) → IsKeptAt d j a → Shows h j a
arrives-shown d h e t j a cuts run k b ah other kept =
    let m : (w : NodeId) × HandledFrom d h e (Site j) (Some w) a = arrives d h e t j a cuts run k b ah other (kept-target d j a kept other) in
    handled-shows d h e j m.0 a run m.1 (kept-update d j a kept)
