-- Labels on the links of a tree: each node handles what a label must come behind before the label.
use Rattle.std.specs.Prelude.{◌≡◌, ◌⊎◌, ◌<◌, ◌≤◌, ℕ, zero, suc, ◌+◌, Bool, true, false, ◌&&◌, not, List, [], ◌∷◌, ◌++◌, Option, Some, None, refl, ◌==◌, if◌then◌else◌, length, slice_get}
use Rattle.std.proofs.Common.{sym, subst, arith, inl, inr, ap, ◌∙◌, length-append}
use Rattle.std.proofs.lemmas.Bool.Decides.{nat_tests}
use Rattle.sat_label.specs.declared.label.Label.{Label}
use Rattle.sat_label.specs.declared.node.NodeId.{NodeId}
use Rattle.sat_label.specs.declared.node.NodeId.TheVariants.{Site}
use Rattle.sat_label.specs.Order.{node_eq}
use Rattle.sat_tree.specs.Shape.{TreeShape}
use Rattle.sat_label.proofs.SameNodes.{same-node, node-self}
use Rattle.sat_tree.specs.Cut.{is_edge, beyond}
use Rattle.sat_tree.specs.Laws.{IsCuttable}
use Rattle.sat_act.specs.declared.entry.Entry.{Entry}
use Rattle.sat_act.specs.Deployed.{Deployed}
use Rattle.sat_act.specs.Histories.{listed}
use Rattle.sat_act.specs.Parts.{Handling, handling, tree_of, link_front, entered, entered_entry, taken, taken_entry, came_from, goes_beyond, emission, sent_entry}
use Rattle.sat_act.specs.Runs.{IsRun}
use Rattle.sat_act.specs.Causes.{Cause}
use Rattle.sat_act.specs.Goals.{Gives}
use Rattle.sat_laws.proofs.Runs.{step_of, before_of, range_of}
use Rattle.sat_laws.proofs.Labels.{some_is}
use Rattle.sat_laws.proofs.Gears.{split_le}
use Rattle.sat_laws.proofs.Members.{listed-gives, gives-listed}
use Rattle.sat_laws.proofs.Cuts.{sent-site}
use Rattle.sat_laws.proofs.Handlings.{HandlingView, sends, passes, handled_as, handling-view}
use Rattle.sat_label.specs.Members.{In}
use Rattle.sat_label.proofs.Members.{In-get}

pub record AllCuttable (d : Deployed) : Type 0 where
  pub each : (e : ℕ) (t : TreeShape) → tree_of d e ≡ Some t → IsCuttable t

-- node u handled l in the tree of epoch e, and it came from there
unfoldable pub HandledFrom : Deployed → List Entry → ℕ → NodeId → Option NodeId → Label → Type 0
HandledFrom d [] e u o l = ⊥
HandledFrom d (x ∷ h) e u o l = HandledFrom d h e u o l ⊎ (handling d h x ≡ Some (handled_as e u o l))

abbrev pub Handled : Deployed → List Entry → ℕ → NodeId → Label → Type 0
Handled d h e u l = (o : Option NodeId) × HandledFrom d h e u o l

-- site i sent l in epoch e
unfoldable pub SentIn : List Entry → ℕ → ℕ → Label → Type 0
SentIn [] i e l = ⊥
SentIn (x ∷ h) i e l = SentIn h i e l ⊎ ((sent_entry i h x ≡ Some l) × (emission h i ≡ e))

-- l was sent behind a in epoch e: a is a cause of l, or its site sent it earlier
unfoldable pub Behind : List Entry → ℕ → Label → Label → Type 0
Behind [] e a l = ⊥
Behind (x ∷ h) e a l =
    Behind h e a l ⊎ ((i : ℕ) × (sent_entry i h x ≡ Some l) × (emission h i ≡ e) × SentIn h a.point.site e a × (Cause h l a ⊎ (a.point.site ≡ i)))

-- all that a must pass on its ways towards u was passed
unfoldable pub Ahead : Deployed → List Entry → ℕ → TreeShape → Label → NodeId → Type 0
Ahead d h e t a u =
    (p q : NodeId) → is_edge t p q ≡ true → beyond t p q (Site a.point.site) ≡ false → beyond t p q u ≡ true → goes_beyond d t p q a ≡ true → Handled d h e q a

-- ---- nodes and tests

pub handled-later : (d : Deployed) (h : List Entry) (x : Entry) (e : ℕ) (u : NodeId) (l : Label) → Handled d h e u l → Handled d (x ∷ h) e u l
unfolding HandledFrom
handled-later d h x e u l k = (k.0, inl k.1)

pub handled-now : (d : Deployed) (h : List Entry) (x : Entry) (e : ℕ) (u : NodeId) (o : Option NodeId) (l : Label) → handling d h x ≡ Some (handled_as e u o l) → Handled d (x ∷ h) e u l
unfolding HandledFrom
handled-now d h x e u o l w = (o, inr w)

pub ahead-later : (d : Deployed) (h : List Entry) (x : Entry) (e : ℕ) (t : TreeShape) (a : Label) (u : NodeId) → Ahead d h e t a u → Ahead d (x ∷ h) e t a u
unfolding Ahead
ahead-later d h x e t a u k p q b c f g = handled-later d h x e q a (k p q b c f g)

-- ---- entered and taken

pub entered-if : (d : Deployed) (e : ℕ) (t : TreeShape) (u v : NodeId) (h : List Entry) (x : Entry) (l : Label) → entered_entry d e t u v h x ≡ Some l →
    (o : Option NodeId) × (handling d h x ≡ Some (handled_as e u o l)) × (came_from (handled_as e u o l) v ≡ false) × (goes_beyond d t u v l ≡ true)
entered-if d e t u v h x l k = go (handling d h x) refl k
  where
    pick : (y : Handling) → handling d h x ≡ Some y → (b c f g : Bool) → (y.epoch == e) ≡ b → node_eq y.node u ≡ c → came_from y v ≡ f → goes_beyond d t u v y.label ≡ g →
        (if ((b && c) && (not f && g)) then Some y.label else None) ≡ Some l → (o : Option NodeId) × (handling d h x ≡ Some (handled_as e u o l)) × (came_from (handled_as e u o l) v ≡ false) × (goes_beyond d t u v l ≡ true)
    pick y w true true false true eb ec ef eg k =
        let el : y.label ≡ l = some_is y.label l k in
        let en : y.node ≡ u = same-node y.node u ec in
        let ee : y.epoch ≡ e = grind (arith, nat_tests) in
        (y.from, w ∙ ap (λ (z : Handling). Some z) (λ i. record { epoch = ee i; node = en i; from = y.from; label = el i }), ef, subst (λ (m : Label). goes_beyond d t u v m ≡ true) el eg)
    pick y w false c f g eb ec ef eg k = absurd (cc)
    pick y w true false f g eb ec ef eg k = absurd (cc)
    pick y w true true true g eb ec ef eg k = absurd (cc)
    pick y w true true false false eb ec ef eg k = absurd (cc)

    go : (o : Option Handling) → handling d h x ≡ o → elim o [ None ↦ None | Some y ↦ if ((y.epoch == e) && node_eq y.node u) && (not (came_from y v) && goes_beyond d t u v y.label) then Some y.label else None ] ≡ Some l →
        (o : Option NodeId) × (handling d h x ≡ Some (handled_as e u o l)) × (came_from (handled_as e u o l) v ≡ false) × (goes_beyond d t u v l ≡ true)
    go None w k = absurd (cc)
    go (Some y) w k = pick y w (y.epoch == e) (node_eq y.node u) (came_from y v) (goes_beyond d t u v y.label) refl refl refl refl k

pub entered-of : (d : Deployed) (e : ℕ) (t : TreeShape) (u v : NodeId) (h : List Entry) (x : Entry) (o : Option NodeId) (l : Label) → handling d h x ≡ Some (handled_as e u o l) → came_from (handled_as e u o l) v ≡ false → goes_beyond d t u v l ≡ true →
    entered_entry d e t u v h x ≡ Some l
entered-of d e t u v h x o l w f g = go (handling d h x) w
  where
    pick : (b c f g : Bool) → b ≡ true → c ≡ true → f ≡ false → g ≡ true → (if ((b && c) && (not f && g)) then Some l else None) ≡ Some l
    pick true true false true eb ec ef eg = refl
    pick false c f g eb ec ef eg = absurd (cc)
    pick true false f g eb ec ef eg = absurd (cc)
    pick true true true g eb ec ef eg = absurd (cc)
    pick true true false false eb ec ef eg = absurd (cc)

    num_self : (n : ℕ) → (n == n) ≡ true
    num_self n = grind (arith, nat_tests)

    go : (s : Option Handling) → s ≡ Some (handled_as e u o l) → elim s [ None ↦ None | Some y ↦ if ((y.epoch == e) && node_eq y.node u) && (not (came_from y v) && goes_beyond d t u v y.label) then Some y.label else None ] ≡ Some l
    go s k = subst (λ (s : Option Handling). elim s [ None ↦ None | Some y ↦ if ((y.epoch == e) && node_eq y.node u) && (not (came_from y v) && goes_beyond d t u v y.label) then Some y.label else None ] ≡ Some l) (sym k)
        (pick (e == e) (node_eq u u) (came_from (handled_as e u o l) v) (goes_beyond d t u v l) (num_self e) (node-self u) f g)

pub came-is : (o : Option NodeId) (e : ℕ) (u : NodeId) (l : Label) (v : NodeId) → came_from (handled_as e u o l) v ≡ true → o ≡ Some v
came-is None e u l v k = absurd (cc)
came-is (Some w) e u l v k = ap (λ (n : NodeId). Some n) (same-node w v k)

pub taken-if : (d : Deployed) (e : ℕ) (u v : NodeId) (h : List Entry) (x : Entry) (l : Label) → taken_entry d e u v h x ≡ Some l → handling d h x ≡ Some (handled_as e v (Some u) l)
taken-if d e u v h x l k = go (handling d h x) refl k
  where
    pick : (y : Handling) → handling d h x ≡ Some y → (b c f : Bool) → (y.epoch == e) ≡ b → node_eq y.node v ≡ c → came_from y u ≡ f →
        (if ((b && c) && f) then Some y.label else None) ≡ Some l → handling d h x ≡ Some (handled_as e v (Some u) l)
    pick y w true true true eb ec ef k =
        let el : y.label ≡ l = some_is y.label l k in
        let en : y.node ≡ v = same-node y.node v ec in
        let ee : y.epoch ≡ e = grind (arith, nat_tests) in
        let eo : y.from ≡ Some u = came-is y.from y.epoch y.node y.label u ef in
        w ∙ ap (λ (z : Handling). Some z) (λ i. record { epoch = ee i; node = en i; from = eo i; label = el i })
    pick y w false c f eb ec ef k = absurd (cc)
    pick y w true false f eb ec ef k = absurd (cc)
    pick y w true true false eb ec ef k = absurd (cc)

    go : (o : Option Handling) → handling d h x ≡ o → elim o [ None ↦ None | Some y ↦ if ((y.epoch == e) && node_eq y.node v) && came_from y u then Some y.label else None ] ≡ Some l →
        handling d h x ≡ Some (handled_as e v (Some u) l)
    go None w k = absurd (cc)
    go (Some y) w k = pick y w (y.epoch == e) (node_eq y.node v) (came_from y u) refl refl refl k

-- ---- how an entry handles

pub passing : (d : Deployed) (h : List Entry) (x : Entry) (y : Handling) (u : NodeId) → HandlingView d h x y → y.from ≡ Some u →
    (t : TreeShape) × (tree_of d y.epoch ≡ Some t) × (is_edge t u y.node ≡ true) × (link_front d h y.epoch t u y.node ≡ Some y.label)
passing d h x y u (sends i l b s) e = absurd (cc)
passing d h x y u (passes f t w v l k g s) e =
    let q : w ≡ u = some_is w u e in
    (t, k, subst (λ (n : NodeId). is_edge t n v ≡ true) q g, subst (λ (n : NodeId). link_front d h f t n v ≡ Some l) q s)

pub own-sending : (d : Deployed) (h : List Entry) (x : Entry) (y : Handling) → HandlingView d h x y → y.from ≡ None →
    (i : ℕ) × (y.node ≡ Site i) × (i < d.sites) × (sent_entry i h x ≡ Some y.label) × (emission h i ≡ y.epoch)
own-sending d h x y (sends i l b s) e = (i, refl, b, s, refl)
own-sending d h x y (passes f t w v l k g s) e = absurd (cc)

pub view-of : (d : Deployed) (h : List Entry) (x : Entry) (y : Handling) → IsRun d (x ∷ h) → handling d h x ≡ Some y → HandlingView d h x y
view-of d h x y run w = handling-view d h x.act x.answer x.inner y (range_of d h x run) (step_of d h x run) w

-- ---- places in lists

pub get-keep : {X : Type 0} (xs ys : List X) (m : ℕ) (a : X) → slice_get xs m ≡ Some a → slice_get (xs ++ ys) m ≡ Some a
get-keep [] ys m a e = absurd (cc)
get-keep (x ∷ xs) ys zero a e = e
get-keep (x ∷ xs) ys (suc m) a e = get-keep xs ys m a e

pub get-below : {X : Type 0} (xs : List X) (m : ℕ) (a : X) → slice_get xs m ≡ Some a → m < length xs
get-below [] m a e = absurd (cc)
get-below (x ∷ xs) zero a e = omega arith
get-below (x ∷ xs) (suc m) a e = let w : m < length xs = get-below xs m a e in omega arith

abbrev pub tail_of : {X : Type 0} → Option X → List X
tail_of o = elim o [ None ↦ [] | Some y ↦ y ∷ [] ]

get-tail : {X : Type 0} (o : Option X) (m : ℕ) (a : X) → slice_get (tail_of o) m ≡ Some a → (m ≡ 0) × (o ≡ Some a)
get-tail None m a e = absurd (cc)
get-tail (Some y) zero a e = (refl, e)
get-tail (Some y) (suc m) a e = absurd (cc)

pub get-cases : {X : Type 0} (xs : List X) (o : Option X) (m : ℕ) (a : X) → slice_get (xs ++ tail_of o) m ≡ Some a → (slice_get xs m ≡ Some a) ⊎ ((m ≡ length xs) × (o ≡ Some a))
get-cases [] o m a e = inr (get-tail o m a e)
get-cases (x ∷ xs) o zero a e = inl e
get-cases (x ∷ xs) o (suc m) a e = elim (get-cases xs o m a e) [ inl k ↦ inl k | inr k ↦ inr (ap suc k.0, k.1) ]

pub In-place : {X : Type 0} (xs : List X) (a : X) → In xs a → (m : ℕ) × (slice_get xs m ≡ Some a)
In-place [] a i = absurd i
In-place (x ∷ xs) a (inl e) = (0, ap (λ (y : _). Some y) e)
In-place (x ∷ xs) a (inr i) = let w : (m : ℕ) × (slice_get xs m ≡ Some a) = In-place xs a i in (suc w.0, w.1)

-- ---- what was taken was handled

pub entered-step : (d : Deployed) (h : List Entry) (x : Entry) (e : ℕ) (t : TreeShape) (u v : NodeId) → entered d (x ∷ h) e t u v ≡ entered d h e t u v ++ tail_of (entered_entry d e t u v h x)
unfolding entered
entered-step d h x e t u v = refl

length-grows : {X : Type 0} (xs ys : List X) → length xs ≤ length (xs ++ ys)
length-grows xs ys = omega (arith, length-append xs ys)

entered-grows : (d : Deployed) (h : List Entry) (x : Entry) (e : ℕ) (t : TreeShape) (u v : NodeId) → length (entered d h e t u v) ≤ length (entered d (x ∷ h) e t u v)
unfolding entered
entered-grows d h x e t u v = length-grows (listed (entered_entry d e t u v) h) (tail_of (entered_entry d e t u v h x))

pub entered-keeps : (d : Deployed) (h : List Entry) (x : Entry) (e : ℕ) (t : TreeShape) (u v : NodeId) (m : ℕ) (a : Label) → slice_get (entered d h e t u v) m ≡ Some a → slice_get (entered d (x ∷ h) e t u v) m ≡ Some a
unfolding entered
entered-keeps d h x e t u v m a k = get-keep (listed (entered_entry d e t u v) h) (tail_of (entered_entry d e t u v h x)) m a k

length-tail : {X : Type 0} (xs : List X) (o : Option X) → ((o ≡ None) × (length (xs ++ tail_of o) ≡ length xs)) ⊎ ((l : X) × (o ≡ Some l) × (length (xs ++ tail_of o) ≡ length xs + 1))
length-tail xs None = inl (refl, omega (arith, length-append xs []))
length-tail xs (Some l) = inr (l, refl, omega (arith, length-append xs (l ∷ [])))

taken-step : (d : Deployed) (h : List Entry) (x : Entry) (e : ℕ) (u v : NodeId) →
    ((taken_entry d e u v h x ≡ None) × (taken d (x ∷ h) e u v ≡ taken d h e u v)) ⊎ ((l : Label) × (taken_entry d e u v h x ≡ Some l) × (taken d (x ∷ h) e u v ≡ taken d h e u v + 1))
unfolding taken
taken-step d h x e u v = length-tail (listed (taken_entry d e u v) h) (taken_entry d e u v h x)

-- a taking takes the front
pub taking : (d : Deployed) (h : List Entry) (x : Entry) (e : ℕ) (t : TreeShape) (u v : NodeId) (l : Label) → IsRun d (x ∷ h) → tree_of d e ≡ Some t → handling d h x ≡ Some (handled_as e v (Some u) l) →
    (slice_get (entered d h e t u v) (taken d h e u v) ≡ Some l) × (is_edge t u v ≡ true)
unfolding link_front
taking d h x e t u v l run k w =
    let p : (s : TreeShape) × (tree_of d e ≡ Some s) × (is_edge s u v ≡ true) × (link_front d h e s u v ≡ Some l) = passing d h x (handled_as e v (Some u) l) u (view-of d h x (handled_as e v (Some u) l) run w) refl in
    let q : p.0 ≡ t = some_is p.0 t (sym p.1 ∙ k) in
    (subst (λ (s : TreeShape). link_front d h e s u v ≡ Some l) q p.3, subst (λ (s : TreeShape). is_edge s u v ≡ true) q p.2)

pub taken-below : (d : Deployed) (h : List Entry) (e : ℕ) (t : TreeShape) (u v : NodeId) → IsRun d h → tree_of d e ≡ Some t → taken d h e u v ≤ length (entered d h e t u v)
taken-below d [] e t u v run k = unfold taken entered in omega arith
taken-below d (x ∷ h) e t u v run k = go (taken-step d h x e u v) (taken-below d h e t u v (before_of d h x run) k) (entered-grows d h x e t u v)
  where
    go : ((taken_entry d e u v h x ≡ None) × (taken d (x ∷ h) e u v ≡ taken d h e u v)) ⊎ ((l : Label) × (taken_entry d e u v h x ≡ Some l) × (taken d (x ∷ h) e u v ≡ taken d h e u v + 1)) →
        taken d h e u v ≤ length (entered d h e t u v) → length (entered d h e t u v) ≤ length (entered d (x ∷ h) e t u v) → taken d (x ∷ h) e u v ≤ length (entered d (x ∷ h) e t u v)
    go (inl w) old grows = let q : taken d (x ∷ h) e u v ≡ taken d h e u v = w.1 in omega arith
    go (inr w) old grows =
        let q : taken d (x ∷ h) e u v ≡ taken d h e u v + 1 = w.2 in
        let p : slice_get (entered d h e t u v) (taken d h e u v) ≡ Some w.0 = (taking d h x e t u v w.0 run k (taken-if d e u v h x w.0 w.1)).0 in
        let b : taken d h e u v < length (entered d h e t u v) = get-below (entered d h e t u v) (taken d h e u v) w.0 p in
        omega arith

-- what stands at a taken place was handled
pub taken-handled : (d : Deployed) (h : List Entry) (e : ℕ) (t : TreeShape) (u v : NodeId) (m : ℕ) (a : Label) → IsRun d h → tree_of d e ≡ Some t → slice_get (entered d h e t u v) m ≡ Some a → m < taken d h e u v → Handled d h e v a
taken-handled d [] e t u v m a run k g b = absurd (unfold taken in omega arith)
taken-handled d (x ∷ h) e t u v m a run k g b =
    go (taken-step d h x e u v) (λ w q. taken-handled d h e t u v m a (before_of d h x run) k w q)
  where
    back : m < length (entered d h e t u v) → slice_get (entered d h e t u v) m ≡ Some a
    back lt = elim (get-cases (entered d h e t u v) (entered_entry d e t u v h x) m a (subst (λ (xs : List Label). slice_get xs m ≡ Some a) (entered-step d h x e t u v) g)) [ inl w ↦ w | inr w ↦ absurd (let q : m ≡ length (entered d h e t u v) = w.0 in omega arith) ]

    go : ((taken_entry d e u v h x ≡ None) × (taken d (x ∷ h) e u v ≡ taken d h e u v)) ⊎ ((l : Label) × (taken_entry d e u v h x ≡ Some l) × (taken d (x ∷ h) e u v ≡ taken d h e u v + 1)) →
        (slice_get (entered d h e t u v) m ≡ Some a → m < taken d h e u v → Handled d h e v a) → Handled d (x ∷ h) e v a
    go (inl w) old =
        let q : taken d (x ∷ h) e u v ≡ taken d h e u v = w.1 in
        let c : taken d h e u v ≤ length (entered d h e t u v) = taken-below d h e t u v (before_of d h x run) k in
        handled-later d h x e v a (old (back (omega arith)) (omega arith))
    go (inr w) old =
        let q : taken d (x ∷ h) e u v ≡ taken d h e u v + 1 = w.2 in
        let f : handling d h x ≡ Some (handled_as e v (Some u) w.0) = taken-if d e u v h x w.0 w.1 in
        let p : slice_get (entered d h e t u v) (taken d h e u v) ≡ Some w.0 = (taking d h x e t u v w.0 run k f).0 in
        let c : taken d h e u v < length (entered d h e t u v) = get-below (entered d h e t u v) (taken d h e u v) w.0 p in
        elim (split_le m (taken d h e u v) (omega arith)) [
          | inl same ↦
              let r : w.0 ≡ a = some_is w.0 a (sym (subst (λ (n : ℕ). slice_get (entered d h e t u v) n ≡ Some w.0) (sym same) p) ∙ back (omega arith)) in
              handled-now d h x e v (Some u) a (f ∙ ap (λ (y : Label). Some (handled_as e v (Some u) y)) r)
          | inr lt ↦ handled-later d h x e v a (old (back (omega arith)) lt)
        ]

-- ---- from where a label came

gives-handled : (d : Deployed) (h : List Entry) (e : ℕ) (t : TreeShape) (u v : NodeId) (l : Label) → Gives (entered_entry d e t u v) h l →
    (o : Option NodeId) × HandledFrom d h e u o l × (came_from (handled_as e u o l) v ≡ false) × (goes_beyond d t u v l ≡ true)
unfolding Gives HandledFrom
gives-handled d [] e t u v l k = absurd k
gives-handled d (x ∷ h) e t u v l (inl k) =
    let w : (o : Option NodeId) × HandledFrom d h e u o l × (came_from (handled_as e u o l) v ≡ false) × (goes_beyond d t u v l ≡ true) = gives-handled d h e t u v l k in
    (w.0, inl w.1, w.2, w.3)
gives-handled d (x ∷ h) e t u v l (inr k) =
    let w : (o : Option NodeId) × (handling d h x ≡ Some (handled_as e u o l)) × (came_from (handled_as e u o l) v ≡ false) × (goes_beyond d t u v l ≡ true) = entered-if d e t u v h x l k in
    (w.0, inr w.1, w.2, w.3)

handled-gives : (d : Deployed) (h : List Entry) (e : ℕ) (t : TreeShape) (u v : NodeId) (o : Option NodeId) (l : Label) → HandledFrom d h e u o l → came_from (handled_as e u o l) v ≡ false → goes_beyond d t u v l ≡ true → Gives (entered_entry d e t u v) h l
unfolding Gives HandledFrom
handled-gives d [] e t u v o l k f g = k
handled-gives d (x ∷ h) e t u v o l (inl k) f g = inl (handled-gives d h e t u v o l k f g)
handled-gives d (x ∷ h) e t u v o l (inr k) f g = inr (entered-of d e t u v h x o l k f g)

pub entered-in : (d : Deployed) (h : List Entry) (e : ℕ) (t : TreeShape) (u v : NodeId) (l : Label) → In (entered d h e t u v) l →
    (o : Option NodeId) × HandledFrom d h e u o l × (came_from (handled_as e u o l) v ≡ false) × (goes_beyond d t u v l ≡ true)
unfolding entered
entered-in d h e t u v l m = gives-handled d h e t u v l (listed-gives (entered_entry d e t u v) h l m)

pub into-entered : (d : Deployed) (h : List Entry) (e : ℕ) (t : TreeShape) (u v : NodeId) (o : Option NodeId) (l : Label) → HandledFrom d h e u o l → came_from (handled_as e u o l) v ≡ false → goes_beyond d t u v l ≡ true → In (entered d h e t u v) l
unfolding entered
into-entered d h e t u v o l k f g = gives-listed (entered_entry d e t u v) h l (handled-gives d h e t u v o l k f g)

pub own-site : (d : Deployed) (h : List Entry) (e : ℕ) (u : NodeId) (l : Label) → IsRun d h → HandledFrom d h e u None l → u ≡ Site l.point.site
unfolding HandledFrom Gives
own-site d [] e u l run w = absurd w
own-site d (x ∷ h) e u l run (inl w) = own-site d h e u l (before_of d h x run) w
own-site d (x ∷ h) e u l run (inr w) =
    let k : (i : ℕ) × (u ≡ Site i) × (i < d.sites) × (sent_entry i h x ≡ Some l) × (emission h i ≡ e) = own-sending d h x (handled_as e u None l) (view-of d h x (handled_as e u None l) run w) refl in
    let s : l.point.site ≡ k.0 = sent-site d (x ∷ h) k.0 l run (inr k.3) in
    k.1 ∙ ap (λ (i : ℕ). Site i) (sym s)

-- a label that came from v has its site on v's side
pub came-from-side : (d : Deployed) (h : List Entry) (e : ℕ) (t : TreeShape) (u v : NodeId) (l : Label) → AllCuttable d → IsRun d h → tree_of d e ≡ Some t → HandledFrom d h e u (Some v) l →
    (is_edge t v u ≡ true) × (beyond t u v (Site l.point.site) ≡ true)
unfolding HandledFrom
came-from-side d [] e t u v l cuts run k w = absurd w
came-from-side d (x ∷ h) e t u v l cuts run k (inl w) = came-from-side d h e t u v l cuts (before_of d h x run) k w
came-from-side d (x ∷ h) e t u v l cuts run k (inr w) =
    let c : IsCuttable t = cuts.each e t k in
    let p : (slice_get (entered d h e t v u) (taken d h e v u) ≡ Some l) × (is_edge t v u ≡ true) = taking d h x e t v u l run k w in
    let q : (o : Option NodeId) × HandledFrom d h e v o l × (came_from (handled_as e v o l) u ≡ false) × (goes_beyond d t v u l ≡ true) = entered-in d h e t v u l (In-get (entered d h e t v u) (taken d h e v u) l p.0) in
    (p.1, side c p.1 q.0 q.1 q.2 (λ z n. came-from-side d h e t v z l cuts (before_of d h x run) k n))
  where
    side : IsCuttable t → is_edge t v u ≡ true → (o : Option NodeId) → HandledFrom d h e v o l → came_from (handled_as e v o l) u ≡ false →
        ((z : NodeId) → HandledFrom d h e v (Some z) l → (is_edge t z v ≡ true) × (beyond t v z (Site l.point.site) ≡ true)) → beyond t u v (Site l.point.site) ≡ true
    side c g None n f old = subst (λ (y : NodeId). beyond t u v y ≡ true) (own-site d h e v l (before_of d h x run) n) (c.far u v (c.back v u g))
    side c g (Some z) n f old =
        let r : (is_edge t z v ≡ true) × (beyond t v z (Site l.point.site) ≡ true) = old z n in
        c.through u v z l.point.site (c.back v u g) (c.back z v r.0) (λ same. let y : node_eq z u ≡ true = subst (λ (y : NodeId). node_eq z y ≡ true) same (node-self z) in cc) r.1
