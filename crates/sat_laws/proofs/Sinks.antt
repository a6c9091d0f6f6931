-- The sink of a site: labels leave in the order of their points, and the cut is a true line.
use Rattle.std.specs.Prelude.{◌≡◌, ◌⊎◌, ◌<◌, ◌≤◌, ℕ, zero, suc, ◌+◌, Bool, true, false, ◌&&◌, not, List, [], ◌∷◌, Option, Some, None, refl, ◌==◌, max, min, if◌then◌else◌}
use Rattle.std.proofs.Common.{sym, subst, arith, inl, inr, ap, ◌∙◌}
use Rattle.std.proofs.lemmas.Bool.Decides.{nat_tests}
use Rattle.std.proofs.Math.Nat.{le_refl}
use Rattle.sat_label.specs.declared.label.Label.{Label}
use Rattle.sat_label.specs.Order.{label_eq}
use Rattle.sat_label.specs.Words.{has}
use Rattle.sat_act.specs.declared.entry.Entry.{Entry}
use Rattle.sat_act.specs.Deployed.{Deployed}
use Rattle.sat_act.specs.Histories.{up_to}
use Rattle.sat_act.specs.Done.{made_in, is_gather}
use Rattle.sat_act.specs.Parts.{promise, made, made_entry, made_to, gathered, least_promise, stable, sent, sent_entry, pending, carried}
use Rattle.sat_act.specs.Runs.{IsRun}
use Rattle.sat_act.specs.Goals.{Gives, Made, IsValid}
use Rattle.sat_laws.proofs.Runs.{step_of, before_of}
use Rattle.sat_laws.proofs.Gears.{promise-rises, both_equal, split_le}
use Rattle.sat_laws.proofs.Labels.{Making, making, some_is, IsPlaced, made-placed}
use Rattle.sat_laws.proofs.Members.{listed-gives, gives-listed}
use Rattle.sat_label.specs.Members.{In}
use Rattle.sat_label.proofs.Members.{In-left, In-right, In-parts, In-filter, into-filter, has-in}

-- site i sent l
abbrev pub Sent : List Entry → ℕ → Label → Type 0
Sent h i l = Gives (sent_entry i) h l

-- site i sent a before l
unfoldable pub Precedes : List Entry → ℕ → Label → Label → Type 0
Precedes [] i a l = ⊥
Precedes (e ∷ h) i a l = Precedes h i a l ⊎ ((sent_entry i h e ≡ Some l) × Sent h i a)

pub kept : {X : Type 0} (p : X → Bool) (o : Option X) (x : X) → elim o [ None ↦ None | Some y ↦ if p y then Some y else None ] ≡ Some x → (o ≡ Some x) × (p x ≡ true)
kept p None x e = absurd (cc)
kept p (Some y) x e = go (p y) refl e
  where
    go : (b : Bool) → p y ≡ b → (if b then Some y else None) ≡ Some x → (Some y ≡ Some x) × (p x ≡ true)
    go true w k = (k, ap p (sym (some_is y x k)) ∙ w)
    go false w k = absurd (cc)

pub keep : {X : Type 0} (p : X → Bool) (o : Option X) (x : X) → o ≡ Some x → p x ≡ true → elim o [ None ↦ None | Some y ↦ if p y then Some y else None ] ≡ Some x
keep p None x e k = absurd (cc)
keep p (Some y) x e k = go (p y) (ap p (some_is y x e) ∙ k)
  where
    go : (b : Bool) → b ≡ true → (if b then Some y else None) ≡ Some x
    go true w = e
    go false w = absurd (cc)

pub gives-map : {X Y : Type 0} (f : List Entry → Entry → Option X) (g : List Entry → Entry → Option Y) (x : X) (y : Y) → ((h : List Entry) (e : Entry) → f h e ≡ Some x → g h e ≡ Some y) → (h : List Entry) → Gives f h x → Gives g h y
unfolding Gives
gives-map f g x y k [] m = m
gives-map f g x y k (e ∷ h) (inl m) = inl (gives-map f g x y k h m)
gives-map f g x y k (e ∷ h) (inr m) = inr (k h e m)

made-at : (i g : ℕ) (l : Label) (h : List Entry) → Gives (made_entry i g) h l → ((l.point.site == i) && (l.point.gear == g)) ≡ true
unfolding Gives
made-at i g l [] k = absurd k
made-at i g l (e ∷ h) (inl k) = made-at i g l h k
made-at i g l (e ∷ h) (inr k) = (kept (λ (m : Label). (m.point.site == i) && (m.point.gear == g)) (made_in e.answer) l k).1

pub from-made : (h : List Entry) (i g : ℕ) (l : Label) → In (made h i g) l → Made h l × (l.point.site ≡ i) × (l.point.gear ≡ g)
unfolding made
from-made h i g l m =
    let k : Gives (made_entry i g) h l = listed-gives (made_entry i g) h l m in
    let w : (l.point.site ≡ i) × (l.point.gear ≡ g) = both_equal l.point.site l.point.gear i g (made-at i g l h k) in
    (gives-map (made_entry i g) (λ before e. made_in e.answer) l l (λ b e w. (kept (λ (m : Label). (m.point.site == i) && (m.point.gear == g)) (made_in e.answer) l w).0) h k, w.0, w.1)

own_place : (i g : ℕ) → ((i == i) && (g == g)) ≡ true
own_place i g = grind (arith, nat_tests)

pub into-made : (h : List Entry) (l : Label) → Made h l → In (made h l.point.site l.point.gear) l
unfolding made
into-made h l m =
    gives-listed (made_entry l.point.site l.point.gear) h l
    (gives-map (λ before e. made_in e.answer) (made_entry l.point.site l.point.gear) l l (λ b e w. keep (λ (m : Label). (m.point.site == l.point.site) && (m.point.gear == l.point.gear)) (made_in e.answer) l w (own_place l.point.site l.point.gear)) h m)

pub from-made_to : (h : List Entry) (i n : ℕ) (l : Label) → In (made_to h i n) l → Made h l × (l.point.site ≡ i)
unfolding made_to
from-made_to h i zero l m = absurd m
from-made_to h i (suc n) l m =
    elim (In-parts (made_to h i n) (made h i n) l m) [ inl a ↦ from-made_to h i n l a | inr b ↦ let w : Made h l × (l.point.site ≡ i) × (l.point.gear ≡ n) = from-made h i n l b in (w.0, w.1) ]

pub into-made_to : (h : List Entry) (l : Label) (n : ℕ) → l.point.gear < n → Made h l → In (made_to h l.point.site n) l
unfolding made_to
into-made_to h l zero g m = absurd (omega arith)
into-made_to h l (suc n) g m =
    elim (split_le l.point.gear n (omega arith)) [
      | inl e ↦ In-right (made_to h l.point.site n) (made h l.point.site n) l (subst (λ (k : ℕ). In (made h l.point.site k) l) e (into-made h l m))
      | inr k ↦ In-left (made_to h l.point.site n) (made h l.point.site n) l (into-made_to h l n k m)
    ]

-- ---- what was gathered

gathered-step : (e : Entry) (h : List Entry) (i : ℕ) (b : Bool) → is_gather e.act i ≡ b → gathered (e ∷ h) i ≡ (if b then e ∷ h else gathered h i)
unfolding gathered
gathered-step e h i b k = subst (λ (c : Bool). elim c [ true ↦ e ∷ h | false ↦ up_to (λ x. is_gather x.act i) h ] ≡ (if b then e ∷ h else up_to (λ x. is_gather x.act i) h)) (sym k) (go b)
  where
    go : (b : Bool) → elim b [ true ↦ e ∷ h | false ↦ up_to (λ x. is_gather x.act i) h ] ≡ (if b then e ∷ h else up_to (λ x. is_gather x.act i) h)
    go true = refl
    go false = refl

-- by whether the entry was a gather of i
pub by_gather : (e : Entry) (h : List Entry) (i : ℕ) (P : List Entry → Type 0) → (is_gather e.act i ≡ true → P (e ∷ h)) → (is_gather e.act i ≡ false → P (gathered h i)) → P (gathered (e ∷ h) i)
by_gather e h i P if_so if_not = go (is_gather e.act i) refl
  where
    go : (b : Bool) → is_gather e.act i ≡ b → P (gathered (e ∷ h) i)
    go true k = subst P (sym (gathered-step e h i true k)) (if_so k)
    go false k = subst P (sym (gathered-step e h i false k)) (if_not k)

pub gathered-promise : (d : Deployed) (h : List Entry) (i g : ℕ) → i < d.sites → g < d.gears → IsRun d h → promise (gathered h i) i g ≤ promise h i g
gathered-promise d [] i g x y run = unfold gathered in le_refl (promise [] i g)
gathered-promise d (e ∷ h) i g x y run =
    by_gather e h i (λ k. promise k i g ≤ promise (e ∷ h) i g) (λ _. le_refl (promise (e ∷ h) i g))
    (λ _. let a : promise (gathered h i) i g ≤ promise h i g = gathered-promise d h i g x y (before_of d h e run) in
    let b : promise h i g ≤ promise (e ∷ h) i g = promise-rises d h e i g x y run in omega arith)

least_promise-below : (h : List Entry) (i n g : ℕ) → g < n → least_promise h i n ≤ promise h i g
unfolding least_promise
least_promise-below h i zero g k = absurd (omega arith)
least_promise-below h i (suc zero) g k = let e : g ≡ 0 = omega arith in subst (λ (x : ℕ). promise h i 0 ≤ promise h i x) (sym e) (le_refl (promise h i 0))
least_promise-below h i (suc (suc n)) g k =
    elim (split_le g (suc n) (omega arith)) [
      | inl e ↦ subst (λ (x : ℕ). min (least_promise h i (suc n)) (promise h i (suc n)) ≤ promise h i x) (sym e) (omega arith)
      | inr w ↦ let a : least_promise h i (suc n) ≤ promise h i g = least_promise-below h i (suc n) g w in omega arith
    ]

-- a made label at or below stable was gathered
pub new-unstable : (d : Deployed) (h : List Entry) (e : Entry) (l : Label) → IsValid d → IsRun d (e ∷ h) → made_in e.answer ≡ Some l → l.point.ts ≤ least_promise (gathered h l.point.site) l.point.site d.gears → ⊥
new-unstable d h e l v run new s =
    let k : Making d h e.act l = making d h e.act e.answer l v (step_of d h e run) new in
    let p : IsPlaced d (e ∷ h) l = made-placed d (e ∷ h) l v run (unfold Gives in inr new) in
    let a : least_promise (gathered h l.point.site) l.point.site d.gears ≤ promise (gathered h l.point.site) l.point.site l.point.gear = least_promise-below (gathered h l.point.site) l.point.site d.gears l.point.gear p.gear in
    let b : promise (gathered h l.point.site) l.point.site l.point.gear ≤ promise h l.point.site l.point.gear = gathered-promise d h l.point.site l.point.gear p.site p.gear (before_of d h e run) in
    let t : l.point.ts ≡ max (promise h l.point.site l.point.gear) (carried h k.client).ts + 1 = k.stamp in
    omega arith

pub stable-made : (d : Deployed) (h : List Entry) (l : Label) → IsValid d → IsRun d h → Made h l → l.point.ts ≤ stable d h l.point.site → Made (gathered h l.point.site) l
unfolding stable Gives
stable-made d [] l v run m s = absurd m
stable-made d (e ∷ h) l v run m s =
    by_gather e h l.point.site (λ k. l.point.ts ≤ least_promise k l.point.site d.gears → Made k l) (λ _ _. m)
    (λ _ w. elim m [ inl old ↦ stable-made d h l v (before_of d h e run) old w | inr new ↦ absurd (new-unstable d h e l v run new w) ]) s

-- what was gathered was made
pub gathered-made : (h : List Entry) (i : ℕ) (l : Label) → Made (gathered h i) l → Made h l
unfolding Gives
gathered-made [] i l m = unfold gathered in m
gathered-made (e ∷ h) i l m = by_gather e h i (λ k. Made k l → Made (e ∷ h) l) (λ _ w. w) (λ _ w. inl (gathered-made h i l w)) m

least_promise-rises : (d : Deployed) (h : List Entry) (e : Entry) (i n : ℕ) → i < d.sites → n ≤ d.gears → IsRun d (e ∷ h) → least_promise h i n ≤ least_promise (e ∷ h) i n
unfolding least_promise
least_promise-rises d h e i zero x y run = omega arith
least_promise-rises d h e i (suc zero) x y run = promise-rises d h e i 0 x y run
least_promise-rises d h e i (suc (suc n)) x y run =
    let a : least_promise h i (suc n) ≤ least_promise (e ∷ h) i (suc n) = least_promise-rises d h e i (suc n) x (omega arith) run in
    let b : promise h i (suc n) ≤ promise (e ∷ h) i (suc n) = promise-rises d h e i (suc n) x y run in
    omega arith

gathered-least : (d : Deployed) (h : List Entry) (i n : ℕ) → i < d.sites → n ≤ d.gears → IsRun d h → least_promise (gathered h i) i n ≤ least_promise h i n
unfolding least_promise
gathered-least d h i zero x y run = omega arith
gathered-least d h i (suc zero) x y run = gathered-promise d h i 0 x y run
gathered-least d h i (suc (suc n)) x y run =
    let a : least_promise (gathered h i) i (suc n) ≤ least_promise h i (suc n) = gathered-least d h i (suc n) x (omega arith) run in
    let b : promise (gathered h i) i (suc n) ≤ promise h i (suc n) = gathered-promise d h i (suc n) x y run in
    omega arith

-- stable doesn't fall
pub stable-rises : (d : Deployed) (h : List Entry) (e : Entry) (i : ℕ) → i < d.sites → IsRun d (e ∷ h) → stable d h i ≤ stable d (e ∷ h) i
unfolding stable
stable-rises d h e i x run =
    by_gather e h i (λ k. least_promise (gathered h i) i d.gears ≤ least_promise k i d.gears)
    (λ _. let a : least_promise (gathered h i) i d.gears ≤ least_promise h i d.gears = gathered-least d h i d.gears x (le_refl d.gears) (before_of d h e run) in
    let b : least_promise h i d.gears ≤ least_promise (e ∷ h) i d.gears = least_promise-rises d h e i d.gears x (le_refl d.gears) run in omega arith)
    (λ _. le_refl (least_promise (gathered h i) i d.gears))

-- ---- what was sent

pub pending-is : (d : Deployed) (h : List Entry) (i : ℕ) (l : Label) → In (pending d h i) l → Made (gathered h i) l × (l.point.site ≡ i) × (has label_eq (sent h i) l ≡ false)
unfolding pending
pending-is d h i l m =
    let a : In (made_to (gathered h i) i d.gears) l × (not (has label_eq (sent h i) l) ≡ true) = In-filter _ (made_to (gathered h i) i d.gears) l m in
    let b : Made (gathered h i) l × (l.point.site ≡ i) = from-made_to (gathered h i) i d.gears l a.0 in
    (b.0, b.1, not_not (has label_eq (sent h i) l) a.1)
  where
    not_not : (b : Bool) → not b ≡ true → b ≡ false
    not_not true e = absurd (cc)
    not_not false e = refl

-- a gathered label was sent or is pending
pub sent-or-pending : (d : Deployed) (h : List Entry) (l : Label) → l.point.gear < d.gears → Made (gathered h l.point.site) l → Sent h l.point.site l ⊎ In (pending d h l.point.site) l
unfolding pending sent
sent-or-pending d h l g m = go (has label_eq (sent h l.point.site) l) refl
  where
    go : (b : Bool) → has label_eq (sent h l.point.site) l ≡ b → Sent h l.point.site l ⊎ In (pending d h l.point.site) l
    go true e = inl (listed-gives (sent_entry l.point.site) h l (has-in (sent h l.point.site) l e))
    go false e = inr (into-filter _ (made_to (gathered h l.point.site) l.point.site d.gears) l (into-made_to (gathered h l.point.site) l d.gears g m) (ap not e))
