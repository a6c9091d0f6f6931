-- Made labels are new, and above what their makers knew.
use Rattle.std.specs.Prelude.{◌≡◌, ◌<◌, ◌≤◌, ℕ, ◌+◌, ◌%◌, Bool, true, false, ◌&&◌, List, [], ◌∷◌, Option, Some, None, refl, ◌==◌, max, if◌then◌else◌}
use Rattle.std.proofs.Common.{sym, subst, arith, inl, inr, ◌∙◌}
use Rattle.std.proofs.lemmas.Bool.Decides.{nat_tests}
use Rattle.sat_label.specs.declared.point.Point.{Point}
use Rattle.sat_label.specs.declared.label.Label.{Label}
use Rattle.sat_label.specs.Members.{is_made}
use Rattle.sat_act.specs.declared.act.Act.{Act}
use Rattle.sat_act.specs.declared.answer.Answer.{Answer}
use Rattle.sat_act.specs.declared.answer.Answer.TheVariants as ans
use Rattle.sat_act.specs.declared.entry.Entry.{Entry}
use Rattle.sat_act.specs.Deployed.{Deployed}
use Rattle.sat_act.specs.Done.{made_in, of_client}
use Rattle.sat_act.specs.Parts.{promise, carried, seat, known_by}
use Rattle.sat_act.specs.Answers.{InRange, base}
use Rattle.sat_act.specs.Runs.{IsRun}
use Rattle.sat_act.specs.Goals.{Gives, Made, IsValid}
use Rattle.sat_laws.proofs.Steps.{Step, wrote, moved, attached, left}
use Rattle.sat_laws.proofs.Runs.{step_of, before_of, range_of, entry}
use Rattle.sat_laws.proofs.Gears.{promise-rises}
use Rattle.sat_laws.proofs.Written.{write-client}
use Rattle.sat_label.specs.Grouped.{least_item, list_of}

-- where a test picks one of two values
pub chosen : {X : Type 0} (P : X → Type 0) (b : Bool) (x y : X) → (b ≡ true → P x) → (b ≡ false → P y) → P (elim (if b then Some x else None) [ None ↦ y | Some z ↦ z ])
chosen P true x y f g = f refl
chosen P false x y f g = g refl

pub some_is : {X : Type 0} (x y : X) → Some x ≡ Some y → x ≡ y
some_is x y e = cc

-- how a label is made
pub record Making (d : Deployed) (h : List Entry) (a : Act) (b : Label) : Type 0 where
  pub client : ℕ
  pub is_client : of_client a ≡ Some client
  pub seated : seat d h client ≡ Some b.point.site
  pub stamp : b.point.ts ≡ max (promise h b.point.site b.point.gear) (carried h client).ts + 1
  pub gear : b.point.gear < d.gears
  pub known : known_by b ≡ b.point
  pub kind : is_made b.kind ≡ true

mod_below : (x n : ℕ) → 0 < n → x % n < n
mod_below x n p = omega arith

pub making : (d : Deployed) (h : List Entry) (a : Act) (r : Answer) (b : Label) → IsValid d → Step d h a r → made_in r ≡ Some b → Making d h a b
unfolding base
making d h a r b v (wrote {w = w} {i = i} z p q k) e =
    subst (Making d h a) (some_is _ b e) (record { client = w.client; is_client = write-client a w z; seated = p; stamp = refl; gear = mod_below (least_item (list_of w.items)) d.gears v.some_gear; known = refl; kind = refl })
making d h a r b v (moved {c = c} p q w) e =
    subst (Making d h a) (some_is _ b e) (record { client = c; is_client = refl; seated = p; stamp = refl; gear = v.some_gear; known = refl; kind = refl })
making d h a r b v _ e = absurd (cc)

-- clients sit at sites
seat-step : (d : Deployed) (h : List Entry) (c i : ℕ) (a : Act) (r : Answer) (n : Bool) → InRange d a → ((k : ℕ) → seat d h c ≡ Some k → k < d.sites) →
    Step d h a r → seat d (entry a r n ∷ h) c ≡ Some i → i < d.sites
unfolding seat
seat-step d h c i a r n range old (attached {c = b} {j = j} p q) =
    chosen (λ (o : Option ℕ). o ≡ Some i → i < d.sites) (b == c) (Some j) (seat d h c) (λ _ e. subst (λ (k : ℕ). k < d.sites) (some_is j i e) range) (λ _ e. old i e)
seat-step d h c i a r n range old (moved {c = b} p q w) =
    chosen (λ (o : Option ℕ). o ≡ Some i → i < d.sites) (b == c) None (seat d h c) (λ _ e. absurd (cc)) (λ _ e. old i e)
seat-step d h c i a r n range old (left {c = b} p) =
    chosen (λ (o : Option ℕ). o ≡ Some i → i < d.sites) (b == c) None (seat d h c) (λ _ e. absurd (cc)) (λ _ e. old i e)
seat-step d h c i a r n range old _ = λ e. old i e

pub seat-range : (d : Deployed) (h : List Entry) (c i : ℕ) → IsValid d → IsRun d h → seat d h c ≡ Some i → i < d.sites
seat-range d [] c i v run e = v.homes c i (unfold seat in e)
seat-range d (e ∷ h) c i v run s =
    seat-step d h c i e.act e.answer e.inner (range_of d h e run) (λ k. seat-range d h c k v (before_of d h e run)) (step_of d h e run) s

own_gear : (i g : ℕ) → ((i == i) && (g == g)) ≡ false → ⊥
own_gear i g e = grind (arith, nat_tests)

picked : (b : Bool) (x y : ℕ) → (b ≡ false → ⊥) → x ≤ elim (if b then Some x else None) [ None ↦ y | Some z ↦ z ]
picked true x y k = omega arith
picked false x y k = absurd (k refl)

made-promise : (h : List Entry) (a : Act) (r : Answer) (n : Bool) (b : Label) → made_in r ≡ Some b → b.point.ts ≤ promise (entry a r n ∷ h) b.point.site b.point.gear
unfolding promise
made-promise h a (ans.Wrote l) n b e =
    subst (λ (m : Label). m.point.ts ≤ promise (entry a (ans.Wrote l) n ∷ h) m.point.site m.point.gear) (some_is l b e)
    (picked ((l.point.site == l.point.site) && (l.point.gear == l.point.gear)) l.point.ts (promise h l.point.site l.point.gear) (own_gear l.point.site l.point.gear))
made-promise h a (ans.Moved l) n b e =
    subst (λ (m : Label). m.point.ts ≤ promise (entry a (ans.Moved l) n ∷ h) m.point.site m.point.gear) (some_is l b e)
    (picked ((l.point.site == l.point.site) && (l.point.gear == l.point.gear)) l.point.ts (promise h l.point.site l.point.gear) (own_gear l.point.site l.point.gear))
made-promise h a _ n b e = absurd (cc)

-- where a made label stands: at a gear, and at or below its promise
pub record IsPlaced (d : Deployed) (h : List Entry) (l : Label) : Type 0 where
  pub site : l.point.site < d.sites
  pub gear : l.point.gear < d.gears
  pub ts : l.point.ts ≤ promise h l.point.site l.point.gear

pub made-placed : (d : Deployed) (h : List Entry) (l : Label) → IsValid d → IsRun d h → Made h l → IsPlaced d h l
unfolding Gives
made-placed d [] l v run m = absurd m
made-placed d (e ∷ h) l v run (inl m) =
    let p : IsPlaced d h l = made-placed d h l v (before_of d h e run) m in
    let up : promise h l.point.site l.point.gear ≤ promise (e ∷ h) l.point.site l.point.gear = promise-rises d h e l.point.site l.point.gear p.site p.gear run in
    record { site = p.site; gear = p.gear; ts = omega arith }
made-placed d (e ∷ h) l v run (inr m) =
    let k : Making d h e.act l = making d h e.act e.answer l v (step_of d h e run) m in
    record { site = seat-range d h k.client l.point.site v (before_of d h e run) k.seated; gear = k.gear; ts = made-promise h e.act e.answer e.inner l m }

point-clash : (d : Deployed) (h : List Entry) (e : Entry) (l m : Label) → IsValid d → IsRun d (e ∷ h) → Made h l → made_in e.answer ≡ Some m → l.point ≡ m.point → ⊥
point-clash d h e l m v run old now same =
    let k : Making d h e.act m = making d h e.act e.answer m v (step_of d h e run) now in
    let p : IsPlaced d h l = made-placed d h l v (before_of d h e run) old in
    let s : m.point.ts ≡ max (promise h m.point.site m.point.gear) (carried h k.client).ts + 1 = k.stamp in
    let t : l.point.ts ≤ promise h l.point.site l.point.gear = p.ts in
    let t' : m.point.ts ≤ promise h m.point.site m.point.gear = subst (λ (q : Point). q.ts ≤ promise h q.site q.gear) same t in
    omega arith

-- no label is made twice
pub made-new : (d : Deployed) (h : List Entry) (e : Entry) (l : Label) → IsValid d → IsRun d (e ∷ h) → made_in e.answer ≡ Some l → Made h l → ⊥
made-new d h e l v run m old =
    let k : Making d h e.act l = making d h e.act e.answer l v (step_of d h e run) m in
    let p : IsPlaced d h l = made-placed d h l v (before_of d h e run) old in
    let s : l.point.ts ≡ max (promise h l.point.site l.point.gear) (carried h k.client).ts + 1 = k.stamp in
    let t : l.point.ts ≤ promise h l.point.site l.point.gear = p.ts in
    omega arith

-- each made label's ts is at least 1, and above the promises before it
pub made-positive : (d : Deployed) (h : List Entry) (l : Label) → IsValid d → IsRun d h → Made h l → 1 ≤ l.point.ts
unfolding Gives
made-positive d [] l v run m = absurd m
made-positive d (e ∷ h) l v run (inl m) = made-positive d h l v (before_of d h e run) m
made-positive d (e ∷ h) l v run (inr m) =
    let k : Making d h e.act l = making d h e.act e.answer l v (step_of d h e run) m in
    let s : l.point.ts ≡ max (promise h l.point.site l.point.gear) (carried h k.client).ts + 1 = k.stamp in
    omega arith

-- no two made labels have one point
pub made-point : (d : Deployed) (h : List Entry) (l m : Label) → IsValid d → IsRun d h → Made h l → Made h m → l.point ≡ m.point → l ≡ m
unfolding Gives
made-point d [] l m v run a b e = absurd a
made-point d (x ∷ h) l m v run (inl a) (inl b) e = made-point d h l m v (before_of d h x run) a b e
made-point d (x ∷ h) l m v run (inr a) (inr b) e = some_is l m (sym a ∙ b)
made-point d (x ∷ h) l m v run (inl a) (inr b) e = absurd (point-clash d h x l m v run a b e)
made-point d (x ∷ h) l m v run (inr a) (inl b) e = absurd (point-clash d h x m l v run b a (sym e))

-- taking a made label makes its own point known
pub made-known : (d : Deployed) (h : List Entry) (l : Label) → IsValid d → IsRun d h → Made h l → known_by l ≡ l.point
unfolding Gives
made-known d [] l v run m = absurd m
made-known d (e ∷ h) l v run (inl m) = made-known d h l v (before_of d h e run) m
made-known d (e ∷ h) l v run (inr m) = (making d h e.act e.answer l v (step_of d h e run) m).known

pub made-kind : (d : Deployed) (h : List Entry) (l : Label) → IsValid d → IsRun d h → Made h l → is_made l.kind ≡ true
unfolding Gives
made-kind d [] l v run m = absurd m
made-kind d (e ∷ h) l v run (inl m) = made-kind d h l v (before_of d h e run) m
made-kind d (e ∷ h) l v run (inr m) = (making d h e.act e.answer l v (step_of d h e run) m).kind
