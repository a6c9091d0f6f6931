-- What clients and labels know was made earlier, and lies at or below what clients carry.
use Rattle.std.specs.Prelude.{◌≡◌, ◌<◌, ◌≤◌, ℕ, ◌+◌, Bool, true, false, List, [], ◌∷◌, Option, Some, None, refl, ◌==◌, max, if◌then◌else◌}
use Rattle.std.proofs.Common.{sym, subst, arith, inl, inr, ◌∙◌}
use Rattle.std.proofs.lemmas.Bool.Decides.{nat_tests}
use Rattle.sat_label.specs.declared.point.Point.{Point}
use Rattle.sat_label.specs.declared.label.Label.{Label}
use Rattle.sat_label.specs.Order.{point_le, greater_point, zero_point}
use Rattle.sat_label.proofs.Orders.{point_le-self}
use Rattle.sat_act.specs.declared.act.Act.{Act}
use Rattle.sat_act.specs.declared.answer.Answer.{Answer}
use Rattle.sat_act.specs.declared.answer.Answer.TheVariants as ans
use Rattle.sat_act.specs.declared.entry.Entry.{Entry}
use Rattle.sat_act.specs.Deployed.{Deployed}
use Rattle.sat_act.specs.Histories.{highest}
use Rattle.sat_act.specs.Done.{made_in, of_client, is_of}
use Rattle.sat_act.specs.Parts.{promise, carried, carried_entry}
use Rattle.sat_act.specs.Runs.{IsRun}
use Rattle.sat_act.specs.Causes.{Who, Client, Maker, Knows, LearnedBy, Past, Cause}
use Rattle.sat_act.specs.Goals.{Gives, Made, IsValid}
use Rattle.sat_laws.proofs.Runs.{step_of, before_of, entry}
use Rattle.sat_laws.proofs.Labels.{Making, making, some_is, made-new}
use Rattle.sat_label.proofs.Orders.{point_le-trans}

pub point_le-greater_left : (p q : Point) → point_le p (greater_point q p) ≡ true
point_le-greater_left p q = grind (arith, nat_tests)

pub point_le-greater_right : (p q : Point) → point_le q (greater_point q p) ≡ true
point_le-greater_right p q = grind (arith, nat_tests)

pub point_le-ts : (p q : Point) → point_le p q ≡ true → p.ts ≤ q.ts
point_le-ts p q h = grind (arith, nat_tests)

pub point_le-below : (p q : Point) → p.ts < q.ts → point_le p q ≡ true
point_le-below p q h = grind (arith, nat_tests)

-- the greatest point only rises
rises_by : (o : Option Point) (p : Point) → point_le p (elim o [ None ↦ p | Some q ↦ greater_point q p ]) ≡ true
rises_by None p = point_le-self p
rises_by (Some q) p = point_le-greater_left p q

pub highest-rises : (f : List Entry → Entry → Option Point) (p : Point) (e : Entry) (h : List Entry) → point_le (highest f p h) (highest f p (e ∷ h)) ≡ true
unfolding highest
highest-rises f p e h = rises_by (f h e) (highest f p h)

above_by : (o : Option Point) (p q : Point) → o ≡ Some q → point_le q (elim o [ None ↦ p | Some q ↦ greater_point q p ]) ≡ true
above_by None p q e = absurd (cc)
above_by (Some r) p q e = subst (λ (x : Point). point_le x (greater_point r p) ≡ true) (some_is r q e) (point_le-greater_right p r)

pub highest-above : (f : List Entry → Entry → Option Point) (p q : Point) (e : Entry) (h : List Entry) → f h e ≡ Some q → point_le q (highest f p (e ∷ h)) ≡ true
unfolding highest
highest-above f p q e h k = above_by (f h e) (highest f p h) q k

pub same_client : (c b : ℕ) → Some c ≡ Some b → (c == b) ≡ true
same_client c b e = let w : c ≡ b = some_is c b e in grind (arith, nat_tests)

-- what is known at a client is at or below what it carries; a cause is below its label
abbrev pub IsBelow : List Entry → Who → Label → Type 0
IsBelow h (Client c) a = point_le a.point (carried h c) ≡ true
IsBelow h (Maker b) a = a.point.ts < b.point.ts

chosen_some : (b : Bool) (x : Point) → b ≡ true → (if b then Some x else None) ≡ Some x
chosen_some true x e = refl
chosen_some false x e = absurd (cc)

is_of-some : (o : Option ℕ) (c : ℕ) → o ≡ Some c → elim o [ None ↦ false | Some b ↦ b == c ] ≡ true
is_of-some None c e = absurd (cc)
is_of-some (Some b) c e = same_client b c e

pub is_of-client : (a : Act) (c : ℕ) → of_client a ≡ Some c → is_of a c ≡ true
is_of-client a c o = is_of-some (of_client a) c o

learned-below : (h : List Entry) (c : ℕ) (x : Label) (a : Act) (r : Answer) (n : Bool) (knew : Who → Type 0) → ((l : Label) → knew (Maker l) → x.point.ts < l.point.ts) →
    of_client a ≡ Some c → LearnedBy r x knew → point_le x.point (carried (entry a r n ∷ h) c) ≡ true
unfolding carried
learned-below h c x a (ans.Wrote b) n knew bound o e =
    subst (λ (l : Label). point_le l.point (carried (entry a (ans.Wrote b) n ∷ h) c) ≡ true) e
    (highest-above (carried_entry c) zero_point b.point (entry a (ans.Wrote b) n) h (chosen_some (is_of a c) b.point (is_of-client a c o)))
learned-below h c x a (ans.ReadSome l v) n knew bound o (inl e) =
    subst (λ (m : Label). point_le m.point (carried (entry a (ans.ReadSome l v) n ∷ h) c) ≡ true) e
    (highest-above (carried_entry c) zero_point l.point (entry a (ans.ReadSome l v) n) h (chosen_some (is_of a c) l.point (is_of-client a c o)))
learned-below h c x a (ans.ReadSome l v) n knew bound o (inr k) =
    point_le-trans x.point l.point (carried (entry a (ans.ReadSome l v) n ∷ h) c) (point_le-below x.point l.point (bound l k))
    (highest-above (carried_entry c) zero_point l.point (entry a (ans.ReadSome l v) n) h (chosen_some (is_of a c) l.point (is_of-client a c o)))
learned-below h c x a _ n knew bound o e = absurd e

pub carried-rises : (h : List Entry) (e : Entry) (c : ℕ) → point_le (carried h c) (carried (e ∷ h) c) ≡ true
unfolding carried
carried-rises h e c = highest-rises (carried_entry c) zero_point e h

pub knows-below : (d : Deployed) (h : List Entry) (w : Who) (a : Label) → IsValid d → IsRun d h → Knows h w a → IsBelow h w a
unfolding Knows
knows-below d [] w a v run k = absurd k
knows-below d (e ∷ h) (Client c) a v run (inl k) =
    point_le-trans a.point (carried h c) (carried (e ∷ h) c) (knows-below d h (Client c) a v (before_of d h e run) k) (carried-rises h e c)
knows-below d (e ∷ h) (Maker b) a v run (inl k) = knows-below d h (Maker b) a v (before_of d h e run) k
knows-below d (e ∷ h) (Client c) a v run (inr k) =
    learned-below h c a e.act e.answer e.inner (λ w. Knows h w a) (λ l m. knows-below d h (Maker l) a v (before_of d h e run) m) k.0 k.1
knows-below d (e ∷ h) (Maker b) a v run (inr k) =
    let m : Making d h e.act b = making d h e.act e.answer b v (step_of d h e run) k.0 in
    let p : k.1.0 ≡ m.client = some_is k.1.0 m.client (sym k.1.1 ∙ m.is_client) in
    let q : point_le a.point (carried h k.1.0) ≡ true = knows-below d h (Client k.1.0) a v (before_of d h e run) k.1.2 in
    let t : a.point.ts ≤ (carried h k.1.0).ts = point_le-ts a.point (carried h k.1.0) q in
    let t' : a.point.ts ≤ (carried h m.client).ts = subst (λ (c : ℕ). a.point.ts ≤ (carried h c).ts) p t in
    let s : b.point.ts ≡ max (promise h b.point.site b.point.gear) (carried h m.client).ts + 1 = m.stamp in
    omega arith

-- only made labels have causes
pub cause-made : (h : List Entry) (b a : Label) → Cause h b a → Made h b
unfolding Knows Gives
cause-made [] b a k = absurd k
cause-made (e ∷ h) b a (inl k) = inl (cause-made h b a k)
cause-made (e ∷ h) b a (inr k) = inr k.0

-- the causes of a label that was made earlier are those that it had
pub cause-stays : (d : Deployed) (h : List Entry) (e : Entry) (b a : Label) → IsValid d → IsRun d (e ∷ h) → Made h b → Cause (e ∷ h) b a → Cause h b a
unfolding Knows
cause-stays d h e b a v run m (inl k) = k
cause-stays d h e b a v run m (inr k) = absurd (made-new d h e b v run k.0 m)

-- the causes of a new label are its client's past
pub cause-new : (d : Deployed) (h : List Entry) (e : Entry) (b a : Label) (c : ℕ) → IsValid d → IsRun d (e ∷ h) → made_in e.answer ≡ Some b → of_client e.act ≡ Some c → Cause (e ∷ h) b a → Past h c a
unfolding Knows
cause-new d h e b a c v run m o (inl k) = absurd (made-new d h e b v run m (cause-made h b a k))
cause-new d h e b a c v run m o (inr k) = subst (λ (x : ℕ). Past h x a) (some_is k.1.0 c (sym k.1.1 ∙ o)) k.1.2
