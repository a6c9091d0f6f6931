-- The values of an update stay with its label, and are those of its write.
use Rattle.std.specs.Prelude.{◌≡◌, ℕ, ◌+◌, Bool, true, false, List, [], ◌∷◌, Option, Some, None, refl}
use Rattle.std.proofs.Common.{sym, subst, inl, inr, ap, ◌∙◌}
use Rattle.std.proofs.lemmas.Bool.{false_from_ne_true}
use Rattle.sat_label.specs.declared.label.Label.{Label}
use Rattle.sat_label.specs.declared.label.Kind.TheVariants as kind
use Rattle.sat_label.specs.Order.{label_eq, point_at}
use Rattle.sat_act.specs.declared.act.Act.{Act}
use Rattle.sat_act.specs.declared.answer.Answer.{Answer}
use Rattle.sat_act.specs.declared.answer.Answer.TheVariants as ans
use Rattle.sat_act.specs.declared.entry.Entry.{Entry}
use Rattle.sat_act.specs.Deployed.{Deployed}
use Rattle.sat_act.specs.Done.{made_in, Written, write_in}
use Rattle.sat_act.specs.Parts.{items_of, is_update_of, value_for, value_of, values_of, values_if}
use Rattle.sat_act.specs.Answers.{base}
use Rattle.sat_act.specs.Runs.{IsRun}
use Rattle.sat_act.specs.Goals.{Gives, Made, IsValid, Writes, WritesNow, IsWriteOf}
use Rattle.sat_laws.proofs.Steps.{Step, write_label, wrote, moved}
use Rattle.sat_laws.proofs.Runs.{step_of, before_of, entry}
use Rattle.sat_laws.proofs.Labels.{made-new, some_is}
use Rattle.sat_label.specs.Grouped.{list_of}
use Rattle.sat_label.proofs.Orders.{same-label, label_eq-self}

values-step : (d : Deployed) (h : List Entry) (a : Act) (r : Answer) (n : Bool) (l : Label) → Step d h a r → ((m : Label) → made_in r ≡ Some m → label_eq m l ≡ false) → values_of (entry a r n ∷ h) l ≡ values_of h l
unfolding values_of
values-step d h a r n l (wrote {w = w} {i = i} z p q b) new = go (write_in a) (label_eq (write_label d h w i) l) (new (write_label d h w i) refl)
  where
    go : (o : Option Written) (b : Bool) → b ≡ false → elim (values_if b o) [ None ↦ values_of h l | Some y ↦ y ] ≡ values_of h l
    go None b e = refl
    go (Some w) true e = absurd (cc)
    go (Some w) false e = refl
values-step d h a r n l _ new = refl

-- the values of a made label stay
pub values-stay : (d : Deployed) (h : List Entry) (e : Entry) (l : Label) → IsValid d → IsRun d (e ∷ h) → Made h l → values_of (e ∷ h) l ≡ values_of h l
values-stay d h e l v run m =
    values-step d h e.act e.answer e.inner l (step_of d h e run) (λ k w. false_from_ne_true (label_eq k l) (λ s. made-new d h e l v run (w ∙ ap (λ (x : Label). Some x) (same-label k l s)) m))

-- the value of a made label for an item stays
pub value-stays : (d : Deployed) (h : List Entry) (e : Entry) (l : Label) (x : ℕ) → IsValid d → IsRun d (e ∷ h) → Made h l → value_of (e ∷ h) l x ≡ value_of h l x
value-stays d h e l x v run m = ap (λ (vs : List (List ℕ)). value_for (items_of l.kind) vs x) (values-stay d h e l v run m)

-- the values of a label that is made now are those of its write
pub values-new : (h : List Entry) (l : Label) (n : Bool) (a : Act) (w : Written) → write_in a ≡ Some w → values_of (entry a (ans.Wrote l) n ∷ h) l ≡ w.values
unfolding values_of
values-new h l n a w z = go (write_in a) (label_eq l l) z (label_eq-self l)
  where
    go : (o : Option Written) (b : Bool) → o ≡ Some w → b ≡ true → elim (values_if b o) [ None ↦ values_of h l | Some y ↦ y ] ≡ w.values
    go None b z e = absurd (cc)
    go (Some v) true z e = let s : v ≡ w = cc in ap (λ (y : Written). y.values) s
    go (Some v) false z e = absurd (cc)

-- an update that is made now is made by a write of each of its items
writes-now : (d : Deployed) (h : List Entry) (a : Act) (r : Answer) (n : Bool) (l : Label) (x : ℕ) → Step d h a r → made_in r ≡ Some l → is_update_of l.kind x ≡ true → WritesNow (entry a r n) x (value_of (entry a r n ∷ h) l x) l
writes-now d h a r n l x (wrote {w = w} {i = i} z p q b) m u =
    subst (λ (k : Label). is_update_of k.kind x ≡ true → WritesNow (entry a (ans.Wrote (write_label d h w i)) n) x (value_of (entry a (ans.Wrote (write_label d h w i)) n ∷ h) k x) k) (some_is (write_label d h w i) l m)
    (λ u. (w, z, u, ap (λ (vs : List (List ℕ)). value_for (list_of w.items) vs x) (sym (values-new h (write_label d h w i) n a w z)), refl)) u
writes-now d h a r n l x (moved {c = c} {j = j} {i = i} p q w) m u =
    absurd (let e : is_update_of (kind.Move j) x ≡ true = ap (λ (k : Label). is_update_of k.kind x) (some_is (record { point = point_at (base h c i 0 + 1) i 0; kind = kind.Move j }) l m) ∙ u in cc)
writes-now d h a r n l x _ m u = absurd (cc)

-- each update that was made was made by a write of each of its items, and has the value of that write for it
pub writes-is : (d : Deployed) (h : List Entry) (l : Label) (x : ℕ) → IsValid d → IsRun d h → Made h l → is_update_of l.kind x ≡ true → Writes h x (value_of h l x) l
unfolding Gives Writes
writes-is d [] l x v run m u = absurd m
writes-is d (e ∷ h) l x v run (inl m) u =
    inl (subst (λ (k : List ℕ). Writes h x k l) (sym (value-stays d h e l x v run m)) (writes-is d h l x v (before_of d h e run) m u))
writes-is d (e ∷ h) l x v run (inr m) u = inr (writes-now d h e.act e.answer e.inner l x (step_of d h e run) m u)

pub write-of : (d : Deployed) (h : List Entry) (l : Label) (x : ℕ) → IsValid d → IsRun d h → Made h l → is_update_of l.kind x ≡ true → IsWriteOf h x l
write-of d h l x v run m u = record { update = u; written = writes-is d h l x v run m u }
