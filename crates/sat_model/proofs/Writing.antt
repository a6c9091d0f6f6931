-- What an act that writes hands to its client's seat, and what the parts of its payload are.
use Rattle.std.specs.Prelude.{◌≡◌, ℕ, Bool, true, false, ◌||◌, not, ◌==◌, List, [], ◌∷◌, map, length, Option, Some, if◌then◌else◌, refl}
use Rattle.std.proofs.Common.{ap, subst, ◌∙◌, arith, inl, inr}
use Rattle.std.proofs.lemmas.Bool.{and_from}
use Rattle.sat_label.specs.declared.items.Items.TheVariants.{One}
use Rattle.sat_label.specs.declared.label.Kind.TheVariants as kind
use Rattle.sat_label.specs.declared.label.Label.{Label}
use Rattle.sat_label.specs.Grouped.{are_items, list_of}
use Rattle.sat_act.specs.declared.act.Act.{Act}
use Rattle.sat_act.specs.declared.act.Act.TheVariants as act
use Rattle.sat_act.specs.declared.answer.Answer.{Answer}
use Rattle.sat_act.specs.declared.entry.Entry.{Entry}
use Rattle.sat_act.specs.Deployed.{Deployed}
use Rattle.sat_act.specs.Done.{made_in, Written, write_in}
use Rattle.sat_act.specs.Parts.{replicates, seat, items_of, is_update, value_for, values_of}
use Rattle.sat_act.specs.Answers.{InRange}
use Rattle.sat_act.specs.Runs.{IsRun}
use Rattle.sat_act.specs.Goals.{Gives, Made, IsValid}
use Rattle.sat_laws.proofs.Labels.{some_is}
use Rattle.sat_laws.proofs.Runs.{step_of, before_of, range_of, entry}
use Rattle.sat_laws.proofs.Steps.{Step, write_label, wrote, moved}
use Rattle.sat_laws.proofs.Values.{values-stay, values-new}
use Rattle.sat_model.specs.Input.{SiteInput}
use Rattle.sat_model.specs.Input as given
use Rattle.sat_model.specs.Fits.{has_parts}
use Rattle.sat_model.specs.Next.{part_for}
use Rattle.sat_model.specs.Replay.{carrying, given_at, given_seat, handed}
use Rattle.sat_model.proofs.Kept.{at-seat}

-- ---- what is handed

-- what a write hands to its client's seat
abbrev pub write_input : List Entry → Written → SiteInput
write_input h w = given.Write (carrying h w.client) w.items w.values

pub write-hands : (d : Deployed) (h : List Entry) (a : Act) (w : Written) (i : ℕ) → write_in a ≡ Some w → handed d h a i ≡ given_seat (seat d h w.client) i (write_input h w)
unfolding handed
write-hands d h (act.Write c x v) w i e = ap (λ (y : Written). given_seat (seat d h y.client) i (write_input h y)) (some_is (record { client = c; items = One x; values = v ∷ [] }) w e)
write-hands d h (act.Writes c items values) w i e = ap (λ (y : Written). given_seat (seat d h y.client) i (write_input h y)) (some_is (record { client = c; items = items; values = values }) w e)
write-hands d h _ w i e = absurd (cc)

-- a part of a site that is handed a write, where the client is seated at k
pub at-write : {X : Type 0} (G : Option SiteInput → X) (x : X) (d : Deployed) (h : List Entry) (a : Act) (w : Written) (i k : ℕ) → write_in a ≡ Some w → seat d h w.client ≡ Some k → G (given_at k i (write_input h w)) ≡ x → G (handed d h a i) ≡ x
at-write G x d h a w i k z p e = ap G (write-hands d h a w i z) ∙ at-seat G x i k (write_input h w) (seat d h w.client) p e

-- ---- parts

-- of whole parts, the value for an item is that of the values
pub part-value : (xs : List ℕ) (vs : List (List ℕ)) (x : ℕ) → part_for xs (map (λ v. Some v) vs) x ≡ value_for xs vs x
part-value [] vs x = refl
part-value (y ∷ ys) [] x = refl
part-value (y ∷ ys) (v ∷ vs) x = ap (λ (z : List ℕ). if y == x then v else z) (part-value ys vs x)

-- as many values as items are parts for each site
pub parts-all : (d : Deployed) (j : ℕ) (xs : List ℕ) (vs : List (List ℕ)) → length vs ≡ length xs → has_parts d j xs (map (λ v. Some v) vs) ≡ true
parts-all d j [] [] e = refl
parts-all d j [] (v ∷ vs) e = absurd (omega (arith, e))
parts-all d j (x ∷ xs) [] e = absurd (omega (arith, e))
parts-all d j (x ∷ xs) (v ∷ vs) e = and_from _ _ (either (not (replicates d x j))) (parts-all d j xs vs (omega (arith, e)))
  where
    either : (b : Bool) → (b || true) ≡ true
    either true = refl
    either false = refl

-- ---- a write in range

-- it has a value for each item
pub write-many : (d : Deployed) (a : Act) (w : Written) → InRange d a → write_in a ≡ Some w → length w.values ≡ length (list_of w.items)
write-many d (act.Write c x v) w range e = subst (λ (y : Written). length y.values ≡ length (list_of y.items)) (some_is (record { client = c; items = One x; values = v ∷ [] }) w e) refl
write-many d (act.Writes c items values) w range e = subst (λ (y : Written). length y.values ≡ length (list_of y.items)) (some_is (record { client = c; items = items; values = values }) w e) range.0
write-many d _ w range e = absurd (cc)

-- its items ascend
pub write-ascends : (d : Deployed) (a : Act) (w : Written) → InRange d a → write_in a ≡ Some w → are_items (list_of w.items) ≡ true
write-ascends d (act.Write c x v) w range e = subst (λ (y : Written). are_items (list_of y.items) ≡ true) (some_is (record { client = c; items = One x; values = v ∷ [] }) w e) refl
write-ascends d (act.Writes c items values) w range e = subst (λ (y : Written). are_items (list_of y.items) ≡ true) (some_is (record { client = c; items = items; values = values }) w e) range.1
write-ascends d _ w range e = absurd (cc)

-- an update that is made now has a value for each item
many-now : (d : Deployed) (h : List Entry) (a : Act) (r : Answer) (n : Bool) (l : Label) → InRange d a → Step d h a r → made_in r ≡ Some l → is_update l.kind ≡ true → length (values_of (entry a r n ∷ h) l) ≡ length (items_of l.kind)
many-now d h a r n l range (wrote {w = w} {i = i} z p q b) m u =
    subst (λ (k : Label). length (values_of (entry a r n ∷ h) k) ≡ length (items_of k.kind)) (some_is (write_label d h w i) l m)
    (ap (λ (vs : List (List ℕ)). length vs) (values-new h (write_label d h w i) n a w z) ∙ write-many d a w range z)
many-now d h a r n l range (moved {j = j} p q b) m u = absurd (let e : is_update (kind.Move j) ≡ true = ap (λ (k : Label). is_update k.kind) (some_is _ l m) ∙ u in cc)
many-now d h a r n l range _ m u = absurd (cc)

-- so has each that was made
pub values-many : (d : Deployed) (h : List Entry) (l : Label) → IsValid d → IsRun d h → Made h l → is_update l.kind ≡ true → length (values_of h l) ≡ length (items_of l.kind)
unfolding Gives
values-many d [] l v run m u = absurd m
values-many d (e ∷ h) l v run (inl m) u = ap (λ (vs : List (List ℕ)). length vs) (values-stay d h e l v run m) ∙ values-many d h l v (before_of d h e run) m u
values-many d (e ∷ h) l v run (inr m) u = many-now d h e.act e.answer e.inner l (range_of d h e run) (step_of d h e run) m u
