-- A client that is moving carries its Move's point, and its past is the Move's causes.
use Rattle.std.specs.Prelude.{◌≡◌, ◌⊎◌, ◌<◌, ℕ, ◌+◌, Bool, true, false, List, [], ◌∷◌, Option, Some, None, refl, ◌==◌, if◌then◌else◌}
use Rattle.std.proofs.Common.{sym, subst, arith, inl, inr, ap, ◌∙◌}
use Rattle.std.proofs.lemmas.Bool.Decides.{nat_tests}
use Rattle.std.proofs.lemmas.Bool.{eqb-true}
use Rattle.sat_label.specs.declared.label.Label.{Label}
use Rattle.sat_label.specs.declared.label.Kind.TheVariants as kind
use Rattle.sat_act.specs.declared.act.Act.{Act}
use Rattle.sat_act.specs.declared.act.Act.TheVariants as act
use Rattle.sat_act.specs.declared.answer.Answer.{Answer}
use Rattle.sat_act.specs.declared.answer.Answer.TheVariants as ans
use Rattle.sat_act.specs.declared.entry.Entry.{Entry}
use Rattle.sat_act.specs.Deployed.{Deployed}
use Rattle.sat_act.specs.Done.{made_in, is_of}
use Rattle.sat_act.specs.Parts.{seat, value_of}
use Rattle.sat_act.specs.Runs.{IsRun}
use Rattle.sat_act.specs.Causes.{Knows, Past, Cause}
use Rattle.sat_act.specs.Goals.{Gives, Made}
use Rattle.sat_laws.proofs.Written.{write-client, write-of_client}
use Rattle.sat_laws.proofs.Steps.{Step, write_label, wrote, moved, left, attached, read_some}
use Rattle.sat_laws.proofs.Runs.{step_of, before_of, entry}
use Rattle.sat_laws.proofs.Labels.{some_is}
use Rattle.sat_label.specs.declared.point.Point.{Point}
use Rattle.sat_label.specs.Order.{point_at, point_lt, greater_point}
use Rattle.sat_act.specs.Histories.{highest}
use Rattle.sat_act.specs.Parts.{carried, moving}
use Rattle.sat_act.specs.Answers.{base}

pub record IsMoving (d : Deployed) (h : List Entry) (c k : ℕ) : Type 0 where
  pub label : Label
  pub made : Made h label
  pub point : label.point ≡ carried h c
  pub kind : label.kind ≡ kind.Move k
  pub past : (a : Label) → Past h c a → Cause h label a
  pub unseated : seat d h c ≡ None

record IsQuiet (d : Deployed) (h : List Entry) (x : Entry) (c : ℕ) : Type 0 where
  pub carries : carried (x ∷ h) c ≡ carried h c
  pub past : (a : Label) → Past (x ∷ h) c a → Past h c a
  pub seat : seat d (x ∷ h) c ≡ seat d h c

quiet-moving : (d : Deployed) (h : List Entry) (x : Entry) (c k : ℕ) → IsQuiet d h x c → IsMoving d h c k → IsMoving d (x ∷ h) c k
unfolding Gives Knows
quiet-moving d h x c k q m = record { label = m.label; made = inl m.made; point = m.point ∙ sym q.carries; kind = m.kind; past = λ a p. inl (m.past a (q.past a p)); unseated = q.seat ∙ m.unseated }

other_client : (b c : ℕ) → (b == c) ≡ false → Some b ≡ Some c → ⊥
other_client b c e f = let w : b ≡ c = some_is b c f in grind (arith, nat_tests)

test_off : (b : Bool) (p q : Point) → b ≡ false → elim (if b then Some p else None) [ None ↦ q | Some y ↦ greater_point y q ] ≡ q
test_off true p q e = absurd (cc)
test_off false p q e = refl

seat_off : (b : Bool) (o : Option ℕ) → b ≡ false → elim (if b then Some None else None) [ None ↦ o | Some y ↦ y ] ≡ o
seat_off true o e = absurd (cc)
seat_off false o e = refl

seat_off_to : (b : Bool) (o : Option ℕ) (j : ℕ) → b ≡ false → elim (if b then Some (Some j) else None) [ None ↦ o | Some y ↦ y ] ≡ o
seat_off_to true o j e = absurd (cc)
seat_off_to false o j e = refl

-- by whether an act was this client's
by_client : {P : Type 0} (b c : ℕ) → ((b == c) ≡ true → P) → ((b == c) ≡ false → P) → P
by_client {P} b c f g = go (b == c) refl
  where
    go : (t : Bool) → (b == c) ≡ t → P
    go true e = f e
    go false e = g e

moving_off : (b : Bool) (o : Option ℕ) (k : ℕ) → elim (if b then Some None else None) [ None ↦ o | Some y ↦ y ] ≡ Some k → (b ≡ false) × (o ≡ Some k)
moving_off true o k e = absurd (cc)
moving_off false o k e = (refl, e)

moving_on : (b : Bool) (o : Option ℕ) (j k : ℕ) → elim (if b then Some (Some j) else None) [ None ↦ o | Some y ↦ y ] ≡ Some k → ((b ≡ true) × (j ≡ k)) ⊎ ((b ≡ false) × (o ≡ Some k))
moving_on true o j k e = inl (refl, some_is j k e)
moving_on false o j k e = inr (refl, e)

clash : (d : Deployed) (h : List Entry) (b c i : ℕ) → (b == c) ≡ true → seat d h b ≡ Some i → seat d h c ≡ None → ⊥
clash d h b c i e s n = let w : seat d h c ≡ Some i = subst (λ (y : ℕ). seat d h y ≡ Some i) (eqb-true b c e) s in cc

greater_is : (p q : Point) → q.ts < p.ts → greater_point p q ≡ p
greater_is p q l = go (point_lt p q) refl
  where
    not_below : (p q : Point) → q.ts < p.ts → point_lt p q ≡ true → ⊥
    not_below p q l e = grind (arith, nat_tests)

    go : (b : Bool) → point_lt p q ≡ b → (if b then q else p) ≡ p
    go true e = absurd (not_below p q l e)
    go false e = refl

test_on : (b : Bool) (p q : Point) → b ≡ true → q.ts < p.ts → p ≡ elim (if b then Some p else None) [ None ↦ q | Some y ↦ greater_point y q ]
test_on true p q e l = sym (greater_is p q l)
test_on false p q e l = absurd (cc)

seat_gone : (b : Bool) (o : Option ℕ) → b ≡ true → ◌≡◌ {A = Option ℕ} (elim (if b then Some None else None) [ None ↦ o | Some y ↦ y ]) None
seat_gone true o e = refl
seat_gone false o e = absurd (cc)

stamp-above : (h : List Entry) (b c i : ℕ) → b ≡ c → (carried h c).ts < base h b i 0 + 1
unfolding base
stamp-above h b c i e = subst (λ (y : ℕ). (carried h y).ts < base h b i 0 + 1) e (omega arith)

new-moving : (d : Deployed) (h : List Entry) (b c i j k : ℕ) (n : Bool) → (b == c) ≡ true → j ≡ k →
    IsMoving d (entry (act.Move b j) (ans.Moved (record { point = point_at (base h b i 0 + 1) i 0; kind = kind.Move j })) n ∷ h) c k
unfolding moving carried seat Knows Gives highest
new-moving d h b c i j k n e f = record {
  label = record { point = point_at (base h b i 0 + 1) i 0; kind = kind.Move j };
  made = inr refl;
  point = test_on (b == c) (point_at (base h b i 0 + 1) i 0) (carried h c) e (stamp-above h b c i (eqb-true b c e));
  kind = ap (λ (y : ℕ). kind.Move y) f;
  past = λ l z. inr (refl, (b, refl, subst (λ (y : ℕ). Past h y l) (sym (eqb-true b c e)) (elim z [ inl y ↦ y | inr y ↦ absurd y.1 ])));
  unseated = seat_gone (b == c) (seat d h c) e;
}

moving-step : (d : Deployed) (h : List Entry) (c k : ℕ) (a : Act) (r : Answer) (n : Bool) → Step d h a r → moving (entry a r n ∷ h) c ≡ Some k → (moving h c ≡ Some k → IsMoving d h c k) → IsMoving d (entry a r n ∷ h) c k
unfolding moving carried seat Knows Gives highest
moving-step d h c k a r n (wrote {w = w} {i = i} z p q b) m old =
    let o : IsMoving d h c k = old m in
    by_client w.client c (λ e. absurd (clash d h w.client c i e p o.unseated))
    (λ e. quiet-moving d h (entry a (ans.Wrote (write_label d h w i)) n) c k (record { carries = test_off (is_of a c) _ _ (write-of_client a w c z ∙ e); past = λ l y. elim y [ inl t ↦ t | inr t ↦ absurd (other_client w.client c e (sym (write-client a w z) ∙ t.0)) ]; seat = refl }) o)
moving-step d h c k a r n (read_some {c = b} {x = x} {i = i} {l = l} p q w) m old =
    let o : IsMoving d h c k = old m in
    by_client b c (λ e. absurd (clash d h b c i e p o.unseated))
    (λ e. quiet-moving d h (entry (act.Read b x) (ans.ReadSome l (value_of h l x)) n) c k (record { carries = test_off (b == c) _ _ e; past = λ l z. elim z [ inl y ↦ y | inr y ↦ absurd (other_client b c e y.0) ]; seat = refl }) o)
moving-step d h c k a r n (left {c = b} p) m old =
    let o : ((b == c) ≡ false) × (moving h c ≡ Some k) = moving_off (b == c) (moving h c) k m in
    quiet-moving d h (entry (act.Leave b) (ans.Left (carried h b)) n) c k (record { carries = refl; past = λ l z. elim z [ inl y ↦ y | inr y ↦ absurd y.1 ]; seat = seat_off (b == c) (seat d h c) o.0 }) (old o.1)
moving-step d h c k a r n (attached {c = b} {j = j} p q) m old =
    let o : ((b == c) ≡ false) × (moving h c ≡ Some k) = moving_off (b == c) (moving h c) k m in
    quiet-moving d h (entry (act.Attach b j) ans.Attached n) c k (record { carries = refl; past = λ l z. elim z [ inl y ↦ y | inr y ↦ absurd y.1 ]; seat = seat_off_to (b == c) (seat d h c) j o.0 }) (old o.1)
moving-step d h c k a r n (moved {c = b} {j = j} {i = i} p q w) m old =
    elim (moving_on (b == c) (moving h c) j k m) [
      | inl e ↦ new-moving d h b c i j k n e.0 e.1
      | inr e ↦ quiet-moving d h (entry (act.Move b j) (ans.Moved (record { point = point_at (base h b i 0 + 1) i 0; kind = kind.Move j })) n) c k
          (record { carries = test_off (b == c) (point_at (base h b i 0 + 1) i 0) (carried h c) e.0; past = λ l z. elim z [ inl y ↦ y | inr y ↦ absurd y.1 ]; seat = seat_off (b == c) (seat d h c) e.0 }) (old e.1)
    ]
moving-step d h c k a r n _ m old = quiet-moving d h (entry a r n) c k (record { carries = refl; past = λ l z. elim z [ inl y ↦ y | inr y ↦ absurd y.1 ]; seat = refl }) (old m)

moving-start : (c k : ℕ) → moving [] c ≡ Some k → ⊥
unfolding moving
moving-start c k e = cc

pub moving-source : (d : Deployed) (h : List Entry) (c k : ℕ) → IsRun d h → moving h c ≡ Some k → IsMoving d h c k
moving-source d [] c k run m = absurd (moving-start c k m)
moving-source d (x ∷ h) c k run m = moving-step d h c k x.act x.answer x.inner (step_of d h x run) m (moving-source d h c k (before_of d h x run))

-- a move is to another site
move-now : (d : Deployed) (h : List Entry) (a : Act) (r : Answer) (l : Label) (j : ℕ) → Step d h a r → made_in r ≡ Some l → l.kind ≡ kind.Move j → l.point.site ≡ j → ⊥
move-now d h a r l j (moved {j = k} {i = i} p q w) m e s =
    let z : record { point = point_at (base h _ i 0 + 1) i 0; kind = kind.Move k } ≡ l = some_is _ l m in
    let y : k ≡ j = move_of k j (ap (λ (x : Label). x.kind) z ∙ e) in
    let u : i ≡ j = ap (λ (x : Label). x.point.site) z ∙ s in
    differ k i q (y ∙ sym u)
  where
    move_of : (k j : ℕ) → kind.Move k ≡ kind.Move j → k ≡ j
    move_of k j e = cc

    differ : (m n : ℕ) → (m == n) ≡ false → m ≡ n → ⊥
    differ m n e k = grind (arith, nat_tests)
move-now d h a r l j (wrote {w = w} {i = i} t p q b) m e s = absurd (let z : kind.Update w.items ≡ kind.Move j = ap (λ (y : Label). y.kind) (some_is (write_label d h w i) l m) ∙ e in cc)
move-now d h a r l j _ m e s = absurd (cc)

pub move-away : (d : Deployed) (h : List Entry) (l : Label) (j : ℕ) → IsRun d h → Made h l → l.kind ≡ kind.Move j → l.point.site ≡ j → ⊥
unfolding Gives
move-away d [] l j run m e s = m
move-away d (x ∷ h) l j run (inl m) e s = move-away d h l j (before_of d h x run) m e s
move-away d (x ∷ h) l j run (inr m) e s = move-now d h x.act x.answer l j (step_of d h x run) m e s
