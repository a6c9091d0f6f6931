-- No timestamp of a run is past the last.
use Rattle.std.specs.Prelude.{◌≡◌, ◌⊎◌, ◌≤◌, ℕ, zero, suc, ◌+◌, ◌-◌, Bool, false, ◌&&◌, List, [], ◌∷◌, Option, Some, None, ◌==◌, nat_le, max, min, refl}
use Rattle.std.proofs.Common.{sym, subst, arith, inl, inr}
use Rattle.std.proofs.lemmas.Bool.Decides.{nat_tests}
use Rattle.sat_label.specs.declared.label.Kind.TheVariants as kind
use Rattle.sat_label.specs.declared.label.Label.{Label}
use Rattle.sat_label.specs.declared.limits.TheConstants.{TS_END}
use Rattle.sat_label.specs.declared.point.Point.{Point}
use Rattle.sat_label.specs.Grouped.{least_item, list_of}
use Rattle.sat_label.specs.Members.{In}
use Rattle.sat_label.specs.Order.{point_at, mark, zero_point, greater_point}
use Rattle.sat_label.proofs.Orders.{of-greater}
use Rattle.sat_act.specs.declared.act.Act.{Act}
use Rattle.sat_act.specs.declared.answer.Answer.{Answer}
use Rattle.sat_act.specs.declared.entry.Entry.{Entry}
use Rattle.sat_act.specs.Deployed.{Deployed}
use Rattle.sat_act.specs.Done.{made_in, is_of, Written}
use Rattle.sat_act.specs.Parts.{promise, gathered, least_promise, stable, sent, sent_entry, last_sent, ready, cut, carried, carried_entry}
use Rattle.sat_act.specs.Answers.{InRange, base, gear_of, greatest_promise}
use Rattle.sat_act.specs.Runs.{IsRun}
use Rattle.sat_act.specs.Goals.{Gives, Made, IsValid}
use Rattle.sat_laws.proofs.Steps.{Step, write_label, ticked, clocked, wrote, moved, read_some}
use Rattle.sat_laws.proofs.Runs.{step_of, before_of, range_of, entry}
use Rattle.sat_laws.proofs.Labels.{chosen, some_is}
use Rattle.sat_laws.proofs.Members.{listed-gives}
use Rattle.sat_laws.proofs.Sinks.{Sent}
use Rattle.sat_laws.proofs.Sendings.{picked_if}
use Rattle.sat_laws.proofs.Cuts.{cut-none, cut-some, cut-ts, last-new, last-old, sent-site, sent-ts}
use Rattle.sat_laws.proofs.BeatTimes.{gathered-later, later-run}
use Rattle.sat_laws.proofs.Shows.{shows-is}
use Rattle.sat_laws.proofs.Sites.{version-shown}
use Rattle.sat_model.specs.Times.{HasTimes}
use Rattle.sat_model.proofs.Ranges.{sent-range}

-- ---- over plain numbers

above : (n b : ℕ) → nat_le n b ≡ false → b + 1 ≤ n
above n b e = grind (arith, nat_tests)

max-within : (a b t : ℕ) → a ≤ t → b ≤ t → max a b ≤ t
max-within a b t p q = omega arith

min-within : (a b t : ℕ) → b ≤ t → min a b ≤ t
min-within a b t q = omega arith

within : (a b t : ℕ) → a ≤ b → b ≤ t → a ≤ t
within a b t p q = omega arith

none-within : (t : ℕ) → 0 ≤ t
none-within t = omega arith

-- ---- promises

-- above this is the timestamp that a write at site i gets
abbrev write_base : Deployed → List Entry → Written → ℕ → ℕ
write_base d h w i = base h w.client i (gear_of d (least_item (list_of w.items)))

greatest-within : (h : List Entry) (t m n : ℕ) → ((i g : ℕ) → promise h i g ≤ t) → greatest_promise h m n ≤ t
unfolding greatest_promise
greatest-within h t m zero each = none-within t
greatest-within h t zero (suc n) each = none-within t
greatest-within h t (suc m) (suc n) each =
    max-within (max (promise h m n) (greatest_promise h (suc m) n)) (greatest_promise h m (suc n)) t
    (max-within (promise h m n) (greatest_promise h (suc m) n) t (each m n) (greatest-within h t (suc m) n each)) (greatest-within h t m (suc n) each)

least-within : (h : List Entry) (t i n : ℕ) → ((g : ℕ) → promise h i g ≤ t) → least_promise h i n ≤ t
unfolding least_promise
least-within h t i zero each = none-within t
least-within h t i (suc zero) each = each 0
least-within h t i (suc (suc n)) each = min-within (least_promise h i (suc n)) (promise h i (suc n)) t (each (suc n))

promise-now : (d : Deployed) (h : List Entry) (i g : ℕ) (a : Act) (r : Answer) (n : Bool) → InRange d a → ((i g : ℕ) → promise h i g ≤ TS_END) → Step d h a r → promise (entry a r n ∷ h) i g ≤ TS_END
unfolding promise
promise-now d h i g a r n range old (ticked {i = s} {g = k} {t = t}) =
    chosen (λ (y : ℕ). y ≤ TS_END) ((s == i) && (k == g)) (max (promise h s k) t) (promise h i g) (λ _. max-within (promise h s k) t TS_END (old s k) range.2) (λ _. old i g)
promise-now d h i g a r n range old clocked = greatest-within h TS_END d.sites d.gears old
promise-now d h i g a r n range old (wrote {w = w} {i = s} z p q b) =
    chosen (λ (y : ℕ). y ≤ TS_END) ((s == i) && (gear_of d (least_item (list_of w.items)) == g)) (write_base d h w s + 1) (promise h i g) (λ _. above TS_END (write_base d h w s) b) (λ _. old i g)
promise-now d h i g a r n range old (moved {c = c} {i = s} p q b) =
    chosen (λ (y : ℕ). y ≤ TS_END) ((s == i) && (0 == g)) (base h c s 0 + 1) (promise h i g) (λ _. above TS_END (base h c s 0) b) (λ _. old i g)
promise-now d h i g a r n range old _ = old i g

pub promise-ends : (d : Deployed) (h : List Entry) (i g : ℕ) → IsRun d h → promise h i g ≤ TS_END
promise-ends d [] i g run = unfold promise in none-within TS_END
promise-ends d (e ∷ h) i g run = promise-now d h i g e.act e.answer e.inner (range_of d h e run) (λ k f. promise-ends d h k f (before_of d h e run)) (step_of d h e run)

pub greatest-ends : (d : Deployed) (h : List Entry) (m n : ℕ) → IsRun d h → greatest_promise h m n ≤ TS_END
greatest-ends d h m n run = greatest-within h TS_END m n (λ i g. promise-ends d h i g run)

-- ---- labels

made-now : (d : Deployed) (h : List Entry) (a : Act) (r : Answer) (l : Label) → Step d h a r → made_in r ≡ Some l → l.point.ts ≤ TS_END
made-now d h a r l (wrote {w = w} {i = s} z p q b) e = subst (λ (y : Label). y.point.ts ≤ TS_END) (some_is (write_label d h w s) l e) (above TS_END (write_base d h w s) b)
made-now d h a r l (moved {c = c} {i = s} p q b) e = subst (λ (y : Label). y.point.ts ≤ TS_END) (some_is _ l e) (above TS_END (base h c s 0) b)
made-now d h a r l _ e = absurd (cc)

pub made-ends : (d : Deployed) (h : List Entry) (l : Label) → IsRun d h → Made h l → l.point.ts ≤ TS_END
unfolding Gives
made-ends d [] l run m = absurd m
made-ends d (e ∷ h) l run (inl m) = made-ends d h l (before_of d h e run) m
made-ends d (e ∷ h) l run (inr m) = made-now d h e.act e.answer l (step_of d h e run) m

pub stable-ends : (d : Deployed) (h : List Entry) (i : ℕ) → IsRun d h → stable d h i ≤ TS_END
unfolding stable
stable-ends d h i run = least-within (gathered h i) TS_END i d.gears (λ g. promise-ends d (gathered h i) i g (later-run d (gathered h i) h (gathered-later h i) run))

pub sent-ends : (d : Deployed) (h : List Entry) (i : ℕ) (l : Label) → IsRun d h → Sent h i l → l.point.ts ≤ TS_END
sent-ends d h i l run m = within l.point.ts (stable d h i) TS_END (sent-ts d h i l (sent-range d h i l run m) run m) (stable-ends d h i run)

-- ---- cuts

pub cut-ends : (d : Deployed) (h : List Entry) (i : ℕ) → IsRun d h → (cut d h i).ts ≤ TS_END
cut-ends d h i run = within (cut d h i).ts (stable d h i) TS_END (cut-ts d h i (λ s m. sent-ts d h i s (sent-range d h i s run m) run m)) (stable-ends d h i run)

-- what holds of all that a site sent, of the start and of the marks, holds of what it sent last, and of its cut
last-all : (P : Point → Type 0) (h : List Entry) (i : ℕ) → ((s : Label) → Sent h i s → P s.point) → P (point_at 0 i 0) → P (last_sent h i)
unfolding Gives
last-all P [] i each start = unfold last_sent in start
last-all P (e ∷ h) i each start = go (sent_entry i h e) refl (last-all P h i (λ s m. each s (inl m)) start)
  where
    go : (o : Option Label) → sent_entry i h e ≡ o → P (last_sent h i) → P (last_sent (e ∷ h) i)
    go None w old = subst P (sym (last-old h e i w)) old
    go (Some s) w old = subst P (sym (last-new h e i s w)) (each s (inr w))

cut-all : (P : Point → Type 0) (d : Deployed) (h : List Entry) (i : ℕ) → ((s : Label) → Sent h i s → P s.point) → P (point_at 0 i 0) → ((t : ℕ) → P (mark t i)) → P (cut d h i)
cut-all P d h i each start marks = go (ready d h i) refl
  where
    go : (o : Option Label) → ready d h i ≡ o → P (cut d h i)
    go None r = subst P (sym (cut-none d h i r)) (marks (stable d h i))
    go (Some m) r = subst P (sym (cut-some d h i m r)) (of-greater P (last_sent h i) (mark (m.point.ts - 1) i) (last-all P h i each start) (marks (m.point.ts - 1)))

-- a cut is a point of its site
pub cut-site : (d : Deployed) (h : List Entry) (i : ℕ) → IsRun d h → (cut d h i).site ≡ i
cut-site d h i run = cut-all (λ p. p.site ≡ i) d h i (λ s. sent-site d h i s run) refl (λ t. refl)

-- ---- clients

-- the point that an entry put before a client is that of a made label
carried-now : (d : Deployed) (h : List Entry) (c : ℕ) (a : Act) (r : Answer) (n : Bool) (q : Point) → IsRun d h → Step d h a r → carried_entry c h (entry a r n) ≡ Some q → (l : Label) × (Made h l ⊎ (made_in r ≡ Some l)) × (l.point ≡ q)
carried-now d h c a r n q run (wrote {w = w} {i = s} z p k b) e =
    let l : Label = write_label d h w s in
    (l, inr refl, (picked_if (is_of a c) l.point q e).1)
carried-now d h c a r n q run (moved {c = b} {j = j} {i = s} p w k) e =
    let l : Label = record { point = point_at (base h b s 0 + 1) s 0; kind = kind.Move j } in
    (l, inr refl, (picked_if (b == c) l.point q e).1)
carried-now d h c a r n q run (read_some {c = b} {x = x} {i = s} {l = l} p w k) e =
    (l, inl (shows-is d h s l run (version-shown h s x l k)).made, (picked_if (b == c) l.point q e).1)
carried-now d h c a r n q run _ e = absurd (cc)

-- what holds of all made labels' points, and of zero, holds of what a client carries
pub carried-all : (P : Point → Type 0) (d : Deployed) (h : List Entry) (c : ℕ) → IsRun d h → ((l : Label) → Made h l → P l.point) → P zero_point → P (carried h c)
unfolding carried Gives
carried-all P d [] c run each start = start
carried-all P d (e ∷ h) c run each start = go (carried_entry c h e) refl (carried-all P d h c (before_of d h e run) (λ l m. each l (inl m)) start)
  where
    go : (o : Option Point) → carried_entry c h e ≡ o → P (carried h c) → P (elim o [ None ↦ carried h c | Some q ↦ greater_point q (carried h c) ])
    go None w old = old
    go (Some q) w old =
        let k : (l : Label) × (Made h l ⊎ (made_in e.answer ≡ Some l)) × (l.point ≡ q) = carried-now d h c e.act e.answer e.inner q (before_of d h e run) (step_of d h e run) w in
        of-greater P q (carried h c) (subst P k.2 (each k.0 k.1)) old

pub carried-ends : (d : Deployed) (h : List Entry) (c : ℕ) → IsRun d h → (carried h c).ts ≤ TS_END
carried-ends d h c run = carried-all (λ p. p.ts ≤ TS_END) d h c run (λ l m. made-ends d h l run m) (none-within TS_END)

-- ---- all of them

sent-listed : (d : Deployed) (h : List Entry) (i : ℕ) (l : Label) → IsRun d h → In (sent h i) l → l.point.ts ≤ TS_END
unfolding sent
sent-listed d h i l run m = sent-ends d h i l run (listed-gives (sent_entry i) h l m)

pub has-times : (d : Deployed) (h : List Entry) → IsValid d → IsRun d h → HasTimes d h
has-times d h v run = record {
  promises = λ i g. promise-ends d h i g run;
  labels = λ l m. made-ends d h l run m;
  stable_ts = λ i. stable-ends d h i run;
  sent_labels = λ i l m. sent-listed d h i l run m;
  cuts = λ i. cut-ends d h i run;
  carried_points = λ c. carried-ends d h c run;
}
