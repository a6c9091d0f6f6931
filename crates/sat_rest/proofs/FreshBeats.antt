-- The beats of a settle's opening are above all that was made.
use Rattle.std.specs.Prelude.{◌≡◌, ◌⊎◌, ◌<◌, ◌≤◌, ℕ, zero, suc, ◌+◌, Bool, true, false, ◌&&◌, ◌||◌, ◌==◌, nat_le, List, [], ◌∷◌, ◌++◌, Option, Some, None, refl, length, slice_get, if◌then◌else◌}
use Rattle.std.proofs.Common.{sym, subst, arith, inl, inr, ap, ◌∙◌, length-append}
use Rattle.std.proofs.lemmas.Bool.Decides.{nat_tests}
use Rattle.std.proofs.lemmas.Bool.{leb-true}
use Rattle.sat_label.proofs.Truth.{some_if}
use Rattle.sat_label.specs.declared.point.Point.{Point}
use Rattle.sat_label.specs.declared.label.Label.{Label}
use Rattle.sat_label.specs.Order.{mark, point_le, label_eq}
use Rattle.sat_label.specs.Words.{below, has}
use Rattle.sat_act.specs.declared.act.Act.{Act}
use Rattle.sat_act.specs.declared.act.Act.TheVariants as act
use Rattle.sat_act.specs.declared.answer.Answer.{Answer}
use Rattle.sat_act.specs.declared.answer.Answer.TheVariants as ans
use Rattle.sat_act.specs.declared.answer.Refusal.TheVariants as why
use Rattle.sat_act.specs.declared.entry.Entry.{Entry}
use Rattle.sat_act.specs.Deployed.{Deployed}
use Rattle.sat_act.specs.Parts.{BeatNote, gathered, sent, beats, beat_entry, beats_taken, is_complete, best, best_below, cut, ready, stable}
use Rattle.sat_act.specs.Answers.{answer, refused_if}
use Rattle.sat_act.specs.Runs.{IsRun}
use Rattle.sat_act.specs.Goals.{Made, IsValid}
use Rattle.sat_act.specs.Settling.{is_done, inner_entry, tried, for_each, joined, beat_over, pairs, pulse_at, emptied, opening, settle}
use Rattle.sat_rest.specs.Ends.{IsWithin}
use Rattle.sat_laws.proofs.Labels.{some_is}
use Rattle.sat_laws.proofs.Sinks.{pending-is, gathered-made}
use Rattle.sat_laws.proofs.Cuts.{ready-is, not_sent, cut-none}
use Rattle.sat_laws.proofs.Links.{tail_of, get-cases, get-below}
use Rattle.sat_laws.proofs.BeatTimes.{note_of, is-note}
use Rattle.sat_rest.proofs.Rounds.{IsInner, inner-act, Goes, stay, step, goes-keep, IsAfter, tried-after, for_each-after}
use Rattle.sat_rest.proofs.Settles.{beat-after, pair-of, emptied-after, opening-is, settle-ends}
use Rattle.sat_rest.proofs.Totals.{In-below, below-In, into-joined}
use Rattle.sat_rest.proofs.Emptying.{AllSent, AllStable, sent-keeps, stable-keeps, old-made, emptied-sent, emptied-stable, for_each-all}
use Rattle.sat_label.specs.Members.{In}

-- a note whose cut is at or above all that was made
abbrev IsHigh : ℕ → List Entry → BeatNote → Type 0
IsHigh i h note = (l : Label) → Made h l → point_le (mark l.point.ts i) note.cut ≡ true

mark-le : (s t i : ℕ) → s ≤ t → point_le (mark s i) (mark t i) ≡ true
mark-le s t i l = grind (arith, nat_tests)

ready-no : (d : Deployed) (h : List Entry) (i : ℕ) → AllSent d i h → ready d h i ≡ None
ready-no d h i all = go (ready d h i) refl
  where
    go : (o : Option Label) → ready d h i ≡ o → o ≡ None
    go None e = refl
    go (Some l) e =
        let p : Made (gathered h i) l × (l.point.site ≡ i) × (has label_eq (sent h i) l ≡ false) = pending-is d h i l (ready-is d h i l e).member in
        absurd (not_sent h i l p.2 (all l (gathered-made h i l p.0) p.1))

high-cut : (d : Deployed) (h : List Entry) (i : ℕ) → AllSent d i h → AllStable d i h → (l : Label) → Made h l → point_le (mark l.point.ts i) (cut d h i) ≡ true
high-cut d h i sent st l m = subst (λ (p : Point). point_le (mark l.point.ts i) p ≡ true) (sym (cut-none d h i (ready-no d h i sent))) (mark-le l.point.ts (stable d h i) i (st l m))

-- from some beat on that j took, all beats of i are high
record Fresh (d : Deployed) (i j : ℕ) (h : List Entry) : Type 0 where
  number : ℕ
  below : number < length (beats d h i j)
  taken : has ◌==◌ (beats_taken h i j) number ≡ true
  high : (m : ℕ) (note : BeatNote) → number ≤ m → slice_get (beats d h i j) m ≡ Some note → IsHigh i h note
  sent : AllSent d i h
  stable : AllStable d i h

beats-step : (d : Deployed) (h : List Entry) (x : Entry) (i j : ℕ) → beats d (x ∷ h) i j ≡ beats d h i j ++ tail_of (beat_entry d i j h x)
unfolding beats
beats-step d h x i j = refl

has-left : (xs ys : List ℕ) (n : ℕ) → has ◌==◌ xs n ≡ true → has ◌==◌ (xs ++ ys) n ≡ true
has-left [] ys n e = absurd (cc)
has-left (x ∷ xs) ys n e = go (x == n) e (has-left xs ys n)
  where
    go : (b : Bool) → (b || has ◌==◌ xs n) ≡ true → (has ◌==◌ xs n ≡ true → has ◌==◌ (xs ++ ys) n ≡ true) → (b || has ◌==◌ (xs ++ ys) n) ≡ true
    go true e old = refl
    go false e old = old e

taken-grows : (h : List Entry) (x : Entry) (i j n : ℕ) → has ◌==◌ (beats_taken h i j) n ≡ true → has ◌==◌ (beats_taken (x ∷ h) i j) n ≡ true
unfolding beats_taken
taken-grows h x i j n e = has-left (beats_taken h i j) _ n e

-- each beat from n on is high
abbrev HighFrom : Deployed → ℕ → ℕ → List Entry → ℕ → Type 0
HighFrom d i j h n = (m : ℕ) (note : BeatNote) → n ≤ m → slice_get (beats d h i j) m ≡ Some note → IsHigh i h note

high-step : (d : Deployed) (i j n : ℕ) (k : List Entry) (a : Act) → IsInner d a → AllSent d i k → AllStable d i k → HighFrom d i j k n → HighFrom d i j (inner_entry d k a ∷ k) n
high-step d i j n k a inner sent st old m note le at l made =
    elim (get-cases (beats d k i j) (beat_entry d i j k (inner_entry d k a)) m note (subst (λ (xs : List BeatNote). slice_get xs m ≡ Some note) (beats-step d k (inner_entry d k a) i j) at)) [
      | inl g ↦ old m note le g l (old-made d k a l inner made)
      | inr g ↦
          let e : note_of d i j k ≡ note = is-note d i j k (inner_entry d k a) note g.1 in
          subst (λ (z : BeatNote). point_le (mark l.point.ts i) z.cut ≡ true) e (high-cut d k i sent st l (old-made d k a l inner made))
    ]

beats-grow : (d : Deployed) (h : List Entry) (x : Entry) (i j : ℕ) → length (beats d h i j) ≤ length (beats d (x ∷ h) i j)
beats-grow d h x i j =
    let a : length (beats d (x ∷ h) i j) ≡ length (beats d h i j ++ tail_of (beat_entry d i j h x)) = ap (λ (xs : List BeatNote). length xs) (beats-step d h x i j) in
    omega (arith, length-append (beats d h i j) (tail_of (beat_entry d i j h x)))

fresh-keeps : (d : Deployed) (i j : ℕ) → i < d.sites → (a b : List Entry) → Goes d a b → Fresh d i j a → Fresh d i j b
fresh-keeps d i j bi a b g f =
    goes-keep d (Fresh d i j) (λ k x run m run' old. record {
      number = old.number;
      below = (let p : old.number < length (beats d k i j) = old.below in let q : length (beats d k i j) ≤ length (beats d (inner_entry d k x ∷ k) i j) = beats-grow d k (inner_entry d k x) i j in omega arith);
      taken = taken-grows k (inner_entry d k x) i j old.number old.taken;
      high = high-step d i j old.number k x m old.sent old.stable old.high;
      sent = sent-keeps d i k (inner_entry d k x ∷ k) (step x stay run m) old.sent;
      stable = stable-keeps d i bi k (inner_entry d k x ∷ k) (step x stay run m) old.stable;
    }) a b g f

-- ---- the best beat was taken

record IsBest (d : Deployed) (h : List Entry) (i j : ℕ) (notes : List BeatNote) (r : ℕ × BeatNote) : Type 0 where
  taken : has ◌==◌ (beats_taken h i j) r.0 ≡ true
  at : slice_get notes r.0 ≡ Some r.1

best-note : (d : Deployed) (h : List Entry) (i j : ℕ) (notes : List BeatNote) (n : ℕ) (r : ℕ × BeatNote) (t : Bool) (o : Option BeatNote) (rest : Option (ℕ × BeatNote)) → has ◌==◌ (beats_taken h i j) n ≡ t → slice_get notes n ≡ o → (rest ≡ Some r → IsBest d h i j notes r) →
    elim t [ false ↦ rest | true ↦ elim o [ None ↦ rest | Some note ↦ elim (is_complete d h i j note) [ true ↦ Some (n, note) | false ↦ rest ] ] ] ≡ Some r → IsBest d h i j notes r
best-note d h i j notes n r false o rest s g old e = old e
best-note d h i j notes n r true None rest s g old e = old e
best-note d h i j notes n r true (Some note) rest s g old e = go (is_complete d h i j note) e
  where
    go : (b : Bool) → elim b [ true ↦ Some (n, note) | false ↦ rest ] ≡ Some r → IsBest d h i j notes r
    go true e = subst (IsBest d h i j notes) (some_is (n, note) r e) (record { taken = s; at = g })
    go false e = old e

best-parts : (d : Deployed) (h : List Entry) (i j : ℕ) (notes : List BeatNote) (n : ℕ) (r : ℕ × BeatNote) → best_below d h i j notes n ≡ Some r → IsBest d h i j notes r
unfolding best_below
best-parts d h i j notes zero r e = absurd (cc)
best-parts d h i j notes (suc n) r e = best-note d h i j notes n r (has ◌==◌ (beats_taken h i j) n) (slice_get notes n) (best_below d h i j notes n) refl refl (best-parts d h i j notes n r) e

-- ---- a beat and its coming in

beat-is : (d : Deployed) (h : List Entry) (i j : ℕ) → tried d (act.Beat i j) h ≡ inner_entry d h (act.Beat i j) ∷ h
unfolding tried
beat-is d h i j = refl

abbrev coming : Option (ℕ × BeatNote) → ℕ → Bool → Answer
coming o n t = elim o [ None ↦ if t then ans.Again else ans.Taken | Some b ↦ if nat_le n b.0 then ans.Old else (if t then ans.Again else ans.Taken) ]

answer-beat-in : (d : Deployed) (h : List Entry) (i j n : ℕ) → answer d h (act.BeatIn i j n) ≡ refused_if (nat_le (length (beats d h i j)) n) why.NoSuch (coming (best d h j i) n (has ◌==◌ (beats_taken h i j) n))
unfolding answer
answer-beat-in d h i j n = refl

same_pair : (i j : ℕ) → ((i == i) && (j == j)) ≡ true
same_pair i j = grind (arith, nat_tests)

gives-note : (d : Deployed) (h : List Entry) (i j : ℕ) → beat_entry d i j h (inner_entry d h (act.Beat i j)) ≡ Some (note_of d i j h)
unfolding answer
gives-note d h i j = some_if ((i == i) && (j == j)) (note_of d i j h) (same_pair i j)

beat-new : (d : Deployed) (h : List Entry) (i j : ℕ) → length (beats d (inner_entry d h (act.Beat i j) ∷ h) i j) ≡ length (beats d h i j) + 1
beat-new d h i j =
    ap (λ (xs : List BeatNote). length xs) (beats-step d h (inner_entry d h (act.Beat i j)) i j)
    ∙ ap (λ (o : Option BeatNote). length (beats d h i j ++ tail_of o)) (gives-note d h i j)
    ∙ length-append (beats d h i j) (note_of d i j h ∷ [])

has-last : (xs : List ℕ) (n : ℕ) → has ◌==◌ (xs ++ n ∷ []) n ≡ true
has-last [] n = go (n == n) (self n)
  where
    self : (n : ℕ) → (n == n) ≡ true
    self n = grind (arith, nat_tests)

    go : (b : Bool) → b ≡ true → (b || false) ≡ true
    go true e = refl
    go false e = absurd (cc)
has-last (x ∷ xs) n = go (x == n) (has-last xs n)
  where
    go : (b : Bool) → has ◌==◌ (xs ++ n ∷ []) n ≡ true → (b || has ◌==◌ (xs ++ n ∷ []) n) ≡ true
    go true e = refl
    go false e = e

taken-new : (h : List Entry) (i j n : ℕ) → has ◌==◌ (beats_taken (record { act = act.BeatIn i j n; answer = ans.Taken; inner = true } ∷ h) i j) n ≡ true
unfolding beats_taken
taken-new h i j n =
    subst (λ (o : Option ℕ). has ◌==◌ (beats_taken h i j ++ tail_of o) n ≡ true) (sym (some_if ((i == i) && (j == j)) n (same_pair i j))) (has-last (beats_taken h i j) n)

above_not : (a b : ℕ) → b < a → nat_le a b ≡ false
above_not a b l = grind (arith, nat_tests)

best-of : (d : Deployed) (h : List Entry) (i j : ℕ) (r : ℕ × BeatNote) → best d h j i ≡ Some r → IsBest d h i j (beats d h i j) r
unfolding best
best-of d h i j r e = best-parts d h i j (beats d h i j) (length (beats d h i j)) r e

tried-cases : (d : Deployed) (a : Act) (h : List Entry) → ((is_done (answer d h a) ≡ true) × (tried d a h ≡ inner_entry d h a ∷ h)) ⊎ ((is_done (answer d h a) ≡ false) × (tried d a h ≡ h))
unfolding tried
tried-cases d a h = go (is_done (answer d h a)) refl
  where
    go : (b : Bool) → is_done (answer d h a) ≡ b → ((is_done (answer d h a) ≡ true) × (elim b [ true ↦ inner_entry d h a ∷ h | false ↦ h ] ≡ inner_entry d h a ∷ h)) ⊎ ((is_done (answer d h a) ≡ false) × (elim b [ true ↦ inner_entry d h a ∷ h | false ↦ h ] ≡ h))
    go true e = inl (e, refl)
    go false e = inr (e, refl)

-- after a beat came in, one at or above its number was taken
came-in : (d : Deployed) (i j n : ℕ) (h : List Entry) → n < length (beats d h i j) → (m : ℕ) × (n ≤ m) × (m < length (beats d h i j)) × (has ◌==◌ (beats_taken (tried d (act.BeatIn i j n) h) i j) m ≡ true)
came-in d i j n h b = elim (tried-cases d (act.BeatIn i j n) h) [ inl w ↦ done w.0 w.1 | inr w ↦ not_done w.0 w.1 ]
  where
    ans-is : answer d h (act.BeatIn i j n) ≡ coming (best d h j i) n (has ◌==◌ (beats_taken h i j) n)
    ans-is = answer-beat-in d h i j n ∙ ap (λ (b : Bool). refused_if b why.NoSuch (coming (best d h j i) n (has ◌==◌ (beats_taken h i j) n))) (above_not (length (beats d h i j)) n b)

    fresh_if : (t : Bool) → is_done (if t then ans.Again else ans.Taken) ≡ true → (if t then ans.Again else ans.Taken) ≡ ans.Taken
    fresh_if true e = absurd (cc)
    fresh_if false e = refl

    fresh_unless : (o t : Bool) → is_done (if o then ans.Old else (if t then ans.Again else ans.Taken)) ≡ true → (if o then ans.Old else (if t then ans.Again else ans.Taken)) ≡ ans.Taken
    fresh_unless true t e = absurd (cc)
    fresh_unless false t e = fresh_if t e

    taken_if : (o : Option (ℕ × BeatNote)) (t : Bool) → is_done (coming o n t) ≡ true → coming o n t ≡ ans.Taken
    taken_if None t e = fresh_if t e
    taken_if (Some r) t e = fresh_unless (nat_le n r.0) t e

    done : is_done (answer d h (act.BeatIn i j n)) ≡ true → tried d (act.BeatIn i j n) h ≡ inner_entry d h (act.BeatIn i j n) ∷ h → (m : ℕ) × (n ≤ m) × (m < length (beats d h i j)) × (has ◌==◌ (beats_taken (tried d (act.BeatIn i j n) h) i j) m ≡ true)
    done e s =
        let r : answer d h (act.BeatIn i j n) ≡ ans.Taken = ans-is ∙ taken_if (best d h j i) (has ◌==◌ (beats_taken h i j) n) (subst (λ (r : Answer). is_done r ≡ true) ans-is e) in (
          n,
          omega arith,
          b,
          subst (λ (k : List Entry). has ◌==◌ (beats_taken k i j) n ≡ true) (sym s)
              (subst (λ (r : Answer). has ◌==◌ (beats_taken (record { act = act.BeatIn i j n; answer = r; inner = true } ∷ h) i j) n ≡ true) (sym r) (taken-new h i j n)),
        )

    again_if : (t : Bool) → is_done (if t then ans.Again else ans.Taken) ≡ false → t ≡ true
    again_if true e = refl
    again_if false e = absurd (cc)

    old_or_again : (o t : Bool) → is_done (if o then ans.Old else (if t then ans.Again else ans.Taken)) ≡ false → (o ≡ true) ⊎ (t ≡ true)
    old_or_again true t e = inl refl
    old_or_again false t e = inr (again_if t e)

    old_if : (o : Option (ℕ × BeatNote)) (t : Bool) → is_done (coming o n t) ≡ false → (t ≡ true) ⊎ ((r : ℕ × BeatNote) × (o ≡ Some r) × (nat_le n r.0 ≡ true))
    old_if None t e = inl (again_if t e)
    old_if (Some r) t e = elim (old_or_again (nat_le n r.0) t e) [ inl a ↦ inr (r, refl, a) | inr a ↦ inl a ]

    not_done : is_done (answer d h (act.BeatIn i j n)) ≡ false → tried d (act.BeatIn i j n) h ≡ h → (m : ℕ) × (n ≤ m) × (m < length (beats d h i j)) × (has ◌==◌ (beats_taken (tried d (act.BeatIn i j n) h) i j) m ≡ true)
    not_done e s =
        elim (old_if (best d h j i) (has ◌==◌ (beats_taken h i j) n) (subst (λ (r : Answer). is_done r ≡ false) ans-is e)) [
          | inl t ↦ (n, omega arith, b, subst (λ (k : List Entry). has ◌==◌ (beats_taken k i j) n ≡ true) (sym s) t)
          | inr r ↦ (r.0.0, leb-true n r.0.0 r.2, get-below (beats d h i j) r.0.0 r.0.1 (best-of d h i j r.0 r.1).at, subst (λ (k : List Entry). has ◌==◌ (beats_taken k i j) r.0.0 ≡ true) (sym s) (best-of d h i j r.0 r.1).taken)
        ]

record Highs (d : Deployed) (i j n : ℕ) (h : List Entry) : Type 0 where
  high : HighFrom d i j h n
  sent : AllSent d i h
  stable : AllStable d i h

highs-keep : (d : Deployed) (i j n : ℕ) → i < d.sites → (a b : List Entry) → Goes d a b → Highs d i j n a → Highs d i j n b
highs-keep d i j n bi a b g f =
    goes-keep d (Highs d i j n) (λ k x run m run' old. record {
      high = high-step d i j n k x m old.sent old.stable old.high;
      sent = sent-keeps d i k (inner_entry d k x ∷ k) (step x stay run m) old.sent;
      stable = stable-keeps d i bi k (inner_entry d k x ∷ k) (step x stay run m) old.stable;
    }) a b g f

beats-keep : (d : Deployed) (i j n : ℕ) (a b : List Entry) → Goes d a b → n ≤ length (beats d a i j) → n ≤ length (beats d b i j)
beats-keep d i j n a b g f = goes-keep d (λ (k : List Entry). n ≤ length (beats d k i j)) (λ k x run m run' old. let q : length (beats d k i j) ≤ length (beats d (inner_entry d k x ∷ k) i j) = beats-grow d k (inner_entry d k x) i j in omega arith) a b g f

beat-fresh : (d : Deployed) (i j : ℕ) (k : List Entry) → IsRun d k → (i < d.sites) × (j < d.sites) × ((i == j) ≡ false) → AllSent d i k → AllStable d i k → Fresh d i j (beat_over d (i, j) k)
beat-fresh d i j k run w sent st =
    let n : ℕ = length (beats d k i j) in
    let k1 : List Entry = tried d (act.Beat i j) k in
    let a : IsAfter d k k1 = tried-after d (act.Beat i j) k run (inner-act d (act.Beat i j) w refl refl) in
    let c : IsAfter d k1 (beat_over d (i, j) k) = tried-after d (act.BeatIn i j n) k1 a.is_run (inner-act d (act.BeatIn i j n) w refl refl) in
    let l : length (beats d k1 i j) ≡ n + 1 = ap (λ (h : List Entry). length (beats d h i j)) (beat-is d k i j) ∙ beat-new d k i j in
    let m : (m : ℕ) × (n ≤ m) × (m < length (beats d k1 i j)) × (has ◌==◌ (beats_taken (beat_over d (i, j) k) i j) m ≡ true) = came-in d i j n k1 (omega arith) in
    let start : Highs d i j n k = record { high = λ p note le at. absurd (let z : p < length (beats d k i j) = get-below (beats d k i j) p note at in omega arith); sent = sent; stable = st } in
    let f : Highs d i j n (beat_over d (i, j) k) = highs-keep d i j n w.0 k1 (beat_over d (i, j) k) c.goes (highs-keep d i j n w.0 k k1 a.goes start) in
    let o : n ≤ m.0 = m.1 in
    record {
      number = m.0;
      below = beats-keep d i j (suc m.0) k1 (beat_over d (i, j) k) c.goes m.2;
      taken = m.3;
      high = λ p note le at. f.high p note (omega arith) at;
      sent = f.sent;
      stable = f.stable;
    }

pair-in : (d : Deployed) (i j : ℕ) → i < d.sites → j < d.sites → (i == j) ≡ false → In (pairs d) (i, j)
pair-in d i j x y e =
    into-joined (λ (i : ℕ). joined (λ (j : ℕ). if i == j then [] else (i, j) ∷ []) (below d.sites)) (below d.sites) i (i, j) (In-below d.sites i x)
    (into-joined (λ (j : ℕ). if i == j then [] else (i, j) ∷ []) (below d.sites) j (i, j) (In-below d.sites j y) (one (i == j) (i, j) e))
  where
    one : (b : Bool) (p : ℕ × ℕ) → b ≡ false → In (if b then [] else p ∷ []) p
    one true p e = absurd (cc)
    one false p e = inl refl

abbrev Before : Deployed → ℕ × ℕ → List Entry → Type 0
Before d p k = AllSent d p.0 k × AllStable d p.0 k

abbrev FreshOver : Deployed → ℕ × ℕ → List Entry → Type 0
FreshOver d p k = Fresh d p.0 p.1 k

opening-fresh : (d : Deployed) (h : List Entry) (i j : ℕ) → IsValid d → IsRun d h → i < d.sites → j < d.sites → (i == j) ≡ false → Fresh d i j (opening d h)
opening-fresh d h i j v run x y e =
    subst (Fresh d i j) (sym (opening-is d h))
    (for_each-all d (beat_over d) (Before d) (FreshOver d) (pairs d) (for_each (pulse_at d) (below d.sites) (emptied d h)) pulses.is_run
    (λ p k m r. beat-after d p k r (pair-of d p m))
    (λ p a b m g w. (sent-keeps d p.0 a b g w.0, stable-keeps d p.0 (pair-of d p m).0 a b g w.1))
    (λ p a b m g w. fresh-keeps d p.0 p.1 (pair-of d p m).0 a b g w)
    (λ p k m r w. beat-fresh d p.0 p.1 k r (pair-of d p m) w.0 w.1)
    (λ p m. (sent-keeps d p.0 (emptied d h) _ pulses.goes (emptied-sent d h p.0 v run (pair-of d p m).0), stable-keeps d p.0 (pair-of d p m).0 (emptied d h) _ pulses.goes (emptied-stable d h p.0 v run (pair-of d p m).0)))
    (i, j) (pair-in d i j x y e))
  where
    pulses : IsAfter d (emptied d h) (for_each (pulse_at d) (below d.sites) (emptied d h))
    pulses = for_each-after d (pulse_at d) (below d.sites) (emptied d h) (emptied-after d h run).is_run (λ i k m r. tried-after d (act.Pulse i) k r (inner-act d (act.Pulse i) (below-In d.sites i m) refl refl))

settle-fresh : (d : Deployed) (h : List Entry) (i j : ℕ) → IsWithin d → IsRun d h → i < d.sites → j < d.sites → (i == j) ≡ false → Fresh d i j (settle d h).1
settle-fresh d h i j w run x y e = fresh-keeps d i j x (opening d h) (settle d h).1 (settle-ends d h w run).progress.goes (opening-fresh d h i j w.valid run x y e)

-- ---- the best beat is high where each beat is complete

abbrev pick_full : Bool → ℕ × BeatNote → Option (ℕ × BeatNote) → Option (ℕ × BeatNote)
pick_full c x rest = elim c [ true ↦ Some x | false ↦ rest ]

abbrev pick_best : Deployed → List Entry → ℕ → ℕ → ℕ → Bool → Option BeatNote → Option (ℕ × BeatNote) → Option (ℕ × BeatNote)
pick_best d h i j k c o rest = elim c [ false ↦ rest | true ↦ elim o [ None ↦ rest | Some note ↦ pick_full (is_complete d h i j note) (k, note) rest ] ]

best-exists : (d : Deployed) (h : List Entry) (i j n : ℕ) (notes : List BeatNote) → has ◌==◌ (beats_taken h i j) n ≡ true → n < length notes → ((m : ℕ) (note : BeatNote) → slice_get notes m ≡ Some note → is_complete d h i j note ≡ true) →
    (k : ℕ) → n < k → (r : ℕ × BeatNote) × (best_below d h i j notes k ≡ Some r) × (n ≤ r.0) × (slice_get notes r.0 ≡ Some r.1)
unfolding best_below
best-exists d h i j n notes t b all zero l = absurd (omega arith)
best-exists d h i j n notes t b all (suc k) l =
    go (has ◌==◌ (beats_taken h i j) k) (slice_get notes k) refl refl (λ p. best-exists d h i j n notes t b all k p)
  where
    less : (n k : ℕ) → n < suc k → (n ≡ k) ⊎ (n < k)
    less n k l = grind arith

    miss : (xs : List BeatNote) (n : ℕ) → slice_get xs n ≡ None → n < length xs → ⊥
    miss [] n e l = omega arith
    miss (x ∷ xs) zero e l = cc
    miss (x ∷ xs) (suc n) e l = miss xs n e (omega arith)

    full : (note : BeatNote) (c : Bool) (rest : Option (ℕ × BeatNote)) → c ≡ true → pick_full c (k, note) rest ≡ Some (k, note)
    full note true rest e = refl
    full note false rest e = absurd (cc)

    go : (c : Bool) (o : Option BeatNote) → has ◌==◌ (beats_taken h i j) k ≡ c → slice_get notes k ≡ o →
        (n < k → (r : ℕ × BeatNote) × (best_below d h i j notes k ≡ Some r) × (n ≤ r.0) × (slice_get notes r.0 ≡ Some r.1)) →
        (r : ℕ × BeatNote) × (pick_best d h i j k c o (best_below d h i j notes k) ≡ Some r) × (n ≤ r.0) × (slice_get notes r.0 ≡ Some r.1)
    go false o e f old = elim (less n k l) [ inl s ↦ absurd (let z : has ◌==◌ (beats_taken h i j) k ≡ true = subst (λ (m : ℕ). has ◌==◌ (beats_taken h i j) m ≡ true) s t in cc) | inr p ↦ old p ]
    go true None e f old = elim (less n k l) [ inl s ↦ absurd (miss notes k f (subst (λ (m : ℕ). m < length notes) s b)) | inr p ↦ old p ]
    go true (Some note) e f old = ((k, note), full note (is_complete d h i j note) (best_below d h i j notes k) (all k note f), omega arith, f)

pub record HighBest (d : Deployed) (i j : ℕ) (h : List Entry) : Type 0 where
  pub best_one : ℕ × BeatNote
  pub is_best : best d h j i ≡ Some best_one
  pub high : (l : Label) → Made h l → point_le (mark l.point.ts i) best_one.1.cut ≡ true

fresh-best : (d : Deployed) (h : List Entry) (i j : ℕ) → Fresh d i j h → ((m : ℕ) (note : BeatNote) → slice_get (beats d h i j) m ≡ Some note → is_complete d h i j note ≡ true) → HighBest d i j h
unfolding best
fresh-best d h i j f all =
    let r : (r : ℕ × BeatNote) × (best_below d h i j (beats d h i j) (length (beats d h i j)) ≡ Some r) × (f.number ≤ r.0) × (slice_get (beats d h i j) r.0 ≡ Some r.1) =
    best-exists d h i j f.number (beats d h i j) f.taken f.below all (length (beats d h i j)) f.below in
    record { best_one = r.0; is_best = r.1; high = λ l m. f.high r.0.0 r.0.1 r.2 r.3 l m }

pub settle-best : (d : Deployed) (h : List Entry) (i j : ℕ) → IsWithin d → IsRun d h → i < d.sites → j < d.sites → (i == j) ≡ false →
    ((m : ℕ) (note : BeatNote) → slice_get (beats d (settle d h).1 i j) m ≡ Some note → is_complete d (settle d h).1 i j note ≡ true) → HighBest d i j (settle d h).1
settle-best d h i j w run x y e all = fresh-best d (settle d h).1 i j (settle-fresh d h i j w run x y e) all
