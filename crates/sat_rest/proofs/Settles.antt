-- Settle: its rounds end with a quiet one.
use Rattle.std.specs.Prelude.{◌≡◌, ◌⊎◌, ◌<◌, ◌≤◌, ℕ, zero, suc, ◌+◌, Bool, true, false, ◌==◌, List, [], ◌∷◌, refl, length, if◌then◌else◌}
use Rattle.std.proofs.Common.{sym, subst, arith, inl, inr, ap}
use Rattle.std.proofs.lemmas.Bool.Decides.{nat_tests}
use Rattle.sat_label.specs.Words.{below}
use Rattle.sat_act.specs.declared.act.Act.{Act}
use Rattle.sat_act.specs.declared.act.Act.TheVariants as act
use Rattle.sat_act.specs.declared.entry.Entry.{Entry}
use Rattle.sat_act.specs.Deployed.{Deployed}
use Rattle.sat_act.specs.Parts.{pending, beats}
use Rattle.sat_act.specs.Answers.{answer}
use Rattle.sat_act.specs.Runs.{IsRun}
use Rattle.sat_act.specs.Settling.{is_done, inner_entry, tried, for_each, joined, gather_at, emit_all, pulse_at, beat_over, pairs, emptied, opening, left, round_acts, until_refused, round, rounds, settle}
use Rattle.sat_rest.specs.Ends.{IsWithin, UntilRefused, ends, goes_on, IsQuiet}
use Rattle.sat_rest.proofs.Rounds.{inner-act, Goes, stay, step, goes-trans, IsAfter, after-self, after-trans, tried-after, repeated-after, for_each-after, IsRoundAct, round-act, among-in, falls, until-ends, until-after, inner-run}
use Rattle.sat_rest.proofs.Totals.{In-joined, below-In}
use Rattle.sat_label.specs.Members.{In}

-- a history that goes on, where each entry more leaves less
pub record Progress (d : Deployed) (h k : List Entry) : Type 0 where
  pub is_run : IsRun d k
  pub goes : Goes d h k
  pub longer : length h ≤ length k
  pub less : length k + left d k ≤ length h + left d h

progress-self : (d : Deployed) (h : List Entry) → IsRun d h → Progress d h h
progress-self d h run = record { is_run = run; goes = stay; longer = omega arith; less = omega arith }

pub progress-trans : (d : Deployed) (a b c : List Entry) → Progress d a b → Progress d b c → Progress d a c
progress-trans d a b c p q =
    let x : length a ≤ length b = p.longer in
    let y : length b ≤ length c = q.longer in
    let z : length b + left d b ≤ length a + left d a = p.less in
    let w : length c + left d c ≤ length b + left d b = q.less in
    record { is_run = q.is_run; goes = goes-trans d a b c p.goes q.goes; longer = omega arith; less = omega arith }

until-progress : (d : Deployed) (a : Act) (h k : List Entry) → IsWithin d → IsRun d h → IsRoundAct d a → UntilRefused d a h k → Progress d h k
until-progress d a h k w run m (ends e) = progress-self d h run
until-progress d a h k w run m (goes_on {k = k'} e u) =
    let p : Progress d (inner_entry d h a ∷ h) k' = until-progress d a (inner_entry d h a ∷ h) k' w (inner-run d h a run m.inner) m u in
    let x : suc (length h) ≤ length k' = p.longer in
    let y : length k' + left d k' ≤ suc (length h) + left d (inner_entry d h a ∷ h) = p.less in
    let z : left d (inner_entry d h a ∷ h) < left d h = falls d h a w run m e in
    record { is_run = p.is_run; goes = goes-trans d h (inner_entry d h a ∷ h) k' (step a stay run m.inner) p.goes; longer = omega arith; less = omega arith }

-- with no entry more, the act is refused at once
until-quiet : (d : Deployed) (a : Act) (h k : List Entry) → IsWithin d → IsRun d h → IsRoundAct d a → UntilRefused d a h k → length k ≤ length h → (k ≡ h) × (is_done (answer d h a) ≡ false)
until-quiet d a h k w run m (ends e) le = (refl, e)
until-quiet d a h k w run m (goes_on {k = k'} e u) le =
    let p : Progress d (inner_entry d h a ∷ h) k' = until-progress d a (inner_entry d h a ∷ h) k' w (inner-run d h a run m.inner) m u in
    let x : suc (length h) ≤ length k' = p.longer in
    absurd (omega arith)

each-progress : (d : Deployed) (acts : List Act) (h : List Entry) → IsWithin d → IsRun d h → ((a : Act) → In acts a → IsRoundAct d a) → Progress d h (for_each (until_refused d) acts h)
unfolding for_each
each-progress d [] h w run m = progress-self d h run
each-progress d (a ∷ acts) h w run m =
    let p : Progress d h (until_refused d a h) = until-progress d a h (until_refused d a h) w run (m a (inl refl)) (until-ends d a h w run (m a (inl refl))) in
    progress-trans d h (until_refused d a h) (for_each (until_refused d) acts (until_refused d a h)) p (each-progress d acts (until_refused d a h) w p.is_run (λ b i. m b (inr i)))

each-quiet : (d : Deployed) (acts : List Act) (h : List Entry) → IsWithin d → IsRun d h → ((a : Act) → In acts a → IsRoundAct d a) → length (for_each (until_refused d) acts h) ≤ length h → (a : Act) → In acts a → is_done (answer d h a) ≡ false
unfolding for_each
each-quiet d [] h w run m le a i = absurd i
each-quiet d (b ∷ acts) h w run m le a i =
    let u : UntilRefused d b h (until_refused d b h) = until-ends d b h w run (m b (inl refl)) in
    let p : Progress d h (until_refused d b h) = until-progress d b h (until_refused d b h) w run (m b (inl refl)) u in
    let q : Progress d (until_refused d b h) (for_each (until_refused d) acts (until_refused d b h)) = each-progress d acts (until_refused d b h) w p.is_run (λ c j. m c (inr j)) in
    let x : length h ≤ length (until_refused d b h) = p.longer in
    let y : length (until_refused d b h) ≤ length (for_each (until_refused d) acts (until_refused d b h)) = q.longer in
    let r : (until_refused d b h ≡ h) × (is_done (answer d h b) ≡ false) = until-quiet d b h (until_refused d b h) w run (m b (inl refl)) u (omega arith) in
    go r i (λ j. each-quiet d acts h w run (λ c k. m c (inr k)) (subst (λ (k : List Entry). length (for_each (until_refused d) acts k) ≤ length h) r.0 le) a j)
  where
    go : (until_refused d b h ≡ h) × (is_done (answer d h b) ≡ false) → (b ≡ a) ⊎ In acts a → (In acts a → is_done (answer d h a) ≡ false) → is_done (answer d h a) ≡ false
    go r (inl e) old = subst (λ (c : Act). is_done (answer d h c) ≡ false) e r.1
    go r (inr j) old = old j

round-is : (d : Deployed) (h : List Entry) → round d h ≡ for_each (until_refused d) (round_acts d) h
unfolding round
round-is d h = refl

pub round-progress : (d : Deployed) (h : List Entry) → IsWithin d → IsRun d h → Progress d h (round d h)
round-progress d h w run = subst (Progress d h) (sym (round-is d h)) (each-progress d (round_acts d) h w run (λ a i. round-act d a i))

pub round-quiet : (d : Deployed) (h : List Entry) → IsWithin d → IsRun d h → length (round d h) ≤ length h → IsQuiet d h
round-quiet d h w run le a i =
    each-quiet d (round_acts d) h w run (λ a i. round-act d a i) (subst (λ (k : List Entry). length k ≤ length h) (round-is d h) le) a (among-in (round_acts d) a i)

-- ---- rounds

abbrev pick_rounds : Bool → ℕ × List Entry → ℕ × List Entry → ℕ × List Entry
pick_rounds b x y = elim b [ true ↦ x | false ↦ y ]

rounds-quiet : (d : Deployed) (n : ℕ) (h : List Entry) → (length (round d h) == length h) ≡ true → rounds d (suc n) h ≡ (0, h)
unfolding rounds
rounds-quiet d n h e = ap (λ (b : Bool). pick_rounds b (0, h) ((rounds d n (round d h)).0 + 1, (rounds d n (round d h)).1)) e

rounds-more : (d : Deployed) (n : ℕ) (h : List Entry) → (length (round d h) == length h) ≡ false → rounds d (suc n) h ≡ ((rounds d n (round d h)).0 + 1, (rounds d n (round d h)).1)
unfolding rounds
rounds-more d n h e = ap (λ (b : Bool). pick_rounds b (0, h) ((rounds d n (round d h)).0 + 1, (rounds d n (round d h)).1)) e

rounds-zero : (d : Deployed) (h : List Entry) → rounds d 0 h ≡ (0, h)
unfolding rounds
rounds-zero d h = refl

pub record RoundsEnd (d : Deployed) (h : List Entry) (w : ℕ × List Entry) : Type 0 where
  pub progress : Progress d h w.1
  pub count : w.0 ≤ left d h
  pub quiet : length (round d w.1) ≤ length w.1

pub rounds-end : (d : Deployed) (n : ℕ) (h : List Entry) → IsWithin d → IsRun d h → left d h ≤ n → RoundsEnd d h (rounds d n h)
rounds-end d zero h w run le =
    let p : Progress d h (round d h) = round-progress d h w run in
    let a : length (round d h) + left d (round d h) ≤ length h + left d h = p.less in
    subst (RoundsEnd d h) (sym (rounds-zero d h)) (record { progress = progress-self d h run; count = omega arith; quiet = omega arith })
rounds-end d (suc n) h w run le =
    go (length (round d h) == length h) refl (round-progress d h w run) (λ p l. rounds-end d n (round d h) w p l)
  where
    equal : (a b : ℕ) → (a == b) ≡ true → a ≡ b
    equal a b e = grind (arith, nat_tests)

    unequal : (a b : ℕ) → (a == b) ≡ false → b ≤ a → b < a
    unequal a b e l = grind (arith, nat_tests)

    go : (b : Bool) → (length (round d h) == length h) ≡ b → Progress d h (round d h) → (IsRun d (round d h) → left d (round d h) ≤ n → RoundsEnd d (round d h) (rounds d n (round d h))) → RoundsEnd d h (rounds d (suc n) h)
    go true e p old =
        let a : length (round d h) ≡ length h = equal (length (round d h)) (length h) e in
        subst (RoundsEnd d h) (sym (rounds-quiet d n h e)) (record { progress = progress-self d h run; count = omega arith; quiet = omega arith })
    go false e p old =
        let a : length h < length (round d h) = unequal (length (round d h)) (length h) e p.longer in
        let b : length (round d h) + left d (round d h) ≤ length h + left d h = p.less in
        let k : RoundsEnd d (round d h) (rounds d n (round d h)) = old p.is_run (omega arith) in
        let c : (rounds d n (round d h)).0 ≤ left d (round d h) = k.count in
        subst (RoundsEnd d h) (sym (rounds-more d n h e)) (record { progress = progress-trans d h (round d h) (rounds d n (round d h)).1 p k.progress; count = omega arith; quiet = k.quiet })

-- ---- the opening

pub pair-of : (d : Deployed) (p : ℕ × ℕ) → In (pairs d) p → (p.0 < d.sites) × (p.1 < d.sites) × ((p.0 == p.1) ≡ false)
pair-of d p m =
    let q : (i : ℕ) × In (below d.sites) i × In (joined (λ j. if i == j then [] else (i, j) ∷ []) (below d.sites)) p =
    In-joined (λ (i : ℕ). joined (λ (j : ℕ). if i == j then [] else (i, j) ∷ []) (below d.sites)) (below d.sites) p m in
    let r : (j : ℕ) × In (below d.sites) j × In (if q.0 == j then [] else (q.0, j) ∷ []) p = In-joined (λ (j : ℕ). if q.0 == j then [] else (q.0, j) ∷ []) (below d.sites) p q.2 in
    one q.0 r.0 (below-In d.sites q.0 q.1) (below-In d.sites r.0 r.1) (q.0 == r.0) refl r.2
  where
    one : (i j : ℕ) → i < d.sites → j < d.sites → (b : Bool) → (i == j) ≡ b → In (if b then [] else (i, j) ∷ []) p → (p.0 < d.sites) × (p.1 < d.sites) × ((p.0 == p.1) ≡ false)
    one i j x y true e k = absurd k
    one i j x y false e (inl k) = subst (λ (p : ℕ × ℕ). (p.0 < d.sites) × (p.1 < d.sites) × ((p.0 == p.1) ≡ false)) k (x, y, e)
    one i j x y false e (inr k) = absurd k

pub emptied-is : (d : Deployed) (h : List Entry) → emptied d h ≡ for_each (emit_all d) (below d.sites) (for_each (gather_at d) (below d.sites) (tried d act.Clock h))
unfolding emptied
emptied-is d h = refl

pub opening-is : (d : Deployed) (h : List Entry) → opening d h ≡ for_each (beat_over d) (pairs d) (for_each (pulse_at d) (below d.sites) (emptied d h))
unfolding opening
opening-is d h = refl

pub beat-after : (d : Deployed) (p : ℕ × ℕ) (k : List Entry) → IsRun d k → (p.0 < d.sites) × (p.1 < d.sites) × ((p.0 == p.1) ≡ false) → IsAfter d k (beat_over d p k)
beat-after d p k run w =
    let a : IsAfter d k (tried d (act.Beat p.0 p.1) k) = tried-after d (act.Beat p.0 p.1) k run (inner-act d (act.Beat p.0 p.1) w refl refl) in
    after-trans d k (tried d (act.Beat p.0 p.1) k) (beat_over d p k) a (tried-after d (act.BeatIn p.0 p.1 (length (beats d k p.0 p.1))) (tried d (act.Beat p.0 p.1) k) a.is_run (inner-act d (act.BeatIn p.0 p.1 (length (beats d k p.0 p.1))) w refl refl))

pub emptied-after : (d : Deployed) (h : List Entry) → IsRun d h → IsAfter d h (emptied d h)
emptied-after d h run =
    let a : IsAfter d h (tried d act.Clock h) = tried-after d act.Clock h run (inner-act d act.Clock tt refl refl) in
    let b : IsAfter d (tried d act.Clock h) (for_each (gather_at d) (below d.sites) (tried d act.Clock h)) =
    for_each-after d (gather_at d) (below d.sites) (tried d act.Clock h) a.is_run (λ i k m r. tried-after d (act.Gather i) k r (inner-act d (act.Gather i) (below-In d.sites i m) refl refl)) in
    let c : IsAfter d (for_each (gather_at d) (below d.sites) (tried d act.Clock h)) (for_each (emit_all d) (below d.sites) (for_each (gather_at d) (below d.sites) (tried d act.Clock h))) =
    for_each-after d (emit_all d) (below d.sites) _ b.is_run (λ i k m r. repeated-after d (act.Emit i) (length (pending d k i)) k r (inner-act d (act.Emit i) (below-In d.sites i m) refl refl)) in
    subst (IsAfter d h) (sym (emptied-is d h)) (after-trans d _ _ _ a (after-trans d _ _ _ b c))

pub opening-after : (d : Deployed) (h : List Entry) → IsRun d h → IsAfter d (emptied d h) (opening d h)
opening-after d h run =
    let a : IsAfter d h (emptied d h) = emptied-after d h run in
    let b : IsAfter d (emptied d h) (for_each (pulse_at d) (below d.sites) (emptied d h)) =
    for_each-after d (pulse_at d) (below d.sites) (emptied d h) a.is_run (λ i k m r. tried-after d (act.Pulse i) k r (inner-act d (act.Pulse i) (below-In d.sites i m) refl refl)) in
    let c : IsAfter d (for_each (pulse_at d) (below d.sites) (emptied d h)) (for_each (beat_over d) (pairs d) (for_each (pulse_at d) (below d.sites) (emptied d h))) =
    for_each-after d (beat_over d) (pairs d) _ b.is_run (λ p k m r. beat-after d p k r (pair-of d p m)) in
    subst (IsAfter d (emptied d h)) (sym (opening-is d h)) (after-trans d _ _ _ b c)

pub opens : (d : Deployed) (h : List Entry) → IsRun d h → IsAfter d h (opening d h)
opens d h run = let a : IsAfter d h (emptied d h) = emptied-after d h run in after-trans d h (emptied d h) (opening d h) a (opening-after d h run)

settle-is : (d : Deployed) (h : List Entry) → settle d h ≡ rounds d (left d (opening d h)) (opening d h)
unfolding settle
settle-is d h = refl

pub settle-ends : (d : Deployed) (h : List Entry) → IsWithin d → IsRun d h → RoundsEnd d (opening d h) (settle d h)
settle-ends d h w run =
    subst (RoundsEnd d (opening d h)) (sym (settle-is d h)) (rounds-end d (left d (opening d h)) (opening d h) w (opens d h run).is_run (omega arith))

-- ---- without any limit, a settle gives a run

rounds-after : (d : Deployed) (n : ℕ) (h : List Entry) → IsRun d h → IsAfter d h (rounds d n h).1
rounds-after d zero h run = subst (λ (w : ℕ × List Entry). IsAfter d h w.1) (sym (rounds-zero d h)) (after-self d h run)
rounds-after d (suc n) h run =
    go (length (round d h) == length h) refl round-after (λ r. rounds-after d n (round d h) r)
  where
    round-after : IsAfter d h (round d h)
    round-after =
        subst (IsAfter d h) (sym (round-is d h)) (for_each-after d (until_refused d) (round_acts d) h run (λ a k i r. until-after d a k r (round-act d a i).inner))

    go : (b : Bool) → (length (round d h) == length h) ≡ b → IsAfter d h (round d h) → (IsRun d (round d h) → IsAfter d (round d h) (rounds d n (round d h)).1) → IsAfter d h (rounds d (suc n) h).1
    go true e p old = subst (λ (w : ℕ × List Entry). IsAfter d h w.1) (sym (rounds-quiet d n h e)) (after-self d h run)
    go false e p old = subst (λ (w : ℕ × List Entry). IsAfter d h w.1) (sym (rounds-more d n h e)) (after-trans d h (round d h) (rounds d n (round d h)).1 p (old p.is_run))

pub settle-after : (d : Deployed) (h : List Entry) → IsRun d h → IsAfter d h (settle d h).1
settle-after d h run =
    let a : IsAfter d h (opening d h) = opens d h run in
    after-trans d h (opening d h) (settle d h).1 a (subst (λ (w : ℕ × List Entry). IsAfter d (opening d h) w.1) (sym (settle-is d h)) (rounds-after d (left d (opening d h)) (opening d h) a.is_run))
