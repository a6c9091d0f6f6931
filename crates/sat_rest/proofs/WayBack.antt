-- The way back: a run is, flags aside, the run of a list of acts.
use Rattle.std.specs.Prelude.{◌≡◌, ◌≤◌, ℕ, zero, suc, ◌+◌, ◌-◌, Bool, true, false, ◌==◌, List, [], ◌∷◌, length, Some, None, refl}
use Rattle.std.proofs.Common.{arith, ap, subst, sym, inl, inr, ◌∙◌}
use Rattle.std.proofs.Math.Nat.{le_refl}
use Rattle.sat_label.specs.Words.{below}
use Rattle.sat_act.specs.declared.act.Act.{Act}
use Rattle.sat_act.specs.declared.act.Act.TheVariants as act
use Rattle.sat_act.specs.declared.answer.Answer.TheVariants as ans
use Rattle.sat_act.specs.declared.entry.Entry.{Entry}
use Rattle.sat_act.specs.Deployed.{Deployed}
use Rattle.sat_act.specs.Parts.{handling, pending, beats}
use Rattle.sat_act.specs.Answers.{answer}
use Rattle.sat_act.specs.Settling.{is_done, inner_entry, tried, repeated, for_each, gather_at, emit_all, pulse_at, beat_over, pairs, emptied, opening, total, payload_entry, payloads, payload_left, payloads_left, handlings, sending_entry, sendings, sending_left, left, round_acts, until_refused, round, rounds, settle, capped, answer_of, with_inner, run}
use Rattle.sat_act.specs.Runs.{IsRun, IsAnswer, is_settle}
use Rattle.sat_laws.proofs.Runs.{before_of, range_of}
use Rattle.sat_laws.proofs.BeatTimes.{Later, now, more, later-run, later-trans}
use Rattle.sat_rest.specs.Flags.{without_flags}
use Rattle.sat_rest.specs.Laws.{IsOfActs, EveryRunIsOfActs}
use Rattle.sat_rest.proofs.Flags.{listed-free, pending-free, beats-free, brought-free, shown-free, view-free, handling-free, answer-free}

-- two histories that differ in flags alone
abbrev Alike : List Entry → List Entry → Type 0
Alike h k = without_flags h ≡ without_flags k

-- what doesn't depend on flags is one of both
same : {X : Type 0} (f : List Entry → X) → ((h : List Entry) → f (without_flags h) ≡ f h) → (h k : List Entry) → Alike h k → f h ≡ f k
same f free h k q = sym (free h) ∙ (ap f q ∙ free k)

answer-same : (d : Deployed) (a : Act) (h k : List Entry) → Alike h k → answer d h a ≡ answer d k a
answer-same d a h k q = same (λ x. answer d x a) (λ x. answer-free d x a) h k q

length-free : (h : List Entry) → length (without_flags h) ≡ length h
length-free [] = refl
length-free (x ∷ h) = ap suc (length-free h)

length-same : (h k : List Entry) → Alike h k → length h ≡ length k
length-same h k q = same (λ x. length x) length-free h k q

-- ---- what is left

payloads-free : (d : Deployed) (h : List Entry) (j : ℕ) → payloads d (without_flags h) j ≡ payloads d h j
unfolding payloads
payloads-free d h j = listed-free (payload_entry d j) (λ h e. refl) h

payloads_left-free : (d : Deployed) (h : List Entry) (j : ℕ) → payloads_left d (without_flags h) j ≡ payloads_left d h j
unfolding payloads_left
payloads_left-free d h j = λ p. total (payload_left (brought-free h j p) (shown-free h j p)) (payloads-free d h j p)

handlings-free : (d : Deployed) (h : List Entry) → handlings d (without_flags h) ≡ handlings d h
unfolding handlings
handlings-free d h = listed-free (handling d) (λ h e. handling-free d h e) h

sendings-free : (d : Deployed) (h : List Entry) → sendings d (without_flags h) ≡ sendings d h
unfolding sendings
sendings-free d h = listed-free (sending_entry d) (λ h e p. elim (handling-free d h e p) [ None ↦ None | Some x ↦ elim x.from [ None ↦ Some x | Some u ↦ None ] ]) h

left-free : (d : Deployed) (h : List Entry) → left d (without_flags h) ≡ left d h
unfolding left
left-free d h = λ p.
    (total (λ j. payloads_left-free d h j p) (below d.sites) + total (sending_left d (handlings-free d h p)) (sendings-free d h p))
    + total (λ j. length d.plans - view-free h j p) (below d.sites)

left-same : (d : Deployed) (h k : List Entry) → Alike h k → left d h ≡ left d k
left-same d h k q = same (left d) (left-free d) h k q

-- ---- a settle keeps two histories alike

inner-alike : (d : Deployed) (a : Act) (h k : List Entry) → Alike h k → Alike (inner_entry d h a ∷ h) (inner_entry d k a ∷ k)
inner-alike d a h k q = λ p. record { act = a; answer = answer-same d a h k q p; inner = false } ∷ q p

tried-alike : (d : Deployed) (a : Act) (h k : List Entry) → Alike h k → Alike (tried d a h) (tried d a k)
unfolding tried
tried-alike d a h k q = go (is_done (answer d h a)) (is_done (answer d k a)) (ap is_done (answer-same d a h k q))
  where
    go : (b c : Bool) → b ≡ c → without_flags (elim b [ true ↦ inner_entry d h a ∷ h | false ↦ h ]) ≡ without_flags (elim c [ true ↦ inner_entry d k a ∷ k | false ↦ k ])
    go true true e = inner-alike d a h k q
    go false false e = q
    go true false e = absurd (cc)
    go false true e = absurd (cc)

repeated-alike : (d : Deployed) (a : Act) (n : ℕ) (h k : List Entry) → Alike h k → Alike (repeated d a n h) (repeated d a n k)
unfolding repeated
repeated-alike d a zero h k q = q
repeated-alike d a (suc n) h k q =
    go (is_done (answer d h a)) (is_done (answer d k a)) (ap is_done (answer-same d a h k q)) (repeated-alike d a n (inner_entry d h a ∷ h) (inner_entry d k a ∷ k) (inner-alike d a h k q))
  where
    go : (b c : Bool) → b ≡ c → Alike (repeated d a n (inner_entry d h a ∷ h)) (repeated d a n (inner_entry d k a ∷ k)) →
        without_flags (elim b [ true ↦ repeated d a n (inner_entry d h a ∷ h) | false ↦ h ]) ≡ without_flags (elim c [ true ↦ repeated d a n (inner_entry d k a ∷ k) | false ↦ k ])
    go true true e w = w
    go false false e w = q
    go true false e w = absurd (cc)
    go false true e w = absurd (cc)

-- the same with a count that is the history's own
counted-alike : (d : Deployed) (a : Act) (m n : ℕ) (h k : List Entry) → m ≡ n → Alike h k → Alike (repeated d a m h) (repeated d a n k)
counted-alike d a m n h k e q = subst (λ (n : ℕ). Alike (repeated d a m h) (repeated d a n k)) e (repeated-alike d a m h k q)

each-alike : {X : Type 0} (f : X → List Entry → List Entry) → ((x : X) (h k : List Entry) → Alike h k → Alike (f x h) (f x k)) → (xs : List X) (h k : List Entry) → Alike h k → Alike (for_each f xs h) (for_each f xs k)
unfolding for_each
each-alike f keeps [] h k q = q
each-alike f keeps (x ∷ xs) h k q = each-alike f keeps xs (f x h) (f x k) (keeps x h k q)

emit-alike : (d : Deployed) (i : ℕ) (h k : List Entry) → Alike h k → Alike (emit_all d i h) (emit_all d i k)
emit-alike d i h k q =
    counted-alike d (act.Emit i) (length (pending d h i)) (length (pending d k i)) h k (ap length (same (λ x. pending d x i) (λ x. pending-free d x i) h k q)) q

beat-alike : (d : Deployed) (x : ℕ × ℕ) (h k : List Entry) → Alike h k → Alike (beat_over d x h) (beat_over d x k)
beat-alike d x h k q =
    subst (λ (n : ℕ). Alike (beat_over d x h) (tried d (act.BeatIn x.0 x.1 n) (tried d (act.Beat x.0 x.1) k)))
    (ap length (same (λ y. beats d y x.0 x.1) (λ y. beats-free d y x.0 x.1) h k q))
    (tried-alike d (act.BeatIn x.0 x.1 (length (beats d h x.0 x.1))) (tried d (act.Beat x.0 x.1) h) (tried d (act.Beat x.0 x.1) k) (tried-alike d (act.Beat x.0 x.1) h k q))

emptied-alike : (d : Deployed) (h k : List Entry) → Alike h k → Alike (emptied d h) (emptied d k)
unfolding emptied
emptied-alike d h k q =
    each-alike (emit_all d) (emit-alike d) (below d.sites) _ _
    (each-alike (gather_at d) (λ i h k q. tried-alike d (act.Gather i) h k q) (below d.sites) _ _ (tried-alike d act.Clock h k q))

opening-alike : (d : Deployed) (h k : List Entry) → Alike h k → Alike (opening d h) (opening d k)
unfolding opening
opening-alike d h k q =
    each-alike (beat_over d) (beat-alike d) (pairs d) _ _
    (each-alike (pulse_at d) (λ i h k q. tried-alike d (act.Pulse i) h k q) (below d.sites) _ _ (emptied-alike d h k q))

until-alike : (d : Deployed) (a : Act) (h k : List Entry) → Alike h k → Alike (until_refused d a h) (until_refused d a k)
unfolding until_refused
until-alike d a h k q = counted-alike d a (left d h) (left d k) h k (left-same d h k q) q

round-alike : (d : Deployed) (h k : List Entry) → Alike h k → Alike (round d h) (round d k)
unfolding round
round-alike d h k q = each-alike (until_refused d) (until-alike d) (round_acts d) h k q

-- as many rounds, and alike after them
abbrev BothAlike : ℕ × List Entry → ℕ × List Entry → Type 0
BothAlike v w = (v.0 ≡ w.0) × Alike v.1 w.1

rounds-alike : (d : Deployed) (n : ℕ) (h k : List Entry) → Alike h k → BothAlike (rounds d n h) (rounds d n k)
unfolding rounds
rounds-alike d zero h k q = (refl, q)
rounds-alike d (suc n) h k q =
    let r : Alike (round d h) (round d k) = round-alike d h k q in
    go (length (round d h) == length h) (length (round d k) == length k) (λ p. length-same (round d h) (round d k) r p == length-same h k q p) (rounds-alike d n (round d h) (round d k) r)
  where
    next : Bool → List Entry → ℕ × List Entry
    next b h = elim b [ true ↦ (0, h) | false ↦ ((rounds d n (round d h)).0 + 1, (rounds d n (round d h)).1) ]

    go : (b c : Bool) → b ≡ c → BothAlike (rounds d n (round d h)) (rounds d n (round d k)) → BothAlike (next b h) (next c k)
    go true true e w = (refl, q)
    go false false e w = (ap (λ (m : ℕ). m + 1) w.0, w.1)
    go true false e w = absurd (cc)
    go false true e w = absurd (cc)

settle-alike : (d : Deployed) (h k : List Entry) → Alike h k → BothAlike (settle d h) (settle d k)
unfolding settle
settle-alike d h k q =
    let o : Alike (opening d h) (opening d k) = opening-alike d h k q in
    subst (λ (n : ℕ). BothAlike (rounds d (left d (opening d h)) (opening d h)) (rounds d n (opening d k))) (left-same d (opening d h) (opening d k) o)
    (rounds-alike d (left d (opening d h)) (opening d h) (opening d k) o)

settled-same : (d : Deployed) (h k : List Entry) → Alike h k → answer_of d h act.Settle ≡ answer_of d k act.Settle
unfolding answer_of
settled-same d h k q =
    let w : BothAlike (settle d h) (settle d k) = settle-alike d h k q in
    λ p. ans.Settled (capped (w.0 p)) (capped (length-same (settle d h).1 (settle d k).1 w.1 p - length-same h k q p))

-- ---- a settle goes on from its start

tried-later : (d : Deployed) (a : Act) (h : List Entry) → Later h (tried d a h)
unfolding tried
tried-later d a h = go (is_done (answer d h a))
  where
    go : (b : Bool) → Later h (elim b [ true ↦ inner_entry d h a ∷ h | false ↦ h ])
    go true = more now
    go false = now

repeated-later : (d : Deployed) (a : Act) (n : ℕ) (h : List Entry) → Later h (repeated d a n h)
unfolding repeated
repeated-later d a zero h = now
repeated-later d a (suc n) h = go (is_done (answer d h a)) (repeated-later d a n (inner_entry d h a ∷ h))
  where
    go : (b : Bool) → Later (inner_entry d h a ∷ h) (repeated d a n (inner_entry d h a ∷ h)) → Later h (elim b [ true ↦ repeated d a n (inner_entry d h a ∷ h) | false ↦ h ])
    go true l = later-trans h (inner_entry d h a ∷ h) (repeated d a n (inner_entry d h a ∷ h)) (more now) l
    go false l = now

each-later : {X : Type 0} (f : X → List Entry → List Entry) → ((x : X) (h : List Entry) → Later h (f x h)) → (xs : List X) (h : List Entry) → Later h (for_each f xs h)
unfolding for_each
each-later f goes [] h = now
each-later f goes (x ∷ xs) h = later-trans h (f x h) (for_each f xs (f x h)) (goes x h) (each-later f goes xs (f x h))

beat-later : (d : Deployed) (x : ℕ × ℕ) (h : List Entry) → Later h (beat_over d x h)
beat-later d x h = later-trans h (tried d (act.Beat x.0 x.1) h) (beat_over d x h) (tried-later d (act.Beat x.0 x.1) h) (tried-later d (act.BeatIn x.0 x.1 (length (beats d h x.0 x.1))) (tried d (act.Beat x.0 x.1) h))

emptied-later : (d : Deployed) (h : List Entry) → Later h (emptied d h)
unfolding emptied
emptied-later d h =
    later-trans h _ _ (tried-later d act.Clock h)
    (later-trans _ _ _ (each-later (gather_at d) (λ i h. tried-later d (act.Gather i) h) (below d.sites) (tried d act.Clock h))
    (each-later (emit_all d) (λ i h. repeated-later d (act.Emit i) (length (pending d h i)) h) (below d.sites) _))

opening-later : (d : Deployed) (h : List Entry) → Later h (opening d h)
unfolding opening
opening-later d h =
    later-trans h _ _ (emptied-later d h)
    (later-trans _ _ _ (each-later (pulse_at d) (λ i h. tried-later d (act.Pulse i) h) (below d.sites) (emptied d h)) (each-later (beat_over d) (beat-later d) (pairs d) _))

round-later : (d : Deployed) (h : List Entry) → Later h (round d h)
unfolding round until_refused
round-later d h = each-later (until_refused d) (λ a h. repeated-later d a (left d h) h) (round_acts d) h

rounds-later : (d : Deployed) (n : ℕ) (h : List Entry) → Later h (rounds d n h).1
unfolding rounds
rounds-later d zero h = now
rounds-later d (suc n) h = go (length (round d h) == length h) (rounds-later d n (round d h))
  where
    next : Bool → ℕ × List Entry
    next b = elim b [ true ↦ (0, h) | false ↦ ((rounds d n (round d h)).0 + 1, (rounds d n (round d h)).1) ]

    go : (b : Bool) → Later (round d h) (rounds d n (round d h)).1 → Later h (next b).1
    go true l = now
    go false l = later-trans h (round d h) (rounds d n (round d h)).1 (round-later d h) l

settle-later : (d : Deployed) (h : List Entry) → Later h (settle d h).1
unfolding settle
settle-later d h = later-trans h (opening d h) _ (opening-later d h) (rounds-later d (left d (opening d h)) (opening d h))

later-length : (b h : List Entry) → Later b h → length b ≤ length h
later-length b h now = le_refl (length b)
later-length b h (more {h = k} l) = let w : length b ≤ length k = later-length b k l in omega arith

-- ---- the way back

plain-answer : (d : Deployed) (h : List Entry) (a : Act) → is_settle a ≡ false → answer_of d h a ≡ answer d h a
unfolding answer_of
plain-answer d h act.Settle e = absurd (cc)
plain-answer d h _ e = refl

plain-with : (d : Deployed) (h : List Entry) (a : Act) → is_settle a ≡ false → with_inner d h a ≡ h
unfolding with_inner
plain-with d h act.Settle e = absurd (cc)
plain-with d h _ e = refl

is_answer : (d : Deployed) (h : List Entry) (x : Entry) → IsRun d (x ∷ h) → IsAnswer d h x.act x.answer
unfolding IsRun
is_answer d h x r = r.2

-- one more entry of an act that is no settle
one-more : (d : Deployed) (h : List Entry) (x : Entry) → IsRun d (x ∷ h) → is_settle x.act ≡ false → x.answer ≡ answer d h x.act → IsOfActs d h → IsOfActs d (x ∷ h)
unfolding run
one-more d h x r plain e w =
    let k : List Entry = run d w.acts in
    let answers : x.answer ≡ answer_of d k x.act = e ∙ (answer-same d x.act h k w.same ∙ sym (plain-answer d k x.act plain)) in
    let before : without_flags h ≡ without_flags (with_inner d k x.act) = w.same ∙ ap without_flags (sym (plain-with d k x.act plain)) in
    record {
      acts = x.act ∷ w.acts;
      range = (w.range, range_of d h x r);
      same = λ p. record { act = x.act; answer = answers p; inner = false } ∷ before p;
    }

-- one more settle
settle-more : (d : Deployed) (start h : List Entry) (x : Entry) → x.act ≡ act.Settle → h ≡ (settle d start).1 → x.answer ≡ answer_of d start act.Settle → IsOfActs d start → IsOfActs d (x ∷ h)
unfolding run with_inner
settle-more d start h x settles ends e w =
    let k : List Entry = run d w.acts in
    let answers : x.answer ≡ answer_of d k act.Settle = e ∙ settled-same d start k w.same in
    let before : without_flags h ≡ without_flags (settle d k).1 = ap without_flags ends ∙ (settle-alike d start k w.same).1 in
    record {
      acts = act.Settle ∷ w.acts;
      range = (w.range, tt);
      same = λ p. record { act = settles p; answer = answers p; inner = false } ∷ before p;
    }

back-within : (n : ℕ) (d : Deployed) (h : List Entry) → length h ≤ n → IsRun d h → IsOfActs d h
back-within n d [] few r = record { acts = []; range = tt; same = unfold run in refl }
back-within zero d (x ∷ h) few r = absurd (omega arith)
back-within (suc n) d (x ∷ h) few r = go (is_answer d h x r) (λ k less r. back-within n d k less r)
  where
    before : IsRun d h
    before = before_of d h x r

    go : IsAnswer d h x.act x.answer → ((k : List Entry) → length k ≤ n → IsRun d k → IsOfActs d k) → IsOfActs d (x ∷ h)
    go (inl plain) shorter = one-more d h x r plain.0 plain.1 (shorter h (omega arith) before)
    go (inr (start, settles, ends, e)) shorter =
        let l : Later start h = subst (λ (k : List Entry). Later start k) (sym ends) (settle-later d start) in
        let less : length start ≤ length h = later-length start h l in
        settle-more d start h x settles ends e (shorter start (omega arith) (later-run d start h l before))

pub way-back : EveryRunIsOfActs
way-back d h r = back-within (length h) d h (le_refl (length h)) r
