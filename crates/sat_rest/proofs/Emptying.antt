-- After a settle each lane is taken whole, and each label that was made was sent.
use Rattle.std.specs.Prelude.{◌≡◌, ◌⊎◌, ◌<◌, ◌≤◌, ℕ, zero, suc, ◌+◌, Bool, true, false, ◌==◌, min, List, [], ◌∷◌, ◌++◌, Option, Some, None, refl, length, slice_get, if◌then◌else◌, cond}
use Rattle.std.specs.List.{prefix_len}
use Rattle.std.proofs.Common.{sym, subst, arith, inl, inr, ◌∙◌}
use Rattle.std.proofs.lemmas.Bool.Decides.{nat_tests}
use Rattle.sat_label.specs.declared.label.Label.{Label}
use Rattle.sat_label.specs.Order.{label_eq}
use Rattle.sat_label.specs.Words.{below, has}
use Rattle.sat_act.specs.declared.act.Act.{Act}
use Rattle.sat_act.specs.declared.act.Act.TheVariants as act
use Rattle.sat_act.specs.declared.answer.Answer.{Answer}
use Rattle.sat_act.specs.declared.answer.Answer.TheVariants as ans
use Rattle.sat_act.specs.declared.answer.Refusal.TheVariants as why
use Rattle.sat_act.specs.declared.entry.Entry.{Entry}
use Rattle.sat_act.specs.Deployed.{Deployed}
use Rattle.sat_act.specs.Done.{made_in, of_client}
use Rattle.sat_act.specs.Parts.{promise, least_promise, gathered, stable, ready, pending, lane, brought}
use Rattle.sat_act.specs.Answers.{answer, greatest_promise}
use Rattle.sat_act.specs.Runs.{IsRun}
use Rattle.sat_act.specs.Goals.{Gives, Made, IsValid}
use Rattle.sat_act.specs.Settling.{is_done, inner_entry, tried, for_each, joined, gather_at, emit_all, emptied, opening, bulks, hops, turns, round_acts, settle}
use Rattle.sat_rest.specs.Ends.{IsWithin, UntilRefused, ends, goes_on, IsQuiet}
use Rattle.sat_rest.specs.Rest.{LanesWhole}
use Rattle.sat_laws.proofs.Steps.{Step, outcome, wrote, moved}
use Rattle.sat_laws.proofs.Labels.{IsPlaced, made-placed}
use Rattle.sat_laws.proofs.Gears.{greatest_promise-above, promise-rises}
use Rattle.sat_laws.proofs.Sinks.{Sent, by_gather, stable-rises}
use Rattle.sat_laws.proofs.Cuts.{none-sent}
use Rattle.sat_laws.proofs.Links.{In-place}
use Rattle.sat_laws.proofs.Shows.{IsFor, in-lane, for-kept}
use Rattle.sat_laws.proofs.BeatTimes.{in-lane-of}
use Rattle.sat_rest.proofs.Rounds.{IsInner, inner-act, Goes, goes-keep, IsAfter, tried-after, repeated-after, for_each-after, in-among, emits-end}
use Rattle.sat_rest.proofs.Settles.{emptied-is, opening-after, settle-ends}
use Rattle.sat_rest.proofs.Totals.{In-below, below-In, into-joined}
use Rattle.sat_label.specs.Members.{In}
use Rattle.sat_label.proofs.Members.{In-get, In-left, In-right}
use Rattle.sat_laws.proofs.Written.{write-client}

-- ---- the acts that a round tries

one-of : (b : Bool) (a : Act) → b ≡ false → In (if b then [] else a ∷ []) a
one-of true a e = absurd (cc)
one-of false a e = inl refl

pub bulk-tried : (d : Deployed) (i g j : ℕ) → i < d.sites → g < d.gears → j < d.sites → (i == j) ≡ false → In (round_acts d) (act.Bulk i g j None)
unfolding round_acts
bulk-tried d i g j x y z e =
    In-left (bulks d) (hops d ++ turns d) (act.Bulk i g j None)
    (into-joined (λ (i : ℕ). joined (λ (g : ℕ). joined (λ (j : ℕ). if i == j then [] else act.Bulk i g j None ∷ []) (below d.sites)) (below d.gears)) (below d.sites) i (act.Bulk i g j None) (In-below d.sites i x)
    (into-joined (λ (g : ℕ). joined (λ (j : ℕ). if i == j then [] else act.Bulk i g j None ∷ []) (below d.sites)) (below d.gears) g (act.Bulk i g j None) (In-below d.gears g y)
    (into-joined (λ (j : ℕ). if i == j then [] else act.Bulk i g j None ∷ []) (below d.sites) j (act.Bulk i g j None) (In-below d.sites j z) (one-of (i == j) (act.Bulk i g j None) e))))

pub turn-tried : (d : Deployed) (j : ℕ) (a : Act) → j < d.sites → In (act.Turn j ∷ act.Stamp j ∷ act.Advance j ∷ []) a → In (round_acts d) a
unfolding round_acts
turn-tried d j a b i =
    In-right (bulks d) (hops d ++ turns d) a
    (In-right (hops d) (turns d) a (into-joined (λ (j : ℕ). act.Turn j ∷ act.Stamp j ∷ act.Advance j ∷ []) (below d.sites) j a (In-below d.sites j b) i))

-- ---- lanes

abbrev pub pick_bring : (Label → Bool) → Option Label → Answer
pick_bring p o = elim o [ None ↦ ans.Refused why.NoSuch | Some l ↦ if p l then ans.Again else ans.Brought l ]

pub answer-bulk : (d : Deployed) (h : List Entry) (i g j : ℕ) →
    answer d h (act.Bulk i g j None) ≡ pick_bring (λ l. has label_eq (brought h j) l) (slice_get (lane d h i g j) (prefix_len (λ l. has label_eq (brought h j) l) (lane d h i g j)))
unfolding answer
answer-bulk d h i g j = refl

pub all-pass : (p : Label → Bool) (xs : List Label) → is_done (pick_bring p (slice_get xs (prefix_len p xs))) ≡ false → (n : ℕ) (l : Label) → slice_get xs n ≡ Some l → p l ≡ true
all-pass p [] e n l k = absurd (cc)
all-pass p (x ∷ xs) e n l k = go (p x) refl e n k (λ w m q. all-pass p xs w m l q)
  where
    one_suc : (m : ℕ) → 1 + m ≡ suc m
    one_suc m = omega arith

    bring_here : (b : Bool) → p x ≡ b → b ≡ false → is_done (if b then ans.Again else ans.Brought x) ≡ false → ⊥
    bring_here true q e w = cc
    bring_here false q e w = cc

    go : (b : Bool) → p x ≡ b → is_done (pick_bring p (slice_get (x ∷ xs) (cond b (1 + prefix_len p xs) 0))) ≡ false → (n : ℕ) → slice_get (x ∷ xs) n ≡ Some l →
        (is_done (pick_bring p (slice_get xs (prefix_len p xs))) ≡ false → (m : ℕ) → slice_get xs m ≡ Some l → p l ≡ true) → p l ≡ true
    go true q e zero k old = subst (λ (o : Option Label). at o) k q
      where
        at : Option Label → Type 0
        at o = elim o [ None ↦ ⊥ | Some y ↦ p y ≡ true ]
    go true q e (suc n) k old = old (subst (λ (m : ℕ). is_done (pick_bring p (slice_get (x ∷ xs) m)) ≡ false) (one_suc (prefix_len p xs)) e) n k
    go false q e n k old = absurd (bring_here (p x) refl q e)

pub for-brought : (d : Deployed) (h : List Entry) (j : ℕ) (l : Label) → IsValid d → IsRun d h → IsQuiet d h → j < d.sites → IsFor d h j l → has label_eq (brought h j) l ≡ true
for-brought d h j l v run quiet b f =
    let p : IsPlaced d h l = made-placed d h l v run f.made in
    let w : (n : ℕ) × (slice_get (lane d h l.point.site l.point.gear j) n ≡ Some l) = In-place (lane d h l.point.site l.point.gear j) l (in-lane-of d h j l f.made f.update f.target) in
    let q : is_done (answer d h (act.Bulk l.point.site l.point.gear j None)) ≡ false =
    quiet (act.Bulk l.point.site l.point.gear j None) (in-among (round_acts d) (act.Bulk l.point.site l.point.gear j None) (bulk-tried d l.point.site l.point.gear j p.site p.gear b (unequal l.point.site j (for-kept d h j l f).1))) in
    all-pass (λ l. has label_eq (brought h j) l) (lane d h l.point.site l.point.gear j) (subst (λ (r : Answer). is_done r ≡ false) (answer-bulk d h l.point.site l.point.gear j) q) w.0 l w.1
  where
    unequal : (a b : ℕ) → (a ≡ b → ⊥) → (a == b) ≡ false
    unequal a b n = grind (arith, nat_tests)

pub lanes-whole : (d : Deployed) (h : List Entry) → IsValid d → IsRun d h → IsQuiet d h → LanesWhole d h
lanes-whole d h v run quiet i g j n l b k = for-brought d h j l v run quiet b (in-lane d h i g j l (In-get (lane d h i g j) n l k))

-- ---- labels that were made

pub unmade : (d : Deployed) (h : List Entry) (a : Act) (r : Answer) → Step d h a r → of_client a ≡ None → made_in r ≡ None
unmade d h a r (wrote {w = w} z p q b) o = absurd (let e : of_client a ≡ Some w.client = write-client a w z in cc)
unmade d h a r (moved p q w) o = absurd (cc)
unmade d h a r _ o = refl

pub old-made : (d : Deployed) (h : List Entry) (a : Act) (l : Label) → IsInner d a → Made (inner_entry d h a ∷ h) l → Made h l
unfolding Gives
old-made d h a l m (inl k) = k
old-made d h a l m (inr k) = absurd (let e : made_in (answer d h a) ≡ None = unmade d h a (answer d h a) (outcome d h a) m.operator in let z : None ≡ Some l = sym e ∙ k in cc)

abbrev Covered : Deployed → ℕ → List Entry → Type 0
Covered d i h = (l : Label) (g : ℕ) → Made h l → g < d.gears → l.point.ts ≤ promise h i g

abbrev pub AllStable : Deployed → ℕ → List Entry → Type 0
AllStable d i h = (l : Label) → Made h l → l.point.ts ≤ stable d h i

abbrev pub AllSent : Deployed → ℕ → List Entry → Type 0
AllSent d i h = (l : Label) → Made h l → l.point.site ≡ i → Sent h i l

covered-keeps : (d : Deployed) (i : ℕ) → i < d.sites → (h k : List Entry) → Goes d h k → Covered d i h → Covered d i k
covered-keeps d i b h k g c =
    goes-keep d (Covered d i) (λ k a run m run' old l n made lt.
    let x : l.point.ts ≤ promise k i n = old l n (old-made d k a l m made) lt in
    let y : promise k i n ≤ promise (inner_entry d k a ∷ k) i n = promise-rises d k (inner_entry d k a) i n b lt run' in
    omega arith) h k g c

pub stable-keeps : (d : Deployed) (i : ℕ) → i < d.sites → (h k : List Entry) → Goes d h k → AllStable d i h → AllStable d i k
stable-keeps d i b h k g c =
    goes-keep d (AllStable d i) (λ k a run m run' old l made.
    let x : l.point.ts ≤ stable d k i = old l (old-made d k a l m made) in
    let y : stable d k i ≤ stable d (inner_entry d k a ∷ k) i = stable-rises d k (inner_entry d k a) i b run' in
    omega arith) h k g c

sent-later : (h : List Entry) (x : Entry) (i : ℕ) (l : Label) → Sent h i l → Sent (x ∷ h) i l
unfolding Gives
sent-later h x i l s = inl s

pub sent-keeps : (d : Deployed) (i : ℕ) (h k : List Entry) → Goes d h k → AllSent d i h → AllSent d i k
sent-keeps d i h k g c = goes-keep d (AllSent d i) (λ k a run m run' old l made s. sent-later k (inner_entry d k a) i l (old l (old-made d k a l m made) s)) h k g c

-- what a loop makes hold for each of its members
pub for_each-all : {X : Type 0} (d : Deployed) (f : X → List Entry → List Entry) (R Q : X → List Entry → Type 0) (xs : List X) (h : List Entry) → IsRun d h →
    ((x : X) (k : List Entry) → In xs x → IsRun d k → IsAfter d k (f x k)) →
    ((x : X) (a b : List Entry) → In xs x → Goes d a b → R x a → R x b) → ((x : X) (a b : List Entry) → In xs x → Goes d a b → Q x a → Q x b) →
    ((x : X) (k : List Entry) → In xs x → IsRun d k → R x k → Q x (f x k)) → ((x : X) → In xs x → R x h) → (x : X) → In xs x → Q x (for_each f xs h)
unfolding for_each
for_each-all d f R Q [] h run go keep_r keep_q make start x i = absurd i
for_each-all d f R Q (y ∷ xs) h run go keep_r keep_q make start x i =
    let a : IsAfter d h (f y h) = go y h (inl refl) run in
    let rest : IsAfter d (f y h) (for_each f xs (f y h)) = for_each-after d f xs (f y h) a.is_run (λ x k m r. go x k (inr m) r) in
    now_or_later a rest i (λ m. for_each-all d f R Q xs (f y h) a.is_run (λ x k m r. go x k (inr m) r) (λ x p q m. keep_r x p q (inr m)) (λ x p q m. keep_q x p q (inr m)) (λ x k m r. make x k (inr m) r) (λ x m. keep_r x h (f y h) (inr m) a.goes (start x (inr m))) x m)
  where
    now_or_later : IsAfter d h (f y h) → IsAfter d (f y h) (for_each f xs (f y h)) → (y ≡ x) ⊎ In xs x → (In xs x → Q x (for_each f xs (f y h))) → Q x (for_each f xs (f y h))
    now_or_later a rest (inl e) old =
        subst (λ (z : _). Q z (for_each f xs (f y h))) e (keep_q y (f y h) (for_each f xs (f y h)) (inl refl) rest.goes (make y h (inl refl) run (start y (inl refl))))
    now_or_later a rest (inr m) old = old m

-- ---- the clock, gathers and emits

clocked-is : (d : Deployed) (h : List Entry) → tried d act.Clock h ≡ inner_entry d h act.Clock ∷ h
unfolding tried
clocked-is d h = refl

clock-promise : (d : Deployed) (h : List Entry) (i g : ℕ) → promise (inner_entry d h act.Clock ∷ h) i g ≡ greatest_promise h d.sites d.gears
unfolding promise answer
clock-promise d h i g = refl

clock-covered : (d : Deployed) (h : List Entry) (i : ℕ) → IsValid d → IsRun d h → Covered d i (tried d act.Clock h)
clock-covered d h i v run =
    subst (Covered d i) (sym (clocked-is d h)) (λ l g made lt.
    let m : Made h l = old-made d h act.Clock l (inner-act d act.Clock tt refl refl) made in
    let p : IsPlaced d h l = made-placed d h l v run m in
    let a : l.point.ts ≤ promise h l.point.site l.point.gear = p.ts in
    let b : promise h l.point.site l.point.gear ≤ greatest_promise h d.sites d.gears = greatest_promise-above h d.sites d.gears l.point.site l.point.gear p.site p.gear in
    let c : promise (inner_entry d h act.Clock ∷ h) i g ≡ greatest_promise h d.sites d.gears = clock-promise d h i g in
    omega arith)

least-above : (h : List Entry) (i n t : ℕ) → ((g : ℕ) → g < n → t ≤ promise h i g) → 0 < n → t ≤ least_promise h i n
unfolding least_promise
least-above h i zero t w b = absurd (omega arith)
least-above h i (suc zero) t w b = w 0 b
least-above h i (suc (suc n)) t w b =
    least (least-above h i (suc n) t (λ g lt. w g (omega arith)) (omega arith)) (w (suc n) (omega arith))
  where
    least : {a b : ℕ} → t ≤ a → t ≤ b → t ≤ min a b
    least p q = omega arith

gathered-is : (d : Deployed) (h : List Entry) (i : ℕ) → tried d (act.Gather i) h ≡ inner_entry d h (act.Gather i) ∷ h
unfolding tried
gathered-is d h i = refl

stable-from : (d : Deployed) (x : Entry) (k : List Entry) (i t : ℕ) → t ≤ least_promise (gathered (x ∷ k) i) i d.gears → t ≤ stable d (x ∷ k) i
unfolding stable
stable-from d x k i t w = w

gather-stable : (d : Deployed) (i : ℕ) (k : List Entry) → IsValid d → i < d.sites → IsRun d k → Covered d i k → AllStable d i (gather_at d i k)
gather-stable d i k v b run c =
    subst (AllStable d i) (sym (gathered-is d k i)) (λ l made.
    let m : Made k l = old-made d k (act.Gather i) l (inner-act d (act.Gather i) b refl refl) made in
    is-stable l (λ g lt. c l g m lt))
  where
    same : (n : ℕ) → (n == n) ≡ false → ⊥
    same n e = grind (arith, nat_tests)

    run' : IsRun d (inner_entry d k (act.Gather i) ∷ k)
    run' = subst (IsRun d) (gathered-is d k i) (tried-after d (act.Gather i) k run (inner-act d (act.Gather i) b refl refl)).is_run

    is-stable : (l : Label) → ((g : ℕ) → g < d.gears → l.point.ts ≤ promise k i g) → l.point.ts ≤ stable d (inner_entry d k (act.Gather i) ∷ k) i
    is-stable l w = stable-from d (inner_entry d k (act.Gather i)) k i l.point.ts
        (by_gather (inner_entry d k (act.Gather i)) k i (λ (b : List Entry). l.point.ts ≤ least_promise b i d.gears)
        (λ e. least-above (inner_entry d k (act.Gather i) ∷ k) i d.gears l.point.ts
        (λ g lt. let x : l.point.ts ≤ promise k i g = w g lt in let y : promise k i g ≤ promise (inner_entry d k (act.Gather i) ∷ k) i g = promise-rises d k (inner_entry d k (act.Gather i)) i g b lt run' in omega arith) v.some_gear)
        (λ e. absurd (same i e)))

pick_emit : Option Label → Answer
pick_emit o = elim o [ None ↦ ans.Refused why.Idle | Some l ↦ ans.Emitted l ]

answer-emit : (d : Deployed) (h : List Entry) (i : ℕ) → answer d h (act.Emit i) ≡ pick_emit (ready d h i)
unfolding answer pick_emit
answer-emit d h i = refl

idle : (o : Option Label) → is_done (pick_emit o) ≡ false → o ≡ None
unfolding pick_emit
idle None e = refl
idle (Some l) e = absurd (cc)

pub until-last : (d : Deployed) (a : Act) (h k : List Entry) → UntilRefused d a h k → is_done (answer d k a) ≡ false
until-last d a h k (ends e) = e
until-last d a h k (goes_on {k = k'} e u) = until-last d a (inner_entry d h a ∷ h) k' u

emit-sent : (d : Deployed) (i : ℕ) (k : List Entry) → IsValid d → i < d.sites → IsRun d k → AllStable d i k → AllSent d i (emit_all d i k)
emit-sent d i k v b run c l made s =
    let a : IsAfter d k (emit_all d i k) = repeated-after d (act.Emit i) (length (pending d k i)) k run (inner-act d (act.Emit i) b refl refl) in
    let e : is_done (answer d (emit_all d i k) (act.Emit i)) ≡ false = until-last d (act.Emit i) k (emit_all d i k) (emits-end d i k b run) in
    let r : ready d (emit_all d i k) i ≡ None = idle (ready d (emit_all d i k) i) (subst (λ (r : Answer). is_done r ≡ false) (answer-emit d (emit_all d i k) i) e) in
    none-sent d (emit_all d i k) i l v a.is_run made s (stable-keeps d i b k (emit_all d i k) a.goes c l made) r

pub emptied-sent : (d : Deployed) (h : List Entry) (i : ℕ) → IsValid d → IsRun d h → i < d.sites → AllSent d i (emptied d h)
emptied-sent d h i v run b =
    subst (AllSent d i) (sym (emptied-is d h))
    (for_each-all d (emit_all d) (AllStable d) (AllSent d) (below d.sites) (for_each (gather_at d) (below d.sites) (tried d act.Clock h)) gathers.is_run
    (λ i k m r. repeated-after d (act.Emit i) (length (pending d k i)) k r (inner-act d (act.Emit i) (below-In d.sites i m) refl refl))
    (λ i a b m g. stable-keeps d i (below-In d.sites i m) a b g) (λ i a b m g. sent-keeps d i a b g) (λ i k m r c. emit-sent d i k v (below-In d.sites i m) r c)
    (for_each-all d (gather_at d) (Covered d) (AllStable d) (below d.sites) (tried d act.Clock h) clock.is_run
    (λ i k m r. tried-after d (act.Gather i) k r (inner-act d (act.Gather i) (below-In d.sites i m) refl refl))
    (λ i a b m g. covered-keeps d i (below-In d.sites i m) a b g) (λ i a b m g. stable-keeps d i (below-In d.sites i m) a b g) (λ i k m r c. gather-stable d i k v (below-In d.sites i m) r c)
    (λ i m. clock-covered d h i v run))
    i (In-below d.sites i b))
  where
    clock : IsAfter d h (tried d act.Clock h)
    clock = tried-after d act.Clock h run (inner-act d act.Clock tt refl refl)

    gathers : IsAfter d (tried d act.Clock h) (for_each (gather_at d) (below d.sites) (tried d act.Clock h))
    gathers = for_each-after d (gather_at d) (below d.sites) (tried d act.Clock h) clock.is_run (λ i k m r. tried-after d (act.Gather i) k r (inner-act d (act.Gather i) (below-In d.sites i m) refl refl))

pub emptied-stable : (d : Deployed) (h : List Entry) (i : ℕ) → IsValid d → IsRun d h → i < d.sites → AllStable d i (emptied d h)
emptied-stable d h i v run b =
    subst (AllStable d i) (sym (emptied-is d h))
    (stable-keeps d i b (for_each (gather_at d) (below d.sites) (tried d act.Clock h)) (for_each (emit_all d) (below d.sites) (for_each (gather_at d) (below d.sites) (tried d act.Clock h))) emits.goes
    (for_each-all d (gather_at d) (Covered d) (AllStable d) (below d.sites) (tried d act.Clock h) clock.is_run
    (λ i k m r. tried-after d (act.Gather i) k r (inner-act d (act.Gather i) (below-In d.sites i m) refl refl))
    (λ i a b m g. covered-keeps d i (below-In d.sites i m) a b g) (λ i a b m g. stable-keeps d i (below-In d.sites i m) a b g) (λ i k m r c. gather-stable d i k v (below-In d.sites i m) r c)
    (λ i m. clock-covered d h i v run) i (In-below d.sites i b)))
  where
    clock : IsAfter d h (tried d act.Clock h)
    clock = tried-after d act.Clock h run (inner-act d act.Clock tt refl refl)

    gathers : IsAfter d (tried d act.Clock h) (for_each (gather_at d) (below d.sites) (tried d act.Clock h))
    gathers = for_each-after d (gather_at d) (below d.sites) (tried d act.Clock h) clock.is_run (λ i k m r. tried-after d (act.Gather i) k r (inner-act d (act.Gather i) (below-In d.sites i m) refl refl))

    emits : IsAfter d (for_each (gather_at d) (below d.sites) (tried d act.Clock h)) (for_each (emit_all d) (below d.sites) (for_each (gather_at d) (below d.sites) (tried d act.Clock h)))
    emits = for_each-after d (emit_all d) (below d.sites) (for_each (gather_at d) (below d.sites) (tried d act.Clock h)) gathers.is_run (λ i k m r. repeated-after d (act.Emit i) (length (pending d k i)) k r (inner-act d (act.Emit i) (below-In d.sites i m) refl refl))

-- each label that was made was sent
pub settled-sent : (d : Deployed) (h : List Entry) (i : ℕ) → IsWithin d → IsRun d h → i < d.sites → AllSent d i (settle d h).1
settled-sent d h i w run b =
    let a : AllSent d i (opening d h) = sent-keeps d i (emptied d h) (opening d h) (opening-after d h run).goes (emptied-sent d h i w.valid run b) in
    sent-keeps d i (opening d h) (settle d h).1 (settle-ends d h w run).progress.goes a
