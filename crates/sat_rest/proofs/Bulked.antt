-- Once the bulks of a round were done until they are refused, no payload of a lane is left to bring, and none comes any more.
use Rattle.std.specs.Prelude.{◌≡◌, ◌⊎◌, ℕ, zero, suc, ◌==◌, ◌&&◌, Bool, true, false, List, [], ◌∷◌, ◌++◌, Option, Some, None, refl, slice_get, if◌then◌else◌}
use Rattle.std.specs.List.{prefix_len}
use Rattle.std.proofs.Common.{sym, subst, ap, inl, inr, ◌∙◌}
use Rattle.std.proofs.lemmas.List.{append-nil}
use Rattle.sat_label.specs.declared.label.Label.{Label}
use Rattle.sat_label.specs.Order.{label_eq}
use Rattle.sat_label.specs.Members.{In}
use Rattle.sat_label.specs.Words.{below, has}
use Rattle.sat_act.specs.declared.act.Act.{Act}
use Rattle.sat_act.specs.declared.act.Act.TheVariants as act
use Rattle.sat_act.specs.declared.answer.Answer.{Answer}
use Rattle.sat_act.specs.declared.answer.Answer.TheVariants as ans
use Rattle.sat_act.specs.declared.entry.Entry.{Entry}
use Rattle.sat_act.specs.Deployed.{Deployed}
use Rattle.sat_act.specs.Histories.{listed}
use Rattle.sat_act.specs.Done.{made_in}
use Rattle.sat_act.specs.Parts.{is_target, is_update, lane, lane_entry, brought}
use Rattle.sat_act.specs.Answers.{answer}
use Rattle.sat_act.specs.Runs.{IsRun}
use Rattle.sat_act.specs.Settling.{is_done, inner_entry, repeated, for_each, joined, left, bulks, until_refused}
use Rattle.sat_rest.specs.Ends.{IsWithin, UntilRefused, ends, goes_on}
use Rattle.sat_laws.proofs.Links.{tail_of}
use Rattle.sat_laws.proofs.Steps.{outcome}
use Rattle.sat_rest.proofs.Emptying.{pick_bring, answer-bulk, all-pass, unmade}
use Rattle.sat_rest.proofs.Lefts.{brought-grows}
use Rattle.sat_rest.proofs.Rounds.{IsInner, Goes, goes-keep, IsAfter, for_each-after, IsRoundAct, bulk-of, is-until, until-ends, until-after}
use Rattle.sat_rest.proofs.Totals.{In-joined}

-- ---- one lane

-- each payload of a lane was brought
pub record LaneBrought (d : Deployed) (h : List Entry) (i g j : ℕ) : Type 0 where
  pub all : (n : ℕ) (l : Label) → slice_get (lane d h i g j) n ≡ Some l → has label_eq (brought h j) l ≡ true

refused-brought : (d : Deployed) (h : List Entry) (i g j : ℕ) → is_done (answer d h (act.Bulk i g j None)) ≡ false → LaneBrought d h i g j
refused-brought d h i g j e = record {
  all = all-pass (λ l. has label_eq (brought h j) l) (lane d h i g j) (subst (λ (r : Answer). is_done r ≡ false) (answer-bulk d h i g j) e);
}

nothing-left : (p : Label → Bool) (o : Option Label) → ((l : Label) → o ≡ Some l → p l ≡ true) → is_done (pick_bring p o) ≡ false
nothing-left p None w = refl
nothing-left p (Some l) w = again (p l) (w l refl)
  where
    again : (b : Bool) → b ≡ true → is_done (if b then ans.Again else ans.Brought l) ≡ false
    again true e = refl
    again false e = absurd (cc)

brought-refused : (d : Deployed) (h : List Entry) (i g j : ℕ) → LaneBrought d h i g j → is_done (answer d h (act.Bulk i g j None)) ≡ false
brought-refused d h i g j w =
    subst (λ (r : Answer). is_done r ≡ false) (sym (answer-bulk d h i g j))
    (nothing-left (λ l. has label_eq (brought h j) l) (slice_get (lane d h i g j) (prefix_len (λ l. has label_eq (brought h j) l) (lane d h i g j)))
    (w.all (prefix_len (λ l. has label_eq (brought h j) l) (lane d h i g j))))

-- ---- what comes behind it

abbrev made_at : ℕ → ℕ → Option Label → Option Label
made_at i g o = elim o [ None ↦ None | Some l ↦ if (l.point.site == i) && (l.point.gear == g) then Some l else None ]

abbrev lane_of : Deployed → ℕ → Option Label → Option Label
lane_of d j o = elim o [ None ↦ None | Some l ↦ if is_update l.kind && is_target d l j then Some l else None ]

-- an entry that makes no label leaves the lane
lane-same : (d : Deployed) (h : List Entry) (x : Entry) (i g j : ℕ) → made_in x.answer ≡ None → lane d (x ∷ h) i g j ≡ lane d h i g j
unfolding lane
lane-same d h x i g j e =
    ap (λ (o : Option Label). listed (lane_entry d i g j) h ++ tail_of (lane_of d j (made_at i g o))) e ∙ append-nil (listed (lane_entry d i g j) h)

lane-stays : (d : Deployed) (h : List Entry) (a : Act) (i g j : ℕ) → IsInner d a → LaneBrought d h i g j → LaneBrought d (inner_entry d h a ∷ h) i g j
lane-stays d h a i g j m w = record {
  all = λ n l at. brought-grows h (inner_entry d h a) j l
      (w.all n l (subst (λ (ls : List Label). slice_get ls n ≡ Some l) (lane-same d h (inner_entry d h a) i g j (unmade d h a (answer d h a) (outcome d h a) m.operator)) at));
}

-- a bulk that is refused is refused behind every act of a settle
pub stays-refused : (d : Deployed) (h k : List Entry) (i g j : ℕ) → Goes d h k → is_done (answer d h (act.Bulk i g j None)) ≡ false → is_done (answer d k (act.Bulk i g j None)) ≡ false
stays-refused d h k i g j goes e =
    brought-refused d k i g j (goes-keep d (λ k. LaneBrought d k i g j) (λ k a run m run'. lane-stays d k a i g j m) h k goes (refused-brought d h i g j e))

-- ---- the bulks of a round

-- a bulk of a lane's next payload
abbrev IsNext : Act → Type 0
IsNext a = (i g j : ℕ) × (a ≡ act.Bulk i g j None)

next-of : (d : Deployed) (a : Act) → In (bulks d) a → IsNext a
next-of d a m =
    let p : (i : ℕ) × In (below d.sites) i × In (joined (λ g. joined (λ j. if i == j then [] else act.Bulk i g j None ∷ []) (below d.sites)) (below d.gears)) a =
    In-joined (λ (i : ℕ). joined (λ (g : ℕ). joined (λ (j : ℕ). if i == j then [] else act.Bulk i g j None ∷ []) (below d.sites)) (below d.gears)) (below d.sites) a m in
    let q : (g : ℕ) × In (below d.gears) g × In (joined (λ j. if p.0 == j then [] else act.Bulk p.0 g j None ∷ []) (below d.sites)) a =
    In-joined (λ (g : ℕ). joined (λ (j : ℕ). if p.0 == j then [] else act.Bulk p.0 g j None ∷ []) (below d.sites)) (below d.gears) a p.2 in
    let r : (j : ℕ) × In (below d.sites) j × In (if p.0 == j then [] else act.Bulk p.0 q.0 j None ∷ []) a =
    In-joined (λ (j : ℕ). if p.0 == j then [] else act.Bulk p.0 q.0 j None ∷ []) (below d.sites) a q.2 in
    one p.0 q.0 r.0 (p.0 == r.0) r.2
  where
    one : (i g j : ℕ) (b : Bool) → In (if b then [] else act.Bulk i g j None ∷ []) a → IsNext a
    one i g j true k = absurd k
    one i g j false (inl k) = (i, g, j, sym k)
    one i g j false (inr k) = absurd k

behind-next : (d : Deployed) (h k : List Entry) (a : Act) → IsNext a → Goes d h k → is_done (answer d h a) ≡ false → is_done (answer d k a) ≡ false
behind-next d h k a n goes e =
    subst (λ (b : Act). is_done (answer d k b) ≡ false) (sym n.3) (stays-refused d h k n.0 n.1 n.2 goes (subst (λ (b : Act). is_done (answer d h b) ≡ false) n.3 e))

-- each of the acts is refused
pub record AreRefused (d : Deployed) (acts : List Act) (h : List Entry) : Type 0 where
  pub each : (a : Act) → In acts a → is_done (answer d h a) ≡ false

-- bulks that are refused are refused behind every act of a settle
pub bulks-stay : (d : Deployed) (h k : List Entry) → Goes d h k → AreRefused d (bulks d) h → AreRefused d (bulks d) k
bulks-stay d h k goes w = record { each = λ a m. behind-next d h k a (next-of d a m) goes (w.each a m) }

refused-at-end : (d : Deployed) (a : Act) (h k : List Entry) → UntilRefused d a h k → is_done (answer d k a) ≡ false
refused-at-end d a h k (ends e) = e
refused-at-end d a h k (goes_on {k = k'} e u) = refused-at-end d a (inner_entry d h a ∷ h) k' u

-- acts of a round, each until it is refused
pub acts-after : (d : Deployed) (acts : List Act) (h : List Entry) → IsRun d h → ((a : Act) → In acts a → IsRoundAct d a) → IsAfter d h (for_each (until_refused d) acts h)
acts-after d acts h run m = for_each-after d (until_refused d) acts h run (λ a k i r. until-after d a k r (m a i).inner)

each-refused : (d : Deployed) (acts : List Act) (h : List Entry) → IsWithin d → IsRun d h → ((a : Act) → In acts a → IsRoundAct d a) → ((a : Act) → In acts a → IsNext a) →
    (a : Act) → In acts a → is_done (answer d (for_each (until_refused d) acts h) a) ≡ false
unfolding for_each
each-refused d [] h w run m n a i = absurd i
each-refused d (b ∷ acts) h w run m n a i =
    let now : IsAfter d h (until_refused d b h) = until-after d b h run (m b (inl refl)).inner in
    let rest : IsAfter d (until_refused d b h) (for_each (until_refused d) acts (until_refused d b h)) = acts-after d acts (until_refused d b h) now.is_run (λ c k. m c (inr k)) in
    let first : is_done (answer d (for_each (until_refused d) acts (until_refused d b h)) b) ≡ false =
    behind-next d (until_refused d b h) (for_each (until_refused d) acts (until_refused d b h)) b (n b (inl refl)) rest.goes (refused-at-end d b h (until_refused d b h) (until-ends d b h w run (m b (inl refl)))) in
    go first i (each-refused d acts (until_refused d b h) w now.is_run (λ c k. m c (inr k)) (λ c k. n c (inr k)) a)
  where
    go : is_done (answer d (for_each (until_refused d) acts (until_refused d b h)) b) ≡ false → (b ≡ a) ⊎ In acts a → (In acts a → is_done (answer d (for_each (until_refused d) acts (until_refused d b h)) a) ≡ false) →
        is_done (answer d (for_each (until_refused d) acts (until_refused d b h)) a) ≡ false
    go first (inl e) old = subst (λ (c : Act). is_done (answer d (for_each (until_refused d) acts (until_refused d b h)) c) ≡ false) e first
    go first (inr j) old = old j

-- behind the bulks of a round each of them is refused
pub bulks-refused : (d : Deployed) (h : List Entry) → IsWithin d → IsRun d h → AreRefused d (bulks d) (for_each (until_refused d) (bulks d) h)
bulks-refused d h w run = record { each = each-refused d (bulks d) h w run (λ a i. bulk-of d a i) (next-of d) }

-- ---- what refused acts leave

repeated-none : (d : Deployed) (a : Act) (n : ℕ) (h : List Entry) → is_done (answer d h a) ≡ false → repeated d a n h ≡ h
unfolding repeated
repeated-none d a zero h e = refl
repeated-none d a (suc n) h e = ap (λ (b : Bool). elim b as (λ _. List Entry) [ true ↦ repeated d a n (inner_entry d h a ∷ h) | false ↦ h ]) e

none-done : (d : Deployed) (acts : List Act) (h : List Entry) → ((a : Act) → In acts a → is_done (answer d h a) ≡ false) → for_each (until_refused d) acts h ≡ h
unfolding for_each
none-done d [] h w = refl
none-done d (a ∷ acts) h w =
    ap (λ (k : List Entry). for_each (until_refused d) acts k) (is-until d a h ∙ repeated-none d a (left d h) h (w a (inl refl))) ∙ none-done d acts h (λ b i. w b (inr i))

-- acts that are refused leave a history as it is
pub refused-leave : (d : Deployed) (acts : List Act) (h : List Entry) → AreRefused d acts h → for_each (until_refused d) acts h ≡ h
refused-leave d acts h w = none-done d acts h w.each
