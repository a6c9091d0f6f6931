-- What a gather drains: fresh labels, gathered promises, counts and pending labels are the history's.
use Rattle.std.specs.Prelude.{◌≡◌, ℕ, zero, suc, ◌+◌, ◌-◌, Bool, true, false, ◌&&◌, not, List, [], ◌∷◌, ◌++◌, length, filter, min, nat_le, Option, Some, None, ◌==◌, if◌then◌else◌, refl}
use Rattle.std.proofs.Common.{sym, subst, ap, ◌∙◌, arith, inl, inr}
use Rattle.std.proofs.lemmas.Bool.Decides.{nat_tests}
use Rattle.sat_label.proofs.Truth.{same-number}
use Rattle.sat_label.specs.declared.label.Label.{Label}
use Rattle.sat_label.specs.declared.point.Point.{Point}
use Rattle.sat_label.specs.declared.label.Kind.TheVariants as kind
use Rattle.sat_label.specs.Grouped.{least_item, list_of}
use Rattle.sat_label.specs.Order.{label_eq, point_at, mark, greater_point}
use Rattle.sat_label.specs.Words.{has}
use Rattle.sat_act.specs.declared.act.Act.{Act}
use Rattle.sat_act.specs.declared.act.Act.TheVariants as act
use Rattle.sat_act.specs.declared.answer.Answer.{Answer}
use Rattle.sat_act.specs.declared.answer.Answer.TheVariants as ans
use Rattle.sat_act.specs.declared.entry.Entry.{Entry}
use Rattle.sat_act.specs.Deployed.{Deployed}
use Rattle.sat_act.specs.Done.{made_in, sent_in, is_gather, is_at}
use Rattle.sat_act.specs.Histories.{listed, up_to}
use Rattle.sat_act.specs.Parts.{emission, is_update, is_target, promise, made, made_entry, made_to, gathered, least_promise, stable, sent, sent_entry, pending, is_stable, ready, last_sent, cut, lane}
use Rattle.sat_act.specs.Answers.{answer, gather_of, gear_of, base}
use Rattle.sat_act.specs.Runs.{IsRun, IsAnswer}
use Rattle.sat_act.specs.Goals.{Made, IsValid}
use Rattle.sat_laws.proofs.Steps.{Step, write_label, wrote, moved, gathered_now, emitted, pulsed, closed}
use Rattle.sat_laws.proofs.Runs.{step_of, before_of, entry}
use Rattle.sat_laws.proofs.Labels.{made-new, made-kind}
use Rattle.sat_laws.proofs.Members.{listed-gives}
use Rattle.sat_laws.proofs.Sinks.{from-made, gathered-made, kept as kept_label}
use Rattle.sat_laws.proofs.Stamps.{sent-gathered}
use Rattle.sat_bulk.specs.Payloads.{Payload}
use Rattle.sat_model.specs.State.{SiteState}
use Rattle.sat_model.specs.Input.{SiteInput}
use Rattle.sat_model.specs.Input as given
use Rattle.sat_model.specs.Look.{rows, least_row, stable_of, ready_of, cut_of}
use Rattle.sat_model.specs.Next.{site_next}
use Rattle.sat_model.specs.Replay.{after, handed, site_state, carrying}
use Rattle.sat_model.proofs.Kept.{kept, at-seat}
use Rattle.sat_model.proofs.Lists.{plain, joined, map-length, filter-join, filter-all, without, without-more}
use Rattle.sat_model.proofs.Writing.{at-write, write_input}
use Rattle.sat_model.proofs.Lanes.{lanes-agree}
use Rattle.sat_model.proofs.Simple.{promise-agrees, sent-agrees}
use Rattle.sat_label.specs.Least.{least_label}
use Rattle.sat_label.specs.Members.{is_made, In}
use Rattle.sat_label.proofs.Members.{In-filter, In-parts, In-right, has-in}
use Rattle.sat_label.proofs.Orders.{same-label}
use Rattle.std.proofs.lemmas.Bool.{false_from_ne_true}
use Rattle.sat_model.specs.Parts.{valued}

-- ---- an entry is a gather of i, or leaves what i gathered

pub record Gathers (d : Deployed) (h : List Entry) (x : Entry) (i : ℕ) : Type 0 where
  pub labels : ℕ
  pub stable : ℕ
  pub is : x.act ≡ act.Gather i
  pub so : x.answer ≡ ans.Gathered labels stable

site_of : (a : Act) (i : ℕ) → is_gather a i ≡ true → a ≡ act.Gather i
site_of (act.Gather t) i e = ap (λ (k : ℕ). act.Gather k) (num t i e)
  where
    num : (a b : ℕ) → (a == b) ≡ true → a ≡ b
    num a b e = grind (arith, nat_tests)
site_of _ i e = absurd (cc)

gathers-now : (d : Deployed) (h : List Entry) (a : Act) (r : Answer) (n : Bool) (i : ℕ) → a ≡ act.Gather i → IsAnswer d h a r → Gathers d h (entry a r n) i
unfolding answer gather_of
gathers-now d h a r n i e (inl k) = record { labels = _; stable = _; is = e; so = k.1 ∙ ap (λ (a : Act). answer d h a) e }
gathers-now d h a r n i e (inr k) = absurd (let w : a ≡ act.Settle = k.1 in cc)

pub gathers-of : (d : Deployed) (h : List Entry) (x : Entry) (i : ℕ) → IsRun d (x ∷ h) → is_gather x.act i ≡ true → Gathers d h x i
unfolding IsRun
gathers-of d h x i run e = gathers-now d h x.act x.answer x.inner i (site_of x.act i e) run.2

gather-self : (d : Deployed) (h : List Entry) (i m t : ℕ) (s : SiteState) → after d i s (handed d h (act.Gather i) i) (ans.Gathered m t) ≡ site_next d i s given.Gather (ans.Gathered m t)
unfolding after handed
gather-self d h i m t s = ap (λ (b : Bool). after d i s (if b then Some given.Gather else None) (ans.Gathered m t)) (same-number i)

pub gather-after : (d : Deployed) (h : List Entry) (x : Entry) (i : ℕ) (s : SiteState) → (k : Gathers d h x i) → after d i s (handed d h x.act i) x.answer ≡ site_next d i s given.Gather (ans.Gathered k.labels k.stable)
gather-after d h x i s k = ap (λ (a : Act). after d i s (handed d h a i) x.answer) k.is ∙ (ap (λ (r : Answer). after d i s (handed d h (act.Gather i) i) r) k.so ∙ gather-self d h i k.labels k.stable s)

gathered-now : (x : Entry) (h : List Entry) (i : ℕ) → is_gather x.act i ≡ true → gathered (x ∷ h) i ≡ x ∷ h
unfolding gathered
gathered-now x h i e = ap (λ (b : Bool). elim b [ true ↦ x ∷ h | false ↦ up_to (λ e. is_gather e.act i) h ]) e

gathered-same : (x : Entry) (h : List Entry) (i : ℕ) → is_gather x.act i ≡ false → gathered (x ∷ h) i ≡ gathered h i
unfolding gathered
gathered-same x h i e = ap (λ (b : Bool). elim b [ true ↦ x ∷ h | false ↦ up_to (λ e. is_gather e.act i) h ]) e

-- what a gather entry leaves of promises and lanes
gathered-promise : (h : List Entry) (a : Act) (r : Answer) (n : Bool) (i g m t : ℕ) → r ≡ ans.Gathered m t → promise (entry a r n ∷ h) i g ≡ promise h i g
unfolding promise
gathered-promise h a (ans.Gathered _ _) n i g m t e = refl
gathered-promise h a _ n i g m t e = absurd (cc)

listed-none : {X : Type 0} (f : List Entry → Entry → Option X) (h : List Entry) (x : Entry) → f h x ≡ None → listed f (x ∷ h) ≡ listed f h
unfolding listed
listed-none f h x e = ap (λ o. listed f h ++ elim o [ None ↦ [] | Some y ↦ y ∷ [] ]) e ∙ plain (listed f h)

abbrev if_label : (Label → Bool) → Option Label → Option Label
if_label p o = elim o [ None ↦ None | Some l ↦ if p l then Some l else None ]

gathered-made-none : (i g : ℕ) (h : List Entry) (x : Entry) (m t : ℕ) → x.answer ≡ ans.Gathered m t → made_entry i g h x ≡ None
gathered-made-none i g h x m t e = ap (λ (r : Answer). if_label (λ l. (l.point.site == i) && (l.point.gear == g)) (made_in r)) e

gathered-made-same : (i g : ℕ) (h : List Entry) (x : Entry) (m t : ℕ) → x.answer ≡ ans.Gathered m t → made (x ∷ h) i g ≡ made h i g
unfolding made
gathered-made-same i g h x m t e = listed-none (made_entry i g) h x (gathered-made-none i g h x m t e)

gathered-lane-same : (d : Deployed) (i g j : ℕ) (h : List Entry) (x : Entry) (m t : ℕ) → x.answer ≡ ans.Gathered m t → lane d (x ∷ h) i g j ≡ lane d h i g j
unfolding lane
gathered-lane-same d i g j h x m t e = listed-none _ h x (ap (if_label (λ l. is_update l.kind && is_target d l j)) (gathered-made-none i g h x m t e))

-- ---- gathered promises

-- a part that only a gather changes
gather-kept : {X : Type 0} (F : SiteState → X) (d : Deployed) (h : List Entry) (i : ℕ) (s : SiteState) (a : Act) (r : Answer) → ((input : SiteInput) → ((m t : ℕ) → r ≡ ans.Gathered m t → ⊥) → F (site_next d i s input r) ≡ F s) → is_gather a i ≡ false → Step d h a r →
    F (after d i s (handed d h a i) r) ≡ F s
unfolding after handed
gather-kept F d h i s a r k e (gathered_now {i = t} q) = go (t == i) e
  where
    go : (b : Bool) → b ≡ false → F (after d i s (if b then Some given.Gather else None) r) ≡ F s
    go true w = absurd (cc)
    go false w = refl
gather-kept F d h i s a r k e _ = kept F d i s (handed d h a i) r (λ input. k input (λ m t w. cc))

not-gathered : (r : Answer) → (X : Type 0) (x y : X) → ((m t : ℕ) → r ≡ ans.Gathered m t → ⊥) → elim r [ ans.Gathered n t ↦ y | _ ↦ x ] ≡ x
not-gathered (ans.Gathered m t) X x y k = absurd (k m t refl)
not-gathered _ X x y k = refl

by_test : (P : Type 0) (b : Bool) → (b ≡ true → P) → (b ≡ false → P) → P
by_test P true f g = f refl
by_test P false f g = g refl

pub promises-agree : (d : Deployed) (h : List Entry) (i g : ℕ) → IsRun d h → (site_state d h i).sink.promises g ≡ promise (gathered h i) i g
unfolding site_state gathered promise
promises-agree d [] i g run = refl
promises-agree d (e ∷ h) i g run =
    let s : SiteState = site_state d h i in
    by_test _ (is_gather e.act i)
    (λ w. let k : Gathers d h e i = gathers-of d h e i run w in
    ap (λ (s : SiteState). s.sink.promises g) (gather-after d h e i s k) ∙ (now s k ∙ (promise-agrees d h i g (before_of d h e run) ∙ sym (ap (λ (h : List Entry). promise h i g) (gathered-now e h i w) ∙ gathered-promise h e.act e.answer e.inner i g k.labels k.stable k.so))))
    (λ w. gather-kept (λ s. s.sink.promises g) d h i s e.act e.answer (λ input k. unfold site_next in not-gathered e.answer ℕ (s.sink.promises g) ((s.gears g).promise) k) w (step_of d h e run) ∙
    (promises-agree d h i g (before_of d h e run) ∙ sym (ap (λ (h : List Entry). promise h i g) (gathered-same e h i w))))
  where
    now : (s : SiteState) (k : Gathers d h e i) → (site_next d i s given.Gather (ans.Gathered k.labels k.stable)).sink.promises g ≡ (s.gears g).promise
    now s k = unfold site_next in refl

-- ---- counts

pub counts-agree : (d : Deployed) (h : List Entry) (i g j : ℕ) → IsValid d → IsRun d h → (site_state d h i).sink.counts g j ≡ length (lane d (gathered h i) i g j)
unfolding site_state gathered lane
counts-agree d [] i g j v run = refl
counts-agree d (e ∷ h) i g j v run =
    let s : SiteState = site_state d h i in
    by_test _ (is_gather e.act i)
    (λ w. let k : Gathers d h e i = gathers-of d h e i run w in
    ap (λ (s : SiteState). s.sink.counts g j) (gather-after d h e i s k) ∙ (now s k ∙ (ap (λ (ps : List Payload). length ps) (lanes-agree d h i g j v (before_of d h e run)) ∙ (map-length (valued h) (lane d h i g j) ∙
    sym (ap (λ (h : List Entry). length (lane d h i g j)) (gathered-now e h i w) ∙ ap (λ (ls : List Label). length ls) (gathered-lane-same d i g j h e k.labels k.stable k.so))))))
    (λ w. gather-kept (λ s. s.sink.counts g j) d h i s e.act e.answer (λ input k. unfold site_next in not-gathered e.answer ℕ (s.sink.counts g j) (length ((s.gears g).lanes j)) k) w (step_of d h e run) ∙
    (counts-agree d h i g j v (before_of d h e run) ∙ sym (ap (λ (h : List Entry). length (lane d h i g j)) (gathered-same e h i w))))
  where
    now : (s : SiteState) (k : Gathers d h e i) → (site_next d i s given.Gather (ans.Gathered k.labels k.stable)).sink.counts g j ≡ length ((s.gears g).lanes j)
    now s k = unfold site_next in refl

-- ---- fresh labels

abbrev added : Option Label → List Label
added o = elim o [ None ↦ [] | Some l ↦ l ∷ [] ]

listed-and : (G : Option SiteInput → List Label) (input : SiteInput) (b c : Bool) (l : Label) (q : List Label) → G None ≡ q → G (Some input) ≡ (if c then q ++ l ∷ [] else q) → G (if b then Some input else None) ≡ q ++ added (if b && c then Some l else None)
listed-and G input true true l q u v = v
listed-and G input true false l q u v = v ∙ sym (plain q)
listed-and G input false c l q u v = u ∙ sym (plain q)

fresh-step : (d : Deployed) (h : List Entry) (i g : ℕ) (s : SiteState) (a : Act) (r : Answer) (n : Bool) → is_gather a i ≡ false → Step d h a r →
    ((after d i s (handed d h a i) r).gears g).fresh ≡ (s.gears g).fresh ++ added (made_entry i g h (entry a r n))
unfolding after handed site_next
fresh-step d h i g s a r n z (wrote {w = w} {i = t} y p q b) =
    at-write (λ o. ((after d i s o r).gears g).fresh) _ d h a w i t y p
    (listed-and (λ o. ((after d i s o r).gears g).fresh) (write_input h w) (t == i) (gear_of d (least_item (list_of w.items)) == g) (write_label d h w t) (s.gears g).fresh refl refl)
fresh-step d h i g s a r n z (moved {c = c} {j = j} {i = t} p q w) =
    at-seat (λ o. ((after d i s o r).gears g).fresh) _ i t (given.Move (carrying h c) j) _ p
    (listed-and (λ o. ((after d i s o r).gears g).fresh) (given.Move (carrying h c) j) (t == i) (0 == g) (record { point = point_at (base h c t 0 + 1) t 0; kind = kind.Move j }) (s.gears g).fresh refl refl)
fresh-step d h i g s a r n z (gathered_now {i = t} q) = go (t == i) z
  where
    go : (b : Bool) → b ≡ false → ((after d i s (if b then Some given.Gather else None) r).gears g).fresh ≡ (s.gears g).fresh ++ []
    go true w = absurd (cc)
    go false w = sym (plain (s.gears g).fresh)
fresh-step d h i g s a r n z _ = kept (λ s. (s.gears g).fresh) d i s (handed d h a i) r (λ input. refl) ∙ sym (plain (s.gears g).fresh)

gather-fresh : (d : Deployed) (i g m t : ℕ) (s : SiteState) → ((site_next d i s given.Gather (ans.Gathered m t)).gears g).fresh ≡ []
unfolding site_next
gather-fresh d i g m t s = refl

fresh-gathered : (d : Deployed) (h : List Entry) (e : Entry) (i g : ℕ) (k : Gathers d h e i) → ((site_state d (e ∷ h) i).gears g).fresh ≡ []
unfolding site_state
fresh-gathered d h e i g k = ap (λ (s : SiteState). (s.gears g).fresh) (gather-after d h e i (site_state d h i) k) ∙ gather-fresh d i g k.labels k.stable (site_state d h i)

-- what was made is what was gathered, and then what is fresh
pub fresh-agrees : (d : Deployed) (h : List Entry) (i g : ℕ) → IsRun d h → made h i g ≡ made (gathered h i) i g ++ ((site_state d h i).gears g).fresh
unfolding site_state made gathered
fresh-agrees d [] i g run = refl
fresh-agrees d (e ∷ h) i g run =
    by_test _ (is_gather e.act i)
    (λ w. let k : Gathers d h e i = gathers-of d h e i run w in
    sym (plain (made (e ∷ h) i g)) ∙ (ap (λ (x : List Label). made (e ∷ h) i g ++ x) (sym (fresh-gathered d h e i g k)) ∙ ap (λ (b : List Entry). made b i g ++ ((site_state d (e ∷ h) i).gears g).fresh) (sym (gathered-now e h i w))))
    (λ w. ap (λ (ls : List Label). ls ++ added (made_entry i g h e)) (fresh-agrees d h i g (before_of d h e run)) ∙ (joined (made (gathered h i) i g) ((site_state d h i).gears g).fresh (added (made_entry i g h e)) ∙
    (ap (λ (ls : List Label). made (gathered h i) i g ++ ls) (sym (fresh-step d h i g (site_state d h i) e.act e.answer e.inner w (step_of d h e run))) ∙
    ap (λ (b : List Entry). made b i g ++ ((site_state d (e ∷ h) i).gears g).fresh) (sym (gathered-same e h i w)))))

fresh-made : (d : Deployed) (h : List Entry) (i g : ℕ) (l : Label) → IsRun d h → In ((site_state d h i).gears g).fresh l → Made h l × (l.point.site ≡ i)
fresh-made d h i g l run m =
    let w : Made h l × (l.point.site ≡ i) × (l.point.gear ≡ g) = from-made h i g l (subst (λ (ls : List Label). In ls l) (sym (fresh-agrees d h i g run)) (In-right (made (gathered h i) i g) _ l m)) in
    (w.0, w.1)

in-added : (o : Option Label) (l : Label) → In (added o) l → o ≡ Some l
in-added None l m = absurd m
in-added (Some k) l (inl e) = ap (λ (x : Label). Some x) e
in-added (Some k) l (inr m) = absurd m

-- a fresh label was not gathered
fresh-new : (d : Deployed) (h : List Entry) (i g : ℕ) (l : Label) → IsValid d → IsRun d h → In ((site_state d h i).gears g).fresh l → Made (gathered h i) l → ⊥
unfolding site_state
fresh-new d [] i g l v run m k = m
fresh-new d (e ∷ h) i g l v run m k =
    by_test _ (is_gather e.act i)
    (λ w. subst (λ (ls : List Label). In ls l) (fresh-gathered d h e i g (gathers-of d h e i run w)) m)
    (λ w. let k' : Made (gathered h i) l = subst (λ (b : List Entry). Made b l) (gathered-same e h i w) k in
    elim (In-parts ((site_state d h i).gears g).fresh (added (made_entry i g h e)) l (subst (λ (ls : List Label). In ls l) (fresh-step d h i g (site_state d h i) e.act e.answer e.inner w (step_of d h e run)) m)) [
      | inl a ↦ fresh-new d h i g l v (before_of d h e run) a k'
      | inr a ↦ made-new d h e l v run (kept_label (λ (m : Label). (m.point.site == i) && (m.point.gear == g)) (made_in e.answer) l (in-added (made_entry i g h e) l a)).0 (gathered-made h i l k')
    ])

-- ---- pending labels

sent-none : (h : List Entry) (x : Entry) (i m t : ℕ) → x.answer ≡ ans.Gathered m t → sent (x ∷ h) i ≡ sent h i
unfolding sent
sent-none h x i m t e = listed-none (sent_entry i) h x (ap (λ (r : Answer). if_label (λ l. is_at x.act i) (sent_in r)) e)

emit-less : (G : Option SiteInput → List Label) (input : SiteInput) (b : Bool) (l : Label) (S M : List Label) → G None ≡ without S M → G (Some input) ≡ filter (λ m. not (label_eq l m)) (without S M) →
    G (if b then Some input else None) ≡ without (S ++ added (if b then Some l else None)) M
emit-less G input true l S M u v = v ∙ sym (without-more S l M)
emit-less G input false l S M u v = u ∙ ap (λ (ls : List Label). without ls M) (sym (plain S))

other-kind : (l m : Label) → is_made l.kind ≡ false → is_made m.kind ≡ true → label_eq l m ≡ false
other-kind l m a b = false_from_ne_true (label_eq l m) (λ e. let w : is_made l.kind ≡ is_made m.kind = ap (λ (x : Label). is_made x.kind) (same-label l m e) in cc)

other-less : (b : Bool) (l : Label) (S M : List Label) → is_made l.kind ≡ false → ((m : Label) → In M m → is_made m.kind ≡ true) → without S M ≡ without (S ++ added (if b then Some l else None)) M
other-less true l S M e k =
    sym (without-more S l M ∙ filter-all (λ m. not (label_eq l m)) (without S M) (λ m i. ap not (other-kind l m e (k m (In-filter (λ l. not (has label_eq S l)) M m i).0))))
other-less false l S M e k = ap (λ (ls : List Label). without ls M) (sym (plain S))

pending-step : (d : Deployed) (h : List Entry) (i g : ℕ) (M : List Label) (s : SiteState) (a : Act) (r : Answer) (n : Bool) → ((m : Label) → In M m → is_made m.kind ≡ true) → s.sink.pending g ≡ without (sent h i) M → is_gather a i ≡ false → Step d h a r →
    (after d i s (handed d h a i) r).sink.pending g ≡ without (sent (entry a r n ∷ h) i) M
unfolding after handed site_next sent
pending-step d h i g M s a r n k q z (gathered_now {i = t} w) = go (t == i) z
  where
    go : (b : Bool) → b ≡ false → (after d i s (if b then Some given.Gather else None) r).sink.pending g ≡ without (listed (sent_entry i) h ++ []) M
    go true w = absurd (cc)
    go false w = q ∙ ap (λ (ls : List Label). without ls M) (sym (plain (listed (sent_entry i) h)))
pending-step d h i g M s a r n k q z (emitted {i = t} {l = l} w) =
    emit-less (λ o. (after d i s o r).sink.pending g) given.Emit (t == i) l (listed (sent_entry i) h) M q (ap (filter (λ m. not (label_eq l m))) q)
pending-step d h i g M s a r n k q z (pulsed {i = t} w y) =
    kept (λ s. s.sink.pending g) d i s (handed d h a i) r (λ input. refl) ∙ (q ∙ other-less (t == i) (record { point = point_at (stable d h t) t 65534; kind = kind.Pulse }) (listed (sent_entry i) h) M refl k)
pending-step d h i g M s a r n k q z (closed {i = t} w y) =
    kept (λ s. s.sink.pending g) d i s (handed d h a i) r (λ input. refl) ∙ (q ∙ other-less (t == i) (record { point = cut d h t; kind = kind.Close (emission h t) }) (listed (sent_entry i) h) M refl k)
pending-step d h i g M s a r n k q z _ =
    kept (λ s. s.sink.pending g) d i s (handed d h a i) r (λ input. refl) ∙ (q ∙ ap (λ (ls : List Label). without ls M) (sym (plain (listed (sent_entry i) h))))

gather-pending : (d : Deployed) (i g m t : ℕ) (s : SiteState) → (site_next d i s given.Gather (ans.Gathered m t)).sink.pending g ≡ s.sink.pending g ++ (s.gears g).fresh
unfolding site_next
gather-pending d i g m t s = refl

fresh-unsent : (d : Deployed) (h : List Entry) (i g : ℕ) (l : Label) → IsValid d → IsRun d h → In ((site_state d h i).gears g).fresh l → has label_eq (sent h i) l ≡ false
unfolding sent
fresh-unsent d h i g l v run m =
    false_from_ne_true (has label_eq (sent h i) l) (λ e. fresh-new d h i g l v run m
    (sent-gathered d h i l run (listed-gives (sent_entry i) h l (has-in (listed (sent_entry i) h) l e)) (made-kind d h l v run (fresh-made d h i g l run m).0)))

gathered-kind : (d : Deployed) (h : List Entry) (i g : ℕ) (m : Label) → IsValid d → IsRun d h → In (made (gathered h i) i g) m → is_made m.kind ≡ true
gathered-kind d h i g m v run k = made-kind d h m v run (gathered-made h i m (from-made (gathered h i) i g m k).0)

pub pending-agrees : (d : Deployed) (h : List Entry) (i g : ℕ) → IsValid d → IsRun d h → (site_state d h i).sink.pending g ≡ without (sent h i) (made (gathered h i) i g)
unfolding site_state made gathered
pending-agrees d [] i g v run = refl
pending-agrees d (e ∷ h) i g v run =
    let s : SiteState = site_state d h i in
    let old : IsRun d h = before_of d h e run in
    by_test _ (is_gather e.act i)
    (λ w. let k : Gathers d h e i = gathers-of d h e i run w in
    ap (λ (s : SiteState). s.sink.pending g) (gather-after d h e i s k) ∙ (gather-pending d i g k.labels k.stable s ∙ (ap (λ (ls : List Label). ls ++ (s.gears g).fresh) (pending-agrees d h i g v old) ∙
    (ap (λ (ls : List Label). without (sent h i) (made (gathered h i) i g) ++ ls) (sym (filter-all (λ l. not (has label_eq (sent h i) l)) (s.gears g).fresh (λ l m. ap not (fresh-unsent d h i g l v old m)))) ∙
    (sym (filter-join (λ l. not (has label_eq (sent h i) l)) (made (gathered h i) i g) (s.gears g).fresh) ∙
    (ap (without (sent h i)) (sym (fresh-agrees d h i g old)) ∙
    (ap (without (sent h i)) (sym (gathered-made-same i g h e k.labels k.stable k.so)) ∙
    (ap (λ (ls : List Label). without ls (made (e ∷ h) i g)) (sym (sent-none h e i k.labels k.stable k.so)) ∙
    ap (λ (b : List Entry). without (sent (e ∷ h) i) (made b i g)) (sym (gathered-now e h i w))))))))))
    (λ w. pending-step d h i g (made (gathered h i) i g) s e.act e.answer e.inner (λ m k. gathered-kind d h i g m v old k) (pending-agrees d h i g v old) w (step_of d h e run) ∙
    ap (λ (b : List Entry). without (sent (e ∷ h) i) (made b i g)) (sym (gathered-same e h i w)))

-- ---- what the sink reads off

least-rows : (p : ℕ → ℕ) (h : List Entry) (i n : ℕ) → ((g : ℕ) → p g ≡ promise h i g) → least_row p n ≡ least_promise h i n
unfolding least_row least_promise
least-rows p h i zero k = refl
least-rows p h i (suc zero) k = k 0
least-rows p h i (suc (suc n)) k = ap (λ (m : ℕ). min m (p (suc n))) (least-rows p h i (suc n) k) ∙ ap (λ (m : ℕ). min (least_promise h i (suc n)) m) (k (suc n))

pub stable-agrees : (d : Deployed) (h : List Entry) (i : ℕ) → IsRun d h → stable_of d (site_state d h i) ≡ stable d h i
unfolding stable
stable-agrees d h i run = least-rows (site_state d h i).sink.promises (gathered h i) i d.gears (λ g. promises-agree d h i g run)

rows-without : (S : List Label) (q : ℕ → List Label) (h : List Entry) (i n : ℕ) → ((g : ℕ) → q g ≡ without S (made h i g)) → rows q n ≡ without S (made_to h i n)
unfolding rows made_to
rows-without S q h i zero k = refl
rows-without S q h i (suc n) k =
    ap (λ (ls : List Label). ls ++ q n) (rows-without S q h i n k) ∙ (ap (λ (ls : List Label). without S (made_to h i n) ++ ls) (k n) ∙ sym (filter-join (λ l. not (has label_eq S l)) (made_to h i n) (made h i n)))

pub all-pending : (d : Deployed) (h : List Entry) (i : ℕ) → IsValid d → IsRun d h → rows (site_state d h i).sink.pending d.gears ≡ pending d h i
unfolding pending
all-pending d h i v run = rows-without (sent h i) (site_state d h i).sink.pending (gathered h i) i d.gears (λ g. pending-agrees d h i g v run)

pub ready-agrees : (d : Deployed) (h : List Entry) (i : ℕ) → IsValid d → IsRun d h → ready_of d (site_state d h i) ≡ ready d h i
unfolding ready is_stable
ready-agrees d h i v run =
    ap (λ (ls : List Label). least_label (λ l. nat_le l.point.ts (stable_of d (site_state d h i))) ls) (all-pending d h i v run) ∙
    ap (λ (t : ℕ). least_label (λ l. nat_le l.point.ts t) (pending d h i)) (stable-agrees d h i run)

abbrev cut_by : ℕ → ℕ → Point → Option Label → Point
cut_by i t last o = elim o [ None ↦ mark t i | Some least ↦ greater_point last (mark (least.point.ts - 1) i) ]

pub cut-agrees : (d : Deployed) (h : List Entry) (i : ℕ) → IsValid d → IsRun d h → cut_of d i (site_state d h i) ≡ cut d h i
unfolding cut
cut-agrees d h i v run =
    let s : SiteState = site_state d h i in
    ap (λ (t : ℕ). cut_by i t s.sink.last (ready_of d s)) (stable-agrees d h i run) ∙
    (ap (λ (p : Point). cut_by i (stable d h i) p (ready_of d s)) (sent-agrees d h i run) ∙ ap (λ (o : Option Label). cut_by i (stable d h i) (last_sent h i) o) (ready-agrees d h i v run))
