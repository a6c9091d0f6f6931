-- Where what is known and sent comes from, and what a close parts.
use Rattle.std.specs.Prelude.{◌≡◌, ◌⊎◌, ◌<◌, ◌≤◌, ℕ, ◌+◌, Bool, true, false, ◌&&◌, List, [], ◌∷◌, Option, Some, None, refl, ◌==◌, if◌then◌else◌}
use Rattle.std.proofs.Common.{sym, subst, arith, inl, inr, ap, ◌∙◌}
use Rattle.std.proofs.lemmas.Bool.{and_parts, eqb-true}
use Rattle.sat_label.specs.declared.point.Point.{Point}
use Rattle.sat_label.specs.declared.label.Label.{Label}
use Rattle.sat_act.specs.declared.act.Act.{Act}
use Rattle.sat_act.specs.declared.answer.Answer.{Answer}
use Rattle.sat_act.specs.declared.entry.Entry.{Entry}
use Rattle.sat_act.specs.Deployed.{Deployed}
use Rattle.sat_act.specs.Parts.{emission, sent_entry}
use Rattle.sat_act.specs.Runs.{IsRun}
use Rattle.sat_act.specs.Goals.{Gives, IsValid}
use Rattle.sat_laws.proofs.Steps.{Step}
use Rattle.sat_laws.proofs.Runs.{step_of, before_of, entry}
use Rattle.sat_laws.proofs.Labels.{some_is}
use Rattle.sat_laws.proofs.Cuts.{sent-site}
use Rattle.sat_laws.proofs.Sinks.{Sent}
use Rattle.sat_laws.proofs.Sendings.{picked_if}
use Rattle.sat_act.specs.Parts.{stable, cut}
use Rattle.sat_label.specs.declared.label.Kind.TheVariants as kind
use Rattle.sat_laws.proofs.Steps.{closed}
use Rattle.sat_laws.proofs.Links.{SentIn, Behind}
use Rattle.sat_label.specs.declared.label.Kind.{Kind}
use Rattle.sat_act.specs.declared.answer.Answer.TheVariants as ans
use Rattle.sat_act.specs.Goals.{Shows}
use Rattle.sat_laws.proofs.Order.{sent-in}
use Rattle.sat_laws.proofs.Sendings.{emission-rises}
use Rattle.sat_label.specs.Order.{point_le}
use Rattle.sat_act.specs.Done.{made_in}
use Rattle.sat_label.specs.declared.label.Kind.TheVariants as kind
use Rattle.sat_act.specs.Parts.{ready, close_cut, close_cut_of_entry, closed_epoch_of_entry}
use Rattle.sat_act.specs.Causes.{Who, Client, Maker, Knows, LearnedBy}
use Rattle.sat_act.specs.Goals.{Made}
use Rattle.sat_laws.proofs.Steps.{read_some}
use Rattle.sat_laws.proofs.Sinks.{pending-is, gathered-made, new-unstable}
use Rattle.sat_laws.proofs.Cuts.{Sending, by_emit, by_pulse, by_close, sending, ready-is, sent-order, cut-sent, sent-cut, sent-ts}
use Rattle.sat_laws.proofs.Sendings.{close-seq, close-now, picked_if, emission-closed}
use Rattle.sat_laws.proofs.Shows.{shows-is}
use Rattle.sat_laws.proofs.Sites.{version-shown}
use Rattle.sat_laws.proofs.Knowledge.{point_le-ts}
use Rattle.sat_laws.proofs.Arrivals.{sent-epoch, epoch-bound}
use Rattle.sat_label.specs.Members.{is_made}

-- ---- origins

not_made_close : (d : Deployed) (h : List Entry) (i : ℕ) (l : Label) → Sending d h i l → is_made l.kind ≡ true → ready d h i ≡ Some l
not_made_close d h i l (by_emit r) m = r
not_made_close d h i l (by_pulse r p w) m = absurd (let y : is_made kind.Pulse ≡ true = subst (λ (z : Label). is_made z.kind ≡ true) (sym w) m in cc)
not_made_close d h i l (by_close w) m = absurd (let y : is_made (kind.Close (emission h i)) ≡ true = subst (λ (z : Label). is_made z.kind ≡ true) (sym w) m in cc)

-- a made label is sent by an emit
pub emits : (d : Deployed) (h : List Entry) (x : Entry) (i : ℕ) (l : Label) → IsRun d (x ∷ h) → sent_entry i h x ≡ Some l → is_made l.kind ≡ true → ready d h i ≡ Some l
emits d h x i l run s m = not_made_close d h i l (sending d h i l x.act x.answer x.inner (step_of d h x run) s) m

pub ready-made : (d : Deployed) (h : List Entry) (i : ℕ) (l : Label) → ready d h i ≡ Some l → Made h l
ready-made d h i l r = gathered-made h i l (pending-is d h i l (ready-is d h i l r).member).0

pub sent-made : (d : Deployed) (h : List Entry) (i : ℕ) (l : Label) → IsRun d h → Sent h i l → is_made l.kind ≡ true → Made h l
unfolding Gives
sent-made d [] i l run s m = s
sent-made d (x ∷ h) i l run (inl s) m = inl (sent-made d h i l (before_of d h x run) s m)
sent-made d (x ∷ h) i l run (inr s) m = inl (ready-made d h i l (emits d h x i l run s m))

read-at : (d : Deployed) (h : List Entry) (a : Act) (r : Answer) (l : Label) (w : List ℕ) → Step d h a r → r ≡ ans.ReadSome l w → (j : ℕ) × Shows h j l
read-at d h a r l w (read_some {c = b} {x = x} {i = i} {l = m} p q k) e = (i, version-shown h i x l (k ∙ ap (λ (y : Label). Some y) (let t : m ≡ l = cc in t)))
read-at d h a r l w _ e = absurd (cc)

learned-made : (d : Deployed) (h : List Entry) (x : Entry) (a : Label) → IsRun d h → Step d h x.act x.answer → ((l : Label) → Knows h (Maker l) a → Made h a) → (r : Answer) → x.answer ≡ r → LearnedBy r a (λ w. Knows h w a) →
    Made h a ⊎ (made_in x.answer ≡ Some a)
learned-made d h x a run st old (ans.Wrote b) e q = inr (ap made_in e ∙ ap (λ (y : Label). Some y) q)
learned-made d h x a run st old (ans.ReadSome l v) e (inl q) =
    let w : (j : ℕ) × Shows h j l = read-at d h x.act x.answer l v st e in
    inl (subst (λ (y : Label). Made h y) q (shows-is d h w.0 l run w.1).made)
learned-made d h x a run st old (ans.ReadSome l v) e (inr q) = inl (old l q)
learned-made d h x a run st old _ e q = absurd q

-- what is known was made
pub knows-made : (d : Deployed) (h : List Entry) (w : Who) (a : Label) → IsRun d h → Knows h w a → Made h a
unfolding Knows Gives
knows-made d [] w a run k = k
knows-made d (x ∷ h) w a run (inl k) = inl (knows-made d h w a (before_of d h x run) k)
knows-made d (x ∷ h) (Maker b) a run (inr k) = inl (knows-made d h (Client k.1.0) a (before_of d h x run) k.1.2)
knows-made d (x ∷ h) (Client c) a run (inr k) = learned-made d h x a (before_of d h x run) (step_of d h x run) (λ l q. knows-made d h (Maker l) a (before_of d h x run) q) x.answer refl k.1

-- ---- what a close parts

kind_of_close : (e : ℕ) (c : Label) → c.kind ≡ kind.Close e → is_made c.kind ≡ false
kind_of_close e c k = subst (λ (y : Kind). is_made y ≡ false) (sym k) refl

-- what was sent in an epoch was sent before its close
pub close-behind : (d : Deployed) (h : List Entry) (i e : ℕ) (a c : Label) → IsValid d → IsRun d h → SentIn h i e a → Sent h i c → c.kind ≡ kind.Close e → (a ≡ c → ⊥) → Behind h e a c
unfolding SentIn Gives Behind
close-behind d [] i e a c v run s m k u = s
close-behind d (x ∷ h) i e a c v run (inl s) (inl m) k u = inl (close-behind d h i e a c v (before_of d h x run) s m k u)
close-behind d (x ∷ h) i e a c v run (inl s) (inr m) k u =
    let w : (e ≡ emission h i) × (closed_epoch_of_entry i h x ≡ Some e) = close-now d h i e x.act x.answer x.inner c v (before_of d h x run) (step_of d h x run) m k in
    let t : a.point.site ≡ i = sent-site d h i a (before_of d h x run) (sent-in h i e a s) in
    inr (i, m, sym w.0, subst (λ (n : ℕ). SentIn h n e a) (sym t) s, inr t)
close-behind d (x ∷ h) i e a c v run (inr s) (inl m) k u =
    let w : e < emission h i = close-seq d h i e c v (before_of d h x run) m k in
    let y : emission h i ≡ e = s.1 in
    absurd (omega arith)
close-behind d (x ∷ h) i e a c v run (inr s) (inr m) k u = absurd (u (some_is a c (sym s.0 ∙ m)))

-- the same of a made label, which is no close
pub made-behind : (d : Deployed) (h : List Entry) (i e : ℕ) (a c : Label) → IsValid d → IsRun d h → SentIn h i e a → Sent h i c → c.kind ≡ kind.Close e → is_made a.kind ≡ true → Behind h e a c
made-behind d h i e a c v run s m k u =
    close-behind d h i e a c v run s m k
    (λ w. let y : is_made c.kind ≡ true = subst (λ (l : Label). is_made l.kind ≡ true) w u in let z : is_made c.kind ≡ false = kind_of_close e c k in cc)

-- the close cut of an epoch, as an entry's answer
pub closing : (d : Deployed) (h : List Entry) (i e : ℕ) (p : Point) (a : Act) (r : Answer) (n : Bool) → Step d h a r → close_cut_of_entry i e h (entry a r n) ≡ Some (Some p) → (e ≡ emission h i) × (p ≡ cut d h i) × (closed_epoch_of_entry i h (entry a r n) ≡ Some e)
closing d h i e p a r n (closed {i = k} q w) m =
    let z : ((k == i) && (emission h k == e)) ≡ true = (picked_if ((k == i) && (emission h k == e)) (Some (cut d h k)) (Some p) m).0 in
    let y : Some (cut d h k) ≡ Some p = (picked_if ((k == i) && (emission h k == e)) (Some (cut d h k)) (Some p) m).1 in
    let b : ((k == i) ≡ true) × ((emission h k == e) ≡ true) = and_parts (k == i) (emission h k == e) z in
    let s : k ≡ i = eqb-true k i b.0 in
    let f : emission h k ≡ e = eqb-true (emission h k) e b.1 in
    (sym f ∙ ap (λ (y : ℕ). emission h y) s, sym (some_is (cut d h k) p y) ∙ ap (λ (y : ℕ). cut d h y) s, give (k == i) (emission h k) b.0 ∙ ap (λ (y : ℕ). Some y) f)
  where
    give : (b : Bool) (n : ℕ) → b ≡ true → (if b then Some n else None) ≡ Some n
    give true n e = refl
    give false n e = absurd (cc)
closing d h i e p a r n _ m = absurd (cc)

close-not-made : (d : Deployed) (h : List Entry) (i e : ℕ) (q : Option Point) (l : Label) (a : Act) (r : Answer) (n : Bool) → Step d h a r → close_cut_of_entry i e h (entry a r n) ≡ Some q → sent_entry i h (entry a r n) ≡ Some l → is_made l.kind ≡ true → ⊥
close-not-made d h i e q l a r n (closed {i = k} u w) c m k' =
    let z : record { point = cut d h k; kind = kind.Close (emission h k) } ≡ l = (picked_if (k == i) (record { point = cut d h k; kind = kind.Close (emission h k) }) l m).1 in
    let y : is_made (kind.Close (emission h k)) ≡ true = subst (λ (x : Label). is_made x.kind ≡ true) (sym z) k' in
    cc
close-not-made d h i e q l a r n _ c m k = cc

close-not-making : (d : Deployed) (h : List Entry) (i e : ℕ) (q : Option Point) (l : Label) (a : Act) (r : Answer) (n : Bool) → Step d h a r → close_cut_of_entry i e h (entry a r n) ≡ Some q → made_in r ≡ Some l → ⊥
close-not-making d h i e q l a r n (closed u w) c m = cc
close-not-making d h i e q l a r n _ c m = cc

close-sends : (d : Deployed) (h : List Entry) (i e : ℕ) (p : Point) (a : Act) (r : Answer) (n : Bool) → Step d h a r → close_cut_of_entry i e h (entry a r n) ≡ Some (Some p) → sent_entry i h (entry a r n) ≡ Some (record { point = p; kind = kind.Close e })
close-sends d h i e p a r n (closed {i = k} q w) m =
    let z : ((k == i) && (emission h k == e)) ≡ true = (picked_if ((k == i) && (emission h k == e)) (Some (cut d h k)) (Some p) m).0 in
    let y : Some (cut d h k) ≡ Some p = (picked_if ((k == i) && (emission h k == e)) (Some (cut d h k)) (Some p) m).1 in
    let b : ((k == i) ≡ true) × ((emission h k == e) ≡ true) = and_parts (k == i) (emission h k == e) z in
    let f : emission h k ≡ e = eqb-true (emission h k) e b.1 in
    let c : cut d h k ≡ p = some_is (cut d h k) p y in
    give (k == i) (record { point = cut d h k; kind = kind.Close (emission h k) }) b.0 ∙ (λ i. Some (record { point = c i; kind = kind.Close (f i) }))
  where
    give : (b : Bool) (n : Label) → b ≡ true → (if b then Some n else None) ≡ Some n
    give true n e = refl
    give false n e = absurd (cc)
close-sends d h i e p a r n _ m = absurd (cc)

pub cut-cases : (h : List Entry) (x : Entry) (i e : ℕ) (p : Point) → close_cut (x ∷ h) i e ≡ Some p → (close_cut_of_entry i e h x ≡ Some (Some p)) ⊎ (close_cut h i e ≡ Some p)
unfolding close_cut
cut-cases h x i e p m = go (close_cut_of_entry i e h x) m
  where
    go : (o : Option (Option Point)) → elim o [ None ↦ close_cut h i e | Some y ↦ y ] ≡ Some p → (o ≡ Some (Some p)) ⊎ (close_cut h i e ≡ Some p)
    go None m = inr m
    go (Some y) m = inl (ap (λ (z : Option Point). Some z) m)

pub closed-below : (d : Deployed) (h : List Entry) (i e : ℕ) (p : Point) → IsRun d h → close_cut h i e ≡ Some p → e < emission h i
closed-below d [] i e p run m = absurd (unfold close_cut in cc)
closed-below d (x ∷ h) i e p run m =
    elim (cut-cases h x i e p m) [
      | inl k ↦
          let w : (e ≡ emission h i) × (p ≡ cut d h i) × (closed_epoch_of_entry i h x ≡ Some e) = closing d h i e p x.act x.answer x.inner (step_of d h x run) k in
          let y : e ≡ emission h i = w.0 in
          let z : emission (x ∷ h) i ≡ emission h i + 1 = emission-closed h x i e w.2 in
          omega arith
      | inr k ↦
          let w : e < emission h i = closed-below d h i e p (before_of d h x run) k in
          let y : emission h i ≤ emission (x ∷ h) i = emission-rises h x i in
          omega arith
    ]

pub closed-sent : (d : Deployed) (h : List Entry) (i e : ℕ) (p : Point) → IsRun d h → close_cut h i e ≡ Some p → Sent h i (record { point = p; kind = kind.Close e })
unfolding Gives
closed-sent d [] i e p run m = absurd (unfold close_cut in cc)
closed-sent d (x ∷ h) i e p run m =
    elim (cut-cases h x i e p m) [
      | inl k ↦ inr (close-sends d h i e p x.act x.answer x.inner (step_of d h x run) k)
      | inr k ↦ inl (closed-sent d h i e p (before_of d h x run) k)
    ]

-- a made label of an epoch up to a closed one lies at or below its close cut
pub epoch-cut : (d : Deployed) (h : List Entry) (i e f : ℕ) (p : Point) (l : Label) → i < d.sites → IsValid d → IsRun d h → close_cut h i e ≡ Some p → SentIn h i f l → is_made l.kind ≡ true → f ≤ e → point_le l.point p ≡ true
unfolding SentIn
epoch-cut d [] i e f p l b v run m s k le = absurd s
epoch-cut d (x ∷ h) i e f p l b v run m (inl s) k le =
    elim (cut-cases h x i e p m) [
      | inl w ↦
          let z : p ≡ cut d h i = (closing d h i e p x.act x.answer x.inner (step_of d h x run) w).1 in
          let q : Sent h i l = sent-in h i f l s in
          subst (λ (y : Point). point_le l.point y ≡ true) (sym z) (sent-cut d h i l b v (before_of d h x run) q (sent-made d h i l (before_of d h x run) q k) (sent-site d h i l (before_of d h x run) q))
      | inr w ↦ epoch-cut d h i e f p l b v (before_of d h x run) w s k le
    ]
epoch-cut d (x ∷ h) i e f p l b v run m (inr s) k le =
    elim (cut-cases h x i e p m) [
      | inl w ↦ absurd (close-not-made d h i e (Some p) l x.act x.answer x.inner (step_of d h x run) w s.0 k)
      | inr w ↦
          let y : e < emission h i = closed-below d h i e p (before_of d h x run) w in
          let z : emission h i ≡ f = s.1 in
          absurd (omega arith)
    ]

-- a made label at or below a close cut has an epoch up to the closed one
pub cut-epoch : (d : Deployed) (h : List Entry) (i e : ℕ) (p : Point) (l : Label) → i < d.sites → IsValid d → IsRun d h → close_cut h i e ≡ Some p → Made h l → l.point.site ≡ i → point_le l.point p ≡ true → (f : ℕ) × (f ≤ e) × SentIn h i f l
unfolding Gives SentIn stable
cut-epoch d [] i e p l b v run m k s le = absurd k
cut-epoch d (x ∷ h) i e p l b v run m k s le = go (cut-cases h x i e p m) k (λ w q. cut-epoch d h i e p l b v (before_of d h x run) w q s le)
  where
    now : close_cut_of_entry i e h x ≡ Some (Some p) → Made h l → (f : ℕ) × (f ≤ e) × SentIn (x ∷ h) i f l
    now w q =
        let z : (e ≡ emission h i) × (p ≡ cut d h i) × (closed_epoch_of_entry i h x ≡ Some e) = closing d h i e p x.act x.answer x.inner (step_of d h x run) w in
        let t : Sent h i l = cut-sent d h i l v (before_of d h x run) (sent-order d h i b v (before_of d h x run)) q s (subst (λ (y : Point). point_le l.point y ≡ true) z.1 le) in
        let f : (f : ℕ) × SentIn h i f l = sent-epoch h i l t in
        let g : f.0 ≤ emission h i = epoch-bound h i f.0 l f.1 in
        let y : e ≡ emission h i = z.0 in
        (f.0, omega arith, inl f.1)

    later : ((f : ℕ) × (f ≤ e) × SentIn h i f l) → (f : ℕ) × (f ≤ e) × SentIn (x ∷ h) i f l
    later w = (w.0, w.1, inl w.2)

    go : (close_cut_of_entry i e h x ≡ Some (Some p)) ⊎ (close_cut h i e ≡ Some p) → Made h l ⊎ (made_in x.answer ≡ Some l) → (close_cut h i e ≡ Some p → Made h l → (f : ℕ) × (f ≤ e) × SentIn h i f l) → (f : ℕ) × (f ≤ e) × SentIn (x ∷ h) i f l
    go (inl w) (inl q) old = now w q
    go (inl w) (inr q) old = absurd (close-not-making d h i e (Some p) l x.act x.answer x.inner (step_of d h x run) w q)
    go (inr w) (inl q) old = later (old w q)
    go (inr w) (inr q) old =
        let c : p.ts ≤ stable d h i = sent-ts d h i (record { point = p; kind = kind.Close e }) b (before_of d h x run) (closed-sent d h i e p (before_of d h x run) w) in
        let t : l.point.ts ≤ p.ts = point_le-ts l.point p le in
        let u : l.point.ts ≤ stable d h i = omega arith in
        absurd (new-unstable d h x l v run q (subst (λ (y : ℕ). l.point.ts ≤ stable d h y) (sym s) u))
