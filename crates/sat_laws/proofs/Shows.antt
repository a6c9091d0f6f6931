-- What is brought and shown was made, and is shown once.
use Rattle.std.specs.Prelude.{◌≡◌, ℕ, Bool, true, false, ◌&&◌, not, List, [], ◌∷◌, Option, Some, None, refl, ◌==◌, if◌then◌else◌}
use Rattle.std.proofs.Common.{sym, subst, arith, inl, inr, ap, ◌∙◌}
use Rattle.std.proofs.lemmas.Bool.Decides.{nat_tests}
use Rattle.std.proofs.lemmas.Bool.{and_parts, eq-eqb, eqb-true}
use Rattle.sat_label.proofs.Truth.{some_if}
use Rattle.sat_label.specs.declared.label.Kind.{Kind}
use Rattle.sat_label.specs.declared.label.Kind.TheVariants as kind
use Rattle.sat_label.specs.declared.label.Label.{Label}
use Rattle.sat_label.specs.Order.{label_eq}
use Rattle.sat_label.specs.Grouped.{list_of}
use Rattle.sat_label.specs.Words.{has}
use Rattle.sat_act.specs.declared.act.Act.{Act}
use Rattle.sat_act.specs.declared.act.Act.TheVariants as act
use Rattle.sat_act.specs.declared.answer.Answer.{Answer}
use Rattle.sat_act.specs.declared.answer.Answer.TheVariants as ans
use Rattle.sat_act.specs.declared.entry.Entry.{Entry}
use Rattle.sat_act.specs.Deployed.{Deployed}
use Rattle.sat_act.specs.Histories.{listed}
use Rattle.sat_act.specs.Done.{made_in}
use Rattle.sat_act.specs.Parts.{replicates, keeps_some, is_target, is_update, is_update_of, lane, lane_entry, made_entry, brought, brought_entry, shown, shown_entry, waiting, candidate, next_stamp, is_past, every_site_passed, own_site_passed}
use Rattle.sat_act.specs.Runs.{IsRun}
use Rattle.sat_act.specs.Goals.{Gives, Made, Shows, IsValid, IsKeptAt, Once}
use Rattle.sat_laws.proofs.Steps.{Step, write_label, wrote, moved, brought_now, showed_turn, showed_stamp}
use Rattle.sat_laws.proofs.Runs.{step_of, before_of, entry}
use Rattle.sat_laws.proofs.Labels.{some_is, made-new}
use Rattle.sat_laws.proofs.Members.{listed-gives, gives-listed}
use Rattle.sat_laws.proofs.Sinks.{kept}
use Rattle.sat_laws.proofs.Sendings.{picked_if}
use Rattle.sat_laws.proofs.Values.{write-of}
use Rattle.sat_laws.proofs.Written.{first-kept, some-kept}
use Rattle.sat_label.specs.Members.{In}
use Rattle.sat_label.proofs.Members.{In-get, In-filter, has-in, in-has}
use Rattle.sat_label.proofs.Least.{IsLeast, least-is}

abbrev pub Brings : List Entry → ℕ → Label → Type 0
Brings h j l = Gives (brought_entry j) h l

-- an update that is to be shown at j
pub record IsFor (d : Deployed) (h : List Entry) (j : ℕ) (l : Label) : Type 0 where
  pub made : Made h l
  pub update : is_update l.kind ≡ true
  pub target : is_target d l j ≡ true

pub lane-for : (d : Deployed) (i g j : ℕ) (l : Label) (h : List Entry) → Gives (lane_entry d i g j) h l → IsFor d h j l
unfolding Gives
lane-for d i g j l [] k = absurd k
lane-for d i g j l (x ∷ h) (inl k) = let w : IsFor d h j l = lane-for d i g j l h k in record { made = inl w.made; update = w.update; target = w.target }
lane-for d i g j l (x ∷ h) (inr k) =
    let w : (made_entry i g h x ≡ Some l) × ((is_update l.kind && is_target d l j) ≡ true) = kept (λ (m : Label). is_update m.kind && is_target d m j) (made_entry i g h x) l k in
    let y : (made_in x.answer ≡ Some l) × (((l.point.site == i) && (l.point.gear == g)) ≡ true) = kept (λ (m : Label). (m.point.site == i) && (m.point.gear == g)) (made_in x.answer) l w.0 in
    let z : (is_update l.kind ≡ true) × (is_target d l j ≡ true) = and_parts (is_update l.kind) (is_target d l j) w.1 in
    record { made = inr y.0; update = z.0; target = z.1 }

pub in-lane : (d : Deployed) (h : List Entry) (i g j : ℕ) (l : Label) → In (lane d h i g j) l → IsFor d h j l
unfolding lane
in-lane d h i g j l m = lane-for d i g j l h (listed-gives (lane_entry d i g j) h l m)

brought-step : (d : Deployed) (h : List Entry) (j : ℕ) (l : Label) (a : Act) (r : Answer) (n : Bool) → Step d h a r → brought_entry j h (entry a r n) ≡ Some l → IsFor d h j l
brought-step d h j l a r n (brought_now {i = i} {g = g} {j = k} {l = m} p w q) e =
    let y : ((k == j) ≡ true) × (m ≡ l) = picked_if (k == j) m l e in
    let f : IsFor d h k m = in-lane d h i g k m (In-get (lane d h i g k) p m w) in
    subst (λ (x : ℕ). IsFor d h x l) (eqb-true k j y.0) (subst (IsFor d h k) y.1 f)
brought-step d h j l a r n _ e = absurd (cc)

pub for-later : (d : Deployed) (h : List Entry) (x : Entry) (j : ℕ) (l : Label) → IsFor d h j l → IsFor d (x ∷ h) j l
unfolding Gives
for-later d h x j l f = record { made = inl f.made; update = f.update; target = f.target }

pub brings-for : (d : Deployed) (h : List Entry) (j : ℕ) (l : Label) → IsRun d h → Brings h j l → IsFor d h j l
unfolding Gives
brings-for d [] j l run k = absurd k
brings-for d (x ∷ h) j l run (inl k) = for-later d h x j l (brings-for d h j l (before_of d h x run) k)
brings-for d (x ∷ h) j l run (inr k) = for-later d h x j l (brought-step d h j l x.act x.answer x.inner (step_of d h x run) k)

-- what waits was brought and not shown
pub waits : (h : List Entry) (j : ℕ) (l : Label) → In (waiting h j) l → Brings h j l × (Shows h j l → ⊥)
unfolding waiting brought shown
waits h j l m =
    let w : In (listed (brought_entry j) h) l × (not (has label_eq (listed (shown_entry j) h) l) ≡ true) = In-filter (λ l. not (has label_eq (listed (shown_entry j) h) l)) (listed (brought_entry j) h) l m in
    (listed-gives (brought_entry j) h l w.0, λ s. let y : has label_eq (listed (shown_entry j) h) l ≡ true = in-has (listed (shown_entry j) h) l (gives-listed (shown_entry j) h l s) in no_both (has label_eq (listed (shown_entry j) h) l) w.1 y)
  where
    no_both : (b : Bool) → not b ≡ true → b ≡ true → ⊥
    no_both true e f = cc
    no_both false e f = cc

pub next-stamp-waits : (d : Deployed) (h : List Entry) (j : ℕ) (l : Label) → next_stamp d h j ≡ Some l → (candidate d h j ≡ Some l) × (every_site_passed d h j l ≡ true) × (own_site_passed d h j l ≡ true)
unfolding next_stamp
next-stamp-waits d h j l e = go (candidate d h j) e
  where
    pick : (c : Label) (a b : Bool) → every_site_passed d h j c ≡ a → own_site_passed d h j c ≡ b → (if (a && b) then Some c else None) ≡ Some l → (Some c ≡ Some l) × (every_site_passed d h j l ≡ true) × (own_site_passed d h j l ≡ true)
    pick c true true p q k = let w : c ≡ l = some_is c l k in (k, subst (λ (x : Label). every_site_passed d h j x ≡ true) w p, subst (λ (x : Label). own_site_passed d h j x ≡ true) w q)
    pick c true false p q k = absurd (cc)
    pick c false b p q k = absurd (cc)

    go : (o : Option Label) → elim o [ None ↦ None | Some c ↦ if every_site_passed d h j c && own_site_passed d h j c then Some c else None ] ≡ Some l → (o ≡ Some l) × (every_site_passed d h j l ≡ true) × (own_site_passed d h j l ≡ true)
    go None k = absurd (cc)
    go (Some c) k = pick c (every_site_passed d h j c) (own_site_passed d h j c) refl refl k

pub candidate-least : (d : Deployed) (h : List Entry) (j : ℕ) (l : Label) → candidate d h j ≡ Some l → IsLeast (λ m. not (is_past d h j m)) (waiting h j) l
unfolding candidate
candidate-least d h j l e = least-is (λ m. not (is_past d h j m)) (waiting h j) l e

-- how a site comes to show a label: its own client's write, or one that waits
pub data Showing (d : Deployed) (h : List Entry) (j : ℕ) (l : Label) (a : Act) (r : Answer) : Type 0 where
  by_write : (x : ℕ) → made_in r ≡ Some l → r ≡ ans.Wrote l → l.point.site ≡ j → is_update_of l.kind x ≡ true → replicates d x j ≡ true → Showing d h j l a r
  by_turn : a ≡ act.Turn j → r ≡ ans.Shown l → In (waiting h j) l → Showing d h j l a r
  by_stamp : a ≡ act.Stamp j → r ≡ ans.Shown l → next_stamp d h j ≡ Some l → In (waiting h j) l → Showing d h j l a r

pub showing : (d : Deployed) (h : List Entry) (j : ℕ) (l : Label) (a : Act) (r : Answer) (n : Bool) → Step d h a r → shown_entry j h (entry a r n) ≡ Some l → Showing d h j l a r
showing d h j l a r n (wrote {w = w} {i = i} t p q b) e =
    let z : ((i == j) ≡ true) × (write_label d h w i ≡ l) = picked_if (i == j) (write_label d h w i) l e in
    let k : (x : ℕ) × (has ◌==◌ (list_of w.items) x ≡ true) × (replicates d x i ≡ true) = first-kept d (list_of w.items) i q in
    by_write k.0 (ap (λ (m : Label). Some m) z.1) (ap (λ (m : Label). ans.Wrote m) z.1) (ap (λ (m : Label). m.point.site) (sym z.1) ∙ eqb-true i j z.0) (subst (λ (m : Label). is_update_of m.kind k.0 ≡ true) z.1 k.1) (subst (λ (n : ℕ). replicates d k.0 n ≡ true) (eqb-true i j z.0) k.2)
showing d h j l a r n (showed_turn {j = k} {l = m} p q s w u y) e =
    let z : ((k == j) ≡ true) × (m ≡ l) = picked_if (k == j) m l e in
    by_turn (ap (λ (x : ℕ). act.Turn x) (eqb-true k j z.0)) (ap (λ (x : Label). ans.Shown x) z.1) (subst (λ (x : ℕ). In (waiting h x) l) (eqb-true k j z.0) (subst (λ (x : Label). In (waiting h k) x) z.1 (has-in (waiting h k) m y)))
showing d h j l a r n (showed_stamp {j = k} {l = m} p q) e =
    let z : ((k == j) ≡ true) × (m ≡ l) = picked_if (k == j) m l e in
    let s : next_stamp d h j ≡ Some l = subst (λ (x : ℕ). next_stamp d h x ≡ Some l) (eqb-true k j z.0) (q ∙ ap (λ (x : Label). Some x) z.1) in
    by_stamp (ap (λ (x : ℕ). act.Stamp x) (eqb-true k j z.0)) (ap (λ (x : Label). ans.Shown x) z.1) s (candidate-least d h j l (next-stamp-waits d h j l s).0).member
showing d h j l a r n _ e = absurd (cc)

-- what a site shows was made, and is an update that the site keeps
target-kept : (d : Deployed) (l : Label) (j : ℕ) → is_update l.kind ≡ true → is_target d l j ≡ true → IsKeptAt d j l × (l.point.site ≡ j → ⊥)
unfolding is_target
target-kept d l j u t = go l.kind refl u t
  where
    other : (b : Bool) (i : ℕ) → (b && not (j == i)) ≡ true → i ≡ j → ⊥
    other b i e k = let w : (b ≡ true) × (not (j == i) ≡ true) = and_parts b (not (j == i)) e in differs j i w.1 (sym k)
      where
        differs : (m n : ℕ) → not (m == n) ≡ true → m ≡ n → ⊥
        differs m n e k = grind (arith, nat_tests)

    go : (k : Kind) → l.kind ≡ k → is_update k ≡ true → elim k [ kind.Update items ↦ keeps_some d (list_of items) j && not (j == l.point.site) | kind.Move y ↦ j == y | kind.Pulse ↦ not (j == l.point.site) | kind.Close e ↦ not (j == l.point.site) ] ≡ true → IsKeptAt d j l × (l.point.site ≡ j → ⊥)
    go (kind.Update items) k u t =
        let w : (x : ℕ) × (has ◌==◌ (list_of items) x ≡ true) × (replicates d x j ≡ true) = some-kept d (list_of items) j (and_parts (keeps_some d (list_of items) j) (not (j == l.point.site)) t).0 in
        ((w.0, subst (λ (y : Kind). is_update_of y w.0 ≡ true) (sym k) w.1, w.2), other (keeps_some d (list_of items) j) l.point.site t)
    go (kind.Move x) k u t = absurd (cc)
    go kind.Pulse k u t = absurd (cc)
    go (kind.Close f) k u t = absurd (cc)

pub for-kept : (d : Deployed) (h : List Entry) (j : ℕ) (l : Label) → IsFor d h j l → IsKeptAt d j l × (l.point.site ≡ j → ⊥)
for-kept d h j l f = target-kept d l j f.update f.target

pub record IsShown (d : Deployed) (h : List Entry) (j : ℕ) (l : Label) : Type 0 where
  pub made : Made h l
  pub kept : IsKeptAt d j l

pub shown-now : (d : Deployed) (h : List Entry) (x : Entry) (j : ℕ) (l : Label) → IsRun d h → Showing d h j l x.act x.answer → IsShown d (x ∷ h) j l
unfolding Gives
shown-now d h x j l run (by_write y m r s k p) = record { made = inr m; kept = (y, k, p) }
shown-now d h x j l run (by_turn a r w) = let f : IsFor d h j l = brings-for d h j l run (waits h j l w).0 in record { made = inl f.made; kept = (for-kept d h j l f).0 }
shown-now d h x j l run (by_stamp a r s w) = let f : IsFor d h j l = brings-for d h j l run (waits h j l w).0 in record { made = inl f.made; kept = (for-kept d h j l f).0 }

pub shows-is : (d : Deployed) (h : List Entry) (j : ℕ) (l : Label) → IsRun d h → Shows h j l → IsShown d h j l
unfolding Gives
shows-is d [] j l run k = absurd k
shows-is d (x ∷ h) j l run (inl k) = let w : IsShown d h j l = shows-is d h j l (before_of d h x run) k in record { made = inl w.made; kept = w.kept }
shows-is d (x ∷ h) j l run (inr k) = shown-now d h x j l (before_of d h x run) (showing d h j l x.act x.answer x.inner (step_of d h x run) k)

not-again : (d : Deployed) (h : List Entry) (x : Entry) (j : ℕ) (l : Label) → IsValid d → IsRun d (x ∷ h) → Showing d h j l x.act x.answer → Shows h j l → ⊥
not-again d h x j l v run (by_write y m r s k p) old = made-new d h x l v run m (shows-is d h j l (before_of d h x run) old).made
not-again d h x j l v run (by_turn a r w) old = (waits h j l w).1 old
not-again d h x j l v run (by_stamp a r s w) old = (waits h j l w).1 old

-- no site shows an update twice
pub once : (d : Deployed) (h : List Entry) → IsValid d → IsRun d h → Once d h
unfolding Once
once d [] v run = tt
once d (x ∷ h) v run = (
  once d h v (before_of d h x run),
  λ k b e. let s : Showing d h k b x.act x.answer = showing d h k b x.act x.answer x.inner (step_of d h x run) e in
      let w : IsShown d (x ∷ h) k b = shown-now d h x k b (before_of d h x run) s in
      (not-again d h x k b v run s, (w.kept.0, write-of d (x ∷ h) b w.kept.0 v run w.made w.kept.1, w.kept.2)),
)

not_move : (l : Label) (j : ℕ) → l.kind ≡ kind.Move j → is_update l.kind ≡ true → ⊥
not_move l j k u = let w : is_update (kind.Move j) ≡ true = subst (λ (x : Kind). is_update x ≡ true) k u in cc

written : (d : Deployed) (h : List Entry) (a : Act) (r : Answer) (n : Bool) (l : Label) → Step d h a r → made_in r ≡ Some l → is_update l.kind ≡ true → shown_entry l.point.site h (entry a r n) ≡ Some l
written d h a r n l (wrote {w = w} {i = i} t p q b) m u =
    let z : write_label d h w i ≡ l = some_is _ l m in
    some_if (i == l.point.site) (write_label d h w i) (eq-eqb i l.point.site (ap (λ (y : Label). y.point.site) z)) ∙ m
written d h a r n l (moved {c = c} {j = j} {i = i} p q w) m u = absurd (not_move l j (sym (ap (λ (y : Label). y.kind) (some_is _ l m))) u)
written d h a r n l _ m u = absurd (cc)

-- an own update was shown when it was written
pub own-shown : (d : Deployed) (h : List Entry) (l : Label) → IsRun d h → Made h l → is_update l.kind ≡ true → Shows h l.point.site l
unfolding Gives
own-shown d [] l run m u = absurd m
own-shown d (x ∷ h) l run (inl m) u = inl (own-shown d h l (before_of d h x run) m u)
own-shown d (x ∷ h) l run (inr m) u = inr (written d h x.act x.answer x.inner l (step_of d h x run) m u)
