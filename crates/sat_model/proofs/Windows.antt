-- What a site took of each lane: its numbers are the history's, and so are the fronts and what waits.
use Rattle.std.specs.Prelude.{◌≡◌, ◌⊎◌, ℕ, zero, suc, ◌+◌, ◌≤◌, Bool, true, false, ◌&&◌, ◌||◌, List, [], ◌∷◌, ◌++◌, length, Option, Some, None, slice_get, ◌==◌, if◌then◌else◌, cond, refl}
use Rattle.std.specs.List.{prefix_len}
use Rattle.std.proofs.Common.{sym, subst, ap, ◌∙◌, arith, inl, inr}
use Rattle.std.proofs.lemmas.Bool.Decides.{nat_tests}
use Rattle.std.proofs.lemmas.Bool.{eqb-true, false_from_ne_true}
use Rattle.sat_label.proofs.Truth.{same-number, same-test}
use Rattle.sat_label.specs.declared.label.Label.{Label}
use Rattle.sat_label.specs.Order.{label_eq}
use Rattle.sat_label.specs.Words.{has}
use Rattle.sat_act.specs.declared.act.Act.{Act}
use Rattle.sat_act.specs.declared.act.Act.TheVariants as act
use Rattle.sat_act.specs.declared.answer.Answer.{Answer}
use Rattle.sat_act.specs.declared.answer.Answer.TheVariants as ans
use Rattle.sat_act.specs.declared.answer.Refusal.TheVariants as why
use Rattle.sat_act.specs.declared.entry.Entry.{Entry}
use Rattle.sat_act.specs.Deployed.{Deployed}
use Rattle.sat_act.specs.Done.{made_in}
use Rattle.sat_act.specs.Histories.{listed}
use Rattle.sat_act.specs.Parts.{lane, lane_entry, made_entry, is_target, is_update, brought, brought_entry, lane_front}
use Rattle.sat_act.specs.Answers.{answer, bulk_to, bring}
use Rattle.sat_act.specs.Runs.{IsRun, IsAnswer}
use Rattle.sat_act.specs.Goals.{Gives, Made, IsValid}
use Rattle.sat_laws.proofs.Steps.{Step, brought_now}
use Rattle.sat_laws.proofs.Runs.{step_of, before_of, entry}
use Rattle.sat_laws.proofs.Labels.{some_is, made-new}
use Rattle.sat_laws.proofs.Members.{listed-gives}
use Rattle.sat_laws.proofs.Sinks.{kept as kept_label}
use Rattle.sat_laws.proofs.Shows.{in-lane, brings-for}
use Rattle.sat_laws.proofs.Links.{get-cases, tail_of}
use Rattle.sat_bulk.specs.Payloads.{Payload}
use Rattle.sat_model.specs.State.{SiteState}
use Rattle.sat_model.specs.Input.{SiteInput}
use Rattle.sat_model.specs.Input as given
use Rattle.sat_model.specs.Look.{top, gap_from, front_in}
use Rattle.sat_model.specs.Next.{site_next}
use Rattle.sat_model.specs.Replay.{after, handed, site_state, given_number, given_at}
use Rattle.sat_model.proofs.Kept.{kept}
use Rattle.sat_model.proofs.Lists.{plain, has-join}
use Rattle.sat_label.specs.Members.{In}
use Rattle.sat_label.proofs.Members.{In-get, has-in}
use Rattle.sat_label.proofs.Orders.{same-label, label_eq-self}
use Rattle.sat_model.specs.Parts.{valued}

-- ---- which payload a Bulk brings

brought-is : (b : Bool) (m l : Label) → (if b then ans.Again else ans.Brought m) ≡ ans.Brought l → (Some m ≡ Some l) × (b ≡ false)
brought-is true m l e = absurd (cc)
brought-is false m l e = (cc, refl)

bring-out : (d : Deployed) (h : List Entry) (i g j n : ℕ) (l : Label) → bring d h i g j n ≡ ans.Brought l → slice_get (lane d h i g j) n ≡ Some l
unfolding bring
bring-out d h i g j n l e = go (slice_get (lane d h i g j) n) e
  where
    go : (o : Option Label) → elim o [ None ↦ ans.Refused why.NoSuch | Some m ↦ if has label_eq (brought h j) m then ans.Again else ans.Brought m ] ≡ ans.Brought l → o ≡ Some l
    go None e = absurd (cc)
    go (Some m) e = (brought-is (has label_eq (brought h j) m) m l e).0

bulk-out : (d : Deployed) (h : List Entry) (i g j : ℕ) (o : Option ℕ) (l : Label) → ans.Brought l ≡ answer d h (act.Bulk i g j o) → slice_get (lane d h i g j) (given_number d h i g j o) ≡ Some l
unfolding answer bulk_to
bulk-out d h i g j None l e = bring-out d h i g j (lane_front d h i g j) l (sym e)
bulk-out d h i g j (Some n) l e = bring-out d h i g j n l (sym e)

bulk-answer : (d : Deployed) (h : List Entry) (i g j : ℕ) (o : Option ℕ) (l : Label) → IsAnswer d h (act.Bulk i g j o) (ans.Brought l) → slice_get (lane d h i g j) (given_number d h i g j o) ≡ Some l
bulk-answer d h i g j o l (inl e) = bulk-out d h i g j o l e.1
bulk-answer d h i g j o l (inr e) = absurd (let w : act.Bulk i g j o ≡ act.Settle = e.1 in cc)

-- ---- an entry brings a payload to j, or none

pub data Bringing (d : Deployed) (h : List Entry) (x : Entry) (j : ℕ) : Type 0 where
  brings : (i g n : ℕ) (l : Label) → handed d h x.act j ≡ Some (given.Bulk i g n (valued h l)) → x.answer ≡ ans.Brought l → slice_get (lane d h i g j) n ≡ Some l → has label_eq (brought h j) l ≡ false → brought (x ∷ h) j ≡ brought h j ++ l ∷ [] → Bringing d h x j
  brings_none : ((l : Label) → x.answer ≡ ans.Brought l → handed d h x.act j ≡ None) → brought (x ∷ h) j ≡ brought h j → Bringing d h x j

abbrev bulk_given : List Entry → ℕ → ℕ → ℕ → ℕ → ℕ → Option Label → Option SiteInput
bulk_given h i g j n k o = elim o [ None ↦ None | Some l ↦ given_at j k (given.Bulk i g n (valued h l)) ]

brings-here : (d : Deployed) (h : List Entry) (i g j : ℕ) (o : Option ℕ) (l : Label) (n : Bool) → slice_get (lane d h i g j) (given_number d h i g j o) ≡ Some l → has label_eq (brought h j) l ≡ false → Bringing d h (entry (act.Bulk i g j o) (ans.Brought l) n) j
unfolding handed brought
brings-here d h i g j o l n e f =
    brings i g (given_number d h i g j o) l
    (ap (bulk_given h i g j (given_number d h i g j o) j) e ∙ ap (λ (b : Bool). if b then Some (given.Bulk i g (given_number d h i g j o) (valued h l)) else None) (same-number j))
    refl e f (ap (λ (b : Bool). listed (brought_entry j) h ++ tail_of (if b then Some l else None)) (same-number j))

brings-there : (d : Deployed) (h : List Entry) (i g k j : ℕ) (o : Option ℕ) (l : Label) (n : Bool) → slice_get (lane d h i g k) (given_number d h i g k o) ≡ Some l → (k == j) ≡ false → Bringing d h (entry (act.Bulk i g k o) (ans.Brought l) n) j
unfolding handed brought
brings-there d h i g k j o l n e f =
    brings_none (λ m w. ap (bulk_given h i g k (given_number d h i g k o) j) e ∙ ap (λ (b : Bool). if b then Some (given.Bulk i g (given_number d h i g k o) (valued h l)) else None) f)
    (ap (λ (b : Bool). listed (brought_entry j) h ++ tail_of (if b then Some l else None)) f ∙ plain (listed (brought_entry j) h))

bringing-step : (d : Deployed) (h : List Entry) (a : Act) (r : Answer) (n : Bool) (j : ℕ) → IsAnswer d h a r → Step d h a r → Bringing d h (entry a r n) j
unfolding brought
bringing-step d h a r n j k (brought_now {i = i} {g = g} {j = t} {o = o} {l = l} m p q) = go (t == j) refl
  where
    go : (b : Bool) → (t == j) ≡ b → Bringing d h (entry (act.Bulk i g t o) (ans.Brought l) n) j
    go true e = subst (λ (u : ℕ). Bringing d h (entry (act.Bulk i g t o) (ans.Brought l) n) u) (eqb-true t j e) (brings-here d h i g t o l n (bulk-answer d h i g t o l k) q)
    go false e = brings-there d h i g t j o l n (bulk-answer d h i g t o l k) e
bringing-step d h a r n j k _ = brings_none (λ l e. absurd (cc)) (plain (listed (brought_entry j) h))

pub bringing : (d : Deployed) (h : List Entry) (x : Entry) (j : ℕ) → IsRun d (x ∷ h) → Bringing d h x j
unfolding IsRun
bringing d h x j run = bringing-step d h x.act x.answer x.inner j run.2 (step_of d h x run)

-- ---- places in a lane

lane-grows : (d : Deployed) (h : List Entry) (x : Entry) (i g j : ℕ) → lane d (x ∷ h) i g j ≡ lane d h i g j ++ tail_of (lane_entry d i g j h x)
unfolding lane
lane-grows d h x i g j = refl

lane-cases : (d : Deployed) (h : List Entry) (x : Entry) (i g j n : ℕ) (l : Label) → slice_get (lane d (x ∷ h) i g j) n ≡ Some l → (slice_get (lane d h i g j) n ≡ Some l) ⊎ ((n ≡ length (lane d h i g j)) × (lane_entry d i g j h x ≡ Some l))
lane-cases d h x i g j n l e = get-cases (lane d h i g j) (lane_entry d i g j h x) n l (subst (λ (ls : List Label). slice_get ls n ≡ Some l) (lane-grows d h x i g j) e)

get-end : {X : Type 0} (xs : List X) → slice_get xs (length xs) ≡ None
get-end [] = refl
get-end (x ∷ xs) = get-end xs

get-none : {X : Type 0} (xs ys : List X) (n : ℕ) → slice_get (xs ++ ys) n ≡ None → slice_get xs n ≡ None
get-none [] ys n e = refl
get-none (x ∷ xs) ys zero e = e
get-none (x ∷ xs) ys (suc n) e = get-none xs ys n e

lane-made : (d : Deployed) (h : List Entry) (x : Entry) (i g j : ℕ) (l : Label) → lane_entry d i g j h x ≡ Some l → (made_in x.answer ≡ Some l) × (((l.point.site == i) && (l.point.gear == g)) ≡ true)
lane-made d h x i g j l e = kept_label (λ (m : Label). (m.point.site == i) && (m.point.gear == g)) (made_in x.answer) l (kept_label (λ (m : Label). is_update m.kind && is_target d m j) (made_entry i g h x) l e).0

-- a lane has a label at one place
pub lane-once : (d : Deployed) (h : List Entry) (i g j m n : ℕ) (l : Label) → IsValid d → IsRun d h → slice_get (lane d h i g j) m ≡ Some l → slice_get (lane d h i g j) n ≡ Some l → m ≡ n
lane-once d [] i g j m n l v run a b = absurd (let w : slice_get (lane d [] i g j) m ≡ None = unfold lane in refl in cc)
lane-once d (x ∷ h) i g j m n l v run a b = go (lane-cases d h x i g j m l a) (lane-cases d h x i g j n l b) (λ p q. lane-once d h i g j m n l v (before_of d h x run) p q)
  where
    go : (slice_get (lane d h i g j) m ≡ Some l) ⊎ ((m ≡ length (lane d h i g j)) × (lane_entry d i g j h x ≡ Some l)) → (slice_get (lane d h i g j) n ≡ Some l) ⊎ ((n ≡ length (lane d h i g j)) × (lane_entry d i g j h x ≡ Some l)) →
        (slice_get (lane d h i g j) m ≡ Some l → slice_get (lane d h i g j) n ≡ Some l → m ≡ n) → m ≡ n
    go (inl p) (inl q) old = old p q
    go (inl p) (inr q) old = absurd (made-new d h x l v run (lane-made d h x i g j l q.1).0 (in-lane d h i g j l (In-get (lane d h i g j) m l p)).made)
    go (inr p) (inl q) old = absurd (made-new d h x l v run (lane-made d h x i g j l p.1).0 (in-lane d h i g j l (In-get (lane d h i g j) n l q)).made)
    go (inr p) (inr q) old = p.0 ∙ sym q.0

-- a label of a lane is of that gear
both_num : (a b x y : ℕ) → ((a == x) && (b == y)) ≡ true → (a ≡ x) × (b ≡ y)
both_num a b x y e = grind (arith, nat_tests)

lane-gives-of : (d : Deployed) (i g j : ℕ) (l : Label) (h : List Entry) → Gives (lane_entry d i g j) h l → (l.point.site ≡ i) × (l.point.gear ≡ g)
unfolding Gives
lane-gives-of d i g j l [] k = absurd k
lane-gives-of d i g j l (x ∷ h) (inl k) = lane-gives-of d i g j l h k
lane-gives-of d i g j l (x ∷ h) (inr k) = both_num l.point.site l.point.gear i g (lane-made d h x i g j l k).1

pub lane-of : (d : Deployed) (h : List Entry) (i g j : ℕ) (l : Label) → In (lane d h i g j) l → (l.point.site ≡ i) × (l.point.gear ≡ g)
unfolding lane
lane-of d h i g j l m = lane-gives-of d i g j l h (listed-gives (lane_entry d i g j) h l m)

-- ---- windows

pub record Window (d : Deployed) (h : List Entry) (i g j : ℕ) (ns : List ℕ) : Type 0 where
  pub known : (n : ℕ) (l : Label) → slice_get (lane d h i g j) n ≡ Some l → has ◌==◌ ns n ≡ has label_eq (brought h j) l
  pub beyond : (n : ℕ) → slice_get (lane d h i g j) n ≡ None → has ◌==◌ ns n ≡ false

-- the lane as it was before the entry, the numbers and the labels as they are after it
record Half (d : Deployed) (h : List Entry) (i g j : ℕ) (ns : List ℕ) (ls : List Label) : Type 0 where
  known : (n : ℕ) (l : Label) → slice_get (lane d h i g j) n ≡ Some l → has ◌==◌ ns n ≡ has label_eq ls l
  beyond : (n : ℕ) → slice_get (lane d h i g j) n ≡ None → has ◌==◌ ns n ≡ false

same-place : (d : Deployed) (h : List Entry) (i g a b j m n : ℕ) (k l : Label) → IsValid d → IsRun d h → slice_get (lane d h a b j) m ≡ Some k → slice_get (lane d h i g j) n ≡ Some l →
    (((a == i) && (b == g)) && (m == n)) ≡ label_eq k l
same-place d h i g a b j m n k l v run p q = same-test _ _ there back
  where
    three : (((a == i) && (b == g)) && (m == n)) ≡ true → (a ≡ i) × (b ≡ g) × (m ≡ n)
    three e = grind (arith, nat_tests)

    join : a ≡ i → b ≡ g → m ≡ n → (((a == i) && (b == g)) && (m == n)) ≡ true
    join x y z = grind (arith, nat_tests)

    there : (((a == i) && (b == g)) && (m == n)) ≡ true → label_eq k l ≡ true
    there e =
        let w : (a ≡ i) × (b ≡ g) × (m ≡ n) = three e in
        let y : slice_get (lane d h i g j) n ≡ Some k = subst (λ (n : ℕ). slice_get (lane d h i g j) n ≡ Some k) w.2 (subst (λ (g : ℕ). slice_get (lane d h i g j) m ≡ Some k) w.1 (subst (λ (i : ℕ). slice_get (lane d h i b j) m ≡ Some k) w.0 p)) in
        subst (λ (z : Label). label_eq k z ≡ true) (some_is k l (sym y ∙ q)) (label_eq-self k)

    back : label_eq k l ≡ true → (((a == i) && (b == g)) && (m == n)) ≡ true
    back e =
        let w : k ≡ l = same-label k l e in
        let x : (k.point.site ≡ a) × (k.point.gear ≡ b) = lane-of d h a b j k (In-get (lane d h a b j) m k p) in
        let y : (l.point.site ≡ i) × (l.point.gear ≡ g) = lane-of d h i g j l (In-get (lane d h i g j) n l q) in
        let s : a ≡ i = sym x.0 ∙ (ap (λ (z : Label). z.point.site) w ∙ y.0) in
        let t : b ≡ g = sym x.1 ∙ (ap (λ (z : Label). z.point.gear) w ∙ y.1) in
        let z : slice_get (lane d h i g j) m ≡ Some l = subst (λ (g : ℕ). slice_get (lane d h i g j) m ≡ Some l) t (subst (λ (i : ℕ). slice_get (lane d h i b j) m ≡ Some l) s (p ∙ ap (λ (y : Label). Some y) w)) in
        join s t (lane-once d h i g j m n l v run z q)

taken-has : (b : Bool) (ns : List ℕ) (m n : ℕ) → has ◌==◌ (if b then ns ++ m ∷ [] else ns) n ≡ (has ◌==◌ ns n || (b && (m == n)))
taken-has true ns m n = has-join ◌==◌ ns (m ∷ []) n ∙ or_end (has ◌==◌ ns n) (m == n)
  where
    or_end : (a b : Bool) → (a || (b || false)) ≡ (a || b)
    or_end true b = refl
    or_end false true = refl
    or_end false false = refl
taken-has false ns m n = or_no (has ◌==◌ ns n)
  where
    or_no : (a : Bool) → a ≡ (a || false)
    or_no true = refl
    or_no false = refl

label-has : (ls : List Label) (m n : Label) → has label_eq (ls ++ m ∷ []) n ≡ (has label_eq ls n || label_eq m n)
label-has ls m n = has-join label_eq ls (m ∷ []) n ∙ or_end (has label_eq ls n) (label_eq m n)
  where
    or_end : (a b : Bool) → (a || (b || false)) ≡ (a || b)
    or_end true b = refl
    or_end false true = refl
    or_end false false = refl

half-brings : (d : Deployed) (h : List Entry) (i g a b j m : ℕ) (k : Label) (ns : List ℕ) → IsValid d → IsRun d h → slice_get (lane d h a b j) m ≡ Some k → Window d h i g j ns →
    Half d h i g j (if (a == i) && (b == g) then ns ++ m ∷ [] else ns) (brought h j ++ k ∷ [])
half-brings d h i g a b j m k ns v run p w = record {
  known = λ n l q. taken-has ((a == i) && (b == g)) ns m n ∙ (ap (λ (x : Bool). x || (((a == i) && (b == g)) && (m == n))) (w.known n l q) ∙
      (ap (λ (x : Bool). has label_eq (brought h j) l || x) (same-place d h i g a b j m n k l v run p q) ∙ sym (label-has (brought h j) k l)));
  beyond = λ n q. taken-has ((a == i) && (b == g)) ns m n ∙ (ap (λ (x : Bool). x || (((a == i) && (b == g)) && (m == n))) (w.beyond n q) ∙ false_from_ne_true (((a == i) && (b == g)) && (m == n)) (other n q));
}
  where
    three : (n : ℕ) → (((a == i) && (b == g)) && (m == n)) ≡ true → (a ≡ i) × (b ≡ g) × (m ≡ n)
    three n e = grind (arith, nat_tests)

    other : (n : ℕ) → slice_get (lane d h i g j) n ≡ None → (((a == i) && (b == g)) && (m == n)) ≡ true → ⊥
    other n q e =
        let w : (a ≡ i) × (b ≡ g) × (m ≡ n) = three n e in
        let y : slice_get (lane d h i g j) n ≡ Some k = subst (λ (n : ℕ). slice_get (lane d h i g j) n ≡ Some k) w.2 (subst (λ (g : ℕ). slice_get (lane d h i g j) m ≡ Some k) w.1 (subst (λ (i : ℕ). slice_get (lane d h i b j) m ≡ Some k) w.0 p)) in
        cc

-- what was brought was made
pub brought-made : (d : Deployed) (h : List Entry) (j : ℕ) (l : Label) → IsRun d h → In (brought h j) l → Made h l
unfolding brought
brought-made d h j l run m = (brings-for d h j l run (listed-gives (brought_entry j) h l m)).made

made-or-brought : (h : List Entry) (a : Act) (r : Answer) (n : Bool) (j : ℕ) (l : Label) → brought_entry j h (entry a r n) ≡ Some l → made_in r ≡ Some l → ⊥
made-or-brought h a (ans.Brought m) n j l p q = cc
made-or-brought h a _ n j l p q = cc

pub new-unbrought : (d : Deployed) (h : List Entry) (x : Entry) (j : ℕ) (l : Label) → IsValid d → IsRun d (x ∷ h) → made_in x.answer ≡ Some l → has label_eq (brought (x ∷ h) j) l ≡ false
unfolding brought Gives
new-unbrought d h x j l v run m = false_from_ne_true (has label_eq (brought (x ∷ h) j) l) (λ e.
    elim (listed-gives (brought_entry j) (x ∷ h) l (has-in (brought (x ∷ h) j) l e)) [
      | inl k ↦ made-new d h x l v run m (brings-for d h j l (before_of d h x run) k).made
      | inr k ↦ made-or-brought h x.act x.answer x.inner j l k m
    ])

window-grows : (d : Deployed) (h : List Entry) (x : Entry) (i g j : ℕ) (ns : List ℕ) → IsValid d → IsRun d (x ∷ h) → Half d h i g j ns (brought (x ∷ h) j) → Window d (x ∷ h) i g j ns
window-grows d h x i g j ns v run w = record {
  known = λ n l q. elim (lane-cases d h x i g j n l q) [
    | inl k ↦ w.known n l k
    | inr k ↦ w.beyond n (subst (λ (m : ℕ). slice_get (lane d h i g j) m ≡ None) (sym k.0) (get-end (lane d h i g j))) ∙ sym (new-unbrought d h x j l v run (lane-made d h x i g j l k.1).0)
  ];
  beyond = λ n q. w.beyond n (get-none (lane d h i g j) (tail_of (lane_entry d i g j h x)) n (subst (λ (ls : List Label). slice_get ls n ≡ None) (lane-grows d h x i g j) q));
}

taken-kept : (d : Deployed) (h : List Entry) (x : Entry) (j i g : ℕ) (s : SiteState) → ((l : Label) → x.answer ≡ ans.Brought l → handed d h x.act j ≡ None) → (after d j s (handed d h x.act j) x.answer).proxy.taken i g ≡ s.proxy.taken i g
taken-kept d h x j i g s k = go x.answer k
  where
    no_input : (o : Option SiteInput) (r : Answer) → o ≡ None → (after d j s o r).proxy.taken i g ≡ s.proxy.taken i g
    no_input o r e = ap (λ (o : Option SiteInput). (after d j s o r).proxy.taken i g) e ∙ unfold after in refl

    go : (r : Answer) → ((l : Label) → r ≡ ans.Brought l → handed d h x.act j ≡ None) → (after d j s (handed d h x.act j) r).proxy.taken i g ≡ s.proxy.taken i g
    go (ans.Brought l) k = no_input (handed d h x.act j) (ans.Brought l) (k l refl)
    go r k = kept (λ s. s.proxy.taken i g) d j s (handed d h x.act j) r (λ input. unfold site_next in refl)

taken-now : (d : Deployed) (j i g a b m : ℕ) (s : SiteState) (p : Payload) (l : Label) → (after d j s (Some (given.Bulk a b m p)) (ans.Brought l)).proxy.taken i g ≡ (if (a == i) && (b == g) then s.proxy.taken i g ++ m ∷ [] else s.proxy.taken i g)
unfolding after site_next
taken-now d j i g a b m s p l = refl

pub window-agrees : (d : Deployed) (h : List Entry) (i g j : ℕ) → IsValid d → IsRun d h → Window d h i g j ((site_state d h j).proxy.taken i g)
unfolding site_state
window-agrees d [] i g j v run = record { known = λ n l q. absurd (let w : slice_get (lane d [] i g j) n ≡ None = unfold lane in refl in cc); beyond = λ n q. refl }
window-agrees d (x ∷ h) i g j v run =
    let s : SiteState = site_state d h j in
    let old : Window d h i g j (s.proxy.taken i g) = window-agrees d h i g j v (before_of d h x run) in
    window-grows d h x i g j ((after d j s (handed d h x.act j) x.answer).proxy.taken i g) v run
    (elim (bringing d h x j run) [
      | brings a b m l e f p q t ↦
          subst (Half d h i g j ((after d j s (handed d h x.act j) x.answer).proxy.taken i g)) (sym t)
          (subst (λ (ns : List ℕ). Half d h i g j ns (brought h j ++ l ∷ []))
          (sym (ap (λ (o : Option SiteInput). (after d j s o x.answer).proxy.taken i g) e ∙ (ap (λ (r : Answer). (after d j s (Some (given.Bulk a b m (valued h l))) r).proxy.taken i g) f ∙ taken-now d j i g a b m s (valued h l) l)))
          (half-brings d h i g a b j m l (s.proxy.taken i g) v (before_of d h x run) p old))
      | brings_none k t ↦
          subst (Half d h i g j ((after d j s (handed d h x.act j) x.answer).proxy.taken i g)) (sym t)
          (subst (λ (ns : List ℕ). Half d h i g j ns (brought h j)) (sym (taken-kept d h x j i g s k)) (record { known = old.known; beyond = old.beyond }))
    ])

-- ---- fronts

cond-front : (b c : Bool) (m n k : ℕ) → b ≡ c → (b ≡ true → m ≡ k + 1 + n) → (if b then m else k) ≡ k + cond c (1 + n) 0
cond-front true true m n k e f = let w : m ≡ k + 1 + n = f refl in omega arith
cond-front false false m n k e f = omega arith
cond-front _ _ m n k e f = absurd (cc)

above-top : (ns : List ℕ) (k : ℕ) → top ns ≤ k → has ◌==◌ ns k ≡ false
unfolding top
above-top [] k b = refl
above-top (n ∷ ns) k b = or_false (n == k) (has ◌==◌ ns k) (other n k (omega arith)) (above-top ns k (omega arith))
  where
    other : (n k : ℕ) → n + 1 ≤ k → (n == k) ≡ false
    other n k b = grind (arith, nat_tests)

    or_false : (a b : Bool) → a ≡ false → b ≡ false → (a || b) ≡ false
    or_false false b e f = f
    or_false true b e f = absurd (cc)

gap-is : (ns : List ℕ) (p : Label → Bool) (ls : List Label) (k m : ℕ) → ((n : ℕ) (l : Label) → slice_get ls n ≡ Some l → has ◌==◌ ns (k + n) ≡ p l) → ((n : ℕ) → slice_get ls n ≡ None → has ◌==◌ ns (k + n) ≡ false) → top ns ≤ k + m →
    gap_from m ns k ≡ k + prefix_len p ls
unfolding gap_from
gap-is ns p [] k zero f e b = omega arith
gap-is ns p [] k (suc m) f e b = cond-front (has ◌==◌ ns k) false (gap_from m ns (k + 1)) 0 k (start k (e 0 refl)) (λ w. absurd (let z : has ◌==◌ ns k ≡ false = start k (e 0 refl) in cc))
  where
    start : (k : ℕ) → has ◌==◌ ns (k + 0) ≡ false → has ◌==◌ ns k ≡ false
    start k e = subst (λ (j : ℕ). has ◌==◌ ns j ≡ false) (omega arith) e
gap-is ns p (l ∷ ls) k zero f e b =
    let w : p l ≡ false = sym (f 0 l refl) ∙ above-top ns (k + 0) b in
    stops (p l) (prefix_len p ls) w
  where
    stops : (c : Bool) (n : ℕ) → c ≡ false → k ≡ k + cond c (1 + n) 0
    stops true n w = absurd (cc)
    stops false n w = omega arith
gap-is ns p (l ∷ ls) k (suc m) f e b =
    cond-front (has ◌==◌ ns k) (p l) (gap_from m ns (k + 1)) (prefix_len p ls) k (subst (λ (j : ℕ). has ◌==◌ ns j ≡ p l) (omega arith) (f 0 l refl))
    (λ w. gap-is ns p ls (k + 1) m (λ n y q. subst (λ (j : ℕ). has ◌==◌ ns j ≡ p y) (omega arith) (f (suc n) y q)) (λ n q. subst (λ (j : ℕ). has ◌==◌ ns j ≡ false) (omega arith) (e (suc n) q)) (omega arith))

pub front-agrees : (d : Deployed) (h : List Entry) (i g j : ℕ) → IsValid d → IsRun d h → front_in ((site_state d h j).proxy.taken i g) ≡ lane_front d h i g j
unfolding lane_front
front-agrees d h i g j v run =
    let ns : List ℕ = (site_state d h j).proxy.taken i g in
    let w : Window d h i g j ns = window-agrees d h i g j v run in
    let k : gap_from (top ns) ns 0 ≡ 0 + prefix_len (λ l. has label_eq (brought h j) l) (lane d h i g j) =
    gap-is ns (λ l. has label_eq (brought h j) l) (lane d h i g j) 0 (top ns) (λ n l q. subst (λ (m : ℕ). has ◌==◌ ns m ≡ has label_eq (brought h j) l) (omega arith) (w.known n l q)) (λ n q. subst (λ (m : ℕ). has ◌==◌ ns m ≡ false) (omega arith) (w.beyond n q)) (omega arith) in
    omega arith
