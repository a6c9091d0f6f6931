-- What is found is the verdict.
use Rattle.std.specs.Prelude.{◌≡◌, ◌⊎◌, ◌<◌, ◌≤◌, ℕ, suc, Bool, true, false, not, ◌&&◌, ◌||◌, List, [], ◌∷◌, length, Option, Some, None, refl, nat_lt, nat_le, if◌then◌else◌}
use Rattle.std.proofs.Common.{sym, subst, arith, inl, inr, ap, ◌∙◌}
use Rattle.std.proofs.lemmas.Bool.Decides.{nat_tests}
use Rattle.sat_label.specs.declared.point.Point.{Point}
use Rattle.sat_label.specs.declared.items.Items.{Items}
use Rattle.sat_label.specs.declared.site_set.SiteSet.{SiteSet}
use Rattle.sat_verdict.specs.declared.tale.Tale.{Tale}
use Rattle.sat_verdict.specs.declared.tale.Tale.TheVariants.{Wrote, Moved, ReadNone, ReadSome, Shown, Other}
use Rattle.sat_label.specs.Order.{point_lt}
use Rattle.sat_verdict.specs.Entries.{added_in, client_of}
use Rattle.sat_verdict.specs.Causes.{Client, Maker, Knows}
use Rattle.sat_verdict.specs.Counts.{known, AddedWithin, Within}
use Rattle.sat_verdict.specs.Goals.{ShowsNow, Shows, HasItem, IsKept, Lacks, ShowsCausesFirst, CausalTo, ShowsNew, OnceTo, IsPassed, Misses, FreshTo, Stands, MadeAt}
use Rattle.sat_verdict.specs.Verdicts.{IsFirstLack, IsFirstAgain, IsFirstMiss, IsCausalVerdict, IsOnceVerdict, IsFreshVerdict}
use Rattle.sat_verdict.specs.Found.{is_kept, has_shown, has_item, made_number, lower, within_now, least_within, is_lacking, lack_at, lack_by, lack_now, first, first_lack, again_now, first_again, is_missed, miss_by, miss_now, first_miss}
use Rattle.sat_verdict.proofs.Counted.{some_is, known-within, within-known}
use Rattle.sat_verdict.proofs.Deciding.{and_of, and_yes, or_l, or_r, or_of, not_yes, yes_not, kept-yes, yes-kept, item-yes, yes-item, shown-yes, yes-shown, yes-made, HasMaker, made-yes, item-made}

-- ---- the least number with a property

-- no number has the property, or this one is the least that has it
abbrev pub IsLeastOf : (ℕ → Type 0) → Option ℕ → Type 0
IsLeastOf P None = (n : ℕ) → P n → ⊥
IsLeastOf P (Some m) = P m × ((n : ℕ) → P n → m ≤ n)

pub least-of : (P Q : ℕ → Type 0) (o : Option ℕ) → ((n : ℕ) → Q n → P n) → ((n : ℕ) → P n → (m : ℕ) × Q m × (m ≤ n)) → IsLeastOf Q o → IsLeastOf P o
least-of P Q None up down l = λ n p. let r : (m : ℕ) × Q m × (m ≤ n) = down n p in l r.0 r.1
least-of P Q (Some k) up down l =
    (up k l.0, λ n p. let r : (m : ℕ) × Q m × (m ≤ n) = down n p in let s : k ≤ r.0 = l.1 r.0 r.1 in let t : r.0 ≤ n = r.2 in omega arith)

both-least : (P Q : ℕ → Type 0) (m n : ℕ) (b : Bool) → nat_le m n ≡ b → IsLeastOf P (Some m) → IsLeastOf Q (Some n) → IsLeastOf (λ i. P i ⊎ Q i) (if b then Some m else Some n)
both-least P Q m n true e l r =
    let le : m ≤ n = grind (arith, nat_tests) in
    (inl l.0, λ i x. elim x [ inl p ↦ l.1 i p | inr q ↦ (let s : n ≤ i = r.1 i q in omega arith) ])
both-least P Q m n false e l r =
    let le : n ≤ m = grind (arith, nat_tests) in
    (inr r.0, λ i x. elim x [ inl p ↦ (let s : m ≤ i = l.1 i p in omega arith) | inr q ↦ r.1 i q ])

pub lower-least : (P Q : ℕ → Type 0) (o p : Option ℕ) → IsLeastOf P o → IsLeastOf Q p → IsLeastOf (λ n. P n ⊎ Q n) (lower o p)
lower-least P Q None None l r = λ n x. elim x [ inl y ↦ l n y | inr y ↦ r n y ]
lower-least P Q None (Some n) l r = (inr r.0, λ i x. elim x [ inl y ↦ absurd (l i y) | inr y ↦ r.1 i y ])
lower-least P Q (Some m) None l r = (inl l.0, λ i x. elim x [ inl y ↦ l.1 i y | inr y ↦ absurd (r i y) ])
lower-least P Q (Some m) (Some n) l r = both-least P Q m n (nat_le m n) refl l r

pub picked : (t : Bool) (o : Option ℕ) (P : ℕ → Type 0) → ((m : ℕ) → P m → (t ≡ true) × (o ≡ Some m)) → ((m : ℕ) → t ≡ true → o ≡ Some m → P m) → IsLeastOf P (if t then o else None)
picked true (Some k) P down up = (up k refl refl, λ n p. let e : k ≡ n = some_is k n (down n p).1 in omega arith)
picked true None P down up = λ n p. let e : None ≡ Some n = (down n p).1 in absurd (cc)
picked false o P down up = λ n p. let e : false ≡ true = (down n p).0 in absurd (cc)

-- ---- the least maker of a point within the counts

-- a point within the counts that passes, made by entry n
abbrev pub Passes : (Point → Bool) → (Point → Option ℕ) → (ℕ → ℕ) → List Tale → ℕ → Type 0
Passes test maker count h n = (a : Point) × Within h count a × (test a ≡ true) × (maker a ≡ Some n)

abbrev PassesNow : (Point → Bool) → (Point → Option ℕ) → (ℕ → ℕ) → ℕ → Tale → ℕ → Type 0
PassesNow test maker count l e n = (a : Point) × AddedWithin e l count a × (test a ≡ true) × (maker a ≡ Some n)

lt_yes : (m n : ℕ) → m < n → nat_lt m n ≡ true
lt_yes m n l = grind (arith, nat_tests)

yes_lt : (m n : ℕ) → nat_lt m n ≡ true → m < n
yes_lt m n l = grind (arith, nat_tests)

added-least : (test : Point → Bool) (maker : Point → Option ℕ) (count : ℕ → ℕ) (l c : ℕ) (b : Point) (e : Tale) → added_in e ≡ Some b → client_of e ≡ Some c →
    IsLeastOf (PassesNow test maker count l e) (if nat_lt l (count c) && test b then maker b else None)
added-least test maker count l c b e i o = picked (nat_lt l (count c) && test b) (maker b) (PassesNow test maker count l e) down up
  where
    down : (m : ℕ) → PassesNow test maker count l e m → ((nat_lt l (count c) && test b) ≡ true) × (maker b ≡ Some m)
    down m p =
        let same : p.0 ≡ b = some_is p.0 b (sym p.1.1 ∙ i) in
        let mine : p.1.0 ≡ c = some_is p.1.0 c (sym p.1.2 ∙ o) in
        let below : l < count c = subst (λ (x : ℕ). l < count x) mine p.1.3 in
        (and_yes (nat_lt l (count c)) (test b) (lt_yes l (count c) below) (subst (λ (x : Point). test x ≡ true) same p.2), subst (λ (x : Point). maker x ≡ Some m) same p.3)

    up : (m : ℕ) → (nat_lt l (count c) && test b) ≡ true → maker b ≡ Some m → PassesNow test maker count l e m
    up m t k =
        let p : (nat_lt l (count c) ≡ true) × (test b ≡ true) = and_of (nat_lt l (count c)) (test b) t in
        (b, (c, i, o, yes_lt l (count c) p.0), p.1, k)

none-added : (test : Point → Bool) (maker : Point → Option ℕ) (count : ℕ → ℕ) (l : ℕ) (e : Tale) → added_in e ≡ None → IsLeastOf (PassesNow test maker count l e) None
none-added test maker count l e i = λ n p. let x : None ≡ Some p.0 = sym i ∙ p.1.1 in absurd (cc)

now-least : (test : Point → Bool) (maker : Point → Option ℕ) (count : ℕ → ℕ) (l : ℕ) (e : Tale) → IsLeastOf (PassesNow test maker count l e) (within_now test maker count l e)
now-least test maker count l (Wrote c xs b) = added-least test maker count l c b (Wrote c xs b) refl refl
now-least test maker count l (ReadSome c x p) = added-least test maker count l c p (ReadSome c x p) refl refl
now-least test maker count l (Moved c b) = none-added test maker count l (Moved c b) refl
now-least test maker count l (ReadNone c x) = none-added test maker count l (ReadNone c x) refl
now-least test maker count l (Shown k p) = none-added test maker count l (Shown k p) refl
now-least test maker count l Other = none-added test maker count l Other refl

pub within-least : (test : Point → Bool) (maker : Point → Option ℕ) (count : ℕ → ℕ) (h : List Tale) → IsLeastOf (Passes test maker count h) (least_within test maker count h)
unfolding Within least_within
within-least test maker count [] = λ n p. p.1
within-least test maker count (e ∷ h) =
    least-of (Passes test maker count (e ∷ h)) (λ n. Passes test maker count h n ⊎ PassesNow test maker count (length h) e n)
    (lower (least_within test maker count h) (within_now test maker count (length h) e))
    (λ n x. elim x [ inl p ↦ (p.0, inl p.1, p.2, p.3) | inr p ↦ (p.0, inr p.1, p.2, p.3) ])
    (λ n p. elim p.1 [ inl w ↦ (n, inl (p.0, w, p.2, p.3), omega arith) | inr w ↦ (n, inr (p.0, w, p.2, p.3), omega arith) ])
    (lower-least (Passes test maker count h) (PassesNow test maker count (length h) e) (least_within test maker count h) (within_now test maker count (length h) e)
    (within-least test maker count h) (now-least test maker count (length h) e))

-- ---- causal

-- entry n made a point that site k lacks when it shows b
abbrev Lacking : List SiteSet → List Tale → List Tale → ℕ → Point → ℕ → Type 0
Lacking sets whole before k b n = (a : Point) × Lacks sets whole before k b a × MadeAt whole a n

lack-least : (sets : List SiteSet) (whole before : List Tale) (k : ℕ) (b : Point) → IsLeastOf (Lacking sets whole before k b) (lack_at sets whole before k b)
lack-least sets whole before k b =
    least-of (Lacking sets whole before k b) (Passes (is_lacking sets whole before k) (made_number whole) (known whole (Maker b)) whole) (lack_at sets whole before k b)
    up down (within-least (is_lacking sets whole before k) (made_number whole) (known whole (Maker b)) whole)
  where
    up : (n : ℕ) → Passes (is_lacking sets whole before k) (made_number whole) (known whole (Maker b)) whole n → Lacking sets whole before k b n
    up n p =
        let t : (is_kept sets whole k p.0 ≡ true) × (not (has_shown before k p.0) ≡ true) = and_of (is_kept sets whole k p.0) (not (has_shown before k p.0)) p.2 in (
          p.0,
          record {
            cause = within-known whole (Maker b) p.0 p.1;
            kept = yes-kept sets whole k p.0 t.0;
            unshown = λ s. yes_not (has_shown before k p.0) t.1 (shown-yes before k p.0 s);
          },
          yes-made whole p.0 n p.3,
        )

    down : (n : ℕ) → Lacking sets whole before k b n → (m : ℕ) × Passes (is_lacking sets whole before k) (made_number whole) (known whole (Maker b)) whole m × (m ≤ n)
    down n p =
        let l : Lacks sets whole before k b p.0 = p.1 in
        let r : HasMaker (made_number whole p.0) n = made-yes whole p.0 n p.2 in
        let t : is_lacking sets whole before k p.0 ≡ true =
        and_yes (is_kept sets whole k p.0) (not (has_shown before k p.0)) (kept-yes sets whole k l.kept.0 p.0 l.kept.1 l.kept.2)
        (not_yes (has_shown before k p.0) (λ s. l.unshown (yes-shown before k p.0 s))) in
        (r.0, (p.0, known-within whole (Maker b) p.0 l.cause, t, r.1), r.2)

-- what is found at an entry: nothing, and all is well there, or the first entry that lacks a cause
abbrev CausalNow : List SiteSet → List Tale → List Tale → Tale → Option (ℕ × ℕ × ℕ) → Type 0
CausalNow sets whole before e None = ShowsCausesFirst sets whole before e
CausalNow sets whole before e (Some v) = IsFirstLack sets whole v.0 v.1 v.2

-- an entry shows this point at this site and nothing else
abbrev pub ShowsOnly : Tale → ℕ → Point → Type 0
ShowsOnly e k b = ShowsNow e k b × ((j : ℕ) (a : Point) → ShowsNow e j a → (k ≡ j) × (b ≡ a))

lack-now : (sets : List SiteSet) (whole before : List Tale) (e : Tale) (k : ℕ) (b : Point) (o : Option ℕ) → Stands whole e before → CausalTo sets whole before → ShowsOnly e k b →
    IsLeastOf (Lacking sets whole before k b) o → CausalNow sets whole before e (lack_by (suc (length before)) k o)
lack-now sets whole before e k b None stands causal only l = λ j c a s lacks.
    let same : (k ≡ j) × (b ≡ c) = only.1 j c s in
    let at : Lacks sets whole before k b a = subst (λ (x : ℕ). Lacks sets whole before x b a) (sym same.0) (subst (λ (x : Point). Lacks sets whole before j x a) (sym same.1) lacks) in
    let r : (n : ℕ) × MadeAt whole a n = item-made whole a at.kept.0 at.kept.1 in
    l r.0 (a, at, r.1)
lack-now sets whole before e k b (Some m) stands causal only l =
    record {
      entry = e;
      before = before;
      stands = stands;
      number = refl;
      first = causal;
      shown = b;
      shows = only.0;
      missing = l.0.0;
      lacks = l.0.1;
      made = l.0.2;
      least = λ a o lacks made. l.1 o (a, lacks, made);
    }

only-wrote : (c : ℕ) (xs : Items) (b : Point) → ShowsOnly (Wrote c xs b) b.site b
only-wrote c xs b = ((refl, refl), λ j a s. s)

only-shown : (k : ℕ) (b : Point) → ShowsOnly (Shown k b) k b
only-shown k b = ((refl, refl), λ j a s. s)

causal-now : (sets : List SiteSet) (whole before : List Tale) (e : Tale) → Stands whole e before → CausalTo sets whole before → CausalNow sets whole before e (lack_now sets whole before e)
causal-now sets whole before (Wrote c xs b) stands causal =
    lack-now sets whole before (Wrote c xs b) b.site b (lack_at sets whole before b.site b) stands causal (only-wrote c xs b) (lack-least sets whole before b.site b)
causal-now sets whole before (Shown k b) stands causal =
    lack-now sets whole before (Shown k b) k b (lack_at sets whole before k b) stands causal (only-shown k b) (lack-least sets whole before k b)
causal-now sets whole before (Moved c b) stands causal = λ j a x s lacks. s
causal-now sets whole before (ReadNone c x) stands causal = λ j a y s lacks. s
causal-now sets whole before (ReadSome c x p) stands causal = λ j a y s lacks. s
causal-now sets whole before Other stands causal = λ j a x s lacks. s

abbrev CausalPart : List SiteSet → List Tale → List Tale → Option (ℕ × ℕ × ℕ) → Type 0
CausalPart sets whole part None = CausalTo sets whole part
CausalPart sets whole part (Some v) = IsFirstLack sets whole v.0 v.1 v.2

causal-step : (sets : List SiteSet) (whole before : List Tale) (e : Tale) (o p : Option (ℕ × ℕ × ℕ)) → CausalPart sets whole before o →
    (CausalTo sets whole before → CausalNow sets whole before e p) → CausalPart sets whole (e ∷ before) (first o p)
unfolding CausalTo
causal-step sets whole before e (Some v) p old new = old
causal-step sets whole before e None (Some v) old new = new old
causal-step sets whole before e None None old new = (old, new old)

causal-part : (sets : List SiteSet) (whole part : List Tale) → ((e : Tale) (before : List Tale) → Stands part e before → Stands whole e before) →
    CausalPart sets whole part (first_lack sets whole part)
unfolding CausalTo first_lack Stands
causal-part sets whole [] within = tt
causal-part sets whole (e ∷ before) within =
    causal-step sets whole before e (first_lack sets whole before) (lack_now sets whole before e)
    (causal-part sets whole before (λ f b s. within f b (inl s)))
    (λ causal. causal-now sets whole before e (within e before (inr (refl, refl))) causal)

causal-is : (sets : List SiteSet) (h : List Tale) (o : Option (ℕ × ℕ × ℕ)) → CausalPart sets h h o → IsCausalVerdict sets h o
causal-is sets h None v = v
causal-is sets h (Some n) v = v

pub found-causal : (sets : List SiteSet) (h : List Tale) → IsCausalVerdict sets h (first_lack sets h h)
found-causal sets h = causal-is sets h (first_lack sets h h) (causal-part sets h h (λ e b s. s))

-- ---- once

abbrev OnceNow : List SiteSet → List Tale → List Tale → Tale → Option ℕ → Type 0
OnceNow sets whole before e None = ShowsNew sets whole before e
OnceNow sets whole before e (Some n) = IsFirstAgain sets whole n

again-now : (sets : List SiteSet) (whole before : List Tale) (e : Tale) (k : ℕ) (b : Point) (t : Bool) → Stands whole e before → OnceTo sets whole before → ShowsOnly e k b →
    (has_shown before k b || not (is_kept sets whole k b)) ≡ t → OnceNow sets whole before e (if t then Some (suc (length before)) else None)
again-now sets whole before e k b true stands once only x =
    record {
      entry = e;
      before = before;
      stands = stands;
      number = refl;
      first = once;
      again = λ new. elim (or_of (has_shown before k b) (not (is_kept sets whole k b)) x) [
        | inl s ↦ (new k b only.0).0 (yes-shown before k b s)
        | inr s ↦ (let g : IsKept sets whole k b = (new k b only.0).1 in yes_not (is_kept sets whole k b) s (kept-yes sets whole k g.0 b g.1 g.2))
      ];
    }
again-now sets whole before e k b false stands once only x = λ j a s.
    let same : (k ≡ j) × (b ≡ a) = only.1 j a s in
    subst (λ (y : ℕ). (Shows before y a → ⊥) × IsKept sets whole y a) same.0
    (subst (λ (y : Point). (Shows before k y → ⊥) × IsKept sets whole k y) same.1 (unshown, yes-kept sets whole k b (kept (is_kept sets whole k b) refl)))
  where
    never : {A : Type 0} → false ≡ true → A
    never y = absurd (cc)

    unshown : Shows before k b → ⊥
    unshown s = never (sym x ∙ or_l (has_shown before k b) (not (is_kept sets whole k b)) (shown-yes before k b s))

    kept : (y : Bool) → is_kept sets whole k b ≡ y → is_kept sets whole k b ≡ true
    kept true y = y
    kept false y = never (sym x ∙ or_r (has_shown before k b) (not (is_kept sets whole k b)) (ap not y))

once-now : (sets : List SiteSet) (whole before : List Tale) (e : Tale) → Stands whole e before → OnceTo sets whole before → OnceNow sets whole before e (again_now sets whole before e)
once-now sets whole before (Wrote c xs b) stands once =
    again-now sets whole before (Wrote c xs b) b.site b (has_shown before b.site b || not (is_kept sets whole b.site b)) stands once (only-wrote c xs b) refl
once-now sets whole before (Shown k b) stands once =
    again-now sets whole before (Shown k b) k b (has_shown before k b || not (is_kept sets whole k b)) stands once (only-shown k b) refl
once-now sets whole before (Moved c b) stands once = λ j a s. absurd s
once-now sets whole before (ReadNone c x) stands once = λ j a s. absurd s
once-now sets whole before (ReadSome c x p) stands once = λ j a s. absurd s
once-now sets whole before Other stands once = λ j a s. absurd s

abbrev OncePart : List SiteSet → List Tale → List Tale → Option ℕ → Type 0
OncePart sets whole part None = OnceTo sets whole part
OncePart sets whole part (Some n) = IsFirstAgain sets whole n

once-step : (sets : List SiteSet) (whole before : List Tale) (e : Tale) (o p : Option ℕ) → OncePart sets whole before o →
    (OnceTo sets whole before → OnceNow sets whole before e p) → OncePart sets whole (e ∷ before) (first o p)
unfolding OnceTo
once-step sets whole before e (Some v) p old new = old
once-step sets whole before e None (Some v) old new = new old
once-step sets whole before e None None old new = (old, new old)

once-part : (sets : List SiteSet) (whole part : List Tale) → ((e : Tale) (before : List Tale) → Stands part e before → Stands whole e before) →
    OncePart sets whole part (first_again sets whole part)
unfolding OnceTo first_again Stands
once-part sets whole [] within = tt
once-part sets whole (e ∷ before) within =
    once-step sets whole before e (first_again sets whole before) (again_now sets whole before e)
    (once-part sets whole before (λ f b s. within f b (inl s)))
    (λ once. once-now sets whole before e (within e before (inr (refl, refl))) once)

once-is : (sets : List SiteSet) (h : List Tale) (o : Option ℕ) → OncePart sets h h o → IsOnceVerdict sets h o
once-is sets h None v = v
once-is sets h (Some n) v = v

pub found-once : (sets : List SiteSet) (h : List Tale) → IsOnceVerdict sets h (first_again sets h h)
found-once sets h = once-is sets h (first_again sets h h) (once-part sets h h (λ e b s. s))

-- ---- fresh

abbrev Missing : List Tale → List Tale → Tale → ℕ → Type 0
Missing whole before e n = (a : Point) × Misses whole before e a × MadeAt whole a n

abbrev FreshNow : List Tale → List Tale → Tale → Option (ℕ × ℕ) → Type 0
FreshNow whole before e None = (a : Point) → Misses whole before e a → ⊥
FreshNow whole before e (Some v) = IsFirstMiss whole v.0 v.1

-- a read of item x by client c, which a point passes by this test
abbrev Reads : Tale → ℕ → ℕ → (Point → Bool) → Type 0
Reads e c x test = ((a : Point) → test a ≡ true → IsPassed e c x a) × ((b y : ℕ) (a : Point) → IsPassed e b y a → (c ≡ b) × (x ≡ y) × (test a ≡ true))

miss-least : (whole before : List Tale) (e : Tale) (c x : ℕ) (test pass : Point → Bool) → Reads e c x test →
    ((a : Point) → pass a ≡ true → (has_item whole a x ≡ true) × (test a ≡ true)) → ((a : Point) → has_item whole a x ≡ true → test a ≡ true → pass a ≡ true) →
    IsLeastOf (Missing whole before e) (least_within pass (made_number whole) (known before (Client c)) before)
miss-least whole before e c x test pass reads apart both =
    least-of (Missing whole before e) (Passes pass (made_number whole) (known before (Client c)) before) (least_within pass (made_number whole) (known before (Client c)) before)
    up down (within-least pass (made_number whole) (known before (Client c)) before)
  where
    up : (n : ℕ) → Passes pass (made_number whole) (known before (Client c)) before n → Missing whole before e n
    up n p =
        let t : (has_item whole p.0 x ≡ true) × (test p.0 ≡ true) = apart p.0 p.2 in (
          p.0,
          record {
            client = c;
            item = x;
            passed = reads.0 p.0 t.1;
            past = within-known before (Client c) p.0 p.1;
            update = yes-item whole p.0 x t.0;
          },
          yes-made whole p.0 n p.3,
        )

    down : (n : ℕ) → Missing whole before e n → (m : ℕ) × Passes pass (made_number whole) (known before (Client c)) before m × (m ≤ n)
    down n p =
        let l : Misses whole before e p.0 = p.1 in
        let r : HasMaker (made_number whole p.0) n = made-yes whole p.0 n p.2 in
        let s : (c ≡ l.client) × (x ≡ l.item) × (test p.0 ≡ true) = reads.1 l.client l.item p.0 l.passed in
        let past : Knows before (Client c) p.0 = subst (λ (y : ℕ). Knows before (Client y) p.0) (sym s.0) l.past in
        let item : HasItem whole p.0 x = subst (λ (y : ℕ). HasItem whole p.0 y) (sym s.1) l.update in
        (r.0, (p.0, known-within before (Client c) p.0 past, both p.0 (item-yes whole p.0 x item) s.2, r.1), r.2)

miss-now : (whole before : List Tale) (e : Tale) (o : Option ℕ) → Stands whole e before → FreshTo whole before →
    IsLeastOf (Missing whole before e) o → FreshNow whole before e (miss_by (suc (length before)) o)
miss-now whole before e None stands fresh l = λ a misses.
    let r : (n : ℕ) × MadeAt whole a n = item-made whole a misses.item misses.update in
    l r.0 (a, misses, r.1)
miss-now whole before e (Some m) stands fresh l =
    record {
      entry = e;
      before = before;
      stands = stands;
      number = refl;
      first = fresh;
      missed = l.0.0;
      misses = l.0.1;
      made = l.0.2;
      least = λ a o misses made. l.1 o (a, misses, made);
    }

no-miss : (whole before : List Tale) (e : Tale) → ((c x : ℕ) (a : Point) → IsPassed e c x a → ⊥) → (a : Point) → Misses whole before e a → ⊥
no-miss whole before e none a m = none m.client m.item a m.passed

fresh-now : (whole before : List Tale) (e : Tale) → Stands whole e before → FreshTo whole before → FreshNow whole before e (miss_now whole before e)
fresh-now whole before (ReadSome c x p) stands fresh =
    miss-now whole before (ReadSome c x p) (least_within (is_missed whole x p) (made_number whole) (known before (Client c)) before) stands fresh
    (miss-least whole before (ReadSome c x p) c x (λ a. point_lt p a) (is_missed whole x p)
    (λ a t. (refl, refl, t), λ b y a w. w)
    (λ a t. and_of (has_item whole a x) (point_lt p a) t) (λ a t u. and_yes (has_item whole a x) (point_lt p a) t u))
fresh-now whole before (ReadNone c x) stands fresh =
    miss-now whole before (ReadNone c x) (least_within (λ a. has_item whole a x) (made_number whole) (known before (Client c)) before) stands fresh
    (miss-least whole before (ReadNone c x) c x (λ a. true) (λ a. has_item whole a x)
    (λ a t. (refl, refl), λ b y a w. (w.0, w.1, refl))
    (λ a t. (t, refl)) (λ a t u. t))
fresh-now whole before (Wrote c xs b) stands fresh = no-miss whole before (Wrote c xs b) (λ c x a p. p)
fresh-now whole before (Moved c b) stands fresh = no-miss whole before (Moved c b) (λ c x a p. p)
fresh-now whole before (Shown k b) stands fresh = no-miss whole before (Shown k b) (λ c x a p. p)
fresh-now whole before Other stands fresh = no-miss whole before Other (λ c x a p. p)

abbrev FreshPart : List Tale → List Tale → Option (ℕ × ℕ) → Type 0
FreshPart whole part None = FreshTo whole part
FreshPart whole part (Some v) = IsFirstMiss whole v.0 v.1

fresh-step : (whole before : List Tale) (e : Tale) (o p : Option (ℕ × ℕ)) → FreshPart whole before o →
    (FreshTo whole before → FreshNow whole before e p) → FreshPart whole (e ∷ before) (first o p)
unfolding FreshTo
fresh-step whole before e (Some v) p old new = old
fresh-step whole before e None (Some v) old new = new old
fresh-step whole before e None None old new = (old, new old)

fresh-part : (whole part : List Tale) → ((e : Tale) (before : List Tale) → Stands part e before → Stands whole e before) → FreshPart whole part (first_miss whole part)
unfolding FreshTo first_miss Stands
fresh-part whole [] within = tt
fresh-part whole (e ∷ before) within =
    fresh-step whole before e (first_miss whole before) (miss_now whole before e)
    (fresh-part whole before (λ f b s. within f b (inl s)))
    (λ fresh. fresh-now whole before e (within e before (inr (refl, refl))) fresh)

fresh-is : (h : List Tale) (o : Option (ℕ × ℕ)) → FreshPart h h o → IsFreshVerdict h o
fresh-is h None v = v
fresh-is h (Some n) v = v

pub found-fresh : (h : List Tale) → IsFreshVerdict h (first_miss h h)
found-fresh h = fresh-is h (first_miss h h) (fresh-part h h (λ e b s. s))
