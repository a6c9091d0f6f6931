-- A verdict other than yes excludes its law, and a history has one verdict.
use Rattle.std.specs.Prelude.{◌≡◌, ◌⊎◌, ◌<◌, ◌≤◌, ℕ, suc, List, [], ◌∷◌, length, Option, Some, None, refl}
use Rattle.std.proofs.Common.{sym, subst, arith, inl, inr, ap, ◌∙◌}
use Rattle.std.proofs.lemmas.Bool.{cases_order}
use Rattle.sat_label.specs.declared.point.Point.{Point}
use Rattle.sat_label.specs.declared.site_set.SiteSet.{SiteSet}
use Rattle.sat_verdict.specs.declared.tale.Tale.{Tale}
use Rattle.sat_verdict.specs.declared.tale.Tale.TheVariants.{Wrote, Moved, ReadNone, ReadSome, Shown, Other}
use Rattle.sat_verdict.specs.Goals.{ShowsNow, Lacks, ShowsCausesFirst, CausalTo, Causal, ShowsNew, OnceTo, Once, Misses, FreshTo, Fresh, Stands}
use Rattle.sat_verdict.specs.Verdicts.{IsFirstLack, IsFirstAgain, IsFirstMiss, IsCausalVerdict, IsOnceVerdict, IsFreshVerdict}

-- ---- what a law says of the entry that stands there

causal-at : (sets : List SiteSet) (whole h : List Tale) (e : Tale) (before : List Tale) → CausalTo sets whole h → Stands h e before → ShowsCausesFirst sets whole before e
unfolding CausalTo Stands
causal-at sets whole [] e before c s = absurd s
causal-at sets whole (x ∷ h) e before c (inl s) = causal-at sets whole h e before c.0 s
causal-at sets whole (x ∷ h) e before c (inr s) =
    subst (λ (b : List Tale). ShowsCausesFirst sets whole b e) s.1 (subst (λ (y : Tale). ShowsCausesFirst sets whole h y) s.0 c.1)

once-at : (sets : List SiteSet) (whole h : List Tale) (e : Tale) (before : List Tale) → OnceTo sets whole h → Stands h e before → ShowsNew sets whole before e
unfolding OnceTo Stands
once-at sets whole [] e before c s = absurd s
once-at sets whole (x ∷ h) e before c (inl s) = once-at sets whole h e before c.0 s
once-at sets whole (x ∷ h) e before c (inr s) =
    subst (λ (b : List Tale). ShowsNew sets whole b e) s.1 (subst (λ (y : Tale). ShowsNew sets whole h y) s.0 c.1)

abbrev MissesNone : List Tale → List Tale → Tale → Type 0
MissesNone whole before e = (a : Point) → Misses whole before e a → ⊥

fresh-at : (whole h : List Tale) (e : Tale) (before : List Tale) → FreshTo whole h → Stands h e before → MissesNone whole before e
unfolding FreshTo Stands
fresh-at whole [] e before c s = absurd s
fresh-at whole (x ∷ h) e before c (inl s) = fresh-at whole h e before c.0 s
fresh-at whole (x ∷ h) e before c (inr s) =
    subst (λ (b : List Tale). MissesNone whole b e) s.1 (subst (λ (y : Tale). MissesNone whole h y) s.0 c.1)

-- ---- a no excludes the law

pub lack-excludes : (sets : List SiteSet) (h : List Tale) (n m k : ℕ) → IsFirstLack sets h n m k → Causal sets h → ⊥
lack-excludes sets h n m k f c = causal-at sets h h f.entry f.before c f.stands k f.shown f.missing f.shows f.lacks

pub again-excludes : (sets : List SiteSet) (h : List Tale) (n : ℕ) → IsFirstAgain sets h n → Once sets h → ⊥
again-excludes sets h n f c = f.again (once-at sets h h f.entry f.before c f.stands)

pub miss-excludes : (h : List Tale) (n m : ℕ) → IsFirstMiss h n m → Fresh h → ⊥
miss-excludes h n m f c = fresh-at h h f.entry f.before c f.stands f.missed f.misses

-- ---- two entries that stand in a history

shorter : (h : List Tale) (e : Tale) (b : List Tale) → Stands h e b → length b < length h
unfolding Stands
shorter [] e b s = absurd s
shorter (x ∷ h) e b (inl s) = let l : length b < length h = shorter h e b s in omega arith
shorter (x ∷ h) e b (inr s) = let q : length h ≡ length b = ap (λ (y : List Tale). length y) s.1 in omega arith

same-stand : (h : List Tale) (e f : Tale) (b d : List Tale) → Stands h e b → Stands h f d → length b ≡ length d → (e ≡ f) × (b ≡ d)
unfolding Stands
same-stand [] e f b d s t q = absurd s
same-stand (x ∷ h) e f b d (inl s) (inl t) q = same-stand h e f b d s t q
same-stand (x ∷ h) e f b d (inl s) (inr t) q =
    absurd (let l : length b < length h = shorter h e b s in let r : length h ≡ length d = ap (λ (y : List Tale). length y) t.1 in omega arith)
same-stand (x ∷ h) e f b d (inr s) (inl t) q =
    absurd (let l : length d < length h = shorter h f d t in let r : length h ≡ length b = ap (λ (y : List Tale). length y) s.1 in omega arith)
same-stand (x ∷ h) e f b d (inr s) (inr t) q = (sym s.0 ∙ t.0, sym s.1 ∙ t.1)

stands-below : (h : List Tale) (e f : Tale) (b d : List Tale) → Stands h e b → Stands h f d → length b < length d → Stands d e b
unfolding Stands
stands-below [] e f b d s t q = absurd s
stands-below (x ∷ h) e f b d (inl s) (inl t) q = stands-below h e f b d s t q
stands-below (x ∷ h) e f b d (inl s) (inr t) q = subst (λ (y : List Tale). Stands y e b) t.1 s
stands-below (x ∷ h) e f b d (inr s) (inl t) q =
    absurd (let l : length d < length h = shorter h f d t in let r : length h ≡ length b = ap (λ (y : List Tale). length y) s.1 in omega arith)
stands-below (x ∷ h) e f b d (inr s) (inr t) q =
    absurd (let r : length h ≡ length b = ap (λ (y : List Tale). length y) s.1 in let u : length h ≡ length d = ap (λ (y : List Tale). length y) t.1 in omega arith)

-- an entry shows one point at one site
shows-one : (e : Tale) (k j : ℕ) (a b : Point) → ShowsNow e k a → ShowsNow e j b → (k ≡ j) × (a ≡ b)
shows-one (Wrote c xs p) k j a b s t = (sym s.0 ∙ t.0, sym s.1 ∙ t.1)
shows-one (Shown i p) k j a b s t = (sym s.0 ∙ t.0, sym s.1 ∙ t.1)
shows-one (Moved c p) k j a b s t = absurd s
shows-one (ReadNone c x) k j a b s t = absurd s
shows-one (ReadSome c x p) k j a b s t = absurd s
shows-one Other k j a b s t = absurd s

-- ---- one verdict

equal : (n m : ℕ) → n ≤ m → m ≤ n → n ≡ m
equal n m a b = omega arith

lack-once : (sets : List SiteSet) (h : List Tale) (n m k o p j : ℕ) (f : IsFirstLack sets h n m k) (g : IsFirstLack sets h o p j) → length f.before < length g.before → ⊥
lack-once sets h n m k o p j f g l =
    causal-at sets h g.before f.entry f.before g.first (stands-below h f.entry g.entry f.before g.before f.stands g.stands l) k f.shown f.missing f.shows f.lacks

lack-least : (sets : List SiteSet) (h : List Tale) (n m k o p j : ℕ) (f : IsFirstLack sets h n m k) (g : IsFirstLack sets h o p j) → f.entry ≡ g.entry → f.before ≡ g.before → (m ≤ p) × (k ≡ j)
lack-least sets h n m k o p j f g e b =
    let one : (k ≡ j) × (f.shown ≡ g.shown) = shows-one g.entry k j f.shown g.shown (subst (λ (y : Tale). ShowsNow y k f.shown) e f.shows) g.shows in
    let at : Lacks sets h f.before k f.shown g.missing =
    subst (λ (y : List Tale). Lacks sets h y k f.shown g.missing) (sym b)
    (subst (λ (i : ℕ). Lacks sets h g.before i f.shown g.missing) (sym one.0) (subst (λ (q : Point). Lacks sets h g.before j q g.missing) (sym one.1) g.lacks)) in
    (f.least g.missing p at g.made, one.0)

lack-unique : (sets : List SiteSet) (h : List Tale) (n m k o p j : ℕ) → IsFirstLack sets h n m k → IsFirstLack sets h o p j → (n ≡ o) × (m ≡ p) × (k ≡ j)
lack-unique sets h n m k o p j f g = go (cases_order (length f.before) (length g.before))
  where
    go : (length f.before ≡ length g.before) ⊎ ((length f.before < length g.before) ⊎ (length g.before < length f.before)) → (n ≡ o) × (m ≡ p) × (k ≡ j)
    go (inr (inl l)) = absurd (lack-once sets h n m k o p j f g l)
    go (inr (inr l)) = absurd (lack-once sets h o p j n m k g f l)
    go (inl e) =
        let s : (f.entry ≡ g.entry) × (f.before ≡ g.before) = same-stand h f.entry g.entry f.before g.before f.stands g.stands e in
        let a : (m ≤ p) × (k ≡ j) = lack-least sets h n m k o p j f g s.0 s.1 in
        let b : (p ≤ m) × (j ≡ k) = lack-least sets h o p j n m k g f (sym s.0) (sym s.1) in
        (f.number ∙ (ap (λ (i : ℕ). suc i) e ∙ sym g.number), equal m p a.0 b.0, a.1)

again-once : (sets : List SiteSet) (h : List Tale) (n o : ℕ) (f : IsFirstAgain sets h n) (g : IsFirstAgain sets h o) → length f.before < length g.before → ⊥
again-once sets h n o f g l =
    f.again (once-at sets h g.before f.entry f.before g.first (stands-below h f.entry g.entry f.before g.before f.stands g.stands l))

again-unique : (sets : List SiteSet) (h : List Tale) (n o : ℕ) → IsFirstAgain sets h n → IsFirstAgain sets h o → n ≡ o
again-unique sets h n o f g = go (cases_order (length f.before) (length g.before))
  where
    go : (length f.before ≡ length g.before) ⊎ ((length f.before < length g.before) ⊎ (length g.before < length f.before)) → n ≡ o
    go (inr (inl l)) = absurd (again-once sets h n o f g l)
    go (inr (inr l)) = absurd (again-once sets h o n g f l)
    go (inl e) = f.number ∙ (ap (λ (i : ℕ). suc i) e ∙ sym g.number)

miss-once : (h : List Tale) (n m o p : ℕ) (f : IsFirstMiss h n m) (g : IsFirstMiss h o p) → length f.before < length g.before → ⊥
miss-once h n m o p f g l = fresh-at h g.before f.entry f.before g.first (stands-below h f.entry g.entry f.before g.before f.stands g.stands l) f.missed f.misses

miss-least : (h : List Tale) (n m o p : ℕ) (f : IsFirstMiss h n m) (g : IsFirstMiss h o p) → f.entry ≡ g.entry → f.before ≡ g.before → m ≤ p
miss-least h n m o p f g e b =
    f.least g.missed p (subst (λ (y : List Tale). Misses h y f.entry g.missed) (sym b) (subst (λ (y : Tale). Misses h g.before y g.missed) (sym e) g.misses)) g.made

miss-unique : (h : List Tale) (n m o p : ℕ) → IsFirstMiss h n m → IsFirstMiss h o p → (n ≡ o) × (m ≡ p)
miss-unique h n m o p f g = go (cases_order (length f.before) (length g.before))
  where
    go : (length f.before ≡ length g.before) ⊎ ((length f.before < length g.before) ⊎ (length g.before < length f.before)) → (n ≡ o) × (m ≡ p)
    go (inr (inl l)) = absurd (miss-once h n m o p f g l)
    go (inr (inr l)) = absurd (miss-once h o p n m g f l)
    go (inl e) =
        let s : (f.entry ≡ g.entry) × (f.before ≡ g.before) = same-stand h f.entry g.entry f.before g.before f.stands g.stands e in
        (f.number ∙ (ap (λ (i : ℕ). suc i) e ∙ sym g.number), equal m p (miss-least h n m o p f g s.0 s.1) (miss-least h o p n m g f (sym s.0) (sym s.1)))

three : (a b c x y z : ℕ) → (a ≡ x) × (b ≡ y) × (c ≡ z) → ◌≡◌ {A = Option (ℕ × ℕ × ℕ)} (Some (a, b, c)) (Some (x, y, z))
three a b c x y z e =
    ap (λ (i : ℕ). Some (i, b, c)) e.0 ∙ (ap (λ (i : ℕ). Some (x, i, c)) e.1 ∙ ap (λ (i : ℕ). Some (x, y, i)) e.2)

two : (a b x y : ℕ) → (a ≡ x) × (b ≡ y) → ◌≡◌ {A = Option (ℕ × ℕ)} (Some (a, b)) (Some (x, y))
two a b x y e = ap (λ (i : ℕ). Some (i, b)) e.0 ∙ ap (λ (i : ℕ). Some (x, i)) e.1

pub one-causal : (sets : List SiteSet) (h : List Tale) (u v : Option (ℕ × ℕ × ℕ)) → IsCausalVerdict sets h u → IsCausalVerdict sets h v → u ≡ v
one-causal sets h None None f g = refl
one-causal sets h None (Some v) f g = absurd (lack-excludes sets h v.0 v.1 v.2 g f)
one-causal sets h (Some u) None f g = absurd (lack-excludes sets h u.0 u.1 u.2 f g)
one-causal sets h (Some u) (Some v) f g = three u.0 u.1 u.2 v.0 v.1 v.2 (lack-unique sets h u.0 u.1 u.2 v.0 v.1 v.2 f g)

pub one-once : (sets : List SiteSet) (h : List Tale) (u v : Option ℕ) → IsOnceVerdict sets h u → IsOnceVerdict sets h v → u ≡ v
one-once sets h None None f g = refl
one-once sets h None (Some v) f g = absurd (again-excludes sets h v g f)
one-once sets h (Some u) None f g = absurd (again-excludes sets h u f g)
one-once sets h (Some u) (Some v) f g = ap Some (again-unique sets h u v f g)

pub one-fresh : (h : List Tale) (u v : Option (ℕ × ℕ)) → IsFreshVerdict h u → IsFreshVerdict h v → u ≡ v
one-fresh h None None f g = refl
one-fresh h None (Some v) f g = absurd (miss-excludes h v.0 v.1 g f)
one-fresh h (Some u) None f g = absurd (miss-excludes h u.0 u.1 f g)
one-fresh h (Some u) (Some v) f g = two u.0 u.1 v.0 v.1 (miss-unique h u.0 u.1 v.0 v.1 f g)
