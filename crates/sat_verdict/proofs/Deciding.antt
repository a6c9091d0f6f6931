-- Tests and what they tell.
use Rattle.std.specs.Prelude.{◌≡◌, ◌⊎◌, ◌≤◌, ℕ, suc, Bool, true, false, not, ◌&&◌, ◌||◌, List, [], ◌∷◌, length, Option, Some, None, refl, ◌==◌, if◌then◌else◌}
use Rattle.std.proofs.Common.{sym, subst, arith, inl, inr, ap}
use Rattle.sat_label.specs.declared.point.Point.{Point}
use Rattle.sat_label.specs.Grouped.{list_of}
use Rattle.sat_label.specs.declared.site_set.SiteSet.{SiteSet}
use Rattle.sat_verdict.specs.declared.tale.Tale.{Tale}
use Rattle.sat_verdict.specs.declared.tale.Tale.TheVariants.{Wrote, Moved, ReadNone, ReadSome, Shown, Other}
use Rattle.sat_label.specs.Order.{point_eq}
use Rattle.sat_label.specs.Members.{In}
use Rattle.sat_label.specs.Words.{has}
use Rattle.sat_verdict.specs.Entries.{made_in, makes}
use Rattle.sat_verdict.specs.Goals.{ShowsNow, Shows, WritesNow, HasItem, replicates, IsKept, MadeAt}
use Rattle.sat_verdict.specs.Found.{any_kept, kept_now, is_kept, shown_now, has_shown, item_now, has_item, made_number}
use Rattle.sat_verdict.proofs.Counted.{some_is, same_number, number_same, same_point, point_same, makes-yes, yes-makes}

pub or_l : (a b : Bool) → a ≡ true → (a || b) ≡ true
or_l true b e = refl
or_l false b e = absurd (cc)

pub or_r : (a b : Bool) → b ≡ true → (a || b) ≡ true
or_r true b e = refl
or_r false b e = e

pub or_of : (a b : Bool) → (a || b) ≡ true → (a ≡ true) ⊎ (b ≡ true)
or_of true b e = inl refl
or_of false b e = inr e

pub and_of : (a b : Bool) → (a && b) ≡ true → (a ≡ true) × (b ≡ true)
and_of true b e = (refl, e)
and_of false b e = absurd (cc)

pub and_yes : (a b : Bool) → a ≡ true → b ≡ true → (a && b) ≡ true
and_yes true b d e = e
and_yes false b d e = absurd (cc)

pub not_yes : (a : Bool) → (a ≡ true → ⊥) → not a ≡ true
not_yes true n = absurd (n refl)
not_yes false n = refl

pub yes_not : (a : Bool) → not a ≡ true → a ≡ true → ⊥
yes_not true e f = absurd (cc)
yes_not false e f = absurd (cc)

-- ---- items

pub any-kept : (sets : List SiteSet) (k x : ℕ) (xs : List ℕ) → In xs x → replicates sets x k ≡ true → any_kept sets k xs ≡ true
any-kept sets k x [] i e = absurd i
any-kept sets k x (y ∷ ys) (inl i) e = or_l (replicates sets y k) (any_kept sets k ys) (subst (λ (z : ℕ). replicates sets z k ≡ true) (sym i) e)
any-kept sets k x (y ∷ ys) (inr i) e = or_r (replicates sets y k) (any_kept sets k ys) (any-kept sets k x ys i e)

pub kept-any : (sets : List SiteSet) (k : ℕ) (xs : List ℕ) → any_kept sets k xs ≡ true → (x : ℕ) × In xs x × (replicates sets x k ≡ true)
kept-any sets k [] e = absurd (cc)
kept-any sets k (y ∷ ys) e =
    elim (or_of (replicates sets y k) (any_kept sets k ys) e) [
      | inl f ↦ (y, inl refl, f)
      | inr f ↦ (let r : (x : ℕ) × In ys x × (replicates sets x k ≡ true) = kept-any sets k ys f in (r.0, inr r.1, r.2))
    ]

kept-now : (sets : List SiteSet) (k x : ℕ) (a : Point) (e : Tale) → WritesNow e a x → replicates sets x k ≡ true → kept_now sets k a e ≡ true
kept-now sets k x a (Wrote c xs b) w t = and_yes (point_eq b a) (any_kept sets k (list_of xs)) (point_same b a w.0) (any-kept sets k x (list_of xs) w.1 t)
kept-now sets k x a _ w t = absurd w

now-kept : (sets : List SiteSet) (k : ℕ) (a : Point) (e : Tale) → kept_now sets k a e ≡ true → (x : ℕ) × WritesNow e a x × (replicates sets x k ≡ true)
now-kept sets k a (Wrote c xs b) t =
    let p : (point_eq b a ≡ true) × (any_kept sets k (list_of xs) ≡ true) = and_of (point_eq b a) (any_kept sets k (list_of xs)) t in
    let r : (x : ℕ) × In (list_of xs) x × (replicates sets x k ≡ true) = kept-any sets k (list_of xs) p.1 in
    (r.0, (same_point b a p.0, r.1), r.2)
now-kept sets k a (Moved c b) t = absurd (cc)
now-kept sets k a (ReadNone c x) t = absurd (cc)
now-kept sets k a (ReadSome c x p) t = absurd (cc)
now-kept sets k a (Shown j p) t = absurd (cc)
now-kept sets k a Other t = absurd (cc)

pub kept-yes : (sets : List SiteSet) (h : List Tale) (k x : ℕ) (a : Point) → HasItem h a x → replicates sets x k ≡ true → is_kept sets h k a ≡ true
unfolding HasItem is_kept
kept-yes sets [] k x a i t = absurd i
kept-yes sets (e ∷ h) k x a (inl i) t = or_l (is_kept sets h k a) (kept_now sets k a e) (kept-yes sets h k x a i t)
kept-yes sets (e ∷ h) k x a (inr i) t = or_r (is_kept sets h k a) (kept_now sets k a e) (kept-now sets k x a e i t)

pub yes-kept : (sets : List SiteSet) (h : List Tale) (k : ℕ) (a : Point) → is_kept sets h k a ≡ true → IsKept sets h k a
unfolding HasItem is_kept
yes-kept sets [] k a e = absurd (cc)
yes-kept sets (f ∷ h) k a e =
    elim (or_of (is_kept sets h k a) (kept_now sets k a f) e) [
      | inl g ↦ (let r : IsKept sets h k a = yes-kept sets h k a g in (r.0, inl r.1, r.2))
      | inr g ↦ (let r : (x : ℕ) × WritesNow f a x × (replicates sets x k ≡ true) = now-kept sets k a f g in (r.0, inr r.1, r.2))
    ]

pub among : (x : ℕ) (xs : List ℕ) → In xs x → has ◌==◌ xs x ≡ true
among x [] i = absurd i
among x (y ∷ ys) (inl i) = or_l (y == x) (has ◌==◌ ys x) (number_same y x i)
among x (y ∷ ys) (inr i) = or_r (y == x) (has ◌==◌ ys x) (among x ys i)

pub among-is : (x : ℕ) (xs : List ℕ) → has ◌==◌ xs x ≡ true → In xs x
among-is x [] e = absurd (cc)
among-is x (y ∷ ys) e = elim (or_of (y == x) (has ◌==◌ ys x) e) [ inl f ↦ inl (same_number y x f) | inr f ↦ inr (among-is x ys f) ]

item-now : (x : ℕ) (a : Point) (e : Tale) → WritesNow e a x → item_now a x e ≡ true
item-now x a (Wrote c xs b) w = and_yes (point_eq b a) (has ◌==◌ (list_of xs) x) (point_same b a w.0) (among x (list_of xs) w.1)
item-now x a _ w = absurd w

now-item : (x : ℕ) (a : Point) (e : Tale) → item_now a x e ≡ true → WritesNow e a x
now-item x a (Wrote c xs b) t =
    let p : (point_eq b a ≡ true) × (has ◌==◌ (list_of xs) x ≡ true) = and_of (point_eq b a) (has ◌==◌ (list_of xs) x) t in
    (same_point b a p.0, among-is x (list_of xs) p.1)
now-item x a (Moved c b) t = absurd (cc)
now-item x a (ReadNone c y) t = absurd (cc)
now-item x a (ReadSome c y p) t = absurd (cc)
now-item x a (Shown j p) t = absurd (cc)
now-item x a Other t = absurd (cc)

pub item-yes : (h : List Tale) (a : Point) (x : ℕ) → HasItem h a x → has_item h a x ≡ true
unfolding HasItem has_item
item-yes [] a x i = absurd i
item-yes (e ∷ h) a x (inl i) = or_l (has_item h a x) (item_now a x e) (item-yes h a x i)
item-yes (e ∷ h) a x (inr i) = or_r (has_item h a x) (item_now a x e) (item-now x a e i)

pub yes-item : (h : List Tale) (a : Point) (x : ℕ) → has_item h a x ≡ true → HasItem h a x
unfolding HasItem has_item
yes-item [] a x e = absurd (cc)
yes-item (f ∷ h) a x e =
    elim (or_of (has_item h a x) (item_now a x f) e) [ inl g ↦ inl (yes-item h a x g) | inr g ↦ inr (now-item x a f g) ]

-- ---- what is shown

shown-now : (e : Tale) (k : ℕ) (a : Point) → ShowsNow e k a → shown_now e k a ≡ true
shown-now (Wrote c xs b) k a s = and_yes (b.site == k) (point_eq b a) (number_same b.site k s.0) (point_same b a s.1)
shown-now (Shown j p) k a s = and_yes (j == k) (point_eq p a) (number_same j k s.0) (point_same p a s.1)
shown-now _ k a s = absurd s

now-shown : (e : Tale) (k : ℕ) (a : Point) → shown_now e k a ≡ true → ShowsNow e k a
now-shown (Wrote c xs b) k a t =
    let p : ((b.site == k) ≡ true) × (point_eq b a ≡ true) = and_of (b.site == k) (point_eq b a) t in
    (same_number b.site k p.0, same_point b a p.1)
now-shown (Shown j q) k a t =
    let p : ((j == k) ≡ true) × (point_eq q a ≡ true) = and_of (j == k) (point_eq q a) t in
    (same_number j k p.0, same_point q a p.1)
now-shown (Moved c b) k a t = absurd (cc)
now-shown (ReadNone c y) k a t = absurd (cc)
now-shown (ReadSome c y p) k a t = absurd (cc)
now-shown Other k a t = absurd (cc)

pub shown-yes : (h : List Tale) (k : ℕ) (a : Point) → Shows h k a → has_shown h k a ≡ true
unfolding Shows has_shown
shown-yes [] k a s = absurd s
shown-yes (e ∷ h) k a (inl s) = or_l (has_shown h k a) (shown_now e k a) (shown-yes h k a s)
shown-yes (e ∷ h) k a (inr s) = or_r (has_shown h k a) (shown_now e k a) (shown-now e k a s)

pub yes-shown : (h : List Tale) (k : ℕ) (a : Point) → has_shown h k a ≡ true → Shows h k a
unfolding Shows has_shown
yes-shown [] k a e = absurd (cc)
yes-shown (f ∷ h) k a e =
    elim (or_of (has_shown h k a) (shown_now f k a) e) [ inl g ↦ inl (yes-shown h k a g) | inr g ↦ inr (now-shown f k a g) ]

-- ---- makers

pub made-bound : (h : List Tale) (a : Point) (n : ℕ) → MadeAt h a n → n ≤ length h
unfolding MadeAt
made-bound [] a n m = absurd m
made-bound (e ∷ h) a n (inl m) = let l : n ≤ length h = made-bound h a n m in omega arith
made-bound (e ∷ h) a n (inr m) = let l : n ≡ suc (length h) = m.1 in omega arith

number-made : (h : List Tale) (e : Tale) (a : Point) (o : Option ℕ) (b : Bool) (n : ℕ) → ((m : ℕ) → o ≡ Some m → MadeAt h a m) → (b ≡ true → made_in e ≡ Some a) →
    elim o [ Some m ↦ Some m | None ↦ if b then Some (suc (length h)) else None ] ≡ Some n → MadeAt (e ∷ h) a n
unfolding MadeAt
number-made h e a (Some m) b n old new t = inl (old n (ap Some (some_is m n t)))
number-made h e a None true n old new t = inr (new refl, sym (some_is (suc (length h)) n t))
number-made h e a None false n old new t = absurd (cc)

pub yes-made : (h : List Tale) (a : Point) (n : ℕ) → made_number h a ≡ Some n → MadeAt h a n
unfolding made_number
yes-made [] a n e = absurd (cc)
yes-made (f ∷ h) a n e = number-made h f a (made_number h a) (makes f a) n (λ m t. yes-made h a m t) (λ t. yes-makes f a t) e

-- some entry made the point, with this number or a lower one
abbrev pub HasMaker : Option ℕ → ℕ → Type 0
HasMaker o n = (m : ℕ) × (o ≡ Some m) × (m ≤ n)

old-number : (o : Option ℕ) (b : Bool) (l n : ℕ) → HasMaker o n → HasMaker (elim o [ Some m ↦ Some m | None ↦ if b then Some l else None ]) n
old-number (Some m) b l n r = (m, refl, subst (λ (x : ℕ). x ≤ n) (sym (some_is m r.0 r.1)) r.2)
old-number None b l n r = absurd (let e : None ≡ Some r.0 = r.1 in cc)

new-number : (o : Option ℕ) (b : Bool) (l n : ℕ) → ((m : ℕ) → o ≡ Some m → m ≤ l) → b ≡ true → n ≡ l → HasMaker (elim o [ Some m ↦ Some m | None ↦ if b then Some l else None ]) n
new-number (Some m) b l n old t e = (m, refl, let x : m ≤ l = old m refl in omega arith)
new-number None true l n old t e = (l, refl, omega arith)
new-number None false l n old t e = absurd (cc)

pub made-yes : (h : List Tale) (a : Point) (n : ℕ) → MadeAt h a n → HasMaker (made_number h a) n
unfolding MadeAt made_number
made-yes [] a n m = absurd m
made-yes (e ∷ h) a n (inl m) = old-number (made_number h a) (makes e a) (suc (length h)) n (made-yes h a n m)
made-yes (e ∷ h) a n (inr m) =
    new-number (made_number h a) (makes e a) (suc (length h)) n
    (λ o t. let l : o ≤ length h = made-bound h a o (yes-made h a o t) in omega arith) (makes-yes e a m.0) m.1

-- an update has a maker
written-made : (e : Tale) (a : Point) (x : ℕ) → WritesNow e a x → made_in e ≡ Some a
written-made (Wrote c xs b) a x w = ap Some w.0
written-made _ a x w = absurd w

pub item-made : (h : List Tale) (a : Point) (x : ℕ) → HasItem h a x → (n : ℕ) × MadeAt h a n
unfolding HasItem MadeAt
item-made [] a x i = absurd i
item-made (e ∷ h) a x (inl i) = let r : (n : ℕ) × MadeAt h a n = item-made h a x i in (r.0, inl r.1)
item-made (e ∷ h) a x (inr i) = (suc (length h), inr (written-made e a x i, refl))
