-- Which gears' locks were taken.
use Rattle.std.proofs.Common.{◌≡◌, ℕ, zero, suc, ◌+◌, ◌-◌, ◌%◌, ◌==◌, ◌≤◌, Bool, true, false, List, [], ◌∷◌, ◌++◌, map, refl, sym, ap, ◌∙◌, subst, arith}
use Rattle.std.specs.Prelude.{if◌then◌else◌}
use Rattle.std.specs.declared.sync.MutexGuard.{MutexGuard}
use Rattle.std.specs.Sync.Mutex.{mutex_guard_value}
use Rattle.std.proofs.lemmas.List.{append-nil, append_assoc, map-append}
use Rattle.sat_label.specs.declared.items.Items.{Items}
use Rattle.sat_label.specs.declared.node.NodeName.{NodeName}
use Rattle.sat_label.specs.declared.node.NodeName.TheVariants.{Gear as AtGear}
use Rattle.sat_label.specs.Grouped.{list_of}
use Rattle.sat_label.specs.Words.{has}
use Rattle.sat_act.specs.Deployed.{Deployed}
use Rattle.sat_node.specs.Links.{HeldSeen}
use Rattle.sat_node.specs.Together.{lent}
use Rattle.sat_opened.specs.Opened.{name_in}
use Rattle.sat_parts_pump.specs.Lent.{gears_from}
use Rattle.sat_cluster.specs.Locking.{has_item, one_if}

-- one more lock
pub name_added : {M I A : Type 0} (gs : List (MutexGuard (HeldSeen M I A))) (g : MutexGuard (HeldSeen M I A)) (name : NodeName) → (mutex_guard_value g).node.name ≡ name → map name_in (lent (gs ++ g ∷ [])) ≡ map name_in (lent gs) ++ name ∷ []
name_added [] g name e = ap (λ (n : NodeName). n ∷ []) e
name_added (h ∷ hs) g name e = ap (λ (ns : List NodeName). name_in (mutex_guard_value h) ∷ ns) (name_added hs g name e)

-- ---- the gears of a range, the last of them apart

head-if : (t : Bool) (x : ℕ) (xs ys zs : List ℕ) → xs ≡ ys ++ zs → (if t then x ∷ xs else xs) ≡ (if t then x ∷ ys else ys) ++ zs
head-if true x xs ys zs e = ap (λ (l : List ℕ). x ∷ l) e
head-if false x xs ys zs e = e

last-if : (t : Bool) (x : ℕ) → (if t then x ∷ [] else []) ≡ one_if t x
last-if true x = refl
last-if false x = refl

from-last : (test : ℕ → Bool) (from n : ℕ) → gears_from test from (suc n) ≡ gears_from test from n ++ one_if (test (from + n)) (from + n)
from-last test from zero =
    let none : from ≡ from + 0 = omega arith in
    subst (λ (k : ℕ). gears_from test from 1 ≡ gears_from test from 0 ++ one_if (test k) k) none (last-if (test from) from)
from-last test from (suc n) =
    let same : (from + 1) + n ≡ from + suc n = omega arith in
    let tail : gears_from test (from + 1) (suc n) ≡ gears_from test (from + 1) n ++ one_if (test (from + suc n)) (from + suc n)
    = subst (λ (k : ℕ). gears_from test (from + 1) (suc n) ≡ gears_from test (from + 1) n ++ one_if (test k) k) same (from-last test (from + 1) n) in
    head-if (test from) from (gears_from test (from + 1) (suc n)) (gears_from test (from + 1) n) (one_if (test (from + suc n)) (from + suc n)) tail

range-last : (test : ℕ → Bool) (from gear : ℕ) → from ≤ gear → gears_from test from ((gear + 1) - from) ≡ gears_from test from (gear - from) ++ one_if (test gear) gear
range-last test from gear le =
    let more : (gear + 1) - from ≡ suc (gear - from) = omega arith in
    let at : from + (gear - from) ≡ gear = omega arith in
    ap (gears_from test from) more
    ∙ subst (λ (k : ℕ). gears_from test from (suc (gear - from)) ≡ gears_from test from (gear - from) ++ one_if (test k) k) at (from-last test from (gear - from))

first-last : (test : ℕ → Bool) (gear : ℕ) → gears_from test 0 (gear + 1) ≡ gears_from test 0 gear ++ one_if (test gear) gear
first-last test gear =
    let more : gear + 1 ≡ suc gear = omega arith in
    let at : 0 + gear ≡ gear = omega arith in
    ap (gears_from test 0) more
    ∙ subst (λ (k : ℕ). gears_from test 0 (suc gear) ≡ gears_from test 0 gear ++ one_if (test k) k) at (from-last test 0 gear)

-- ---- one gear more was looked at

pub none_added : (wanted : Bool) (site gear : ℕ) (names : List NodeName) → wanted ≡ false → names ≡ names ++ map (AtGear site) (one_if wanted gear)
none_added wanted site gear names off = sym (append-nil names) ∙ ap (λ (b : Bool). names ++ map (AtGear site) (one_if b gear)) (sym off)

pub one_added : (wanted : Bool) (site gear : ℕ) (names more : List NodeName) → wanted ≡ true → more ≡ names ++ AtGear site gear ∷ [] → more ≡ names ++ map (AtGear site) (one_if wanted gear)
one_added wanted site gear names more on added = added ∙ ap (λ (b : Bool). names ++ map (AtGear site) (one_if b gear)) (sym on)

one-more : (f : ℕ → NodeName) (names more base : List NodeName) (ks ms : List ℕ) (t : Bool) (g : ℕ) → ms ≡ ks ++ one_if t g → more ≡ names ++ map f (one_if t g) → names ≡ base ++ map f ks → more ≡ base ++ map f ms
one-more f names more base ks ms t g e added is =
    added
    ∙ (ap (λ (l : List NodeName). l ++ map f (one_if t g)) is
    ∙ (append_assoc base (map f ks) (map f (one_if t g))
    ∙ ap (λ (l : List NodeName). base ++ l) (sym (ap (map f) e ∙ map-append f ks (one_if t g)))))

pub range_more : (test : ℕ → Bool) (wanted : Bool) (site from gear : ℕ) (names more base : List NodeName) → from ≤ gear → wanted ≡ test gear → more ≡ names ++ map (AtGear site) (one_if wanted gear) → names ≡ base ++ map (AtGear site) (gears_from test from (gear - from)) → more ≡ base ++ map (AtGear site) (gears_from test from ((gear + 1) - from))
range_more test wanted site from gear names more base le e added is =
    one-more (AtGear site) names more base (gears_from test from (gear - from)) (gears_from test from ((gear + 1) - from)) wanted gear
    (range-last test from gear le ∙ ap (λ (b : Bool). gears_from test from (gear - from) ++ one_if b gear) (sym e)) added is

pub range_starts : (test : ℕ → Bool) (site from : ℕ) (base : List NodeName) → base ≡ base ++ map (AtGear site) (gears_from test from (from - from))
range_starts test site from base =
    let none : 0 ≡ from - from = omega arith in
    sym (append-nil base) ∙ ap (λ (n : ℕ). base ++ map (AtGear site) (gears_from test from n)) none

pub first_more : (test : ℕ → Bool) (wanted : Bool) (site gear : ℕ) (names more : List NodeName) → wanted ≡ test gear → more ≡ names ++ map (AtGear site) (one_if wanted gear) → names ≡ map (AtGear site) (gears_from test 0 gear) → more ≡ map (AtGear site) (gears_from test 0 (gear + 1))
first_more test wanted site gear names more e added is =
    one-more (AtGear site) names more [] (gears_from test 0 gear) (gears_from test 0 (gear + 1)) wanted gear
    (first-last test gear ∙ ap (λ (b : Bool). gears_from test 0 gear ++ one_if b gear) (sym e)) added is

-- ---- whether a gear has one of some items

pub has_same : (d : Deployed) (items : Items) (n gear : ℕ) (found : Bool) → n ≡ d.gears → found ≡ has ◌==◌ (map (λ (x : ℕ). x % n) (list_of items)) gear → found ≡ has_item d items gear
has_same d items n gear found e is = is ∙ ap (λ (n : ℕ). has ◌==◌ (map (λ (x : ℕ). x % n) (list_of items)) gear) e
