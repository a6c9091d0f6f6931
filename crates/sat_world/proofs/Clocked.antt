-- The loops over promises and clocks.
use Rattle.std.specs.Prelude.{◌≡◌, ◌⊎◌, ◌<◌, ◌≤◌, ◌+◌, ℕ, suc, false, ◌==◌, max, List, length, set, get_or, Some, slice_get, refl}
use Rattle.std.proofs.Common.{sym, subst, ◌∙◌, arith, inl, inr}
use Rattle.std.proofs.Math.Numerals.{add-one}
use Rattle.std.proofs.lemmas.Bool.Decides.{nat_tests}
use Rattle.sat_gear.specs.Gear.{GearSeen}
use Rattle.sat_act.specs.Deployed.{Deployed}
use Rattle.sat_model.specs.State.{SiteState}
use Rattle.sat_site.specs.Seen.{SiteSeen, IsSite}
use Rattle.sat_site.specs.Changes.{clocked}
use Rattle.sat_site.specs.Stands.{StandsSite}
use Rattle.sat_site.specs.Gives.{PromisesUpTo}
use Rattle.sat_world.specs.Clocks.{greatest_of, IsTop, IsGreatestOf, AreUpTo, IsClocked, AreClocked}
use Rattle.sat_world.proofs.Lists.{get-is, set-cases, set-there, length-set, within, both-are}

-- ---- the greatest promise

greatest-suc : (f : ℕ → ℕ) (n : ℕ) → greatest_of f (suc n) ≡ max (greatest_of f n) (f n)
unfolding greatest_of
greatest-suc f n = refl

pub greatest-none : (f : ℕ → ℕ) → greatest_of f 0 ≡ 0
unfolding greatest_of
greatest-none f = refl

pub greatest-more : (f : ℕ → ℕ) (n m p : ℕ) → m ≡ greatest_of f n → p ≡ f n → max m p ≡ greatest_of f (n + 1)
greatest-more f n m p e g = rw add-one ((λ i. max (e i) (g i)) ∙ sym (greatest-suc f n))

pub top-more : (x : SiteSeen) (n m p : ℕ) → IsTop x n m → ((d : Deployed) (i : ℕ) (s : SiteState) → StandsSite d i x s → p ≡ (s.gears n).promise) → IsTop x (n + 1) (max m p)
top-more x n m p old new = λ d i s st. greatest-more (λ g. (s.gears g).promise) n m p (old d i s st) (new d i s st)

pub sites-more : (xs : List SiteSeen) (m n t p : ℕ) (x : SiteSeen) → m < length xs → x ≡ get_or xs m x → IsGreatestOf xs m n t → IsTop x n p → IsGreatestOf xs (m + 1) n (max t p)
sites-more xs m n t p x lt e old new = λ d S st.
    greatest-more (λ i. greatest_of (λ g. ((S i).gears g).promise) n) m t p (old d S st) (new d m (S m) (st m x (subst (λ (y : SiteSeen). slice_get xs m ≡ Some y) (sym e) (get-is xs m x lt))))

pub max-left : (a b c : ℕ) → a ≤ b → a ≤ max b c
max-left a b c e = omega arith

pub max-right : (a b c : ℕ) → a ≤ c → a ≤ max b c
max-right a b c e = omega arith

pub up-to-more : (xs : List GearSeen) (n m p : ℕ) → ((g : ℕ) (x : GearSeen) → slice_get xs g ≡ Some x → g < n → x.promise ≤ m) → ((x : GearSeen) → slice_get xs n ≡ Some x → p ≡ x.promise) →
    (g : ℕ) (x : GearSeen) → slice_get xs g ≡ Some x → g < n + 1 → x.promise ≤ max m p
up-to-more xs n m p old new g x at lt = elim (split g n lt) [
  | inl less ↦ max-left x.promise m p (old g x at less)
  | inr same ↦ let e : p ≡ x.promise = new x (subst (λ (g : ℕ). slice_get xs g ≡ Some x) same at) in max-right x.promise m p (omega arith)
]
  where
    split : (g n : ℕ) → g < n + 1 → (g < n) ⊎ (g ≡ n)
    split g n lt = grind arith

pub all-up-to-more : (xs : List SiteSeen) (n m p : ℕ) (y : SiteSeen) → n < length xs → y ≡ get_or xs n y → ((i : ℕ) (x : SiteSeen) → slice_get xs i ≡ Some x → i < n → PromisesUpTo x m) → PromisesUpTo y p →
    (i : ℕ) (x : SiteSeen) → slice_get xs i ≡ Some x → i < n + 1 → PromisesUpTo x (max m p)
all-up-to-more xs n m p y long is old new i x at lt = λ g gear has. elim (split i n lt) [
  | inl less ↦ max-left gear.promise m p (old i x at less g gear has)
  | inr same ↦
      let here : slice_get xs n ≡ Some y = subst (λ (z : SiteSeen). slice_get xs n ≡ Some z) (sym is) (get-is xs n y long) in
      let there : slice_get xs n ≡ Some x = subst (λ (i : ℕ). slice_get xs i ≡ Some x) same at in
      let e : y ≡ x = cc in
      max-right gear.promise m p (new g gear (subst (λ (z : SiteSeen). slice_get z.gears g ≡ Some gear) (sym e) has))
]
  where
    split : (g n : ℕ) → g < n + 1 → (g < n) ⊎ (g ≡ n)
    split g n lt = grind arith

-- ---- the clock of the first n sites

pub record RaisedTo (n ts : ℕ) (xs ys : List SiteSeen) : Type 0 where
  pub count : length ys ≡ length xs
  pub each : (i : ℕ) (x y : SiteSeen) → i < n → slice_get xs i ≡ Some x → slice_get ys i ≡ Some y → IsClocked ts x y
  pub left : (i : ℕ) → n ≤ i → slice_get ys i ≡ slice_get xs i

pub raised-none : (ts : ℕ) (xs : List SiteSeen) → RaisedTo 0 ts xs xs
raised-none ts xs = record {
  count = refl;
  each = λ i x y lt. absurd (omega arith);
  left = λ i le. refl;
}

pub raised-more : (n ts : ℕ) (xs ys : List SiteSeen) (e z : SiteSeen) → RaisedTo n ts xs ys → n < length ys → IsSite (get_or ys n e) → z ≡ clocked (get_or ys n e) ts → RaisedTo (n + 1) ts xs (set ys n z)
raised-more n ts xs ys e z r lt sound is = record {
  count = length-set ys n z ∙ r.count;
  each = λ i x w low at now. elim (set-cases ys n i z w now) [
    | inl u ↦ subst (λ (w : SiteSeen). IsClocked ts x w) u.1 (subst (λ (x : SiteSeen). IsClocked ts x z) (old i x u.0 at) (record { sound = sound; after = is }))
    | inr u ↦ r.each i x w (less i u.0 low) at u.1
  ];
  left = λ i le. set-there ys n i z (apart i le) ∙ r.left i (omega arith);
}
  where
    here : slice_get ys n ≡ Some (get_or ys n e)
    here = get-is ys n e lt

    old : (i : ℕ) (x : SiteSeen) → n ≡ i → slice_get xs i ≡ Some x → get_or ys n e ≡ x
    old i x f at = both-are (slice_get ys n) (get_or ys n e) x here (r.left n (omega arith) ∙ subst (λ (i : ℕ). slice_get xs i ≡ Some x) (sym f) at)

    less : (i : ℕ) → (n == i) ≡ false → i < n + 1 → i < n
    less i ne low = grind (arith, nat_tests)

    apart : (i : ℕ) → n + 1 ≤ i → (n == i) ≡ false
    apart i le = grind (arith, nat_tests)

pub raised-all : (n ts : ℕ) (xs ys : List SiteSeen) → RaisedTo n ts xs ys → length xs ≤ n → AreClocked ts xs ys
raised-all n ts xs ys r long = record {
  count = r.count;
  each = λ i x y at now. let lt : i < length xs = within xs i x at in r.each i x y (omega arith) at now;
}

pub left-up-to : (n ts : ℕ) (xs ys : List SiteSeen) (e : SiteSeen) → RaisedTo n ts xs ys → n < length ys → AreUpTo xs ts → PromisesUpTo (get_or ys n e) ts
left-up-to n ts xs ys e r lt up = up n (get_or ys n e) (sym (r.left n (omega arith)) ∙ get-is ys n e lt)
