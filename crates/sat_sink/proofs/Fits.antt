-- The tests of what gears gave are what the sink asks.
use Rattle.std.specs.Prelude.{◌≡◌, ◌<◌, ◌≤◌, ◌+◌, ℕ, zero, suc, Bool, true, ◌&&◌, ◌==◌, nat_le, nat_lt, List, [], ◌∷◌, length, get_or, refl}
use Rattle.std.proofs.Common.{subst, sym, ◌∙◌, arith, inl, inr}
use Rattle.std.proofs.Math.Nat.{eq-or-lt_of_le}
use Rattle.std.proofs.lemmas.Bool.{and_parts, eq-eqb, eqb-true, ltb-true, leb-true}
use Rattle.std.proofs.lemmas.Bool.Decides.{nat_tests}
use Rattle.sat_label.specs.declared.label.Label.{Label}
use Rattle.sat_label.specs.declared.point.Point.{Point}
use Rattle.sat_label.specs.Members.{In, is_made}
use Rattle.sat_label.specs.Order.{point_lt}
use Rattle.sat_bulk.specs.declared.Drained.{Drained}
use Rattle.sat_bulk.specs.Drains.{Rises, IsNew}
use Rattle.sat_sink.specs.Sink.{are_new, is_new, IsDrainOf, Sink}

new-is : (i g low high : ℕ) (l : Label) → is_new i g low high l ≡ true → IsNew i g low high l
new-is i g low high l e =
    let w = and_parts ((l.point.site == i) && (l.point.gear == g)) (is_made l.kind && (nat_lt low l.point.ts && nat_le l.point.ts high)) e in
    let v = and_parts (l.point.site == i) (l.point.gear == g) w.0 in
    let u = and_parts (is_made l.kind) (nat_lt low l.point.ts && nat_le l.point.ts high) w.1 in
    let t = and_parts (nat_lt low l.point.ts) (nat_le l.point.ts high) u.1 in
    record { site = eqb-true l.point.site i v.0; gear = eqb-true l.point.gear g v.1; made = u.0; above = ltb-true low l.point.ts t.0; upto = leb-true l.point.ts high t.1 }

both : (a b : Bool) → a ≡ true → b ≡ true → (a && b) ≡ true
both a b e f = (λ j. e j && f j)

is-new : (i g low high : ℕ) (l : Label) → IsNew i g low high l → is_new i g low high l ≡ true
is-new i g low high l n =
    let above : nat_lt low l.point.ts ≡ true = grind (arith, nat_tests, n.above) in
    let upto : nat_le l.point.ts high ≡ true = grind (arith, nat_tests, n.upto) in
    both _ _ (both _ _ (eq-eqb l.point.site i n.site) (eq-eqb l.point.gear g n.gear)) (both _ _ n.made (both _ _ above upto))

-- of one gear the point with the greater timestamp is the greater one
pub rising : (l m : Point) → l.site ≡ m.site → l.gear ≡ m.gear → l.ts < m.ts → point_lt l m ≡ true
rising l m s g lt = grind (arith, nat_tests, s, g, lt)

pub risen : (l m : Point) → l.site ≡ m.site → l.gear ≡ m.gear → point_lt l m ≡ true → l.ts < m.ts
risen l m s g e = grind (arith, nat_tests, s, g, e)

raised : (i g low mid high : ℕ) (l : Label) → low ≤ mid → IsNew i g mid high l → IsNew i g low high l
raised i g low mid high l le n = record { site = n.site; gear = n.gear; made = n.made; above = (let a : mid < l.point.ts = n.above in omega arith); upto = n.upto }

record AreNew (i g low high : ℕ) (ls : List Label) : Type 0 where
  rises : Rises ls
  labels : (l : Label) → In ls l → IsNew i g low high l

new-are : (i g high : ℕ) (ls : List Label) (low : ℕ) → are_new i g high ls low ≡ true → AreNew i g low high ls
new-are i g high [] low e = record { rises = tt; labels = λ l i. absurd i }
new-are i g high (l ∷ ls) low e =
    let w = and_parts (is_new i g low high l) (are_new i g high ls l.point.ts) e in
    let first : IsNew i g low high l = new-is i g low high l w.0 in
    let rest : AreNew i g l.point.ts high ls = new-are i g high ls l.point.ts w.1 in
    record {
      rises = (λ m k. let n = rest.labels m k in rising l.point m.point (first.site ∙ sym n.site) (first.gear ∙ sym n.gear) n.above, rest.rises);
      labels = λ m k. elim k [
        | inl same ↦ subst (IsNew i g low high) same first
        | inr there ↦ raised i g low l.point.ts high m (let a : low < l.point.ts = first.above in omega arith) (rest.labels m there)
      ];
    }

are-new : (i g high : ℕ) (ls : List Label) (low : ℕ) → Rises ls → ((l : Label) → In ls l → IsNew i g low high l) → are_new i g high ls low ≡ true
are-new i g high [] low rises labels = refl
are-new i g high (l ∷ ls) low rises labels =
    let first : IsNew i g low high l = labels l (inl refl) in
    both _ _ (is-new i g low high l first) (are-new i g high ls l.point.ts rises.1 (λ m k. let n = labels m (inr k) in record {
      site = n.site;
      gear = n.gear;
      made = n.made;
      above = risen l.point m.point (first.site ∙ sym n.site) (first.gear ∙ sym n.gear) (rises.0 m k);
      upto = n.upto;
    }))

-- by what the code tests
pub goes-on : (s : Sink) (site gear promise : ℕ) (d : Drained) (ls : List Label) → s.site ≡ site → get_or s.promises gear 0 ≡ promise → ls ≡ d.labels → promise ≤ d.promise → are_new site gear d.promise ls promise ≡ true → IsDrainOf s gear d
goes-on s site gear promise d ls own same labels le e =
    let w : AreNew site gear promise d.promise d.labels = new-are site gear d.promise d.labels promise (subst (λ (ls : List Label). are_new site gear d.promise ls promise ≡ true) labels e) in
    record {
      promise = subst (λ (n : ℕ). n ≤ d.promise) (sym same) le;
      rises = w.rises;
      labels = λ l i. subst (λ (n : ℕ). IsNew n gear (get_or s.promises gear 0) d.promise l) (sym own) (subst (λ (n : ℕ). IsNew site gear n d.promise l) (sym same) (w.labels l i));
    }

pub on-goes : (s : Sink) (site gear promise : ℕ) (d : Drained) (ls : List Label) → s.site ≡ site → get_or s.promises gear 0 ≡ promise → ls ≡ d.labels → IsDrainOf s gear d → (promise ≤ d.promise) × (are_new site gear d.promise ls promise ≡ true)
on-goes s site gear promise d ls own same labels k = (
  subst (λ (n : ℕ). n ≤ d.promise) same k.promise,
  subst (λ (ls : List Label). are_new site gear d.promise ls promise ≡ true) (sym labels)
      (are-new site gear d.promise d.labels promise k.rises (λ l i. subst (λ (n : ℕ). IsNew n gear promise d.promise l) own (subst (λ (n : ℕ). IsNew s.site gear n d.promise l) same (k.labels l i)))),
)

-- ---- one gear after another

pub one-more : (s : Sink) (n : ℕ) (drained : List Drained) (x : Drained) → n < length drained → x ≡ get_or drained n x → IsDrainOf s n x → ((g : ℕ) (d : Drained) → g < n → IsDrainOf s g (get_or drained g d)) → (g : ℕ) (d : Drained) → g < n + 1 → IsDrainOf s g (get_or drained g d)
one-more s n drained x lt e here before g d low = elim (eq-or-lt_of_le (let k : g ≤ n = omega arith in k)) [
  | inl same ↦ subst (λ (m : ℕ). IsDrainOf s m (get_or drained m d)) (sym same) (subst (IsDrainOf s n) (e ∙ there drained n lt) here)
  | inr less ↦ before g d less
]
  where
    there : (ds : List Drained) (n : ℕ) → n < length ds → get_or ds n x ≡ get_or ds n d
    there [] n lt = absurd (omega arith)
    there (y ∷ ds) zero lt = refl
    there (y ∷ ds) (suc n) lt = there ds n (omega arith)

pub read-at : (xs : List ℕ) (i x d : ℕ) → i < length xs → x ≡ get_or xs i x → get_or xs i d ≡ x
read-at [] i x d lt e = absurd (omega arith)
read-at (y ∷ xs) zero x d lt e = sym e
read-at (y ∷ xs) (suc i) x d lt e = read-at xs i x d (omega arith) e
