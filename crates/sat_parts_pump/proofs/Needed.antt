-- Which gears of a site are lent to an act of its hub.
use Rattle.std.proofs.Common.{◌≡◌, ℕ, zero, suc, ◌+◌, ◌-◌, ◌<◌, ◌≤◌, ◌%◌, ◌==◌, ◌&&◌, Bool, true, false, List, [], ◌∷◌, length, map, Option, Some, None, slice_get, refl, sym, ap, ◌∙◌, subst, arith}
use Rattle.std.specs.Prelude.{if◌then◌else◌}
use Rattle.std.proofs.lemmas.Option.{slice_get_past}
use Rattle.std.specs.declared.sync.MutexGuard.{MutexGuard}
use Rattle.sat_label.specs.declared.node.NodeName.{NodeName}
use Rattle.sat_label.specs.declared.node.NodeName.TheVariants as named
use Rattle.sat_label.specs.declared.site_set.SiteSet.{SiteSet}
use Rattle.sat_label.specs.Order.{name_eq}
use Rattle.sat_label.specs.Words.{bit}
use Rattle.sat_sites.specs.Interested.{Interested, keeps}
use Rattle.sat_sites.specs.declared.shape.Shape.{Shape}
use Rattle.sat_node.specs.Together.{lent}
use Rattle.sat_parts_passes.specs.Gathers.{GearHeld}
use Rattle.sat_parts_pump.specs.Lent.{gears_from, name_of, names_eq, shows_item}

-- ---- an item that is not known

kept-none : (a : Interested) (n k : ℕ) (o : Option SiteSet) → slice_get a.replicas n ≡ o → o ≡ None → keeps a n k ≡ false
kept-none a n k o at is = rw (keeps, at ∙ is) refl

none-of : (a b : Bool) → b ≡ false → false ≡ (a && b)
none-of true b e = sym e
none-of false b e = refl

pub unknown_item : (shape : Shape) (g n known : ℕ) → known ≡ length shape.interest.replicas → known ≤ n → false ≡ shows_item shape g n
unknown_item shape g n known is le =
    let past : length shape.interest.replicas ≤ n = omega arith in
    none-of (n % shape.gears == g) (keeps shape.interest n shape.site) (kept-none shape.interest n shape.site None (slice_get_past shape.interest.replicas n past) refl)

-- ---- names, gear by gear

pub no_names : (gs : List (MutexGuard GearHeld)) → length gs ≡ 0 → map name_of (lent gs) ≡ []
no_names [] e = refl
no_names (g ∷ gs) e = absurd (cc (e))

-- those of so many gears from this one on
abbrev wanted : (ℕ → Bool) → ℕ → ℕ → ℕ → List NodeName
wanted test site from n = map (named.Gear site) (gears_from test from n)

none-left : (test : ℕ → Bool) (site from n : ℕ) → n ≡ 0 → wanted test site from n ≡ []
none-left test site from n e = ap (wanted test site from) e

skipped : (test : ℕ → Bool) (site from n m : ℕ) → n ≡ suc m → test from ≡ false → wanted test site from n ≡ wanted test site (from + 1) m
skipped test site from n m e other =
    ap (wanted test site from) e
    ∙ ap (λ (b : Bool). map (named.Gear site) (if b then from ∷ gears_from test (from + 1) m else gears_from test (from + 1) m)) other

taken : (test : ℕ → Bool) (site from n m : ℕ) → n ≡ suc m → test from ≡ true → wanted test site from n ≡ named.Gear site from ∷ wanted test site (from + 1) m
taken test site from n m e one =
    ap (wanted test site from) e
    ∙ ap (λ (b : Bool). map (named.Gear site) (if b then from ∷ gears_from test (from + 1) m else gears_from test (from + 1) m)) one

nothing-left : (gears from : ℕ) → gears ≤ from → gears - from ≡ 0
nothing-left gears from le = omega arith

one-less : (gears from : ℕ) → from < gears → gears - from ≡ suc (gears - (from + 1))
one-less gears from less = omega arith

module _ (test : ℕ → Bool) (site gears from : ℕ) where
  -- no gear is left
  pub names_none : (names : List NodeName) → gears ≤ from → names ≡ [] → true ≡ names_eq names (wanted test site from (gears - from))
  names_none names le none = sym ((λ i. names_eq (none i) (wanted test site from (gears - from))) ∙ ap (names_eq []) (none-left test site from (gears - from) (nothing-left gears from le)))

  pub names_over : (names rest : List NodeName) (name : NodeName) → gears ≤ from → names ≡ name ∷ rest → false ≡ names_eq names (wanted test site from (gears - from))
  names_over names rest name le is = sym ((λ i. names_eq (is i) (wanted test site from (gears - from))) ∙ ap (names_eq (name ∷ rest)) (none-left test site from (gears - from) (nothing-left gears from le)))

  -- this gear is not one of them
  pub names_skip : (names : List NodeName) (b : Bool) → from < gears → test from ≡ false → b ≡ names_eq names (wanted test site (from + 1) (gears - (from + 1))) → b ≡ names_eq names (wanted test site from (gears - from))
  names_skip names b less other is = is ∙ sym (ap (names_eq names) (skipped test site from (gears - from) (gears - (from + 1)) (one-less gears from less) other))

  -- it is one of them
  pub names_short : (names : List NodeName) → from < gears → test from ≡ true → names ≡ [] → false ≡ names_eq names (wanted test site from (gears - from))
  names_short names less one none = sym ((λ i. names_eq (none i) (wanted test site from (gears - from))) ∙ ap (names_eq []) (taken test site from (gears - from) (gears - (from + 1)) (one-less gears from less) one))

  pub names_next : (names rest : List NodeName) (name : NodeName) (here more : Bool) → from < gears → test from ≡ true → names ≡ name ∷ rest → here ≡ name_eq name (named.Gear site from)
      → more ≡ names_eq rest (wanted test site (from + 1) (gears - (from + 1))) → (here && more) ≡ names_eq names (wanted test site from (gears - from))
  names_next names rest name here more less needed is same others =
      (λ i. same i && others i)
      ∙ sym ((λ i. names_eq (is i) (wanted test site from (gears - from))) ∙ ap (names_eq (name ∷ rest)) (taken test site from (gears - from) (gears - (from + 1)) (one-less gears from less) needed))
