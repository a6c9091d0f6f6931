-- Opened nodes by their names.
use Rattle.std.proofs.Common.{◌≡◌, ◌<◌, ◌≤◌, ℕ, List, [], ◌∷◌, ◌++◌, map, sym, subst, ap, arith, inl, inr}
use Rattle.sat_label.proofs.Members.{In-left}
use Rattle.sat_label.specs.Members.{In}
use Rattle.sat_label.specs.Words.{below}
use Rattle.sat_label.specs.declared.node.NodeName.{NodeName}
use Rattle.sat_label.specs.declared.node.NodeName.TheVariants as named
use Rattle.sat_act.specs.Deployed.{Deployed}
use Rattle.sat_stitch.specs.Kept.{Distinct}
use Rattle.sat_joint.specs.Pieces.{Piece}
use Rattle.sat_parts.specs.Layout.{gear_names, site_gears}
use Rattle.sat_opened.specs.Opened.{name_in, serial_names}
use Rattle.sat_opened.specs.Laws.{SerialHeld}
use Rattle.sat_opened.proofs.Found.{entries-of, found-named, look-up}
use Rattle.sat_opened.proofs.Layouts.{in-less, in-mapped}
use Rattle.sat_parts_opened.specs.Keeping.{node_of}
use Rattle.sat_parts_opened.specs.Laws.{GearHeld, HubHeld}
use Rattle.sat_parts_opened.specs.Opened.{PartsOpened}
use Rattle.sat_parts_opened.proofs.Named.{in-rows, nodes-cover, opened-are-journals}
use Rattle.sat_finish.specs.Walking.{HasNames}

in-image : {X Y : Type 0} (f : X → Y) (xs : List X) (x : X) → In xs x → In (map f xs) (f x)
in-image f [] x i = absurd i
in-image f (y ∷ xs) x (inl e) = inl (ap f e)
in-image f (y ∷ xs) x (inr i) = inr (in-image f xs x i)

-- of distinct images the members are distinct
distinct-of : {X Y : Type 0} (f : X → Y) (xs : List X) → Distinct (map f xs) → Distinct xs
distinct-of f [] a = tt
distinct-of f (x ∷ xs) a = (distinct-of f xs a.0, λ i. a.1 (in-image f xs x i))

distinct-front : {X : Type 0} (xs ys : List X) → Distinct (xs ++ ys) → Distinct xs
distinct-front [] ys a = tt
distinct-front (x ∷ xs) ys a = (distinct-front xs ys a.0, λ i. a.1 (In-left xs ys x i))

distinct-back : {X : Type 0} (xs ys : List X) → Distinct (xs ++ ys) → Distinct ys
distinct-back [] ys a = a
distinct-back (x ∷ xs) ys a = distinct-back xs ys a.0

gear-one : (i j g h : ℕ) → named.Gear i g ≡ named.Gear j h → g ≡ h
gear-one i j g h e = cc

too-far : (g n : ℕ) → g < n → n ≤ g → ⊥
too-far g n a b = omega arith

gear-below : (d : Deployed) (i g : ℕ) → In (gear_names d) (named.Gear i g) → g < d.gears
gear-below d i g m =
    let w : (j : ℕ) × In (below d.sites) j × In (site_gears d.gears j) (named.Gear i g) = in-rows (site_gears d.gears) (below d.sites) (named.Gear i g) m in
    let v : (h : ℕ) × In (below d.gears) h × (named.Gear w.0 h ≡ named.Gear i g) = in-mapped (named.Gear w.0) (below d.gears) (named.Gear i g) w.2 in
    subst (λ (n : ℕ). n < d.gears) (gear-one w.0 i v.0 g v.2) (in-less d.gears v.0 v.1)

module _ (d : Deployed) (hubs : List HubHeld) (gears : List GearHeld) (serials : List SerialHeld) (all : PartsOpened d hubs gears serials) where
  alone : ℕ → List Piece
  alone c = []

  all-names : Distinct (map named.Site (below d.sites) ++ (gear_names d ++ serial_names d))
  all-names = distinct-of node_of _ (nodes-cover d hubs gears serials alone (opened-are-journals d hubs gears serials all)).0

  hub-names : Distinct (map name_in hubs)
  hub-names = subst Distinct (sym all.all_hubs) (distinct-front (map named.Site (below d.sites)) (gear_names d ++ serial_names d) all-names)

  gears-names : Distinct (map name_in gears)
  gears-names = subst Distinct (sym all.all_gears) (distinct-front (gear_names d) (serial_names d) (distinct-back (map named.Site (below d.sites)) (gear_names d ++ serial_names d) all-names))

  pub has-names : HasNames d hubs gears
  has-names = record {
    hub = λ n i h at name. entries-of (named.Site i) hubs hub-names n h at name;
    gear = λ n i g h at name. entries-of (named.Gear i g) gears gears-names n h at name;
    far = λ i g le. elim (look-up (named.Gear i g) gears) [
      | inl f ↦ absurd (too-far g d.gears (gear-below d i g (subst (λ (ns : List NodeName). In ns (named.Gear i g)) all.all_gears (found-named (named.Gear i g) gears f))) le)
      | inr none ↦ none
    ];
  }
