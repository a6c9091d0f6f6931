-- The ends of lanes: a lane has one place at its gear and at the hub of the other site.
use Rattle.std.proofs.Common.{◌≡◌, ◌<◌, ℕ, ◌+◌, ◌-◌, ◌*◌, zero, suc, Bool, true, false, ◌==◌, nat_lt, List, [], ◌∷◌, ◌++◌, length, map, Some, slice_get, if◌then◌else◌, refl, sym, ap, ◌∙◌, subst, arith}
use Rattle.std.specs.List.{flat_map}
use Rattle.std.proofs.lemmas.List.{length-map, length-append}
use Rattle.std.proofs.lemmas.Bool.Decides.{nat_tests}
use Rattle.std.proofs.Math.Nat.{suc-mul}
use Rattle.sat_label.proofs.Numbers.{length-below, get-after, below-get, get-map}
use Rattle.sat_label.specs.Words.{below}
use Rattle.sat_label.specs.declared.node.NodeId.TheVariants.{Site, Serializer}
use Rattle.sat_label.specs.declared.node.NodeName.TheVariants as named
use Rattle.sat_tree.specs.Shape.{TreeShape}
use Rattle.sat_tree.specs.Cut.{seat_of}
use Rattle.sat_act.specs.Deployed.{Deployed}
use Rattle.sat_act.specs.Parts.{tree_of}
use Rattle.sat_machines.specs.Layout.{Bulk, Edge, peer, trees_of, site_links, label_link, in_places as site_in_places, out_places as site_out_places, place_back}
use Rattle.sat_parts.specs.Layout.{lane, lane_end, lane_place, lanes_from, lanes_to, gear_lanes, part_ins, part_outs, rank}
use Rattle.sat_opened.proofs.Numbers.{differ}
use Rattle.sat_opened.proofs.Layouts.{IsEnd, TreeAt, tree-at}
use Rattle.sat_opened.proofs.Deliveries.{get-more}

-- ---- lists of lists of one length

no-rows : (n m : ℕ) → 0 * n + m ≡ m
no-rows n m = omega arith

after-row : (r n m : ℕ) → (r + n) + m ≡ n + (r + m)
after-row r n m = omega arith

pub flat-get : {X Y : Type 0} (f : X → List Y) (n : ℕ) → ((x : X) → length (f x) ≡ n) → (xs : List X) (k m : ℕ) (x : X) (y : Y) → slice_get xs k ≡ Some x → slice_get (f x) m ≡ Some y → slice_get (flat_map f xs) (k * n + m) ≡ Some y
flat-get f n len [] k m x y e at = absurd (cc)
flat-get {X} {Y} f n len (z ∷ xs) zero m x y e at =
    let same : z ≡ x = cc in
    ap (λ (p : ℕ). slice_get (f z ++ flat_map f xs) p) (no-rows n m) ∙ get-more (f z) (flat_map f xs) y m (subst (λ (x : X). slice_get (f x) m ≡ Some y) (sym same) at)
flat-get {X} {Y} f n len (z ∷ xs) (suc k) m x y e at =
    ap (λ (p : ℕ). slice_get (f z ++ flat_map f xs) p) (ap (λ (p : ℕ). p + m) (suc-mul k n) ∙ (after-row (k * n) n m ∙ ap (λ (p : ℕ). p + (k * n + m)) (sym (len z)))) ∙
    (get-after (f z) (flat_map f xs) (k * n + m) ∙ flat-get f n len xs k m x y e at)

-- ---- ranks

low-rank : (i k : ℕ) → nat_lt k i ≡ true → (if nat_lt k i then k else k - 1) ≡ k
low-rank i k e = ap (λ (b : Bool). if b then k else k - 1) e

high-rank : (i k : ℕ) → nat_lt k i ≡ false → (if nat_lt (k + 1) i then k + 1 else (k + 1) - 1) ≡ k
high-rank i k e = ap (λ (b : Bool). if b then k + 1 else (k + 1) - 1) (above i k e) ∙ back k
  where
    above : (i k : ℕ) → nat_lt k i ≡ false → nat_lt (k + 1) i ≡ false
    above i k e = grind (arith, nat_tests)

    back : (k : ℕ) → (k + 1) - 1 ≡ k
    back k = omega arith

peer-rank : (i k : ℕ) → rank i (peer i k) ≡ k
peer-rank i k = go (nat_lt k i) refl
  where
    go : (b : Bool) → nat_lt k i ≡ b → rank i (if b then k else k + 1) ≡ k
    go true e = low-rank i k e
    go false e = high-rank i k e

pub rank-end : (d : Deployed) (i j k : ℕ) → IsEnd d i j k → rank i j ≡ k
rank-end d i j k e = ap (rank i) (sym e.peer) ∙ peer-rank i k

-- ---- both ends of a lane

pub lane-out : (d : Deployed) (i g k : ℕ) → k < d.sites - 1 → slice_get (part_outs d (named.Gear i g)) k ≡ Some (lane_place d (lane i g (peer i k)))
unfolding part_outs
lane-out d i g k lt = get-map (lane_place d) (gear_lanes d i g) k (lane i g (peer i k)) (get-map (λ k. lane i g (peer i k)) (below (d.sites - 1)) k k (below-get (d.sites - 1) k lt))

from-length : (d : Deployed) (i j : ℕ) → length (lanes_from d i j) ≡ d.gears
from-length d i j = length-map (below d.gears) (λ g. lane j g i) ∙ length-below d.gears

lane-among : (d : Deployed) (i j g k : ℕ) → IsEnd d i j k → g < d.gears → slice_get (lanes_to d i) (k * d.gears + g) ≡ Some (lane j g i)
lane-among d i j g k e lt =
    flat-get (λ k. lanes_from d i (peer i k)) d.gears (λ k. from-length d i (peer i k)) (below (d.sites - 1)) k g k (lane j g i) (below-get (d.sites - 1) k e.within)
    (ap (λ (j : ℕ). slice_get (lanes_from d i j) g) e.peer ∙ get-map (λ g. lane j g i) (below d.gears) g g (below-get d.gears g lt))

ins-length : (d : Deployed) (i : ℕ) → length (site_in_places d (named.Site i)) ≡ length (site_links d i)
unfolding site_in_places
ins-length d i = length-map (site_links d i) (place_back d)

pub behind-links : (a r c g : ℕ) → (a + r * c) + g ≡ a + (r * c + g)
behind-links a r c g = omega arith

pub lane-in : (d : Deployed) (i j g k : ℕ) → IsEnd d i j k → g < d.gears → slice_get (part_ins d (named.Site i)) (lane_end d i j g) ≡ Some (lane_place d (lane j g i))
unfolding part_ins
lane-in d i j g k e lt =
    ap (λ (p : ℕ). slice_get (site_in_places d (named.Site i) ++ map (lane_place d) (lanes_to d i)) p)
    (ap (λ (r : ℕ). (length (site_links d i) + r * d.gears) + g) (rank-end d i j k e) ∙
    (behind-links (length (site_links d i)) k d.gears g ∙ ap (λ (n : ℕ). n + (k * d.gears + g)) (sym (ins-length d i)))) ∙
    (get-after (site_in_places d (named.Site i)) (map (lane_place d) (lanes_to d i)) (k * d.gears + g) ∙
    get-map (lane_place d) (lanes_to d i) (k * d.gears + g) (lane j g i) (lane-among d i j g k e lt))

-- the other ends are as they are between sites
pub ins-front : (d : Deployed) (i k place : ℕ) → slice_get (site_in_places d (named.Site i)) k ≡ Some place → slice_get (part_ins d (named.Site i)) k ≡ Some place
unfolding part_ins
ins-front d i k place e = get-more (site_in_places d (named.Site i)) (map (lane_place d) (lanes_to d i)) place k e

pub outs-front : (d : Deployed) (i k place : ℕ) → slice_get (site_out_places d (named.Site i)) k ≡ Some place → slice_get (part_outs d (named.Site i)) k ≡ Some place
unfolding part_outs
outs-front d i k place e = e

-- ---- no lane has the end of a tree

inside : {X : Type 0} (xs : List X) (k : ℕ) (x : X) → slice_get xs k ≡ Some x → k < length xs
inside [] k x e = absurd (cc)
inside (y ∷ ys) zero x e = omega arith
inside (y ∷ ys) (suc k) x e = let w : k < length ys = inside ys k x e in omega arith

links-length : (d : Deployed) (i : ℕ) → length (site_links d i) ≡ (d.sites - 1) + length (trees_of d)
links-length d i =
    length-append (map (λ k. Bulk i (peer i k)) (below (d.sites - 1))) (map (λ p. Edge p.epoch (Site i) (Serializer (seat_of p.tree i))) (trees_of d)) ∙
    (λ t. (length-map (below (d.sites - 1)) (λ k. Bulk i (peer i k)) ∙ length-below (d.sites - 1)) t + length-map (trees_of d) (λ p. Edge p.epoch (Site i) (Serializer (seat_of p.tree i))) t)

pub no-lane : (d : Deployed) (i from g e : ℕ) (t : TreeShape) → tree_of d e ≡ Some t → (label_link d e == lane_end d i from g) ≡ false
no-lane d i from g e t tree =
    let at : TreeAt d e t = tree-at d e t tree in
    differ (label_link d e) (lane_end d i from g)
    (clash (label_link d e) (d.sites - 1) at.index (length (trees_of d)) (length (site_links d i)) (rank i from * d.gears) g at.end (inside (trees_of d) at.index _ at.there) (links-length d i))
  where
    clash : (l s n m a r g : ℕ) → l ≡ s + n → n < m → a ≡ s + m → l ≡ (a + r) + g → ⊥
    clash l s n m a r g p q w e = omega arith
