-- Lists of lanes and of the names of gears, one more at a time.
use Rattle.std.specs.Prelude.{◌≡◌, ◌+◌, ℕ, suc, List, [], ◌∷◌, ◌++◌, map}
use Rattle.std.specs.List.{flat_map}
use Rattle.std.proofs.Common.{sym, ap, ◌∙◌, subst, arith}
use Rattle.std.proofs.lemmas.List.{append-nil, append_assoc, map-append}
use Rattle.std.proofs.lemmas.List.Concat.{flat_map-append}
use Rattle.sat_label.specs.declared.node.NodeName.{NodeName}
use Rattle.sat_label.specs.declared.node.NodeName.TheVariants.{Gear as AtGear}
use Rattle.sat_label.specs.Words.{below}
use Rattle.sat_act.specs.Deployed.{Deployed}
use Rattle.sat_machines.specs.Layout.{peer}
use Rattle.sat_node.specs.Links.{HeldSeen}
use Rattle.sat_opened.specs.Opened.{name_in}
use Rattle.sat_parts.specs.Layout.{Lane, gear_lanes, lane, lanes_from, site_gears, site_lanes}
use Rattle.sat_wires.specs.Wires.{AllNew, IsNew}
use Rattle.sat_wires.proofs.Names.{AreNew}
use Rattle.sat_wires.proofs.Pairs.{each-more}
use Rattle.sat_parts_wires.specs.Lanes.{lanes_out}

-- one more below a number
below-more : (n : ℕ) → below (n + 1) ≡ below n ++ n ∷ []
below-more n = let e : n + 1 ≡ suc n = omega arith in ap (λ (m : ℕ). below m) e

mapped-more : {Y : Type 0} (f : ℕ → Y) (n : ℕ) → map f (below (n + 1)) ≡ map f (below n) ++ f n ∷ []
mapped-more f n = ap (map f) (below-more n) ∙ map-append f (below n) (n ∷ [])

flat-more : {Y : Type 0} (f : ℕ → List Y) (n : ℕ) → flat_map f (below (n + 1)) ≡ flat_map f (below n) ++ f n
flat-more {Y} f n =
    ap (λ (ns : List ℕ). flat_map f ns) (below-more n) ∙ (flat_map-append f (below n) (n ∷ []) ∙ ap (λ (ys : List Y). flat_map f (below n) ++ ys) (append-nil (f n)))

-- ---- lanes

-- the lanes to site i from the first gears of site j
abbrev pub lanes_in : ℕ → ℕ → ℕ → List Lane
lanes_in i j n = map (λ g. lane j g i) (below n)

-- and from those of its first peers
abbrev pub lanes_of_peers : Deployed → ℕ → ℕ → List Lane
lanes_of_peers d i n = flat_map (λ k. lanes_from d i (peer i k)) (below n)

pub out_more : (i g n : ℕ) → lanes_out i g (n + 1) ≡ lanes_out i g n ++ lane i g (peer i n) ∷ []
out_more i g n = mapped-more (λ k. lane i g (peer i k)) n

pub from_more : (i j n : ℕ) → lanes_in i j (n + 1) ≡ lanes_in i j n ++ lane j n i ∷ []
from_more i j n = mapped-more (λ g. lane j g i) n

pub to_more : (d : Deployed) (i n : ℕ) → lanes_of_peers d i (n + 1) ≡ lanes_of_peers d i n ++ lanes_from d i (peer i n)
to_more d i n = flat-more (λ k. lanes_from d i (peer i k)) n

pub site_more : (d : Deployed) (i n : ℕ) → flat_map (gear_lanes d i) (below (n + 1)) ≡ flat_map (gear_lanes d i) (below n) ++ gear_lanes d i n
site_more d i n = flat-more (gear_lanes d i) n

pub all_more : (d : Deployed) (n : ℕ) → flat_map (site_lanes d) (below (n + 1)) ≡ flat_map (site_lanes d) (below n) ++ site_lanes d n
all_more d n = flat-more (site_lanes d) n

-- ---- gears

-- one gear more of a site
pub gears_grow : {M I A : Type 0} (before : List NodeName) (i n : ℕ) (hs hs' : List (HeldSeen M I A)) (h : HeldSeen M I A) → hs' ≡ hs ++ h ∷ [] → AreNew (before ++ map (AtGear i) (below n)) hs → name_in h ≡ AtGear i n → IsNew h →
    AreNew (before ++ map (AtGear i) (below (n + 1))) hs'
gears_grow {M} {I} {A} before i n hs hs' h is are w one =
    let same : (before ++ map (AtGear i) (below n)) ++ AtGear i n ∷ [] ≡ before ++ map (AtGear i) (below (n + 1)) =
    append_assoc before (map (AtGear i) (below n)) (AtGear i n ∷ []) ∙ ap (λ (ns : List NodeName). before ++ ns) (sym (mapped-more (AtGear i) n)) in
    record {
      named = ap (map name_in) is ∙ (map-append name_in hs (h ∷ []) ∙ ((λ j. are.named j ++ w j ∷ []) ∙ same));
      each = subst (λ (xs : List (HeldSeen M I A)). AllNew xs) (sym is) (each-more (λ _ h. IsNew h) hs h are.each one);
    }

-- the gears of one site more
pub gears_more : {M I A : Type 0} (gears n : ℕ) (hs hs' : List (HeldSeen M I A)) → AreNew (flat_map (site_gears gears) (below n)) hs → map name_in hs' ≡ map name_in hs ++ site_gears gears n → AllNew hs' →
    AreNew (flat_map (site_gears gears) (below (n + 1))) hs'
gears_more gears n hs hs' are names all = record {
  named = names ∙ (ap (λ (ns : List NodeName). ns ++ site_gears gears n) are.named ∙ sym (flat-more (site_gears gears) n));
  each = all;
}
