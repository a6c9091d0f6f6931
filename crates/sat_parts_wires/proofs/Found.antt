-- The places of lanes, and the ends of nodes at their places.
use Rattle.std.specs.Prelude.{◌≡◌, ◌<◌, ◌+◌, ◌^◌, ℕ, List, [], ◌++◌, length, map, position, unwrap_or, Option, Some, None}
use Rattle.std.proofs.Common.{sym, ap, ◌∙◌, subst, arith}
use Rattle.std.proofs.lemmas.List.Quantifiers.{position-Some}
use Rattle.sat_label.specs.declared.node.NodeName.TheVariants.{Gear as AtGear, Site as AtSite}
use Rattle.sat_act.specs.Deployed.{Deployed}
use Rattle.sat_link.specs.Ends.{Sender, Receiver}
use Rattle.sat_node.specs.declared.kept.Envelope.{Envelope}
use Rattle.sat_node.specs.Links.{Each, InSeen, in_places}
use Rattle.sat_machines.specs.Layout.{Link, all_links, site_links}
use Rattle.sat_parts.specs.Layout.{Lane, all_lanes, gear_lanes, lane_eq, lane_place, lanes_to, part_ins, part_outs}
use Rattle.sat_wires.specs.Ends.{ArePairs}
use Rattle.sat_wires.specs.Wires.{IsFreshIn}
use Rattle.sat_wires.specs.Ways.{place_back_in, place_in}
use Rattle.sat_wires.proofs.Places.{site_ins, site_outs}
use Rattle.sat_parts_wires.specs.Lanes.{IsWires, place_behind}

-- ---- places

pub place_found : (first : ℕ) (all : List Lane) (l : Lane) (o : Option ℕ) (k : ℕ) → o ≡ position (lane_eq l) all → o ≡ Some k → first + k ≡ place_behind first all l
place_found first all l o k e f = ap (λ (p : Option ℕ). first + unwrap_or p 0) (sym f ∙ e)

pub place_missed : (first : ℕ) (all : List Lane) (l : Lane) (o : Option ℕ) → o ≡ position (lane_eq l) all → o ≡ None → first ≡ place_behind first all l
place_missed first all l o e f =
    let z : first ≡ first + 0 = omega arith in
    z ∙ ap (λ (p : Option ℕ). first + unwrap_or p 0) (sym f ∙ e)

pub place_small : (first : ℕ) (all : List Lane) (l : Lane) (o : Option ℕ) (k : ℕ) → o ≡ position (lane_eq l) all → o ≡ Some k → first + length all < 2 ^ 64 → first + k < 2 ^ 64
place_small first all l o k e f small =
    let less : k < length all = (position-Some (lane_eq l) all k l (sym e ∙ f)).0 in
    omega arith

-- ---- the ends of a hub and of a gear lie where their links do

pub hub_outs : (d : Deployed) (i : ℕ) (all own : List Link) (ks : List ℕ) → all ≡ all_links d → own ≡ site_links d i → ks ≡ map (place_in all) own → ks ≡ part_outs d (AtSite i)
unfolding part_outs
hub_outs d i all own ks a b e = site_outs d i all own ks a b e

lane-places : (d : Deployed) (first : ℕ) (all own lanes : List Lane) (ks : List ℕ) → first ≡ length (all_links d) → all ≡ all_lanes d → own ≡ lanes → ks ≡ map (place_behind first all) own → ks ≡ map (lane_place d) lanes
lane-places d first all own lanes ks f a o e = e ∙ (λ i. map (place_behind (f i) (a i)) (o i))

pub hub_ins : (d : Deployed) (i first : ℕ) (links own : List Link) (all coming : List Lane) (js ks ms : List ℕ) → links ≡ all_links d → own ≡ site_links d i → first ≡ length links → all ≡ all_lanes d → coming ≡ lanes_to d i →
    js ≡ map (place_back_in links) own → ks ≡ map (place_behind first all) coming → ms ≡ js ++ ks → ms ≡ part_ins d (AtSite i)
unfolding part_ins
hub_ins d i first links own all coming js ks ms a b f l c e g h =
    let back = site_ins d i links own js a b e in
    let to = lane-places d first all coming (lanes_to d i) ks (f ∙ ap (λ (ls : List Link). length ls) a) l c g in
    h ∙ (λ k. back k ++ to k)

pub gear_outs : (d : Deployed) (i g first : ℕ) (all own : List Lane) (ks ms : List ℕ) → first ≡ length (all_links d) → all ≡ all_lanes d → own ≡ gear_lanes d i g → ks ≡ map (place_behind first all) own → ms ≡ ks → ms ≡ part_outs d (AtGear i g)
unfolding part_outs
gear_outs d i g first all own ks ms f a o e m = m ∙ lane-places d first all own (gear_lanes d i g) ks f a o e

-- none leads into a gear
pub gear_ins : (d : Deployed) (i g : ℕ) (is : List InSeen) → is ≡ [] → in_places is ≡ part_ins d (AtGear i g)
unfolding part_ins
gear_ins d i g is e = ap in_places e

pub no_ins : (is : List InSeen) → is ≡ [] → Each is (λ _ i. IsFreshIn i)
no_ins is e = subst (λ (is : List InSeen). Each is (λ _ i. IsFreshIn i)) (sym e) (λ k x at. absurd (cc))

-- ---- all links

pub are_wires : (d : Deployed) (capacity n : ℕ) (links : List Link) (lanes : List Lane) (ins : List (Sender Envelope)) (outs : List (Receiver Envelope)) → links ≡ all_links d → lanes ≡ all_lanes d → length ins ≡ n → n ≡ length links + length lanes → ArePairs capacity ins outs → IsWires d links lanes ins outs
are_wires d capacity n links lanes ins outs a b many count p = record { links_are = a; lanes_are = b; many = many ∙ count; same = p.same; sent = p.sent; received = p.received }
