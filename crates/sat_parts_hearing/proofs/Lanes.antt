-- How many ends a hub has, and how many of them are of lanes.
use Rattle.std.proofs.Common.{◌≡◌, ◌≢◌, ℕ, zero, suc, ◌+◌, ◌*◌, ◌-◌, ◌^◌, ◌<◌, ◌≤◌, List, [], ◌∷◌, ◌++◌, length, map, refl, sym, ap, ◌∙◌, subst, arith}
use Rattle.std.specs.List.{flat_map}
use Rattle.std.proofs.lemmas.List.{append-nil, length-append, length-map}
use Rattle.std.proofs.lemmas.List.Concat.{flat_map-append}
use Rattle.sat_label.specs.declared.node.NodeName.{NodeName}
use Rattle.sat_label.specs.declared.node.NodeName.TheVariants as named
use Rattle.sat_label.specs.Words.{below}
use Rattle.sat_label.proofs.Numbers.{length-below}
use Rattle.sat_act.specs.Deployed.{Deployed}
use Rattle.sat_act.specs.Limits.{IsDeployment}
use Rattle.sat_hub.specs.Seen.{HubSeen}
use Rattle.sat_joint.specs.Machines.{HubState}
use Rattle.sat_node.specs.Links.{InSeen, in_places}
use Rattle.sat_machines.specs.Layout.{Bulk, Link, peer, place_back, site_links, in_places as site_in_places}
use Rattle.sat_machines.specs.Sites.{number_of}
use Rattle.sat_parts.specs.Hubs.{HubStands}
use Rattle.sat_parts.specs.Layout.{lane_place, lanes_from, lanes_to, part_ins}

-- ---- how many

flat-count : {Y : Type 0} (f : ℕ → List Y) (m n : ℕ) → ((k : ℕ) → length (f k) ≡ m) → length (flat_map f (below n)) ≡ n * m
flat-count {Y} f m zero each = (let e : 0 ≡ 0 * m = omega arith in e)
flat-count {Y} f m (suc n) each =
    ap length (flat_map-append f (below n) (n ∷ []) ∙ ap (λ (ys : List Y). flat_map f (below n) ++ ys) (append-nil (f n)))
    ∙ (length-append (flat_map f (below n)) (f n) ∙ ((λ i. flat-count f m n each i + each n i) ∙ turned)) where
      turned : n * m + m ≡ suc n * m
      turned = grind (arith)

lanes-count : (d : Deployed) (i : ℕ) → length (lanes_to d i) ≡ (d.sites - 1) * d.gears
lanes-count d i = flat-count (λ k. lanes_from d i (peer i k)) d.gears (d.sites - 1) (λ k. length-map (below d.gears) _ ∙ length-below d.gears)

links-count : (d : Deployed) (i : ℕ) → length (site_in_places d (named.Site i)) ≡ length (site_links d i)
unfolding site_in_places
links-count d i = length-map (site_links d i) (place_back d)

pub ends_are : (d : Deployed) (name : NodeName) (x : HubSeen) (h : HubState) (ins : List InSeen) → HubStands d name x h → in_places ins ≡ part_ins d name
    → length ins ≡ length (site_links d (number_of name)) + (d.sites - 1) * d.gears
unfolding part_ins
ends_are d (named.Serializer e z) x h ins st places = absurd st
ends_are d (named.Gear j g) x h ins st places = absurd st
ends_are d (named.Site i) x h ins st places =
    sym (length-map ins (λ k. k.place)) ∙ (ap length places ∙ (length-append (site_in_places d (named.Site i)) (map (lane_place d) (lanes_to d i))
    ∙ (λ n. links-count d i n + (length-map (lanes_to d i) (lane_place d) ∙ lanes-count d i) n)))

-- the links out of a site are to the other sites, and others
pub links_beyond : (d : Deployed) (i n : ℕ) → n < d.sites - 1 → n < length (site_links d i)
links_beyond d i n less =
    longer (map (λ k. Bulk i (peer i k)) (below (d.sites - 1))) _ n
    (let e : length (map (λ k. Bulk i (peer i k)) (below (d.sites - 1))) ≡ d.sites - 1 = length-map (below (d.sites - 1)) (λ k. Bulk i (peer i k)) ∙ length-below (d.sites - 1) in omega arith) where
      longer : (xs ys : List Link) (n : ℕ) → n < length xs → n < length (xs ++ ys)
      longer xs ys n less = (let e = length-append xs ys in omega arith)

-- ---- what is read off the machine

pub sites_are : (d : Deployed) (name : NodeName) (x : HubSeen) (h : HubState) → HubStands d name x h → x.shape.sites ≡ d.sites
sites_are d (named.Site i) x h st = λ n. (st.shape n).sites
sites_are d (named.Serializer e z) x h st = absurd st
sites_are d (named.Gear i g) x h st = absurd st

pub gears_are : (d : Deployed) (name : NodeName) (x : HubSeen) (h : HubState) → HubStands d name x h → x.shape.gears ≡ d.gears
gears_are d (named.Site i) x h st = λ n. (st.shape n).gears
gears_are d (named.Serializer e z) x h st = absurd st
gears_are d (named.Gear i g) x h st = absurd st

pub few_others : (d : Deployed) → IsDeployment d → d.sites - 1 < 64
few_others d dep = (let few = dep.few_sites in omega arith)
