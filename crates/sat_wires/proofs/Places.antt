-- The lists of ways, one more at a time, and the places of links.
use Rattle.std.specs.Prelude.{◌≡◌, ◌<◌, ◌+◌, ◌-◌, ◌^◌, ℕ, suc, Bool, nat_lt, not, cond, List, [], ◌∷◌, ◌++◌, length, map, position, unwrap_or, Option, Some, None}
use Rattle.std.specs.List.{flat_map, prefix_len}
use Rattle.std.proofs.Common.{refl, sym, ap, ◌∙◌, arith}
use Rattle.std.proofs.lemmas.List.{append-nil, length-map, map-append}
use Rattle.std.proofs.lemmas.List.Concat.{flat_map-append}
use Rattle.sat_label.specs.declared.node.NodeName.TheVariants.{Serializer as AtSerializer, Site as AtSite}
use Rattle.sat_label.specs.Words.{below}
use Rattle.sat_tree.specs.Shape.{TreeShape}
use Rattle.sat_act.specs.Deployed.{Deployed}
use Rattle.sat_act.specs.Limits.{IsDeployment}
use Rattle.sat_act.specs.Parts.{tree_of}
use Rattle.sat_machines.specs.Layout.{Link, Bulk, Planted, all_links, in_places, link_eq, out_places, peer, place_back, place_of, serial_links, site_links, turned}
use Rattle.sat_opened.proofs.Layouts.{tree-at}
use Rattle.sat_wires.specs.declared.way.Way.{Way}
use Rattle.sat_wires.specs.Ways.{bulk_links, link_of, place_back_in, place_in}

-- ---- one more

-- one more below a number
below_more : (n : ℕ) → below (n + 1) ≡ below n ++ n ∷ []
below_more n = let e : n + 1 ≡ suc n = omega arith in ap (λ (m : ℕ). below m) e

flat_more : {Y : Type 0} (f : ℕ → List Y) (n : ℕ) → flat_map f (below (n + 1)) ≡ flat_map f (below n) ++ f n
flat_more {Y} f n =
    ap (λ (ns : List ℕ). flat_map f ns) (below_more n) ∙ (flat_map-append f (below n) (n ∷ []) ∙ ap (λ (ys : List Y). flat_map f (below n) ++ ys) (append-nil (f n)))

pub bulk_more : (i n : ℕ) → bulk_links i (n + 1) ≡ bulk_links i n ++ Bulk i (peer i n) ∷ []
bulk_more i n = ap (λ (ns : List ℕ). map (λ k. Bulk i (peer i k)) ns) (below_more n) ∙ map-append (λ k. Bulk i (peer i k)) (below n) (n ∷ [])

pub serials_more : (p : Planted) (n : ℕ) → flat_map (serial_links p) (below (n + 1)) ≡ flat_map (serial_links p) (below n) ++ serial_links p n
serials_more p n = flat_more (serial_links p) n

pub sites_more : (d : Deployed) (n : ℕ) → flat_map (site_links d) (below (n + 1)) ≡ flat_map (site_links d) (below n) ++ site_links d n
sites_more d n = flat_more (site_links d) n

-- there are few epochs
pub few_epochs : (d : Deployed) → IsDeployment d → 1 + length d.plans < 2 ^ 16
few_epochs d is = let few = is.few_plans in omega arith

-- ---- places

prefix_mapped : (q : Link → Bool) (ws : List Way) → prefix_len q (map link_of ws) ≡ prefix_len (λ w. q (link_of w)) ws
prefix_mapped q [] = refl
prefix_mapped q (w ∷ ws) = ap (λ (n : ℕ). cond (q (link_of w)) (1 + n) 0) (prefix_mapped q ws)

-- the place of a way is that of its link
pub position_mapped : (p : Link → Bool) (ws : List Way) → position p (map link_of ws) ≡ position (λ w. p (link_of w)) ws
position_mapped p ws =
    let e : prefix_len (λ l. not (p l)) (map link_of ws) ≡ prefix_len (λ w. not (p (link_of w))) ws = prefix_mapped (λ l. not (p l)) ws in
    let m : length (map link_of ws) ≡ length ws = length-map ws link_of in
    λ i. cond (nat_lt (e i) (m i)) (Some (e i)) None

pub placed : (all : List Link) (l : Link) (o : Option ℕ) (k : ℕ) → o ≡ position (link_eq l) all → o ≡ Some k → k ≡ place_in all l
placed all l o k e f = ap (λ (o : Option ℕ). unwrap_or o 0) (sym f ∙ e)

pub placed_back : (all : List Link) (l b : Link) (o : Option ℕ) (k : ℕ) → b ≡ turned l → o ≡ position (link_eq b) all → o ≡ Some k → k ≡ place_back_in all l
placed_back all l b o k t e f = ap (λ (o : Option ℕ). unwrap_or o 0) (sym f ∙ e) ∙ ap (place_in all) t

-- the ends of a site lie where its links do
pub site_outs : (d : Deployed) (i : ℕ) (all own : List Link) (ks : List ℕ) → all ≡ all_links d → own ≡ site_links d i → ks ≡ map (place_in all) own → ks ≡ out_places d (AtSite i)
unfolding out_places
site_outs d i all own ks a b e = e ∙ (ap (λ (ls : List Link). map (place_in ls) own) a ∙ ap (λ (ls : List Link). map (place_of d) ls) b)

pub site_ins : (d : Deployed) (i : ℕ) (all own : List Link) (ks : List ℕ) → all ≡ all_links d → own ≡ site_links d i → ks ≡ map (place_back_in all) own → ks ≡ in_places d (AtSite i)
unfolding in_places
site_ins d i all own ks a b e = e ∙ (ap (λ (ls : List Link). map (place_back_in ls) own) a ∙ ap (λ (ls : List Link). map (place_back d) ls) b)

-- and those of a serializer
pub serial_outs : (d : Deployed) (e z : ℕ) (t : TreeShape) (all own : List Link) (ks : List ℕ) → tree_of d e ≡ Some t → all ≡ all_links d → own ≡ serial_links (record { epoch = e; tree = t }) z → ks ≡ map (place_in all) own → ks ≡ out_places d (AtSerializer e z)
unfolding out_places
serial_outs d e z t all own ks is a b k =
    k ∙ (ap (λ (ls : List Link). map (place_in ls) own) a ∙ ap (λ (ls : List Link). map (place_of d) ls) (b ∙ sym ((tree-at d e t is).links z)))

pub serial_ins : (d : Deployed) (e z : ℕ) (t : TreeShape) (all own : List Link) (ks : List ℕ) → tree_of d e ≡ Some t → all ≡ all_links d → own ≡ serial_links (record { epoch = e; tree = t }) z → ks ≡ map (place_back_in all) own → ks ≡ in_places d (AtSerializer e z)
unfolding in_places
serial_ins d e z t all own ks is a b k =
    k ∙ (ap (λ (ls : List Link). map (place_back_in ls) own) a ∙ ap (λ (ls : List Link). map (place_back d) ls) (b ∙ sym ((tree-at d e t is).links z)))
