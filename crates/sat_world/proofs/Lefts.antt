-- What is under way in a world is what is under way in the history that it stands for.
use Rattle.std.specs.Prelude.{◌≡◌, ◌<◌, ◌≤◌, ◌+◌, ◌-◌, ◌^◌, ◌==◌, min, ℕ, zero, suc, Bool, true, false, not, ◌||◌, nat_lt, count_by, List, [], length, take, drop, get_or, Option, Some, None, slice_get, cond, refl}
use Rattle.std.proofs.Common.{sym, subst, ap, ◌∙◌, arith, add-one}
use Rattle.std.proofs.lemmas.Bool.Decides.{nat_tests}
use Rattle.std.proofs.lemmas.List.{length-map, length-drop}
use Rattle.std.proofs.lemmas.List.Sums.{sum_by_more, sum_by_push}
use Rattle.std.proofs.Math.Seq.{take-length}
use Rattle.std.specs.List.{sum_by}
use Rattle.sat_label.specs.declared.label.Label.{Label}
use Rattle.sat_label.specs.declared.node.NodeId.{NodeId}
use Rattle.sat_label.specs.declared.node.NodeId.TheVariants.{Site, Serializer}
use Rattle.sat_label.specs.Words.{below, has}
use Rattle.sat_tree.specs.Shape.{TreeShape}
use Rattle.sat_tree.specs.Cut.{neighbours, seat_of, is_edge, IsNode}
use Rattle.sat_act.specs.declared.entry.Entry.{Entry}
use Rattle.sat_act.specs.Deployed.{Deployed}
use Rattle.sat_act.specs.Limits.{IsDeployment}
use Rattle.sat_act.specs.Parts.{tree_of, lane, brought, entered, taken}
use Rattle.sat_act.specs.Runs.{IsRun}
use Rattle.sat_act.specs.Settling.{capped}
use Rattle.sat_act.proofs.Valid.{is_valid}
use Rattle.sat_bulk.specs.Payloads.{Payload}
use Rattle.sat_bulk.specs.Windows.{has_number}
use Rattle.sat_model.specs.Parts.{valued}
use Rattle.sat_model.specs.State.{SiteState}
use Rattle.sat_model.specs.World.{world_state}
use Rattle.sat_model.proofs.Lanes.{lanes-agree}
use Rattle.sat_model.proofs.Windows.{Window, window-agrees}
use Rattle.sat_net.specs.Nets.{NetSeen, link_of, underway_in}
use Rattle.sat_net.specs.NetStands.{IsNetOf, StandsNet}
use Rattle.sat_net.proofs.Edges.{to-seat}
use Rattle.sat_net.proofs.Sums.{below-agree, neighbours-agree, sum-stops, sum-adds, cap-both}
use Rattle.sat_proxy.specs.Proxy.{window_of, front_at}
use Rattle.sat_site.specs.Seen.{SiteSeen, IsSite}
use Rattle.sat_site.specs.Stands.{StandsSite}
use Rattle.sat_site.specs.Changes.{shape_for}
use Rattle.sat_sites.specs.declared.shape.Shape.{Shape}
use Rattle.sat_world.specs.Seen.{WorldSeen}
use Rattle.sat_world.specs.Stands.{Stands, StandsFor}
use Rattle.sat_world.specs.Underway.{is_left, lane_underway, lanes_underway, link_underway, tree_underway, epoch_underway, links_underway, underway}
use Rattle.sat_world.specs.Left.{is_missing, lane_left, net_underway, IsLeft, IsLeftOf, IsLeftTo, IsOfShape}
use Rattle.sat_world.specs.Worlds.{IsFrame, IsPlanted, IsWorld}
use Rattle.sat_world.proofs.Lists.{get-is, index-at, there}

-- ---- counts and sums

-- nothing is counted below a front
pub none-missing : (y : SiteSeen) (i g n : ℕ) → n ≤ front_at y.proxy i g → count_by (is_missing y i g) (below n) ≡ 0
none-missing y i g zero le = refl
none-missing y i g (suc n) le =
    sum_by_push (λ k. cond (is_missing y i g k) 1 0) (below n) n
    ∙ (λ m. none-missing y i g n (omega arith) m + cond (not (passed m)) 1 0)
  where
    low : nat_lt n (front_at y.proxy i g) ≡ true
    low = grind (arith, nat_tests)

    passed : has_number (window_of y.proxy i g) n ≡ true
    passed = ap (λ (b : Bool). b || has ◌==◌ (window_of y.proxy i g).above n) low

pub count-less : (p : ℕ → Bool) (n : ℕ) → count_by p (below n) ≤ n
count-less p zero = omega arith
count-less p (suc n) = let e = sum_by_push (λ k. cond (p k) 1 0) (below n) n in let l = count-less p n in let s = small (p n) in omega (arith, e, l, s)
  where
    small : (b : Bool) → cond b 1 0 ≤ 1
    small true = omega arith
    small false = omega arith

-- what is missing here is what the state that it stands for didn't take
pub missing-stands : (y : SiteSeen) (i g n : ℕ) → IsSite y → i < y.shape.sites → g < y.shape.gears → (d : Deployed) (j : ℕ) (t : SiteState) → StandsSite d j y t →
    count_by (is_missing y i g) (below n) ≡ count_by (λ k. not (has ◌==◌ (t.proxy.taken i g) k)) (below n)
missing-stands y i g n site li lg d j t st =
    below-agree (λ k. cond (is_missing y i g k) 1 0) (λ k. cond (not (has ◌==◌ (t.proxy.taken i g) k)) 1 0) n
    (λ k lt. ap (λ (b : Bool). cond (not b) 1 0) (sym (st.proxy.taken i g k (subst (λ (m : ℕ). i < m) (sym site.proxy.sites) li) (subst (λ (m : ℕ). g < m) (sym site.proxy.gears) lg))))

prefix : {X : Type 0} (f : X → ℕ) (g : ℕ → ℕ) (xs : List X) (m : ℕ) → m ≤ length xs → ((n : ℕ) (x : X) → slice_get xs n ≡ Some x → f x ≡ g n) → sum_by f (take m xs) ≡ sum_by g (below m)
prefix f g xs zero le same = refl
prefix {X} f g xs (suc m) le same =
    let lt : m < length xs = omega arith in
    let x : (x : X) × (slice_get xs m ≡ Some x) = there xs m lt in
    ap (λ (k : ℕ). sum_by f (take k xs)) (sym (add-one m))
    ∙ (sum_by_more f xs m x.0 lt
    ∙ ((λ i. prefix f g xs m (omega arith) same i + same m (get_or xs m x.0) (get-is xs m x.0 lt) i) ∙ sym (sum_by_push g (below m) m)))

-- a sum over a list is one over the numbers of its places
pub by-places : {X : Type 0} (f : X → ℕ) (g : ℕ → ℕ) (xs : List X) → ((n : ℕ) (x : X) → slice_get xs n ≡ Some x → f x ≡ g n) → sum_by f xs ≡ sum_by g (below (length xs))
by-places f g xs same = ap (sum_by f) (sym (take-length xs)) ∙ prefix f g xs (length xs) (omega arith) same

-- ---- lanes

lane-is : (d : Deployed) (h : List Entry) (i g j : ℕ) → IsDeployment d → IsRun d h → lane_left ((world_state d h).sites i) ((world_state d h).sites j) i g j ≡ lane_underway d h i g j
unfolding world_state
lane-is d h i g j k run =
    let w : Window d h i g j _ = window-agrees d h i g j (is_valid d k) run in
    ap (λ (ps : List Payload). count_by (λ n. not (has ◌==◌ (((world_state d h).sites j).proxy.taken i g) n)) (below (length ps))) (lanes-agree d h i g j (is_valid d k) run)
    ∙ (ap (λ (m : ℕ). count_by (λ n. not (has ◌==◌ (((world_state d h).sites j).proxy.taken i g) n)) (below m)) (length-map (lane d h i g j) (valued h))
    ∙ sym (by-places (λ l. cond (is_left (brought h j) l) 1 0) (λ n. cond (not (has ◌==◌ (((world_state d h).sites j).proxy.taken i g) n)) 1 0) (lane d h i g j)
    (λ n l at. ap (λ (b : Bool). cond (not b) 1 0) (sym (w.known n l at)))))

pub lanes-are : (d : Deployed) (h : List Entry) → IsDeployment d → IsRun d h →
    sum_by (λ j. sum_by (λ i. sum_by (λ g. lane_left ((world_state d h).sites i) ((world_state d h).sites j) i g j) (below d.gears)) (below d.sites)) (below d.sites) ≡ lanes_underway d h
lanes-are d h k run =
    below-agree (λ j. sum_by (λ i. sum_by (λ g. lane_left ((world_state d h).sites i) ((world_state d h).sites j) i g j) (below d.gears)) (below d.sites)) (λ j. sum_by (λ i. sum_by (λ g. lane_underway d h i g j) (below d.gears)) (below d.sites)) d.sites
    (λ j lj. below-agree (λ i. sum_by (λ g. lane_left ((world_state d h).sites i) ((world_state d h).sites j) i g j) (below d.gears)) (λ i. sum_by (λ g. lane_underway d h i g j) (below d.gears)) d.sites
    (λ i li. below-agree (λ g. lane_left ((world_state d h).sites i) ((world_state d h).sites j) i g j) (λ g. lane_underway d h i g j) d.gears
    (λ g lg. lane-is d h i g j k run)))

-- ---- links

-- what stands on a link is what entered it less what was taken
link-is : (d : Deployed) (h : List Entry) (epoch : ℕ) (t : TreeShape) (u v : NodeId) → tree_of d epoch ≡ Some t → length ((world_state d h).links epoch u v) ≡ link_underway d h epoch t u v
unfolding world_state
link-is d h epoch t u v at =
    ap (λ (o : Option TreeShape). length {A = Label} (elim o [ None ↦ [] | Some tree ↦ drop (taken d h epoch u v) (entered d h epoch tree u v) ])) at
    ∙ length-drop (taken d h epoch u v) (entered d h epoch t u v)

net-is : (d : Deployed) (h : List Entry) (epoch : ℕ) (n : NetSeen) → IsNetOf d epoch n → StandsNet n ((world_state d h).links epoch) ((world_state d h).dead epoch) → underway_in n ≡ tree_underway d h epoch n.tree
net-is d h epoch n k st = λ i. ups i + ons i
  where
    link : (u v : NodeId) → IsNode n.tree u → IsNode n.tree v → is_edge n.tree u v ≡ true → length (link_of n u v) ≡ link_underway d h epoch n.tree u v
    link u v iu iv e = ap (λ (ls : List Label). length ls) (st.each u v iu iv e) ∙ link-is d h epoch n.tree u v k.tree

    ups : sum_by (λ i. length (link_of n (Site i) (Serializer (seat_of n.tree i)))) (below (length n.tree.seats)) ≡ sum_by (λ i. link_underway d h epoch n.tree (Site i) (Serializer (seat_of n.tree i))) (below (length n.tree.seats))
    ups = below-agree (λ i. length (link_of n (Site i) (Serializer (seat_of n.tree i)))) (λ i. link_underway d h epoch n.tree (Site i) (Serializer (seat_of n.tree i))) (length n.tree.seats)
        (λ i li. link (Site i) (Serializer (seat_of n.tree i)) li (k.net.tree.seats i) (to-seat n.tree i))

    ons : sum_by (λ z. sum_by (λ v. length (link_of n (Serializer z) v)) (neighbours n.tree z)) (below (length n.tree.parents)) ≡ sum_by (λ z. sum_by (λ v. link_underway d h epoch n.tree (Serializer z) v) (neighbours n.tree z)) (below (length n.tree.parents))
    ons = below-agree (λ z. sum_by (λ v. length (link_of n (Serializer z) v)) (neighbours n.tree z)) (λ z. sum_by (λ v. link_underway d h epoch n.tree (Serializer z) v) (neighbours n.tree z)) (length n.tree.parents)
        (λ z lz. neighbours-agree (λ v. length (link_of n (Serializer z) v)) (λ v. link_underway d h epoch n.tree (Serializer z) v) n.tree z
        (λ v nb. link (Serializer z) v lz nb.node nb.edge))

planted-is : (d : Deployed) (h : List Entry) (epoch : ℕ) (o : Option NetSeen) → IsPlanted d epoch o → ((n : NetSeen) → o ≡ Some n → StandsNet n ((world_state d h).links epoch) ((world_state d h).dead epoch)) →
    net_underway o ≡ epoch_underway d h epoch
planted-is d h epoch None k st = sym (ap (λ (o : Option TreeShape). elim o [ None ↦ 0 | Some t ↦ tree_underway d h epoch t ]) k)
planted-is d h epoch (Some n) k st = net-is d h epoch n k (st n refl) ∙ sym (ap (λ (o : Option TreeShape). elim o [ None ↦ 0 | Some t ↦ tree_underway d h epoch t ]) k.tree)

pub links-are : (w : WorldSeen) (h : List Entry) → IsFrame w → Stands w (world_state w.deployment h) → sum_by net_underway w.nets ≡ links_underway w.deployment h
links-are w h k st =
    by-places net_underway (λ n. epoch_underway w.deployment h (n + 1)) w.nets
    (λ n o at. planted-is w.deployment h (n + 1) o (k.planted n o at) (λ net is. st.nets n net (at ∙ ap (λ (p : Option NetSeen). Some p) is)))
    ∙ ap (λ (m : ℕ). sum_by (λ n. epoch_underway w.deployment h (n + 1)) (below m)) k.nets

-- ---- both

both : (w : WorldSeen) (h : List Entry) (lanes links r : ℕ) → IsWorld w → IsRun w.deployment h → StandsFor w h → IsLeft w.sites w.deployment.gears w.deployment.sites lanes →
    links ≡ capped (sum_by net_underway w.nets) → r ≡ min (lanes + links) (2 ^ 64 - 1) → r ≡ capped (underway w.deployment h)
unfolding underway
both w h lanes links r k run st all on e = e ∙ cap-both (lanes_underway w.deployment h) (links_underway w.deployment h) lanes links in_lanes on_links
  where
    in_lanes : lanes ≡ capped (lanes_underway w.deployment h)
    in_lanes =
        all w.deployment (world_state w.deployment h).sites (λ i x at. st.parts.sites i x at)
        ∙ (ap (λ (m : ℕ). capped (sum_by (λ j. sum_by (λ i. sum_by (λ g. lane_left ((world_state w.deployment h).sites i) ((world_state w.deployment h).sites j) i g j) (below w.deployment.gears)) (below m)) (below w.deployment.sites))) k.frame.sites
        ∙ ap capped (lanes-are w.deployment h k.frame.deployment run))

    on_links : links ≡ capped (links_underway w.deployment h)
    on_links = on ∙ ap capped (links-are w h k.frame st.parts)

counts-all : (w v : WorldSeen) (lanes links r : ℕ) → w ≡ v → IsWorld w → IsLeft w.sites w.deployment.gears w.deployment.sites lanes → links ≡ capped (sum_by net_underway w.nets) → r ≡ min (lanes + links) (2 ^ 64 - 1) →
    (h : List Entry) → IsRun v.deployment h → StandsFor v h → r ≡ capped (underway v.deployment h)
counts-all w v lanes links r same k all on e =
    subst (λ (v : WorldSeen). (h : List Entry) → IsRun v.deployment h → StandsFor v h → r ≡ capped (underway v.deployment h)) same (λ h run st. both w h lanes links r k run st all on e)

-- ---- the loops

pub gear-more : (x y : SiteSeen) (i j g c made more r : ℕ) → IsLeftOf x y i j g c → ((d : Deployed) (i : ℕ) (s : SiteState) → StandsSite d i x s → made ≡ length ((s.gears g).lanes j)) →
    ((d : Deployed) (j : ℕ) (t : SiteState) → StandsSite d j y t → more ≡ count_by (λ k. not (has ◌==◌ (t.proxy.taken i g) k)) (below made)) → r ≡ min (c + more) (2 ^ 64 - 1) → IsLeftOf x y i j (g + 1) r
gear-more x y i j g c made more r old was new e = λ d s t sx ty.
    sum-adds (λ g. lane_left s t i g j) g c more r (old d s t sx ty) (new d j t ty ∙ ap (λ (m : ℕ). count_by (λ k. not (has ◌==◌ (t.proxy.taken i g) k)) (below m)) (was d i s sx)) e

pub site-more : (xs : List SiteSeen) (gears j i c more r : ℕ) (x y : SiteSeen) → i < length xs → j < length xs → x ≡ get_or xs i x → y ≡ get_or xs j y → IsLeftTo xs gears j i c → IsLeftOf x y i j gears more →
    r ≡ min (c + more) (2 ^ 64 - 1) → IsLeftTo xs gears j (i + 1) r
site-more xs gears j i c more r x y li lj ix jy old new e = λ d S all.
    sum-stops (λ i. sum_by (λ g. lane_left (S i) (S j) i g j) (below gears)) i c more r (old d S all) (new d (S i) (S j) (all i x (index-at xs i x li ix)) (all j y (index-at xs j y lj jy))) e

pub all-more : (xs : List SiteSeen) (gears j c more r : ℕ) → IsLeft xs gears j c → IsLeftTo xs gears j (length xs) more → r ≡ min (c + more) (2 ^ 64 - 1) → IsLeft xs gears (j + 1) r
all-more xs gears j c more r old new e = λ d S all.
    sum-stops (λ j. sum_by (λ i. sum_by (λ g. lane_left (S i) (S j) i g j) (below gears)) (below (length xs))) j c more r (old d S all) (new d S all) e

pub net-more : (os : List (Option NetSeen)) (i x y r : ℕ) (d : Option NetSeen) → i < length os → x ≡ capped (sum_by net_underway (take i os)) → y ≡ capped (net_underway (get_or os i d)) → r ≡ min (x + y) (2 ^ 64 - 1) →
    r ≡ capped (sum_by net_underway (take (i + 1) os))
net-more os i x y r d low e g h = h ∙ (cap-both (sum_by net_underway (take i os)) (net_underway (get_or os i d)) x y e g ∙ sym (ap capped (sum_by_more net_underway os i d low)))

-- ---- what the call hands them

pub shapes-are : (w : WorldSeen) (xs : List SiteSeen) (n g : ℕ) → IsWorld w → n ≡ w.deployment.sites → g ≡ w.deployment.gears → xs ≡ w.sites → (i : ℕ) (x : SiteSeen) → slice_get xs i ≡ Some x → IsOfShape x n g
shapes-are w xs n g k en eg same i x at =
    let e : x.shape ≡ shape_for w.deployment i = (k.stands.sites i x (ap (λ (ys : List SiteSeen). slice_get ys i) (sym same) ∙ at)).shape in
    record { sites = ap (λ (s : Shape). s.sites) e ∙ sym en; gears = ap (λ (s : Shape). s.gears) e ∙ sym eg }

pub as-many : (w : WorldSeen) (xs : List SiteSeen) (n : ℕ) → IsWorld w → n ≡ w.deployment.sites → xs ≡ w.sites → length xs ≡ n
as-many w xs n k en same = ap (λ (ys : List SiteSeen). length ys) same ∙ (k.frame.sites ∙ sym en)

left-in : (w : WorldSeen) (xs : List SiteSeen) (n g c : ℕ) → n ≡ w.deployment.sites → g ≡ w.deployment.gears → xs ≡ w.sites → IsLeft xs g n c → IsLeft w.sites w.deployment.gears w.deployment.sites c
left-in w xs n g c en eg same left = subst (λ (ys : List SiteSeen). IsLeft ys w.deployment.gears w.deployment.sites c) same (subst (λ (m : ℕ). IsLeft xs w.deployment.gears m c) en (subst (λ (m : ℕ). IsLeft xs m n c) eg left))

pub counts-both : (w v : WorldSeen) (xs : List SiteSeen) (os : List (Option NetSeen)) (n g lanes links r : ℕ) → w ≡ v → IsWorld w → n ≡ w.deployment.sites → g ≡ w.deployment.gears → xs ≡ w.sites → os ≡ w.nets →
    IsLeft xs g n lanes → links ≡ capped (sum_by net_underway os) → r ≡ min (lanes + links) (2 ^ 64 - 1) → (h : List Entry) → IsRun v.deployment h → StandsFor v h → r ≡ capped (underway v.deployment h)
counts-both w v xs os n g lanes links r same k en eg sx so left on e =
    counts-all w v lanes links r same k (left-in w xs n g lanes en eg sx left) (on ∙ ap (λ (os : List (Option NetSeen)). capped (sum_by net_underway os)) so) e
