-- What the table of nodes says: homes, gears beside a hub, and the places of sites.
use Rattle.std.specs.Prelude.{◌≡◌, ◌<◌, ℕ, zero, suc, Bool, true, false, ◌||◌, ◌&&◌, ◌==◌, List, [], ◌∷◌, ◌++◌, Option, Some, None, refl}
use Rattle.std.proofs.Common.{sym, subst, ap, ◌∙◌, arith}
use Rattle.std.proofs.Math.Nat.{mod-lt}
use Rattle.std.proofs.lemmas.Bool.{and_from, and_parts, eqb-true, or_left, or_right}
use Rattle.std.proofs.lemmas.Bool.Decides.{nat_tests}
use Rattle.sat_label.proofs.Truth.{same-number}
use Rattle.sat_label.specs.declared.items.Items.{Items}
use Rattle.sat_label.specs.Grouped.{least_item, list_of}
use Rattle.sat_label.specs.Words.{below, has}
use Rattle.sat_act.specs.declared.act.Act.{Act}
use Rattle.sat_act.specs.declared.act.Act.TheVariants as act
use Rattle.sat_act.specs.declared.answer.Answer.{Answer}
use Rattle.sat_act.specs.declared.answer.Answer.TheVariants as ans
use Rattle.sat_act.specs.Deployed.{Deployed}
use Rattle.sat_act.specs.Answers.{InRange, gear_of}
use Rattle.sat_act.specs.Parts.{items_of, replicates}
use Rattle.sat_model.specs.Reply.{gear_for}
use Rattle.sat_stitch.specs.Kept.{Given, OfClient}
use Rattle.sat_stitch.specs.Places.{Place, AtSite, places, seat_places, attach_places, by_client}
use Rattle.sat_joint.specs.Table.{Node, AtHub, AtGear, AtSerial, Alone, same_node, over, item_node, first_node, seat_nodes, attach_nodes, client_nodes, gear_nodes, gears_if, item_gears, shown_nodes, written_nodes, group_nodes, nodes, is_shared, is_first}

pub node-self : (p : Node) → same_node p p ≡ true
node-self (AtHub i) = same-number i
node-self (AtGear i g) = and_from (i == i) (g == g) (same-number i) (same-number g)
node-self (AtSerial e z) = and_from (e == e) (z == z) (same-number e) (same-number z)
node-self (Alone c) = same-number c

pub node-is : (p q : Node) → same_node p q ≡ true → p ≡ q
node-is (AtHub i) (AtHub k) e = ap AtHub (eqb-true i k e)
node-is (AtGear i g) (AtGear k h) w =
    let e : ((i == k) ≡ true) × ((g == h) ≡ true) = and_parts (i == k) (g == h) w in
    ap (λ (n : ℕ). AtGear n g) (eqb-true i k e.0) ∙ ap (AtGear k) (eqb-true g h e.1)
node-is (AtSerial e y) (AtSerial f z) w =
    let k : ((e == f) ≡ true) × ((y == z) ≡ true) = and_parts (e == f) (y == z) w in
    ap (λ (n : ℕ). AtSerial n y) (eqb-true e f k.0) ∙ ap (AtSerial f) (eqb-true y z k.1)
node-is (Alone b) (Alone c) e = ap Alone (eqb-true b c e)
node-is _ _ e = absurd (cc)

pub first-has : (p : Node) (ns : List Node) → is_first p ns ≡ true → has same_node ns p ≡ true
first-has p [] e = absurd (cc)
first-has p (q ∷ qs) e = or_left (same_node q p) (has same_node qs p) e

-- ---- acts of several nodes

-- the home of a shared act of which a gear of this site is a node
abbrev pub home_by : Deployed → Act → ℕ → Node
home_by d (act.Writes c items values) t = AtGear t (gear_for d items)
home_by d _ t = AtHub t

-- a gear of a shared act
pub record IsBeside (p : Node) (a : Act) : Type 0 where
  pub site : ℕ
  pub gear : ℕ
  pub is : p ≡ AtGear site gear
  pub joint : is_shared a ≡ true

in-gears : (i : ℕ) (gs : List ℕ) (p : Node) → has same_node (gear_nodes i gs) p ≡ true → (g : ℕ) × (p ≡ AtGear i g)
in-gears i [] p e = absurd (cc)
in-gears i (g ∷ gs) p e = go (same_node (AtGear i g) p) refl (in-gears i gs p) e
  where
    go : (b : Bool) → same_node (AtGear i g) p ≡ b → (has same_node (gear_nodes i gs) p ≡ true → (g : ℕ) × (p ≡ AtGear i g)) → (b || has same_node (gear_nodes i gs) p) ≡ true → (g : ℕ) × (p ≡ AtGear i g)
    go true w rest k = (g, sym (node-is (AtGear i g) p w))
    go false w rest k = rest k

in-shown : (d : Deployed) (i : ℕ) (r : Answer) (p : Node) → has same_node (shown_nodes d i r) p ≡ true → (g : ℕ) × (p ≡ AtGear i g)
in-shown d i (ans.Shown l) p e = in-gears i (item_gears d i (items_of l.kind)) p e
in-shown d i _ p e = absurd (cc)

in-written : (d : Deployed) (i : ℕ) (items : Items) (r : Answer) (p : Node) → has same_node (written_nodes d i items r) p ≡ true → (g : ℕ) × (p ≡ AtGear i g)
in-written d i items (ans.Wrote l) p e = in-gears i (item_gears d i (list_of items)) p e
in-written d i items _ p e = absurd (cc)

alone-not : (b : Bool) → (b || false) ≡ true → b ≡ false → ⊥
alone-not true e f = cc
alone-not false e f = cc

behind-first : (b c : Bool) → (b || c) ≡ true → b ≡ false → c ≡ true
behind-first true c e f = absurd (cc)
behind-first false c e f = e

seat-alone : (c : ℕ) (at : ℕ → Node) (o : Option ℕ) (p : Node) → has same_node (seat_nodes c at o) p ≡ true → is_first p (seat_nodes c at o) ≡ false → ⊥
seat-alone c at None p e f = alone-not (same_node (Alone c) p) e f
seat-alone c at (Some i) p e f = alone-not (same_node (at i) p) e f

attach-alone : (c j : ℕ) (o : Option ℕ) (p : Node) → has same_node (attach_nodes c j o) p ≡ true → is_first p (attach_nodes c j o) ≡ false → ⊥
attach-alone c j None p e f = alone-not (same_node (AtHub j) p) e f
attach-alone c j (Some i) p e f = alone-not (same_node (Alone c) p) e f

client-alone : (at : Option ℕ → List Node) (x : Given) (p : Node) → ((o : Option ℕ) → has same_node (at o) p ≡ true → is_first p (at o) ≡ false → ⊥) →
    has same_node (client_nodes at x) p ≡ true → is_first p (client_nodes at x) ≡ false → ⊥
client-alone at (OfClient seen seat) p k e f = k seat e f
client-alone at _ p k e f = cc

abbrev IsGear : Node → Type 0
IsGear p = (i : ℕ) × (g : ℕ) × (p ≡ AtGear i g)

group-beside : (d : Deployed) (c : ℕ) (items : Items) (r : Answer) (o : Option ℕ) (p : Node) → has same_node (group_nodes d c items r o) p ≡ true → is_first p (group_nodes d c items r o) ≡ false → IsGear p
group-beside d c items r None p e f = absurd (alone-not (same_node (Alone c) p) e f)
group-beside d c items r (Some i) p e f =
    let w : (g : ℕ) × (p ≡ AtGear i g) = in-written d i items r p (behind-first (same_node (AtGear i (gear_for d items)) p) (has same_node (written_nodes d i items r) p) e f) in
    (i, w.0, w.1)

client-beside : (at : Option ℕ → List Node) (x : Given) (p : Node) → ((o : Option ℕ) → has same_node (at o) p ≡ true → is_first p (at o) ≡ false → IsGear p) →
    has same_node (client_nodes at x) p ≡ true → is_first p (client_nodes at x) ≡ false → IsGear p
client-beside at (OfClient seen seat) p k e f = k seat e f
client-beside at _ p k e f = absurd (cc)

-- where an entry stands beside its home, its act is a shared one, and the node is a gear
pub beside : (d : Deployed) (a : Act) (x : Given) (r : Answer) (p : Node) → has same_node (nodes d a x r) p ≡ true → is_first p (nodes d a x r) ≡ false → IsBeside p a
beside d (act.Tick i g t) x r p e f = absurd (alone-not (same_node (AtGear i g) p) e f)
beside d (act.Write c y value) x r p e f = absurd (client-alone (seat_nodes c (item_node d y)) x p (λ o. seat-alone c (item_node d y) o p) e f)
beside d (act.Writes c items values) x r p e f =
    let w : IsGear p = client-beside (group_nodes d c items r) x p (λ o. group-beside d c items r o p) e f in
    record { site = w.0; gear = w.1; is = w.2; joint = refl }
beside d (act.Read c y) x r p e f = absurd (client-alone (seat_nodes c (item_node d y)) x p (λ o. seat-alone c (item_node d y) o p) e f)
beside d (act.Move c j) x r p e f = absurd (client-alone (seat_nodes c first_node) x p (λ o. seat-alone c first_node o p) e f)
beside d (act.Leave c) x r p e f = absurd (alone-not (same_node (Alone c) p) e f)
beside d (act.Attach c j) x r p e f = absurd (client-alone (attach_nodes c j) x p (λ o. attach-alone c j o p) e f)
beside d (act.Gather i) x r p e f =
    let w : (g : ℕ) × (p ≡ AtGear i g) = in-gears i (below d.gears) p (behind-first (same_node (AtHub i) p) (has same_node (gear_nodes i (below d.gears)) p) e f) in
    record { site = i; gear = w.0; is = w.1; joint = refl }
beside d (act.Emit i) x r p e f = absurd (alone-not (same_node (AtHub i) p) e f)
beside d (act.Pulse i) x r p e f = absurd (alone-not (same_node (AtHub i) p) e f)
beside d (act.Hop s u z) x r p e f = absurd (alone-not (same_node (AtSerial s z) p) e f)
beside d (act.Turn i) x r p e f =
    let w : (g : ℕ) × (p ≡ AtGear i g) = in-shown d i r p (behind-first (same_node (AtHub i) p) (has same_node (shown_nodes d i r) p) e f) in
    record { site = i; gear = w.0; is = w.1; joint = refl }
beside d (act.Bulk i g j o) x r p e f = absurd (alone-not (same_node (AtHub j) p) e f)
beside d (act.Beat i j) x r p e f = absurd (alone-not (same_node (AtHub i) p) e f)
beside d (act.BeatIn i j n) x r p e f = absurd (alone-not (same_node (AtHub j) p) e f)
beside d (act.Stamp i) x r p e f =
    let w : (g : ℕ) × (p ≡ AtGear i g) = in-shown d i r p (behind-first (same_node (AtHub i) p) (has same_node (shown_nodes d i r) p) e f) in
    record { site = i; gear = w.0; is = w.1; joint = refl }
beside d (act.Close i) x r p e f = absurd (alone-not (same_node (AtHub i) p) e f)
beside d (act.Fall i) x r p e f = absurd (alone-not (same_node (AtHub i) p) e f)
beside d (act.Advance i) x r p e f = absurd (alone-not (same_node (AtHub i) p) e f)
beside d (act.Kill s z) x r p e f = absurd (alone-not (same_node (AtSerial s z) p) e f)
beside d act.Clock x r p e f = absurd (cc)
beside d act.Settle x r p e f = absurd (cc)

gear-site : (t g i h : ℕ) → AtGear t g ≡ AtGear i h → t ≡ i
gear-site t g i h e = cc

group-site : (d : Deployed) (i : ℕ) (items : Items) (r : Answer) (t g : ℕ) → has same_node (AtGear i (gear_for d items) ∷ written_nodes d i items r) (AtGear t g) ≡ true → i ≡ t
group-site d i items r t g e = go (same_node (AtGear i (gear_for d items)) (AtGear t g)) refl e
  where
    go : (b : Bool) → same_node (AtGear i (gear_for d items)) (AtGear t g) ≡ b → (b || has same_node (written_nodes d i items r) (AtGear t g)) ≡ true → i ≡ t
    go true w k = gear-site i (gear_for d items) t g (node-is (AtGear i (gear_for d items)) (AtGear t g) w)
    go false w k = let y : (h : ℕ) × (AtGear t g ≡ AtGear i h) = in-written d i items r (AtGear t g) k in sym (gear-site t g i y.0 y.1)

hub-there : (i t : ℕ) → t ≡ i → (i == t) ≡ true
hub-there i t e = subst (λ (t : ℕ). (i == t) ≡ true) (sym e) (same-number i)

group-home : (d : Deployed) (c : ℕ) (items : Items) (r : Answer) (o : Option ℕ) (t g : ℕ) → has same_node (group_nodes d c items r o) (AtGear t g) ≡ true → is_first (AtGear t (gear_for d items)) (group_nodes d c items r o) ≡ true
group-home d c items r None t g e = absurd (cc)
group-home d c items r (Some i) t g e = subst (λ (t : ℕ). same_node (AtGear i (gear_for d items)) (AtGear t (gear_for d items)) ≡ true) (group-site d i items r t g e) (node-self (AtGear i (gear_for d items)))

client-group : (d : Deployed) (c : ℕ) (items : Items) (x : Given) (r : Answer) (t g : ℕ) → has same_node (client_nodes (group_nodes d c items r) x) (AtGear t g) ≡ true → is_first (AtGear t (gear_for d items)) (client_nodes (group_nodes d c items r) x) ≡ true
client-group d c items (OfClient seen seat) r t g e = group-home d c items r seat t g e
client-group d c items _ r t g e = absurd (cc)

-- a gear of a shared act knows the act's home
pub shared-home : (d : Deployed) (a : Act) (t g : ℕ) (x : Given) (r : Answer) → is_shared a ≡ true → has same_node (nodes d a x r) (AtGear t g) ≡ true → is_first (home_by d a t) (nodes d a x r) ≡ true
shared-home d (act.Gather i) t g x r j e = let w : (h : ℕ) × (AtGear t g ≡ AtGear i h) = in-gears i (below d.gears) (AtGear t g) e in hub-there i t (gear-site t g i w.0 w.1)
shared-home d (act.Turn i) t g x r j e = let w : (h : ℕ) × (AtGear t g ≡ AtGear i h) = in-shown d i r (AtGear t g) e in hub-there i t (gear-site t g i w.0 w.1)
shared-home d (act.Stamp i) t g x r j e = let w : (h : ℕ) × (AtGear t g ≡ AtGear i h) = in-shown d i r (AtGear t g) e in hub-there i t (gear-site t g i w.0 w.1)
shared-home d (act.Writes c items values) t g x r j e = client-group d c items x r t g e
shared-home d _ t g x r j e = absurd (cc)

pub home-over : (d : Deployed) (a : Act) (t : ℕ) → over (home_by d a t) ≡ AtSite t
home-over d (act.Writes c items values) t = refl
home-over d _ t = refl

-- an act has one home
pub home-one : (ns : List Node) (p q : Node) → is_first p ns ≡ true → is_first q ns ≡ true → p ≡ q
home-one [] p q e f = absurd (cc)
home-one (n ∷ ns) p q e f = sym (node-is n p e) ∙ node-is n q f

-- two acts that are one but for what they were handed, and share a node, have one home
pub home-shared : (d : Deployed) (a : Act) (x y : Given) (r : Answer) (p q : Node) → has same_node (nodes d a x r) p ≡ true → has same_node (nodes d a y r) p ≡ true → is_first q (nodes d a x r) ≡ true → is_first q (nodes d a y r) ≡ true
home-shared d a x y r p q e f h = go (is_first p (nodes d a x r)) (is_first p (nodes d a y r)) refl refl
  where
    both : (t g : ℕ) → p ≡ AtGear t g → is_shared a ≡ true → is_first q (nodes d a y r) ≡ true
    both t g is j =
        let one : is_first (home_by d a t) (nodes d a x r) ≡ true = shared-home d a t g x r j (subst (λ (p : Node). has same_node (nodes d a x r) p ≡ true) is e) in
        let two : is_first (home_by d a t) (nodes d a y r) ≡ true = shared-home d a t g y r j (subst (λ (p : Node). has same_node (nodes d a y r) p ≡ true) is f) in
        subst (λ (q : Node). is_first q (nodes d a y r) ≡ true) (home-one (nodes d a x r) (home_by d a t) q one h) two

    go : (b c : Bool) → is_first p (nodes d a x r) ≡ b → is_first p (nodes d a y r) ≡ c → is_first q (nodes d a y r) ≡ true
    go true true u v = subst (λ (q : Node). is_first q (nodes d a y r) ≡ true) (home-one (nodes d a x r) p q u h) v
    go false c u v = let b : IsBeside p a = beside d a x r p e u in both b.site b.gear b.is b.joint
    go true false u v = let b : IsBeside p a = beside d a y r p f v in both b.site b.gear b.is b.joint

-- ---- the places of sites

over-home : (n p : Node) → same_node n p ≡ true → over n ∷ [] ≡ over p ∷ []
over-home n p e = ap (λ (p : Node). over p ∷ []) (node-is n p e)

seat-place : (c : ℕ) (at : ℕ → Node) (o : Option ℕ) (p : Node) → ((i : ℕ) → over (at i) ≡ AtSite i) → is_first p (seat_nodes c at o) ≡ true → seat_places c o ≡ over p ∷ []
seat-place c at None p k e = over-home (Alone c) p e
seat-place c at (Some i) p k e = ap (λ (q : Place). q ∷ []) (sym (k i)) ∙ over-home (at i) p e

group-place : (d : Deployed) (c : ℕ) (items : Items) (r : Answer) (o : Option ℕ) (p : Node) → is_first p (group_nodes d c items r o) ≡ true → seat_places c o ≡ over p ∷ []
group-place d c items r None p e = over-home (Alone c) p e
group-place d c items r (Some i) p e = over-home (AtGear i (gear_for d items)) p e

attach-place : (c j : ℕ) (o : Option ℕ) (p : Node) → is_first p (attach_nodes c j o) ≡ true → attach_places c j o ≡ over p ∷ []
attach-place c j None p e = over-home (AtHub j) p e
attach-place c j (Some i) p e = over-home (Alone c) p e

client-place : (at : Option ℕ → List Node) (f : Option ℕ → List Place) (x : Given) (p : Node) → ((o : Option ℕ) → is_first p (at o) ≡ true → f o ≡ over p ∷ []) → is_first p (client_nodes at x) ≡ true → by_client f x ≡ over p ∷ []
client-place at f (OfClient seen seat) p k e = k seat e
client-place at f _ p k e = absurd (cc)

-- the place of an act is that of its home
pub home-place : (d : Deployed) (a : Act) (x : Given) (r : Answer) (p : Node) → is_first p (nodes d a x r) ≡ true → places a x ≡ over p ∷ []
home-place d (act.Tick i g t) x r p e = over-home (AtGear i g) p e
home-place d (act.Write c y value) x r p e = client-place (seat_nodes c (item_node d y)) (seat_places c) x p (λ o. seat-place c (item_node d y) o p (λ i. refl)) e
home-place d (act.Writes c items values) x r p e = client-place (group_nodes d c items r) (seat_places c) x p (λ o. group-place d c items r o p) e
home-place d (act.Read c y) x r p e = client-place (seat_nodes c (item_node d y)) (seat_places c) x p (λ o. seat-place c (item_node d y) o p (λ i. refl)) e
home-place d (act.Move c j) x r p e = client-place (seat_nodes c first_node) (seat_places c) x p (λ o. seat-place c first_node o p (λ i. refl)) e
home-place d (act.Leave c) x r p e = over-home (Alone c) p e
home-place d (act.Attach c j) x r p e = client-place (attach_nodes c j) (attach_places c j) x p (λ o. attach-place c j o p) e
home-place d (act.Gather i) x r p e = over-home (AtHub i) p e
home-place d (act.Emit i) x r p e = over-home (AtHub i) p e
home-place d (act.Pulse i) x r p e = over-home (AtHub i) p e
home-place d (act.Hop s u z) x r p e = over-home (AtSerial s z) p e
home-place d (act.Turn i) x r p e = over-home (AtHub i) p e
home-place d (act.Bulk i g j o) x r p e = over-home (AtHub j) p e
home-place d (act.Beat i j) x r p e = over-home (AtHub i) p e
home-place d (act.BeatIn i j n) x r p e = over-home (AtHub j) p e
home-place d (act.Stamp i) x r p e = over-home (AtHub i) p e
home-place d (act.Close i) x r p e = over-home (AtHub i) p e
home-place d (act.Fall i) x r p e = over-home (AtHub i) p e
home-place d (act.Advance i) x r p e = over-home (AtHub i) p e
home-place d (act.Kill s z) x r p e = over-home (AtSerial s z) p e
home-place d act.Clock x r p e = absurd (cc)
home-place d act.Settle x r p e = absurd (cc)

-- and that of each of its nodes
pub node-place : (d : Deployed) (a : Act) (x : Given) (r : Answer) (p : Node) → has same_node (nodes d a x r) p ≡ true → places a x ≡ over p ∷ []
node-place d a x r p e = go (is_first p (nodes d a x r)) refl
  where
    go : (b : Bool) → is_first p (nodes d a x r) ≡ b → places a x ≡ over p ∷ []
    go true w = home-place d a x r p w
    go false w =
        let b : IsBeside p a = beside d a x r p e w in
        home-place d a x r (home_by d a b.site) (shared-home d a b.site b.gear x r b.joint (subst (λ (p : Node). has same_node (nodes d a x r) p ≡ true) b.is e)) ∙
        ap (λ (q : Place). q ∷ []) (home-over d a b.site ∙ sym (ap over b.is))

-- ---- the gears of a deployment

numbers-of : (t h i g : ℕ) → (same_node (AtGear t h) (AtGear i g) || false) ≡ true → h ≡ g
numbers-of t h i g e = go (t == i) (h == g) refl e
  where
    go : (a b : Bool) → (h == g) ≡ b → ((a && b) || false) ≡ true → h ≡ g
    go true true w e = eqb-true h g w
    go true false w e = absurd (cc)
    go false b w e = absurd (cc)

lt-more : (g n : ℕ) → g < n → g < suc n
lt-more g n l = omega arith

lt-last : (g n : ℕ) → n ≡ g → g < suc n
lt-last g n e = omega arith

lt-cases : (g n : ℕ) → g < suc n → (n == g) ≡ false → g < n
lt-cases g n l e = grind (arith, nat_tests)

never : (g : ℕ) → g < zero → ⊥
never g l = omega arith

has-more : (i : ℕ) (xs ys : List ℕ) (p : Node) → has same_node (gear_nodes i (xs ++ ys)) p ≡ (has same_node (gear_nodes i xs) p || has same_node (gear_nodes i ys) p)
has-more i [] ys p = refl
has-more i (x ∷ xs) ys p = ap (λ (b : Bool). same_node (AtGear i x) p || b) (has-more i xs ys p) ∙ join (same_node (AtGear i x) p) (has same_node (gear_nodes i xs) p) (has same_node (gear_nodes i ys) p)
  where
    join : (a b c : Bool) → (a || (b || c)) ≡ ((a || b) || c)
    join true b c = refl
    join false b c = refl

pub gear-below : (n t i g : ℕ) → has same_node (gear_nodes t (below n)) (AtGear i g) ≡ true → g < n
gear-below zero t i g e = absurd (cc)
gear-below (suc n) t i g e = go (has same_node (gear_nodes t (below n)) (AtGear i g)) refl (gear-below n t i g) (sym (has-more t (below n) (n ∷ []) (AtGear i g)) ∙ e)
  where
    go : (b : Bool) → has same_node (gear_nodes t (below n)) (AtGear i g) ≡ b → (has same_node (gear_nodes t (below n)) (AtGear i g) ≡ true → g < n) → (b || (same_node (AtGear t n) (AtGear i g) || false)) ≡ true → g < suc n
    go true w rest k = lt-more g n (rest w)
    go false w rest k = lt-last g n (numbers-of t n i g k)

pub below-gear : (n i g : ℕ) → g < n → has same_node (gear_nodes i (below n)) (AtGear i g) ≡ true
below-gear zero i g l = absurd (never g l)
below-gear (suc n) i g l = has-more i (below n) (n ∷ []) (AtGear i g) ∙ go (n == g) refl (below-gear n i g)
  where
    go : (b : Bool) → (n == g) ≡ b → (g < n → has same_node (gear_nodes i (below n)) (AtGear i g) ≡ true) → (has same_node (gear_nodes i (below n)) (AtGear i g) || (((i == i) && (n == g)) || false)) ≡ true
    go true w rest = or_right (has same_node (gear_nodes i (below n)) (AtGear i g)) (((i == i) && (n == g)) || false) (or_left ((i == i) && (n == g)) false (and_from (i == i) (n == g) (same-number i) w))
    go false w rest = or_left (has same_node (gear_nodes i (below n)) (AtGear i g)) (((i == i) && (n == g)) || false) (rest (lt-cases g n l w))

is-below : (h g n : ℕ) → h ≡ g → h < n → g < n
is-below h g n e l = omega arith

seat-gear : (c : ℕ) (at : ℕ → ℕ) (o : Option ℕ) (n i g : ℕ) → ((i : ℕ) → at i < n) → has same_node (seat_nodes c (λ i. AtGear i (at i)) o) (AtGear i g) ≡ true → g < n
seat-gear c at None n i g l e = absurd (cc)
seat-gear c at (Some t) n i g l e = is-below (at t) g n (numbers-of t (at t) i g e) (l t)

client-gear : (at : Option ℕ → List Node) (x : Given) (n i g : ℕ) → ((o : Option ℕ) → has same_node (at o) (AtGear i g) ≡ true → g < n) → has same_node (client_nodes at x) (AtGear i g) ≡ true → g < n
client-gear at (OfClient seen seat) n i g k e = k seat e
client-gear at _ n i g k e = absurd (cc)

attach-gear : (c j : ℕ) (o : Option ℕ) (n i g : ℕ) → has same_node (attach_nodes c j o) (AtGear i g) ≡ true → g < n
attach-gear c j None n i g e = absurd (cc)
attach-gear c j (Some t) n i g e = absurd (cc)

gear-number : (t h i g : ℕ) → same_node (AtGear t h) (AtGear i g) ≡ true → h ≡ g
gear-number t h i g e = eqb-true h g (and_parts (t == i) (h == g) e).1

-- the gears of items are the deployment's
items-gear : (d : Deployed) (k : ℕ) (xs : List ℕ) (t i g : ℕ) → 0 < d.gears → has same_node (gear_nodes t (item_gears d k xs)) (AtGear i g) ≡ true → g < d.gears
items-gear d k [] t i g some e = absurd (cc)
items-gear d k (x ∷ xs) t i g some e = keeps (replicates d x k) e (items-gear d k xs t i g some)
  where
    first : (b : Bool) → same_node (AtGear t (gear_of d x)) (AtGear i g) ≡ b → (b || has same_node (gear_nodes t (item_gears d k xs)) (AtGear i g)) ≡ true → (has same_node (gear_nodes t (item_gears d k xs)) (AtGear i g) ≡ true → g < d.gears) → g < d.gears
    first true w e rest = is-below (gear_of d x) g d.gears (gear-number t (gear_of d x) i g w) (mod-lt x some)
    first false w e rest = rest e

    keeps : (b : Bool) → has same_node (gear_nodes t (gears_if b (gear_of d x) (item_gears d k xs))) (AtGear i g) ≡ true → (has same_node (gear_nodes t (item_gears d k xs)) (AtGear i g) ≡ true → g < d.gears) → g < d.gears
    keeps true e rest = first (same_node (AtGear t (gear_of d x)) (AtGear i g)) refl e rest
    keeps false e rest = rest e

shown-gear : (d : Deployed) (t : ℕ) (r : Answer) (i g : ℕ) → 0 < d.gears → has same_node (shown_nodes d t r) (AtGear i g) ≡ true → g < d.gears
shown-gear d t (ans.Shown l) i g some e = items-gear d t (items_of l.kind) t i g some e
shown-gear d t _ i g some e = absurd (cc)

written-gear : (d : Deployed) (t : ℕ) (items : Items) (r : Answer) (i g : ℕ) → 0 < d.gears → has same_node (written_nodes d t items r) (AtGear i g) ≡ true → g < d.gears
written-gear d t items (ans.Wrote l) i g some e = items-gear d t (list_of items) t i g some e
written-gear d t items _ i g some e = absurd (cc)

group-gear : (d : Deployed) (c : ℕ) (items : Items) (r : Answer) (o : Option ℕ) (i g : ℕ) → 0 < d.gears → has same_node (group_nodes d c items r o) (AtGear i g) ≡ true → g < d.gears
group-gear d c items r None i g some e = absurd (cc)
group-gear d c items r (Some t) i g some e = go (same_node (AtGear t (gear_for d items)) (AtGear i g)) refl e
  where
    go : (b : Bool) → same_node (AtGear t (gear_for d items)) (AtGear i g) ≡ b → (b || has same_node (written_nodes d t items r) (AtGear i g)) ≡ true → g < d.gears
    go true w e = is-below (gear_for d items) g d.gears (gear-number t (gear_for d items) i g w) (mod-lt (least_item (list_of items)) some)
    go false w e = written-gear d t items r i g some e

abbrev IsAmong : Deployed → ℕ → ℕ → List ℕ → Type 0
IsAmong d i x gs = has same_node (gear_nodes i gs) (AtGear i (gear_of d x)) ≡ true

-- the gear of an item that the site keeps is among the gears of a list with the item
pub gear-listed : (d : Deployed) (i x : ℕ) (xs : List ℕ) → replicates d x i ≡ true → has ◌==◌ xs x ≡ true → has same_node (gear_nodes i (item_gears d i xs)) (AtGear i (gear_of d x)) ≡ true
gear-listed d i x [] keeps e = absurd (cc)
gear-listed d i x (y ∷ ys) keeps e = go (y == x) refl e (gear-listed d i x ys keeps)
  where
    later : (b : Bool) → IsAmong d i x (item_gears d i ys) → IsAmong d i x (gears_if b (gear_of d y) (item_gears d i ys))
    later true z = or_right (same_node (AtGear i (gear_of d y)) (AtGear i (gear_of d x))) (has same_node (gear_nodes i (item_gears d i ys)) (AtGear i (gear_of d x))) z
    later false z = z

    first : y ≡ x → IsAmong d i x (gears_if (replicates d y i) (gear_of d y) (item_gears d i ys))
    first w =
        subst (λ (b : Bool). IsAmong d i x (gears_if b (gear_of d y) (item_gears d i ys))) (sym (ap (λ (z : ℕ). replicates d z i) w ∙ keeps))
        (or_left (same_node (AtGear i (gear_of d y)) (AtGear i (gear_of d x))) (has same_node (gear_nodes i (item_gears d i ys)) (AtGear i (gear_of d x)))
        (ap (λ (z : ℕ). same_node (AtGear i (gear_of d y)) (AtGear i (gear_of d z))) (sym w) ∙ node-self (AtGear i (gear_of d y))))

    go : (b : Bool) → (y == x) ≡ b → (b || has ◌==◌ ys x) ≡ true → (has ◌==◌ ys x ≡ true → IsAmong d i x (item_gears d i ys)) → IsAmong d i x (item_gears d i (y ∷ ys))
    go true w e rest = first (eqb-true y x w)
    go false w e rest = later (replicates d y i) (rest e)

-- a gear at which an act stands is one of the deployment's
pub gear-in-range : (d : Deployed) (a : Act) (x : Given) (r : Answer) (i g : ℕ) → 0 < d.gears → InRange d a → has same_node (nodes d a x r) (AtGear i g) ≡ true → g < d.gears
gear-in-range d (act.Tick t h u) x r i g some range e = is-below h g d.gears (numbers-of t h i g e) range.1
gear-in-range d (act.Write c y value) x r i g some range e = client-gear (seat_nodes c (item_node d y)) x d.gears i g (λ o. seat-gear c (λ i. gear_of d y) o d.gears i g (λ i. mod-lt y some)) e
gear-in-range d (act.Writes c items values) x r i g some range e = client-gear (group_nodes d c items r) x d.gears i g (λ o. group-gear d c items r o i g some) e
gear-in-range d (act.Read c y) x r i g some range e = client-gear (seat_nodes c (item_node d y)) x d.gears i g (λ o. seat-gear c (λ i. gear_of d y) o d.gears i g (λ i. mod-lt y some)) e
gear-in-range d (act.Move c j) x r i g some range e = client-gear (seat_nodes c first_node) x d.gears i g (λ o. seat-gear c (λ i. 0) o d.gears i g (λ i. some)) e
gear-in-range d (act.Attach c j) x r i g some range e = client-gear (attach_nodes c j) x d.gears i g (λ o. attach-gear c j o d.gears i g) e
gear-in-range d (act.Gather t) x r i g some range e = gear-below d.gears t i g e
gear-in-range d (act.Turn t) x r i g some range e = shown-gear d t r i g some e
gear-in-range d (act.Stamp t) x r i g some range e = shown-gear d t r i g some e
gear-in-range d _ x r i g some range e = absurd (cc)

-- ---- a gear's acts have no hub

gears-no-hub : (i : ℕ) (gs : List ℕ) (t : ℕ) → has same_node (gear_nodes i gs) (AtHub t) ≡ false
gears-no-hub i [] t = refl
gears-no-hub i (g ∷ gs) t = gears-no-hub i gs t

written-no-hub : (d : Deployed) (i : ℕ) (items : Items) (r : Answer) (t : ℕ) → has same_node (written_nodes d i items r) (AtHub t) ≡ false
written-no-hub d i items (ans.Wrote l) t = gears-no-hub i (item_gears d i (list_of items)) t
written-no-hub d i items _ t = refl

group-no-hub : (d : Deployed) (c : ℕ) (items : Items) (r : Answer) (o : Option ℕ) (t : ℕ) → has same_node (group_nodes d c items r o) (AtHub t) ≡ false
group-no-hub d c items r None t = refl
group-no-hub d c items r (Some i) t = written-no-hub d i items r t

client-has-no-hub : (at : Option ℕ → List Node) (x : Given) (t : ℕ) → ((o : Option ℕ) → has same_node (at o) (AtHub t) ≡ false) → has same_node (client_nodes at x) (AtHub t) ≡ false
client-has-no-hub at (OfClient seen seat) t k = k seat
client-has-no-hub at _ t k = refl

pub shared-no-hub : (d : Deployed) (a : Act) (x : Given) (r : Answer) (i g t : ℕ) → is_shared a ≡ true → is_first (AtGear i g) (nodes d a x r) ≡ true → has same_node (nodes d a x r) (AtHub t) ≡ false
shared-no-hub d (act.Gather s) x r i g t j e = absurd (cc)
shared-no-hub d (act.Turn s) x r i g t j e = absurd (cc)
shared-no-hub d (act.Stamp s) x r i g t j e = absurd (cc)
shared-no-hub d (act.Writes c items values) x r i g t j e = client-has-no-hub (group_nodes d c items r) x t (λ o. group-no-hub d c items r o t)
shared-no-hub d _ x r i g t j e = absurd (cc)
