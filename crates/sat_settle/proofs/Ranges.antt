-- The acts of a round are acts of the deployment.
use Rattle.std.specs.Prelude.{◌≡◌, ◌⊎◌, ◌<◌, ◌+◌, ◌==◌, ℕ, Bool, true, false, List, [], ◌∷◌, ◌++◌, length, map, get_or, Option, Some, None, if◌then◌else◌, refl}
use Rattle.std.proofs.Common.{sym, subst, inl, inr}
use Rattle.sat_label.specs.Members.{In}
use Rattle.sat_label.proofs.Members.{In-get, In-right, In-parts, In-filter}
use Rattle.sat_label.specs.Words.{below}
use Rattle.sat_label.specs.declared.node.NodeId.{NodeId}
use Rattle.sat_label.specs.declared.node.NodeId.TheVariants.{Site, Serializer}
use Rattle.sat_tree.specs.Shape.{TreeShape}
use Rattle.sat_tree.specs.Cut.{is_edge, neighbours, IsNode}
use Rattle.sat_act.specs.declared.act.Act.{Act}
use Rattle.sat_act.specs.declared.act.Act.TheVariants as act
use Rattle.sat_act.specs.Deployed.{Deployed}
use Rattle.sat_act.specs.Limits.{IsDeployment}
use Rattle.sat_act.specs.Parts.{tree_of}
use Rattle.sat_act.specs.Ranges.{IsActOf}
use Rattle.sat_act.specs.Runs.{is_settle}
use Rattle.sat_act.specs.Settling.{joined, bulks, hops, hops_of, turns, round_acts}
use Rattle.sat_act.proofs.Plans.{tree_in_plans}
use Rattle.sat_act.proofs.Valid.{is_valid, has_trees}
use Rattle.sat_world.proofs.Lists.{index-at}
use Rattle.sat_rest.specs.Ends.{IsWithin}
use Rattle.sat_settle.specs.RoundActs.{later_acts}
use Rattle.sat_rest.proofs.Totals.{In-joined, below-In}
use Rattle.sat_rest.proofs.Rounds.{edge-turned}

pub within : (d : Deployed) → IsDeployment d → IsWithin d
within d k = record {
  valid = is_valid d k;
  some_site = k.some_site;
  trees = has_trees d k;
  some_plan = k.some_plan;
  few_serializers = k.few_serializers;
  all_seated = k.all_seated;
}

-- an act of the deployment that is no settle
pub record MayTry (d : Deployed) (a : Act) : Type 0 where
  pub range : IsActOf d a
  pub plain : is_settle a ≡ false

map-In : {X Y : Type 0} (f : X → Y) (xs : List X) (y : Y) → In (map f xs) y → (x : X) × In xs x × (f x ≡ y)
map-In f [] y i = absurd i
map-In f (x ∷ xs) y (inl e) = (x, inl refl, e)
map-In f (x ∷ xs) y (inr i) = let r : (x : _) × In xs x × (f x ≡ y) = map-In f xs y i in (r.0, inr r.1, r.2)

bulk-of : (d : Deployed) (a : Act) → In (bulks d) a → MayTry d a
bulk-of d a m =
    let p : (i : ℕ) × In (below d.sites) i × In (joined (λ g. joined (λ j. if i == j then [] else act.Bulk i g j None ∷ []) (below d.sites)) (below d.gears)) a =
    In-joined (λ (i : ℕ). joined (λ (g : ℕ). joined (λ (j : ℕ). if i == j then [] else act.Bulk i g j None ∷ []) (below d.sites)) (below d.gears)) (below d.sites) a m in
    let q : (g : ℕ) × In (below d.gears) g × In (joined (λ j. if p.0 == j then [] else act.Bulk p.0 g j None ∷ []) (below d.sites)) a =
    In-joined (λ (g : ℕ). joined (λ (j : ℕ). if p.0 == j then [] else act.Bulk p.0 g j None ∷ []) (below d.sites)) (below d.gears) a p.2 in
    let r : (j : ℕ) × In (below d.sites) j × In (if p.0 == j then [] else act.Bulk p.0 q.0 j None ∷ []) a =
    In-joined (λ (j : ℕ). if p.0 == j then [] else act.Bulk p.0 q.0 j None ∷ []) (below d.sites) a q.2 in
    one p.0 q.0 r.0 (below-In d.sites p.0 p.1) (below-In d.gears q.0 q.1) (below-In d.sites r.0 r.1) (p.0 == r.0) refl r.2
  where
    one : (i g j : ℕ) → i < d.sites → g < d.gears → j < d.sites → (b : Bool) → (i == j) ≡ b → In (if b then [] else act.Bulk i g j None ∷ []) a → MayTry d a
    one i g j x y z true e k = absurd k
    one i g j x y z false e (inl k) = subst (MayTry d) k (record { range = ((x, z, e), y, tt); plain = refl })
    one i g j x y z false e (inr k) = absurd k

-- a neighbour of a serializer is a node
neighbour-node : (t : TreeShape) (z : ℕ) (u : NodeId) → In (neighbours t z) u → IsNode t u × (is_edge t u (Serializer z) ≡ true)
unfolding neighbours
neighbour-node t z u i =
    let p : In (map Site (below (length t.seats)) ++ map Serializer (below (length t.parents))) u × (is_edge t (Serializer z) u ≡ true) =
    In-filter (λ n. is_edge t (Serializer z) n) (map Site (below (length t.seats)) ++ map Serializer (below (length t.parents))) u i in
    (node (In-parts (map Site (below (length t.seats))) (map Serializer (below (length t.parents))) u p.0), edge-turned t (Serializer z) u p.1)
  where
    node : In (map Site (below (length t.seats))) u ⊎ In (map Serializer (below (length t.parents))) u → IsNode t u
    node (inl k) = let r : (x : ℕ) × In (below (length t.seats)) x × (Site x ≡ u) = map-In Site (below (length t.seats)) u k in subst (IsNode t) r.2 (below-In (length t.seats) r.0 r.1)
    node (inr k) = let r : (x : ℕ) × In (below (length t.parents)) x × (Serializer x ≡ u) = map-In Serializer (below (length t.parents)) u k in subst (IsNode t) r.2 (below-In (length t.parents) r.0 r.1)

hop-of : (d : Deployed) (a : Act) → In (hops d) a → MayTry d a
unfolding hops_of
hop-of d a m =
    let p : (n : ℕ) × In (below (length d.plans)) n × In (hops_of (n + 1) (tree_of d (n + 1))) a = In-joined (λ (n : ℕ). hops_of (n + 1) (tree_of d (n + 1))) (below (length d.plans)) a m in
    in_tree (p.0 + 1) (tree_of d (p.0 + 1)) refl p.2
  where
    in_tree : (e : ℕ) (o : Option TreeShape) → tree_of d e ≡ o → In (hops_of e o) a → MayTry d a
    in_tree e None k i = absurd i
    in_tree e (Some t) k i =
        let q : (z : ℕ) × In (below (length t.parents)) z × In (map (λ u. act.Hop e u z) (neighbours t z)) a = In-joined (λ (z : ℕ). map (λ u. act.Hop e u z) (neighbours t z)) (below (length t.parents)) a i in
        let r : (u : NodeId) × In (neighbours t q.0) u × (act.Hop e u q.0 ≡ a) = map-In (λ (u : NodeId). act.Hop e u q.0) (neighbours t q.0) a q.2 in
        let n : IsNode t r.0 × (is_edge t r.0 (Serializer q.0) ≡ true) = neighbour-node t q.0 r.0 r.1 in
        subst (MayTry d) r.2 (record { range = (t, (tree_in_plans d e t k).0, k, n.0, n.1); plain = refl })

turn-of : (d : Deployed) (a : Act) → In (turns d) a → MayTry d a
turn-of d a m =
    let p : (j : ℕ) × In (below d.sites) j × In (act.Turn j ∷ act.Stamp j ∷ act.Advance j ∷ []) a = In-joined (λ (j : ℕ). act.Turn j ∷ act.Stamp j ∷ act.Advance j ∷ []) (below d.sites) a m in
    one p.0 (below-In d.sites p.0 p.1) p.2
  where
    one : (j : ℕ) → j < d.sites → In (act.Turn j ∷ act.Stamp j ∷ act.Advance j ∷ []) a → MayTry d a
    one j b (inl k) = subst (MayTry d) k (record { range = b; plain = refl })
    one j b (inr (inl k)) = subst (MayTry d) k (record { range = b; plain = refl })
    one j b (inr (inr (inl k))) = subst (MayTry d) k (record { range = b; plain = refl })
    one j b (inr (inr (inr k))) = absurd k

pub may-try : (d : Deployed) (a : Act) → In (round_acts d) a → MayTry d a
unfolding round_acts
may-try d a m =
    elim (In-parts (bulks d) (hops d ++ turns d) a m) [
      | inl k ↦ bulk-of d a k
      | inr k ↦ elim (In-parts (hops d) (turns d) a k) [ inl q ↦ hop-of d a q | inr q ↦ turn-of d a q ]
    ]

-- what stands in a list is in it
pub in-at : {X : Type 0} (xs : List X) (i : ℕ) (x : X) → i < length xs → x ≡ get_or xs i x → In xs x
in-at xs i x l at = In-get xs i x (index-at xs i x l at)

-- an act of the list is one of a round
pub later-in : (d : Deployed) (acts : List Act) (i : ℕ) (a : Act) → acts ≡ later_acts d → i < length acts → a ≡ get_or acts i a → In (round_acts d) a
unfolding round_acts
later-in d acts i a e l at = In-right (bulks d) (later_acts d) a (subst (λ (xs : List Act). In xs a) e (in-at acts i a l at))

acts-in : (d : Deployed) (acts : List Act) (i : ℕ) (a : Act) → acts ≡ later_acts d → i < length acts → a ≡ get_or acts i a → MayTry d a
acts-in d acts i a e l at = may-try d a (later-in d acts i a e l at)

pub act-of : (d x : Deployed) (acts : List Act) (i : ℕ) (a : Act) → acts ≡ later_acts d → i < length acts → a ≡ get_or acts i a → x ≡ d → IsActOf x a
act-of d x acts i a e l at same = subst (λ (y : Deployed). IsActOf y a) (sym same) (acts-in d acts i a e l at).range

pub act-plain : (d : Deployed) (acts : List Act) (i : ℕ) (a : Act) → acts ≡ later_acts d → i < length acts → a ≡ get_or acts i a → is_settle a ≡ false
act-plain d acts i a e l at = (acts-in d acts i a e l at).plain
