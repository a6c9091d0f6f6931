-- There is one path from a node to a site.
use Rattle.std.proofs.lemmas.Bool.{both_ways, or_parts, or_right}
use Rattle.std.proofs.Common.{◌≡◌, ℕ, Bool, true, false, not, ◌⊎◌, inl, inr, List, [], ◌∷◌, refl, sym, ap, subst, ◌∙◌}
use Rattle.sat_label.specs.declared.node.NodeId.{NodeId}
use Rattle.sat_label.specs.declared.node.NodeId.TheVariants.{Site}
use Rattle.sat_label.specs.Order.{node_eq}
use Rattle.sat_label.specs.Words.{has}
use Rattle.sat_label.proofs.SameNodes.{same-node, node-self}
use Rattle.sat_tree.specs.Shape.{TreeShape}
use Rattle.sat_tree.specs.Cut.{IsTree, IsNode, is_edge, beyond}
use Rattle.sat_tree.specs.Laws.{IsCuttable, Path, stays, steps, EveryTreeIsWellCut}
use Rattle.sat_tree.proofs.Trees.{cuttable, other-side}
use Rattle.sat_tree.proofs.Everywhere.{some-path}

-- a path has its ends
begins : (t : TreeShape) (u v : NodeId) (nodes : List NodeId) → Path t u v nodes → has node_eq nodes u ≡ true
begins t u v nodes (stays {v = y}) = rw (node-self y) refl
begins t u v nodes (steps {u = y} e new rest) = rw (node-self y) refl

ends : (t : TreeShape) (u v : NodeId) (nodes : List NodeId) → Path t u v nodes → has node_eq nodes v ≡ true
ends t u v nodes (stays {v = y}) = rw (node-self y) refl
ends t u v nodes (steps {u = y} {x = x} {nodes = ns} e new rest) = or_right (node_eq y v) _ (ends t x v ns rest)

head-is : (t : TreeShape) (u v y : NodeId) (nodes others : List NodeId) → Path t u v nodes → nodes ≡ y ∷ others → u ≡ y
head-is t u v y nodes others (stays {v = z}) e = cc
head-is t u v y nodes others (steps {u = z} f new rest) e = cc

-- a path to a site begins over the edge that the site lies beyond
toward : (t : TreeShape) → IsCuttable t → (u x v : NodeId) (k : ℕ) (rest : List NodeId) → Path t x v rest → v ≡ Site k → is_edge t u x ≡ true → has node_eq rest u ≡ false → beyond t u x v ≡ true
toward t c u x v k rest (stays {v = z}) site e new = c.far u z e
toward t c u x v k rest (steps {u = z} {x = y} {nodes = ns} f other path) site e new =
    let later = subst (λ (n : NodeId). beyond t z y n ≡ true) site (toward t c z y v k ns path site f other) in
    subst (λ (n : NodeId). beyond t u z n ≡ true) (sym site) (c.through u z y k e f (λ same. both_ways _ (or_parts _ _ new).1 (ap (λ n. has node_eq ns n) (sym same) ∙ begins t y v ns path)) later)

first-edge : (t : TreeShape) → IsCuttable t → (u x v : NodeId) (k : ℕ) (nodes rest : List NodeId) → Path t u v nodes → v ≡ Site k → nodes ≡ u ∷ x ∷ rest → beyond t u x v ≡ true
first-edge t c u x v k nodes rest (stays {v = z}) site e = absurd (cc)
first-edge t c u x v k nodes rest (steps {u = z} {x = y} {nodes = ns} f new path) site e =
    let tail : ns ≡ x ∷ rest = cc in
    subst (λ (n : NodeId). beyond t z n v ≡ true) (head-is t y v x ns rest path tail) (toward t c z y v k ns path site f new)

same-or-not : (u v : NodeId) → (u ≡ v) ⊎ (u ≡ v → ⊥)
same-or-not u v = go (node_eq u v) refl
  where
    go : (b : Bool) → node_eq u v ≡ b → (u ≡ v) ⊎ (u ≡ v → ⊥)
    go true e = inl (same-node u v e)
    go false e = inr (λ same. let f : node_eq u u ≡ false = ap (node_eq u) same ∙ e in let g = node-self u in cc)

module _ (t : TreeShape) (tree : IsTree t) where
  -- a site lies beyond one edge of a node only
  one-way : (u x y : NodeId) (k : ℕ) → is_edge t u x ≡ true → is_edge t u y ≡ true → beyond t u x (Site k) ≡ true → beyond t u y (Site k) ≡ true → (y ≡ x → ⊥) → ⊥
  one-way u x y k e f a b apart =
      let c = cuttable t tree in
      let back = c.through x u y k (c.back u x e) f apart b in
      let side = other-side t tree u x (Site k) e in
      both_ways _ (side ∙ ap not back) a

  no-return : (u x v : NodeId) (rest : List NodeId) → has node_eq rest u ≡ false → Path t x v rest → v ≡ u → ⊥
  no-return u x v rest new path same = let e : has node_eq rest u ≡ true = ap (has node_eq rest) (sym same) ∙ ends t x v rest path in cc

  one-path : (u w v z : NodeId) (k : ℕ) (nodes others : List NodeId) → Path t u v nodes → Path t w z others → u ≡ w → v ≡ z → v ≡ Site k → nodes ≡ others
  one-path u w v z k nodes others (stays {v = a}) (stays {v = b}) same end site = ap (λ n. n ∷ []) same
  one-path u w v z k nodes others (stays {v = a}) (steps {u = b} {x = x} {nodes = ns} e new path) same end site = absurd (no-return b x z ns new path (sym end ∙ same))
  one-path u w v z k nodes others (steps {u = b} {x = x} {nodes = ns} e new path) (stays {v = a}) same end site = absurd (no-return b x v ns new path (end ∙ sym same))
  one-path u w v z k nodes others (steps {u = a} {x = x} {nodes = ns} e new path) (steps {u = b} {x = y} {nodes = ms} f other way) same end site =
      let far = subst (λ (n : NodeId). beyond t a x n ≡ true) site (toward t (cuttable t tree) a x v k ns path site e new) in
      let near = subst (λ (n : NodeId). beyond t b y n ≡ true) (sym end ∙ site) (toward t (cuttable t tree) b y z k ms way (sym end ∙ site) f other) in
      elim (same-or-not y x) [
        | inl one ↦ ap (λ n. n ∷ ns) same ∙ ap (λ l. b ∷ l) (one-path x y v z k ns ms path way (sym one) end site)
        | inr apart ↦ absurd (one-way a x y k e (subst (λ (n : NodeId). is_edge t n y ≡ true) (sym same) f) far (subst (λ (n : NodeId). beyond t n y (Site k) ≡ true) (sym same) near) apart)
      ]

  starts : (u v : NodeId) (nodes : List NodeId) → Path t u v nodes → (more : List NodeId) × (nodes ≡ u ∷ more)
  starts u v nodes (stays {v = z}) = ([], refl)
  starts u v nodes (steps {u = z} {nodes = ns} e new path) = (ns, refl)

  -- a site is on its own side of its edge
  own-side : (u x v : NodeId) (k : ℕ) → is_edge t u x ≡ true → u ≡ v → beyond t u x v ≡ true → ⊥
  own-side u x v k e same far =
      let c = cuttable t tree in
      let here = subst (λ (n : NodeId). beyond t x u n ≡ true) same (c.far x u (c.back u x e)) in
      both_ways _ (other-side t tree u x v e ∙ ap not here) far

  begins-so : (u x v : NodeId) (k : ℕ) (nodes : List NodeId) → Path t u v nodes → v ≡ Site k → is_edge t u x ≡ true → beyond t u x v ≡ true → (more : List NodeId) × Path t u v (u ∷ x ∷ more)
  begins-so u x v k nodes (stays {v = z}) site edge far = absurd (own-side z x z k edge refl far)
  begins-so u x v k nodes (steps {u = z} {x = y} {nodes = ns} e new path) site edge far =
      let front = starts y v ns path in
      let also = toward t (cuttable t tree) z y v k ns path site e new in
      elim (same-or-not y x) [
        | inl same ↦
            (let is : ns ≡ x ∷ front.0 = front.1 ∙ ap (λ n. n ∷ front.0) same in
            (front.0, subst (λ (l : List NodeId). Path t z v (z ∷ l)) is (steps e new path)))
        | inr apart ↦ absurd (one-way z x y k edge e (subst (λ (n : NodeId). beyond t z x n ≡ true) site far) (subst (λ (n : NodeId). beyond t z y n ≡ true) site also) apart)
      ]

  begins-with : (u x : NodeId) (k : ℕ) → IsNode t u → is_edge t u x ≡ true → beyond t u x (Site k) ≡ true → (more : List NodeId) × Path t u (Site k) (u ∷ x ∷ more)
  begins-with u x k node edge far =
      let way = some-path t tree u k node (λ same. own-side u x (Site k) k edge same far) in
      begins-so u x (Site k) k way.0 way.1 refl edge far

pub well-cut : EveryTreeIsWellCut
well-cut t tree = record {
  cuttable = cuttable t tree;
  first_edge = λ u x k nodes path. first-edge t (cuttable t tree) u x (Site k) k _ nodes path refl refl;
  begins = λ u x k node edge far. begins-with t tree u x k node edge far;
  some_path = λ u k node apart. some-path t tree u k node apart;
  one_path = λ u k nodes others one other. one-path t tree u u (Site k) (Site k) k nodes others one other refl refl refl;
}
