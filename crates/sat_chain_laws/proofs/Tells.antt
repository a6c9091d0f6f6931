-- A new tail finds how many of its pairs took effect, from the numbers of labels on the outgoing links.
use Rattle.std.proofs.Common.{◌≡◌, ◌<◌, ◌≤◌, ℕ, Bool, true, false, ◌&&◌, ◌||◌, not, List, [], ◌∷◌, ◌++◌, length, take, Option, Some, refl, sym, ap, subst, ◌∙◌, inl, inr, arith}
use Rattle.std.proofs.Math.Seq.{take-append_seam}
use Rattle.std.specs.List.{list_any}
use Rattle.sat_label.specs.declared.label.Label.{Label}
use Rattle.sat_label.specs.declared.node.NodeId.{NodeId}
use Rattle.sat_label.specs.declared.node.NodeId.TheVariants.{Site, Serializer}
use Rattle.sat_label.specs.Order.{node_eq}
use Rattle.sat_label.specs.Words.{below}
use Rattle.sat_label.specs.Members.{In}
use Rattle.sat_label.proofs.Members.{In-get}
use Rattle.sat_label.proofs.SameNodes.{same-node}
use Rattle.sat_tree.specs.Shape.{TreeShape}
use Rattle.sat_tree.specs.Cut.{IsTree, is_edge, beyond}
use Rattle.sat_tree.proofs.Trees.{cuttable, other-side}
use Rattle.sat_tree.specs.Laws.{IsCuttable}
use Rattle.sat_act.specs.declared.entry.Entry.{Entry}
use Rattle.sat_act.specs.Deployed.{Deployed}
use Rattle.sat_act.specs.Headline.{HasTrees}
use Rattle.sat_act.specs.Parts.{tree_of, entered, goes_beyond, is_target}
use Rattle.sat_laws.proofs.Links.{entered-in}
use Rattle.sat_chain_laws.specs.Rows.{Pair, IsPrefix, labels_from}
use Rattle.sat_chain_laws.specs.Chains.{ChainEntry, seq, applied, plain, hops}
use Rattle.sat_chain_laws.specs.ChainAnswers.{goes_on}
use Rattle.sat_chain_laws.specs.Goals.{going, AccountsFor, LinksTellApplied}
use Rattle.sat_chain_laws.proofs.Lists.{prefix-length, prefix-in, between, fewer, labels-in, some_is}
use Rattle.sat_chain_laws.proofs.Rows.{either}
use Rattle.sat_chain_laws.proofs.Done.{put-is}
use Rattle.sat_chain_laws.proofs.Held.{Held, Good, links_in, links-are}

-- ---- every label on a link to a serializer goes on to some other neighbour of it

pub any-one : (f : ℕ → Bool) (ks : List ℕ) → list_any f ks ≡ true → (k : ℕ) × In ks k × (f k ≡ true)
any-one f [] e = absurd (cc)
any-one f (k ∷ ks) e = go (any-one f ks) (f k) refl e
  where
    go : (list_any f ks ≡ true → (k : ℕ) × In ks k × (f k ≡ true)) → (b : Bool) → f k ≡ b → (b || list_any f ks) ≡ true → (i : ℕ) × In (k ∷ ks) i × (f i ≡ true)
    go rest true w e = (k, inl refl, w)
    go rest false w e = let x = rest e in (x.0, inr x.1, x.2)

pub any-of : (f : ℕ → Bool) (ks : List ℕ) (k : ℕ) → In ks k → f k ≡ true → list_any f ks ≡ true
any-of f [] k i w = absurd i
any-of f (j ∷ ks) k (inl e) w = ap (λ (b : Bool). b || list_any f ks) (ap f e ∙ w)
any-of f (j ∷ ks) k (inr i) w = go (f j) (any-of f ks k i w)
  where
    go : (b : Bool) → list_any f ks ≡ true → (b || list_any f ks) ≡ true
    go true e = refl
    go false e = e

pub and-both : (a b : Bool) → (a && b) ≡ true → (a ≡ true) × (b ≡ true)
and-both true true e = (refl, refl)
and-both true false e = absurd (cc)
and-both false b e = absurd (cc)

pub both-and : (a b : Bool) → a ≡ true → b ≡ true → (a && b) ≡ true
both-and true true p q = refl
both-and false b p q = absurd (cc)
both-and true false p q = absurd (cc)

not-true : (a b : Bool) → a ≡ not b → a ≡ true → b ≡ false
not-true a true e f = absurd (cc)
not-true a false e f = refl

not-false : (a b : Bool) → a ≡ not b → a ≡ false → b ≡ true
not-false a true e f = refl
not-false a false e f = absurd (cc)

-- what lies beyond the edge from u to serializer z lies beyond an edge from z to another neighbour
pub onward : (t : TreeShape) → IsTree t → (u : NodeId) (z k : ℕ) → is_edge t u (Serializer z) ≡ true → beyond t u (Serializer z) (Site k) ≡ true →
    (v : NodeId) × (is_edge t (Serializer z) v ≡ true) × (node_eq u v ≡ false) × (beyond t (Serializer z) v (Site k) ≡ true)
onward t tree u z k e there =
    let c : IsCuttable t = cuttable t tree in
    let near : beyond t (Serializer z) u (Site k) ≡ false = not-true _ _ (other-side t tree u (Serializer z) (Site k) e) there in
    let w = c.first (Serializer z) u k (c.back u (Serializer z) e) near (λ same. cc) in
    (w.0, c.back w.0 (Serializer z) w.1, other w.0 (node_eq u w.0) refl w.2, not-false _ _ (other-side t tree w.0 (Serializer z) (Site k) w.1) w.2)
  where
    other : (v : NodeId) (b : Bool) → node_eq u v ≡ b → beyond t v (Serializer z) (Site k) ≡ false → node_eq u v ≡ false
    other v true s out =
        absurd (let x : beyond t v (Serializer z) (Site k) ≡ true = subst (λ (n : NodeId). beyond t n (Serializer z) (Site k) ≡ true) (same-node u v s) there in cc)
    other v false s out = s

goes-somewhere : (d : Deployed) (t : TreeShape) → IsTree t → (z : ℕ) (p : Pair) → is_edge t p.from (Serializer z) ≡ true → goes_beyond d t p.from (Serializer z) p.label ≡ true →
    (v : NodeId) × (is_edge t (Serializer z) v ≡ true) × (goes_on d t z v p ≡ true)
unfolding goes_beyond
goes-somewhere d t tree z p e far =
    let one = any-one (λ k. is_target d p.label k && beyond t p.from (Serializer z) (Site k)) (below d.sites) far in
    let both = and-both (is_target d p.label one.0) (beyond t p.from (Serializer z) (Site one.0)) one.2 in
    let w = onward t tree p.from z one.0 e both.1 in (
      w.0,
      w.1,
      both-and (not (node_eq p.from w.0)) (list_any (λ k. is_target d p.label k && beyond t (Serializer z) w.0 (Site k)) (below d.sites))
          (ap not w.2)
          (any-of (λ k. is_target d p.label k && beyond t (Serializer z) w.0 (Site k)) (below d.sites) one.0 one.1 (both-and (is_target d p.label one.0) (beyond t (Serializer z) w.0 (Site one.0)) both.0 w.3)),
    )

-- ---- so the counts of two places are apart

-- each pair of a replica's list goes on to some neighbour
each-goes : (d : Deployed) (h : List Entry) (r e z : ℕ) (t : TreeShape) (row : ℕ → Option (List Pair)) → IsTree t → tree_of d e ≡ Some t → Good d h r e z row →
    (k : ℕ) (xs : List Pair) (p : Pair) → row k ≡ Some xs → In xs p → (v : NodeId) × (is_edge t (Serializer z) v ≡ true) × (goes_on d t z v p ≡ true)
each-goes d h r e z t row tree has good k xs p living i =
    let near = good.near k xs p living i in
    let edge : is_edge t p.from (Serializer z) ≡ true = subst (λ (s : TreeShape). is_edge s p.from (Serializer z) ≡ true) (some_is near.0 t (sym near.1 ∙ has)) near.2 in
    let there : In (links_in d h e z (tree_of d e) p.from) p.label =
    prefix-in (labels_from p.from xs) (links_in d h e z (tree_of d e) p.from) p.label (good.from k xs p.from living) (labels-in xs p i) in
    let put = entered-in d h e t p.from (Serializer z) p.label (subst (λ (ls : List Label). In ls p.label) (links-are d h e z t p.from has) there) in
    goes-somewhere d t tree z p edge put.3

apart : (d : Deployed) (h : List Entry) (r e z : ℕ) (t : TreeShape) (row : ℕ → Option (List Pair)) → IsTree t → tree_of d e ≡ Some t → Good d h r e z row →
    (k : ℕ) (xs : List Pair) → row k ≡ Some xs → (a b : ℕ) → a < b → b ≤ length xs → AccountsFor d h e t z xs a → AccountsFor d h e t z xs b → ⊥
apart d h r e z t row tree has good k xs living a b lt le one two =
    let w = between xs a b lt le in
    let v = each-goes d h r e z t row tree has good k xs w.0 living (In-get xs a w.0 w.2) in
    let less : going d t z v.0 (take a xs) < going d t z v.0 (take a xs ++ w.0 ∷ w.1) = fewer (λ p. goes_on d t z v.0 p) (take a xs) w.1 w.0 v.2 in
    let more : going d t z v.0 (take a xs ++ w.0 ∷ w.1) ≡ going d t z v.0 (take b xs) = ap (going d t z v.0) (sym w.3) in
    let first : going d t z v.0 (take a xs) ≡ length (entered d h e t (Serializer z) v.0) = one v.0 v.1 in
    let second : going d t z v.0 (take b xs) ≡ length (entered d h e t (Serializer z) v.0) = two v.0 v.1 in
    omega arith

pub tells : (d : Deployed) (r : ℕ) (c : List ChainEntry) → HasTrees d → Held d r c → LinksTellApplied d r c
tells d r c trees held e z k t xs has living =
    let good : Good d (plain r c) r e z (seq r c e z) = held.rows e z in
    let did : IsPrefix (hops (plain r c) e z) xs = good.did k xs living in
    let count : applied c e z ≡ length (hops (plain r c) e z) = held.count e z in
    let within : length (hops (plain r c) e z) ≤ length xs = prefix-length (hops (plain r c) e z) xs did in
    let taken : take (applied c e z) xs ≡ hops (plain r c) e z =
    ap (λ (n : ℕ). take n xs) count ∙ ap (take (length (hops (plain r c) e z))) did.1 ∙ take-append_seam (hops (plain r c) e z) did.0 in
    let whole : AccountsFor d (plain r c) e t z xs (applied c e z) = λ v edge. ap (going d t z v) taken ∙ put-is d (plain r c) e z t v held.run in
    let bound : applied c e z ≤ length xs = omega arith in (
      bound,
      whole,
      λ n le one. elim (either n (applied c e z)) [
        | inl low ↦ elim (either (applied c e z) n) [
          | inl high ↦ omega arith
          | inr more ↦ absurd (apart d (plain r c) r e z t (seq r c e z) (trees e t has) has good k xs living n (applied c e z) (omega arith) bound one whole)
        ]
        | inr more ↦ absurd (apart d (plain r c) r e z t (seq r c e z) (trees e t has) has good k xs living (applied c e z) n (omega arith) le whole one)
      ],
    )
