-- The labels that a serializer handled, with where they came from: what it took and what it put on its links.
use Rattle.std.proofs.Common.{◌≡◌, ℕ, Bool, true, false, ◌&&◌, not, ◌==◌, List, [], ◌∷◌, ◌++◌, map, filter, length, Some, None, refl, sym, ap, ap₂, ◌∙◌, cond, if◌then◌else◌}
use Rattle.std.proofs.lemmas.List.{length-map, map-append}
use Rattle.std.proofs.lemmas.List.Elements.{filter-append}
use Rattle.sat_label.specs.declared.label.Label.{Label}
use Rattle.sat_label.specs.declared.node.NodeId.{NodeId}
use Rattle.sat_label.specs.declared.node.NodeId.TheVariants.{Serializer}
use Rattle.sat_label.specs.Order.{node_eq}
use Rattle.sat_tree.specs.Shape.{TreeShape}
use Rattle.sat_act.specs.declared.act.Act.{Act}
use Rattle.sat_act.specs.declared.answer.Answer.{Answer}
use Rattle.sat_act.specs.declared.entry.Entry.{Entry}
use Rattle.sat_act.specs.Deployed.{Deployed}
use Rattle.sat_act.specs.Histories.{listed}
use Rattle.sat_act.specs.Runs.{IsRun}
use Rattle.sat_act.specs.Parts.{handling, taken, taken_entry, entered, entered_entry, goes_beyond}
use Rattle.sat_laws.proofs.Steps.{Step, emitted, pulsed, closed, hopped, showed_turn, took}
use Rattle.sat_laws.proofs.Runs.{entry, before_of, step_of}
use Rattle.sat_laws.proofs.Links.{tail_of}
use Rattle.sat_chain_laws.specs.Rows.{Pair, labels_from}
use Rattle.sat_chain_laws.specs.Chains.{hop_pair, hops}
use Rattle.sat_chain_laws.specs.ChainAnswers.{goes_on}
use Rattle.sat_chain_laws.proofs.Lists.{labels-append}

pub done-step : (h : List Entry) (x : Entry) (e z : ℕ) → hops (x ∷ h) e z ≡ hops h e z ++ tail_of (hop_pair e z h x)
unfolding hops
done-step h x e z = refl

-- ---- what it took

no-label : (b c : Bool) (l : Label) → tail_of (if ((b && false) && c) then Some l else None) ≡ []
no-label true c l = refl
no-label false c l = refl

took-pair : (u w : NodeId) (l : Label) (b : Bool) → tail_of (if (b && node_eq w u) then Some l else None) ≡ labels_from u (tail_of (if b then Some (record { from = w; label = l }) else None))
unfolding labels_from
took-pair u w l false = refl
took-pair u w l true = go (node_eq w u)
  where
    go : (c : Bool) → tail_of (if c then Some l else None) ≡ (if c then l ∷ [] else [])
    go true = refl
    go false = refl

taken-now : (d : Deployed) (h : List Entry) (a : Act) (r : Answer) (n : Bool) (e z : ℕ) (u : NodeId) → Step d h a r →
    tail_of (taken_entry d e u (Serializer z) h (entry a r n)) ≡ labels_from u (tail_of (hop_pair e z h (entry a r n)))
unfolding handling labels_from
taken-now d h a r n e z u (emitted q) = no-label _ _ _
taken-now d h a r n e z u (pulsed q p) = no-label _ _ _
taken-now d h a r n e z u (closed p q) = no-label _ _ _
taken-now d h a r n e z u (hopped {e = f} {z = y} {u = w} {l = l} k s) = took-pair u w l ((f == e) && (y == z))
taken-now d h a r n e z u (showed_turn m k s w p q) = no-label _ _ _
taken-now d h a r n e z u (took m k s w p) = no-label _ _ _
taken-now d h a r n e z u _ = refl

taken-list : (d : Deployed) (h : List Entry) (e z : ℕ) (u : NodeId) → IsRun d h → listed (taken_entry d e u (Serializer z)) h ≡ labels_from u (hops h e z)
unfolding listed hops labels_from
taken-list d [] e z u run = refl
taken-list d (x ∷ h) e z u run =
    ap₂ (λ (xs ys : List Label). xs ++ ys) (taken-list d h e z u (before_of d h x run)) (taken-now d h x.act x.answer x.inner e z u (step_of d h x run))
    ∙ sym (labels-append u (hops h e z) (tail_of (hop_pair e z h x)))

-- how many labels a serializer took from a neighbour
pub taken-is : (d : Deployed) (h : List Entry) (e z : ℕ) (u : NodeId) → IsRun d h → taken d h e u (Serializer z) ≡ length (labels_from u (hops h e z))
unfolding taken
taken-is d h e z u run = ap length (taken-list d h e z u run)

-- ---- what it put on its links

abbrev label_of : Pair → Label
label_of p = p.label

-- the labels of a list that go on to v
abbrev labels_to : Deployed → TreeShape → ℕ → NodeId → List Pair → List Label
labels_to d t z v xs = map label_of (filter (λ p. goes_on d t z v p) xs)

not-put : (b c : Bool) (l : Label) → tail_of (if ((b && false) && c) then Some l else None) ≡ []
not-put true c l = refl
not-put false c l = refl

put-pair : (d : Deployed) (t : TreeShape) (z : ℕ) (v w : NodeId) (l : Label) (b : Bool) →
    tail_of (if (b && (not (node_eq w v) && goes_beyond d t (Serializer z) v l)) then Some l else None) ≡ labels_to d t z v (tail_of (if b then Some (record { from = w; label = l }) else None))
put-pair d t z v w l false = refl
put-pair d t z v w l true = go (not (node_eq w v) && goes_beyond d t (Serializer z) v l)
  where
    go : (c : Bool) → tail_of (if c then Some l else None) ≡ map label_of (cond c (record { from = w; label = l } ∷ []) [])
    go true = refl
    go false = refl

put-now : (d : Deployed) (h : List Entry) (a : Act) (r : Answer) (n : Bool) (e z : ℕ) (t : TreeShape) (v : NodeId) → Step d h a r →
    tail_of (entered_entry d e t (Serializer z) v h (entry a r n)) ≡ labels_to d t z v (tail_of (hop_pair e z h (entry a r n)))
unfolding handling
put-now d h a r n e z t v (emitted q) = not-put _ _ _
put-now d h a r n e z t v (pulsed q p) = not-put _ _ _
put-now d h a r n e z t v (closed p q) = not-put _ _ _
put-now d h a r n e z t v (hopped {e = f} {z = y} {u = w} {l = l} k s) = put-pair d t z v w l ((f == e) && (y == z))
put-now d h a r n e z t v (showed_turn m k s w p q) = not-put _ _ _
put-now d h a r n e z t v (took m k s w p) = not-put _ _ _
put-now d h a r n e z t v _ = refl

labels-to-append : (d : Deployed) (t : TreeShape) (z : ℕ) (v : NodeId) (xs ys : List Pair) → labels_to d t z v (xs ++ ys) ≡ labels_to d t z v xs ++ labels_to d t z v ys
labels-to-append d t z v xs ys =
    ap (map label_of) (filter-append (λ p. goes_on d t z v p) xs ys) ∙ map-append label_of (filter (λ p. goes_on d t z v p) xs) (filter (λ p. goes_on d t z v p) ys)

put-list : (d : Deployed) (h : List Entry) (e z : ℕ) (t : TreeShape) (v : NodeId) → IsRun d h → listed (entered_entry d e t (Serializer z) v) h ≡ labels_to d t z v (hops h e z)
unfolding listed hops
put-list d [] e z t v run = refl
put-list d (x ∷ h) e z t v run =
    ap₂ (λ (xs ys : List Label). xs ++ ys) (put-list d h e z t v (before_of d h x run)) (put-now d h x.act x.answer x.inner e z t v (step_of d h x run))
    ∙ sym (labels-to-append d t z v (hops h e z) (tail_of (hop_pair e z h x)))

-- how many labels a serializer put on the link to a neighbour
pub put-is : (d : Deployed) (h : List Entry) (e z : ℕ) (t : TreeShape) (v : NodeId) → IsRun d h →
    length (filter (λ p. goes_on d t z v p) (hops h e z)) ≡ length (entered d h e t (Serializer z) v)
unfolding entered
put-is d h e z t v run = sym (ap length (put-list d h e z t v run) ∙ length-map (filter (λ p. goes_on d t z v p) (hops h e z)) label_of)
