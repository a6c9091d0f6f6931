-- Outboxes of the neighbours.
use Rattle.std.proofs.Common.{◌≡◌, ℕ, zero, suc, ◌+◌, ◌<◌, ◌||◌, Bool, true, false, cond, List, [], ◌∷◌, ◌++◌, length, map, take, drop, set, get_or, Option, Some, None, slice_get, inl, inr, refl, sym, ap, ◌∙◌, subst, arith}
use Rattle.std.specs.List.{list_any, position, position_from}
use Rattle.std.specs.Option.{option_to_list}
use Rattle.std.proofs.lemmas.Bool.{cases_Bool}
use Rattle.std.proofs.Math.Numerals.{add-one}
use Rattle.std.proofs.lemmas.List.{map-set, get_or-map}
use Rattle.std.proofs.lemmas.List.Quantifiers.{position-Some}
use Rattle.std.proofs.lemmas.Iterator.Adapters.{position_from-zero}
use Rattle.sat_label.specs.declared.label.Label.{Label}
use Rattle.sat_label.specs.declared.node.NodeId.{NodeId}
use Rattle.sat_label.specs.Order.{node_eq}
use Rattle.sat_label.proofs.SameNodes.{same-node, node-self}
use Rattle.sat_sites.specs.Interested.{Interested}
use Rattle.sat_tree.specs.Cut.{neighbours}
use Rattle.sat_queue.specs.Queued.{Queued, members_of}
use Rattle.sat_serial.specs.Routes.{goes}
use Rattle.sat_serial.specs.Outboxes.{SerializerSeen, after_handle, change_where, box_of, boxes_without, EachOutbox}
use Rattle.sat_tree.specs.Shape.{TreeShape}
use Rattle.sat_serial.proofs.Ways.{is-among}

-- ---- a change of some outboxes, one node after another

-- the outbox of the next node is as it was
pub still : {X : Type 0} (test : X → Bool) (f : List Label → List Label) (nodes : List X) (boxes : List (List Label)) (i : ℕ) → i < length nodes → length boxes ≡ length nodes →
    get_or (change_where test f (take i nodes) boxes) i [] ≡ get_or boxes i []
still test f [] boxes i less same = absurd (omega arith)
still test f (v ∷ nodes) [] i less same = absurd (cc)
still test f (v ∷ nodes) (box ∷ boxes) zero less same = refl
still test f (v ∷ nodes) (box ∷ boxes) (suc i) less same = still test f nodes boxes i (omega arith) (omega arith)

more-suc : {X : Type 0} (test : X → Bool) (f : List Label → List Label) (nodes : List X) (boxes : List (List Label)) (i : ℕ) (d : X) → i < length nodes → length boxes ≡ length nodes →
    change_where test f (take (suc i) nodes) boxes ≡ set (change_where test f (take i nodes) boxes) i (cond (test (get_or nodes i d)) (f (get_or boxes i [])) (get_or boxes i []))
more-suc test f [] boxes i d less same = absurd (omega arith)
more-suc test f (v ∷ nodes) [] i d less same = absurd (cc)
more-suc test f (v ∷ nodes) (box ∷ boxes) zero d less same = refl
more-suc test f (v ∷ nodes) (box ∷ boxes) (suc i) d less same =
    ap (λ rest. cond (test v) (f box) box ∷ rest) (more-suc test f nodes boxes i d (omega arith) (omega arith))

-- the outbox of the next node changes, if its node passes the test
pub more : {X : Type 0} (test : X → Bool) (f : List Label → List Label) (nodes : List X) (boxes : List (List Label)) (i : ℕ) (d : X) → i < length nodes → length boxes ≡ length nodes →
    change_where test f (take (i + 1) nodes) boxes ≡ set (change_where test f (take i nodes) boxes) i (cond (test (get_or nodes i d)) (f (get_or boxes i [])) (get_or boxes i []))
more test f nodes boxes i d less same = rw add-one (more-suc test f nodes boxes i d less same)

-- ---- an outbox without its oldest label

AtPlace : NodeId → List NodeId → List (List Label) → ℕ → Type 0
AtPlace v nodes boxes k = (box_of v nodes boxes ≡ get_or boxes k []) × (boxes_without v nodes boxes ≡ set boxes k (drop 1 (get_or boxes k [])))

at-place : (v : NodeId) (nodes : List NodeId) (boxes : List (List Label)) (k : ℕ) (d : NodeId) → k < length nodes → length boxes ≡ length nodes →
    node_eq v (get_or nodes k d) ≡ true → ((j : ℕ) → j < k → node_eq v (get_or nodes j d) ≡ false) → AtPlace v nodes boxes k
unfolding AtPlace
at-place v [] boxes k d less same here before = absurd (omega arith)
at-place v (u ∷ nodes) [] k d less same here before = absurd (cc)
at-place v (u ∷ nodes) (box ∷ boxes) zero d less same here before = (rw here, rw here)
at-place v (u ∷ nodes) (box ∷ boxes) (suc k) d less same here before =
    let other : node_eq v u ≡ false = before 0 (omega arith) in
    let rest : AtPlace v nodes boxes k = at-place v nodes boxes k d (omega arith) (omega arith) here (λ j low. before (suc j) (omega arith)) in
    (rw other rest.0, rw other (ap (λ tail. box ∷ tail) rest.1))

pub none-cond : (b : Bool) (i : ℕ) (rest : Option ℕ) → cond b (Some i) rest ≡ None → (b ≡ false) × (rest ≡ None)
none-cond true i rest e = absurd (cc)
none-cond false i rest e = (refl, e)

NoPlace : NodeId → List NodeId → List (List Label) → Type 0
NoPlace v nodes boxes = (box_of v nodes boxes ≡ []) × (boxes_without v nodes boxes ≡ boxes)

no-place-from : (v : NodeId) (nodes : List NodeId) (boxes : List (List Label)) (i : ℕ) → position_from (node_eq v) i nodes ≡ None → NoPlace v nodes boxes
unfolding NoPlace
no-place-from v [] boxes i none = (refl, refl)
no-place-from v (u ∷ nodes) [] i none = (refl, refl)
no-place-from v (u ∷ nodes) (box ∷ boxes) i none =
    let parts : (node_eq v u ≡ false) × (position_from (node_eq v) (i + 1) nodes ≡ None) = none-cond (node_eq v u) i (position_from (node_eq v) (i + 1) nodes) none in
    let rest : NoPlace v nodes boxes = no-place-from v nodes boxes (i + 1) parts.1 in
    (rw parts.0 rest.0, rw parts.0 (ap (λ tail. box ∷ tail) rest.1))

pub no-box : (v : NodeId) (nodes : List NodeId) (boxes : List (List Label)) → position (node_eq v) nodes ≡ None → box_of v nodes boxes ≡ []
unfolding NoPlace
no-box v nodes boxes none = (no-place-from v nodes boxes 0 (sym (position_from-zero (node_eq v) nodes) ∙ none)).0

pub no-change : (v : NodeId) (nodes : List NodeId) (boxes : List (List Label)) → position (node_eq v) nodes ≡ None → boxes_without v nodes boxes ≡ boxes
unfolding NoPlace
no-change v nodes boxes none = (no-place-from v nodes boxes 0 (sym (position_from-zero (node_eq v) nodes) ∙ none)).1

pub within : (v : NodeId) (nodes : List NodeId) (k : ℕ) → position (node_eq v) nodes ≡ Some k → k < length nodes
within v nodes k at = (position-Some (node_eq v) nodes k v at).0

placed : (v : NodeId) (nodes : List NodeId) (boxes : List (List Label)) (k : ℕ) → length boxes ≡ length nodes → position (node_eq v) nodes ≡ Some k → AtPlace v nodes boxes k
placed v nodes boxes k same at =
    let facts : (k < length nodes) × (node_eq v (get_or nodes k v) ≡ true) × ((j : ℕ) → j < k → node_eq v (get_or nodes j v) ≡ false) = position-Some (node_eq v) nodes k v at in
    at-place v nodes boxes k v facts.0 same facts.1 facts.2

first : (xs : List Label) (r : Option Label) → xs ≡ option_to_list r ++ drop 1 xs → r ≡ slice_get xs 0
first [] None e = refl
first [] (Some y) e = absurd (cc)
first (x ∷ xs) None e = let n : suc (length xs) ≡ length xs = ap length e in absurd (omega arith)
first (x ∷ xs) (Some y) e = cc

-- the queue at the place is the outbox
pub queue-at : (queues : List (Queued Label)) (k : ℕ) (q : Queued Label) → k < length queues → get_or (map members_of queues) k [] ≡ (get_or queues k q).members
queue-at queues k q less = get_or-map (λ (p : Queued Label). p.members) queues k q [] less

pub length-labels : (queues : List (Queued Label)) → length (map members_of queues) ≡ length queues
length-labels [] = refl
length-labels (q ∷ queues) = ap suc (length-labels queues)

-- the queue of a node has the labels of its outbox
pub queue-of : (v : NodeId) (nodes : List NodeId) (queues : List (Queued Label)) (k : ℕ) (q : Queued Label) → length queues ≡ length nodes → position (node_eq v) nodes ≡ Some k → q ≡ get_or queues k q →
    q.members ≡ box_of v nodes (map members_of queues)
unfolding AtPlace
queue-of v nodes queues k q same at here =
    let less : k < length queues = subst (λ (n : ℕ). k < n) (sym same) (within v nodes k at) in
    sym ((placed v nodes (map members_of queues) k (length-labels queues ∙ same) at).0 ∙ (queue-at queues k q less ∙ sym (ap (λ (p : Queued Label). p.members) here)))

-- the label that leaves the queue of a node is the oldest of its outbox
pub taken-first : (v : NodeId) (nodes : List NodeId) (queues : List (Queued Label)) (k : ℕ) (q : Queued Label) (r : Option Label) (left : List Label) →
    length queues ≡ length nodes → position (node_eq v) nodes ≡ Some k → q ≡ get_or queues k q → q.members ≡ option_to_list r ++ left → left ≡ drop 1 q.members →
    r ≡ slice_get (box_of v nodes (map members_of queues)) 0
unfolding AtPlace
taken-first v nodes queues k q r left same at here split rest =
    let less : k < length queues = subst (λ (n : ℕ). k < n) (sym same) (within v nodes k at) in
    let box : box_of v nodes (map members_of queues) ≡ q.members = (placed v nodes (map members_of queues) k (length-labels queues ∙ same) at).0 ∙ (queue-at queues k q less ∙ sym (ap (λ (p : Queued Label). p.members) here)) in
    first q.members r (split ∙ ap (λ (xs : List Label). option_to_list r ++ xs) rest) ∙ ap (λ (xs : List Label). slice_get xs 0) (sym box)

-- a label at a place of the queue of a node is that of its outbox
pub label-of : (v : NodeId) (nodes : List NodeId) (queues : List (Queued Label)) (k : ℕ) (q : Queued Label) (n : ℕ) (r : Option Label) →
    length queues ≡ length nodes → position (node_eq v) nodes ≡ Some k → q ≡ get_or queues k q → r ≡ slice_get q.members n → r ≡ slice_get (box_of v nodes (map members_of queues)) n
unfolding AtPlace
label-of v nodes queues k q n r same at here label =
    let less : k < length queues = subst (λ (n : ℕ). k < n) (sym same) (within v nodes k at) in
    let box : box_of v nodes (map members_of queues) ≡ q.members = (placed v nodes (map members_of queues) k (length-labels queues ∙ same) at).0 ∙ (queue-at queues k q less ∙ sym (ap (λ (p : Queued Label). p.members) here)) in
    label ∙ ap (λ (xs : List Label). slice_get xs n) (sym box)

-- the queue of a node has as many labels as its outbox
pub many-of : (v : NodeId) (nodes : List NodeId) (queues : List (Queued Label)) (k : ℕ) (q : Queued Label) (n : ℕ) →
    length queues ≡ length nodes → position (node_eq v) nodes ≡ Some k → q ≡ get_or queues k q → n ≡ length q.members → n ≡ length (box_of v nodes (map members_of queues))
unfolding AtPlace
many-of v nodes queues k q n same at here many =
    let less : k < length queues = subst (λ (n : ℕ). k < n) (sym same) (within v nodes k at) in
    let box : box_of v nodes (map members_of queues) ≡ q.members = (placed v nodes (map members_of queues) k (length-labels queues ∙ same) at).0 ∙ (queue-at queues k q less ∙ sym (ap (λ (p : Queued Label). p.members) here)) in
    many ∙ ap (λ (xs : List Label). length xs) (sym box)

-- and what is left are the outboxes without it
pub taken-rest : (v : NodeId) (nodes : List NodeId) (queues : List (Queued Label)) (k : ℕ) (q p : Queued Label) →
    length queues ≡ length nodes → position (node_eq v) nodes ≡ Some k → q ≡ get_or queues k q → p.members ≡ drop 1 q.members →
    map members_of (set queues k p) ≡ boxes_without v nodes (map members_of queues)
unfolding AtPlace
taken-rest v nodes queues k q p same at here rest =
    let less : k < length queues = subst (λ (n : ℕ). k < n) (sym same) (within v nodes k at) in
    let box : get_or (map members_of queues) k [] ≡ q.members = queue-at queues k q less ∙ sym (ap (λ (p : Queued Label). p.members) here) in
    map-set (λ (p : Queued Label). p.members) queues k p
    ∙ (ap (λ (xs : List Label). set (map members_of queues) k xs) (rest ∙ ap (λ (xs : List Label). drop 1 xs) (sym box))
    ∙ sym (placed v nodes (map members_of queues) k (length-labels queues ∙ same) at).1)

-- ---- what the two changes do to one outbox

box-handled : (test : NodeId → Bool) (f : List Label → List Label) (v : NodeId) (nodes : List NodeId) (boxes : List (List Label)) → length boxes ≡ length nodes → list_any (node_eq v) nodes ≡ true →
    box_of v nodes (change_where test f nodes boxes) ≡ cond (test v) (f (box_of v nodes boxes)) (box_of v nodes boxes)
box-handled test f v [] boxes same among = absurd (cc)
box-handled test f v (u ∷ nodes) [] same among = absurd (cc)
box-handled test f v (u ∷ nodes) (box ∷ boxes) same among = elim (cases_Bool (node_eq v u)) [
  | inl here ↦ let e : v ≡ u = same-node v u here in rw here (rw e refl)
  | inr other ↦ rw other (box-handled test f v nodes boxes (omega arith) (or-other (node_eq v u) (list_any (node_eq v) nodes) other among))
]
  where
    or-other : (b c : Bool) → b ≡ false → (b || c) ≡ true → c ≡ true
    or-other true c e w = absurd (cc)
    or-other false c e w = w

differ : (u v w : NodeId) → node_eq u w ≡ true → node_eq v w ≡ false → node_eq u v ≡ false
differ u v w same other = elim (cases_Bool (node_eq u v)) [
  | inl e ↦ let uv : u ≡ v = same-node u v e in let t : node_eq v w ≡ true = subst (λ (n : NodeId). node_eq n w ≡ true) uv same in absurd (cc)
  | inr e ↦ e
]

swapped : (u v : NodeId) → node_eq u v ≡ false → node_eq v u ≡ false
swapped u v e = differ v u v (node-self v) e

cond-same : {X : Type 0} (b : Bool) (x : X) → cond b x x ≡ x
cond-same true x = refl
cond-same false x = refl

box-shipped : (to v : NodeId) (nodes : List NodeId) (boxes : List (List Label)) →
    box_of v nodes (boxes_without to nodes boxes) ≡ cond (node_eq to v) (drop 1 (box_of v nodes boxes)) (box_of v nodes boxes)
box-shipped to v [] boxes = sym (cond-same (node_eq to v) [])
box-shipped to v (u ∷ nodes) [] = sym (cond-same (node_eq to v) [])
box-shipped to v (u ∷ nodes) (box ∷ boxes) = elim (cases_Bool (node_eq to u)) [
  | inl to-u ↦ elim (cases_Bool (node_eq v u)) [
    | inl v-u ↦
        let e : to ≡ v = same-node to u to-u ∙ sym (same-node v u v-u) in
        let s : node_eq to v ≡ true = subst (λ (n : NodeId). node_eq to n ≡ true) e (node-self to) in
        rw (to-u, v-u, s)
    | inr v-u ↦ let s : node_eq to v ≡ false = differ to v u to-u v-u in rw (to-u, v-u, s)
  ]
  | inr to-u ↦ elim (cases_Bool (node_eq v u)) [
    | inl v-u ↦ let s : node_eq to v ≡ false = swapped v to (differ v to u v-u to-u) in rw (to-u, v-u, s)
    | inr v-u ↦ rw (to-u, v-u) (box-shipped to v nodes boxes)
  ]
]

pub each-outbox : EachOutbox
each-outbox = record {
  handles = λ s a u v l same neighbour. box-handled (goes a s.tree s.number u l) (λ box. box ++ l ∷ []) v (neighbours s.tree s.number) s.outboxes same.each (is-among s.tree s.number v neighbour);
  ships = λ s to v. box-shipped to v (neighbours s.tree s.number) s.outboxes;
}

-- ---- the loops over the queues

-- what a handled label leaves, over what the fields became
pub handled-by : (v s : SerializerSeen) (a : Interested) (u : NodeId) (l : Label) (t : TreeShape) (z : ℕ) (old boxes : List (List Label)) → v ≡ s → t ≡ v.tree → z ≡ v.number →
    old ≡ v.outboxes → boxes ≡ change_where (goes a t z u l) (λ box. box ++ l ∷ []) (neighbours t z) old →
    record v { outboxes = boxes } ≡ after_handle s a u l
handled-by v s a u l t z old boxes same tree number before after =
    ap (λ (bs : List (List Label)). record v { outboxes = bs })
    (after ∙ (λ i. change_where (goes a (tree i) (number i) u l) (λ box. box ++ l ∷ []) (neighbours (tree i) (number i)) (before i)))
    ∙ ap (λ (w : SerializerSeen). after_handle w a u l) same
