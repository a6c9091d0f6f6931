-- An outbox that is lent out and given back, and labels that are handed on one after another.
use Rattle.std.proofs.Common.{◌≡◌, ℕ, zero, suc, ◌+◌, ◌<◌, ◌||◌, Bool, true, false, List, [], ◌∷◌, ◌++◌, length, map, take, drop, set, get_or, Some, None, slice_get, inl, inr, refl, sym, ap, ◌∙◌, subst, arith}
use Rattle.std.specs.List.{list_any, position, position_from}
use Rattle.std.proofs.lemmas.Bool.{cases_Bool}
use Rattle.std.proofs.Math.Numerals.{add-one}
use Rattle.std.proofs.lemmas.List.{map-set}
use Rattle.std.proofs.lemmas.List.Quantifiers.{position-Some}
use Rattle.std.proofs.lemmas.Iterator.Adapters.{position_from-zero}
use Rattle.sat_label.specs.declared.label.Label.{Label}
use Rattle.sat_label.specs.declared.node.NodeId.{NodeId}
use Rattle.sat_label.specs.Order.{node_eq}
use Rattle.sat_label.specs.Members.{In}
use Rattle.sat_label.proofs.Members.{In-get}
use Rattle.sat_sites.specs.Interested.{Interested}
use Rattle.sat_tree.specs.Cut.{neighbours}
use Rattle.sat_queue.specs.Queued.{Queued, members_of}
use Rattle.sat_serial.specs.Routes.{Arrives, IsNeighbour}
use Rattle.sat_serial.specs.Outboxes.{SerializerSeen, IsSerializer, after_handle, after_handles, after_ship, box_of, box_in, boxes_without, outbox, with_box}
use Rattle.sat_serial.proofs.Ways.{is-among}
use Rattle.sat_serial.proofs.Boxes.{length-labels, none-cond}

-- ---- labels put into one outbox

-- what stands there is what was put there
box-put : (v : NodeId) (ls : List Label) (nodes : List NodeId) (boxes : List (List Label)) → length boxes ≡ length nodes → list_any (node_eq v) nodes ≡ true → box_of v nodes (box_in v ls nodes boxes) ≡ ls
box-put v ls [] boxes same among = absurd (cc)
box-put v ls (u ∷ nodes) [] same among = absurd (cc)
box-put v ls (u ∷ nodes) (box ∷ boxes) same among = elim (cases_Bool (node_eq v u)) [
  | inl here ↦ rw (here, here) refl
  | inr other ↦ rw (other, other) (box-put v ls nodes boxes (omega arith) (or-other (node_eq v u) (list_any (node_eq v) nodes) other among))
]
  where
    or-other : (b c : Bool) → b ≡ false → (b || c) ≡ true → c ≡ true
    or-other true c e w = absurd (cc)
    or-other false c e w = w

-- what was put there last counts
box-twice : (v : NodeId) (ks ls : List Label) (nodes : List NodeId) (boxes : List (List Label)) → box_in v ls nodes (box_in v ks nodes boxes) ≡ box_in v ls nodes boxes
box-twice v ks ls [] boxes = refl
box-twice v ks ls (u ∷ nodes) [] = refl
box-twice v ks ls (u ∷ nodes) (box ∷ boxes) = elim (cases_Bool (node_eq v u)) [
  | inl here ↦ rw (here, here) refl
  | inr other ↦ rw (other, other) (ap (λ (tail : List (List Label)). box ∷ tail) (box-twice v ks ls nodes boxes))
]

-- what stood there put there changes nothing
box-same : (v : NodeId) (nodes : List NodeId) (boxes : List (List Label)) → box_in v (box_of v nodes boxes) nodes boxes ≡ boxes
box-same v [] boxes = refl
box-same v (u ∷ nodes) [] = refl
box-same v (u ∷ nodes) (box ∷ boxes) = elim (cases_Bool (node_eq v u)) [
  | inl here ↦ rw here refl
  | inr other ↦
      let rest : box_of v (u ∷ nodes) (box ∷ boxes) ≡ box_of v nodes boxes = rw other refl in
      rw other (ap (λ (ls : List Label). box ∷ box_in v ls nodes boxes) rest ∙ ap (λ (tail : List (List Label)). box ∷ tail) (box-same v nodes boxes))
]

-- the oldest of what was put there leaves
box-taken : (v : NodeId) (ls : List Label) (nodes : List NodeId) (boxes : List (List Label)) → boxes_without v nodes (box_in v ls nodes boxes) ≡ box_in v (drop 1 ls) nodes boxes
box-taken v ls [] boxes = refl
box-taken v ls (u ∷ nodes) [] = refl
box-taken v ls (u ∷ nodes) (box ∷ boxes) = elim (cases_Bool (node_eq v u)) [
  | inl here ↦ rw (here, here) refl
  | inr other ↦ rw (other, other) (ap (λ (tail : List (List Label)). box ∷ tail) (box-taken v ls nodes boxes))
]

-- ---- of a serializer

pub box-with : (s : SerializerSeen) (v : NodeId) (ls : List Label) → IsSerializer s → IsNeighbour s.tree s.number v → outbox (with_box s v ls) v ≡ ls
box-with s v ls k n = box-put v ls (neighbours s.tree s.number) s.outboxes k.each (is-among s.tree s.number v n)

pub with-twice : (s : SerializerSeen) (v : NodeId) (ks ls : List Label) → with_box (with_box s v ks) v ls ≡ with_box s v ls
with-twice s v ks ls = ap (λ (boxes : List (List Label)). record s { outboxes = boxes }) (box-twice v ks ls (neighbours s.tree s.number) s.outboxes)

pub with-own : (s : SerializerSeen) (v : NodeId) → with_box s v (outbox s v) ≡ s
with-own s v = ap (λ (boxes : List (List Label)). record s { outboxes = boxes }) (box-same v (neighbours s.tree s.number) s.outboxes)

pub ship-with : (s : SerializerSeen) (v : NodeId) (ls : List Label) → after_ship (with_box s v ls) v ≡ with_box s v (drop 1 ls)
ship-with s v ls = ap (λ (boxes : List (List Label)). record s { outboxes = boxes }) (box-taken v ls (neighbours s.tree s.number) s.outboxes)

-- ---- at a place of the queues

in-from : (v : NodeId) (ls : List Label) (nodes : List NodeId) (boxes : List (List Label)) (i : ℕ) → position_from (node_eq v) i nodes ≡ None → box_in v ls nodes boxes ≡ boxes
in-from v ls [] boxes i none = refl
in-from v ls (u ∷ nodes) [] i none = refl
in-from v ls (u ∷ nodes) (box ∷ boxes) i none =
    let parts : (node_eq v u ≡ false) × (position_from (node_eq v) (i + 1) nodes ≡ None) = none-cond (node_eq v u) i (position_from (node_eq v) (i + 1) nodes) none in
    rw parts.0 (ap (λ (tail : List (List Label)). box ∷ tail) (in-from v ls nodes boxes (i + 1) parts.1))

-- nothing is put where there is no such node
pub none-put : (v : NodeId) (ls : List Label) (nodes : List NodeId) (boxes : List (List Label)) → position (node_eq v) nodes ≡ None → box_in v ls nodes boxes ≡ boxes
none-put v ls nodes boxes none = in-from v ls nodes boxes 0 (sym (position_from-zero (node_eq v) nodes) ∙ none)

put-at : (v : NodeId) (ls : List Label) (nodes : List NodeId) (boxes : List (List Label)) (k : ℕ) (d : NodeId) → k < length nodes → length boxes ≡ length nodes →
    node_eq v (get_or nodes k d) ≡ true → ((j : ℕ) → j < k → node_eq v (get_or nodes j d) ≡ false) → box_in v ls nodes boxes ≡ set boxes k ls
put-at v ls [] boxes k d less same here before = absurd (omega arith)
put-at v ls (u ∷ nodes) [] k d less same here before = absurd (cc)
put-at v ls (u ∷ nodes) (box ∷ boxes) zero d less same here before = rw here refl
put-at v ls (u ∷ nodes) (box ∷ boxes) (suc k) d less same here before =
    let other : node_eq v u ≡ false = before 0 (omega arith) in
    rw other (ap (λ (tail : List (List Label)). box ∷ tail) (put-at v ls nodes boxes k d (omega arith) (omega arith) here (λ j low. before (suc j) (omega arith))))

-- a queue in the place of a node's
pub queue-put : (v : NodeId) (nodes : List NodeId) (queues : List (Queued Label)) (k : ℕ) (p : Queued Label) → length queues ≡ length nodes → position (node_eq v) nodes ≡ Some k →
    map members_of (set queues k p) ≡ box_in v p.members nodes (map members_of queues)
queue-put v nodes queues k p same at =
    let facts : (k < length nodes) × (node_eq v (get_or nodes k v) ≡ true) × ((j : ℕ) → j < k → node_eq v (get_or nodes j v) ≡ false) = position-Some (node_eq v) nodes k v at in
    map-set (λ (q : Queued Label). q.members) queues k p
    ∙ sym (put-at v p.members nodes (map members_of queues) k v facts.0 (length-labels queues ∙ same) facts.1 facts.2)

-- ---- labels handed on one after another

pub handles-tree : (s : SerializerSeen) (a : Interested) (u : NodeId) (ls : List Label) → (after_handles s a u ls).tree ≡ s.tree
handles-tree s a u [] = refl
handles-tree s a u (l ∷ ls) = handles-tree (after_handle s a u l) a u ls

pub handles-number : (s : SerializerSeen) (a : Interested) (u : NodeId) (ls : List Label) → (after_handles s a u ls).number ≡ s.number
handles-number s a u [] = refl
handles-number s a u (l ∷ ls) = handles-number (after_handle s a u l) a u ls

pub handles-killed : (s : SerializerSeen) (a : Interested) (u : NodeId) (ls : List Label) → (after_handles s a u ls).killed ≡ s.killed
handles-killed s a u [] = refl
handles-killed s a u (l ∷ ls) = handles-killed (after_handle s a u l) a u ls

handles-push : (s : SerializerSeen) (a : Interested) (u : NodeId) (ks : List Label) (l : Label) → after_handles s a u (ks ++ l ∷ []) ≡ after_handle (after_handles s a u ks) a u l
handles-push s a u [] l = refl
handles-push s a u (k ∷ ks) l = handles-push (after_handle s a u k) a u ks l

-- of the labels that are left the front one is the next
pub front-next : (ls rest : List Label) (n : ℕ) (l : Label) → rest ≡ drop n ls → slice_get rest 0 ≡ Some l → slice_get ls n ≡ Some l
front-next ls rest n l are front = at ls n (ap (λ (ks : List Label). slice_get ks 0) (sym are) ∙ front)
  where
    at : (ls : List Label) (n : ℕ) → slice_get (drop n ls) 0 ≡ Some l → slice_get ls n ≡ Some l
    at [] zero e = e
    at [] (suc n) e = e
    at (k ∷ ks) zero e = e
    at (k ∷ ks) (suc n) e = at ks n e

-- with the front one away the others are left
pub drop-next : (ls : List Label) (n : ℕ) → drop 1 (drop n ls) ≡ drop (n + 1) ls
drop-next ls n = more ls n ∙ ap (λ (m : ℕ). drop m ls) (sym (add-one n))
  where
    more : (ls : List Label) (n : ℕ) → drop 1 (drop n ls) ≡ drop (suc n) ls
    more ls zero = refl
    more [] (suc n) = refl
    more (l ∷ ls) (suc n) = more ls n

take-next : (ls : List Label) (n : ℕ) (l : Label) → slice_get ls n ≡ Some l → take (n + 1) ls ≡ take n ls ++ l ∷ []
take-next ls n l next = ap (λ (m : ℕ). take m ls) (add-one n) ∙ more ls n next
  where
    more : (ls : List Label) (n : ℕ) → slice_get ls n ≡ Some l → take (suc n) ls ≡ take n ls ++ l ∷ []
    more [] n e = absurd (cc)
    more (k ∷ ks) zero e = cc
    more (k ∷ ks) (suc n) e = ap (λ (ls : List Label). k ∷ ls) (more ks n e)

-- one label more
pub handles-next : (s t now : SerializerSeen) (a : Interested) (u : NodeId) (ls : List Label) (n : ℕ) (l : Label) → t ≡ after_handles s a u (take n ls) → slice_get ls n ≡ Some l → now ≡ after_handle t a u l →
    now ≡ after_handles s a u (take (n + 1) ls)
handles-next s t now a u ls n l had next is =
    is ∙ (ap (λ (x : SerializerSeen). after_handle x a u l) had
    ∙ sym (ap (λ (ks : List Label). after_handles s a u ks) (take-next ls n l next) ∙ handles-push s a u (take n ls) l))

-- what the next label asks for
pub next-arrives : (s t : SerializerSeen) (a : Interested) (u : NodeId) (ks ls : List Label) (n : ℕ) (l : Label) → ((l : Label) → In ls l → Arrives a s.tree s.number u l) → t ≡ after_handles s a u ks →
    slice_get ls n ≡ Some l → Arrives a t.tree t.number u l
next-arrives s t a u ks ls n l each had next =
    subst (λ (x : SerializerSeen). Arrives a x.tree x.number u l) (sym had)
    (subst (λ (z : ℕ). Arrives a (after_handles s a u ks).tree z u l) (sym (handles-number s a u ks))
    (let same = sym (handles-tree s a u ks) in (λ (arrives : Arrives a s.tree s.number u l). subst (λ (x : _). Arrives a x s.number u l) same arrives) (each l (In-get ls n l next))))
