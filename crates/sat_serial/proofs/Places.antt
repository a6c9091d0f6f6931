-- Places of the neighbours that a label goes on to.
use Rattle.std.proofs.Common.{◌≡◌, ◌≢◌, ℕ, zero, suc, ◌+◌, ◌*◌, ◌==◌, ◌<◌, ◌≤◌, Bool, true, false, cond, List, [], ◌∷◌, ◌++◌, length, map, filter, take, set, get_or, inl, inr, refl, sym, ap, ◌∙◌, subst, arith}
use Rattle.std.specs.List.{All, AllWithin}
use Rattle.std.proofs.lemmas.Bool.{cases_eq, eq-eqb, eqb-true}
use Rattle.std.proofs.Math.Numerals.{add-one}
use Rattle.std.proofs.lemmas.List.{length-append, length-map, map-append, append-nil, take_all, take_more, map-set, set-get_or, get_or-set_same, get_or-set_other, get_or_default, get_or_append_left}
use Rattle.std.proofs.Math.Seq.{get_or-append_seam}
use Rattle.std.proofs.Math.Nat.{eq-or-lt_of_le}
use Rattle.std.proofs.lemmas.List.Elements.{All-filter, All-push, filter-append, filter_more}
use Rattle.sat_label.specs.declared.label.Label.{Label}
use Rattle.sat_label.specs.declared.node.NodeId.{NodeId}
use Rattle.sat_label.specs.declared.node.NodeId.TheVariants.{Site, Serializer}
use Rattle.sat_label.specs.Order.{node_eq}
use Rattle.sat_label.specs.Words.{below}
use Rattle.sat_label.proofs.Truth.{same-test}
use Rattle.sat_label.proofs.Numbers.{length-below}
use Rattle.sat_tree.specs.Shape.{TreeShape}
use Rattle.sat_tree.specs.Cut.{is_edge, neighbours}
use Rattle.sat_tree.specs.Flaw.{IsSmallTree}
use Rattle.sat_queue.specs.Queued.{Queued, members_of, HasRoom}
use Rattle.sat_serial.specs.declared.hits.TheConstants.{MOST_PLACES}
use Rattle.sat_serial.specs.Outboxes.{change_where}
use Rattle.sat_serial.specs.Hits.{hit_at, hits, nodes_at, changed_at, AllInside, Ascending, HasRoomAt, code}
use Rattle.sat_serial.proofs.Ways.{all-below}
use Rattle.sat_serial.proofs.Boxes.{still, more, queue-at}

-- ---- the numbers below one that pass

pub hits-more : (p : ℕ → Bool) (n : ℕ) → filter p (below (n + 1)) ≡ filter p (below n) ++ cond (p n) (n ∷ []) []
hits-more p n = rw add-one (filter-append p (below n) (n ∷ []))

pub few-filter : {X : Type 0} (p : X → Bool) (xs : List X) → length (filter p xs) ≤ length xs
few-filter p [] = omega arith
few-filter p (x ∷ xs) = go (p x) (few-filter p xs)
  where
    go : (b : Bool) → length (filter p xs) ≤ length xs → length (cond b (x ∷ filter p xs) (filter p xs)) ≤ suc (length xs)
    go true few = omega arith
    go false few = omega arith

pub few-hits : (p : ℕ → Bool) (n : ℕ) → length (filter p (below n)) ≤ n
few-hits p n = let few = few-filter p (below n) in omega (arith, length-below n)

pub hits-inside : (p : ℕ → Bool) (n : ℕ) → AllInside n (filter p (below n))
hits-inside p n = All-filter p (λ k. k < n) (below n) (all-below n n (omega arith))

ascending-one : (xs : List ℕ) (n : ℕ) → Ascending xs → AllInside n xs → Ascending (xs ++ n ∷ [])
ascending-one xs n up inside = λ i j d less within.
    let long : length (xs ++ n ∷ []) ≡ length xs + 1 = length-append xs (n ∷ []) in
    elim (eq-or-lt_of_le (let most : j ≤ length xs = omega arith in most)) [
      | inl last ↦ rw (last, get_or-append_seam xs n [] d, get_or_append_left xs (n ∷ []) d i (let low : i < length xs = omega arith in low)) (inside i d (omega arith))
      | inr inner ↦ rw (get_or_append_left xs (n ∷ []) d i (let low : i < length xs = omega arith in low), get_or_append_left xs (n ∷ []) d j inner) (up i j d less inner)
    ]

hits-ascend : (p : ℕ → Bool) (n : ℕ) → Ascending (filter p (below n))
hits-ascend p zero = λ i j d less within. absurd (omega arith)
hits-ascend p (suc n) =
    let e : filter p (below (suc n)) ≡ filter p (below n) ++ cond (p n) (n ∷ []) [] = filter-append p (below n) (n ∷ []) in
    rw e (go (p n) (hits-ascend p n))
  where
    go : (b : Bool) → Ascending (filter p (below n)) → Ascending (filter p (below n) ++ cond b (n ∷ []) [])
    go true up = ascending-one (filter p (below n)) n up (hits-inside p n)
    go false up = rw (append-nil (filter p (below n))) up

-- ---- what stands at the places

pub picked : (test : NodeId → Bool) (nodes : List NodeId) (n : ℕ) → n ≤ length nodes → nodes_at nodes (filter (hit_at test nodes) (below n)) ≡ filter test (take n nodes)
picked test nodes zero within = refl
picked test nodes (suc n) within =
    let less : n < length nodes = omega arith in
    let e : filter (hit_at test nodes) (below (suc n)) ≡ filter (hit_at test nodes) (below n) ++ cond (hit_at test nodes n) (n ∷ []) [] = filter-append (hit_at test nodes) (below n) (n ∷ []) in
    ap (nodes_at nodes) e
    ∙ (map-append (λ k. get_or nodes k (Site 0)) (filter (hit_at test nodes) (below n)) (cond (hit_at test nodes n) (n ∷ []) [])
    ∙ (ap (λ vs. vs ++ nodes_at nodes (cond (hit_at test nodes n) (n ∷ []) [])) (picked test nodes n (omega arith))
    ∙ (ap (λ vs. filter test (take n nodes) ++ vs) (one (hit_at test nodes n))
    ∙ sym (ap (λ m. filter test (take m nodes)) (sym (add-one n)) ∙ filter_more test nodes n (Site 0) less))))
  where
    one : (b : Bool) → nodes_at nodes (cond b (n ∷ []) []) ≡ cond b (get_or nodes n (Site 0) ∷ []) []
    one true = refl
    one false = refl

pub picked-all : (test : NodeId → Bool) (nodes : List NodeId) → nodes_at nodes (hits test nodes) ≡ filter test nodes
picked-all test nodes = picked test nodes (length nodes) (omega arith) ∙ ap (filter test) (take_all (length nodes) nodes (omega arith))

-- ---- changes at places

pub changed-more : (f : List Label → List Label) (ks : List ℕ) (k : ℕ) (boxes : List (List Label)) →
    changed_at f (ks ++ k ∷ []) boxes ≡ set (changed_at f ks boxes) k (f (get_or (changed_at f ks boxes) k []))
changed-more f [] k boxes = refl
changed-more f (j ∷ ks) k boxes = changed-more f ks k (set boxes j (f (get_or boxes j [])))

pub changed-hits : (test : NodeId → Bool) (f : List Label → List Label) (nodes : List NodeId) (boxes : List (List Label)) (n : ℕ) → n ≤ length nodes → length boxes ≡ length nodes →
    changed_at f (filter (hit_at test nodes) (below n)) boxes ≡ change_where test f (take n nodes) boxes
changed-hits test f nodes boxes zero within same = refl
changed-hits test f nodes boxes (suc n) within same =
    let less : n < length nodes = omega arith in
    let e : filter (hit_at test nodes) (below (suc n)) ≡ filter (hit_at test nodes) (below n) ++ cond (hit_at test nodes n) (n ∷ []) [] = filter-append (hit_at test nodes) (below n) (n ∷ []) in
    let old : changed_at f (filter (hit_at test nodes) (below n)) boxes ≡ change_where test f (take n nodes) boxes = changed-hits test f nodes boxes n (omega arith) same in
    ap (λ ks. changed_at f ks boxes) e
    ∙ (go (hit_at test nodes n) less old
    ∙ sym (ap (λ m. change_where test f (take m nodes) boxes) (sym (add-one n)) ∙ more test f nodes boxes n (Site 0) less same))
  where
    go : (b : Bool) → n < length nodes → changed_at f (filter (hit_at test nodes) (below n)) boxes ≡ change_where test f (take n nodes) boxes →
        changed_at f (filter (hit_at test nodes) (below n) ++ cond b (n ∷ []) []) boxes
        ≡ set (change_where test f (take n nodes) boxes) n (cond b (f (get_or boxes n [])) (get_or boxes n []))
    go true less old =
        changed-more f (filter (hit_at test nodes) (below n)) n boxes
        ∙ ap (λ bs. set bs n (f (get_or bs n []))) old
        ∙ ap (λ (box : List Label). set (change_where test f (take n nodes) boxes) n (f box)) (still test f nodes boxes n less same)
    go false less old =
        ap (λ ks. changed_at f ks boxes) (append-nil (filter (hit_at test nodes) (below n)))
        ∙ old
        ∙ sym (ap (λ (box : List Label). set (change_where test f (take n nodes) boxes) n box) (sym (still test f nodes boxes n less same))
        ∙ set-get_or (change_where test f (take n nodes) boxes) n [])

pub changed-all : (test : NodeId → Bool) (f : List Label → List Label) (nodes : List NodeId) (boxes : List (List Label)) → length boxes ≡ length nodes →
    changed_at f (hits test nodes) boxes ≡ change_where test f nodes boxes
changed-all test f nodes boxes same =
    changed-hits test f nodes boxes (length nodes) (omega arith) same ∙ ap (λ vs. change_where test f vs boxes) (take_all (length nodes) nodes (omega arith))

-- ---- a tree is small

pub few-neighbours : (t : TreeShape) (z : ℕ) → IsSmallTree t → length (neighbours t z) ≤ MOST_PLACES
unfolding neighbours
few-neighbours t z small =
    let few = few-filter (λ n. is_edge t (Serializer z) n) (map Site (below (length t.seats)) ++ map Serializer (below (length t.parents))) in
    omega (
      arith,
      length-append (map Site (below (length t.seats))) (map Serializer (below (length t.parents))),
      length-map (below (length t.seats)) Site,
      length-map (below (length t.parents)) Serializer,
      length-below (length t.seats),
      length-below (length t.parents),
      small.few_seats,
      small.few_serializers,
    )

-- ---- what a call says of the hits

pub all-inside : (test : NodeId → Bool) (nodes : List NodeId) (places : List ℕ) (n : ℕ) → places ≡ hits test nodes → n ≡ length nodes → AllInside n places
all-inside test nodes places n are same =
    subst (λ (ks : List ℕ). AllInside n ks) (sym are) (subst (λ (m : ℕ). AllInside m (hits test nodes)) (sym same) (hits-inside (hit_at test nodes) (length nodes)))

pub all-ascend : (test : NodeId → Bool) (nodes : List NodeId) (places : List ℕ) → places ≡ hits test nodes → Ascending places
all-ascend test nodes places are = subst (λ (ks : List ℕ). Ascending ks) (sym are) (hits-ascend (hit_at test nodes) (length nodes))

pub all-picked : (test : NodeId → Bool) (nodes : List NodeId) (places : List ℕ) (picked : List NodeId) → places ≡ hits test nodes → picked ≡ nodes_at nodes places → picked ≡ filter test nodes
all-picked test nodes places picked are at = at ∙ (ap (nodes_at nodes) are ∙ picked-all test nodes)

-- ---- one place more

pub next-hit : (test : NodeId → Bool) (nodes : List NodeId) (i : ℕ) (d : NodeId) (b : Bool) (had : List ℕ) → i < length nodes → b ≡ test (get_or nodes i d) → had ≡ filter (hit_at test nodes) (below i) →
    had ++ cond b (i ∷ []) [] ≡ filter (hit_at test nodes) (below (i + 1))
next-hit test nodes i d b had less is before =
    ap (λ ks. ks ++ cond b (i ∷ []) []) before
    ∙ (ap (λ c. filter (hit_at test nodes) (below i) ++ cond c (i ∷ []) []) (is ∙ ap test (get_or_default nodes i d (Site 0) less))
    ∙ sym (hits-more (hit_at test nodes) i))

pub has-space : (p : ℕ → Bool) (nodes : List NodeId) (t : TreeShape) (z i : ℕ) (had : List ℕ) → nodes ≡ neighbours t z → IsSmallTree t → i < length nodes → had ≡ filter p (below i) → (length had < MOST_PLACES) × (i < MOST_PLACES)
has-space p nodes t z i had are small less before =
    let few = few-neighbours t z small in
    let hit = few-hits p i in
    (omega (arith, ap length are, ap length before), omega (arith, ap length are))

pub next-node : (nodes : List NodeId) (places : List ℕ) (i d : ℕ) (e : NodeId) (had : List NodeId) → i < length places → get_or places i d < length nodes → had ≡ nodes_at nodes (take i places) →
    had ++ get_or nodes (get_or places i d) e ∷ [] ≡ nodes_at nodes (take (i + 1) places)
next-node nodes places i d e had less inside before =
    ap (λ vs. vs ++ get_or nodes (get_or places i d) e ∷ []) before
    ∙ (ap (λ (v : NodeId). nodes_at nodes (take i places) ++ v ∷ []) (get_or_default nodes (get_or places i d) e (Site 0) inside)
    ∙ sym (ap (nodes_at nodes) (take_more places i d less) ∙ map-append (λ k. get_or nodes k (Site 0)) (take i places) (get_or places i d ∷ [])))

-- ---- room at places

room-kept : (queues : List (Queued Label)) (p : ℕ) (q : Queued Label) → p < length queues → HasRoom q → (k : ℕ) → HasRoomAt queues k → HasRoomAt (set queues p q) k
room-kept queues p q inside room k had = λ d. elim (cases_eq k p) [
  | inl same ↦ rw (same, get_or-set_same queues p q d inside) room
  | inr other ↦ rw (get_or-set_other queues p k q d other) (had d)
]

pub room-more : (queues : List (Queued Label)) (places : List ℕ) (i d : ℕ) (q : Queued Label) → i < length places → get_or places i d < length queues → HasRoom q →
    All (HasRoomAt queues) (take i places) → All (HasRoomAt (set queues (get_or places i d) q)) (take (i + 1) places)
room-more queues places i d q less inside room had =
    let now = set queues (get_or places i d) q in
    subst (λ (ks : List ℕ). All (HasRoomAt now) ks) (sym (take_more places i d less))
    (All-push (HasRoomAt now) (take i places) (get_or places i d)
    (λ k e within. room-kept queues (get_or places i d) q inside room (get_or (take i places) k e) (had k e within))
    (λ e. rw (get_or-set_same queues (get_or places i d) q e inside) room))

pub room-behind : (queues : List (Queued Label)) (places : List ℕ) (i d : ℕ) (q : Queued Label) → Ascending places → i < length places →
    AllWithin (HasRoomAt queues) places i (length places) → AllWithin (HasRoomAt (set queues (get_or places i d) q)) places (i + 1) (length places)
room-behind queues places i d q up less had = λ k e low high.
    λ r. let above : get_or places i e < get_or places k e = up i k e (omega arith) high in
    let other : get_or places k e ≢ get_or places i d = λ same. absurd (let here = get_or_default places i d e less in omega arith) in
    rw (get_or-set_other queues (get_or places i d) (get_or places k e) q r other) (had k e (omega arith) high r)

pub next-copy : (f : List Label → List Label) (queues : List (Queued Label)) (boxes : List (List Label)) (places : List ℕ) (i d : ℕ) (q p : Queued Label) → i < length places → get_or places i d < length queues →
    q ≡ get_or queues (get_or places i d) q → p.members ≡ f q.members → map members_of queues ≡ changed_at f (take i places) boxes →
    map members_of (set queues (get_or places i d) p) ≡ changed_at f (take (i + 1) places) boxes
next-copy f queues boxes places i d q p less inside here change had =
    let box : get_or (map members_of queues) (get_or places i d) [] ≡ q.members = queue-at queues (get_or places i d) q inside ∙ sym (ap (λ (r : Queued Label). r.members) here) in
    map-set (λ (r : Queued Label). r.members) queues (get_or places i d) p
    ∙ (ap (λ (xs : List Label). set (map members_of queues) (get_or places i d) xs) (change ∙ ap f (sym box))
    ∙ (ap (λ (bs : List (List Label)). set bs (get_or places i d) (f (get_or bs (get_or places i d) []))) had
    ∙ sym (ap (λ ks. changed_at f ks boxes) (take_more places i d less) ∙ changed-more f (take i places) (get_or places i d) boxes)))

-- ---- codes of nodes

pub same-code : (u v : NodeId) → (code u == code v) ≡ node_eq u v
same-code (Site i) (Site k) = same-test (2 * i == 2 * k) (i == k) (λ e. eq-eqb i k (let s = eqb-true (2 * i) (2 * k) e in omega arith)) (λ e. eq-eqb (2 * i) (2 * k) (let s = eqb-true i k e in omega arith))
same-code (Serializer i) (Serializer k) = same-test (2 * i + 1 == 2 * k + 1) (i == k) (λ e. eq-eqb i k (let s = eqb-true (2 * i + 1) (2 * k + 1) e in omega arith)) (λ e. eq-eqb (2 * i + 1) (2 * k + 1) (let s = eqb-true i k e in omega arith))
same-code (Site i) (Serializer k) = same-test (2 * i == 2 * k + 1) false (λ e. absurd (let s = eqb-true (2 * i) (2 * k + 1) e in omega arith)) (λ e. absurd (cc))
same-code (Serializer i) (Site k) = same-test (2 * i + 1 == 2 * k) false (λ e. absurd (let s = eqb-true (2 * i + 1) (2 * k) e in omega arith)) (λ e. absurd (cc))

-- ---- what the changes at the hits make of the outboxes

pub changed-by : (test : NodeId → Bool) (f : List Label → List Label) (nodes : List NodeId) (places : List ℕ) (boxes old now : List (List Label)) → places ≡ hits test nodes → boxes ≡ old → length old ≡ length nodes →
    now ≡ changed_at f places boxes → now ≡ change_where test f nodes old
changed-by test f nodes places boxes old now are same size change =
    change ∙ (ap (λ ks. changed_at f ks boxes) are ∙ (ap (λ bs. changed_at f (hits test nodes) bs) same ∙ changed-all test f nodes old size))
