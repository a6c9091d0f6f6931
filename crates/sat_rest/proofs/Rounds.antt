-- Settle: each "until refused" ends by a refusal, and so do the rounds.
use Rattle.std.specs.Prelude.{◌≡◌, ◌<◌, ◌≤◌, ℕ, zero, suc, ◌+◌, Bool, true, false, ◌||◌, not, ◌==◌, List, [], ◌∷◌, ◌++◌, Option, Some, None, refl, length, map, if◌then◌else◌}
use Rattle.std.proofs.Common.{sym, subst, arith, inl, inr}
use Rattle.std.proofs.lemmas.Bool.Decides.{nat_tests}
use Rattle.sat_label.specs.declared.label.Label.{Label}
use Rattle.sat_label.specs.declared.node.NodeId.{NodeId}
use Rattle.sat_label.specs.declared.node.NodeId.TheVariants.{Site, Serializer}
use Rattle.sat_label.specs.Order.{label_eq}
use Rattle.sat_label.specs.Words.{below, has}
use Rattle.sat_tree.specs.Shape.{TreeShape}
use Rattle.sat_tree.specs.Cut.{is_edge, neighbours, hangs_on}
use Rattle.sat_act.specs.declared.act.Act.{Act}
use Rattle.sat_act.specs.declared.act.Act.TheVariants as act
use Rattle.sat_act.specs.declared.answer.Answer.{Answer}
use Rattle.sat_act.specs.declared.answer.Answer.TheVariants as ans
use Rattle.sat_act.specs.declared.entry.Entry.{Entry}
use Rattle.sat_act.specs.Deployed.{Deployed}
use Rattle.sat_act.specs.Histories.{listed}
use Rattle.sat_act.specs.Done.{of_client}
use Rattle.sat_act.specs.Parts.{tree_of, pending, gathered, made_to, sent, sent_entry, ready}
use Rattle.sat_act.specs.Answers.{answer, InRange}
use Rattle.sat_act.specs.Runs.{IsRun, is_settle}
use Rattle.sat_act.specs.Goals.{Gives}
use Rattle.sat_act.specs.Settling.{is_done, inner_entry, tried, repeated, for_each, joined, emit_all, left, bulks, hops, hops_of, turns, round_acts, until_refused}
use Rattle.sat_rest.specs.Ends.{IsWithin, UntilRefused, ends, goes_on, IsAmong}
use Rattle.sat_laws.proofs.Steps.{Step, outcome, emitted, wrote}
use Rattle.sat_laws.proofs.Runs.{entry, run-on}
use Rattle.sat_laws.proofs.Members.{gives-listed}
use Rattle.sat_laws.proofs.Cuts.{ready-is}
use Rattle.sat_laws.proofs.Links.{tail_of}
use Rattle.sat_rest.proofs.Lefts.{is_round_act, left-falls}
use Rattle.sat_rest.proofs.Totals.{In-joined, below-In, filter-lt}
use Rattle.sat_label.specs.Members.{In}
use Rattle.sat_label.proofs.Members.{In-parts, In-filter, In-left, has-in, in-has}
use Rattle.sat_laws.proofs.Written.{by-write}

-- ---- an act, and an act until it is refused

-- an act of no client, within range, that is no settle
pub record IsInner (d : Deployed) (a : Act) : Type 0 where
  pub range : InRange d a
  pub operator : of_client a ≡ None
  pub plain : is_settle a ≡ false

pub inner-act : (d : Deployed) (a : Act) → InRange d a → of_client a ≡ None → is_settle a ≡ false → IsInner d a
inner-act d a r o p = record { range = r; operator = o; plain = p }

pub inner-run : (d : Deployed) (h : List Entry) (a : Act) → IsRun d h → IsInner d a → IsRun d (inner_entry d h a ∷ h)
inner-run d h a run m = run-on d h a true m.plain run m.range

-- a history that goes on by such acts
pub data Goes (d : Deployed) (h : List Entry) : List Entry → Type 0 where
  stay : Goes d h h
  step : {k : List Entry} (a : Act) → Goes d h k → IsRun d k → IsInner d a → Goes d h (inner_entry d k a ∷ k)

pub goes-trans : (d : Deployed) (a b c : List Entry) → Goes d a b → Goes d b c → Goes d a c
goes-trans d a b c p stay = p
goes-trans d a b c p (step {k = k} x q run m) = step x (goes-trans d a b k p q) run m

-- what each such act keeps
pub goes-keep : (d : Deployed) (Q : List Entry → Type 0) → ((k : List Entry) (a : Act) → IsRun d k → IsInner d a → IsRun d (inner_entry d k a ∷ k) → Q k → Q (inner_entry d k a ∷ k)) → (h k : List Entry) → Goes d h k → Q h → Q k
goes-keep d Q w h k stay q = q
goes-keep d Q w h k (step {k = k'} x g run m) q = w k' x run m (inner-run d k' x run m) (goes-keep d Q w h k' g q)

-- what goes on from a history
pub record IsAfter (d : Deployed) (h k : List Entry) : Type 0 where
  pub is_run : IsRun d k
  pub goes : Goes d h k

pub after-self : (d : Deployed) (h : List Entry) → IsRun d h → IsAfter d h h
after-self d h run = record { is_run = run; goes = stay }

pub after-trans : (d : Deployed) (a b c : List Entry) → IsAfter d a b → IsAfter d b c → IsAfter d a c
after-trans d a b c p q = record { is_run = q.is_run; goes = goes-trans d a b c p.goes q.goes }

pub tried-after : (d : Deployed) (a : Act) (h : List Entry) → IsRun d h → IsInner d a → IsAfter d h (tried d a h)
unfolding tried
tried-after d a h run range = go (is_done (answer d h a))
  where
    go : (b : Bool) → IsAfter d h (elim b [ true ↦ inner_entry d h a ∷ h | false ↦ h ])
    go true = record { is_run = inner-run d h a run range; goes = step a stay run range }
    go false = after-self d h run

pub repeated-after : (d : Deployed) (a : Act) (n : ℕ) (h : List Entry) → IsRun d h → IsInner d a → IsAfter d h (repeated d a n h)
unfolding repeated
repeated-after d a zero h run range = after-self d h run
repeated-after d a (suc n) h run range = go (is_done (answer d h a)) (repeated-after d a n (inner_entry d h a ∷ h) (inner-run d h a run range) range)
  where
    go : (b : Bool) → IsAfter d (inner_entry d h a ∷ h) (repeated d a n (inner_entry d h a ∷ h)) → IsAfter d h (elim b [ true ↦ repeated d a n (inner_entry d h a ∷ h) | false ↦ h ])
    go true k = record { is_run = k.is_run; goes = goes-trans d h (inner_entry d h a ∷ h) _ (step a stay run range) k.goes }
    go false k = after-self d h run

pub for_each-after : {X : Type 0} (d : Deployed) (f : X → List Entry → List Entry) (xs : List X) (h : List Entry) → IsRun d h → ((x : X) (k : List Entry) → In xs x → IsRun d k → IsAfter d k (f x k)) → IsAfter d h (for_each f xs h)
unfolding for_each
for_each-after d f [] h run w = after-self d h run
for_each-after d f (x ∷ xs) h run w =
    let a : IsAfter d h (f x h) = w x h (inl refl) run in
    after-trans d h (f x h) (for_each f xs (f x h)) a (for_each-after d f xs (f x h) a.is_run (λ y k i. w y k (inr i)))

-- where each act that is done lowers a measure, as many acts are enough
pub repeated-ends : (d : Deployed) (a : Act) (m : List Entry → ℕ) → IsInner d a → ((h : List Entry) → IsRun d h → is_done (answer d h a) ≡ true → m (inner_entry d h a ∷ h) < m h) →
    (n : ℕ) (h : List Entry) → IsRun d h → m h ≤ n → UntilRefused d a h (repeated d a n h)
unfolding repeated
repeated-ends d a m range falls zero h run le = ends (not_yet (is_done (answer d h a)) (λ e. let lt : m (inner_entry d h a ∷ h) < m h = falls h run e in omega arith))
  where
    not_yet : (b : Bool) → (b ≡ true → ⊥) → b ≡ false
    not_yet true f = absurd (f refl)
    not_yet false f = refl
repeated-ends d a m range falls (suc n) h run le =
    go (is_done (answer d h a)) refl (λ e. repeated-ends d a m range falls n (inner_entry d h a ∷ h) (inner-run d h a run range) (let lt : m (inner_entry d h a ∷ h) < m h = falls h run e in omega arith))
  where
    go : (b : Bool) → is_done (answer d h a) ≡ b → (is_done (answer d h a) ≡ true → UntilRefused d a (inner_entry d h a ∷ h) (repeated d a n (inner_entry d h a ∷ h))) →
        UntilRefused d a h (elim b [ true ↦ repeated d a n (inner_entry d h a ∷ h) | false ↦ h ])
    go true e old = goes_on e (old e)
    go false e old = ends e

-- ---- emits

in-sent : (h : List Entry) (x : Entry) (i : ℕ) (l : Label) → sent_entry i h x ≡ Some l → In (sent (x ∷ h) i) l
unfolding sent Gives
in-sent h x i l e = gives-listed (sent_entry i) (x ∷ h) l (inr e)

sent-grows : (d : Deployed) (h : List Entry) (x : Entry) (i : ℕ) (l : Label) → has label_eq (sent h i) l ≡ true → has label_eq (sent (x ∷ h) i) l ≡ true
unfolding sent
sent-grows d h x i l e = in-has (listed (sent_entry i) h ++ tail_of (sent_entry i h x)) l (In-left (listed (sent_entry i) h) (tail_of (sent_entry i h x)) l (has-in (listed (sent_entry i) h) l e))

emit-falls : (d : Deployed) (h : List Entry) (i : ℕ) (a : Act) (r : Answer) (n : Bool) → a ≡ act.Emit i → Step d h a r → is_done r ≡ true → length (pending d (entry a r n ∷ h) i) < length (pending d h i)
unfolding pending gathered Gives
emit-falls d h i a r n same (emitted {i = k} {l = l} e) dn =
    let q : k ≡ i = emit_site k i same in
    let w : In (pending d h i) l = (ready-is d h i l (subst (λ (j : ℕ). ready d h j ≡ Some l) q e)).member in
    let x : Entry = entry (act.Emit k) (ans.Emitted l) n in
    let m : has label_eq (sent (x ∷ h) i) l ≡ true = in-has (sent (x ∷ h) i) l (in_sent x l (picked (k == i) l (equal k i q))) in
    let u : In (made_to (gathered h i) i d.gears) l × (not (has label_eq (sent h i) l) ≡ true) = In-filter (λ (l : Label). not (has label_eq (sent h i) l)) (made_to (gathered h i) i d.gears) l w in
    filter-lt (λ (l : Label). not (has label_eq (sent (x ∷ h) i) l)) (λ (l : Label). not (has label_eq (sent h i) l)) (made_to (gathered h i) i d.gears) l
    (λ y z. not_more (has label_eq (sent h i) y) (has label_eq (sent (x ∷ h) i) y) (sent-grows d h x i y) z) u.0 (off (has label_eq (sent (x ∷ h) i) l) m) u.1
  where
    emit_site : (k i : ℕ) → act.Emit k ≡ act.Emit i → k ≡ i
    emit_site k i e = cc

    equal : (k i : ℕ) → k ≡ i → (k == i) ≡ true
    equal k i e = grind (arith, nat_tests)

    picked : (b : Bool) (l : Label) → b ≡ true → (if b then Some l else None) ≡ Some l
    picked true l e = refl
    picked false l e = absurd (cc)

    off : (b : Bool) → b ≡ true → not b ≡ false
    off true e = refl
    off false e = absurd (cc)

    not_more : (a b : Bool) → (a ≡ true → b ≡ true) → not b ≡ true → not a ≡ true
    not_more true true f e = e
    not_more true false f e = absurd (let z : false ≡ true = f refl in cc)
    not_more false b f e = refl

    in_sent : (x : Entry) (l : Label) → sent_entry i h x ≡ Some l → In (sent (x ∷ h) i) l
    in_sent x l e = in-sent h x i l e
emit-falls d h i a r n same (wrote {w = w} z p q b) dn = absurd (by-write (λ (a : Act). a ≡ act.Emit i → ⊥) a w z (λ c x v e. cc) (λ c items values e. cc) same)
emit-falls d h i a r n same _ dn = absurd (cc)

pub emits-end : (d : Deployed) (i : ℕ) (h : List Entry) → i < d.sites → IsRun d h → UntilRefused d (act.Emit i) h (emit_all d i h)
emits-end d i h b run =
    repeated-ends d (act.Emit i) (λ (k : List Entry). length (pending d k i)) (inner-act d (act.Emit i) b refl refl)
    (λ k r e. emit-falls d k i (act.Emit i) (answer d k (act.Emit i)) true refl (outcome d k (act.Emit i)) e) (length (pending d h i)) h run (omega arith)

-- ---- the acts of a round

pub record IsRoundAct (d : Deployed) (a : Act) : Type 0 where
  pub range : InRange d a
  pub round : is_round_act a ≡ true
  pub inner : IsInner d a

pub edge-turned : (t : TreeShape) (u v : NodeId) → is_edge t u v ≡ true → is_edge t v u ≡ true
unfolding is_edge
edge-turned t u v e = swap (hangs_on t u v) (hangs_on t v u) e
  where
    swap : (a b : Bool) → (a || b) ≡ true → (b || a) ≡ true
    swap true true e = refl
    swap true false e = refl
    swap false true e = refl
    swap false false e = absurd (cc)

neighbour-edge : (t : TreeShape) (z : ℕ) (u : NodeId) → In (neighbours t z) u → is_edge t u (Serializer z) ≡ true
unfolding neighbours
neighbour-edge t z u i = edge-turned t (Serializer z) u (In-filter (λ n. is_edge t (Serializer z) n) (map Site (below (length t.seats)) ++ map Serializer (below (length t.parents))) u i).1

map-In : {X Y : Type 0} (f : X → Y) (xs : List X) (y : Y) → In (map f xs) y → (x : X) × In xs x × (f x ≡ y)
map-In f [] y i = absurd i
map-In f (x ∷ xs) y (inl e) = (x, inl refl, e)
map-In f (x ∷ xs) y (inr i) = let r : (x : _) × In xs x × (f x ≡ y) = map-In f xs y i in (r.0, inr r.1, r.2)

pub bulk-of : (d : Deployed) (a : Act) → In (bulks d) a → IsRoundAct d a
bulk-of d a m =
    let p : (i : ℕ) × In (below d.sites) i × In (joined (λ g. joined (λ j. if i == j then [] else act.Bulk i g j None ∷ []) (below d.sites)) (below d.gears)) a =
    In-joined (λ (i : ℕ). joined (λ (g : ℕ). joined (λ (j : ℕ). if i == j then [] else act.Bulk i g j None ∷ []) (below d.sites)) (below d.gears)) (below d.sites) a m in
    let q : (g : ℕ) × In (below d.gears) g × In (joined (λ j. if p.0 == j then [] else act.Bulk p.0 g j None ∷ []) (below d.sites)) a =
    In-joined (λ (g : ℕ). joined (λ (j : ℕ). if p.0 == j then [] else act.Bulk p.0 g j None ∷ []) (below d.sites)) (below d.gears) a p.2 in
    let r : (j : ℕ) × In (below d.sites) j × In (if p.0 == j then [] else act.Bulk p.0 q.0 j None ∷ []) a =
    In-joined (λ (j : ℕ). if p.0 == j then [] else act.Bulk p.0 q.0 j None ∷ []) (below d.sites) a q.2 in
    one p.0 q.0 r.0 (below-In d.sites p.0 p.1) (below-In d.gears q.0 q.1) (below-In d.sites r.0 r.1) (p.0 == r.0) refl r.2
  where
    one : (i g j : ℕ) → i < d.sites → g < d.gears → j < d.sites → (b : Bool) → (i == j) ≡ b → In (if b then [] else act.Bulk i g j None ∷ []) a → IsRoundAct d a
    one i g j x y z true e k = absurd k
    one i g j x y z false e (inl k) = subst (IsRoundAct d) k (record { range = (x, y, z, e); round = refl; inner = inner-act d (act.Bulk i g j None) (x, y, z, e) refl refl })
    one i g j x y z false e (inr k) = absurd k

hop-of : (d : Deployed) (a : Act) → In (hops d) a → IsRoundAct d a
unfolding hops_of
hop-of d a m =
    let p : (n : ℕ) × In (below (length d.plans)) n × In (hops_of (n + 1) (tree_of d (n + 1))) a = In-joined (λ (n : ℕ). hops_of (n + 1) (tree_of d (n + 1))) (below (length d.plans)) a m in
    in_tree (p.0 + 1) (tree_of d (p.0 + 1)) refl p.2
  where
    in_tree : (e : ℕ) (o : Option TreeShape) → tree_of d e ≡ o → In (hops_of e o) a → IsRoundAct d a
    in_tree e None k i = absurd i
    in_tree e (Some t) k i =
        let q : (z : ℕ) × In (below (length t.parents)) z × In (map (λ u. act.Hop e u z) (neighbours t z)) a = In-joined (λ (z : ℕ). map (λ u. act.Hop e u z) (neighbours t z)) (below (length t.parents)) a i in
        let r : (u : NodeId) × In (neighbours t q.0) u × (act.Hop e u q.0 ≡ a) = map-In (λ (u : NodeId). act.Hop e u q.0) (neighbours t q.0) a q.2 in
        subst (IsRoundAct d) r.2 (record { range = (t, k, neighbour-edge t q.0 r.0 r.1); round = refl; inner = inner-act d (act.Hop e r.0 q.0) (t, k, neighbour-edge t q.0 r.0 r.1) refl refl })

turn-of : (d : Deployed) (a : Act) → In (turns d) a → IsRoundAct d a
turn-of d a m =
    let p : (j : ℕ) × In (below d.sites) j × In (act.Turn j ∷ act.Stamp j ∷ act.Advance j ∷ []) a = In-joined (λ (j : ℕ). act.Turn j ∷ act.Stamp j ∷ act.Advance j ∷ []) (below d.sites) a m in
    one p.0 (below-In d.sites p.0 p.1) p.2
  where
    one : (j : ℕ) → j < d.sites → In (act.Turn j ∷ act.Stamp j ∷ act.Advance j ∷ []) a → IsRoundAct d a
    one j b (inl k) = subst (IsRoundAct d) k (record { range = b; round = refl; inner = inner-act d (act.Turn j) b refl refl })
    one j b (inr (inl k)) = subst (IsRoundAct d) k (record { range = b; round = refl; inner = inner-act d (act.Stamp j) b refl refl })
    one j b (inr (inr (inl k))) = subst (IsRoundAct d) k (record { range = b; round = refl; inner = inner-act d (act.Advance j) b refl refl })
    one j b (inr (inr (inr k))) = absurd k

pub round-act : (d : Deployed) (a : Act) → In (round_acts d) a → IsRoundAct d a
unfolding round_acts
round-act d a m =
    elim (In-parts (bulks d) (hops d ++ turns d) a m) [
      | inl k ↦ bulk-of d a k
      | inr k ↦ elim (In-parts (hops d) (turns d) a k) [ inl q ↦ hop-of d a q | inr q ↦ turn-of d a q ]
    ]

pub among-in : (acts : List Act) (a : Act) → IsAmong acts a → In acts a
among-in [] a i = i
among-in (b ∷ acts) a (inl e) = inl e
among-in (b ∷ acts) a (inr i) = inr (among-in acts a i)

pub in-among : (acts : List Act) (a : Act) → In acts a → IsAmong acts a
in-among [] a i = i
in-among (b ∷ acts) a (inl e) = inl e
in-among (b ∷ acts) a (inr i) = inr (in-among acts a i)

pub falls : (d : Deployed) (h : List Entry) (a : Act) → IsWithin d → IsRun d h → IsRoundAct d a → is_done (answer d h a) ≡ true → left d (inner_entry d h a ∷ h) < left d h
falls d h a w run m e = left-falls d h a (answer d h a) true w.valid w.trees w.some_plan (inner-run d h a run m.inner) (outcome d h a) m.round e

pub is-until : (d : Deployed) (a : Act) (h : List Entry) → until_refused d a h ≡ repeated d a (left d h) h
unfolding until_refused
is-until d a h = refl

pub until-ends : (d : Deployed) (a : Act) (h : List Entry) → IsWithin d → IsRun d h → IsRoundAct d a → UntilRefused d a h (until_refused d a h)
until-ends d a h w run m =
    subst (UntilRefused d a h) (sym (is-until d a h)) (repeated-ends d a (left d) m.inner (λ k r e. falls d k a w r m e) (left d h) h run (omega arith))

pub until-after : (d : Deployed) (a : Act) (h : List Entry) → IsRun d h → IsInner d a → IsAfter d h (until_refused d a h)
until-after d a h run range = subst (IsAfter d h) (sym (is-until d a h)) (repeated-after d a (left d h) h run range)
