-- How much is left after the opening of a settle.
use Rattle.std.specs.Prelude.{◌≡◌, ◌⊎◌, ◌<◌, ◌≤◌, ℕ, ◌+◌, ◌-◌, ◌*◌, Bool, true, false, ◌&&◌, not, ◌==◌, List, [], ◌∷◌, ◌++◌, Option, Some, None, refl, length, filter, map, if◌then◌else◌}
use Rattle.std.proofs.Common.{sym, subst, arith, inl, inr, ap, ◌∙◌, length-append}
use Rattle.std.proofs.lemmas.List.{append-nil, length-map}
use Rattle.std.proofs.lemmas.Bool.Decides.{nat_tests}
use Rattle.std.proofs.Math.Nat.{mul_comm, add-mul, mul-add, mul-le-mul_left}
use Rattle.std.proofs.lemmas.Bool.{not_from_true}
use Rattle.sat_label.proofs.Numbers.{length-below}
use Rattle.sat_label.specs.declared.label.Label.{Label}
use Rattle.sat_label.specs.declared.items.Items.{Items}
use Rattle.sat_label.specs.declared.label.Kind.{Kind}
use Rattle.sat_label.specs.declared.label.Kind.TheVariants as kind
use Rattle.sat_label.specs.declared.node.NodeId.{NodeId}
use Rattle.sat_label.specs.declared.node.NodeId.TheVariants.{Site, Serializer}
use Rattle.sat_label.specs.Order.{label_eq, point_at}
use Rattle.sat_label.specs.Grouped.{least_item, list_of}
use Rattle.sat_label.specs.Words.{below, has}
use Rattle.sat_tree.specs.Shape.{TreeShape}
use Rattle.sat_act.specs.declared.act.Act.{Act}
use Rattle.sat_act.specs.declared.answer.Answer.{Answer}
use Rattle.sat_act.specs.declared.answer.Answer.TheVariants as ans
use Rattle.sat_act.specs.declared.entry.Entry.{Entry}
use Rattle.sat_act.specs.Deployed.{Deployed}
use Rattle.sat_act.specs.Histories.{listed}
use Rattle.sat_act.specs.Parts.{Handling, handling, keeps_some, is_target, is_update, tree_of, emission, brought, shown, sent_entry}
use Rattle.sat_act.specs.Answers.{base, gear_of}
use Rattle.sat_act.specs.Runs.{IsRun}
use Rattle.sat_act.specs.Goals.{Gives}
use Rattle.sat_act.specs.Settling.{total, payload_entry, payloads, payload_left, payloads_left, handlings, sending_entry, sendings, nodes_of, was_handled, sending_left, epochs_left, left}
use Rattle.sat_rest.specs.Ends.{IsWithin, most_rounds, any_sent_entry, sent_count, wrote_entry, wrote_count}
use Rattle.sat_laws.proofs.Steps.{Step, write_label, wrote}
use Rattle.sat_laws.proofs.Runs.{step_of, before_of, entry}
use Rattle.sat_act.specs.Done.{sent_in, is_at}
use Rattle.sat_laws.proofs.Sinks.{kept}
use Rattle.sat_laws.proofs.Labels.{seat-range, some_is}
use Rattle.sat_laws.proofs.Members.{listed-gives}
use Rattle.sat_laws.proofs.Links.{HandledFrom, tail_of, own-sending, view-of}
use Rattle.sat_rest.proofs.Lefts.{payloads_all, sendings_all, epochs_all, pick_sending, payloads_left-is, left-is, site-node, handled-grows, handled-now}
use Rattle.sat_rest.proofs.Totals.{total-le, total-lt, total-bound, filter-less, In-below}
use Rattle.sat_label.specs.Members.{In}

-- ---- payloads

abbrev payload_count : Deployed → List Entry → ℕ → ℕ
payload_count d h j = length (payloads d h j)

abbrev payloads_made : Deployed → List Entry → ℕ
payloads_made d h = total (payload_count d h) (below d.sites)

total-plus : {X : Type 0} (f g k : X → ℕ) (xs : List X) → ((x : X) → k x ≡ f x + g x) → total k xs ≡ total f xs + total g xs
unfolding total
total-plus f g k [] w = omega arith
total-plus f g k (x ∷ xs) w =
    let a : k x ≡ f x + g x = w x in
    let b : total k xs ≡ total f xs + total g xs = total-plus f g k xs w in
    omega arith

total-none : {X : Type 0} (f : X → ℕ) (xs : List X) → ((x : X) → f x ≤ 0) → total f xs ≤ 0
unfolding total
total-none f [] w = omega arith
total-none f (x ∷ xs) w = let a : f x ≤ 0 = w x in let b : total f xs ≤ 0 = total-none f xs w in omega arith

abbrev one_if : Bool → ℕ
one_if b = if b then 1 else 0

one-most : (b : Bool) → one_if b ≤ 1
one-most true = omega arith
one-most false = omega arith

abbrev aim : Deployed → Label → ℕ → ℕ
aim d l j = one_if (is_target d l j)

-- one of the sites is not a target
targets-few : (d : Deployed) (l : Label) (i : ℕ) → i < d.sites → is_target d l i ≡ false → total (aim d l) (below d.sites) < d.sites
targets-few d l i b e =
    let a : total (aim d l) (below d.sites) < total (λ (j : ℕ). 1) (below d.sites) =
    total-lt (aim d l) (λ (j : ℕ). 1) (below d.sites) i (λ j m. one-most (is_target d l j)) (In-below d.sites i b) (none (is_target d l i) e) in
    let c : total (λ (j : ℕ). 1) (below d.sites) ≤ 1 * length (below d.sites) = total-bound 1 (λ (j : ℕ). 1) (below d.sites) (λ j m. omega arith) in
    let n : length (below d.sites) ≡ d.sites = length-below d.sites in
    omega arith
  where
    none : (b : Bool) → b ≡ false → one_if b < 1
    none true e = absurd (cc)
    none false e = omega arith

own-not : (d : Deployed) (p i g : ℕ) (items : Items) → is_target d (record { point = point_at p i g; kind = kind.Update items }) i ≡ false
unfolding is_target
own-not d p i g items = go (keeps_some d (list_of items) i) (i == i) (self i)
  where
    self : (i : ℕ) → (i == i) ≡ true
    self i = grind (arith, nat_tests)

    go : (a b : Bool) → b ≡ true → (a && not b) ≡ false
    go true true e = refl
    go false b e = refl
    go true false e = absurd (cc)

length-if : (ls : List Label) (l : Label) (b : Bool) → length (ls ++ tail_of (if b then Some l else None)) ≡ length ls + one_if b
length-if ls l true = length-append ls (l ∷ [])
length-if ls l false = omega (arith, length-append ls [])

wrote-payload : (d : Deployed) (h : List Entry) (a : Act) (l : Label) (items : Items) (j : ℕ) (n : Bool) → l.kind ≡ kind.Update items → payload_count d (entry a (ans.Wrote l) n ∷ h) j ≡ payload_count d h j + aim d l j
unfolding payloads
wrote-payload d h a l items j n e =
    length-if (listed (payload_entry d j) h) l (is_update l.kind && is_target d l j)
    ∙ ap (λ (k : Kind). length (listed (payload_entry d j) h) + one_if (is_update k && is_target d l j)) e

wrote-more : (h : List Entry) (a : Act) (l : Label) (n : Bool) → wrote_count (entry a (ans.Wrote l) n ∷ h) ≡ wrote_count h + 1
unfolding wrote_count
wrote-more h a l n = length-append (listed wrote_entry h) (l ∷ [])

wrote-grows : (h : List Entry) (x : Entry) → wrote_count h ≤ wrote_count (x ∷ h)
unfolding wrote_count
wrote-grows h x = omega (arith, length-append (listed wrote_entry h) (tail_of (wrote_entry h x)))

wrote-sum : (d : Deployed) (h : List Entry) (a : Act) (l : Label) (items : Items) (i m : ℕ) (n : Bool) → d.sites ≤ m + 1 → l.kind ≡ kind.Update items → i < d.sites → is_target d l i ≡ false → payloads_made d (entry a (ans.Wrote l) n ∷ h) ≤ payloads_made d h + m
wrote-sum d h a l items i m n few k b e =
    let p : total (payload_count d (entry a (ans.Wrote l) n ∷ h)) (below d.sites) ≡ total (payload_count d h) (below d.sites) + total (aim d l) (below d.sites) =
    total-plus (payload_count d h) (aim d l) (payload_count d (entry a (ans.Wrote l) n ∷ h)) (below d.sites) (λ j. wrote-payload d h a l items j n k) in
    let q : total (aim d l) (below d.sites) < d.sites = targets-few d l i b e in
    omega arith

same-sum : (d : Deployed) (h : List Entry) (x : Entry) → ((j : ℕ) → payloads d (x ∷ h) j ≡ payloads d h j) → payloads_made d (x ∷ h) ≤ payloads_made d h
same-sum d h x w =
    total-le (payload_count d (x ∷ h)) (payload_count d h) (below d.sites) (λ j m. let e : payload_count d (x ∷ h) j ≡ payload_count d h j = ap (λ (ls : List Label). length ls) (w j) in omega arith)

payloads-step : (d : Deployed) (h : List Entry) (a : Act) (r : Answer) (m : ℕ) (n : Bool) → d.sites ≤ m + 1 → IsWithin d → IsRun d h → Step d h a r →
    ((j : ℕ) → payloads d (entry a r n ∷ h) j ≡ payloads d h j) ⊎ ((wrote_count (entry a r n ∷ h) ≡ wrote_count h + 1) × (payloads_made d (entry a r n ∷ h) ≤ payloads_made d h + m))
payloads-step d h a r m n few w run (wrote {w = v} {i = i} z p q s) =
    let g : ℕ = gear_of d (least_item (list_of v.items)) in
    inr (wrote-more h a (write_label d h v i) n, wrote-sum d h a (write_label d h v i) v.items i m n few refl (seat-range d h v.client i w.valid run p) (own-not d (base h v.client i g + 1) i g v.items))
payloads-step d h a r m n few w run _ = inl (λ j. unfold payloads in append-nil (listed (payload_entry d j) h))

up : (a b c e : ℕ) → a ≤ b → b ≤ c → c ≤ e → a ≤ e
up a b c e p q r = omega arith

more : (m w : ℕ) → m * (w + 1) ≡ m * w + m
more m w = let e : m * (w + 1) ≡ m * w + m * 1 = mul-add m w 1 in omega arith

payloads-made : (d : Deployed) (h : List Entry) (m : ℕ) → d.sites ≤ m + 1 → IsWithin d → IsRun d h → payloads_made d h ≤ m * wrote_count h
payloads-made d [] m few w run = let a : payloads_made d [] ≤ 0 = total-none (payload_count d []) (below d.sites) (λ j. none j) in omega arith
  where
    none : (j : ℕ) → payload_count d [] j ≤ 0
    none j = unfold payloads in omega arith
payloads-made d (x ∷ h) m few w run =
    go (payloads-step d h x.act x.answer m x.inner few w (before_of d h x run) (step_of d h x run)) (payloads-made d h m few w (before_of d h x run)) (wrote-grows h x)
  where
    go : ((j : ℕ) → payloads d (x ∷ h) j ≡ payloads d h j) ⊎ ((wrote_count (x ∷ h) ≡ wrote_count h + 1) × (payloads_made d (x ∷ h) ≤ payloads_made d h + m)) → payloads_made d h ≤ m * wrote_count h → wrote_count h ≤ wrote_count (x ∷ h) → payloads_made d (x ∷ h) ≤ m * wrote_count (x ∷ h)
    go (inl s) old grows =
        let a : payloads_made d (x ∷ h) ≤ payloads_made d h = same-sum d h x s in
        let b : m * wrote_count h ≤ m * wrote_count (x ∷ h) = mul-le-mul_left m grows in
        up (payloads_made d (x ∷ h)) (payloads_made d h) (m * wrote_count h) (m * wrote_count (x ∷ h)) a old b
    go (inr s) old grows =
        over (payloads_made d (x ∷ h)) (payloads_made d h) (m * wrote_count h) (m * wrote_count (x ∷ h)) s.1 old (ap (λ (k : ℕ). m * k) s.0 ∙ more m (wrote_count h))
      where
        over : (a b c e : ℕ) → a ≤ b + m → b ≤ c → e ≡ c + m → a ≤ e
        over a b c e p q r = omega arith

weight : (bs ss : List Label) (l : Label) → payload_left bs ss l ≤ 2
weight bs ss l = go (has label_eq bs l) (has label_eq ss l)
  where
    go : (b s : Bool) → (if b then (if s then 0 else 1) else 2) ≤ 2
    go true true = omega arith
    go true false = omega arith
    go false s = omega arith

twice : (d : Deployed) (h : List Entry) (j : ℕ) → payloads_left d h j ≤ payload_count d h j + payload_count d h j
twice d h j =
    let a : payloads_left d h j ≡ total (payload_left (brought h j) (shown h j)) (payloads d h j) = payloads_left-is d h j in
    let b : total (payload_left (brought h j) (shown h j)) (payloads d h j) ≤ 2 * length (payloads d h j) = total-bound 2 (payload_left (brought h j) (shown h j)) (payloads d h j) (λ l m. weight (brought h j) (shown h j) l) in
    omega arith

payloads-bound : (d : Deployed) (h : List Entry) (m : ℕ) → d.sites ≤ m + 1 → IsWithin d → IsRun d h → payloads_all d h ≤ (2 * m) * wrote_count h
payloads-bound d h m few w run =
    let a : payloads_all d h ≤ total (λ (j : ℕ). payload_count d h j + payload_count d h j) (below d.sites) =
    total-le (payloads_left d h) (λ (j : ℕ). payload_count d h j + payload_count d h j) (below d.sites) (λ j m. twice d h j) in
    let b : total (λ (j : ℕ). payload_count d h j + payload_count d h j) (below d.sites) ≡ payloads_made d h + payloads_made d h =
    total-plus (payload_count d h) (payload_count d h) (λ (j : ℕ). payload_count d h j + payload_count d h j) (below d.sites) (λ j. refl) in
    let c : payloads_made d h ≤ m * wrote_count h = payloads-made d h m few w run in
    let e : (m + m) * wrote_count h ≡ m * wrote_count h + m * wrote_count h = add-mul m m (wrote_count h) in
    let f : 2 * m ≡ m + m = omega arith in
    both (payloads_all d h) (total (λ (j : ℕ). payload_count d h j + payload_count d h j) (below d.sites)) (payloads_made d h) (m * wrote_count h) ((2 * m) * wrote_count h) a b c (ap (λ (k : ℕ). k * wrote_count h) f ∙ e)
  where
    both : (a t b c e : ℕ) → a ≤ t → t ≡ b + b → b ≤ c → e ≡ c + c → a ≤ e
    both a t b c e p q r s = omega arith

-- ---- links

picked-sending : (o : Option Handling) (s : Handling) → pick_sending o ≡ Some s → (o ≡ Some s) × (s.from ≡ None)
picked-sending None s e = absurd (cc)
picked-sending (Some y) s e = go y.from refl e
  where
    go : (f : Option NodeId) → y.from ≡ f → elim f [ None ↦ Some y | Some u ↦ None ] ≡ Some s → (Some y ≡ Some s) × (s.from ≡ None)
    go None k e = (e, ap (λ (z : Handling). z.from) (sym (some_is y s e)) ∙ k)
    go (Some u) k e = absurd (cc)

-- what is among the sendings was handled where it was sent
pub record IsSending (d : Deployed) (h : List Entry) (s : Handling) : Type 0 where
  pub site : ℕ
  pub in_range : site < d.sites
  pub node : s.node ≡ Site site
  pub handled : HandledFrom d h s.epoch s.node s.from s.label

sending-gives : (d : Deployed) (h : List Entry) (s : Handling) → IsRun d h → Gives (sending_entry d) h s → IsSending d h s
unfolding Gives HandledFrom
sending-gives d [] s run k = absurd k
sending-gives d (x ∷ h) s run (inl k) = let w : IsSending d h s = sending-gives d h s (before_of d h x run) k in record { site = w.site; in_range = w.in_range; node = w.node; handled = inl w.handled }
sending-gives d (x ∷ h) s run (inr k) =
    let p : (handling d h x ≡ Some s) × (s.from ≡ None) = picked-sending (handling d h x) s k in
    let q : (i : ℕ) × (s.node ≡ Site i) × (i < d.sites) × (sent_entry i h x ≡ Some s.label) × (emission h i ≡ s.epoch) = own-sending d h x s (view-of d h x s run p.0) p.1 in
    record { site = q.0; in_range = q.2; node = q.1; handled = inr p.0 }

pub sending-is : (d : Deployed) (h : List Entry) (s : Handling) → IsRun d h → In (sendings d h) s → IsSending d h s
unfolding sendings
sending-is d h s run m = sending-gives d h s run (listed-gives (sending_entry d) h s m)

pub into-handled : (d : Deployed) (h : List Entry) (e : ℕ) (u : NodeId) (o : Option NodeId) (l : Label) → HandledFrom d h e u o l → was_handled (handlings d h) e l u ≡ true
unfolding HandledFrom
into-handled d [] e u o l k = absurd k
into-handled d (x ∷ h) e u o l (inl k) = handled-grows d h x e l u (into-handled d h e u o l k)
into-handled d (x ∷ h) e u o l (inr k) = handled-now d h x e l u o k

nodes-few : (d : Deployed) (e m : ℕ) → d.sites ≤ m + 1 → IsWithin d → length (nodes_of d e) ≤ 16 + m
unfolding nodes_of
nodes-few d e m few w = go (tree_of d e) refl
  where
    go : (o : Option TreeShape) → tree_of d e ≡ o → length {A = NodeId} (elim o [ None ↦ [] | Some t ↦ map Site (below d.sites) ++ map Serializer (below (length t.parents)) ]) ≤ 16 + m
    go None k = omega arith
    go (Some t) k =
        let a : length (map Site (below d.sites) ++ map Serializer (below (length t.parents))) ≡ length (map Site (below d.sites)) + length (map Serializer (below (length t.parents))) = length-append (map Site (below d.sites)) (map Serializer (below (length t.parents))) in
        let b : length (map Site (below d.sites)) ≡ length (below d.sites) = length-map (below d.sites) Site in
        let c : length (map Serializer (below (length t.parents))) ≡ length (below (length t.parents)) = length-map (below (length t.parents)) Serializer in
        let p : length (below d.sites) ≡ d.sites = length-below d.sites in
        let q : length (below (length t.parents)) ≡ length t.parents = length-below (length t.parents) in
        let y : length t.parents ≤ 15 = w.few_serializers e t k in
        omega arith

none-left : (d : Deployed) (hs : List Handling) (s : Handling) (m : ℕ) → tree_of d s.epoch ≡ None → sending_left d hs s ≤ 15 + m
unfolding sending_left nodes_of
none-left d hs s m k = go (tree_of d s.epoch) k
  where
    go : (o : Option TreeShape) → o ≡ None → length (filter {X = NodeId} (λ v. not (was_handled hs s.epoch s.label v)) (elim o [ None ↦ [] | Some t ↦ map Site (below d.sites) ++ map Serializer (below (length t.parents)) ])) ≤ 15 + m
    go None e = omega arith
    go (Some t) e = absurd (cc)

some-left : (d : Deployed) (hs : List Handling) (s : Handling) (n : ℕ) → length (nodes_of d s.epoch) ≤ 16 + n → In (nodes_of d s.epoch) s.node → was_handled hs s.epoch s.label s.node ≡ true → sending_left d hs s ≤ 15 + n
unfolding sending_left
some-left d hs s n few m k =
    let a : length (filter (λ (v : NodeId). not (was_handled hs s.epoch s.label v)) (nodes_of d s.epoch)) < length (nodes_of d s.epoch) =
    filter-less (λ (v : NodeId). not (was_handled hs s.epoch s.label v)) (nodes_of d s.epoch) s.node m (not_from_true (was_handled hs s.epoch s.label s.node) k) in
    below_limit (length (filter (λ (v : NodeId). not (was_handled hs s.epoch s.label v)) (nodes_of d s.epoch))) (length (nodes_of d s.epoch)) a few
  where
    below_limit : (a b : ℕ) → a < b → b ≤ 16 + n → a ≤ 15 + n
    below_limit a b p q = omega arith

sending-few : (d : Deployed) (h : List Entry) (s : Handling) (n : ℕ) → d.sites ≤ n + 1 → IsWithin d → IsRun d h → In (sendings d h) s → sending_left d (handlings d h) s ≤ 15 + n
sending-few d h s n few w run m = go (tree_of d s.epoch) refl (sending-is d h s run m)
  where
    go : (o : Option TreeShape) → tree_of d s.epoch ≡ o → IsSending d h s → sending_left d (handlings d h) s ≤ 15 + n
    go None k i = none-left d (handlings d h) s n k
    go (Some t) k i =
        some-left d (handlings d h) s n (nodes-few d s.epoch n few w) (subst (λ (n : NodeId). In (nodes_of d s.epoch) n) (sym i.node) (site-node d s.epoch i.site t k i.in_range))
        (into-handled d h s.epoch s.node s.from s.label i.handled)

sent-in-answer : (h : List Entry) (x : Entry) (i : ℕ) (l : Label) → sent_entry i h x ≡ Some l → sent_in x.answer ≡ Some l
sent-in-answer h x i l e = (kept (λ (l : Label). is_at x.act i) (sent_in x.answer) l e).0

grow-by : {X Y : Type 0} (xs : List X) (ys : List Y) (o : Option X) (p : Option Y) → ((x : X) → o ≡ Some x → (y : Y) × (p ≡ Some y)) → length xs ≤ length ys → length (xs ++ tail_of o) ≤ length (ys ++ tail_of p)
grow-by xs ys None p w le = omega (arith, length-append xs [], length-append ys (tail_of p))
grow-by xs ys (Some x) None w le = absurd (let r : (y : _) × (None ≡ Some y) = w x refl in cc)
grow-by xs ys (Some x) (Some y) w le = omega (arith, length-append xs (x ∷ []), length-append ys (y ∷ []))

sendings-count : (d : Deployed) (h : List Entry) → IsRun d h → length (sendings d h) ≤ sent_count h
unfolding sendings sent_count
sendings-count d [] run = omega arith
sendings-count d (x ∷ h) run =
    grow-by (listed (sending_entry d) h) (listed any_sent_entry h) (sending_entry d h x) (sent_in x.answer) (λ s k. one s k) (sendings-count d h (before_of d h x run))
  where
    one : (s : Handling) → pick_sending (handling d h x) ≡ Some s → (l : Label) × (sent_in x.answer ≡ Some l)
    one s k =
        let p : (handling d h x ≡ Some s) × (s.from ≡ None) = picked-sending (handling d h x) s k in
        let q : (i : ℕ) × (s.node ≡ Site i) × (i < d.sites) × (sent_entry i h x ≡ Some s.label) × (emission h i ≡ s.epoch) = own-sending d h x s (view-of d h x s run p.0) p.1 in
        (s.label, sent-in-answer h x q.0 s.label q.3)

sendings-bound : (d : Deployed) (h : List Entry) (n : ℕ) → d.sites ≤ n + 1 → IsWithin d → IsRun d h → sendings_all d h ≤ (15 + n) * sent_count h
sendings-bound d h n few w run =
    let a : sendings_all d h ≤ (15 + n) * length (sendings d h) = total-bound (15 + n) (sending_left d (handlings d h)) (sendings d h) (λ s m. sending-few d h s n few w run m) in
    let b : (15 + n) * length (sendings d h) ≤ (15 + n) * sent_count h = mul-le-mul_left (15 + n) (sendings-count d h run) in
    up (sendings_all d h) (sendings_all d h) ((15 + n) * length (sendings d h)) ((15 + n) * sent_count h) (omega arith) a b

-- ---- epochs

epochs-bound : (d : Deployed) (h : List Entry) → epochs_all d h ≤ d.sites * length d.plans
epochs-bound d h =
    let a : epochs_all d h ≤ length d.plans * length (below d.sites) = total-bound (length d.plans) (epochs_left d h) (below d.sites) (λ j m. omega arith) in
    let b : length d.plans * length (below d.sites) ≡ length d.plans * d.sites = ap (λ (n : ℕ). length d.plans * n) (length-below d.sites) in
    let c : length d.plans * d.sites ≡ d.sites * length d.plans = mul_comm (length d.plans) d.sites in
    at_most (epochs_all d h) (length d.plans * length (below d.sites)) (d.sites * length d.plans) a (b ∙ c)
  where
    at_most : (a b c : ℕ) → a ≤ b → b ≡ c → a ≤ c
    at_most a b c l e = omega arith

pub left-bound : (d : Deployed) (h : List Entry) → IsWithin d → IsRun d h → left d h ≤ most_rounds d h
left-bound d h w run =
    let a : left d h ≡ (payloads_all d h + sendings_all d h) + epochs_all d h = left-is d h in
    let few : d.sites ≤ (d.sites - 1) + 1 = omega arith in
    let b : payloads_all d h ≤ (2 * (d.sites - 1)) * wrote_count h = payloads-bound d h (d.sites - 1) few w run in
    let c : sendings_all d h ≤ (15 + (d.sites - 1)) * sent_count h = sendings-bound d h (d.sites - 1) few w run in
    let e : epochs_all d h ≤ d.sites * length d.plans = epochs-bound d h in
    sum (left d h) (payloads_all d h) (sendings_all d h) (epochs_all d h) ((2 * (d.sites - 1)) * wrote_count h) ((15 + (d.sites - 1)) * sent_count h) (d.sites * length d.plans) a b c e
  where
    sum : (l p s e a b c : ℕ) → l ≡ (p + s) + e → p ≤ a → s ≤ b → e ≤ c → l ≤ (b + a) + c
    sum l p s e a b c k x y z = omega arith
