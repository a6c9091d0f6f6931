-- What a site's entries put on its link into a tree and take from there is what the history says.
use Rattle.std.proofs.Common.{◌≡◌, ◌<◌, ◌≤◌, ℕ, ◌+◌, ◌-◌, Bool, true, false, ◌==◌, ◌&&◌, ◌||◌, not, nat_lt, List, [], ◌∷◌, Option, Some, None, is_none, slice_get, if◌then◌else◌, refl, sym, ap, ◌∙◌, arith}
use Rattle.std.proofs.lemmas.Bool.{and_parts}
use Rattle.sat_label.proofs.SameNodes.{node-self}
use Rattle.sat_label.proofs.Truth.{same-number, same-test}
use Rattle.sat_label.specs.Order.{node_eq}
use Rattle.sat_label.specs.Words.{bit}
use Rattle.sat_label.specs.declared.label.Kind.{Kind}
use Rattle.sat_label.specs.declared.label.Kind.TheVariants as kind
use Rattle.sat_label.specs.Grouped.{list_of}
use Rattle.sat_label.specs.declared.label.Label.{Label}
use Rattle.sat_label.specs.declared.node.NodeId.{NodeId}
use Rattle.sat_label.specs.declared.node.NodeId.TheVariants.{Site, Serializer}
use Rattle.sat_label.specs.declared.node.NodeName.TheVariants as named
use Rattle.sat_beat.specs.declared.Beat.{Beat}
use Rattle.sat_tree.specs.Shape.{TreeShape}
use Rattle.sat_tree.specs.Cut.{seat_of}
use Rattle.sat_act.specs.declared.act.Act.{Act}
use Rattle.sat_act.specs.declared.answer.Answer.{Answer}
use Rattle.sat_act.specs.declared.answer.Answer.TheVariants as ans
use Rattle.sat_act.specs.declared.deployment.Item.{Item}
use Rattle.sat_act.specs.declared.entry.Entry.{Entry}
use Rattle.sat_act.specs.Deployed.{Deployed}
use Rattle.sat_act.specs.Limits.{IsDeployment}
use Rattle.sat_act.specs.Parts.{Handling, handling, emission, view, seat_in, tree_of, keeps_some, replicates, goes_beyond, came_from, entered_entry, taken_entry}
use Rattle.sat_laws.proofs.Runs.{entry}
use Rattle.sat_model.specs.State.{SiteState}
use Rattle.sat_model.specs.Fits.{fits, is_other, is_gear, is_note}
use Rattle.sat_model.specs.Interests.{interest_of}
use Rattle.sat_net.proofs.Edges.{leaves as goes-out, stays}
use Rattle.sat_net.proofs.Targets.{leads-is}
use Rattle.sat_sites.specs.Interested.{is_for, keeps_one}
use Rattle.sat_proxy.specs.Proxy.{note_of}
use Rattle.sat_site.specs.declared.input.SiteInput.{SiteInput}
use Rattle.sat_site.specs.declared.input.SiteInput.TheVariants as input
use Rattle.sat_site.specs.Changes.{shape_for}
use Rattle.sat_site.specs.Gives.{HasTarget, label_sent}
use Rattle.sat_site.specs.Inputs.{input_of}
use Rattle.sat_site.specs.SiteSteps.{emit_sends, has_target}
use Rattle.sat_site.proofs.Quiet.{target-some, some-target-here}
use Rattle.sat_node.specs.declared.kept.Kept.{Kept as Line}
use Rattle.sat_node.specs.declared.kept.Body.TheVariants as body
use Rattle.sat_node.specs.declared.kept.Made.TheVariants as made
use Rattle.sat_machines.specs.Acts.{ActSeen}
use Rattle.sat_machines.specs.Layout.{peer, label_link}
use Rattle.sat_machines.specs.declared.site_answer.SiteAnswer.{SiteAnswer}
use Rattle.sat_machines.specs.Sites.{sent_by, epoch_by, is_keeper, payload_in, beat_in, bulk_to, some_if, label_or, site_puts, site_takes, is_turned, label_taken, taken_on}
use Rattle.sat_stitch.specs.Kept.{Kept, history}
use Rattle.sat_stitch.specs.Nodes.{site_after, put_on, took_from}
use Rattle.sat_opened.specs.Keeping.{client_in, site_act, site_kept}
use Rattle.sat_opened.proofs.Numbers.{same-is, differ, and-no, not-less}
use Rattle.sat_opened.proofs.Handings.{label_made, label_body}
use Rattle.sat_opened.proofs.Layouts.{tree-at, one-end}
use Rattle.sat_opened.proofs.Says.{Says, quiet, wrote, moved, gathered, emitted, pulsed, closed, shown, took, stamped, beaten, passed, is_quiet, IsOwn, IsOwnKind}
use Rattle.sat_opened.proofs.SiteKept.{SiteStep, other-is}

-- ---- a label of its own leads out of a site exactly where it has a target

self-no : (b : Bool) (i j : ℕ) → j ≡ i → (b && not (i == j)) ≡ false
self-no b i j e = ap (λ (k : ℕ). b && not (i == k)) e ∙ (ap (λ (c : Bool). b && not c) (same-number i) ∙ and-no b)

own-kind : (d : Deployed) (i j : ℕ) (k : Kind) → j ≡ i → IsOwnKind i k →
    ◌≡◌ {A = Bool} (elim k [ kind.Update items ↦ keeps_one (interest_of d) (list_of items) i && not (i == j) | kind.Move m ↦ i == m | kind.Pulse ↦ nat_lt i d.sites && not (i == j) | kind.Close e ↦ nat_lt i d.sites && not (i == j) ]) false
own-kind d i j (kind.Update items) e o = self-no (keeps_one (interest_of d) (list_of items) i) i j e
own-kind d i j (kind.Move m) e o = o
own-kind d i j kind.Pulse e o = self-no (nat_lt i d.sites) i j e
own-kind d i j (kind.Close f) e o = self-no (nat_lt i d.sites) i j e

not-own : (d : Deployed) (i : ℕ) (l : Label) → IsOwn i l → is_for (interest_of d) l i ≡ false
unfolding is_for
not-own d i l o = own-kind d i l.point.site l.kind o.site o.kind

target-goes : (d : Deployed) (i z : ℕ) (t : TreeShape) (l : Label) → IsOwn i l → has_target (shape_for d i) l ≡ goes_beyond d t (Site i) (Serializer z) l
target-goes d i z t l o = same-test (has_target (shape_for d i) l) (goes_beyond d t (Site i) (Serializer z) l) forth back
  where
    forth : has_target (shape_for d i) l ≡ true → goes_beyond d t (Site i) (Serializer z) l ≡ true
    forth e =
        let w : HasTarget (shape_for d i) l = some-target-here (shape_for d i) l e in
        sym (leads-is d t (Site i) (Serializer z) l) ∙ goes-out (interest_of d) t i z w.0 l (not-own d i l o) w.1 w.2

    back : goes_beyond d t (Site i) (Serializer z) l ≡ true → has_target (shape_for d i) l ≡ true
    back e = go (has_target (shape_for d i) l) refl
      where
        go : (b : Bool) → has_target (shape_for d i) l ≡ b → b ≡ true
        go true w = refl
        go false w = sym (stays (interest_of d) t (Site i) (Serializer z) l (λ k lt for. let clash : true ≡ false = sym (target-some (shape_for d i) l (k, lt, for)) ∙ w in absurd (cc))) ∙ (leads-is d t (Site i) (Serializer z) l ∙ e)

-- ---- what enters a tree, by the history and by the answer

-- a label, if it is of this epoch
abbrev pub when : Bool → Option Label → Option Label
when b None = None
when b (Some l) = if b then Some l else None

abbrev sends : Bool → Bool → Label → Option Label
sends true h l = None
sends false h l = if h then Some l else None

sends-is : (d : Deployed) (i : ℕ) (n : Bool) (l : Label) → sends n (has_target (shape_for d i) l) l ≡ emit_sends n (shape_for d i) (Some l)
sends-is d i true l = refl
sends-is d i false l = refl

out-core : (b c n h g : Bool) (l : Label) → c ≡ true → h ≡ g → (b ≡ true → n ≡ false) → (if (b && c) && (true && g) then Some l else None) ≡ when b (sends n h l)
out-core b false n h g l e w f = absurd (cc)
out-core true true true h g l e w f = absurd (let x : true ≡ false = f refl in cc)
out-core true true false true true l e w f = refl
out-core true true false false false l e w f = refl
out-core true true false true false l e w f = absurd (cc)
out-core true true false false true l e w f = absurd (cc)
out-core false true true h g l e w f = refl
out-core false true false true g l e w f = refl
out-core false true false false g l e w f = refl

none-core : (b c f g : Bool) (l : Label) → (b ≡ true → f ≡ true) → (if (b && c) && (not f && g) then Some l else None) ≡ None
none-core false c f g l w = refl
none-core true false f g l w = refl
none-core true true true g l w = refl
none-core true true false g l w = absurd (let x : false ≡ true = w refl in cc)

not-core : (b c : Bool) (l : Label) → (if (b && c) && false then Some l else None) ≡ None
not-core b c l = ap (λ (t : Bool). if t then Some l else None) (and-no (b && c))

in-core : (b c f : Bool) (l : Label) → c ≡ true → (b ≡ true → f ≡ true) → (if (b && c) && f then Some l else None) ≡ (if b then Some l else None)
in-core false c f l e w = refl
in-core true true true l e w = refl
in-core true false f l e w = absurd (cc)
in-core true true false l e w = absurd (let x : false ≡ true = w refl in cc)

quiet-handling : (d : Deployed) (h : List Entry) (a : Act) (r : Answer) → is_quiet r ≡ true → handling d h (entry a r false) ≡ None
unfolding handling
quiet-handling d h a (ans.Emitted l) q = absurd (cc)
quiet-handling d h a (ans.Pulsed l) q = absurd (cc)
quiet-handling d h a (ans.Closed f p) q = absurd (cc)
quiet-handling d h a (ans.Hopped l to) q = absurd (cc)
quiet-handling d h a (ans.Shown l) q = absurd (cc)
quiet-handling d h a (ans.Took l) q = absurd (cc)
quiet-handling d h a _ q = refl

abbrev enters_by : Deployed → ℕ → TreeShape → NodeId → NodeId → Option Handling → Option Label
enters_by d e t u v o = elim o [ None ↦ None | Some x ↦ if ((x.epoch == e) && node_eq x.node u) && (not (came_from x v) && goes_beyond d t u v x.label) then Some x.label else None ]

abbrev takes_by : ℕ → NodeId → NodeId → Option Handling → Option Label
takes_by e u v o = elim o [ None ↦ None | Some x ↦ if ((x.epoch == e) && node_eq x.node v) && came_from x u then Some x.label else None ]

no-label : (n : Bool) (d : Deployed) (i : ℕ) (o : Option Label) → o ≡ None → emit_sends n (shape_for d i) o ≡ None
no-label true d i o e = refl
no-label false d i None e = refl
no-label false d i (Some l) e = absurd (cc)

quiet-label : (r : Answer) → is_quiet r ≡ true → label_sent r ≡ None
quiet-label (ans.Emitted l) q = absurd (cc)
quiet-label (ans.Pulsed l) q = absurd (cc)
quiet-label (ans.Closed f p) q = absurd (cc)
quiet-label _ q = refl

quiet-sent : (d : Deployed) (i : ℕ) (s : SiteState) (given : SiteInput) (r : Answer) → is_quiet r ≡ true → sent_by d i s given r ≡ None
unfolding sent_by
quiet-sent d i s input.Emit r q = no-label (is_none (tree_of d s.views.emission)) d i (label_sent r) (quiet-label r q)
quiet-sent d i s input.Pulse r q = no-label (is_none (tree_of d s.views.emission)) d i (label_sent r) (quiet-label r q)
quiet-sent d i s input.Close r q = no-label (is_none (tree_of d s.views.emission)) d i (label_sent r) (quiet-label r q)
quiet-sent d i s (input.Tick g t) r q = refl
quiet-sent d i s (input.Write seen items values) r q = refl
quiet-sent d i s (input.Read seen n) r q = refl
quiet-sent d i s (input.Move seen j) r q = refl
quiet-sent d i s (input.Attach seen) r q = refl
quiet-sent d i s input.Gather r q = refl
quiet-sent d i s (input.Turn front) r q = refl
quiet-sent d i s (input.Bulk from gear number p) r q = refl
quiet-sent d i s (input.Beat j) r q = refl
quiet-sent d i s (input.BeatIn from number b) r q = refl
quiet-sent d i s input.Stamp r q = refl
quiet-sent d i s input.Fall r q = refl
quiet-sent d i s input.Advance r q = refl

-- what is sent goes into the tree of the emission epoch
record IsSentIn (d : Deployed) (s : SiteState) (given : SiteInput) (l : Label) : Type 0 where
  epoch : epoch_by s given (Some l) ≡ s.views.emission
  tree : TreeShape
  is_tree : tree_of d s.views.emission ≡ Some tree

tree-there : (d : Deployed) (i : ℕ) (p : Option TreeShape) (o : Option Label) (l : Label) → emit_sends (is_none p) (shape_for d i) o ≡ Some l → (t : TreeShape) × (p ≡ Some t)
tree-there d i None o l e = absurd (cc)
tree-there d i (Some t) o l e = (t, refl)

sent-in : (d : Deployed) (i : ℕ) (s : SiteState) (given : SiteInput) (r : Answer) (l : Label) → sent_by d i s given r ≡ Some l → IsSentIn d s given l
unfolding sent_by epoch_by
sent-in d i s input.Emit r l e = (let w : (t : TreeShape) × (tree_of d s.views.emission ≡ Some t) = tree-there d i (tree_of d s.views.emission) (label_sent r) l e in record { epoch = refl; tree = w.0; is_tree = w.1 })
sent-in d i s input.Pulse r l e = (let w : (t : TreeShape) × (tree_of d s.views.emission ≡ Some t) = tree-there d i (tree_of d s.views.emission) (label_sent r) l e in record { epoch = refl; tree = w.0; is_tree = w.1 })
sent-in d i s input.Close r l e = (let w : (t : TreeShape) × (tree_of d s.views.emission ≡ Some t) = tree-there d i (tree_of d s.views.emission) (label_sent r) l e in record { epoch = refl; tree = w.0; is_tree = w.1 })
sent-in d i s _ r l e = absurd (cc)

-- the tree of a view where labels are taken
mode-tree : (o : Option TreeShape) (b : Bool) → ◌≡◌ {A = Bool} (elim o [ None ↦ true | Some tree ↦ b ]) false → (t : TreeShape) × (o ≡ Some t)
mode-tree None b e = absurd (cc)
mode-tree (Some t) b e = (t, refl)

-- what a turn takes
abbrev pub turn_takes : ℕ → SiteState → SiteInput → Answer → Option Label
turn_takes e s (input.Turn front) r = when (is_turned r && (s.views.view == e)) front
turn_takes e s _ r = None

quiet-turn : (e : ℕ) (s : SiteState) (given : SiteInput) (r : Answer) → is_quiet r ≡ true → None ≡ turn_takes e s given r
quiet-turn e s (input.Turn None) r q = refl
quiet-turn e s (input.Turn (Some l)) (ans.Shown m) q = absurd (cc)
quiet-turn e s (input.Turn (Some l)) (ans.Took m) q = absurd (cc)
quiet-turn e s (input.Turn (Some l)) _ q = refl
quiet-turn e s _ r q = refl

module _ (d : Deployed) (i e : ℕ) (t : TreeShape) (tree : tree_of d e ≡ Some t) where
  abbrev up : NodeId
  up = Serializer (seat_of t i)

  -- the seat in the view, where that is the epoch
  seat-there : (v : ℕ) → (v == e) ≡ true → seat_in d v i ≡ Some up
  unfolding seat_in
  seat-there v w = ap (λ (k : ℕ). seat_in d k i) (same-is v e w) ∙ ap (λ (o : Option TreeShape). elim o [ None ↦ None | Some tree ↦ Some (Serializer (seat_of tree i)) ]) tree

  came-up : (v : ℕ) (l : Label) → (v == e) ≡ true → came_from (record { epoch = v; node = Site i; from = seat_in d v i; label = l }) up ≡ true
  came-up v l w = ap (λ (o : Option NodeId). elim o [ None ↦ false | Some u ↦ node_eq u up ]) (seat-there v w) ∙ node-self up

  no-stamp : (f : ℕ) → (f == e) ≡ true → is_none (tree_of d f) ≡ false
  no-stamp f w = ap (λ (k : ℕ). is_none (tree_of d k)) (same-is f e w) ∙ ap (λ (o : Option TreeShape). is_none o) tree

  module _ (c : ℕ) (s : SiteState) (h : List Entry) (sends_in : emission h i ≡ s.views.emission) (takes_in : view h i ≡ s.views.view) where
    sends-out : (f : ℕ) (l : Label) → f ≡ s.views.emission → IsOwn i l →
        (if ((f == e) && (i == i)) && (true && goes_beyond d t (Site i) up l) then Some l else None) ≡ when (s.views.emission == e) (emit_sends (is_none (tree_of d s.views.emission)) (shape_for d i) (Some l))
    sends-out f l w o =
        ap (λ (f : ℕ). if ((f == e) && (i == i)) && (true && goes_beyond d t (Site i) up l) then Some l else None) w ∙
        (out-core (s.views.emission == e) (i == i) (is_none (tree_of d s.views.emission)) (has_target (shape_for d i) l) (goes_beyond d t (Site i) up l) l (same-number i) (target-goes d i (seat_of t i) t l o) (no-stamp s.views.emission) ∙
        ap (when (s.views.emission == e)) (sends-is d i (is_none (tree_of d s.views.emission)) l))

    turns-out : (l : Label) → (if ((view h i == e) && (i == i)) && (not (came_from (record { epoch = view h i; node = Site i; from = seat_in d (view h i) i; label = l }) up) && goes_beyond d t (Site i) up l) then Some l else None) ≡ None
    turns-out l = none-core (view h i == e) (i == i) _ (goes_beyond d t (Site i) up l) l (came-up (view h i) l)

    pub enters : (given : SiteInput) (r : Answer) → Says d i s given r → entered_entry d e t (Site i) up h (entry (site_act i c given) r false) ≡ when (s.views.emission == e) (sent_by d i s given r)
    unfolding handling sent_by
    enters given r (quiet g y q) = ap (enters_by d e t (Site i) up) (quiet-handling d h (site_act i c g) y q) ∙ ap (when (s.views.emission == e)) (sym (quiet-sent d i s g y q))
    enters given r (wrote seen items values l o k) = refl
    enters given r (moved seen j l o) = refl
    enters given r (gathered n u) = refl
    enters given r (emitted l o) = sends-out (emission h i) l sends_in o
    enters given r (pulsed l o) = sends-out (emission h i) l sends_in o
    enters given r (closed p o) = sends-out s.views.emission (record { point = p; kind = kind.Close s.views.emission }) refl (record { site = o; kind = tt })
    enters given r (shown l m) = turns-out l
    enters given r (took l m) = turns-out l
    enters given r (stamped l) = refl
    enters given r (beaten j n) = refl
    enters given r passed = refl

    turns-in : (l : Label) → (if ((view h i == e) && (i == i)) && came_from (record { epoch = view h i; node = Site i; from = seat_in d (view h i) i; label = l }) up then Some l else None) ≡ (if s.views.view == e then Some l else None)
    turns-in l = in-core (view h i == e) (i == i) _ l (same-number i) (came-up (view h i) l) ∙ ap (λ (v : ℕ). if v == e then Some l else None) takes_in

    pub taken : (given : SiteInput) (r : Answer) → Says d i s given r → taken_entry d e up (Site i) h (entry (site_act i c given) r false) ≡ turn_takes e s given r
    unfolding handling
    taken given r (quiet g y q) = ap (takes_by e up (Site i)) (quiet-handling d h (site_act i c g) y q) ∙ quiet-turn e s g y q
    taken given r (wrote seen items values l o k) = refl
    taken given r (moved seen j l o) = refl
    taken given r (gathered n u) = refl
    taken given r (emitted l o) = not-core (emission h i == e) (i == i) l
    taken given r (pulsed l o) = not-core (emission h i == e) (i == i) l
    taken given r (closed p o) = not-core (s.views.emission == e) (i == i) (record { point = p; kind = kind.Close s.views.emission })
    taken given r (shown l m) = turns-in l
    taken given r (took l m) = turns-in l
    taken given r (stamped l) = refl
    taken given r (beaten j n) = refl
    taken given r passed = refl

-- ---- the end into a tree is no lane

above-all : (k n : ℕ) → n ≤ k → k < n → ⊥
above-all k n a b = omega arith

none-at : (d : Deployed) (dep : IsDeployment d) (n j : ℕ) (o : Option Item) → slice_get d.items n ≡ o → d.sites ≤ j → ◌≡◌ {A = Bool} (elim o [ None ↦ false | Some item ↦ bit item.replicas.bits j ]) false
none-at d dep n j None e le = refl
none-at d dep n j (Some item) e le = go (bit item.replicas.bits j) refl
  where
    go : (b : Bool) → bit item.replicas.bits j ≡ b → b ≡ false
    go true w = absurd (above-all j d.sites le (dep.replicas n j item e w))
    go false w = refl

none-keeps : (d : Deployed) (dep : IsDeployment d) (n j : ℕ) → d.sites ≤ j → replicates d n j ≡ false
unfolding replicates
none-keeps d dep n j le = none-at d dep n j (slice_get d.items n) refl le

-- no site that there is not keeps one of some items
none-keep : (d : Deployed) (dep : IsDeployment d) (xs : List ℕ) (j : ℕ) → d.sites ≤ j → keeps_some d xs j ≡ false
none-keep d dep [] j le = refl
none-keep d dep (x ∷ xs) j le = λ n. none-keeps d dep x j le n || none-keep d dep xs j le n

none-payload : (b : Bool) (values : List (List ℕ)) (r : Answer) → b ≡ false → payload_in b values r ≡ None
none-payload true values r e = absurd (cc)
none-payload false values (ans.Wrote l) e = refl
none-payload false values _ e = refl

pub none-beat : (b : Bool) (o : Option Beat) → b ≡ false → beat_in b o ≡ None
none-beat true o e = absurd (cc)
none-beat false None e = refl
none-beat false (Some x) e = refl

pub none-if : {X : Type 0} (b : Bool) (x : X) → b ≡ false → some_if b x ≡ None
none-if true x e = absurd (cc)
none-if false x e = refl

pub far : (k n j : ℕ) → n ≤ j → k < n → (k == j) ≡ false
far k n j a b = differ k j (unequal k n j a b)
  where
    unequal : (k n j : ℕ) → n ≤ j → k < n → k ≡ j → ⊥
    unequal k n j a b e = omega arith

module _ (d : Deployed) (dep : IsDeployment d) (i : ℕ) (lt : i < d.sites) (e : ℕ) (t : TreeShape) (tree : tree_of d e ≡ Some t) where
  abbrev end_in : ℕ
  end_in = label_link d e

  pub peer-far : d.sites ≤ peer i end_in
  peer-far = go (nat_lt end_in i) refl
    where
      high : (n i m k : ℕ) → i < n → k ≡ (n - 1) + m → i ≤ k
      high n i m k a b = omega arith

      out : (n i m k : ℕ) → i < n → k ≡ (n - 1) + m → n ≤ k + 1
      out n i m k a b = omega arith

      here : i ≤ end_in
      here = high d.sites i (tree-at d e t tree).index end_in lt (tree-at d e t tree).end

      go : (b : Bool) → nat_lt end_in i ≡ b → d.sites ≤ (if b then end_in else end_in + 1)
      go true w = absurd (let clash : true ≡ false = sym w ∙ not-less end_in i here in cc)
      go false w = out d.sites i (tree-at d e t tree).index end_in lt (tree-at d e t tree).end

  bulk-none : (s : SiteState) (given : SiteInput) (a : SiteAnswer) → fits d i s (input_of given) ≡ true → ((k : ℕ) → bit a.keepers.bits k ≡ is_keeper d given k) → bulk_to (peer i end_in) given a ≡ None
  unfolding fits
  bulk-none s (input.Write seen items values) a f k =
      none-payload (bit a.keepers.bits (peer i end_in)) values a.answer (k (peer i end_in) ∙ none-keep d dep (list_of items) (peer i end_in) peer-far)
  bulk-none s (input.Beat j) a f k = none-beat (j == peer i end_in) a.beat (far j d.sites (peer i end_in) peer-far (other-is d i j f).within)
  bulk-none s (input.Tick g u) a f k = refl
  bulk-none s (input.Read seen n) a f k = refl
  bulk-none s (input.Move seen j) a f k = refl
  bulk-none s (input.Attach seen) a f k = refl
  bulk-none s input.Gather a f k = refl
  bulk-none s input.Emit a f k = refl
  bulk-none s input.Pulse a f k = refl
  bulk-none s (input.Turn front) a f k = refl
  bulk-none s (input.Bulk from gear number p) a f k = refl
  bulk-none s (input.BeatIn from number b) a f k = refl
  bulk-none s input.Stamp a f k = refl
  bulk-none s input.Close a f k = refl
  bulk-none s input.Fall a f k = refl
  bulk-none s input.Advance a f k = refl

  -- what is sent, by its end and by its epoch
  pub label-put : (s : SiteState) (given : SiteInput) (r : Answer) (o : Option Label) (link : ℕ) → o ≡ sent_by d i s given r → link ≡ label_link d (epoch_by s given o) → label_or o (link == end_in) None ≡ label_made (when (s.views.emission == e) o)
  label-put s given r None link w k = refl
  label-put s given r (Some l) link w k =
      let q : IsSentIn d s given l = sent-in d i s given r l (sym w) in
      let same : (link == end_in) ≡ (s.views.emission == e) = ap (λ (n : ℕ). n == end_in) (k ∙ ap (label_link d) q.epoch) ∙ one-end d s.views.emission e q.tree t q.is_tree tree in
      go (link == end_in) (s.views.emission == e) same
    where
      go : (b c : Bool) → b ≡ c → some_if b (made.Label l) ≡ label_made (if c then Some l else None)
      go true true e = refl
      go false false e = refl
      go true false e = absurd (cc)
      go false true e = absurd (cc)

  -- an entry puts on this end what the history says
  pub site-enters : (b : List Kept) (x : Line ActSeen SiteAnswer) → SiteStep d i b x → site_puts (named.Site i) end_in x.input x.answer ≡ label_made (put_on d e t (Site i) (Serializer (seat_of t i)) b (site_kept i x))
  site-enters b x step =
      ap (label_or x.answer.sent (x.answer.link == end_in)) (bulk-none (site_after d i b) x.input.input x.answer step.fits_there.fits step.answers_there.keepers) ∙
      (label-put (site_after d i b) x.input.input x.answer.answer x.answer.sent x.answer.link step.answers_there.sent step.answers_there.link ∙
      (ap (λ (o : Option Label). label_made (when ((site_after d i b).views.emission == e) o)) step.answers_there.sent ∙
      ap label_made (sym (enters d i e t tree (client_in x.input.by) (site_after d i b) (history b) step.sends_in step.takes_in x.input.input x.answer.answer step.says_there))))

  -- and takes from it
  pub turn-link : (s : SiteState) (front : Option Label) (r : Answer) (o : Option Label) (link : ℕ) → link ≡ label_link d (epoch_by s (input.Turn front) o) → link ≡ label_link d s.views.view
  unfolding epoch_by
  turn-link s front r o link w = w

  pub turned-tree : (s : SiteState) (given : SiteInput) (r : Answer) → Says d i s given r → (front : Option Label) → given ≡ input.Turn front → is_turned r ≡ true → (v : TreeShape) × (tree_of d s.views.view ≡ Some v)
  turned-tree s given r (shown l m) front w q = mode-tree (tree_of d s.views.view) s.views.fallen m
  turned-tree s given r (took l m) front w q = mode-tree (tree_of d s.views.view) s.views.fallen m
  turned-tree s given r (quiet g (ans.Shown l) f) front w q = absurd (cc)
  turned-tree s given r (quiet g (ans.Took l) f) front w q = absurd (cc)
  turned-tree s given r (quiet g _ f) front w q = absurd (cc)
  turned-tree s given r (wrote seen items values l o k) front w q = absurd (cc)
  turned-tree s given r (moved seen j l o) front w q = absurd (cc)
  turned-tree s given r (gathered n u) front w q = absurd (cc)
  turned-tree s given r (emitted l o) front w q = absurd (cc)
  turned-tree s given r (pulsed l o) front w q = absurd (cc)
  turned-tree s given r (closed p o) front w q = absurd (cc)
  turned-tree s given r (stamped l) front w q = absurd (cc)
  turned-tree s given r (beaten j n) front w q = absurd (cc)
  turned-tree s given r passed front w q = absurd (cc)

  pub front-taken : (s : SiteState) (turn : Bool) (front : Option Label) (link : ℕ) → link ≡ label_link d s.views.view → (turn ≡ true → (v : TreeShape) × (tree_of d s.views.view ≡ Some v)) →
      label_taken (turn && (link == end_in)) front ≡ label_body (when (turn && (s.views.view == e)) front)
  front-taken s turn None link w k = refl
  front-taken s false (Some l) link w k = refl
  front-taken s true (Some l) link w k = go (link == end_in) (s.views.view == e) (ap (λ (n : ℕ). n == end_in) w ∙ one-end d s.views.view e (k refl).0 t (k refl).1 tree)
    where
      go : (b c : Bool) → b ≡ c → some_if b (body.Label l) ≡ label_body (if c then Some l else None)
      go true true e = refl
      go false false e = refl
      go true false e = absurd (cc)
      go false true e = absurd (cc)

  taken-is : (s : SiteState) (given : SiteInput) (a : SiteAnswer) → Says d i s given a.answer → fits d i s (input_of given) ≡ true → a.link ≡ label_link d (epoch_by s given a.sent) →
      taken_on (peer i end_in) end_in given a ≡ label_body (turn_takes e s given a.answer)
  unfolding fits
  taken-is s (input.Turn front) a say f w = front-taken s (is_turned a.answer) front a.link (turn-link s front a.answer a.sent a.link w) (λ q. turned-tree s (input.Turn front) a.answer say front refl q)
  taken-is s (input.Bulk from gear number p) a say f w =
      let v = and_parts (is_other d i from && is_gear d gear) _ f in
      none-if (from == peer i end_in) (body.Payload gear number p) (far from d.sites (peer i end_in) peer-far (other-is d i from (and_parts (is_other d i from) (is_gear d gear) v.0).0).within)
  taken-is s (input.BeatIn from number b) a say f w =
      none-if (from == peer i end_in) (body.Beat number b) (far from d.sites (peer i end_in) peer-far (other-is d i from (and_parts (is_other d i from) (is_note d (note_of b)) f).0).within)
  taken-is s (input.Tick g u) a say f w = refl
  taken-is s (input.Write seen items values) a say f w = refl
  taken-is s (input.Read seen n) a say f w = refl
  taken-is s (input.Move seen j) a say f w = refl
  taken-is s (input.Attach seen) a say f w = refl
  taken-is s input.Gather a say f w = refl
  taken-is s input.Emit a say f w = refl
  taken-is s input.Pulse a say f w = refl
  taken-is s (input.Beat j) a say f w = refl
  taken-is s input.Stamp a say f w = refl
  taken-is s input.Close a say f w = refl
  taken-is s input.Fall a say f w = refl
  taken-is s input.Advance a say f w = refl

  pub site-takes-in : (b : List Kept) (x : Line ActSeen SiteAnswer) → SiteStep d i b x → site_takes (named.Site i) end_in x.input x.answer ≡ label_body (took_from d e (Serializer (seat_of t i)) (Site i) b (site_kept i x))
  site-takes-in b x step =
      taken-is (site_after d i b) x.input.input x.answer step.says_there step.fits_there.fits step.answers_there.link ∙
      ap label_body (sym (taken d i e t tree (client_in x.input.by) (site_after d i b) (history b) step.sends_in step.takes_in x.input.input x.answer.answer step.says_there))
