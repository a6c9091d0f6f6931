-- The merged list, taken apart at the sites, is kept lists of sites that fit.
use Rattle.std.specs.Prelude.{◌≡◌, ◌+◌, ℕ, Bool, true, false, ◌&&◌, not, ◌==◌, List, [], ◌∷◌, ◌++◌, length, filter, cond, Option, Some, None, if◌then◌else◌, refl}
use Rattle.std.proofs.Common.{sym, subst, ap, ◌∙◌, inr}
use Rattle.std.proofs.lemmas.Bool.{eqb-true, or_left}
use Rattle.sat_label.proofs.Truth.{same-number}
use Rattle.sat_label.proofs.Members.{In-right, In-filter, into-filter}
use Rattle.sat_label.specs.Members.{In}
use Rattle.sat_label.specs.Words.{below, has}
use Rattle.sat_label.specs.declared.label.Label.{Label}
use Rattle.sat_label.specs.declared.node.NodeId.{NodeId}
use Rattle.sat_label.specs.declared.node.NodeId.TheVariants.{Site, Serializer}
use Rattle.sat_label.specs.Order.{node_eq}
use Rattle.sat_tree.specs.Shape.{TreeShape}
use Rattle.sat_tree.specs.Cut.{is_edge}
use Rattle.sat_act.specs.declared.act.Act.{Act}
use Rattle.sat_act.specs.declared.act.Act.TheVariants as act
use Rattle.sat_act.specs.declared.answer.Answer.{Answer}
use Rattle.sat_act.specs.declared.answer.Answer.TheVariants as ans
use Rattle.sat_act.specs.declared.entry.Entry.{Entry}
use Rattle.sat_act.specs.Deployed.{Deployed}
use Rattle.sat_act.specs.Answers.{InRange}
use Rattle.sat_act.specs.Done.{is_at}
use Rattle.sat_act.specs.Parts.{Handling, BeatNote, handling, emission, view, tree_of, closed_epoch_of_entry, view_entry, entered_entry, taken_entry, came_from, goes_beyond, is_target}
use Rattle.sat_bulk.specs.Payloads.{Payload}
use Rattle.sat_laws.proofs.Labels.{some_is}
use Rattle.sat_laws.proofs.Links.{entered-if, taken-if}
use Rattle.sat_laws.proofs.Handlings.{handled_as}
use Rattle.sat_laws.proofs.Runs.{entry}
use Rattle.sat_model.specs.State.{SiteState}
use Rattle.sat_model.specs.Input.{SiteInput}
use Rattle.sat_model.specs.Look.{front_of}
use Rattle.sat_model.specs.Next.{payload_at, values_given}
use Rattle.sat_model.specs.Reply.{site_answer}
use Rattle.sat_stitch.specs.Kept.{Given, Nothing, OfPayload, OfBeat, Kept, entry_of, history, Each, Distinct, numbered, marks}
use Rattle.sat_stitch.specs.Places.{Place, AtSite, AtSerializer, InSession, places, stands_at, node_place, Session, Client, session_of}
use Rattle.sat_stitch.specs.Nodes.{site_after, dead_after, input_of, IsSerialAnswer, IsSessionAnswer, IsAnswerAt, stands, put_on, took_from, payload_made, beat_made, with_input, makes_payload, makes_beat, asked}
use Rattle.sat_stitch.specs.Fit.{IsHanded, IsMade, PayloadsHanded, BeatsHanded, IsKnown, IsSessionOf, LooseFit, IsMerge}
use Rattle.sat_stitch.proofs.Lists.{filter-takes, filter-leaves}
use Rattle.sat_stitch.proofs.Tables.{plain-or, stands-self, stands-is, at-unique, handling-same}
use Rattle.sat_stitch.proofs.Parts.{listed-part, emission-part, view-part, taken_by}
use Rattle.sat_joint.specs.Pieces.{Handed, Plain, Drains, Drained, Showing, Piece, given_of, plain, plains, piece_marks, EachOf}
use Rattle.sat_joint.specs.Table.{Node, AtHub, AtGear, AtSerial, Alone, same_node, over, gear_nodes, shown_nodes, nodes, is_first, node_at, stands_in, home_at, link_node}
use Rattle.sat_joint.specs.Machines.{HubState, GearNode, kept_site, whole, hub_alone, IsHomeAnswer, hub_beat, hub_asked}
use Rattle.sat_joint.specs.Joint.{AreOne, AnswersAtHome, PayloadsFit, BeatsFit, KnowsClient}
use Rattle.sat_joint.proofs.Nodes.{node-self, first-has, home-place, node-place, IsBeside, beside}
use Rattle.sat_joint.proofs.Pieces.{join-one, in-plains, Comes, from-plains, plains-rise}
use Rattle.sat_joint.proofs.Copies.{Setting, in-all, no-copy, one-home, seen, seen-copy, view as part, view-takes, view-leaves, view-list, here, home-piece-at}
use Rattle.sat_joint.specs.Steps.{is_beat, SiteSteps}
use Rattle.sat_joint.proofs.Sites.{kept-answer}
use Rattle.sat_joint.proofs.Assembly.{hub_of, gears_of, site_part, site-steps, not-there, assembled}

-- ---- marks of two parts of one list

module _ {X : Type 0} (f : List Kept → Kept → Option X) (p q : Kept → Bool) where
  -- one part is in the other, nothing is given outside of it, and inside it the two give the same
  pub marks-part : ((k : Kept) → p k ≡ true → q k ≡ true) → ((b : List Kept) (k : Kept) → p k ≡ false → f b k ≡ None) → ((b : List Kept) (k : Kept) → p k ≡ true → f (filter q b) k ≡ f (filter p b) k) →
      (ks : List Kept) → marks f (filter q ks) ≡ marks f (filter p ks)
  marks-part sub out into [] = refl
  marks-part sub out into (k ∷ ks) = go (p k) (q k) refl refl (marks-part sub out into ks)
    where
      go : (b c : Bool) → p k ≡ b → q k ≡ c → marks f (filter q ks) ≡ marks f (filter p ks) → marks f (cond c (k ∷ filter q ks) (filter q ks)) ≡ marks f (cond b (k ∷ filter p ks) (filter p ks))
      go true true e w ih = λ i. ih i ++ numbered k.number (into ks k e i)
      go true false e w ih = absurd (let z : q k ≡ true = sub k e in cc)
      go false true e w ih = ap (λ (o : Option X). marks f (filter q ks) ++ numbered k.number o) (out (filter q ks) k e) ∙ (plain-list (marks f (filter q ks)) ∙ ih)
        where
          plain-list : {Y : Type 0} (xs : List Y) → xs ++ [] ≡ xs
          plain-list [] = refl
          plain-list (x ∷ xs) = ap (λ (ys : List _). x ∷ ys) (plain-list xs)
      go false false e w ih = ih

-- ---- what a hub handles

hub_self : (i : ℕ) (ns : List Node) → has same_node (AtHub i ∷ ns) (AtHub i) ≡ true
hub_self i ns = or_left (i == i) (has same_node ns (AtHub i)) (same-number i)

serial_self : (e z : ℕ) → has same_node (AtSerial e z ∷ []) (AtSerial e z) ≡ true
serial_self e z = plain-or _ (node-self (AtSerial e z))

hub-has : (s i : ℕ) (ns : List Node) → (s == i) ≡ true → has same_node (AtHub s ∷ ns) (AtHub i) ≡ true
hub-has s i ns e = or_left (s == i) (has same_node ns (AtHub i)) e

-- acts at a site, other than its clients' and ticks, stand at the hub
pub at-hubs : (d : Deployed) (a : Act) (i : ℕ) (x : Given) (r : Answer) → is_at a i ≡ true → has same_node (nodes d a x r) (AtHub i) ≡ true
at-hubs d (act.Gather s) i x r e = hub-has s i (gear_nodes s (below d.gears)) e
at-hubs d (act.Emit s) i x r e = hub-has s i [] e
at-hubs d (act.Pulse s) i x r e = hub-has s i [] e
at-hubs d (act.Turn s) i x r e = hub-has s i (shown_nodes d s r) e
at-hubs d (act.Stamp s) i x r e = hub-has s i (shown_nodes d s r) e
at-hubs d (act.Close s) i x r e = hub-has s i [] e
at-hubs d (act.Fall s) i x r e = hub-has s i [] e
at-hubs d (act.Advance s) i x r e = hub-has s i [] e
at-hubs d (act.Bulk s g j n) i x r e = hub-has j i [] e
at-hubs d (act.BeatIn s j n) i x r e = hub-has j i [] e
at-hubs d _ i x r e = absurd (cc)

-- what handles a label stands at its node
pub handled-node : (d : Deployed) (b : List Entry) (r : Answer) (a : Act) (n : Bool) (x : Given) (y : Handling) → handling d b (entry a r n) ≡ Some y → has same_node (nodes d a x r) (link_node y.epoch y.node) ≡ true
unfolding handling
handled-node d b (ans.Emitted l) (act.Emit i) n x y e = subst (λ (y : Handling). has same_node (nodes d (act.Emit i) x (ans.Emitted l)) (link_node y.epoch y.node) ≡ true) (some_is _ y e) (hub_self i [])
handled-node d b (ans.Pulsed l) (act.Pulse i) n x y e = subst (λ (y : Handling). has same_node (nodes d (act.Pulse i) x (ans.Pulsed l)) (link_node y.epoch y.node) ≡ true) (some_is _ y e) (hub_self i [])
handled-node d b (ans.Closed f p) (act.Close i) n x y e = subst (λ (y : Handling). has same_node (nodes d (act.Close i) x (ans.Closed f p)) (link_node y.epoch y.node) ≡ true) (some_is _ y e) (hub_self i [])
handled-node d b (ans.Hopped l to) (act.Hop f u z) n x y e = subst (λ (y : Handling). has same_node (nodes d (act.Hop f u z) x (ans.Hopped l to)) (link_node y.epoch y.node) ≡ true) (some_is _ y e) (serial_self f z)
handled-node d b (ans.Shown l) (act.Turn j) n x y e = subst (λ (y : Handling). has same_node (nodes d (act.Turn j) x (ans.Shown l)) (link_node y.epoch y.node) ≡ true) (some_is _ y e) (hub_self j (shown_nodes d j (ans.Shown l)))
handled-node d b (ans.Took l) (act.Turn j) n x y e = subst (λ (y : Handling). has same_node (nodes d (act.Turn j) x (ans.Took l)) (link_node y.epoch y.node) ≡ true) (some_is _ y e) (hub_self j [])
handled-node d b _ _ n x y e = absurd (cc)

if_none : {X : Type 0} (b : Bool) (x : X) → b ≡ false → (if b then Some x else None) ≡ None
if_none true x e = absurd (cc)
if_none false x e = refl

closes_outside : (i : ℕ) (b : List Entry) (r : Answer) (a : Act) → is_at a i ≡ false → closed_epoch_of_entry i b (entry a r false) ≡ None
closes_outside i b (ans.Closed f p) a e = if_none (is_at a i) f e
closes_outside i b _ a e = refl

views_outside : (i : ℕ) (b : List Entry) (r : Answer) (a : Act) → is_at a i ≡ false → view_entry i b (entry a r false) ≡ None
views_outside i b (ans.View w) a e = if_none (is_at a i) w e
views_outside i b _ a e = refl

abbrev entered_by : Deployed → ℕ → TreeShape → NodeId → NodeId → Option Handling → Option Label
entered_by d e t u v o = elim o [ None ↦ None | Some x ↦ if ((x.epoch == e) && node_eq x.node u) && (not (came_from x v) && goes_beyond d t u v x.label) then Some x.label else None ]

module _ (d : Deployed) (i : ℕ) where
  abbrev hub : Kept → Bool
  hub = node_at d (AtHub i)

  not_at : (k : Kept) → hub k ≡ false → is_at k.act i ≡ false
  not_at k w = go (is_at k.act i) refl
    where
      go : (b : Bool) → is_at k.act i ≡ b → b ≡ false
      go true z = absurd (let y : hub k ≡ true = at-hubs d k.act i k.given k.answer z in cc)
      go false z = refl

  emission-hub : (ks : List Kept) → emission (history ks) i ≡ emission (history (filter hub ks)) i
  unfolding emission
  emission-hub ks = ap (λ (xs : List ℕ). 1 + length xs) (listed-part (closed_epoch_of_entry i) hub (λ b k e. closes_outside i (history b) k.answer k.act (not_at k e)) (λ b k e. refl) ks)

  view-hub : (ks : List Kept) → view (history ks) i ≡ view (history (filter hub ks)) i
  unfolding view
  view-hub ks = ap (λ (xs : List ℕ). 1 + length xs) (listed-part (view_entry i) hub (λ b k e. views_outside i (history b) k.answer k.act (not_at k e)) (λ b k e. refl) ks)

  pub hub-in-site : (k : Kept) → hub k ≡ true → stands_at (AtSite i) k ≡ true
  hub-in-site k e = stands-self (AtSite i) k (node-place d k.act k.given k.answer (AtHub i) e)

  -- what the hub handles is the same by the hub's part and by the site's
  hub-handling : (b : List Kept) (k : Kept) → hub k ≡ true → handling d (history (filter (stands_at (AtSite i)) b)) (entry_of k) ≡ handling d (history (filter hub b)) (entry_of k)
  hub-handling b k e =
      handling-same d (history (filter (stands_at (AtSite i)) b)) (history (filter hub b)) k.answer k.act false (λ t w.
      let same : AtSite i ≡ AtSite t = at-unique k.act t k.given (AtSite i) w (hub-in-site k e) in
      let is : i ≡ t = site-one t same in
      subst (λ (t : ℕ). (emission (history (filter (stands_at (AtSite i)) b)) t ≡ emission (history (filter hub b)) t) × (view (history (filter (stands_at (AtSite i)) b)) t ≡ view (history (filter hub b)) t)) is
      (sym (emission-part i b) ∙ emission-hub b, sym (view-part i b) ∙ view-hub b))
    where
      site-one : (t : ℕ) → AtSite i ≡ AtSite t → i ≡ t
      site-one t e = cc

  pub hub-took : (e : ℕ) (u : NodeId) (ks : List Kept) → marks (took_from d e u (Site i)) (filter (stands_at (AtSite i)) ks) ≡ marks (took_from d e u (Site i)) (filter hub ks)
  hub-took e u ks = marks-part (took_from d e u (Site i)) hub (stands_at (AtSite i)) hub-in-site out (λ b k w. ap (taken_by e u (Site i)) (hub-handling b k w)) ks
    where
      out : (b : List Kept) (k : Kept) → hub k ≡ false → taken_entry d e u (Site i) (history b) (entry_of k) ≡ None
      out b k w = go (taken_entry d e u (Site i) (history b) (entry_of k)) refl
        where
          go : (o : Option Label) → taken_entry d e u (Site i) (history b) (entry_of k) ≡ o → o ≡ None
          go None z = refl
          go (Some l) z = absurd (
              let s : hub k ≡ true = handled-node d (history b) k.answer k.act false k.given (handled_as e (Site i) (Some u) l) (taken-if d e u (Site i) (history b) (entry_of k) l z) in cc)

  pub hub-put : (e : ℕ) (t : TreeShape) (v : NodeId) (ks : List Kept) → marks (put_on d e t (Site i) v) (filter (stands_at (AtSite i)) ks) ≡ marks (put_on d e t (Site i) v) (filter hub ks)
  hub-put e t v ks = marks-part (put_on d e t (Site i) v) hub (stands_at (AtSite i)) hub-in-site out (λ b k w. ap (entered_by d e t (Site i) v) (hub-handling b k w)) ks
    where
      out : (b : List Kept) (k : Kept) → hub k ≡ false → entered_entry d e t (Site i) v (history b) (entry_of k) ≡ None
      out b k w = go (entered_entry d e t (Site i) v (history b) (entry_of k)) refl
        where
          go : (o : Option Label) → entered_entry d e t (Site i) v (history b) (entry_of k) ≡ o → o ≡ None
          go None z = refl
          go (Some l) z = absurd (
              let y : (o : Option NodeId) × (handling d (history b) (entry_of k) ≡ Some (handled_as e (Site i) o l)) × (came_from (handled_as e (Site i) o l) v ≡ false) × (goes_beyond d t (Site i) v l ≡ true) = entered-if d e t (Site i) v (history b) (entry_of k) l z in
              let s : hub k ≡ true = handled-node d (history b) k.answer k.act false k.given (handled_as e (Site i) y.0 l) y.1 in cc)

-- ---- nodes all of whose pieces are at their homes

module _ (s : Setting) where
  -- at a node that is no gear each piece is at its home
  pub is-home : (p : Node) (k : Piece) → ((i g : ℕ) → p ≡ AtGear i g → ⊥) → stands_in s.d p k ≡ true → home_at s.d p k ≡ true
  is-home p k n e = go (home_at s.d p k) refl
    where
      go : (b : Bool) → home_at s.d p k ≡ b → b ≡ true
      go true w = refl
      go false w = let b : IsBeside p k.act = beside s.d k.act (given_of k.handed) k.answer p e w in absurd (n b.site b.gear b.is)

  -- so its list is the merged list's part
  pub home-view : (p : Node) (later ks : List Piece) → s.all ≡ later ++ ks → ((i g : ℕ) → p ≡ AtGear i g → ⊥) → plains (part s p ks) ≡ filter (node_at s.d p) (plains ks)
  home-view p later [] w n = refl
  home-view p later (k ∷ rest) w n = go (stands_in s.d p k) refl (home-view p (later ++ k ∷ []) rest (w ∙ join-one later k rest) n)
    where
      go : (b : Bool) → stands_in s.d p k ≡ b → plains (part s p rest) ≡ filter (node_at s.d p) (plains rest) → plains (part s p (k ∷ rest)) ≡ filter (node_at s.d p) (plains (k ∷ rest))
      go true e ih =
          ap plains (view-takes s p k rest e) ∙
          ((λ i. plain ((seen-copy s p k (here s later rest k w) e).home (is-home p k n e) i) ∷ ih i) ∙ sym (filter-takes (node_at s.d p) (plain k) (plains rest) e))
      go false e ih = ap plains (view-leaves s p k rest e) ∙ (ih ∙ sym (filter-leaves (node_at s.d p) (plain k) (plains rest) e))

  -- a serializer's list, or a session's, is the part at its place
  pub serial-stands : (f z : ℕ) (k : Piece) → In s.all k → node_at s.d (AtSerial f z) (plain k) ≡ stands_at (AtSerializer f z) (plain k)
  serial-stands f z k i = go (node_at s.d (AtSerial f z) (plain k)) (stands_at (AtSerializer f z) (plain k)) refl refl
    where
      serial-is : (p : Node) → over p ≡ AtSerializer f z → p ≡ AtSerial f z
      serial-is (AtSerial g y) e = cc
      serial-is _ e = absurd (cc)

      go : (b c : Bool) → node_at s.d (AtSerial f z) (plain k) ≡ b → stands_at (AtSerializer f z) (plain k) ≡ c → b ≡ c
      go true true e w = refl
      go false false e w = refl
      go true false e w = absurd (let y : stands_at (AtSerializer f z) (plain k) ≡ true = stands-self (AtSerializer f z) (plain k) (node-place s.d k.act (given_of k.handed) k.answer (AtSerial f z) e) in cc)
      go false true e w = absurd (
          let p : (p : Node) × In (s.lists p) k × (home_at s.d p k ≡ true) = s.merge.whole k i in
          let o : over p.0 ≡ AtSerializer f z = stands-is (AtSerializer f z) (over p.0) (plain k) (home-place s.d k.act (given_of k.handed) k.answer p.0 p.2) w in
          let h : home_at s.d (AtSerial f z) k ≡ true = subst (λ (p : Node). home_at s.d p k ≡ true) (serial-is p.0 o) p.2 in
          let y : node_at s.d (AtSerial f z) (plain k) ≡ true = first-has (AtSerial f z) (nodes s.d k.act (given_of k.handed) k.answer) h in cc)

  filter-same : (p q : Kept → Bool) (later ks : List Piece) → s.all ≡ later ++ ks → ((k : Piece) → In s.all k → p (plain k) ≡ q (plain k)) → filter p (plains ks) ≡ filter q (plains ks)
  filter-same p q later [] w f = refl
  filter-same p q later (k ∷ rest) w f = λ i. cond (f k (here s later rest k w) i) (plain k ∷ filter-same p q (later ++ k ∷ []) rest (w ∙ join-one later k rest) f i) (filter-same p q (later ++ k ∷ []) rest (w ∙ join-one later k rest) f i)

  serial-view : (f z : ℕ) (later ks : List Piece) → s.all ≡ later ++ ks → plains (part s (AtSerial f z) ks) ≡ filter (stands_at (AtSerializer f z)) (plains ks)
  serial-view f z later ks w =
      home-view (AtSerial f z) later ks w (λ i g e. absurd (cc)) ∙ filter-same (node_at s.d (AtSerial f z)) (stands_at (AtSerializer f z)) later ks w (serial-stands f z)

  -- ---- links

  abbrev pub site_lists : Place → List Kept
  site_lists p = filter (stands_at p) (plains s.all)

  took-same : (e : ℕ) (u v : NodeId) → marks (took_from s.d e u v) (plains (s.lists (link_node e v))) ≡ marks (took_from s.d e u v) (site_lists (node_place e v))
  took-same e u (Site i) =
      ap (λ (ks : List Piece). marks (took_from s.d e u (Site i)) (plains ks)) (view-list s (AtHub i)) ∙
      (ap (λ (ks : List Kept). marks (took_from s.d e u (Site i)) ks) (home-view (AtHub i) [] s.all refl (λ t g e. absurd (cc))) ∙ sym (hub-took s.d i e u (plains s.all)))
  took-same e u (Serializer z) =
      ap (λ (ks : List Piece). marks (took_from s.d e u (Serializer z)) (plains ks)) (view-list s (AtSerial e z)) ∙
      ap (λ (ks : List Kept). marks (took_from s.d e u (Serializer z)) ks) (serial-view e z [] s.all refl)

  put-same : (e : ℕ) (t : TreeShape) (u v : NodeId) → marks (put_on s.d e t u v) (plains (s.lists (link_node e u))) ≡ marks (put_on s.d e t u v) (site_lists (node_place e u))
  put-same e t (Site i) v =
      ap (λ (ks : List Piece). marks (put_on s.d e t (Site i) v) (plains ks)) (view-list s (AtHub i)) ∙
      (ap (λ (ks : List Kept). marks (put_on s.d e t (Site i) v) ks) (home-view (AtHub i) [] s.all refl (λ t g e. absurd (cc))) ∙ sym (hub-put s.d i e t v (plains s.all)))
  put-same e t (Serializer z) v =
      ap (λ (ks : List Piece). marks (put_on s.d e t (Serializer z) v) (plains ks)) (view-list s (AtSerial e z)) ∙
      ap (λ (ks : List Kept). marks (put_on s.d e t (Serializer z) v) ks) (serial-view e z [] s.all refl)

  links-fit : (e : ℕ) (t : TreeShape) (u v : NodeId) → tree_of s.d e ≡ Some t → is_edge t u v ≡ true →
      IsHanded (marks (took_from s.d e u v) (site_lists (node_place e v))) (marks (put_on s.d e t u v) (site_lists (node_place e u)))
  links-fit e t u v tree edge =
      subst (λ (xs : List (ℕ × Label)). IsHanded xs (marks (put_on s.d e t u v) (site_lists (node_place e u)))) (took-same e u v)
      (subst (λ (ys : List (ℕ × Label)). IsHanded (marks (took_from s.d e u v) (plains (s.lists (link_node e v)))) ys) (put-same e t u v) (s.fit.links e t u v tree edge))

  -- ---- each entry

  -- no entry stands twice
  plain-twin : (later rest : List Piece) (k : Piece) → s.all ≡ later ++ k ∷ rest → In (plains rest) (plain k) → ⊥
  plain-twin later rest k w i =
      let c : Comes rest (plain k) = from-plains rest (plain k) i in
      let ik : In s.all k = here s later rest k w in
      let ix : In s.all c.piece = subst (λ (ks : List Piece). In ks c.piece) (sym w) (In-right later (k ∷ rest) c.piece (inr c.there)) in
      let p : (p : Node) × In (s.lists p) k × (home_at s.d p k ≡ true) = s.merge.whole k ik in
      let h : home_at s.d p.0 c.piece ≡ true = subst (λ (y : Kept). is_first p.0 (nodes s.d y.act y.given y.answer) ≡ true) (sym c.is) p.2 in
      let same : c.piece ≡ k = one-home s p.0 c.piece k ix ik h p.2 (ap (λ (y : Kept). y.number) c.is) in
      no-copy s later rest k w (subst (λ (z : Piece). In rest z) same c.there)

  single-fit : (q : Kept → Bool) (later ks : List Piece) → s.all ≡ later ++ ks → Distinct (filter q (plains ks))
  single-fit q later [] w = tt
  single-fit q later (k ∷ rest) w = go (q (plain k)) (single-fit q (later ++ k ∷ []) rest (w ∙ join-one later k rest))
    where
      go : (b : Bool) → Distinct (filter q (plains rest)) → Distinct (cond b (plain k ∷ filter q (plains rest)) (filter q (plains rest)))
      go true r = (r, λ i. plain-twin later rest k w (In-filter q (plains rest) (plain k) i).0)
      go false r = r

  -- an entry of a place's list comes from a piece at its home
  pub record IsPieceOf (p : Place) (y : Kept) : Type 0 where
    pub piece : Piece
    pub there : In s.all piece
    pub is : plain piece ≡ y
    pub home : Node
    pub kept : In (s.lists home) piece
    pub first : home_at s.d home piece ≡ true
    pub place : over home ≡ p

  pub piece-of : (p : Place) (y : Kept) → In (site_lists p) y → IsPieceOf p y
  piece-of p y i =
      let f : In (plains s.all) y × (stands_at p y ≡ true) = In-filter (stands_at p) (plains s.all) y i in
      let c : Comes s.all y = from-plains s.all y f.0 in
      let h : (q : Node) × In (s.lists q) c.piece × (home_at s.d q c.piece ≡ true) = s.merge.whole c.piece c.there in
      record {
        piece = c.piece;
        there = c.there;
        is = c.is;
        home = h.0;
        kept = h.1;
        first = h.2;
        place = stands-is p (over h.0) (plain c.piece) (home-place s.d c.piece.act (given_of c.piece.handed) c.piece.answer h.0 h.2) (subst (λ (z : Kept). stands_at p z ≡ true) (sym c.is) f.1);
      }

  placed-fit : (p : Place) (y : Kept) → In (site_lists p) y → places y.act y.given ≡ p ∷ []
  placed-fit p y i =
      let c : IsPieceOf p y = piece-of p y i in
      subst (λ (z : Kept). places z.act z.given ≡ p ∷ []) c.is (home-place s.d c.piece.act (given_of c.piece.handed) c.piece.answer c.home c.first ∙ ap (λ (q : Place). q ∷ []) c.place)

  ranges-fit : (p : Place) (y : Kept) → In (site_lists p) y → InRange s.d y.act
  ranges-fit p y i = let c : IsPieceOf p y = piece-of p y i in subst (λ (z : Kept). InRange s.d z.act) c.is (s.fit.ranges c.home c.piece c.kept)

  standing-fit : (p : Place) (y : Kept) → In (site_lists p) y → stands y.answer ≡ true
  standing-fit p y i = let c : IsPieceOf p y = piece-of p y i in subst (λ (z : Kept). stands z.answer ≡ true) c.is (s.fit.standing c.home c.piece c.kept)

  -- what holds of each entry at a place
  each-fit : (P : List Kept → Kept → Type 0) (q : Kept → Bool) → ((later rest : List Piece) (k : Piece) → s.all ≡ later ++ k ∷ rest → q (plain k) ≡ true → P (filter q (plains rest)) (plain k)) →
      (later ks : List Piece) → s.all ≡ later ++ ks → Each P (filter q (plains ks))
  each-fit P q f later [] w = tt
  each-fit P q f later (k ∷ rest) w = go (q (plain k)) refl (each-fit P q f (later ++ k ∷ []) rest (w ∙ join-one later k rest))
    where
      go : (b : Bool) → q (plain k) ≡ b → Each P (filter q (plains rest)) → Each P (cond b (plain k ∷ filter q (plains rest)) (filter q (plains rest)))
      go true e r = (r, f later rest k w e)
      go false e r = r

  -- ---- answers

  module _ (later rest : List Piece) (k : Piece) (w : s.all ≡ later ++ k ∷ rest) where
    home-here : (p : Place) → stands_at p (plain k) ≡ true → (q : Node) × (home_at s.d q k ≡ true) × (over q ≡ p)
    home-here p e =
        let h : (q : Node) × In (s.lists q) k × (home_at s.d q k ≡ true) = s.merge.whole k (here s later rest k w) in
        (h.0, h.2, stands-is p (over h.0) (plain k) (home-place s.d k.act (given_of k.handed) k.answer h.0 h.2) e)

    answer-home : (q : Node) → home_at s.d q k ≡ true → IsHomeAnswer s.d q (part s q rest) k
    answer-home q e = home-piece-at s (AnswersAtHome s.d s.lists q) q later rest k w e (s.fit.answers q) e

    serial-answer : (f z : ℕ) (q : Node) → over q ≡ AtSerializer f z → IsHomeAnswer s.d q (part s q rest) k →
        IsSerialAnswer s.d f z (dead_after f z (filter (stands_at (AtSerializer f z)) (plains rest))) k.act (given_of k.handed) k.answer
    serial-answer f z (AtSerial g y) e a =
        let one : (g ≡ f) × (y ≡ z) = (cc, cc) in
        let b : IsSerialAnswer s.d f z (dead_after f z (plains (part s (AtSerial f z) rest))) k.act (given_of k.handed) k.answer =
        subst (λ (g : ℕ). IsSerialAnswer s.d g z (dead_after g z (plains (part s (AtSerial g z) rest))) k.act (given_of k.handed) k.answer) one.0
        (subst (λ (y : ℕ). IsSerialAnswer s.d g y (dead_after g y (plains (part s (AtSerial g y) rest))) k.act (given_of k.handed) k.answer) one.1 a) in
        subst (λ (ks : List Kept). IsSerialAnswer s.d f z (dead_after f z ks) k.act (given_of k.handed) k.answer) (serial-view f z (later ++ k ∷ []) rest (w ∙ join-one later k rest)) b
    serial-answer f z _ e a = absurd (cc)

    session-answer : (c : ℕ) (q : Node) → over q ≡ InSession c → IsHomeAnswer s.d q (part s q rest) k → IsSessionAnswer k.act (given_of k.handed) k.answer
    session-answer c (Alone b) e a = a
    session-answer c _ e a = absurd (cc)

    answer-at : (p : Place) → stands_at p (plain k) ≡ true → IsAnswerAt s.d p (filter (stands_at p) (plains rest)) (plain k)
    answer-at (AtSite i) e =
        let t : SiteSteps s.d i k.act (given_of k.handed) k.answer (hub_of s i rest) (hub_of s i (k ∷ rest)) (gears_of s i rest) (gears_of s i (k ∷ rest)) = site-steps s later rest k w i e in
        (t.input, t.handed, t.answer ∙ (ap (λ (y : SiteState). site_answer s.d i y t.input) (sym (assembled s (later ++ k ∷ []) rest (w ∙ join-one later k rest) i)) ∙ kept-answer s.d i (site_after s.d i (site_part s i rest)) t.input))
    answer-at (AtSerializer f z) e = let h : (q : Node) × (home_at s.d q k ≡ true) × (over q ≡ AtSerializer f z) = home-here (AtSerializer f z) e in serial-answer f z h.0 h.2 (answer-home h.0 h.1)
    answer-at (InSession c) e = let h : (q : Node) × (home_at s.d q k ≡ true) × (over q ≡ InSession c) = home-here (InSession c) e in session-answer c h.0 h.2 (answer-home h.0 h.1)

  answers-fit : (p : Place) → Each (IsAnswerAt s.d p) (site_lists p)
  answers-fit p = each-fit (IsAnswerAt s.d p) (stands_at p) (λ later rest k w e. answer-at later rest k w p e) [] s.all refl

  -- ---- payloads

  payload-none : (g j : ℕ) (o : Option SiteInput) (r : Answer) → ((l : Label) → r ≡ ans.Wrote l → (l.point.gear == g) ≡ false) → with_input o (λ input. payload_made s.d g j input r) ≡ None
  payload-none g j None r f = refl
  payload-none g j (Some input) (ans.Wrote l) f = go (l.point.gear == g) (f l refl)
    where
      go : (b : Bool) → b ≡ false → (if b && is_target s.d l j then Some (payload_at l (values_given input)) else None) ≡ None
      go true e = absurd (cc)
      go false e = refl
  payload-none g j (Some input) _ f = refl

  plain-list : {Y : Type 0} (xs : List Y) → xs ++ [] ≡ xs
  plain-list [] = refl
  plain-list (x ∷ xs) = ap (λ (ys : List _). x ∷ ys) (plain-list xs)

  made-same : (i g j : ℕ) (later ks : List Piece) → s.all ≡ later ++ ks → marks (makes_payload s.d g j) (plains (part s (AtGear i g) ks)) ≡ marks (makes_payload s.d g j) (site_part s i ks)
  made-same i g j later [] w = refl
  made-same i g j later (k ∷ rest) w = go (stands_at (AtSite i) (plain k)) (stands_in s.d (AtGear i g) k) refl refl (made-same i g j (later ++ k ∷ []) rest (w ∙ join-one later k rest))
    where
      not-home : (t : stands_at (AtSite i) (plain k) ≡ true) → home_at s.d (AtGear i g) k ≡ false → (l : Label) → k.answer ≡ ans.Wrote l → (l.point.gear == g) ≡ false
      not-home t n l r = no (l.point.gear == g) refl
        where
          no : (b : Bool) → (l.point.gear == g) ≡ b → b ≡ false
          no true z = absurd (
              let h : home_at s.d (AtGear i l.point.gear) k ≡ true = (site-steps s later rest k w i t).wrote l r in
              let y : home_at s.d (AtGear i g) k ≡ true = subst (λ (g : ℕ). home_at s.d (AtGear i g) k ≡ true) (eqb-true l.point.gear g z) h in cc)
          no false z = refl

      same-piece : (t : stands_at (AtSite i) (plain k) ≡ true) → stands_in s.d (AtGear i g) k ≡ true → (b : Bool) → home_at s.d (AtGear i g) k ≡ b →
          (x y : List Kept) → numbered (seen s (AtGear i g) k).number (makes_payload s.d g j x (plain (seen s (AtGear i g) k))) ≡ numbered k.number (makes_payload s.d g j y (plain k))
      same-piece t e true h x y = ap (λ (z : Piece). numbered z.number (makes_payload s.d g j x (plain z))) ((seen-copy s (AtGear i g) k (here s later rest k w) e).home h)
      same-piece t e false h x y =
          let one : AreOne (seen s (AtGear i g) k) k = (seen-copy s (AtGear i g) k (here s later rest k w) e).one in
          ap (λ (o : Option Payload). numbered (seen s (AtGear i g) k).number o)
          (payload-none g j (input_of (seen s (AtGear i g) k).act (given_of (seen s (AtGear i g) k).handed)) (seen s (AtGear i g) k).answer (λ l r. not-home t h l (sym one.answer ∙ r))) ∙
          sym (ap (λ (o : Option Payload). numbered k.number o) (payload-none g j (input_of k.act (given_of k.handed)) k.answer (not-home t h)))

      first-not : stands_in s.d (AtGear i g) k ≡ false → home_at s.d (AtGear i g) k ≡ false
      first-not n = no (home_at s.d (AtGear i g) k) refl
        where
          no : (b : Bool) → home_at s.d (AtGear i g) k ≡ b → b ≡ false
          no true z = absurd (let y : stands_in s.d (AtGear i g) k ≡ true = first-has (AtGear i g) (nodes s.d k.act (given_of k.handed) k.answer) z in cc)
          no false z = refl

      go : (b c : Bool) → stands_at (AtSite i) (plain k) ≡ b → stands_in s.d (AtGear i g) k ≡ c → marks (makes_payload s.d g j) (plains (part s (AtGear i g) rest)) ≡ marks (makes_payload s.d g j) (site_part s i rest) →
          marks (makes_payload s.d g j) (plains (part s (AtGear i g) (k ∷ rest))) ≡ marks (makes_payload s.d g j) (site_part s i (k ∷ rest))
      go true true t e ih =
          ap (λ (ks : List Piece). marks (makes_payload s.d g j) (plains ks)) (view-takes s (AtGear i g) k rest e) ∙
          ((λ u. ih u ++ same-piece t e (home_at s.d (AtGear i g) k) refl (plains (part s (AtGear i g) rest)) (site_part s i rest) u) ∙
          sym (ap (λ (ks : List Kept). marks (makes_payload s.d g j) ks) (filter-takes (stands_at (AtSite i)) (plain k) (plains rest) t)))
      go true false t e ih =
          ap (λ (ks : List Piece). marks (makes_payload s.d g j) (plains ks)) (view-leaves s (AtGear i g) k rest e) ∙
          (ih ∙
          (sym (plain-list (marks (makes_payload s.d g j) (site_part s i rest))) ∙
          (sym (ap (λ (o : Option Payload). marks (makes_payload s.d g j) (site_part s i rest) ++ numbered k.number o) (payload-none g j (input_of k.act (given_of k.handed)) k.answer (not-home t (first-not e)))) ∙
          sym (ap (λ (ks : List Kept). marks (makes_payload s.d g j) ks) (filter-takes (stands_at (AtSite i)) (plain k) (plains rest) t)))))
      go false true t e ih = absurd (let y : stands_in s.d (AtGear i g) k ≡ false = not-there s later rest k w i (AtGear i g) refl t in cc)
      go false false t e ih =
          ap (λ (ks : List Piece). marks (makes_payload s.d g j) (plains ks)) (view-leaves s (AtGear i g) k rest e) ∙
          (ih ∙ sym (ap (λ (ks : List Kept). marks (makes_payload s.d g j) ks) (filter-leaves (stands_at (AtSite i)) (plain k) (plains rest) t)))

  plain-given : (y : Handed) (x : Given) → (x ≡ Nothing → ⊥) → given_of y ≡ x → y ≡ Plain x
  plain-given (Plain z) x n e = ap Plain e
  plain-given (Drains f) x n e = absurd (n (sym e))
  plain-given Drained x n e = absurd (n (sym e))
  plain-given (Showing p) x n e = absurd (n (sym e))

  -- what a hub is asked for is what its site is asked for
  asked-same : (d : Deployed) (j : ℕ) (t : SiteState) (h : HubState) (gs : ℕ → GearNode) (i g : ℕ) (o : Option ℕ) → kept_site d j t ≡ whole d j h gs → hub_asked d j h i g o ≡ asked t i g o
  asked-same d j t h gs i g None e = ap (λ (t : SiteState). front_of t i g) (sym e)
  asked-same d j t h gs i g (Some n) e = refl

  bulk-home : (k : Piece) (i g j : ℕ) (o : Option ℕ) → k.act ≡ act.Bulk i g j o → home_at s.d (AtHub j) k ≡ true
  bulk-home k i g j o e = ap (λ (a : Act). is_first (AtHub j) (nodes s.d a (given_of k.handed) k.answer)) e ∙ same-number j

  beat-home : (k : Piece) (i j n : ℕ) → k.act ≡ act.BeatIn i j n → home_at s.d (AtHub j) k ≡ true
  beat-home k i j n e = ap (λ (a : Act). is_first (AtHub j) (nodes s.d a (given_of k.handed) k.answer)) e ∙ same-number j

  payloads-fit : (j : ℕ) → Each (PayloadsHanded s.d site_lists j) (site_lists (AtSite j))
  payloads-fit j = each-fit (PayloadsHanded s.d site_lists j) (stands_at (AtSite j)) at [] s.all refl
    where
      at : (later rest : List Piece) (k : Piece) → s.all ≡ later ++ k ∷ rest → stands_at (AtSite j) (plain k) ≡ true → PayloadsHanded s.d site_lists j (site_part s j rest) (plain k)
      at later rest k w e = λ i g n o p is given.
          let fits : PayloadsFit s.d s.lists j (part s (AtHub j) rest) k = home-piece-at s (PayloadsFit s.d s.lists j) (AtHub j) later rest k w (bulk-home k i g j o is) (s.fit.payloads j) in
          let y : (n ≡ hub_asked s.d j (hub_of s j rest) i g o) × IsMade (marks (makes_payload s.d g j) (plains (s.lists (AtGear i g)))) n p k.number = fits i g n o p is (plain-given k.handed (OfPayload n p) (λ z. absurd (cc)) given) in (
            y.0 ∙ asked-same s.d j (site_after s.d j (site_part s j rest)) (hub_of s j rest) (gears_of s j rest) i g o (assembled s (later ++ k ∷ []) rest (w ∙ join-one later k rest) j),
            subst (λ (xs : List (ℕ × Payload)). IsMade xs n p k.number) (ap (λ (ks : List Piece). marks (makes_payload s.d g j) (plains ks)) (view-list s (AtGear i g)) ∙ made-same i g j [] s.all refl) y.1,
          )

  -- ---- beats

  beat-none : (i j : ℕ) (t : SiteState) (o : Option SiteInput) (r : Answer) → is_beat r ≡ false → with_input o (λ input. beat_made s.d i t j input r) ≡ None
  beat-none i j t None r e = refl
  beat-none i j t (Some input) (ans.Beat n) e = absurd (cc)
  beat-none i j t (Some input) _ e = refl

  beat-same : (i j : ℕ) (t : SiteState) (h : HubState) (gs : ℕ → GearNode) (o : Option SiteInput) (r : Answer) → kept_site s.d i t ≡ whole s.d i h gs →
      with_input o (λ input. beat_made s.d i (hub_alone s.d i h) j input r) ≡ with_input o (λ input. beat_made s.d i t j input r)
  beat-same i j t h gs None r e = refl
  beat-same i j t h gs (Some input) r e = ap (λ (t : SiteState). beat_made s.d i t j input r) (sym e)

  beats-same : (i j : ℕ) (later ks : List Piece) → s.all ≡ later ++ ks → piece_marks (hub_beat s.d i j) (part s (AtHub i) ks) ≡ marks (makes_beat s.d i j) (site_part s i ks)
  beats-same i j later [] w = refl
  beats-same i j later (k ∷ rest) w = go (stands_at (AtSite i) (plain k)) (stands_in s.d (AtHub i) k) refl refl (beats-same i j (later ++ k ∷ []) rest (w ∙ join-one later k rest))
    where
      here-same : stands_in s.d (AtHub i) k ≡ true → numbered (seen s (AtHub i) k).number (hub_beat s.d i j (part s (AtHub i) rest) (seen s (AtHub i) k)) ≡ numbered k.number (makes_beat s.d i j (site_part s i rest) (plain k))
      here-same e =
          ap (λ (z : Piece). numbered z.number (hub_beat s.d i j (part s (AtHub i) rest) z)) ((seen-copy s (AtHub i) k (here s later rest k w) e).home (is-home (AtHub i) k (λ t m z. absurd (cc)) e)) ∙
          ap (λ (o : Option BeatNote). numbered k.number o)
          (beat-same i j (site_after s.d i (site_part s i rest)) (hub_of s i rest) (gears_of s i rest) (input_of k.act (given_of k.handed)) k.answer (assembled s (later ++ k ∷ []) rest (w ∙ join-one later k rest) i))

      go : (b c : Bool) → stands_at (AtSite i) (plain k) ≡ b → stands_in s.d (AtHub i) k ≡ c → piece_marks (hub_beat s.d i j) (part s (AtHub i) rest) ≡ marks (makes_beat s.d i j) (site_part s i rest) →
          piece_marks (hub_beat s.d i j) (part s (AtHub i) (k ∷ rest)) ≡ marks (makes_beat s.d i j) (site_part s i (k ∷ rest))
      go true true t e ih =
          ap (λ (ks : List Piece). piece_marks (hub_beat s.d i j) ks) (view-takes s (AtHub i) k rest e) ∙
          ((λ u. ih u ++ here-same e u) ∙ sym (ap (λ (ks : List Kept). marks (makes_beat s.d i j) ks) (filter-takes (stands_at (AtSite i)) (plain k) (plains rest) t)))
      go true false t e ih =
          ap (λ (ks : List Piece). piece_marks (hub_beat s.d i j) ks) (view-leaves s (AtHub i) k rest e) ∙
          (ih ∙
          (sym (plain-list (marks (makes_beat s.d i j) (site_part s i rest))) ∙
          (sym (ap (λ (o : Option BeatNote). marks (makes_beat s.d i j) (site_part s i rest) ++ numbered k.number o) (beat-none i j (site_after s.d i (site_part s i rest)) (input_of k.act (given_of k.handed)) k.answer ((site-steps s later rest k w i t).beat e))) ∙
          sym (ap (λ (ks : List Kept). marks (makes_beat s.d i j) ks) (filter-takes (stands_at (AtSite i)) (plain k) (plains rest) t)))))
      go false true t e ih = absurd (let y : stands_in s.d (AtHub i) k ≡ false = not-there s later rest k w i (AtHub i) refl t in cc)
      go false false t e ih =
          ap (λ (ks : List Piece). piece_marks (hub_beat s.d i j) ks) (view-leaves s (AtHub i) k rest e) ∙
          (ih ∙ sym (ap (λ (ks : List Kept). marks (makes_beat s.d i j) ks) (filter-leaves (stands_at (AtSite i)) (plain k) (plains rest) t)))

  beats-fit : (j : ℕ) → Each (BeatsHanded s.d site_lists j) (site_lists (AtSite j))
  beats-fit j = each-fit (BeatsHanded s.d site_lists j) (stands_at (AtSite j)) at [] s.all refl
    where
      at : (later rest : List Piece) (k : Piece) → s.all ≡ later ++ k ∷ rest → stands_at (AtSite j) (plain k) ≡ true → BeatsHanded s.d site_lists j (site_part s j rest) (plain k)
      at later rest k w e = λ i n note is given.
          let fits : BeatsFit s.d s.lists j (part s (AtHub j) rest) k = home-piece-at s (BeatsFit s.d s.lists j) (AtHub j) later rest k w (beat-home k i j n is) (s.fit.beats j) in
          let y : IsMade (piece_marks (hub_beat s.d i j) (s.lists (AtHub i))) n note k.number = fits i n note is (plain-given k.handed (OfBeat note) (λ z. absurd (cc)) given) in
          subst (λ (xs : List (ℕ × BeatNote)). IsMade xs n note k.number) (ap (λ (ks : List Piece). piece_marks (hub_beat s.d i j) ks) (view-list s (AtHub i)) ∙ beats-same i j [] s.all refl) y

  -- ---- sessions

  abbrev pub site_sessions : Session → List Kept
  site_sessions t = plains (s.sessions t)

  in-place : (p : Node) (k : Piece) → In s.all k → home_at s.d p k ≡ true → In (site_lists (over p)) (plain k)
  in-place p k i e = into-filter (stands_at (over p)) (plains s.all) (plain k) (in-plains s.all k i) (stands-self (over p) (plain k) (home-place s.d k.act (given_of k.handed) k.answer p e))

  kept-fit : (t : Session) → IsSessionOf s.d site_lists t (site_sessions t)
  kept-fit t = record {
    rising = plains-rise (s.sessions t) (s.fit.kept t).rising;
    only = λ y i.
        let c : Comes (s.sessions t) y = from-plains (s.sessions t) y i in
        let o : (session_of c.piece.act ≡ Some t) × ((p : Node) × In (s.lists p) c.piece × (home_at s.d p c.piece ≡ true)) = (s.fit.kept t).only c.piece c.there in
        subst (λ (z : Kept). (session_of z.act ≡ Some t) × ((p : Place) × In (site_lists p) z)) c.is (o.0, (over o.1.0, in-place o.1.0 c.piece (in-all s o.1.0 c.piece o.1.1 o.1.2) o.1.2));
    whole = λ p y i e.
        let c : IsPieceOf p y = piece-of p y i in
        subst (λ (z : Kept). In (site_sessions t) z) c.is (in-plains (s.sessions t) c.piece ((s.fit.kept t).whole c.home c.piece c.kept c.first (ap (λ (z : Kept). session_of z.act) c.is ∙ e)));
  }

  known-fit : (c : ℕ) (ks : List Piece) → EachOf (KnowsClient s.d s.lists c) ks → Each (IsKnown s.d site_lists c) (plains ks)
  known-fit c [] e = tt
  known-fit c (k ∷ ks) e = (known-fit c ks e.0, ap given_of e.1)

  -- ---- all of it

  pub site-fit : LooseFit s.d site_lists site_sessions
  site-fit = record {
    single = λ p. single-fit (stands_at p) [] s.all refl;
    placed = placed-fit;
    ranges = ranges-fit;
    answers = answers-fit;
    links = links-fit;
    payloads = payloads-fit;
    beats = beats-fit;
    kept = kept-fit;
    known = λ c. known-fit c (s.sessions (Client c)) (s.fit.known c);
    standing = standing-fit;
  }

  pub site-merge : IsMerge site_lists (plains s.all)
  site-merge = record {
    ordered = s.merge.ordered;
    whole = λ y i.
        let c : Comes s.all y = from-plains s.all y i in
        let h : (q : Node) × In (s.lists q) c.piece × (home_at s.d q c.piece ≡ true) = s.merge.whole c.piece c.there in
        subst (λ (z : Kept). (p : Place) × In (site_lists p) z) c.is (over h.0, in-place h.0 c.piece c.there h.2);
    parts = λ p. refl;
  }
