-- The merged list of a run, split among hubs, gears, serializers and sessions: the split lists fit.
use Rattle.std.specs.Prelude.{◌≡◌, ◌⊎◌, ◌<◌, ◌≤◌, ◌+◌, ℕ, suc, Bool, true, false, ◌&&◌, ◌==◌, List, [], ◌∷◌, ◌++◌, length, filter, cond, Option, Some, None, if◌then◌else◌, refl}
use Rattle.std.proofs.Common.{sym, subst, ap, ◌∙◌, arith, inl, inr}
use Rattle.std.proofs.lemmas.Bool.{eqb-true}
use Rattle.sat_label.proofs.Members.{In-right, In-filter, into-filter}
use Rattle.sat_label.specs.Members.{In}
use Rattle.sat_label.specs.Words.{has}
use Rattle.sat_label.specs.declared.label.Label.{Label}
use Rattle.sat_label.specs.declared.node.NodeId.{NodeId}
use Rattle.sat_label.specs.declared.node.NodeId.TheVariants.{Site, Serializer}
use Rattle.sat_tree.specs.Shape.{TreeShape}
use Rattle.sat_tree.specs.Cut.{is_edge}
use Rattle.sat_act.specs.declared.act.Act.{Act}
use Rattle.sat_act.specs.declared.act.Act.TheVariants as act
use Rattle.sat_act.specs.declared.answer.Answer.{Answer}
use Rattle.sat_act.specs.declared.answer.Answer.TheVariants as ans
use Rattle.sat_act.specs.declared.entry.Entry.{Entry}
use Rattle.sat_act.specs.Deployed.{Deployed}
use Rattle.sat_act.specs.Answers.{InRange}
use Rattle.sat_act.specs.Parts.{BeatNote, tree_of, seat, is_target}
use Rattle.sat_bulk.specs.Payloads.{Payload}
use Rattle.sat_model.specs.State.{SiteState}
use Rattle.sat_model.specs.Input.{SiteInput}
use Rattle.sat_model.specs.Look.{front_of}
use Rattle.sat_model.specs.Next.{payload_at, values_given}
use Rattle.sat_model.specs.Replay.{carrying}
use Rattle.sat_stitch.specs.Kept.{Given, Nothing, OfPayload, OfBeat, OfClient, Kept, history, Each, Rising, Ordered, numbered, marks}
use Rattle.sat_stitch.specs.Places.{Place, AtSite, AtSerializer, InSession, stands_at, node_place, Session, Client, session_of, in_session, is_session}
use Rattle.sat_stitch.specs.Nodes.{site_after, dead_after, input_of, IsSerialAnswer, IsSessionAnswer, IsAnswerAt, stands, put_on, took_from, payload_made, beat_made, with_input, makes_payload, makes_beat, asked}
use Rattle.sat_stitch.specs.Fit.{IsHanded, IsMade, PayloadsHanded, BeatsHanded, IsKnown, Fit, IsMerge}
use Rattle.sat_stitch.proofs.Lists.{filter-takes, filter-leaves, filter-at, each-at}
use Rattle.sat_stitch.proofs.Tables.{stands-self, stands-is, in-session-is, is-in-session}
use Rattle.sat_joint.specs.Pieces.{Handed, Plain, Piece, number_of, given_of, plain, plains, Rises, piece_marks, EachOf}
use Rattle.sat_joint.specs.Table.{Node, AtHub, AtGear, AtSerial, Alone, same_node, over, nodes, is_first, node_at, home_at, link_node}
use Rattle.sat_joint.specs.Machines.{HubState, GearNode, kept_site, whole, hub_alone, is_gather, IsHubAnswer, IsGearAnswer, IsHomeAnswer, hub_beat, hub_asked}
use Rattle.sat_joint.specs.Joint.{Hands, Passes, HandsOver, StandsIn, IsJoined, AllJoin, HasHome, AnswersAtHome, PayloadsFit, BeatsFit, KnowsClient, IsSessionList, JointFit, IsJointMerge}
use Rattle.sat_joint.specs.Split.{hands_at, split_lists, home_pieces, piece_sessions}
use Rattle.sat_joint.proofs.Nodes.{first-has, home-one, home-place, node-place, IsBeside, beside, home_by, home-over, shared-home}
use Rattle.sat_joint.proofs.Pieces.{join-one, rises-filter}
use Rattle.sat_joint.specs.Steps.{is_beat}
use Rattle.sat_joint.proofs.Fits.{hub-took, hub-put}
use Rattle.sat_joint.proofs.Converse.{Sited, HasPlace, place-of, split, piece, home_piece, first_at, hub_of, gears_of, y-given, here, plain-home, plains-home, split-takes, split-leaves, split-rises, each-split, before-all, FromEntry, from-split, from-in, home-first, piece-home, home-home, first-given, split-parts, at-first, home-plain, range-of, assembled, steps-at, reply-at, hub-answer, gear-answer, hands-there, passes-there, not-there}
use Rattle.sat_stitch.specs.Given.{given_in, kept_all, lists_of, sessions_of}
use Rattle.sat_stitch.proofs.Converse.{runs-fit}
use Rattle.sat_joint.specs.Split.{JointRunsFit}

module _ (s : Sited) where
  abbrev lists : Node → List Piece
  lists p = split_lists s.d s.all p

  abbrev sites : Place → List Kept
  sites p = filter (stands_at p) s.all

  -- ---- where pieces stand

  stands-in : (later rest : List Kept) (k : Kept) → s.all ≡ later ++ k ∷ rest → (p : Node) → node_at s.d p k ≡ true → StandsIn (lists p) (split s rest p) (piece s rest p k)
  stands-in later rest k w p e =
      let b : (xs : List Piece) × (split s s.all p ≡ xs ++ split s (k ∷ rest) p) = before-all s p later (k ∷ rest) w in
      record { later = b.0; is = b.1 ∙ ap (λ (zs : List Piece). b.0 ++ zs) (split-takes s p k rest e) }

  in-list : (later rest : List Kept) (k : Kept) → s.all ≡ later ++ k ∷ rest → (p : Node) → node_at s.d p k ≡ true → In (lists p) (piece s rest p k)
  in-list later rest k w p e =
      let t : StandsIn (lists p) (split s rest p) (piece s rest p k) = stands-in later rest k w p e in
      subst (λ (ks : List Piece). In ks (piece s rest p k)) (sym t.is) (In-right t.later (piece s rest p k ∷ split s rest p) (piece s rest p k) (inl refl))

  ranges-fit : (p : Node) (k : Piece) → In (lists p) k → InRange s.d k.act
  ranges-fit p k i = let f : FromEntry s p k s.all = from-split s p s.all k i in subst (λ (z : Piece). InRange s.d z.act) f.same (range-of s f.entry (from-in s p k s.all f))

  standing-fit : (p : Node) (k : Piece) → In (lists p) k → stands k.answer ≡ true
  standing-fit p k i =
      let f : FromEntry s p k s.all = from-split s p s.all k i in
      let h : HasPlace s f.entry = place-of s f.entry (from-in s p k s.all f) in
      subst (λ (z : Piece). stands z.answer ≡ true) f.same (s.fit.standing h.place f.entry h.there)

  placed-fit : (p : Node) (k : Piece) → In (lists p) k → (home_at s.d p k ≡ true) ⊎ HasHome s.d lists p k
  placed-fit p k i =
      let f : FromEntry s p k s.all = from-split s p s.all k i in
      subst (λ (z : Piece). (home_at s.d p z ≡ true) ⊎ HasHome s.d lists p z) f.same (go f.former f.rest f.entry f.is f.stands (first_at s p f.entry) refl)
    where
      go : (later rest : List Kept) (e : Kept) → s.all ≡ later ++ e ∷ rest → node_at s.d p e ≡ true → (b : Bool) → first_at s p e ≡ b → (home_at s.d p (piece s rest p e) ≡ true) ⊎ HasHome s.d lists p (piece s rest p e)
      go later rest e w st true z = inl (home-first s p rest e (here s later rest e w) st ∙ z)
      go later rest e w st false z =
          let there : In s.all e = here s later rest e w in
          let h : HasPlace s e = place-of s e there in
          let at : node_at s.d h.home e ≡ true = first-has h.home (nodes s.d e.act e.given e.answer) h.first in
          inr (h.home, piece s rest h.home e, in-list later rest e w h.home at, home-first s h.home rest e there at ∙ h.first, ap (λ (x : Given). has same_node (nodes s.d e.act x e.answer) p) (first-given s h.home rest e there h.first) ∙ st, record { number = refl; act = refl; answer = refl })

  -- ---- joint acts

  site-stands : (i : ℕ) (k : Kept) (p : Node) → over p ≡ AtSite i → node_at s.d p k ≡ true → stands_at (AtSite i) k ≡ true
  site-stands i k p o e = stands-self (AtSite i) k (node-place s.d k.act k.given k.answer p e ∙ ap (λ (q : Place). q ∷ []) o)

  abbrev Joins : List Kept → Kept → Node → Node → Type 0
  Joins rest k q p = IsJoined s.d lists q p (split s rest q) (piece s rest q k)

  hub-joins : (later rest : List Kept) (k : Kept) → s.all ≡ later ++ k ∷ rest → (i g : ℕ) → first_at s (AtHub i) k ≡ true → node_at s.d (AtGear i g) k ≡ true → Joins rest k (AtHub i) (AtGear i g)
  hub-joins later rest k w i g e st = record {
    piece = piece s rest (AtGear i g) k;
    former = split s rest (AtGear i g);
    there = stands-in later rest k w (AtGear i g) st;
    one = record { number = refl; act = refl; answer = refl };
    hands = subst (λ (z : Handed). Hands (hub_of s i rest) (gears_of s i rest g) g z k.answer (hands_at s.d (split s rest) (AtGear i g) k)) (sym (at-first s.d (split s rest) (AtHub i) k e))
        (hands-there s later rest k w i e (reply-at s later rest k w i (site-stands i k (AtHub i) refl (first-has (AtHub i) (nodes s.d k.act k.given k.answer) e))) g);
  }

  gear-joins : (later rest : List Kept) (k : Kept) → s.all ≡ later ++ k ∷ rest → (i h g : ℕ) → first_at s (AtGear i h) k ≡ true → node_at s.d (AtGear i g) k ≡ true → (h == g) ≡ false → Joins rest k (AtGear i h) (AtGear i g)
  gear-joins later rest k w i h g e st n = record {
    piece = piece s rest (AtGear i g) k;
    former = split s rest (AtGear i g);
    there = stands-in later rest k w (AtGear i g) st;
    one = record { number = refl; act = refl; answer = refl };
    hands = subst (λ (z : Handed). Passes k.act z k.answer (hands_at s.d (split s rest) (AtGear i g) k)) (sym (at-first s.d (split s rest) (AtGear i h) k e)) (passes-there s later rest k w i h g e n);
  }

  joins-at : (later rest : List Kept) (k : Kept) → s.all ≡ later ++ k ∷ rest → (q : Node) (i g : ℕ) → over q ≡ AtSite i → first_at s q k ≡ true → node_at s.d (AtGear i g) k ≡ true → first_at s (AtGear i g) k ≡ false → Joins rest k q (AtGear i g)
  joins-at later rest k w (AtHub t) i g o e st n = subst (λ (t : ℕ). Joins rest k (AtHub t) (AtGear i g)) (sym is) (hub-joins later rest k w i g (subst (λ (t : ℕ). first_at s (AtHub t) k ≡ true) is e) st)
    where
      site-is : (t : ℕ) → AtSite t ≡ AtSite i → t ≡ i
      site-is t e = cc

      is : t ≡ i
      is = site-is t o
  joins-at later rest k w (AtGear t h) i g o e st n = subst (λ (t : ℕ). Joins rest k (AtGear t h) (AtGear i g)) (sym is) (gear-joins later rest k w i h g (subst (λ (t : ℕ). first_at s (AtGear t h) k ≡ true) is e) st (apart (h == g) refl))
    where
      site-is : (t : ℕ) → AtSite t ≡ AtSite i → t ≡ i
      site-is t e = cc

      is : t ≡ i
      is = site-is t o

      apart : (b : Bool) → (h == g) ≡ b → b ≡ false
      apart true z = absurd (
          let here : first_at s (AtGear i h) k ≡ true = subst (λ (t : ℕ). first_at s (AtGear t h) k ≡ true) is e in
          let y : first_at s (AtGear i g) k ≡ true = subst (λ (g : ℕ). first_at s (AtGear i g) k ≡ true) (eqb-true h g z) here in cc)
      apart false z = refl
  joins-at later rest k w (AtSerial f z) i g o e st n = absurd (cc)
  joins-at later rest k w (Alone c) i g o e st n = absurd (cc)

  joined-fit : (q : Node) → EachOf (AllJoin s.d lists q) (lists q)
  joined-fit q = each-split s (AllJoin s.d lists q) q at [] s.all refl
    where
      at : (later rest : List Kept) (k : Kept) → s.all ≡ later ++ k ∷ rest → node_at s.d q k ≡ true → AllJoin s.d lists q (split s rest q) (piece s rest q k)
      at later rest k w e = λ h p st n.
          let member : In s.all k = here s later rest k w in
          let first : first_at s q k ≡ true = sym (home-first s q rest k member e) ∙ h in
          let bare : given_of (hands_at s.d (split s rest) q k) ≡ k.given = first-given s q rest k member first in
          let stands : node_at s.d p k ≡ true = sym (ap (λ (x : Given). has same_node (nodes s.d k.act x k.answer) p) bare) ∙ st in
          let not_home : first_at s p k ≡ false = sym (ap (λ (x : Given). is_first p (nodes s.d k.act x k.answer)) bare) ∙ n in
          let b : IsBeside p k.act = beside s.d k.act k.given k.answer p stands not_home in
          let there : node_at s.d (AtGear b.site b.gear) k ≡ true = subst (λ (p : Node). node_at s.d p k ≡ true) b.is stands in
          let home : first_at s (home_by s.d k.act b.site) k ≡ true = shared-home s.d k.act b.site b.gear k.given k.answer b.joint there in
          let site : over q ≡ AtSite b.site = ap over (sym (home-one (nodes s.d k.act k.given k.answer) (home_by s.d k.act b.site) q home first)) ∙ home-over s.d k.act b.site in
          subst (λ (p : Node). Joins rest k q p) (sym b.is) (joins-at later rest k w q b.site b.gear site first there (subst (λ (p : Node). first_at s p k ≡ false) b.is not_home))

  -- ---- nodes that are no gears

  no-gear-first : (p : Node) (k : Kept) → ((i g : ℕ) → p ≡ AtGear i g → ⊥) → node_at s.d p k ≡ true → first_at s p k ≡ true
  no-gear-first p k n e = go (first_at s p k) refl
    where
      go : (b : Bool) → first_at s p k ≡ b → b ≡ true
      go true w = refl
      go false w = let b : IsBeside p k.act = beside s.d k.act k.given k.answer p e w in absurd (n b.site b.gear b.is)

  plain-split : (p : Node) (later ks : List Kept) → s.all ≡ later ++ ks → ((i g : ℕ) → p ≡ AtGear i g → ⊥) → plains (split s ks p) ≡ filter (node_at s.d p) ks
  plain-split p later [] w n = refl
  plain-split p later (k ∷ rest) w n = go (node_at s.d p k) refl (plain-split p (later ++ k ∷ []) rest (w ∙ join-one later k rest) n)
    where
      go : (b : Bool) → node_at s.d p k ≡ b → plains (split s rest p) ≡ filter (node_at s.d p) rest → plains (split s (k ∷ rest) p) ≡ filter (node_at s.d p) (k ∷ rest)
      go true e ih =
          ap plains (split-takes s p k rest e) ∙
          ((λ t. (ap plain (piece-home s p rest k (no-gear-first p k n e)) ∙ plain-home s rest k (here s later rest k w)) t ∷ ih t) ∙ sym (filter-takes (node_at s.d p) k rest e))
      go false e ih = ap plains (split-leaves s p k rest e) ∙ (ih ∙ sym (filter-leaves (node_at s.d p) k rest e))

  serial-stands : (f z : ℕ) (k : Kept) → In s.all k → node_at s.d (AtSerial f z) k ≡ stands_at (AtSerializer f z) k
  serial-stands f z k i = go (node_at s.d (AtSerial f z) k) (stands_at (AtSerializer f z) k) refl refl
    where
      serial-is : (p : Node) → over p ≡ AtSerializer f z → p ≡ AtSerial f z
      serial-is (AtSerial g y) e = cc
      serial-is _ e = absurd (cc)

      go : (b c : Bool) → node_at s.d (AtSerial f z) k ≡ b → stands_at (AtSerializer f z) k ≡ c → b ≡ c
      go true true e w = refl
      go false false e w = refl
      go true false e w = absurd (let y : stands_at (AtSerializer f z) k ≡ true = stands-self (AtSerializer f z) k (node-place s.d k.act k.given k.answer (AtSerial f z) e) in cc)
      go false true e w = absurd (
          let p : HasPlace s k = place-of s k i in
          let o : over p.home ≡ AtSerializer f z = stands-is (AtSerializer f z) (over p.home) k (home-place s.d k.act k.given k.answer p.home p.first) w in
          let h : first_at s (AtSerial f z) k ≡ true = subst (λ (p : Node). first_at s p k ≡ true) (serial-is p.home o) p.first in
          let y : node_at s.d (AtSerial f z) k ≡ true = first-has (AtSerial f z) (nodes s.d k.act k.given k.answer) h in cc)

  filter-same : (p q : Kept → Bool) (later ks : List Kept) → s.all ≡ later ++ ks → ((k : Kept) → In s.all k → p k ≡ q k) → filter p ks ≡ filter q ks
  filter-same p q later [] w f = refl
  filter-same p q later (k ∷ rest) w f = λ t. cond (f k (here s later rest k w) t) (k ∷ filter-same p q (later ++ k ∷ []) rest (w ∙ join-one later k rest) f t) (filter-same p q (later ++ k ∷ []) rest (w ∙ join-one later k rest) f t)

  serial-split : (f z : ℕ) (later ks : List Kept) → s.all ≡ later ++ ks → plains (split s ks (AtSerial f z)) ≡ filter (stands_at (AtSerializer f z)) ks
  serial-split f z later ks w = plain-split (AtSerial f z) later ks w (λ i g e. absurd (cc)) ∙ filter-same (node_at s.d (AtSerial f z)) (stands_at (AtSerializer f z)) later ks w (serial-stands f z)

  -- ---- answers

  place-at : (P : List Kept → Kept → Type 0) (p : Place) (later rest : List Kept) (k : Kept) → s.all ≡ later ++ k ∷ rest → stands_at p k ≡ true → Each P (sites p) → P (filter (stands_at p) rest) k
  place-at P p later rest k w e f =
      each-at P (filter (stands_at p) later) k (filter (stands_at p) rest)
      (subst (λ (ks : List Kept). Each P ks) (ap (λ (ks : List Kept). filter (stands_at p) ks) w ∙ filter-at (stands_at p) later k rest e) f)

  answer-at : (p : Node) (later rest : List Kept) (k : Kept) → s.all ≡ later ++ k ∷ rest → first_at s p k ≡ true → IsHomeAnswer s.d p (split s rest p) (piece s rest p k)
  answer-at (AtHub i) later rest k w e =
      let st : stands_at (AtSite i) k ≡ true = site-stands i k (AtHub i) refl (first-has (AtHub i) (nodes s.d k.act k.given k.answer) e) in
      subst (λ (z : Handed). IsHubAnswer s.d i (hub_of s i rest) k.act z k.answer) (sym (at-first s.d (split s rest) (AtHub i) k e)) (hub-answer s later rest k w i e (reply-at s later rest k w i st))
  answer-at (AtGear i g) later rest k w e =
      let st : stands_at (AtSite i) k ≡ true = site-stands i k (AtGear i g) refl (first-has (AtGear i g) (nodes s.d k.act k.given k.answer) e) in
      subst (λ (z : Handed). IsGearAnswer s.d i (gears_of s i rest g) k.act z k.answer) (sym (at-first s.d (split s rest) (AtGear i g) k e)) (gear-answer s later rest k w i g e (reply-at s later rest k w i st))
  answer-at (AtSerial f z) later rest k w e =
      let st : stands_at (AtSerializer f z) k ≡ true = stands-self (AtSerializer f z) k (home-place s.d k.act k.given k.answer (AtSerial f z) e) in
      let a : IsSerialAnswer s.d f z (dead_after f z (filter (stands_at (AtSerializer f z)) rest)) k.act k.given k.answer = place-at (IsAnswerAt s.d (AtSerializer f z)) (AtSerializer f z) later rest k w st (s.fit.answers (AtSerializer f z)) in
      subst (λ (ks : List Kept). IsSerialAnswer s.d f z (dead_after f z ks) k.act (given_of (hands_at s.d (split s rest) (AtSerial f z) k)) k.answer) (sym (serial-split f z (later ++ k ∷ []) rest (w ∙ join-one later k rest)))
      (subst (λ (x : Given). IsSerialAnswer s.d f z (dead_after f z (filter (stands_at (AtSerializer f z)) rest)) k.act x k.answer) (sym (first-given s (AtSerial f z) rest k (here s later rest k w) e)) a)
  answer-at (Alone c) later rest k w e =
      let st : stands_at (InSession c) k ≡ true = stands-self (InSession c) k (home-place s.d k.act k.given k.answer (Alone c) e) in
      let a : IsSessionAnswer k.act k.given k.answer = place-at (IsAnswerAt s.d (InSession c)) (InSession c) later rest k w st (s.fit.answers (InSession c)) in
      subst (λ (x : Given). IsSessionAnswer k.act x k.answer) (sym (first-given s (Alone c) rest k (here s later rest k w) e)) a

  answers-fit : (p : Node) → EachOf (AnswersAtHome s.d lists p) (lists p)
  answers-fit p = each-split s (AnswersAtHome s.d lists p) p (λ later rest k w e. λ h. answer-at p later rest k w (sym (home-first s p rest k (here s later rest k w) e) ∙ h)) [] s.all refl

  -- ---- links

  took-same : (e : ℕ) (u v : NodeId) → marks (took_from s.d e u v) (plains (lists (link_node e v))) ≡ marks (took_from s.d e u v) (sites (node_place e v))
  took-same e u (Site i) = ap (λ (ks : List Kept). marks (took_from s.d e u (Site i)) ks) (plain-split (AtHub i) [] s.all refl (λ t g e. absurd (cc))) ∙ sym (hub-took s.d i e u s.all)
  took-same e u (Serializer z) = ap (λ (ks : List Kept). marks (took_from s.d e u (Serializer z)) ks) (serial-split e z [] s.all refl)

  put-same : (e : ℕ) (t : TreeShape) (u v : NodeId) → marks (put_on s.d e t u v) (plains (lists (link_node e u))) ≡ marks (put_on s.d e t u v) (sites (node_place e u))
  put-same e t (Site i) v = ap (λ (ks : List Kept). marks (put_on s.d e t (Site i) v) ks) (plain-split (AtHub i) [] s.all refl (λ t g e. absurd (cc))) ∙ sym (hub-put s.d i e t v s.all)
  put-same e t (Serializer z) v = ap (λ (ks : List Kept). marks (put_on s.d e t (Serializer z) v) ks) (serial-split e z [] s.all refl)

  links-fit : (e : ℕ) (t : TreeShape) (u v : NodeId) → tree_of s.d e ≡ Some t → is_edge t u v ≡ true → IsHanded (marks (took_from s.d e u v) (plains (lists (link_node e v)))) (marks (put_on s.d e t u v) (plains (lists (link_node e u))))
  links-fit e t u v tree edge =
      subst (λ (xs : List (ℕ × Label)). IsHanded xs (marks (put_on s.d e t u v) (plains (lists (link_node e u))))) (sym (took-same e u v))
      (subst (λ (ys : List (ℕ × Label)). IsHanded (marks (took_from s.d e u v) (sites (node_place e v))) ys) (sym (put-same e t u v)) (s.fit.links e t u v tree edge))

  -- ---- payloads

  payload-none : (g j : ℕ) (o : Option SiteInput) (r : Answer) → ((l : Label) → r ≡ ans.Wrote l → (l.point.gear == g) ≡ false) → with_input o (λ input. payload_made s.d g j input r) ≡ None
  payload-none g j None r f = refl
  payload-none g j (Some input) (ans.Wrote l) f = go (l.point.gear == g) (f l refl)
    where
      go : (b : Bool) → b ≡ false → (if b && is_target s.d l j then Some (payload_at l (values_given input)) else None) ≡ None
      go true e = absurd (cc)
      go false e = refl
  payload-none g j (Some input) _ f = refl

  plain-list : {Y : Type 0} (xs : List Y) → xs ++ [] ≡ xs
  plain-list [] = refl
  plain-list (x ∷ xs) = ap (λ (ys : List _). x ∷ ys) (plain-list xs)

  made-same : (i g j : ℕ) (later ks : List Kept) → s.all ≡ later ++ ks → marks (makes_payload s.d g j) (plains (split s ks (AtGear i g))) ≡ marks (makes_payload s.d g j) (filter (stands_at (AtSite i)) ks)
  made-same i g j later [] w = refl
  made-same i g j later (k ∷ rest) w = go (stands_at (AtSite i) k) (node_at s.d (AtGear i g) k) refl refl (made-same i g j (later ++ k ∷ []) rest (w ∙ join-one later k rest))
    where
      not-home : (t : stands_at (AtSite i) k ≡ true) → first_at s (AtGear i g) k ≡ false → (l : Label) → k.answer ≡ ans.Wrote l → (l.point.gear == g) ≡ false
      not-home t n l r = no (l.point.gear == g) refl
        where
          no : (b : Bool) → (l.point.gear == g) ≡ b → b ≡ false
          no true z = absurd (
              let h : first_at s (AtGear i l.point.gear) k ≡ true = sym (ap (λ (x : Given). is_first (AtGear i l.point.gear) (nodes s.d k.act x k.answer)) (y-given s later rest k w)) ∙ (steps-at s later rest k w i t).wrote l r in
              let y : first_at s (AtGear i g) k ≡ true = subst (λ (g : ℕ). first_at s (AtGear i g) k ≡ true) (eqb-true l.point.gear g z) h in cc)
          no false z = refl

      same-piece : (t : stands_at (AtSite i) k ≡ true) → (b : Bool) → first_at s (AtGear i g) k ≡ b → (x y : List Kept) → numbered k.number (makes_payload s.d g j x (plain (piece s rest (AtGear i g) k))) ≡ numbered k.number (makes_payload s.d g j y k)
      same-piece t true h x y = ap (λ (z : Kept). numbered z.number (makes_payload s.d g j x z)) (ap plain (piece-home s (AtGear i g) rest k h) ∙ plain-home s rest k (here s later rest k w))
      same-piece t false h x y =
          ap (λ (o : Option Payload). numbered k.number o) (payload-none g j (input_of k.act (given_of (hands_at s.d (split s rest) (AtGear i g) k))) k.answer (not-home t h)) ∙
          sym (ap (λ (o : Option Payload). numbered k.number o) (payload-none g j (input_of k.act k.given) k.answer (not-home t h)))

      first-not : node_at s.d (AtGear i g) k ≡ false → first_at s (AtGear i g) k ≡ false
      first-not n = no (first_at s (AtGear i g) k) refl
        where
          no : (b : Bool) → first_at s (AtGear i g) k ≡ b → b ≡ false
          no true z = absurd (let y : node_at s.d (AtGear i g) k ≡ true = first-has (AtGear i g) (nodes s.d k.act k.given k.answer) z in cc)
          no false z = refl

      go : (b c : Bool) → stands_at (AtSite i) k ≡ b → node_at s.d (AtGear i g) k ≡ c → marks (makes_payload s.d g j) (plains (split s rest (AtGear i g))) ≡ marks (makes_payload s.d g j) (filter (stands_at (AtSite i)) rest) →
          marks (makes_payload s.d g j) (plains (split s (k ∷ rest) (AtGear i g))) ≡ marks (makes_payload s.d g j) (filter (stands_at (AtSite i)) (k ∷ rest))
      go true true t e ih =
          ap (λ (ks : List Piece). marks (makes_payload s.d g j) (plains ks)) (split-takes s (AtGear i g) k rest e) ∙
          ((λ u. ih u ++ same-piece t (first_at s (AtGear i g) k) refl (plains (split s rest (AtGear i g))) (filter (stands_at (AtSite i)) rest) u) ∙
          sym (ap (λ (ks : List Kept). marks (makes_payload s.d g j) ks) (filter-takes (stands_at (AtSite i)) k rest t)))
      go true false t e ih =
          ap (λ (ks : List Piece). marks (makes_payload s.d g j) (plains ks)) (split-leaves s (AtGear i g) k rest e) ∙
          (ih ∙
          (sym (plain-list (marks (makes_payload s.d g j) (filter (stands_at (AtSite i)) rest))) ∙
          (sym (ap (λ (o : Option Payload). marks (makes_payload s.d g j) (filter (stands_at (AtSite i)) rest) ++ numbered k.number o) (payload-none g j (input_of k.act k.given) k.answer (not-home t (first-not e)))) ∙
          sym (ap (λ (ks : List Kept). marks (makes_payload s.d g j) ks) (filter-takes (stands_at (AtSite i)) k rest t)))))
      go false true t e ih = absurd (let y : node_at s.d (AtGear i g) k ≡ false = not-there s later rest k w i (AtGear i g) refl t in cc)
      go false false t e ih =
          ap (λ (ks : List Piece). marks (makes_payload s.d g j) (plains ks)) (split-leaves s (AtGear i g) k rest e) ∙
          (ih ∙ sym (ap (λ (ks : List Kept). marks (makes_payload s.d g j) ks) (filter-leaves (stands_at (AtSite i)) k rest t)))

  asked-same : (d : Deployed) (j : ℕ) (t : SiteState) (h : HubState) (gs : ℕ → GearNode) (i g : ℕ) (o : Option ℕ) → kept_site d j t ≡ whole d j h gs → asked t i g o ≡ hub_asked d j h i g o
  asked-same d j t h gs i g None e = ap (λ (t : SiteState). front_of t i g) e
  asked-same d j t h gs i g (Some n) e = refl

  payloads-fit : (j : ℕ) → EachOf (PayloadsFit s.d lists j) (lists (AtHub j))
  payloads-fit j = each-split s (PayloadsFit s.d lists j) (AtHub j) at [] s.all refl
    where
      at : (later rest : List Kept) (k : Kept) → s.all ≡ later ++ k ∷ rest → node_at s.d (AtHub j) k ≡ true → PayloadsFit s.d lists j (split s rest (AtHub j)) (piece s rest (AtHub j) k)
      at later rest k w e = λ i g n o p is handed.
          let first : first_at s (AtHub j) k ≡ true = no-gear-first (AtHub j) k (λ t m z. absurd (cc)) e in
          let given : k.given ≡ OfPayload n p = sym (first-given s (AtHub j) rest k (here s later rest k w) first) ∙ ap given_of handed in
          let fits : PayloadsHanded s.d sites j (filter (stands_at (AtSite j)) rest) k = place-at (PayloadsHanded s.d sites j) (AtSite j) later rest k w (site-stands j k (AtHub j) refl e) (s.fit.payloads j) in
          let y : (n ≡ asked (site_after s.d j (filter (stands_at (AtSite j)) rest)) i g o) × IsMade (marks (makes_payload s.d g j) (sites (AtSite i))) n p k.number = fits i g n o p is given in (
            y.0 ∙ asked-same s.d j (site_after s.d j (filter (stands_at (AtSite j)) rest)) (hub_of s j rest) (gears_of s j rest) i g o (assembled s (later ++ k ∷ []) rest (w ∙ join-one later k rest) j),
            subst (λ (xs : List (ℕ × Payload)). IsMade xs n p k.number) (sym (made-same i g j [] s.all refl)) y.1,
          )

  -- ---- beats

  beat-none : (i j : ℕ) (t : SiteState) (o : Option SiteInput) (r : Answer) → is_beat r ≡ false → with_input o (λ input. beat_made s.d i t j input r) ≡ None
  beat-none i j t None r e = refl
  beat-none i j t (Some input) (ans.Beat n) e = absurd (cc)
  beat-none i j t (Some input) _ e = refl

  beat-same : (i j : ℕ) (t : SiteState) (h : HubState) (gs : ℕ → GearNode) (o : Option SiteInput) (r : Answer) → kept_site s.d i t ≡ whole s.d i h gs →
      with_input o (λ input. beat_made s.d i (hub_alone s.d i h) j input r) ≡ with_input o (λ input. beat_made s.d i t j input r)
  beat-same i j t h gs None r e = refl
  beat-same i j t h gs (Some input) r e = ap (λ (t : SiteState). beat_made s.d i t j input r) (sym e)

  beats-same : (i j : ℕ) (later ks : List Kept) → s.all ≡ later ++ ks → piece_marks (hub_beat s.d i j) (split s ks (AtHub i)) ≡ marks (makes_beat s.d i j) (filter (stands_at (AtSite i)) ks)
  beats-same i j later [] w = refl
  beats-same i j later (k ∷ rest) w = go (stands_at (AtSite i) k) (node_at s.d (AtHub i) k) refl refl (beats-same i j (later ++ k ∷ []) rest (w ∙ join-one later k rest))
    where
      here-same : node_at s.d (AtHub i) k ≡ true → numbered k.number (hub_beat s.d i j (split s rest (AtHub i)) (piece s rest (AtHub i) k)) ≡ numbered k.number (makes_beat s.d i j (filter (stands_at (AtSite i)) rest) k)
      here-same e =
          let first : first_at s (AtHub i) k ≡ true = no-gear-first (AtHub i) k (λ t m z. absurd (cc)) e in
          ap (λ (x : Given). numbered k.number (with_input (input_of k.act x) (λ input. beat_made s.d i (hub_alone s.d i (hub_of s i rest)) j input k.answer))) (first-given s (AtHub i) rest k (here s later rest k w) first) ∙
          ap (λ (o : Option BeatNote). numbered k.number o)
          (beat-same i j (site_after s.d i (filter (stands_at (AtSite i)) rest)) (hub_of s i rest) (gears_of s i rest) (input_of k.act k.given) k.answer (assembled s (later ++ k ∷ []) rest (w ∙ join-one later k rest) i))

      no-beat : stands_at (AtSite i) k ≡ true → node_at s.d (AtHub i) k ≡ false → is_beat k.answer ≡ false
      no-beat t e = (steps-at s later rest k w i t).beat (ap (λ (x : Given). has same_node (nodes s.d k.act x k.answer) (AtHub i)) (y-given s later rest k w) ∙ e)

      go : (b c : Bool) → stands_at (AtSite i) k ≡ b → node_at s.d (AtHub i) k ≡ c → piece_marks (hub_beat s.d i j) (split s rest (AtHub i)) ≡ marks (makes_beat s.d i j) (filter (stands_at (AtSite i)) rest) →
          piece_marks (hub_beat s.d i j) (split s (k ∷ rest) (AtHub i)) ≡ marks (makes_beat s.d i j) (filter (stands_at (AtSite i)) (k ∷ rest))
      go true true t e ih =
          ap (λ (ks : List Piece). piece_marks (hub_beat s.d i j) ks) (split-takes s (AtHub i) k rest e) ∙
          ((λ u. ih u ++ here-same e u) ∙ sym (ap (λ (ks : List Kept). marks (makes_beat s.d i j) ks) (filter-takes (stands_at (AtSite i)) k rest t)))
      go true false t e ih =
          ap (λ (ks : List Piece). piece_marks (hub_beat s.d i j) ks) (split-leaves s (AtHub i) k rest e) ∙
          (ih ∙
          (sym (plain-list (marks (makes_beat s.d i j) (filter (stands_at (AtSite i)) rest))) ∙
          (sym (ap (λ (o : Option BeatNote). marks (makes_beat s.d i j) (filter (stands_at (AtSite i)) rest) ++ numbered k.number o) (beat-none i j (site_after s.d i (filter (stands_at (AtSite i)) rest)) (input_of k.act k.given) k.answer (no-beat t e))) ∙
          sym (ap (λ (ks : List Kept). marks (makes_beat s.d i j) ks) (filter-takes (stands_at (AtSite i)) k rest t)))))
      go false true t e ih = absurd (let y : node_at s.d (AtHub i) k ≡ false = not-there s later rest k w i (AtHub i) refl t in cc)
      go false false t e ih =
          ap (λ (ks : List Piece). piece_marks (hub_beat s.d i j) ks) (split-leaves s (AtHub i) k rest e) ∙
          (ih ∙ sym (ap (λ (ks : List Kept). marks (makes_beat s.d i j) ks) (filter-leaves (stands_at (AtSite i)) k rest t)))

  beats-fit : (j : ℕ) → EachOf (BeatsFit s.d lists j) (lists (AtHub j))
  beats-fit j = each-split s (BeatsFit s.d lists j) (AtHub j) at [] s.all refl
    where
      at : (later rest : List Kept) (k : Kept) → s.all ≡ later ++ k ∷ rest → node_at s.d (AtHub j) k ≡ true → BeatsFit s.d lists j (split s rest (AtHub j)) (piece s rest (AtHub j) k)
      at later rest k w e = λ i n note is handed.
          let first : first_at s (AtHub j) k ≡ true = no-gear-first (AtHub j) k (λ t m z. absurd (cc)) e in
          let given : k.given ≡ OfBeat note = sym (first-given s (AtHub j) rest k (here s later rest k w) first) ∙ ap given_of handed in
          let fits : BeatsHanded s.d sites j (filter (stands_at (AtSite j)) rest) k = place-at (BeatsHanded s.d sites j) (AtSite j) later rest k w (site-stands j k (AtHub j) refl e) (s.fit.beats j) in
          subst (λ (xs : List (ℕ × BeatNote)). IsMade xs n note k.number) (sym (beats-same i j [] s.all refl)) (fits i n note is given)

  -- ---- sessions

  -- a piece at its home comes from an entry
  record FromHome (j : Piece) (ks : List Kept) : Type 0 where
    former : List Kept
    rest : List Kept
    entry : Kept
    is : ks ≡ former ++ entry ∷ rest
    same : home_piece s rest entry ≡ j

  from-home : (ks : List Kept) (j : Piece) → In (home_pieces s.d ks) j → FromHome j ks
  from-home [] j i = absurd i
  from-home (k ∷ ks) j (inl e) = record { former = []; rest = ks; entry = k; is = refl; same = e }
  from-home (k ∷ ks) j (inr i) = let f : FromHome j ks = from-home ks j i in record { former = k ∷ f.former; rest = f.rest; entry = f.entry; is = ap (λ (zs : List Kept). k ∷ zs) f.is; same = f.same }

  home-rises : (ks : List Kept) → Rising ks → Rises number_of (home_pieces s.d ks)
  home-rises [] r = tt
  home-rises (k ∷ ks) r = (
    home-rises ks r.0,
    λ j i.
        let f : FromHome j ks = from-home ks j i in
        subst (λ (z : Piece). z.number < k.number) f.same (r.1 f.entry (subst (λ (zs : List Kept). In zs f.entry) (sym f.is) (In-right f.former (f.entry ∷ f.rest) f.entry (inl refl)))),
  )

  -- where a piece at its home stands
  home-list : (j : Piece) → In (home_pieces s.d s.all) j → (p : Node) × In (lists p) j × (home_at s.d p j ≡ true)
  home-list j i =
      let f : FromHome j s.all = from-home s.all j i in
      let there : In s.all f.entry = here s f.former f.rest f.entry f.is in
      let h : HasPlace s f.entry = place-of s f.entry there in
      let at : node_at s.d h.home f.entry ≡ true = first-has h.home (nodes s.d f.entry.act f.entry.given f.entry.answer) h.first in
      let same : piece s f.rest h.home f.entry ≡ j = piece-home s h.home f.rest f.entry h.first ∙ f.same in
      (h.home, subst (λ (z : Piece). In (lists h.home) z) same (in-list f.former f.rest f.entry f.is h.home at), subst (λ (z : Piece). home_at s.d h.home z ≡ true) f.same (home-home s h.home f.rest f.entry there ∙ h.first))

  in-homes : (p : Node) (j : Piece) → In (lists p) j → home_at s.d p j ≡ true → In (home_pieces s.d s.all) j
  in-homes p j i e = (In-filter (home_at s.d p) (home_pieces s.d s.all) j (subst (λ (ks : List Piece). In ks j) (sym (split-parts s p [] s.all refl)) (into-filter (home_at s.d p) (lists p) j i e))).0

  abbrev sessions : Session → List Piece
  sessions t = piece_sessions s.d s.all t

  abbrev piece_in : Session → Piece → Bool
  piece_in t k = in_session t (plain k)

  kept-fit : (t : Session) → IsSessionList s.d lists t (sessions t)
  kept-fit t = record {
    rising = rises-filter number_of (piece_in t) (home_pieces s.d s.all) (home-rises s.all s.rising);
    only = λ k i.
        let f : In (home_pieces s.d s.all) k × (piece_in t k ≡ true) = In-filter (piece_in t) (home_pieces s.d s.all) k i in
        (in-session-is t (session_of k.act) f.1, home-list k f.0);
    whole = λ p k i e z. into-filter (piece_in t) (home_pieces s.d s.all) k (in-homes p k i e) (is-in-session t (session_of k.act) z);
  }

  -- what a client's act is handed is what the client's session says
  no-gather : (a : Act) (c : ℕ) → is_session (Client c) (session_of a) ≡ true → is_gather a ≡ false
  no-gather (act.Gather i) c e = absurd (cc)
  no-gather _ c e = refl

  plain-session : (t : Session) (later ks : List Kept) → s.all ≡ later ++ ks → plains (piece_sessions s.d ks t) ≡ filter (in_session t) ks
  plain-session t later [] w = refl
  plain-session t later (k ∷ rest) w = go (in_session t k) (plain-session t (later ++ k ∷ []) rest (w ∙ join-one later k rest))
    where
      go : (b : Bool) → plains (piece_sessions s.d rest t) ≡ filter (in_session t) rest → plains (cond b (home_piece s rest k ∷ piece_sessions s.d rest t) (piece_sessions s.d rest t)) ≡ cond b (k ∷ filter (in_session t) rest) (filter (in_session t) rest)
      go true ih = λ u. plain-home s rest k (here s later rest k w) u ∷ ih u
      go false ih = ih

  known-fit : (c : ℕ) (later ks : List Kept) → s.all ≡ later ++ ks → EachOf (KnowsClient s.d lists c) (piece_sessions s.d ks (Client c))
  known-fit c later [] w = tt
  known-fit c later (k ∷ rest) w = go (in_session (Client c) k) refl (known-fit c (later ++ k ∷ []) rest (w ∙ join-one later k rest))
    where
      known : in_session (Client c) k ≡ true → KnowsClient s.d lists c (piece_sessions s.d rest (Client c)) (home_piece s rest k)
      known e =
          let list : filter (in_session (Client c)) s.all ≡ filter (in_session (Client c)) later ++ k ∷ filter (in_session (Client c)) rest = ap (λ (ks : List Kept). filter (in_session (Client c)) ks) w ∙ filter-at (in_session (Client c)) later k rest e in
          let is : IsKnown s.d sites c (filter (in_session (Client c)) rest) k =
          each-at (IsKnown s.d sites c) (filter (in_session (Client c)) later) k (filter (in_session (Client c)) rest) (subst (λ (ks : List Kept). Each (IsKnown s.d sites c) ks) list (s.fit.known c)) in
          home-plain s.d (split s rest) k.act k.given (no-gather k.act c e) ∙
          (ap Plain is ∙ ap (λ (ks : List Kept). Plain (OfClient (carrying (history ks) c) (seat s.d (history ks) c))) (sym (plain-session (Client c) (later ++ k ∷ []) rest (w ∙ join-one later k rest))))

      go : (b : Bool) → in_session (Client c) k ≡ b → EachOf (KnowsClient s.d lists c) (piece_sessions s.d rest (Client c)) →
          EachOf (KnowsClient s.d lists c) (cond b (home_piece s rest k ∷ piece_sessions s.d rest (Client c)) (piece_sessions s.d rest (Client c)))
      go true e r = (r, known e)
      go false e r = r

  -- ---- all of it

  pub joint-fit : JointFit s.d lists sessions
  joint-fit = record {
    rising = λ p. split-rises s p s.all s.rising;
    placed = placed-fit;
    ranges = ranges-fit;
    answers = answers-fit;
    links = links-fit;
    payloads = payloads-fit;
    beats = beats-fit;
    kept = kept-fit;
    known = λ c. known-fit c [] s.all refl;
    standing = standing-fit;
    joined = joined-fit;
  }

  pub joint-merge : IsJointMerge s.d lists (home_pieces s.d s.all)
  joint-merge = record {
    ordered = subst (λ (ks : List Kept). Ordered ks) (sym (plains-home s [] s.all refl)) s.merge.ordered;
    whole = home-list;
    parts = λ p. split-parts s p [] s.all refl;
  }

-- ---- the lists of a run

number_more : (n m : ℕ) → n ≤ m → n < m + 1
number_more n m l = omega arith

lt-more : (n m : ℕ) → n ≤ m → n ≤ suc m
lt-more n m l = omega arith

self_more : (n : ℕ) → n + 1 ≤ suc n
self_more n = omega arith

number-in : (d : Deployed) (h : List Entry) (k : Kept) → In (kept_all d h) k → k.number ≤ length h
number-in d [] k i = absurd i
number-in d (e ∷ h) k (inl w) = subst (λ (z : Kept). z.number ≤ suc (length h)) w (self_more (length h))
number-in d (e ∷ h) k (inr i) = lt-more k.number (length h) (number-in d h k i)

rising-all : (d : Deployed) (h : List Entry) → Rising (kept_all d h)
rising-all d [] = tt
rising-all d (e ∷ h) = (rising-all d h, λ k i. number_more k.number (length h) (number-in d h k i))

bare-gather : (d : Deployed) (h : List Entry) (a : Act) → is_gather a ≡ true → given_in d h a ≡ Nothing
bare-gather d h (act.Gather i) e = refl
bare-gather d h _ e = absurd (cc)

bare : (d : Deployed) (h : List Entry) (k : Kept) → In (kept_all d h) k → is_gather k.act ≡ true → k.given ≡ Nothing
bare d [] k i g = absurd i
bare d (e ∷ h) k (inl w) g = sym (ap (λ (z : Kept). z.given) w) ∙ bare-gather d h e.act (ap (λ (z : Kept). is_gather z.act) w ∙ g)
bare d (e ∷ h) k (inr i) g = bare d h k i g

pub joint-runs-fit : JointRunsFit
joint-runs-fit d h v run live =
    let f : Fit d (lists_of d h) (sessions_of d h) × IsMerge (lists_of d h) (kept_all d h) × (history (kept_all d h) ≡ h) = runs-fit d h v run live in
    let s : Sited = record { d = d; all = kept_all d h; valid = v; rising = rising-all d h; gathers_bare = bare d h; fit = f.0; merge = f.1 } in
    (joint-fit s, joint-merge s, ap (λ (ks : List Kept). history ks) (plains-home s [] (kept_all d h) refl) ∙ f.2)
