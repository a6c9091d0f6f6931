-- The merged list of a run, split among hubs, gears, serializers and sessions, is kept lists that fit.
use Rattle.std.specs.Prelude.{◌≡◌, ◌<◌, ℕ, Bool, true, false, ◌==◌, nat_lt, List, [], ◌∷◌, ◌++◌, filter, Option, Some, None, if◌then◌else◌, refl}
use Rattle.std.proofs.Common.{sym, subst, ap, ◌∙◌, arith, inl, inr}
use Rattle.std.proofs.lemmas.Bool.Decides.{nat_tests}
use Rattle.sat_label.proofs.Members.{In-right}
use Rattle.sat_label.specs.Members.{In}
use Rattle.sat_label.specs.Words.{has}
use Rattle.sat_label.specs.declared.items.Items.{Items}
use Rattle.sat_act.specs.declared.act.Act.{Act}
use Rattle.sat_act.specs.declared.act.Act.TheVariants as act
use Rattle.sat_act.specs.declared.answer.Answer.{Answer}
use Rattle.sat_act.specs.declared.answer.Answer.TheVariants as ans
use Rattle.sat_act.specs.Deployed.{Deployed}
use Rattle.sat_act.specs.Answers.{InRange}
use Rattle.sat_act.specs.Parts.{seat}
use Rattle.sat_act.specs.Goals.{IsValid}
use Rattle.sat_laws.proofs.Labels.{some_is}
use Rattle.sat_model.specs.State.{SiteState}
use Rattle.sat_model.specs.Input.{SiteInput}
use Rattle.sat_model.specs.Input as given
use Rattle.sat_model.specs.Next.{site_next}
use Rattle.sat_model.specs.Reply.{gear_for, site_answer}
use Rattle.sat_model.specs.Replay.{after}
use Rattle.sat_stitch.specs.Kept.{Given, Nothing, OfClient, Kept, Each, Rising}
use Rattle.sat_stitch.specs.Places.{Place, AtSite, places, seat_places, attach_places, by_client, stands_at, in_session}
use Rattle.sat_stitch.specs.Nodes.{site_after, input_of, IsSiteAnswer, IsAnswerAt}
use Rattle.sat_stitch.specs.Fit.{Fit, IsMerge}
use Rattle.sat_stitch.proofs.Lists.{filter-takes, filter-leaves, filter-at, each-at}
use Rattle.sat_stitch.proofs.Tables.{stands-self, stands-is}
use Rattle.sat_stitch.proofs.Steps.{site-next-after}
use Rattle.sat_joint.specs.Pieces.{Drain, Handed, Plain, Drained, Piece, number_of, given_of, plain, plains, Rises, EachOf}
use Rattle.sat_joint.specs.Table.{Node, AtHub, AtGear, AtSerial, Alone, same_node, over, item_node, first_node, seat_nodes, attach_nodes, client_nodes, group_nodes, nodes, is_first, node_at, stands_in, home_at}
use Rattle.sat_joint.specs.Machines.{HubState, GearNode, fresh_gear, kept_site, whole, of_gears, drain_of, hub_by, hub_after, gathers, gear_by, gear_after, is_gather, IsHubAnswer, IsGearAnswer}
use Rattle.sat_joint.specs.Joint.{Hands, Passes}
use Rattle.sat_joint.specs.Split.{hands_home, hands_gear, hands_other, hands_at, piece_under, piece_if, split_lists, home_pieces}
use Rattle.sat_joint.proofs.Nodes.{node-self, first-has, home-place, node-place, home-shared, gear-in-range}
use Rattle.sat_joint.proofs.Pieces.{join-one}
use Rattle.sat_joint.proofs.Sites.{drains-are, gather-answers, hub-local, kept-before, kept-answer}
use Rattle.sat_joint.proofs.Acts.{hub-input, gather-is, not-first, gear-no-hub, one-gear, not-gather, gear-local}
use Rattle.sat_joint.specs.Steps.{SiteSteps, GearsMove}
use Rattle.sat_joint.proofs.Steps.{hub-step, gear-home-step}

-- ---- homes

first-self : (p : Node) (ns : List Node) → is_first p (p ∷ ns) ≡ true
first-self p ns = node-self p

seat-home : (c : ℕ) (at : ℕ → Node) (o : Option ℕ) → (q : Node) × (is_first q (seat_nodes c at o) ≡ true)
seat-home c at None = (Alone c, first-self (Alone c) [])
seat-home c at (Some i) = (at i, first-self (at i) [])

group-home : (d : Deployed) (c : ℕ) (items : Items) (r : Answer) (o : Option ℕ) → (q : Node) × (is_first q (group_nodes d c items r o) ≡ true)
group-home d c items r None = (Alone c, first-self (Alone c) [])
group-home d c items r (Some i) = (AtGear i (gear_for d items), first-self (AtGear i (gear_for d items)) [])

attach-home : (c j : ℕ) (o : Option ℕ) → (q : Node) × (is_first q (attach_nodes c j o) ≡ true)
attach-home c j None = (AtHub j, first-self (AtHub j) [])
attach-home c j (Some i) = (Alone c, first-self (Alone c) [])

client-home : (f : Option ℕ → List Place) (at : Option ℕ → List Node) (x : Given) (p : Place) → ((o : Option ℕ) → (q : Node) × (is_first q (at o) ≡ true)) → by_client f x ≡ p ∷ [] → (q : Node) × (is_first q (client_nodes at x) ≡ true)
client-home f at (OfClient seen seat) p k e = k seat
client-home f at _ p k e = absurd (cc)

-- an act that has a place has a home
home-there : (d : Deployed) (a : Act) (x : Given) (r : Answer) (p : Place) → places a x ≡ p ∷ [] → (q : Node) × (is_first q (nodes d a x r) ≡ true)
home-there d (act.Tick i g t) x r p e = (AtGear i g, first-self (AtGear i g) [])
home-there d (act.Write c y value) x r p e = client-home (seat_places c) (seat_nodes c (item_node d y)) x p (seat-home c (item_node d y)) e
home-there d (act.Writes c items values) x r p e = client-home (seat_places c) (group_nodes d c items r) x p (group-home d c items r) e
home-there d (act.Read c y) x r p e = client-home (seat_places c) (seat_nodes c (item_node d y)) x p (seat-home c (item_node d y)) e
home-there d (act.Move c j) x r p e = client-home (seat_places c) (seat_nodes c first_node) x p (seat-home c first_node) e
home-there d (act.Leave c) x r p e = (Alone c, first-self (Alone c) [])
home-there d (act.Attach c j) x r p e = client-home (attach_places c j) (attach_nodes c j) x p (attach-home c j) e
home-there d (act.Gather i) x r p e = (AtHub i, first-self (AtHub i) [])
home-there d (act.Emit i) x r p e = (AtHub i, first-self (AtHub i) [])
home-there d (act.Pulse i) x r p e = (AtHub i, first-self (AtHub i) [])
home-there d (act.Hop f u z) x r p e = (AtSerial f z, first-self (AtSerial f z) [])
home-there d (act.Turn i) x r p e = (AtHub i, first-self (AtHub i) [])
home-there d (act.Bulk i g j o) x r p e = (AtHub j, first-self (AtHub j) [])
home-there d (act.Beat i j) x r p e = (AtHub i, first-self (AtHub i) [])
home-there d (act.BeatIn i j n) x r p e = (AtHub j, first-self (AtHub j) [])
home-there d (act.Stamp i) x r p e = (AtHub i, first-self (AtHub i) [])
home-there d (act.Close i) x r p e = (AtHub i, first-self (AtHub i) [])
home-there d (act.Fall i) x r p e = (AtHub i, first-self (AtHub i) [])
home-there d (act.Advance i) x r p e = (AtHub i, first-self (AtHub i) [])
home-there d (act.Kill f z) x r p e = (AtSerial f z, first-self (AtSerial f z) [])
home-there d act.Clock x r p e = absurd (cc)
home-there d act.Settle x r p e = absurd (cc)

-- ---- what is handed

module _ (d : Deployed) (lists : Node → List Piece) where
  pub home-plain : (a : Act) (x : Given) → is_gather a ≡ false → hands_home d lists a x ≡ Plain x
  home-plain (act.Gather i) x n = absurd (cc)
  home-plain _ x n = refl

  home-given : (a : Act) (x : Given) → (is_gather a ≡ true → x ≡ Nothing) → given_of (hands_home d lists a x) ≡ x
  home-given (act.Gather i) x n = sym (n refl)
  home-given _ x n = refl

  gear-given : (i : ℕ) (a : Act) (x : Given) (r : Answer) → given_of (hands_gear d i lists a x r) ≡ Nothing
  gear-given i a x (ans.Shown l) = refl
  gear-given i a x (ans.Wrote l) = refl
  gear-given i a x _ = refl

  other-given : (p : Node) (a : Act) (x : Given) (r : Answer) → given_of (hands_other d lists p a x r) ≡ Nothing
  other-given (AtGear i g) a x r = gear-given i a x r
  other-given _ a x r = refl

  pub at-first : (p : Node) (k : Kept) → is_first p (nodes d k.act k.given k.answer) ≡ true → hands_at d lists p k ≡ hands_home d lists k.act k.given
  at-first p k e = ap (λ (b : Bool). if b then hands_home d lists k.act k.given else hands_other d lists p k.act k.given k.answer) e

  at-other : (p : Node) (k : Kept) → is_first p (nodes d k.act k.given k.answer) ≡ false → hands_at d lists p k ≡ hands_other d lists p k.act k.given k.answer
  at-other p k e = ap (λ (b : Bool). if b then hands_home d lists k.act k.given else hands_other d lists p k.act k.given k.answer) e

-- the merged list of sites, whose numbers rise
pub record Sited : Type 0 where
  pub d : Deployed
  pub all : List Kept
  pub valid : IsValid d
  pub rising : Rising all
  pub gathers_bare : (k : Kept) → In all k → is_gather k.act ≡ true → k.given ≡ Nothing
  pub fit : Fit d (λ p. filter (stands_at p) all) (λ t. filter (in_session t) all)
  pub merge : IsMerge (λ p. filter (stands_at p) all) all

less_by : (a b n m : ℕ) → a ≡ n → b ≡ m → n < m → a < b
less_by a b n m x y l = omega arith

module _ (s : Sited) where
  abbrev pub split : List Kept → Node → List Piece
  split ks p = split_lists s.d ks p

  abbrev pub piece : List Kept → Node → Kept → Piece
  piece rest p k = piece_under k (hands_at s.d (split rest) p k)

  abbrev pub home_piece : List Kept → Kept → Piece
  home_piece rest k = piece_under k (hands_home s.d (split rest) k.act k.given)

  abbrev pub first_at : Node → Kept → Bool
  first_at p k = is_first p (nodes s.d k.act k.given k.answer)

  pub member : (later ks : List Kept) (k : Kept) → s.all ≡ later ++ ks → In ks k → In s.all k
  member later ks k w i = subst (λ (zs : List Kept). In zs k) (sym w) (In-right later ks k i)

  pub here : (later rest : List Kept) (k : Kept) → s.all ≡ later ++ k ∷ rest → In s.all k
  here later rest k w = member later (k ∷ rest) k w (inl refl)

  -- where an entry stands, and its home
  pub record HasPlace (k : Kept) : Type 0 where
    pub place : Place
    pub there : In (filter (stands_at place) s.all) k
    pub is : places k.act k.given ≡ place ∷ []
    pub home : Node
    pub first : first_at home k ≡ true
    pub over_it : over home ≡ place

  pub place-of : (k : Kept) → In s.all k → HasPlace k
  place-of k i =
      let p : (p : Place) × In (filter (stands_at p) s.all) k = s.merge.whole k i in
      let is : places k.act k.given ≡ p.0 ∷ [] = s.fit.placed p.0 k p.1 in
      let q : (q : Node) × (is_first q (nodes s.d k.act k.given k.answer) ≡ true) = home-there s.d k.act k.given k.answer p.0 is in
      record { place = p.0; there = p.1; is = is; home = q.0; first = q.1; over_it = one (over q.0) p.0 (sym (home-place s.d k.act k.given k.answer q.0 q.1) ∙ is) }
    where
      one : (p q : Place) → p ∷ [] ≡ q ∷ [] → p ≡ q
      one p q e = cc

  pub plain-home : (rest : List Kept) (k : Kept) → In s.all k → plain (home_piece rest k) ≡ k
  plain-home rest k i = ap (λ (x : Given). record { number = k.number; act = k.act; given = x; answer = k.answer }) (home-given s.d (split rest) k.act k.given (s.gathers_bare k i))

  pub plains-home : (later ks : List Kept) → s.all ≡ later ++ ks → plains (home_pieces s.d ks) ≡ ks
  plains-home later [] w = refl
  plains-home later (k ∷ rest) w = λ t. plain-home rest k (here later rest k w) t ∷ plains-home (later ++ k ∷ []) rest (w ∙ join-one later k rest) t

  -- ---- the split lists, entry by entry

  pub split-takes : (p : Node) (k : Kept) (rest : List Kept) → node_at s.d p k ≡ true → split (k ∷ rest) p ≡ piece rest p k ∷ split rest p
  split-takes p k rest e = ap (λ (b : Bool). piece_if b (piece rest p k) (split rest p)) e

  pub split-leaves : (p : Node) (k : Kept) (rest : List Kept) → node_at s.d p k ≡ false → split (k ∷ rest) p ≡ split rest p
  split-leaves p k rest e = ap (λ (b : Bool). piece_if b (piece rest p k) (split rest p)) e

  -- a piece comes from an entry, and the lists before both
  pub record FromEntry (p : Node) (j : Piece) (ks : List Kept) : Type 0 where
    pub former : List Kept
    pub rest : List Kept
    pub entry : Kept
    pub is : ks ≡ former ++ entry ∷ rest
    pub stands : node_at s.d p entry ≡ true
    pub same : piece rest p entry ≡ j

  pub from-split : (p : Node) (ks : List Kept) (j : Piece) → In (split ks p) j → FromEntry p j ks
  from-split p [] j i = absurd i
  from-split p (k ∷ ks) j i = go (node_at s.d p k) refl i (from-split p ks j)
    where
      more : FromEntry p j ks → FromEntry p j (k ∷ ks)
      more f = record { former = k ∷ f.former; rest = f.rest; entry = f.entry; is = ap (λ (zs : List Kept). k ∷ zs) f.is; stands = f.stands; same = f.same }

      go : (b : Bool) → node_at s.d p k ≡ b → In (piece_if b (piece ks p k) (split ks p)) j → (In (split ks p) j → FromEntry p j ks) → FromEntry p j (k ∷ ks)
      go true e (inl w) rec = record { former = []; rest = ks; entry = k; is = refl; stands = e; same = w }
      go true e (inr w) rec = more (rec w)
      go false e w rec = more (rec w)

  pub in-before : (xs : List Kept) (k : Kept) (ys : List Kept) → In (xs ++ k ∷ ys) k
  in-before xs k ys = In-right xs (k ∷ ys) k (inl refl)

  pub from-in : (p : Node) (j : Piece) (ks : List Kept) (f : FromEntry p j ks) → In ks f.entry
  from-in p j ks f = subst (λ (zs : List Kept). In zs f.entry) (sym f.is) (in-before f.former f.entry f.rest)

  pub split-rises : (p : Node) (ks : List Kept) → Rising ks → Rises number_of (split ks p)
  split-rises p [] r = tt
  split-rises p (k ∷ ks) r = go (node_at s.d p k) (split-rises p ks r.0)
    where
      go : (b : Bool) → Rises number_of (split ks p) → Rises number_of (piece_if b (piece ks p k) (split ks p))
      go true w = (w, λ j i. let f : FromEntry p j ks = from-split p ks j i in less_by j.number k.number f.entry.number k.number (sym (ap (λ (z : Piece). z.number) f.same)) refl (r.1 f.entry (from-in p j ks f)))
      go false w = w

  -- what holds of each piece
  pub each-split : (P : List Piece → Piece → Type 0) (p : Node) → ((later rest : List Kept) (k : Kept) → s.all ≡ later ++ k ∷ rest → node_at s.d p k ≡ true → P (split rest p) (piece rest p k)) →
      (later ks : List Kept) → s.all ≡ later ++ ks → EachOf P (split ks p)
  each-split P p f later [] w = tt
  each-split P p f later (k ∷ rest) w = go (node_at s.d p k) refl (each-split P p f (later ++ k ∷ []) rest (w ∙ join-one later k rest))
    where
      go : (b : Bool) → node_at s.d p k ≡ b → EachOf P (split rest p) → EachOf P (piece_if b (piece rest p k) (split rest p))
      go true e r = (r, f later rest k w e)
      go false e r = r

  -- the list up to an entry
  pub before-all : (p : Node) (later ks : List Kept) → s.all ≡ later ++ ks → (xs : List Piece) × (split s.all p ≡ xs ++ split ks p)
  before-all p later ks w = let g : (xs : List Piece) × (split (later ++ ks) p ≡ xs ++ split ks p) = go later in (g.0, ap (λ (zs : List Kept). split zs p) w ∙ g.1)
    where
      go : (later : List Kept) → (xs : List Piece) × (split (later ++ ks) p ≡ xs ++ split ks p)
      go [] = ([], refl)
      go (k ∷ later) = let g : (xs : List Piece) × (split (later ++ ks) p ≡ xs ++ split ks p) = go later in add (node_at s.d p k) g
        where
          add : (b : Bool) → (xs : List Piece) × (split (later ++ ks) p ≡ xs ++ split ks p) → (xs : List Piece) × (piece_if b (piece (later ++ ks) p k) (split (later ++ ks) p) ≡ xs ++ split ks p)
          add true g = (piece (later ++ ks) p k ∷ g.0, ap (λ (zs : List Piece). piece (later ++ ks) p k ∷ zs) g.1)
          add false g = g

  -- ---- homes of pieces

  pub copy-not-first : (p : Node) (k : Kept) (x : Given) → node_at s.d p k ≡ true → first_at p k ≡ false → is_first p (nodes s.d k.act x k.answer) ≡ false
  copy-not-first p k x e n = go (is_first p (nodes s.d k.act x k.answer)) refl
    where
      go : (b : Bool) → is_first p (nodes s.d k.act x k.answer) ≡ b → b ≡ false
      go true w = absurd (let y : first_at p k ≡ true = home-shared s.d k.act x k.given k.answer p p (first-has p (nodes s.d k.act x k.answer) w) e w in cc)
      go false w = refl

  pub first-given : (p : Node) (rest : List Kept) (k : Kept) → In s.all k → first_at p k ≡ true → given_of (hands_at s.d (split rest) p k) ≡ k.given
  first-given p rest k i e = ap given_of (at-first s.d (split rest) p k e) ∙ home-given s.d (split rest) k.act k.given (s.gathers_bare k i)

  pub home-first : (p : Node) (rest : List Kept) (k : Kept) → In s.all k → node_at s.d p k ≡ true → home_at s.d p (piece rest p k) ≡ first_at p k
  home-first p rest k i e = go (first_at p k) refl
    where
      go : (b : Bool) → first_at p k ≡ b → home_at s.d p (piece rest p k) ≡ b
      go true w = ap (λ (x : Given). is_first p (nodes s.d k.act x k.answer)) (first-given p rest k i w) ∙ w
      go false w = copy-not-first p k (given_of (hands_at s.d (split rest) p k)) e w

  pub piece-home : (p : Node) (rest : List Kept) (k : Kept) → first_at p k ≡ true → piece rest p k ≡ home_piece rest k
  piece-home p rest k e = ap (piece_under k) (at-first s.d (split rest) p k e)

  pub home-home : (p : Node) (rest : List Kept) (k : Kept) → In s.all k → home_at s.d p (home_piece rest k) ≡ first_at p k
  home-home p rest k i = ap (λ (y : Kept). first_at p y) (plain-home rest k i)

  pub home-stands : (p : Node) (rest : List Kept) (k : Kept) → In s.all k → stands_in s.d p (home_piece rest k) ≡ node_at s.d p k
  home-stands p rest k i = ap (λ (y : Kept). node_at s.d p y) (plain-home rest k i)

  -- the pieces at their homes
  pub split-parts : (p : Node) (later ks : List Kept) → s.all ≡ later ++ ks → filter (home_at s.d p) (home_pieces s.d ks) ≡ filter (home_at s.d p) (split ks p)
  split-parts p later [] w = refl
  split-parts p later (k ∷ rest) w = go (node_at s.d p k) (first_at p k) refl refl (split-parts p (later ++ k ∷ []) rest (w ∙ join-one later k rest))
    where
      there : In s.all k
      there = here later rest k w

      go : (b c : Bool) → node_at s.d p k ≡ b → first_at p k ≡ c → filter (home_at s.d p) (home_pieces s.d rest) ≡ filter (home_at s.d p) (split rest p) →
          filter (home_at s.d p) (home_pieces s.d (k ∷ rest)) ≡ filter (home_at s.d p) (split (k ∷ rest) p)
      go true true e f ih =
          filter-takes (home_at s.d p) (home_piece rest k) (home_pieces s.d rest) (home-home p rest k there ∙ f) ∙
          ((λ t. sym (piece-home p rest k f) t ∷ ih t) ∙
          (sym (filter-takes (home_at s.d p) (piece rest p k) (split rest p) (home-first p rest k there e ∙ f)) ∙ ap (λ (ks : List Piece). filter (home_at s.d p) ks) (sym (split-takes p k rest e))))
      go true false e f ih =
          filter-leaves (home_at s.d p) (home_piece rest k) (home_pieces s.d rest) (home-home p rest k there ∙ f) ∙
          (ih ∙ (sym (filter-leaves (home_at s.d p) (piece rest p k) (split rest p) (home-first p rest k there e ∙ f)) ∙ ap (λ (ks : List Piece). filter (home_at s.d p) ks) (sym (split-takes p k rest e))))
      go false true e f ih = absurd (let y : node_at s.d p k ≡ true = first-has p (nodes s.d k.act k.given k.answer) f in cc)
      go false false e f ih =
          filter-leaves (home_at s.d p) (home_piece rest k) (home_pieces s.d rest) (home-home p rest k there ∙ f) ∙ (ih ∙ ap (λ (ks : List Piece). filter (home_at s.d p) ks) (sym (split-leaves p k rest e)))

  -- ---- states

  abbrev pub hub_of : ℕ → List Kept → HubState
  hub_of i ks = hub_after s.d i (split ks (AtHub i))

  abbrev pub gears_of : ℕ → List Kept → ℕ → GearNode
  gears_of i ks g = gear_after s.d g (split ks (AtGear i g))

  pub range-of : (k : Kept) → In s.all k → InRange s.d k.act
  range-of k i = let h : HasPlace k = place-of k i in s.fit.ranges h.place k h.there

  lt-is : (g n : ℕ) → g < n → nat_lt g n ≡ true
  lt-is g n l = grind (arith, nat_tests)

  far-fresh : (i g : ℕ) (later ks : List Kept) → s.all ≡ later ++ ks → nat_lt g s.d.gears ≡ false → gears_of i ks g ≡ fresh_gear
  unfolding gear_after
  far-fresh i g later [] w e = refl
  far-fresh i g later (k ∷ rest) w e = ap (λ (ks : List Piece). gear_after s.d g ks) (split-leaves (AtGear i g) k rest (go (node_at s.d (AtGear i g) k) refl)) ∙ far-fresh i g (later ++ k ∷ []) rest (w ∙ join-one later k rest) e
    where
      go : (b : Bool) → node_at s.d (AtGear i g) k ≡ b → b ≡ false
      go true z = absurd (let l : nat_lt g s.d.gears ≡ true = lt-is g s.d.gears (gear-in-range s.d k.act k.given k.answer i g s.valid.some_gear (range-of k (here later rest k w)) z) in cc)
      go false z = refl

  module _ (later rest : List Kept) (k : Kept) (w : s.all ≡ later ++ k ∷ rest) where
    there : In s.all k
    there = here later rest k w

    w_rest : s.all ≡ (later ++ k ∷ []) ++ rest
    w_rest = w ∙ join-one later k rest

    -- what the entry was handed at its home
    abbrev pub y : Handed
    y = hands_home s.d (split rest) k.act k.given

    pub y-given : given_of y ≡ k.given
    y-given = home-given s.d (split rest) k.act k.given (s.gathers_bare k there)

    module _ (i : ℕ) where
      abbrev pub c : ℕ → Handed
      c g = hands_at s.d (split rest) (AtGear i g) k

      hub-new : first_at (AtHub i) k ≡ true → hub_of i (k ∷ rest) ≡ hub_by s.d i (hub_of i rest) k.act y k.answer
      unfolding hub_after
      hub-new e =
          ap (λ (ks : List Piece). hub_after s.d i ks) (split-takes (AtHub i) k rest (first-has (AtHub i) (nodes s.d k.act k.given k.answer) e)) ∙
          ap (λ (z : Handed). hub_by s.d i (hub_of i rest) k.act z k.answer) (at-first s.d (split rest) (AtHub i) k e)

      hub-old : node_at s.d (AtHub i) k ≡ false → hub_of i (k ∷ rest) ≡ hub_of i rest
      hub-old e = ap (λ (ks : List Piece). hub_after s.d i ks) (split-leaves (AtHub i) k rest e)

      gear-new : (g : ℕ) → node_at s.d (AtGear i g) k ≡ true → gears_of i (k ∷ rest) g ≡ gear_by s.d g (gears_of i rest g) k.act (c g) k.answer
      unfolding gear_after
      gear-new g e = ap (λ (ks : List Piece). gear_after s.d g ks) (split-takes (AtGear i g) k rest e)

      gear-old : (g : ℕ) → node_at s.d (AtGear i g) k ≡ false → gears_of i (k ∷ rest) g ≡ gears_of i rest g
      gear-old g e = ap (λ (ks : List Piece). gear_after s.d g ks) (split-leaves (AtGear i g) k rest e)

      by-given : (p : Node) → has same_node (nodes s.d k.act (given_of y) k.answer) p ≡ node_at s.d p k
      by-given p = ap (λ (x : Given). has same_node (nodes s.d k.act x k.answer) p) y-given

      gears-move : GearsMove s.d i k.act (given_of y) k.answer c (gears_of i rest) (gears_of i (k ∷ rest))
      gears-move = record {
        same = λ g e. gear-old g (sym (by-given (AtGear i g)) ∙ e);
        new = λ g e. gear-new g (sym (by-given (AtGear i g)) ∙ e);
        range = λ g e. gear-in-range s.d k.act (given_of y) k.answer i g s.valid.some_gear (range-of k there) e;
        far = λ g e. far-fresh i g (later ++ k ∷ []) rest w_rest e;
      }

      abbrev pub SiteReply : SiteState → Type 0
      SiteReply t = (input : SiteInput) × (input_of k.act k.given ≡ Some input) × (k.answer ≡ site_answer s.d i t input)

      abbrev pub here_whole : SiteState
      here_whole = whole s.d i (hub_of i rest) (gears_of i rest)

      abbrev pub drains : ℕ → Drain
      drains g = drain_of (gears_of i rest g)

      drains-same : of_gears s.d drains ≡ drains
      drains-same = drains-are s.d (gears_of i rest) drains (λ g l. refl) (λ g e. far-fresh i g (later ++ k ∷ []) rest w_rest e)

      gathers-input : (a : Act) (x : Given) (input : SiteInput) → a ≡ act.Gather i → input_of a x ≡ Some input → given.Gather ≡ input
      gathers-input a x input e w = some_is given.Gather input (sym (ap (λ (a : Act). input_of a x) e) ∙ w)

      -- the hub's answer
      pub hub-answer : first_at (AtHub i) k ≡ true → SiteReply here_whole → IsHubAnswer s.d i (hub_of i rest) k.act y k.answer
      hub-answer e reply = go (is_gather k.act) refl
        where
          go : (b : Bool) → is_gather k.act ≡ b → IsHubAnswer s.d i (hub_of i rest) k.act y k.answer
          go true g =
              let is : k.act ≡ act.Gather i = gather-is s.d k.act k.given k.answer i e g in
              let input : given.Gather ≡ reply.0 = gathers-input k.act k.given reply.0 is reply.1 in
              let answer : k.answer ≡ gathers s.d drains = reply.2 ∙ (ap (λ (z : SiteInput). site_answer s.d i here_whole z) (sym input) ∙ sym (gather-answers s.d i (hub_of i rest) (gears_of i rest) drains drains-same)) in
              subst (λ (a : Act). IsHubAnswer s.d i (hub_of i rest) a (hands_home s.d (split rest) a k.given) k.answer) (sym is) (refl, answer)
          go false g =
              subst (λ (z : Handed). IsHubAnswer s.d i (hub_of i rest) k.act z k.answer) (sym (home-plain s.d (split rest) k.act k.given g))
              (g, (reply.0, reply.1, reply.2 ∙ sym (hub-local s.d i (hub_of i rest) (gears_of i rest) reply.0 (hub-input s.d k.act k.given k.answer i reply.0 e g reply.1))))

      pub gear-answer : (g : ℕ) → first_at (AtGear i g) k ≡ true → SiteReply here_whole → IsGearAnswer s.d i (gears_of i rest g) k.act y k.answer
      gear-answer g e reply =
          subst (λ (z : Handed). IsGearAnswer s.d i (gears_of i rest g) k.act z k.answer) (sym (home-plain s.d (split rest) k.act k.given (not-gather s.d k.act k.given k.answer i g e)))
          (reply.0, reply.1, reply.2 ∙ sym (gear-local s.d i (hub_of i rest) (gears_of i rest) k.act k.given k.answer g reply.0 e reply.1))

      -- what the hub and its gears hand to each other
      drained-there : (g : ℕ) → is_gather k.act ≡ true → first_at (AtHub i) k ≡ true → SiteReply here_whole → hands_gear s.d i (split rest) k.act k.given k.answer ≡ Drained
      unfolding site_answer
      drained-there g n e reply =
          let is : k.act ≡ act.Gather i = gather-is s.d k.act k.given k.answer i e n in
          let input : given.Gather ≡ reply.0 = gathers-input k.act k.given reply.0 is reply.1 in
          ap (hands_gear s.d i (split rest) k.act k.given) (reply.2 ∙ ap (λ (z : SiteInput). site_answer s.d i here_whole z) (sym input))

      c-other : (g : ℕ) → first_at (AtHub i) k ≡ true → c g ≡ hands_gear s.d i (split rest) k.act k.given k.answer
      c-other g e = at-other s.d (split rest) (AtGear i g) k (not-first (nodes s.d k.act k.given k.answer) i i g e)

      pub hands-there : first_at (AtHub i) k ≡ true → SiteReply here_whole → (g : ℕ) → Hands (hub_of i rest) (gears_of i rest g) g y k.answer (c g)
      hands-there e reply g = go (is_gather k.act) refl
        where
          go : (b : Bool) → is_gather k.act ≡ b → Hands (hub_of i rest) (gears_of i rest g) g y k.answer (c g)
          go true n =
              let is : k.act ≡ act.Gather i = gather-is s.d k.act k.given k.answer i e n in
              subst (λ (a : Act). Hands (hub_of i rest) (gears_of i rest g) g (hands_home s.d (split rest) a k.given) k.answer (c g)) (sym is) (refl, c-other g e ∙ drained-there g n e reply)
          go false n =
              subst (λ (z : Handed). Hands (hub_of i rest) (gears_of i rest g) g z k.answer (c g)) (sym (home-plain s.d (split rest) k.act k.given n))
              (λ l r. c-other g e ∙ ap (hands_gear s.d i (split rest) k.act k.given) r)

      -- and what the gear of a write's least item hands to the others
      pub passes-there : (g n : ℕ) → first_at (AtGear i g) k ≡ true → (g == n) ≡ false → Passes k.act y k.answer (c n)
      passes-there g n e z =
          subst (λ (y : Handed). Passes k.act y k.answer (c n)) (sym (home-plain s.d (split rest) k.act k.given (not-gather s.d k.act k.given k.answer i g e)))
          (λ l r. at-other s.d (split rest) (AtGear i n) k (one-gear (nodes s.d k.act k.given k.answer) i g n e z) ∙ ap (hands_gear s.d i (split rest) k.act k.given) r)

      abbrev pub Steps : Type 0
      Steps = SiteSteps s.d i k.act (given_of y) k.answer (hub_of i rest) (hub_of i (k ∷ rest)) (gears_of i rest) (gears_of i (k ∷ rest))

      first-y : (p : Node) → first_at p k ≡ true → is_first p (nodes s.d k.act (given_of y) k.answer) ≡ true
      first-y p e = ap (λ (x : Given). is_first p (nodes s.d k.act x k.answer)) y-given ∙ e

      at-hub : first_at (AtHub i) k ≡ true → SiteReply here_whole → Steps
      at-hub e reply =
          subst (λ (h : HubState). SiteSteps s.d i k.act (given_of y) k.answer (hub_of i rest) h (gears_of i rest) (gears_of i (k ∷ rest))) (sym (hub-new e))
          (hub-step s.d i k.act k.answer (hub_of i rest) (gears_of i rest) (gears_of i (k ∷ rest)) c y (first-y (AtHub i) e) gears-move (λ g st. hands-there e reply g) (hub-answer e reply))

      at-gear-home : (g : ℕ) → first_at (AtGear i g) k ≡ true → SiteReply here_whole → Steps
      at-gear-home g e reply =
          subst (λ (h : HubState). SiteSteps s.d i k.act (given_of y) k.answer (hub_of i rest) h (gears_of i rest) (gears_of i (k ∷ rest))) (sym (hub-old (gear-no-hub s.d k.act k.given k.answer i g i e)))
          (gear-home-step s.d i k.act k.answer (hub_of i rest) (gears_of i rest) (gears_of i (k ∷ rest)) c g y (first-y (AtGear i g) e) gears-move (at-first s.d (split rest) (AtGear i g) k e) (λ n at z. passes-there g n e z) (gear-answer g e reply))

      same-site : (t : ℕ) → AtSite t ≡ AtSite i → t ≡ i
      same-site t e = cc

      by-home : (p : Node) → first_at p k ≡ true → over p ≡ AtSite i → SiteReply here_whole → Steps
      by-home (AtHub t) e o reply = at-hub (subst (λ (t : ℕ). first_at (AtHub t) k ≡ true) (same-site t o) e) reply
      by-home (AtGear t g) e o reply = at-gear-home g (subst (λ (t : ℕ). first_at (AtGear t g) k ≡ true) (same-site t o) e) reply
      by-home (AtSerial f z) e o reply = absurd (cc)
      by-home (Alone b) e o reply = absurd (cc)

      -- the site's answer
      site-reply : stands_at (AtSite i) k ≡ true → kept_site s.d i (site_after s.d i (filter (stands_at (AtSite i)) rest)) ≡ here_whole → SiteReply here_whole
      site-reply e ih =
          let list : filter (stands_at (AtSite i)) s.all ≡ filter (stands_at (AtSite i)) later ++ k ∷ filter (stands_at (AtSite i)) rest = ap (λ (ks : List Kept). filter (stands_at (AtSite i)) ks) w ∙ filter-at (stands_at (AtSite i)) later k rest e in
          let a : IsSiteAnswer s.d i (filter (stands_at (AtSite i)) rest) k =
          each-at (IsAnswerAt s.d (AtSite i)) (filter (stands_at (AtSite i)) later) k (filter (stands_at (AtSite i)) rest) (subst (λ (ks : List Kept). Each (IsAnswerAt s.d (AtSite i)) ks) list (s.fit.answers (AtSite i))) in
          (a.0, a.1, a.2 ∙ (sym (kept-answer s.d i (site_after s.d i (filter (stands_at (AtSite i)) rest)) a.0) ∙ ap (λ (t : SiteState). site_answer s.d i t a.0) ih))

      pub site-steps : stands_at (AtSite i) k ≡ true → kept_site s.d i (site_after s.d i (filter (stands_at (AtSite i)) rest)) ≡ here_whole → Steps
      site-steps e ih =
          let h : HasPlace k = place-of k there in
          by-home h.home h.first (stands-is (AtSite i) (over h.home) k (home-place s.d k.act k.given k.answer h.home h.first) e) (site-reply e ih)

      pub not-there : (p : Node) → over p ≡ AtSite i → stands_at (AtSite i) k ≡ false → node_at s.d p k ≡ false
      not-there p o n = go (node_at s.d p k) refl
        where
          go : (b : Bool) → node_at s.d p k ≡ b → b ≡ false
          go true z = absurd (
              let l : places k.act k.given ≡ AtSite i ∷ [] = node-place s.d k.act k.given k.answer p z ∙ ap (λ (q : Place). q ∷ []) o in
              let t : stands_at (AtSite i) k ≡ true = stands-self (AtSite i) k l in cc)
          go false z = refl

  after-same : (i : ℕ) (t : SiteState) (o : Option SiteInput) (input : SiteInput) (r : Answer) → o ≡ Some input → after s.d i t o r ≡ site_next s.d i t input r
  unfolding after
  after-same i t o input r e = ap (λ (o : Option SiteInput). after s.d i t o r) e

  start : (i : ℕ) → kept_site s.d i (site_after s.d i []) ≡ whole s.d i (hub_of i []) (gears_of i [])
  unfolding site_after hub_after gear_after
  start i = refl

  pub assembled : (later ks : List Kept) → s.all ≡ later ++ ks → (i : ℕ) → kept_site s.d i (site_after s.d i (filter (stands_at (AtSite i)) ks)) ≡ whole s.d i (hub_of i ks) (gears_of i ks)
  assembled later [] w i = start i
  assembled later (k ∷ rest) w i = go (stands_at (AtSite i) k) refl (assembled (later ++ k ∷ []) rest (w ∙ join-one later k rest) i)
    where
      go : (b : Bool) → stands_at (AtSite i) k ≡ b → kept_site s.d i (site_after s.d i (filter (stands_at (AtSite i)) rest)) ≡ whole s.d i (hub_of i rest) (gears_of i rest) →
          kept_site s.d i (site_after s.d i (filter (stands_at (AtSite i)) (k ∷ rest))) ≡ whole s.d i (hub_of i (k ∷ rest)) (gears_of i (k ∷ rest))
      go true e ih =
          let t : SiteSteps s.d i k.act (given_of (hands_home s.d (split rest) k.act k.given)) k.answer (hub_of i rest) (hub_of i (k ∷ rest)) (gears_of i rest) (gears_of i (k ∷ rest)) = site-steps later rest k w i e ih in
          ap (λ (ks : List Kept). kept_site s.d i (site_after s.d i ks)) (filter-takes (stands_at (AtSite i)) k rest e) ∙
          (ap (λ (t : SiteState). kept_site s.d i t)
          (site-next-after s.d i k (filter (stands_at (AtSite i)) rest) ∙
          after-same i (site_after s.d i (filter (stands_at (AtSite i)) rest)) (input_of k.act k.given) t.input k.answer (ap (λ (x : Given). input_of k.act x) (sym (y-given later rest k w)) ∙ t.handed)) ∙
          (kept-before s.d i (site_after s.d i (filter (stands_at (AtSite i)) rest)) t.input k.answer ∙
          (ap (λ (u : SiteState). kept_site s.d i (site_next s.d i u t.input k.answer)) ih ∙ t.state)))
      go false e ih =
          ap (λ (ks : List Kept). kept_site s.d i (site_after s.d i ks)) (filter-leaves (stands_at (AtSite i)) k rest e) ∙
          (ih ∙ (λ u. whole s.d i (sym (hub-old later rest k w i (not-there later rest k w i (AtHub i) refl e)) u) (λ g. sym (gear-old later rest k w i g (not-there later rest k w i (AtGear i g) refl e)) u)))

  -- the steps at an entry
  pub steps-at : (later rest : List Kept) (k : Kept) (w : s.all ≡ later ++ k ∷ rest) (i : ℕ) → stands_at (AtSite i) k ≡ true →
      SiteSteps s.d i k.act (given_of (hands_home s.d (split rest) k.act k.given)) k.answer (hub_of i rest) (hub_of i (k ∷ rest)) (gears_of i rest) (gears_of i (k ∷ rest))
  steps-at later rest k w i e = site-steps later rest k w i e (assembled (later ++ k ∷ []) rest (w ∙ join-one later k rest) i)

  pub reply-at : (later rest : List Kept) (k : Kept) (w : s.all ≡ later ++ k ∷ rest) (i : ℕ) → stands_at (AtSite i) k ≡ true → SiteReply later rest k w i (whole s.d i (hub_of i rest) (gears_of i rest))
  reply-at later rest k w i e = site-reply later rest k w i e (assembled (later ++ k ∷ []) rest (w ∙ join-one later k rest) i)
