-- Lists that fit have parts that agree: comparing the parts refuses nothing that fits.
use Rattle.std.specs.Prelude.{◌≡◌, ◌⊎◌, ℕ, Bool, true, false, ◌&&◌, ◌||◌, not, ◌==◌, List, [], ◌∷◌, ◌++◌, Option, Some, None, refl}
use Rattle.std.proofs.Common.{sym, subst, ap, ◌∙◌, inl, inr}
use Rattle.std.proofs.lemmas.Bool.{and_from, and_parts, eqb-true}
use Rattle.sat_label.specs.Members.{In}
use Rattle.sat_label.specs.Words.{has}
use Rattle.sat_label.specs.declared.carried.Carried.{Carried}
use Rattle.sat_label.specs.declared.items.Items.{Items}
use Rattle.sat_label.specs.declared.label.Label.{Label}
use Rattle.sat_act.specs.declared.act.Act.{Act}
use Rattle.sat_act.specs.declared.act.Act.TheVariants as act
use Rattle.sat_act.specs.declared.answer.Answer.{Answer}
use Rattle.sat_act.specs.declared.answer.Answer.TheVariants as ans
use Rattle.sat_act.specs.Deployed.{Deployed}
use Rattle.sat_laws.proofs.Labels.{some_is}
use Rattle.sat_model.specs.Input.{SiteInput}
use Rattle.sat_model.specs.Input as site
use Rattle.sat_model.specs.Reply.{gear_for, site_answer}
use Rattle.sat_stitch.specs.Kept.{Given, Nothing, OfClient}
use Rattle.sat_stitch.specs.Nodes.{input_of}
use Rattle.sat_stitch.specs.Places.{Session}
use Rattle.sat_joint.specs.Pieces.{Piece, Handed, Plain, Drains, Drained, Showing, EachOf, Rises, given_of, number_of}
use Rattle.sat_joint.specs.Table.{Node, AtHub, AtGear, home_at, is_first, is_shared, nodes, same_node, stands_in}
use Rattle.sat_joint.specs.Machines.{HubState, GearNode, IsGearAnswer, IsHomeAnswer, IsHubAnswer, gear_after, gear_alone, hub_after, shown_by, written_by}
use Rattle.sat_joint.specs.Joint.{AllJoin, AnswersAtHome, AreOne, HandsOver, Hands, HasHome, IsJoined, JointFit, Passes}
use Rattle.sat_joint.specs.Compare.{Gave, Got, Share, gear_share, home_gear_share, home_share, hub_share}
use Rattle.sat_joint.proofs.Nodes.{IsBeside, beside, home-one, home_by, shared-home}
use Rattle.sat_joint.proofs.Pieces.{each-of, rises-one, same-lists, split-one}
use Rattle.sat_joint.proofs.Sites.{IsWritten, wrote-is, written-is}
use Rattle.sat_hub_laws.specs.Parts.{Part, PartsAgree, PartsAreExact, given_parts, home_node, is_given, is_kept, kept_parts, part_number, part_of, same_home, written_at}
use Rattle.sat_hub_laws.proofs.Parts.{ComesFrom, Stands, from-parts, in-parts, in-stands, rise, shared-node}

-- ---- what a gear was handed where its part is not its home's

-- where nothing plain was handed, no gear is the home of a shared act
shared-nothing : (d : Deployed) (a : Act) (r : Answer) (i g : ℕ) → is_shared a ≡ true → is_first (AtGear i g) (nodes d a Nothing r) ≡ false
shared-nothing d (act.Gather t) r i g e = refl
shared-nothing d (act.Turn t) r i g e = refl
shared-nothing d (act.Stamp t) r i g e = refl
shared-nothing d (act.Writes c items values) r i g e = refl
shared-nothing d _ r i g e = absurd (cc)

-- what a gear has of an act: the share of the act's home, which it knows by the answer
pub record IsPartOf (n : GearNode) (r : Answer) (o : Option ℕ) (share : Share) (z : Handed) : Type 0 where
  pub same : gear_share n z ≡ share
  pub home : same_home (written_at r) o ≡ true
  pub plain : given_of z ≡ Nothing

got-part : (n : GearNode) (r : Answer) (o : Option ℕ) (z : Handed) (p : _) → z ≡ Showing p → same_home (written_at r) o ≡ true → IsPartOf n r o (Got p) z
got-part n r o z p e w = record { same = ap (gear_share n) e; home = w; plain = ap given_of e }

shown-part : (d : Deployed) (i t g : ℕ) (h : HubState) (n : GearNode) (x : Given) (r : Answer) (z : Handed) → ((l : Label) → r ≡ ans.Shown l → z ≡ Showing (shown_by h l)) →
    has same_node (nodes d (act.Turn t) x r) (AtGear i g) ≡ true → IsPartOf n r None (hub_share h g (Plain x) r) z
shown-part d i t g h n x (ans.Shown l) z f s = got-part n (ans.Shown l) None z (shown_by h l) (f l refl) refl
shown-part d i t g h n x _ z f s = absurd (cc)

plain-part : (d : Deployed) (i g : ℕ) (h : HubState) (n : GearNode) (a : Act) (x : Given) (r : Answer) (z : Handed) → IsHubAnswer d i h a (Plain x) r → Hands h n g (Plain x) r z → is_shared a ≡ true →
    is_first (AtHub i) (nodes d a x r) ≡ true → has same_node (nodes d a x r) (AtGear i g) ≡ true → IsPartOf n r None (hub_share h g (Plain x) r) z
plain-part d i g h n (act.Gather t) x r z w f j e s = absurd (let q : true ≡ false = w.0 in cc)
plain-part d i g h n (act.Turn t) x r z w f j e s = shown-part d i t g h n x r z f s
plain-part d i g h n (act.Stamp t) x r z w f j e s = shown-part d i t g h n x r z f s
plain-part d i g h n (act.Writes c items values) (OfClient seen None) r z w f j e s = absurd (cc)
plain-part d i g h n (act.Writes c items values) (OfClient seen (Some t)) r z w f j e s = absurd (cc)
plain-part d i g h n (act.Writes c items values) _ r z w f j e s = absurd (cc)
plain-part d i g h n _ x r z w f j e s = absurd (cc)

hub-part : (d : Deployed) (i g : ℕ) (h : HubState) (n : GearNode) (a : Act) (y : Handed) (r : Answer) (z : Handed) → IsHubAnswer d i h a y r → Hands h n g y r z → is_shared a ≡ true →
    is_first (AtHub i) (nodes d a (given_of y) r) ≡ true → has same_node (nodes d a (given_of y) r) (AtGear i g) ≡ true → IsPartOf n r None (hub_share h g y r) z
hub-part d i g h n a (Plain x) r z w f j e s = plain-part d i g h n a x r z w f j e s
hub-part d i g h n a (Drains f) r z w k j e s = record {
  same = ap (gear_share n) k.1 ∙ ap Gave (sym k.0);
  home = ap (λ (r : Answer). same_home (written_at r) None) w.1;
  plain = ap given_of k.1;
}
hub-part d i g h n a Drained r z w k j e s = absurd w
hub-part d i g h n a (Showing p) r z w k j e s = absurd w

-- ---- where a gear is the home

alone-not : (b : Bool) → (b || false) ≡ true → b ≡ false → ⊥
alone-not true e f = cc
alone-not false e f = cc

wrote-gear : (d : Deployed) (i : ℕ) (m : GearNode) (items : Items) (values : List (List ℕ)) (seen : Carried) (l : Label) → ans.Wrote l ≡ site_answer d i (gear_alone d i m) (site.Write seen items values) → l.point.gear ≡ gear_for d items
unfolding site_answer
wrote-gear d i m items values seen l e = go (subst (IsWritten d items) (sym e) (written-is d i items m.gear.promise seen.point.ts))
  where
    go : IsWritten d items (ans.Wrote l) → l.point.gear ≡ gear_for d items
    go (inl f) = absurd (let z : ans.Wrote l ≡ ans.Refused f.0 = f.1 in cc)
    go (inr w) = ap (λ (m : Label). m.point.gear) (wrote-is l w.0 w.1) ∙ w.3

-- the gear that answered a write
gear-wrote : (d : Deployed) (i h : ℕ) (m : GearNode) (c : ℕ) (items : Items) (values : List (List ℕ)) (seen : Carried) (seat : Option ℕ) (l : Label) → IsGearAnswer d i m (act.Writes c items values) (Plain (OfClient seen seat)) (ans.Wrote l) →
    (gear_for d items == h) ≡ true → (l.point.gear == h) ≡ true
gear-wrote d i h m c items values seen seat l w e = go (written (site.Write seen items values) w.0 (some_is (site.Write seen items values) w.0 w.1) w.2)
  where
    written : (given input : SiteInput) → given ≡ input → ans.Wrote l ≡ site_answer d i (gear_alone d i m) input → ans.Wrote l ≡ site_answer d i (gear_alone d i m) given
    written given input q f = f ∙ ap (λ (z : SiteInput). site_answer d i (gear_alone d i m) z) (sym q)

    go : ans.Wrote l ≡ site_answer d i (gear_alone d i m) (site.Write seen items values) → (l.point.gear == h) ≡ true
    go f = ap (λ (n : ℕ). n == h) (wrote-gear d i m items values seen l f) ∙ e

written-part : (d : Deployed) (i t h g : ℕ) (m n : GearNode) (c : ℕ) (items : Items) (values : List (List ℕ)) (seen : Carried) (r : Answer) (z : Handed) →
    IsGearAnswer d i m (act.Writes c items values) (Plain (OfClient seen (Some t))) r → Passes (act.Writes c items values) (Plain (OfClient seen (Some t))) r z →
    is_first (AtGear i h) (nodes d (act.Writes c items values) (OfClient seen (Some t)) r) ≡ true → has same_node (nodes d (act.Writes c items values) (OfClient seen (Some t)) r) (AtGear i g) ≡ true →
    is_first (AtGear i g) (nodes d (act.Writes c items values) (OfClient seen (Some t)) r) ≡ false → IsPartOf n r (Some h) (home_gear_share (act.Writes c items values) (Plain (OfClient seen (Some t))) r) z
written-part d i t h g m n c items values seen (ans.Wrote l) z w f e s a =
    got-part n (ans.Wrote l) (Some h) z (written_by (input_of (act.Writes c items values) (OfClient seen (Some t))) l) (f l refl) (gear-wrote d i h m c items values seen (Some t) l w (and_parts (t == i) (gear_for d items == h) e).1)
written-part d i t h g m n c items values seen _ z w f e s a = absurd (alone-not (same_node (AtGear t (gear_for d items)) (AtGear i g)) s a)

gear-plain : (d : Deployed) (i h g : ℕ) (m n : GearNode) (a : Act) (x : Given) (r : Answer) (z : Handed) → IsGearAnswer d i m a (Plain x) r → Passes a (Plain x) r z → is_shared a ≡ true →
    is_first (AtGear i h) (nodes d a x r) ≡ true → has same_node (nodes d a x r) (AtGear i g) ≡ true → is_first (AtGear i g) (nodes d a x r) ≡ false → IsPartOf n r (Some h) (home_gear_share a (Plain x) r) z
gear-plain d i h g m n (act.Gather t) x r z w f j e s a = absurd (cc)
gear-plain d i h g m n (act.Turn t) x r z w f j e s a = absurd (cc)
gear-plain d i h g m n (act.Stamp t) x r z w f j e s a = absurd (cc)
gear-plain d i h g m n (act.Writes c items values) (OfClient seen None) r z w f j e s a = absurd (cc)
gear-plain d i h g m n (act.Writes c items values) (OfClient seen (Some t)) r z w f j e s a = written-part d i t h g m n c items values seen r z w f e s a
gear-plain d i h g m n (act.Writes c items values) _ r z w f j e s a = absurd (cc)
gear-plain d i h g m n _ x r z w f j e s a = absurd (cc)

gear-part : (d : Deployed) (i h g : ℕ) (m n : GearNode) (a : Act) (y : Handed) (r : Answer) (z : Handed) → IsGearAnswer d i m a y r → Passes a y r z → is_shared a ≡ true →
    is_first (AtGear i h) (nodes d a (given_of y) r) ≡ true → has same_node (nodes d a (given_of y) r) (AtGear i g) ≡ true → is_first (AtGear i g) (nodes d a (given_of y) r) ≡ false → IsPartOf n r (Some h) (home_gear_share a y r) z
gear-part d i h g m n a (Plain x) r z w f j e s b = gear-plain d i h g m n a x r z w f j e s b
gear-part d i h g m n a (Drains k) r z w f j e s b = absurd w
gear-part d i h g m n a Drained r z w f j e s b = absurd w
gear-part d i h g m n a (Showing p) r z w f j e s b = absurd w

-- ---- lists that fit

same-two : (x o u : Option ℕ) → same_home x o ≡ true → same_home x u ≡ true → o ≡ u
same-two None None None e f = refl
same-two (Some a) (Some b) (Some c) e f = ap Some (sym (eqb-true a b e) ∙ eqb-true a c f)
same-two None None (Some c) e f = absurd (cc)
same-two None (Some b) u e f = absurd (cc)
same-two (Some a) None u e f = absurd (cc)
same-two (Some a) (Some b) None e f = absurd (cc)

from-not : (b : Bool) → not b ≡ true → b ≡ false
from-not true e = absurd (cc)
from-not false e = refl

parts-one : (x y : Piece) (a b : Share) → AreOne x y → a ≡ b → part_of x a ≡ part_of y b
parts-one x y a b one e = λ t. record { number = one.number t; act = one.act t; answer = one.answer t; share = e t }

nodes-at : (d : Deployed) (i g : ℕ) {a b : Act} {x y : Given} {q r : Answer} → a ≡ b → x ≡ y → q ≡ r → is_first (AtGear i g) (nodes d a x q) ≡ is_first (AtGear i g) (nodes d b y r)
nodes-at d i g e f h = λ t. is_first (AtGear i g) (nodes d (e t) (f t) (h t))

module _ (d : Deployed) (lists : Node → List Piece) (sessions : Session → List Piece) (fit : JointFit d lists sessions) where
  -- the piece that a gear has of an act, with what stands before it there
  pub record Copy (i g : ℕ) (o : Option ℕ) (before : List Piece) (k : Piece) : Type 0 where
    pub piece : Piece
    pub later : List Piece
    pub former : List Piece
    pub there : lists (AtGear i g) ≡ later ++ piece ∷ former
    pub one : AreOne piece k
    pub share : gear_share (gear_after d g former) piece.handed ≡ home_share d (home_node i o) before g k
    pub test : is_kept d i g o piece ≡ true

  part-at : (i g : ℕ) (o : Option ℕ) (before former : List Piece) (k j : Piece) → IsHomeAnswer d (home_node i o) before k → HandsOver d (home_node i o) before k (AtGear i g) former j → is_shared k.act ≡ true →
      home_at d (home_node i o) k ≡ true → stands_in d (AtGear i g) k ≡ true → home_at d (AtGear i g) k ≡ false → IsPartOf (gear_after d g former) k.answer o (home_share d (home_node i o) before g k) j.handed
  part-at i g None before former k j w f s h st n = hub-part d i g (hub_after d i before) (gear_after d g former) k.act k.handed k.answer j.handed w f s h st
  part-at i g (Some m) before former k j w f s h st n = gear-part d i m g (gear_after d m before) (gear_after d g former) k.act k.handed k.answer j.handed w f s h st n

  copy-of : (i g : ℕ) (o : Option ℕ) (later before : List Piece) (k : Piece) → lists (home_node i o) ≡ later ++ k ∷ before → home_at d (home_node i o) k ≡ true → stands_in d (AtGear i g) k ≡ true →
      home_at d (AtGear i g) k ≡ false → Copy i g o before k
  copy-of i g o later before k w h s n =
      let shared : is_shared k.act ≡ true = (beside d k.act (given_of k.handed) k.answer (AtGear i g) s n).joint in
      let reply : IsHomeAnswer d (home_node i o) before k = each-of (AnswersAtHome d lists (home_node i o)) later k before (subst (λ (ks : List Piece). EachOf (AnswersAtHome d lists (home_node i o)) ks) w (fit.answers (home_node i o))) h in
      let j : IsJoined d lists (home_node i o) (AtGear i g) before k = each-of (AllJoin d lists (home_node i o)) later k before (subst (λ (ks : List Piece). EachOf (AllJoin d lists (home_node i o)) ks) w (fit.joined (home_node i o))) h (AtGear i g) s n in
      let p : IsPartOf (gear_after d g j.former) k.answer o (home_share d (home_node i o) before g k) j.piece.handed = part-at i g o before j.former k j.piece reply j.hands shared h s n in
      let away : home_at d (AtGear i g) j.piece ≡ false = nodes-at d i g j.one.act p.plain j.one.answer ∙ shared-nothing d k.act k.answer i g shared in
      record {
        piece = j.piece;
        later = j.there.later;
        former = j.former;
        there = j.there.is;
        one = j.one;
        share = p.same;
        test = and_from (not (home_at d (AtGear i g) j.piece)) (same_home (written_at j.piece.answer) o) (ap not away) (ap (λ (r : Answer). same_home (written_at r) o) j.one.answer ∙ p.home);
      }

  abbrev home_by_list : ℕ → ℕ → Option ℕ → List Piece → Piece → Share
  home_by_list i g o before k = home_share d (home_node i o) before g k

  abbrev gear_by_list : ℕ → List Piece → Piece → Share
  gear_by_list g before k = gear_share (gear_after d g before) k.handed

  to-kept : (i g : ℕ) (o : Option ℕ) (p : Part) → In (given_parts d i g o (lists (home_node i o))) p → In (kept_parts d i g o (lists (AtGear i g))) p
  to-kept i g o p w =
      let c : ComesFrom (is_given d i g o) (home_by_list i g o) (lists (home_node i o)) p = from-parts (is_given d i g o) (home_by_list i g o) (lists (home_node i o)) p w in
      let a : (home_at d (home_node i o) c.piece ≡ true) × ((stands_in d (AtGear i g) c.piece && not (home_at d (AtGear i g) c.piece)) ≡ true) = and_parts (home_at d (home_node i o) c.piece) (stands_in d (AtGear i g) c.piece && not (home_at d (AtGear i g) c.piece)) c.test in
      let b : (stands_in d (AtGear i g) c.piece ≡ true) × (not (home_at d (AtGear i g) c.piece) ≡ true) = and_parts (stands_in d (AtGear i g) c.piece) (not (home_at d (AtGear i g) c.piece)) a.1 in
      let k : Copy i g o c.before c.piece = copy-of i g o c.later c.before c.piece c.there a.0 b.0 (from-not (home_at d (AtGear i g) c.piece) b.1) in
      let is : part_of k.piece (gear_by_list g k.former k.piece) ≡ p = parts-one k.piece c.piece (gear_by_list g k.former k.piece) (home_by_list i g o c.before c.piece) k.one k.share ∙ c.part in
      subst (λ (p : Part). In (kept_parts d i g o (lists (AtGear i g))) p) is
      (subst (λ (ks : List Piece). In (kept_parts d i g o ks) (part_of k.piece (gear_by_list g k.former k.piece))) (sym k.there) (in-parts (is_kept d i g o) (gear_by_list g) k.later k.piece k.former k.test))

  -- a home of a gear's piece, which is not its own home, has it in what it kept
  given-at : (i g : ℕ) (o u : Option ℕ) (later former : List Piece) (j : Piece) (k : Piece) → lists (AtGear i g) ≡ later ++ j ∷ former → same_home (written_at j.answer) o ≡ true → In (lists (home_node i u)) k →
      home_at d (home_node i u) k ≡ true → stands_in d (AtGear i g) k ≡ true → home_at d (AtGear i g) k ≡ false → AreOne j k → In (given_parts d i g o (lists (home_node i o))) (part_of j (gear_by_list g former j))
  given-at i g o u later former j k w q there h s n one =
      let st : Stands (lists (home_node i u)) k = in-stands (lists (home_node i u)) k there in
      let c : Copy i g u st.before k = copy-of i g u st.later st.before k st.is h s n in
      let both : (c.piece ≡ j) × (c.former ≡ former) = split-one number_of c.later later c.piece j c.former former (subst (λ (ks : List Piece). Rises number_of ks) c.there (fit.rising (AtGear i g))) (sym c.there ∙ w) (c.one.number ∙ sym one.number) in
      let homes : o ≡ u = same-two (written_at j.answer) o u q (ap (λ (p : Piece). same_home (written_at p.answer) u) (sym both.0) ∙ (and_parts (not (home_at d (AtGear i g) c.piece)) (same_home (written_at c.piece.answer) u) c.test).1) in
      let test : is_given d i g u k ≡ true = and_from (home_at d (home_node i u) k) (stands_in d (AtGear i g) k && not (home_at d (AtGear i g) k)) h (and_from (stands_in d (AtGear i g) k) (not (home_at d (AtGear i g) k)) s (ap not n)) in
      let is : part_of k (home_by_list i g u st.before k) ≡ part_of j (gear_by_list g former j) =
      parts-one k j (home_by_list i g u st.before k) (gear_by_list g former j) (record { number = sym one.number; act = sym one.act; answer = sym one.answer }) (sym c.share ∙ (λ t. gear_by_list g (both.1 t) (both.0 t))) in
      subst (λ (o : Option ℕ). In (given_parts d i g o (lists (home_node i o))) (part_of j (gear_by_list g former j))) (sym homes)
      (subst (λ (p : Part). In (given_parts d i g u (lists (home_node i u))) p) is
      (subst (λ (ks : List Piece). In (given_parts d i g u ks) (part_of k (home_by_list i g u st.before k))) (sym st.is) (in-parts (is_given d i g u) (home_by_list i g u) st.later k st.before test)))

  to-given : (i g : ℕ) (o : Option ℕ) (p : Part) → In (kept_parts d i g o (lists (AtGear i g))) p → In (given_parts d i g o (lists (home_node i o))) p
  to-given i g o p w =
      let c : ComesFrom (is_kept d i g o) (gear_by_list g) (lists (AtGear i g)) p = from-parts (is_kept d i g o) (gear_by_list g) (lists (AtGear i g)) p w in
      let a : (not (home_at d (AtGear i g) c.piece) ≡ true) × (same_home (written_at c.piece.answer) o ≡ true) = and_parts (not (home_at d (AtGear i g) c.piece)) (same_home (written_at c.piece.answer) o) c.test in
      let away : home_at d (AtGear i g) c.piece ≡ false = from-not (home_at d (AtGear i g) c.piece) a.0 in
      let there : In (lists (AtGear i g)) c.piece = in-list (lists (AtGear i g)) c.piece c.later c.before c.there in
      subst (λ (p : Part). In (given_parts d i g o (lists (home_node i o))) p) c.part (go c.later c.before c.piece c.there a.1 away there (fit.placed (AtGear i g) c.piece there))
    where
      right : (later : List Piece) (k : Piece) (before : List Piece) → In (later ++ k ∷ before) k
      right [] k before = inl refl
      right (x ∷ later) k before = inr (right later k before)

      in-list : (ks : List Piece) (k : Piece) (later before : List Piece) → ks ≡ later ++ k ∷ before → In ks k
      in-list ks k later before e = subst (λ (xs : List Piece). In xs k) (sym e) (right later k before)

      both-not : (b : Bool) → b ≡ true → b ≡ false → ⊥
      both-not true e f = cc
      both-not false e f = cc

      -- the home of the act is not the gear itself
      not-own : (j k : Piece) (q : Node) → In (lists (AtGear i g)) j → home_at d (AtGear i g) j ≡ false → In (lists q) k → home_at d q k ≡ true → AreOne j k → (b : Bool) → home_at d (AtGear i g) k ≡ b → b ≡ false
      not-own j k q here away there h one false e = refl
      not-own j k q here away there h one true e =
          let is : q ≡ AtGear i g = home-one (nodes d k.act (given_of k.handed) k.answer) q (AtGear i g) h e in
          let same : j ≡ k = rises-one number_of (lists (AtGear i g)) j k (fit.rising (AtGear i g)) here (subst (λ (q : Node). In (lists q) k) is there) one.number in
          absurd (both-not (home_at d (AtGear i g) k) e (ap (λ (k : Piece). home_at d (AtGear i g) k) (sym same) ∙ away))

      go : (later former : List Piece) (j : Piece) → lists (AtGear i g) ≡ later ++ j ∷ former → same_home (written_at j.answer) o ≡ true → home_at d (AtGear i g) j ≡ false → In (lists (AtGear i g)) j →
          (home_at d (AtGear i g) j ≡ true) ⊎ HasHome d lists (AtGear i g) j → In (given_parts d i g o (lists (home_node i o))) (part_of j (gear_by_list g former j))
      go later former j w q away here (inl e) = absurd (both-not (home_at d (AtGear i g) j) e away)
      go later former j w q away here (inr h) =
          let k : Piece = h.1 in
          let own : home_at d (AtGear i g) k ≡ false = not-own j k h.0 here away h.2 h.3 h.5 (home_at d (AtGear i g) k) refl in
          let b : IsBeside (AtGear i g) k.act = beside d k.act (given_of k.handed) k.answer (AtGear i g) h.4 own in
          let home : home_at d (home_by d k.act i) k ≡ true = shared-home d k.act i g (given_of k.handed) k.answer b.joint h.4 in
          let node : (u : Option ℕ) × (home_by d k.act i ≡ home_node i u) = shared-node d k.act i in
          let is : h.0 ≡ home_node i node.0 = home-one (nodes d k.act (given_of k.handed) k.answer) h.0 (home_by d k.act i) h.3 home ∙ node.1 in
          given-at i g o node.0 later former j k w q (subst (λ (q : Node). In (lists q) k) is h.2) (ap (λ (q : Node). home_at d q k) (sym is) ∙ h.3) h.4 own h.5

  exact : PartsAgree d lists
  exact i g o =
      same-lists part_number (given_parts d i g o (lists (home_node i o))) (kept_parts d i g o (lists (AtGear i g)))
      (rise (is_given d i g o) (home_by_list i g o) (lists (home_node i o)) (fit.rising (home_node i o))) (rise (is_kept d i g o) (gear_by_list g) (lists (AtGear i g)) (fit.rising (AtGear i g)))
      (λ p w. to-kept i g o p w) (λ p w. to-given i g o p w)

pub parts-are-exact : PartsAreExact
parts-are-exact d lists sessions fit = exact d lists sessions fit
