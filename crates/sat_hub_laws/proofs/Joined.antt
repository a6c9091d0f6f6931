-- Journals of hubs and gears that fit are lists of pieces of acts that fit.
use Rattle.std.specs.Prelude.{◌≡◌, ◌⊎◌, ◌<◌, ◌≤◌, ℕ, Bool, true, false, ◌&&◌, ◌==◌, nat_le, nat_lt, not, List, [], ◌∷◌, length, refl}
use Rattle.std.proofs.Common.{sym, subst, ap, ◌∙◌, arith, inl, inr}
use Rattle.std.proofs.lemmas.Bool.{and_parts, eqb-true}
use Rattle.std.proofs.lemmas.Bool.Decides.{nat_tests}
use Rattle.sat_label.specs.Grouped.{are_items, list_of}
use Rattle.sat_label.specs.Members.{In}
use Rattle.sat_label.specs.declared.items.Items.{Items}
use Rattle.sat_label.specs.declared.items.Items.TheVariants.{One}
use Rattle.sat_label.specs.declared.label.Kind.{Kind}
use Rattle.sat_label.specs.declared.label.Kind.TheVariants as kind
use Rattle.sat_label.specs.declared.limits.TheConstants.{TS_END}
use Rattle.sat_act.specs.declared.answer.Answer.{Answer}
use Rattle.sat_act.specs.Deployed.{Deployed}
use Rattle.sat_act.specs.Answers.{InRange}
use Rattle.sat_bulk.specs.Payloads.{Payload}
use Rattle.sat_model.specs.Fits.{fits, is_carried, is_gear, is_group as is_items, is_other, is_site}
use Rattle.sat_stitch.specs.Nodes.{stands}
use Rattle.sat_stitch.specs.Places.{Session}
use Rattle.sat_joint.specs.Pieces.{Piece, Rises, EachOf, number_of}
use Rattle.sat_joint.specs.Table.{Node, AtHub, AtGear, AtSerial, Alone, home_at}
use Rattle.sat_joint.specs.Machines.{HubState, GearNode, IsGearAnswer, IsHubAnswer, gear_after, hub_after}
use Rattle.sat_joint.specs.Joint.{AnswersAtHome, HasHome, JointFit}
use Rattle.sat_hub_laws.specs.Inputs.{HubInput, GearInput, ShownBy, ByTurn, ByStamp, ByWrite}
use Rattle.sat_hub_laws.specs.Inputs as given
use Rattle.sat_hub_laws.specs.Hubs.{hub_act, hub_answer, hub_fits, hub_handed}
use Rattle.sat_hub_laws.specs.Gears.{gear_act, gear_answer, gear_fits, gear_handed, has_all, is_own, is_shown, is_write, values_of, write_act, written_act}
use Rattle.sat_hub_laws.specs.Lines.{HubLine, GearLine, GearLineAt, HubLineAt, gear_number, gear_piece, gear_pieces, hub_number, hub_piece, hub_pieces, hub_replay, node_lists}
use Rattle.sat_hub_laws.specs.Laws.{JournalsFit, JournalsJoin}
use Rattle.sat_hub_laws.proofs.Lines.{gears-answer, gears-are-homes, gears-replay, hubs-answer, hubs-are-homes, hubs-replay}
use Rattle.sat_hub_laws.proofs.Parts.{parts-have-homes, parts-join}

-- ---- ranges

is-lt : (n m : ℕ) → nat_lt n m ≡ true → n < m
is-lt n m e = grind (arith, nat_tests)

is-le : (n m : ℕ) → nat_le n m ≡ true → n ≤ m
is-le n m e = grind (arith, nat_tests)

not-same : (b : Bool) → not b ≡ true → b ≡ false
not-same true e = absurd (cc)
not-same false e = refl

other-site : (d : Deployed) (i k : ℕ) → is_other d i k ≡ true → (k < d.sites) × ((k == i) ≡ false)
other-site d i k e = let both : (is_site d k ≡ true) × (not (k == i) ≡ true) = and_parts (is_site d k) (not (k == i)) e in (is-lt k d.sites both.0, not-same (k == i) both.1)

turn-about : (i k : ℕ) → (k == i) ≡ false → (i == k) ≡ false
turn-about i k e = grind (arith, nat_tests)

hub-range : (d : Deployed) (i c : ℕ) (h : HubState) (input : HubInput) → i < d.sites → hub_fits d i h input ≡ true → InRange d (hub_act i c input)
unfolding fits
hub-range d i c h (given.Attach seen) l e = l
hub-range d i c h (given.Gather f) l e = l
hub-range d i c h given.Emit l e = l
hub-range d i c h given.Pulse l e = l
hub-range d i c h (given.Turn front) l e = l
hub-range d i c h (given.Bulk from g n p) l e =
    let a : (is_other d i from && is_gear d g) ≡ true = (and_parts (is_other d i from && is_gear d g) _ e).0 in
    let b : (is_other d i from ≡ true) × (is_gear d g ≡ true) = and_parts (is_other d i from) (is_gear d g) a in
    let o : (from < d.sites) × ((from == i) ≡ false) = other-site d i from b.0 in
    (o.0, is-lt g d.gears b.1, l, o.1)
hub-range d i c h (given.Beat j) l e = let o : (j < d.sites) × ((j == i) ≡ false) = other-site d i j e in (l, o.0, turn-about i j o.1)
hub-range d i c h (given.BeatIn from n note) l e = let o : (from < d.sites) × ((from == i) ≡ false) = other-site d i from (and_parts (is_other d i from) _ e).0 in (o.0, l, o.1)
hub-range d i c h given.Stamp l e = l
hub-range d i c h given.Close l e = l
hub-range d i c h given.Fall l e = l
hub-range d i c h given.Advance l e = l

write-range : (d : Deployed) (c : ℕ) (items : Items) (values : List (List ℕ)) → is_write d items values ≡ true → InRange d (write_act c items values)
write-range d c (One x) (value ∷ []) e = tt
write-range d c items values e =
    let both : (is_items d items ≡ true) × ((length values == length (list_of items)) ≡ true) = and_parts (is_items d items) (length values == length (list_of items)) e in
    (eqb-true (length values) (length (list_of items)) both.1, (and_parts (are_items (list_of items)) _ both.0).0)

shown-range : (d : Deployed) (c : ℕ) (p : Payload) (k : Kind) → is_shown d ByWrite p k ≡ true → InRange d (written_act c k (values_of p))
shown-range d c p (kind.Update items) e = write-range d c items (values_of p) (and_parts (is_write d items (values_of p)) (has_all p.values) e).0
shown-range d c p _ e = absurd (cc)

gear-range : (d : Deployed) (i g c : ℕ) (input : GearInput) → i < d.sites → g < d.gears → gear_fits d g input ≡ true → InRange d (gear_act i g c input)
gear-range d i g c (given.Tick ts) l m e = (l, m, is-le ts TS_END e)
gear-range d i g c (given.Write seen items values) l m e =
    write-range d c items values (and_parts (is_write d items values) _ (and_parts (is_carried d seen) (is_write d items values && _) e).1).0
gear-range d i g c (given.Read seen x) l m e = tt
gear-range d i g c (given.Move seen j) l m e = is-lt j d.sites (and_parts (is_site d j) _ (and_parts (is_carried d seen) (is_site d j && _) e).1).0
gear-range d i g c (given.Drain f labels stable) l m e = l
gear-range d i g c (given.Show ByTurn p) l m e = l
gear-range d i g c (given.Show ByStamp p) l m e = l
gear-range d i g c (given.Show ByWrite p) l m e = shown-range d c p p.label.kind e

-- ---- lines as pieces

module _ {X : Type 0} (piece : X → Piece) where
  -- each piece of a list comes from a line
  pub record LineOf (xs : List X) (k : Piece) : Type 0 where
    pub line : X
    pub there : In xs line
    pub is : piece line ≡ k

abbrev HubLineOf : ℕ → List HubLine → Piece → Type 0
HubLineOf i ks k = LineOf (hub_piece i) ks k

abbrev GearLineOf : ℕ → ℕ → List GearLine → Piece → Type 0
GearLineOf i g ks k = LineOf (gear_piece i g) ks k

hub-line : (i : ℕ) (ks : List HubLine) (k : Piece) → In (hub_pieces i ks) k → HubLineOf i ks k
hub-line i [] k w = absurd w
hub-line i (x ∷ ks) k (inl e) = record { line = x; there = inl refl; is = e }
hub-line i (x ∷ ks) k (inr w) = let l : HubLineOf i ks k = hub-line i ks k w in record { line = l.line; there = inr l.there; is = l.is }

gear-line : (i g : ℕ) (ks : List GearLine) (k : Piece) → In (gear_pieces i g ks) k → GearLineOf i g ks k
gear-line i g [] k w = absurd w
gear-line i g (x ∷ ks) k (inl e) = record { line = x; there = inl refl; is = e }
gear-line i g (x ∷ ks) k (inr w) = let l : GearLineOf i g ks k = gear-line i g ks k w in record { line = l.line; there = inr l.there; is = l.is }

hub-rises : (i : ℕ) (ks : List HubLine) → Rises hub_number ks → Rises number_of (hub_pieces i ks)
hub-rises i [] r = tt
hub-rises i (k ∷ ks) r = (hub-rises i ks r.0, λ x w. let l : HubLineOf i ks x = hub-line i ks x w in subst (λ (x : Piece). number_of x < hub_number k) l.is (r.1 l.line l.there))

gear-rises : (i g : ℕ) (ks : List GearLine) → Rises gear_number ks → Rises number_of (gear_pieces i g ks)
gear-rises i g [] r = tt
gear-rises i g (k ∷ ks) r = (gear-rises i g ks r.0, λ x w. let l : GearLineOf i g ks x = gear-line i g ks x w in subst (λ (x : Piece). number_of x < gear_number k) l.is (r.1 l.line l.there))

-- what holds of each line holds of its piece
hub-each : (i : ℕ) (P : List HubLine → HubLine → Type 0) (Q : Piece → Type 0) (ks : List HubLine) → ((before : List HubLine) (k : HubLine) → P before k → Q (hub_piece i k)) → EachOf P ks → (k : Piece) → In (hub_pieces i ks) k → Q k
hub-each i P Q [] f e k w = absurd w
hub-each i P Q (x ∷ ks) f e k (inl w) = subst Q w (f ks x e.1)
hub-each i P Q (x ∷ ks) f e k (inr w) = hub-each i P Q ks f e.0 k w

gear-each : (i g : ℕ) (P : List GearLine → GearLine → Type 0) (Q : Piece → Type 0) (ks : List GearLine) → ((before : List GearLine) (k : GearLine) → P before k → Q (gear_piece i g k)) → EachOf P ks → (k : Piece) → In (gear_pieces i g ks) k → Q k
gear-each i g P Q [] f e k w = absurd w
gear-each i g P Q (x ∷ ks) f e k (inl w) = subst Q w (f ks x e.1)
gear-each i g P Q (x ∷ ks) f e k (inr w) = gear-each i g P Q ks f e.0 k w

-- ---- answers

hub-reply : (d : Deployed) (i : ℕ) (before : List HubLine) (k : HubLine) → HubLineAt d i before k → IsHubAnswer d i (hub_after d i (hub_pieces i before)) (hub_act i k.client k.input) (hub_handed k.input) k.answer
hub-reply d i before k l =
    subst (λ (r : Answer). IsHubAnswer d i (hub_after d i (hub_pieces i before)) (hub_act i k.client k.input) (hub_handed k.input) r) (ap (λ (h : HubState). hub_answer d i h k.input) (hubs-replay d i before) ∙ sym l.answer)
    (hubs-answer d i k.client (hub_after d i (hub_pieces i before)) k.input)

gear-reply : (d : Deployed) (i g : ℕ) (before : List GearLine) (k : GearLine) → GearLineAt d i g before k → is_own d g k.input ≡ true → IsGearAnswer d i (gear_after d g (gear_pieces i g before)) (gear_act i g k.client k.input) (gear_handed i k.input) k.answer
gear-reply d i g before k l own =
    subst (λ (r : Answer). IsGearAnswer d i (gear_after d g (gear_pieces i g before)) (gear_act i g k.client k.input) (gear_handed i k.input) r) (ap (λ (n : GearNode). gear_answer d i n k.input) (gears-replay d i g before) ∙ sym l.answer)
    (gears-answer d i g k.client (gear_after d g (gear_pieces i g before)) k.input own)

module _ (d : Deployed) (lists : Node → List Piece) where
  hub-answers-all : (i : ℕ) (ks : List HubLine) → EachOf (HubLineAt d i) ks → EachOf (AnswersAtHome d lists (AtHub i)) (hub_pieces i ks)
  hub-answers-all i [] e = tt
  hub-answers-all i (k ∷ ks) e = (hub-answers-all i ks e.0, λ h. hub-reply d i ks k e.1)

  gear-answers-all : (i g : ℕ) (ks : List GearLine) → EachOf (GearLineAt d i g) ks → EachOf (AnswersAtHome d lists (AtGear i g)) (gear_pieces i g ks)
  gear-answers-all i g [] e = tt
  gear-answers-all i g (k ∷ ks) e = (gear-answers-all i g ks e.0, λ h. gear-reply d i g ks k e.1 (sym (gears-are-homes d i g k.client k.input k.answer) ∙ h))

-- ---- all nodes

module _ (d : Deployed) (hubs : ℕ → List HubLine) (gears : ℕ → ℕ → List GearLine) (others : Node → List Piece) where
  abbrev lists : Node → List Piece
  lists = node_lists hubs gears others

  module _ (sessions : Session → List Piece) (fit : JournalsFit d hubs gears others sessions) where
    rising-all : (p : Node) → Rises number_of (lists p)
    rising-all (AtHub i) = hub-rises i (hubs i) (fit.of_hubs i).rising
    rising-all (AtGear i g) = gear-rises i g (gears i g) (fit.of_gears i g).rising
    rising-all (AtSerial e z) = (fit.of_serials e z).rising
    rising-all (Alone c) = (fit.of_clients c).rising

    placed-all : (p : Node) (k : Piece) → In (lists p) k → (home_at d p k ≡ true) ⊎ HasHome d lists p k
    placed-all (AtHub i) k w = inl (hub-each i (HubLineAt d i) (λ k. home_at d (AtHub i) k ≡ true) (hubs i) (λ before k l. hubs-are-homes d i k.client k.input k.answer) (fit.of_hubs i).lines k w)
    placed-all (AtGear i g) k w = parts-have-homes d lists fit.parts i g k w
    placed-all (AtSerial e z) k w = inl ((fit.of_serials e z).placed k w)
    placed-all (Alone c) k w = inl ((fit.of_clients c).placed k w)

    ranges-all : (p : Node) (k : Piece) → In (lists p) k → InRange d k.act
    ranges-all (AtHub i) k w = hub-each i (HubLineAt d i) (λ k. InRange d k.act) (hubs i) (λ before k l. hub-range d i k.client (hub_replay d i before) k.input l.site l.fits) (fit.of_hubs i).lines k w
    ranges-all (AtGear i g) k w = gear-each i g (GearLineAt d i g) (λ k. InRange d k.act) (gears i g) (λ before k l. gear-range d i g k.client k.input l.site l.gear l.fits) (fit.of_gears i g).lines k w
    ranges-all (AtSerial e z) k w = (fit.of_serials e z).ranges k w
    ranges-all (Alone c) k w = (fit.of_clients c).ranges k w

    answers-all : (p : Node) → EachOf (AnswersAtHome d lists p) (lists p)
    answers-all (AtHub i) = hub-answers-all d lists i (hubs i) (fit.of_hubs i).lines
    answers-all (AtGear i g) = gear-answers-all d lists i g (gears i g) (fit.of_gears i g).lines
    answers-all (AtSerial e z) = (fit.of_serials e z).answers
    answers-all (Alone c) = (fit.of_clients c).answers

    standing-all : (p : Node) (k : Piece) → In (lists p) k → stands k.answer ≡ true
    standing-all (AtHub i) k w = hub-each i (HubLineAt d i) (λ k. stands k.answer ≡ true) (hubs i) (λ before k l. l.standing) (fit.of_hubs i).lines k w
    standing-all (AtGear i g) k w = gear-each i g (GearLineAt d i g) (λ k. stands k.answer ≡ true) (gears i g) (λ before k l. l.standing) (fit.of_gears i g).lines k w
    standing-all (AtSerial e z) k w = (fit.of_serials e z).standing k w
    standing-all (Alone c) k w = (fit.of_clients c).standing k w

    join-fit : JointFit d lists sessions
    join-fit = record {
      rising = rising-all;
      placed = placed-all;
      ranges = ranges-all;
      answers = answers-all;
      links = fit.links;
      payloads = fit.payloads;
      beats = fit.beats;
      kept = fit.kept;
      known = fit.known;
      standing = standing-all;
      joined = parts-join d lists fit.parts answers-all;
    }

pub journals-join : JournalsJoin
journals-join d hubs gears others sessions fit = join-fit d hubs gears others sessions fit
