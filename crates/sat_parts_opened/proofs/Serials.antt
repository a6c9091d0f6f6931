-- What serializers kept, as pieces of acts.
use Rattle.std.proofs.Common.{◌≡◌, ◌<◌, ℕ, true, ◌==◌, List, [], ◌∷◌, refl, sym, ap, subst, inl, inr}
use Rattle.std.proofs.lemmas.Bool.{and_from}
use Rattle.sat_label.proofs.Truth.{same-number}
use Rattle.sat_label.specs.Members.{In}
use Rattle.sat_label.specs.declared.node.NodeName.TheVariants as named
use Rattle.sat_act.specs.declared.answer.Answer.{Answer}
use Rattle.sat_act.specs.Deployed.{Deployed}
use Rattle.sat_act.specs.Answers.{InRange}
use Rattle.sat_node.specs.declared.kept.Kept.{Kept as Line}
use Rattle.sat_node.specs.Links.{HeldSeen}
use Rattle.sat_stitch.specs.Kept.{Kept, Each, Rising}
use Rattle.sat_stitch.specs.Places.{AtSerializer}
use Rattle.sat_stitch.specs.Nodes.{IsAnswerAt, IsSerialAnswer, dead_after, stands}
use Rattle.sat_joint.specs.Pieces.{EachOf, Piece, Rises, number_of, plains}
use Rattle.sat_joint.specs.Table.{AtSerial, Node, home_at, is_first, nodes}
use Rattle.sat_joint.specs.Joint.{AnswersAtHome}
use Rattle.sat_hub_laws.specs.Laws.{IsOtherList}
use Rattle.sat_machines.specs.declared.serial_act.SerialAct.{SerialAct}
use Rattle.sat_machines.specs.declared.serial_act.SerialAct.TheVariants as serial
use Rattle.sat_machines.specs.declared.serial_act.SerialAnswer.{SerialAnswer}
use Rattle.sat_opened.specs.Fits.{FitsPlace}
use Rattle.sat_opened.specs.Keeping.{newest, serial_act, serial_given, serial_kept}
use Rattle.sat_opened.specs.Opened.{entries_at}
use Rattle.sat_opened.proofs.Found.{look-up}
use Rattle.sat_opened.proofs.SerialHosts.{SerialAt, SerialHosts, serial-at, serial-place}
use Rattle.sat_opened.proofs.SerialKept.{SerialStep}
use Rattle.sat_opened.proofs.Walks.{Along, Comes, in-newest}
use Rattle.sat_parts_opened.specs.Opened.{piece_of, pieces_of}

-- ---- pieces of acts of one node

pub plains-are : (ks : List Kept) → plains (pieces_of ks) ≡ ks
plains-are [] = refl
plains-are (k ∷ ks) = ap (λ (xs : List Kept). k ∷ xs) (plains-are ks)

-- a piece comes from what was kept
abbrev IsPieceOf : List Kept → Piece → Type 0
IsPieceOf ks p = (k : Kept) × In ks k × (piece_of k ≡ p)

from-piece : (ks : List Kept) (p : Piece) → In (pieces_of ks) p → IsPieceOf ks p
from-piece [] p m = absurd m
from-piece (k ∷ ks) p (inl e) = (k, inl refl, e)
from-piece (k ∷ ks) p (inr m) = (let w : IsPieceOf ks p = from-piece ks p m in (w.0, inr w.1, w.2))

each-piece : (P : Piece → Type 0) (ks : List Kept) → ((k : Kept) → In ks k → P (piece_of k)) → (p : Piece) → In (pieces_of ks) p → P p
each-piece P ks f p m = (let w : IsPieceOf ks p = from-piece ks p m in subst P w.2 (f w.0 w.1))

pieces-rise : (ks : List Kept) → Rising ks → Rises number_of (pieces_of ks)
pieces-rise [] r = tt
pieces-rise (k ∷ ks) r = (pieces-rise ks r.0, each-piece (λ p. number_of p < k.number) ks r.1)

-- ---- serializers

module _ (d : Deployed) (e z : ℕ) where
  pieces-answer : (lists : Node → List Piece) (ks : List Kept) → Each (IsAnswerAt d (AtSerializer e z)) ks → EachOf (AnswersAtHome d lists (AtSerial e z)) (pieces_of ks)
  pieces-answer lists [] a = tt
  pieces-answer lists (k ∷ ks) a = (
    pieces-answer lists ks a.0,
    λ h. subst (λ (before : List Kept). IsSerialAnswer d e z (dead_after e z before) k.act k.given k.answer) (sym (plains-are ks)) a.1,
  )

  pub serial-home : (act : SerialAct) (r : Answer) → is_first (AtSerial e z) (nodes d (serial_act e z act) (serial_given act) r) ≡ true
  serial-home (serial.Hop u l) r = and_from (e == e) (z == z) (same-number e) (same-number z)
  serial-home serial.Kill r = and_from (e == e) (z == z) (same-number e) (same-number z)

  other-list : (es : List (Line SerialAct SerialAnswer)) → FitsPlace d (AtSerializer e z) (newest (serial_kept e z) es) → Along (serial_kept e z) (SerialStep d e z) [] es → IsOtherList d (AtSerial e z) (pieces_of (newest (serial_kept e z) es))
  other-list es fits steps = record {
    rising = pieces-rise (newest (serial_kept e z) es) fits.rising;
    placed = each-piece (λ p. home_at d (AtSerial e z) p ≡ true) (newest (serial_kept e z) es)
        (λ k m. let c : Comes (serial_kept e z) (SerialStep d e z) es k = in-newest (serial_kept e z) (SerialStep d e z) es k steps m in subst (λ (k : Kept). home_at d (AtSerial e z) (piece_of k) ≡ true) c.4 (serial-home c.1.input c.1.answer.answer));
    ranges = each-piece (λ p. InRange d p.act) (newest (serial_kept e z) es) fits.ranges;
    answers = pieces-answer (λ p. pieces_of (newest (serial_kept e z) es)) (newest (serial_kept e z) es) fits.answers;
    standing = each-piece (λ p. stands p.answer ≡ true) (newest (serial_kept e z) es) fits.standing;
  }

  no-list : IsOtherList d (AtSerial e z) []
  no-list = record { rising = tt; placed = λ k m. absurd m; ranges = λ k m. absurd m; answers = tt; standing = λ k m. absurd m }

pub of-serials : {K : Type 0} (d : Deployed) (serials : List (HeldSeen K SerialAct SerialAnswer)) → SerialHosts d serials → (e z : ℕ) → IsOtherList d (AtSerial e z) (pieces_of (newest (serial_kept e z) (entries_at (named.Serializer e z) serials)))
of-serials {K} d serials all e z = elim (look-up (named.Serializer e z) serials) [
  | inr none ↦ subst (λ (ls : List (Line SerialAct SerialAnswer)). IsOtherList d (AtSerial e z) (pieces_of (newest (serial_kept e z) ls))) (sym none) (no-list d e z)
  | inl f ↦
      let s : SerialAt d serials all e z = serial-at d serials all e z f in
      subst (λ (ls : List (Line SerialAct SerialAnswer)). IsOtherList d (AtSerial e z) (pieces_of (newest (serial_kept e z) ls))) (sym s.found.entries_are)
      (other-list d e z s.found.held.node.entries
      (subst (λ (ls : List (Line SerialAct SerialAnswer)). FitsPlace d (AtSerializer e z) (newest (serial_kept e z) ls)) s.found.entries_are (serial-place d serials all e z)) s.steps)
]
