-- A serializer's journal as a kept list: whether it is dead, and where its entries stand.
use Rattle.std.proofs.Common.{◌≡◌, ℕ, Bool, true, false, ◌==◌, ◌&&◌, List, [], ◌∷◌, Option, Some, if◌then◌else◌, refl, sym, ap, ◌∙◌, subst}
use Rattle.std.proofs.lemmas.Bool.{and_from}
use Rattle.sat_label.proofs.Truth.{same-number}
use Rattle.sat_label.specs.Members.{In}
use Rattle.sat_label.specs.declared.label.Label.{Label}
use Rattle.sat_label.specs.declared.node.NodeId.{NodeId}
use Rattle.sat_label.specs.declared.node.NodeId.TheVariants.{Serializer}
use Rattle.sat_label.specs.declared.node.NodeName.TheVariants as named
use Rattle.sat_tree.specs.Shape.{TreeShape}
use Rattle.sat_act.specs.declared.answer.Answer.{Answer}
use Rattle.sat_act.specs.declared.answer.Answer.TheVariants as ans
use Rattle.sat_act.specs.declared.answer.Refusal.TheVariants as why
use Rattle.sat_act.specs.Deployed.{Deployed}
use Rattle.sat_act.specs.Parts.{tree_of}
use Rattle.sat_act.specs.Answers.{InRange, refused_if}
use Rattle.sat_model.specs.World.{nodes_for, dead_next}
use Rattle.sat_net.proofs.Edges.{turned-edge}
use Rattle.sat_node.specs.declared.kept.Kept.{Kept as Line}
use Rattle.sat_node.specs.Meanings.{Runs, RunsFrom, Rises}
use Rattle.sat_machines.specs.declared.serial_act.SerialAct.{SerialAct}
use Rattle.sat_machines.specs.declared.serial_act.SerialAct.TheVariants as serial
use Rattle.sat_machines.specs.declared.serial_act.SerialAnswer.{SerialAnswer}
use Rattle.sat_machines.specs.Serials.{SerialFits, SerialAnswers, serial_answer, serial_meaning, dead_after as dead_then}
use Rattle.sat_stitch.specs.Kept.{Kept}
use Rattle.sat_stitch.specs.Places.{Place, AtSerializer, places}
use Rattle.sat_stitch.specs.Nodes.{IsAnswerAt, IsSerialAnswer, hop_in, dead_after, stands}
use Rattle.sat_opened.specs.Keeping.{serial_act, serial_given, serial_kept, newest}
use Rattle.sat_opened.specs.Fits.{FitsPlace}
use Rattle.sat_opened.proofs.Walks.{Along, each-behind, Comes, in-newest, rising-newest}

-- what a serializer does: a dead one handles nothing
pub data Does (d : Deployed) (t : TreeShape) (z : ℕ) : Bool → SerialAct → Answer → Type 0 where
  hops : (u : NodeId) (l : Label) → Does d t z false (serial.Hop u l) (ans.Hopped l (nodes_for d t u z l))
  rests : (u : NodeId) (l : Label) → Does d t z true (serial.Hop u l) (ans.Refused why.Dead)
  dies : Does d t z false serial.Kill ans.Killed
  stays : Does d t z true serial.Kill (ans.Refused why.Already)

does-answer : (d : Deployed) (t : TreeShape) (z : ℕ) (dead : Bool) (act : SerialAct) → Does d t z dead act (serial_answer d t z dead act)
does-answer d t z true (serial.Hop u l) = rests u l
does-answer d t z false (serial.Hop u l) = hops u l
does-answer d t z true serial.Kill = stays
does-answer d t z false serial.Kill = dies

does : (d : Deployed) (t : TreeShape) (z : ℕ) (dead : Bool) (act : SerialAct) (r : Answer) → r ≡ serial_answer d t z dead act → Does d t z dead act r
does d t z dead act r e = subst (Does d t z dead act) (sym e) (does-answer d t z dead act)

-- ---- each entry

pub record SerialStep (d : Deployed) (e z : ℕ) (ks : List Kept) (k : Line SerialAct SerialAnswer) : Type 0 where
  pub fits_there : SerialFits d e z k.input
  pub answers_there : SerialAnswers d e z (dead_after e z ks) k.input k.answer
  pub does_there : Does d answers_there.tree z (dead_after e z ks) k.input k.answer.answer

killed-here : (b c : Bool) → b ≡ true → true ≡ (if b then true else c)
killed-here true c e = refl
killed-here false c e = absurd (cc)

then-dead : (d : Deployed) (t : TreeShape) (e z : ℕ) (dead : Bool) (act : SerialAct) (r : Answer) → Does d t z dead act r → dead_then dead r ≡ dead_next e z dead (serial_act e z act) r
then-dead d t e z dead act r (hops u l) = refl
then-dead d t e z dead act r (rests u l) = refl
then-dead d t e z dead act r dies = killed-here ((e == e) && (z == z)) false (and_from (e == e) (z == z) (same-number e) (same-number z))
then-dead d t e z dead act r stays = refl

serial-along : (d : Deployed) (e z : ℕ) (ks : List Kept) (es : List (Line SerialAct SerialAnswer)) → RunsFrom (serial_meaning d) (named.Serializer e z) (dead_after e z ks) es → Along (serial_kept e z) (SerialStep d e z) ks es
unfolding dead_after
serial-along d e z ks [] runs = tt
serial-along d e z ks (k ∷ es) runs =
    let does_so : Does d runs.1.tree z (dead_after e z ks) k.input k.answer.answer = does d runs.1.tree z (dead_after e z ks) k.input k.answer.answer runs.1.answer in (
      record { fits_there = runs.0; answers_there = runs.1; does_there = does_so },
      serial-along d e z (serial_kept e z k ∷ ks) es
          (subst (λ (dead : Bool). RunsFrom (serial_meaning d) (named.Serializer e z) dead es) (then-dead d runs.1.tree e z (dead_after e z ks) k.input k.answer.answer does_so) runs.2),
    )

pub serial-steps : (d : Deployed) (e z : ℕ) (es : List (Line SerialAct SerialAnswer)) → Runs (serial_meaning d) (named.Serializer e z) es → Along (serial_kept e z) (SerialStep d e z) [] es
unfolding dead_after
serial-steps d e z es runs = serial-along d e z [] es runs

-- ---- places, ranges and answers

placed-at : (e z : ℕ) (act : SerialAct) → places (serial_act e z act) (serial_given act) ≡ AtSerializer e z ∷ []
placed-at e z (serial.Hop u l) = refl
placed-at e z serial.Kill = refl

in-range : (d : Deployed) (e z : ℕ) (act : SerialAct) → SerialFits d e z act → InRange d (serial_act e z act)
in-range d e z (serial.Hop u l) f = (f.0, f.1, turned-edge f.0 u (Serializer z) ∙ f.2.neighbour.edge)
in-range d e z serial.Kill f = tt

stood : (d : Deployed) (t : TreeShape) (z : ℕ) (dead : Bool) (act : SerialAct) (r : Answer) → Does d t z dead act r → stands r ≡ true
stood d t z dead act r (hops u l) = refl
stood d t z dead act r (rests u l) = refl
stood d t z dead act r dies = refl
stood d t z dead act r stays = refl

answer-is : (d : Deployed) (e z : ℕ) (dead : Bool) (act : SerialAct) (t : TreeShape) (r : Answer) → tree_of d e ≡ Some t → r ≡ serial_answer d t z dead act → IsSerialAnswer d e z dead (serial_act e z act) (serial_given act) r
answer-is d e z dead (serial.Hop u l) t r tree w = w ∙ ap (λ (o : Option TreeShape). refused_if dead why.Dead (hop_in d o u z (Some l))) (sym tree)
answer-is d e z dead serial.Kill t r tree w = w

serial-answer : (d : Deployed) (e z : ℕ) (b : List Kept) (k : Line SerialAct SerialAnswer) → SerialStep d e z b k → IsAnswerAt d (AtSerializer e z) b (serial_kept e z k)
serial-answer d e z b k step = answer-is d e z (dead_after e z b) k.input step.answers_there.tree k.answer.answer step.answers_there.is_tree step.answers_there.answer

-- the list of a serializer that was opened fits its place. A hop at a dead one may be an entry: it is refused, and takes nothing
pub serial-fits : (d : Deployed) (e z : ℕ) (es : List (Line SerialAct SerialAnswer)) → Runs (serial_meaning d) (named.Serializer e z) es → Rises 0 es → FitsPlace d (AtSerializer e z) (newest (serial_kept e z) es)
serial-fits d e z es runs rises = record {
  rising = rising-newest (serial_kept e z) (λ x. refl) es rises;
  placed = λ k m. let c : Comes (serial_kept e z) (SerialStep d e z) es k = comes k m in subst (λ (k : Kept). places k.act k.given ≡ AtSerializer e z ∷ []) c.4 (placed-at e z c.1.input);
  ranges = λ k m. let c : Comes (serial_kept e z) (SerialStep d e z) es k = comes k m in subst (λ (k : Kept). InRange d k.act) c.4 (in-range d e z c.1.input c.3.fits_there);
  answers = each-behind (serial_kept e z) (IsAnswerAt d (AtSerializer e z)) (SerialStep d e z) [] es (λ b x m step. serial-answer d e z b x step) tt (serial-steps d e z es runs);
  standing = λ k m. let c : Comes (serial_kept e z) (SerialStep d e z) es k = comes k m in subst (λ (k : Kept). stands k.answer ≡ true) c.4 (stood d c.3.answers_there.tree z (dead_after e z c.0) c.1.input c.1.answer.answer c.3.does_there);
}
  where
    comes : (k : Kept) → In (newest (serial_kept e z) es) k → Comes (serial_kept e z) (SerialStep d e z) es k
    comes k m = in-newest (serial_kept e z) (SerialStep d e z) es k (serial-steps d e z es runs) m

-- the list of a node that there is not
pub nothing-fits : (d : Deployed) (p : Place) → FitsPlace d p []
nothing-fits d p = record { rising = tt; placed = λ k m. absurd m; ranges = λ k m. absurd m; answers = tt; standing = λ k m. absurd m }
