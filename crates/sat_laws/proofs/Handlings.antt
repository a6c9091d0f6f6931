-- What an entry that handles a label tells.
use Rattle.std.specs.Prelude.{◌≡◌, ◌<◌, ℕ, Bool, true, false, ◌||◌, List, Option, Some, None, refl, ◌==◌}
use Rattle.std.proofs.Common.{sym, subst, ap, ◌∙◌}
use Rattle.sat_label.proofs.Truth.{same-number, some_if}
use Rattle.sat_label.specs.declared.label.Label.{Label}
use Rattle.sat_label.specs.declared.node.NodeId.{NodeId}
use Rattle.sat_label.specs.declared.node.NodeId.TheVariants.{Site, Serializer}
use Rattle.sat_tree.specs.Shape.{TreeShape}
use Rattle.sat_tree.specs.Cut.{is_edge, hangs_on, over, seat_of}
use Rattle.sat_act.specs.declared.act.Act.{Act}
use Rattle.sat_act.specs.declared.act.Act.TheVariants as act
use Rattle.sat_act.specs.declared.answer.Answer.{Answer}
use Rattle.sat_act.specs.declared.answer.Answer.TheVariants as ans
use Rattle.sat_act.specs.declared.entry.Entry.{Entry}
use Rattle.sat_act.specs.Deployed.{Deployed}
use Rattle.sat_act.specs.Parts.{Handling, handling, tree_of, link_front, seat_in, view, emission, sent_entry}
use Rattle.sat_act.specs.Answers.{InRange}
use Rattle.sat_laws.proofs.Steps.{Step, emitted, pulsed, closed, hopped, showed_turn, took}
use Rattle.sat_laws.proofs.Runs.{entry}
use Rattle.sat_laws.proofs.Labels.{some_is}

abbrev pub handled_as : ℕ → NodeId → Option NodeId → Label → Handling
handled_as e u o l = record { epoch = e; node = u; from = o; label = l }

-- how a node handles a label: its own, or the front of a link
pub data HandlingView (d : Deployed) (h : List Entry) (x : Entry) : Handling → Type 0 where
  sends : (i : ℕ) (l : Label) → i < d.sites → sent_entry i h x ≡ Some l → HandlingView d h x (handled_as (emission h i) (Site i) None l)
  passes : (e : ℕ) (t : TreeShape) (u v : NodeId) (l : Label) → tree_of d e ≡ Some t → is_edge t u v ≡ true → link_front d h e t u v ≡ Some l → HandlingView d h x (handled_as e v (Some u) l)

pub seat-edge : (t : TreeShape) (j : ℕ) → is_edge t (Serializer (seat_of t j)) (Site j) ≡ true
unfolding is_edge hangs_on over
seat-edge t j = go (seat_of t j == seat_of t j) (same-number (seat_of t j))
  where
    go : (b : Bool) → b ≡ true → (false || (b || false)) ≡ true
    go true e = refl
    go false e = e

pub seat-is : (d : Deployed) (e j : ℕ) (t : TreeShape) (z : NodeId) → tree_of d e ≡ Some t → seat_in d e j ≡ Some z → z ≡ Serializer (seat_of t j)
unfolding seat_in
seat-is d e j t z k s = go (tree_of d e) k s
  where
    go : (o : Option TreeShape) → o ≡ Some t → elim o [ None ↦ None | Some t ↦ Some (Serializer (seat_of t j)) ] ≡ Some z → z ≡ Serializer (seat_of t j)
    go None a b = absurd (cc)
    go (Some y) a b = sym (some_is (Serializer (seat_of y j)) z b) ∙ ap (λ (t : TreeShape). Serializer (seat_of t j)) (some_is y t a)

turn-view : (d : Deployed) (h : List Entry) (x : Entry) (j : ℕ) (t : TreeShape) (z : NodeId) (l : Label) → tree_of d (view h j) ≡ Some t → seat_in d (view h j) j ≡ Some z → link_front d h (view h j) t z (Site j) ≡ Some l →
    HandlingView d h x (handled_as (view h j) (Site j) (seat_in d (view h j) j) l)
turn-view d h x j t z l k s w =
    subst (λ (o : Option NodeId). HandlingView d h x (handled_as (view h j) (Site j) o l)) (sym s)
    (passes (view h j) t z (Site j) l k (subst (λ (n : NodeId). is_edge t n (Site j) ≡ true) (sym (seat-is d (view h j) j t z k s)) (seat-edge t j)) w)

pub same-tree : (d : Deployed) (e : ℕ) (t u : TreeShape) → tree_of d e ≡ Some t → tree_of d e ≡ Some u → t ≡ u
same-tree d e t u a b = some_is t u (sym a ∙ b)

pub handling-view : (d : Deployed) (h : List Entry) (a : Act) (r : Answer) (n : Bool) (y : Handling) → InRange d a → Step d h a r → handling d h (entry a r n) ≡ Some y → HandlingView d h (entry a r n) y
unfolding handling
handling-view d h a r n y range (emitted {i = i} {l = l} q) e =
    subst (HandlingView d h (entry (act.Emit i) (ans.Emitted l) n)) (some_is _ y e) (sends i l range (some_if (i == i) l (same-number i)))
handling-view d h a r n y range (pulsed {i = i} q p) e =
    subst (HandlingView d h (entry (act.Pulse i) _ n)) (some_is _ y e) (sends i _ range (some_if (i == i) _ (same-number i)))
handling-view d h a r n y range (closed {i = i} q p) e =
    subst (HandlingView d h (entry (act.Close i) _ n)) (some_is _ y e) (sends i _ range (some_if (i == i) _ (same-number i)))
handling-view d h a r n y range (hopped {e = f} {z = z} {u = u} {t = t} {l = l} k w) e =
    subst (HandlingView d h (entry (act.Hop f u z) _ n)) (some_is _ y e)
    (passes f t u (Serializer z) l k (subst (λ (s : TreeShape). is_edge s u (Serializer z) ≡ true) (same-tree d f range.0 t range.1 k) range.2) w)
handling-view d h a r n y range (showed_turn {j = j} {t = t} {z = z} {l = l} m k s w p q) e =
    subst (HandlingView d h (entry (act.Turn j) (ans.Shown l) n)) (some_is _ y e) (turn-view d h _ j t z l k s w)
handling-view d h a r n y range (took {j = j} {t = t} {z = z} {l = l} m k s w p) e =
    subst (HandlingView d h (entry (act.Turn j) (ans.Took l) n)) (some_is _ y e) (turn-view d h _ j t z l k s w)
handling-view d h a r n y range _ e = absurd (cc)
