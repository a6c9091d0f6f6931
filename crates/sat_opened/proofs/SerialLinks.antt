-- What a serializer's entries put on its links and take from them is what the history says.
use Rattle.std.proofs.Common.{◌≡◌, ℕ, Bool, true, false, ◌==◌, ◌&&◌, ◌||◌, not, List, [], ◌∷◌, filter, Option, Some, None, slice_get, if◌then◌else◌, refl, sym, ap, ◌∙◌, subst, inl, inr}
use Rattle.std.proofs.lemmas.Bool.{and_from, or_left, or_right}
use Rattle.sat_label.proofs.Members.{In-get, In-filter, into-filter}
use Rattle.sat_label.proofs.SameNodes.{same-node, node-self}
use Rattle.sat_label.proofs.Truth.{same-number, same-test}
use Rattle.sat_label.specs.Members.{In}
use Rattle.sat_label.specs.Order.{node_eq}
use Rattle.sat_label.specs.Words.{has}
use Rattle.sat_label.specs.declared.label.Label.{Label}
use Rattle.sat_label.specs.declared.node.NodeId.{NodeId}
use Rattle.sat_label.specs.declared.node.NodeId.TheVariants.{Site, Serializer}
use Rattle.sat_tree.specs.Shape.{TreeShape}
use Rattle.sat_tree.specs.Cut.{neighbours, IsNode}
use Rattle.sat_act.specs.declared.answer.Answer.{Answer}
use Rattle.sat_act.specs.declared.answer.Answer.TheVariants as ans
use Rattle.sat_act.specs.declared.entry.Entry.{Entry}
use Rattle.sat_act.specs.Deployed.{Deployed}
use Rattle.sat_act.specs.Parts.{handling, tree_of, goes_beyond, entered_entry, taken_entry}
use Rattle.sat_laws.proofs.Labels.{some_is}
use Rattle.sat_laws.proofs.Runs.{entry}
use Rattle.sat_node.specs.declared.kept.Kept.{Kept as Line}
use Rattle.sat_node.specs.declared.kept.Body.TheVariants as body
use Rattle.sat_node.specs.declared.kept.Made.TheVariants as made
use Rattle.sat_machines.specs.declared.serial_act.SerialAct.{SerialAct}
use Rattle.sat_machines.specs.declared.serial_act.SerialAct.TheVariants as serial
use Rattle.sat_machines.specs.declared.serial_act.SerialAnswer.{SerialAnswer}
use Rattle.sat_machines.specs.Serials.{SerialFits, hopped_to, hop_takes, serial_puts, serial_takes}
use Rattle.sat_stitch.specs.Kept.{Kept, history}
use Rattle.sat_stitch.specs.Nodes.{put_on, took_from, dead_after}
use Rattle.sat_opened.specs.Keeping.{serial_act, serial_kept}
use Rattle.sat_opened.proofs.Numbers.{same-turned}
use Rattle.sat_opened.proofs.Handings.{label_made, label_body}
use Rattle.sat_opened.proofs.SerialKept.{Does, hops, rests, dies, stays, SerialStep}

-- ---- nodes of a list

node-first : (x v : NodeId) (xs : List NodeId) (b : Bool) → node_eq x v ≡ b → (has node_eq xs v ≡ true → In xs v) → (b || has node_eq xs v) ≡ true → In (x ∷ xs) v
node-first x v xs true e f w = inl (same-node x v e)
node-first x v xs false e f w = inr (f w)

node-in : (xs : List NodeId) (v : NodeId) → has node_eq xs v ≡ true → In xs v
node-in [] v e = absurd (cc)
node-in (x ∷ xs) v e = node-first x v xs (node_eq x v) refl (node-in xs v) e

in-node : (xs : List NodeId) (v : NodeId) → In xs v → has node_eq xs v ≡ true
in-node [] v i = absurd i
in-node (x ∷ xs) v (inl e) = or_left (node_eq x v) (has node_eq xs v) (ap (λ (n : NodeId). node_eq n v) e ∙ node-self v)
in-node (x ∷ xs) v (inr i) = or_right (node_eq x v) (has node_eq xs v) (in-node xs v i)

-- of the members that pass, one is there exactly where it passes
passes-there : (p : NodeId → Bool) (xs : List NodeId) (v : NodeId) → In xs v → has node_eq (filter p xs) v ≡ p v
passes-there p xs v i = same-test (has node_eq (filter p xs) v) (p v) (λ e. (In-filter p xs v (node-in (filter p xs) v e)).1) (λ e. in-node (filter p xs) v (into-filter p xs v i e))

node-turned : (u v : NodeId) → node_eq u v ≡ node_eq v u
node-turned (Site i) (Site k) = same-turned i k
node-turned (Serializer y) (Serializer z) = same-turned y z
node-turned (Site i) (Serializer z) = refl
node-turned (Serializer y) (Site k) = refl

-- ---- by the answer

abbrev hop_out : NodeId → Answer → Option Label
hop_out v (ans.Hopped l to) = if has node_eq to v then Some l else None
hop_out v _ = None

abbrev hop_over : NodeId → NodeId → Answer → Option Label
hop_over v u (ans.Hopped l to) = if node_eq u v then Some l else None
hop_over v u _ = None

abbrev over_by : NodeId → SerialAct → Answer → Option Label
over_by v (serial.Hop u l) r = hop_over v u r
over_by v serial.Kill r = None

made-if : (b : Bool) (l : Label) → (if b then Some (made.Label l) else None) ≡ label_made (if b then Some l else None)
made-if true l = refl
made-if false l = refl

body-if : (b c : Bool) (l : Label) → b ≡ c → (if b then Some (body.Label l) else None) ≡ label_body (if c then Some l else None)
body-if true true l e = refl
body-if false false l e = refl
body-if true false l e = absurd (cc)
body-if false true l e = absurd (cc)

out-made : (v : NodeId) (r : Answer) → hopped_to (Some v) r ≡ label_made (hop_out v r)
out-made v (ans.Hopped l to) = made-if (has node_eq to v) l
out-made v _ = refl

over-body : (v u : NodeId) (r : Answer) → hop_takes (Some v) u r ≡ label_body (hop_over v u r)
over-body v u (ans.Hopped l to) = body-if (node_eq v u) (node_eq u v) l (node-turned v u)
over-body v u _ = refl

taken-over : (k : ℕ) (v : NodeId) (act : SerialAct) (a : SerialAnswer) → slice_get a.ends k ≡ Some v → serial_takes k act a ≡ label_body (over_by v act a.answer)
taken-over k v (serial.Hop u l) a e = ap (λ (o : Option NodeId). hop_takes o u a.answer) e ∙ over-body v u a.answer
taken-over k v serial.Kill a e = refl

-- ---- by the history

both-true : (b c : Bool) (l : Label) → b ≡ true → (if b && c then Some l else None) ≡ (if c then Some l else None)
both-true true c l e = refl
both-true false c l e = absurd (cc)

here-is : (e z : ℕ) → ((e == e) && (z == z)) ≡ true
here-is e z = and_from (e == e) (z == z) (same-number e) (same-number z)

module _ (d : Deployed) (e z : ℕ) (t : TreeShape) (v : NodeId) (h : List Entry) where
  enters : (dead : Bool) (act : SerialAct) (r : Answer) → Does d t z dead act r → In (neighbours t z) v → entered_entry d e t (Serializer z) v h (entry (serial_act e z act) r false) ≡ hop_out v r
  unfolding handling
  enters dead act r (hops u l) i =
      both-true ((e == e) && (z == z)) (not (node_eq u v) && goes_beyond d t (Serializer z) v l) l (here-is e z) ∙
      ap (λ (b : Bool). if b then Some l else None) (sym (passes-there (λ v. not (node_eq u v) && goes_beyond d t (Serializer z) v l) (neighbours t z) v i))
  enters dead act r (rests u l) i = refl
  enters dead act r dies i = refl
  enters dead act r stays i = refl

  taken : (dead : Bool) (act : SerialAct) (r : Answer) → Does d t z dead act r → taken_entry d e v (Serializer z) h (entry (serial_act e z act) r false) ≡ over_by v act r
  unfolding handling
  taken dead act r (hops u l) = both-true ((e == e) && (z == z)) (node_eq u v) l (here-is e z)
  taken dead act r (rests u l) = refl
  taken dead act r dies = refl
  taken dead act r stays = refl

-- ---- each entry

module _ (d : Deployed) (e z : ℕ) (t : TreeShape) (tree : tree_of d e ≡ Some t) where
  same-tree : (s : TreeShape) → tree_of d e ≡ Some s → s ≡ t
  same-tree s e = some_is s t (sym e ∙ tree)

  does-here : (b : List Kept) (x : Line SerialAct SerialAnswer) → (step : SerialStep d e z b x) → Does d t z (dead_after e z b) x.input x.answer.answer
  does-here b x step = subst (λ (s : TreeShape). Does d s z (dead_after e z b) x.input x.answer.answer) (same-tree step.answers_there.tree step.answers_there.is_tree) step.does_there

  end-there : (b : List Kept) (x : Line SerialAct SerialAnswer) (k : ℕ) (v : NodeId) → SerialStep d e z b x → slice_get (neighbours t z) k ≡ Some v → slice_get x.answer.ends k ≡ Some v
  end-there b x k v step at = ap (λ (ns : List NodeId). slice_get ns k) (step.answers_there.ends ∙ ap (λ (s : TreeShape). neighbours s z) (same-tree step.answers_there.tree step.answers_there.is_tree)) ∙ at

  pub serial-enters : (k : ℕ) (v : NodeId) → slice_get (neighbours t z) k ≡ Some v → (b : List Kept) (x : Line SerialAct SerialAnswer) → SerialStep d e z b x →
      serial_puts k x.answer ≡ label_made (put_on d e t (Serializer z) v b (serial_kept e z x))
  serial-enters k v at b x step =
      ap (λ (o : Option NodeId). hopped_to o x.answer.answer) (end-there b x k v step at) ∙
      (out-made v x.answer.answer ∙ ap label_made (sym (enters d e z t v (history b) (dead_after e z b) x.input x.answer.answer (does-here b x step) (In-get (neighbours t z) k v at))))

  pub serial-takes-over : (k : ℕ) (v : NodeId) → slice_get (neighbours t z) k ≡ Some v → (b : List Kept) (x : Line SerialAct SerialAnswer) → SerialStep d e z b x →
      serial_takes k x.input x.answer ≡ label_body (took_from d e v (Serializer z) b (serial_kept e z x))
  serial-takes-over k v at b x step =
      taken-over k v x.input x.answer (end-there b x k v step at) ∙
      ap label_body (sym (taken d e z t v (history b) (dead_after e z b) x.input x.answer.answer (does-here b x step)))

  -- nothing is taken from what is no node of the tree
  outside : (u v : NodeId) (r : Answer) → (node_eq u v ≡ false) → hop_over v u r ≡ None
  outside u v (ans.Hopped l to) f = ap (λ (b : Bool). if b then Some l else None) f
  outside u v _ f = refl

  apart : (u v : NodeId) → IsNode t u → (IsNode t v → ⊥) → node_eq u v ≡ false
  apart u v n no_ = go (node_eq u v) refl
    where
      go : (b : Bool) → node_eq u v ≡ b → b ≡ false
      go true w = absurd (no_ (subst (IsNode t) (same-node u v w) n))
      go false w = refl

  none-over : (v : NodeId) → (IsNode t v → ⊥) → (act : SerialAct) (r : Answer) → SerialFits d e z act → over_by v act r ≡ None
  none-over v no_ (serial.Hop u l) r f = outside u v r (apart u v (subst (λ (s : TreeShape). IsNode s u) (same-tree f.0 f.1) f.2.neighbour.node) no_)
  none-over v no_ serial.Kill r f = refl

  pub none-taken : (v : NodeId) → (IsNode t v → ⊥) → (b : List Kept) (x : Line SerialAct SerialAnswer) → SerialStep d e z b x → took_from d e v (Serializer z) b (serial_kept e z x) ≡ None
  none-taken v no_ b x step = taken d e z t v (history b) (dead_after e z b) x.input x.answer.answer (does-here b x step) ∙ none-over v no_ x.input x.answer.answer step.fits_there
