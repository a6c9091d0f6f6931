-- Hops of a serializer.
use Rattle.std.proofs.Common.{◌≡◌, ◌≢◌, ℕ, ◌+◌, max, Bool, true, false, List, [], ◌∷◌, ◌++◌, Option, Some, None, Result, Ok, Err, IfOk, slice_get, unwrap_or, if◌then◌else◌, inl, inr, refl, sym, ap, ◌∙◌, subst, append_assoc}
use Rattle.std.proofs.lemmas.Bool.{cases_Bool}
use Rattle.std.proofs.lemmas.List.{append-nil}
use Rattle.sat_label.specs.declared.label.Label.{Label}
use Rattle.sat_label.specs.declared.node.NodeId.{NodeId}
use Rattle.sat_label.specs.declared.node.NodeName.{NodeName}
use Rattle.sat_label.specs.declared.node.NodeName.TheVariants as named
use Rattle.sat_label.specs.Order.{node_eq}
use Rattle.sat_label.proofs.SameNodes.{same-node, node-self}
use Rattle.sat_tree.specs.Cut.{neighbours}
use Rattle.sat_act.specs.declared.answer.Answer.{Answer}
use Rattle.sat_act.specs.declared.answer.Answer.TheVariants as ans
use Rattle.sat_act.specs.declared.answer.Refusal.TheVariants as why
use Rattle.sat_act.specs.Answers.{refused_if}
use Rattle.sat_act.specs.Deployed.{Deployed}
use Rattle.sat_model.specs.World.{nodes_for}
use Rattle.sat_node.specs.declared.kept.Kept.{Kept}
use Rattle.sat_node.specs.declared.kept.Body.{Body}
use Rattle.sat_node.specs.declared.kept.Body.TheVariants as body
use Rattle.sat_node.specs.declared.kept.CallFault.{CallFault}
use Rattle.sat_node.specs.declared.kept.Envelope.{Envelope}
use Rattle.sat_node.specs.Meanings.{Meaning, state_from, replay}
use Rattle.sat_node.specs.Seen.{NodeSeen, entry, Takes}
use Rattle.sat_node.specs.Links.{IsOf}
use Rattle.sat_machines.specs.declared.serial_act.SerialAct.{SerialAct}
use Rattle.sat_machines.specs.declared.serial_act.SerialAct.TheVariants as given
use Rattle.sat_machines.specs.declared.serial_act.SerialAnswer.{SerialAnswer}
use Rattle.sat_machines.specs.Serials.{SerialSeen, SerialStands, SerialAnswers, came_over, dead_after, epoch_in, hop_takes, serial_answer, serial_in, serial_meaning, serial_takes_in}
use Rattle.sat_machines.specs.Sites.{some_if}
use Rattle.sat_passes.specs.Relays.{SerialHeld, AreHops, Hops, SameSerial, hop_at, hop_from, hop_with}
use Rattle.sat_passes.proofs.Neighbours.{neighbours_apart}

-- ---- which hop a front is

-- the front is a label of a neighbour, and the hop is that
pub record HopOf (d : Deployed) (x : SerialSeen) (k : ℕ) (b : Body) (hop : SerialAct) : Type 0 where
  pub from : NodeId
  pub label : Label
  pub body_is : b ≡ body.Label label
  pub neighbour : slice_get (neighbours x.serial.tree x.serial.number) k ≡ Some from
  pub hop_is : hop ≡ given.Hop from label
  pub fits : serial_takes_in d x hop ≡ true

from-is : (d : Deployed) (x : SerialSeen) (k : ℕ) (l : Label) (hop : SerialAct) (u : NodeId) (fits : Bool) → slice_get (neighbours x.serial.tree x.serial.number) k ≡ Some u
    → serial_takes_in d x (given.Hop u l) ≡ fits → some_if fits (given.Hop u l) ≡ Some hop → HopOf d x k (body.Label l) hop
from-is d x k l hop u true at fits e =
    let is : given.Hop u l ≡ hop = cc (e) in
    record { from = u; label = l; body_is = refl; neighbour = at; hop_is = sym is; fits = subst (λ (h : SerialAct). serial_takes_in d x h ≡ true) is fits }
from-is d x k l hop u false at fits e = absurd (cc (e))

label-is : (d : Deployed) (x : SerialSeen) (k : ℕ) (l : Label) (hop : SerialAct) (o : Option NodeId) → slice_get (neighbours x.serial.tree x.serial.number) k ≡ o → hop_from d x o l ≡ Some hop → HopOf d x k (body.Label l) hop
label-is d x k l hop None at e = absurd (cc (e))
label-is d x k l hop (Some u) at e = from-is d x k l hop u (serial_takes_in d x (given.Hop u l)) at refl e

with-is : (d : Deployed) (x : SerialSeen) (k : ℕ) (b : Body) (hop : SerialAct) → hop_with d x k b ≡ Some hop → HopOf d x k b hop
with-is d x k (body.Label l) hop e = label-is d x k l hop (slice_get (neighbours x.serial.tree x.serial.number) k) refl e
with-is d x k (body.Payload gear number payload) hop e = absurd (cc (e))
with-is d x k (body.Beat number beat) hop e = absurd (cc (e))

pub front_hop : (d : Deployed) (x : SerialSeen) (k : ℕ) (f : Option Envelope) (hop : SerialAct) → hop_at d x k f ≡ Some hop → (e : Envelope) × (f ≡ Some e) × HopOf d x k e.body hop
front_hop d x k None hop e = absurd (cc (e))
front_hop d x k (Some f) hop e = (f, refl, with-is d x k f.body hop e)

-- ---- what a hop takes

some-inj : {X : Type 0} (x y : X) → Some x ≡ Some y → x ≡ y
some-inj x y e = ap (λ o. unwrap_or o x) e

-- what a serializer that is alive answers to a label
record AnswersHop (d : Deployed) (x : SerialSeen) (u : NodeId) (l : Label) (a : SerialAnswer) : Type 0 where
  answer : a.answer ≡ ans.Hopped l (nodes_for d x.serial.tree u x.serial.number l)
  ends : a.ends ≡ neighbours x.serial.tree x.serial.number

answers-hop : (d : Deployed) (name : NodeName) (x : SerialSeen) (dead : Bool) (u : NodeId) (l : Label) (a : SerialAnswer) → SerialStands d name x dead → x.serial.killed ≡ false
    → SerialAnswers d (epoch_in name) (serial_in name) dead (given.Hop u l) a → AnswersHop d x u l a
answers-hop d (named.Site i) x dead u l a st alive h = absurd st
answers-hop d (named.Gear i g) x dead u l a st alive h = absurd st
answers-hop d (named.Serializer e z) x dead u l a st alive h =
    let tree : h.tree ≡ x.serial.tree = some-inj h.tree x.serial.tree (sym h.is_tree ∙ st.tree) in
    let here : dead ≡ false = sym st.killed ∙ alive in
    record {
      answer = h.answer ∙ (λ n. serial_answer d (tree n) (sym st.number n) (here n) (given.Hop u l));
      ends = h.ends ∙ (λ n. neighbours (tree n) (sym st.number n));
    }

not-same : (v u : NodeId) → v ≢ u → node_eq v u ≡ false
not-same v u differ = elim (cases_Bool (node_eq v u)) [
  | inl same ↦ absurd (differ (same-node v u same))
  | inr other ↦ other
]

came-none : (u : NodeId) (l : Label) (o : Option NodeId) → ((v : NodeId) → o ≡ Some v → v ≢ u) → came_over o u l ≡ None
came-none u l None differ = refl
came-none u l (Some v) differ = ap (λ (b : Bool). if b then Some (body.Label l) else None) (not-same v u (differ v refl))

-- a hop at a serializer that is alive takes its label from the link of the neighbour that it came from, and nothing from another
pub hop_is_of : (d : Deployed) (node : NodeSeen SerialSeen SerialAct SerialAnswer) (k : ℕ) (u : NodeId) (l : Label) → SerialStands d node.name node.machine (replay (serial_meaning d) node.name node.entries)
    → node.machine.serial.killed ≡ false → slice_get (neighbours node.machine.serial.tree node.machine.serial.number) k ≡ Some u → IsOf (serial_meaning d) node k (body.Label l) (given.Hop u l)
hop_is_of d node k u l st alive at = record { stands = λ a h. refl; takes = here; others = away } where
  nodes : List NodeId
  nodes = neighbours node.machine.serial.tree node.machine.serial.number

  of : (a : SerialAnswer) → SerialAnswers d (epoch_in node.name) (serial_in node.name) (replay (serial_meaning d) node.name node.entries) (given.Hop u l) a → AnswersHop d node.machine u l a
  of a h = answers-hop d node.name node.machine (replay (serial_meaning d) node.name node.entries) u l a st alive h

  over-at : (a : SerialAnswer) (j : ℕ) → SerialAnswers d (epoch_in node.name) (serial_in node.name) (replay (serial_meaning d) node.name node.entries) (given.Hop u l) a
      → hop_takes (slice_get a.ends j) u a.answer ≡ came_over (slice_get nodes j) u l
  over-at a j h = ap (hop_takes (slice_get a.ends j) u) ((of a h).answer) ∙ ap (λ (ns : List NodeId). came_over (slice_get ns j) u l) ((of a h).ends)

  here : (a : SerialAnswer) → SerialAnswers d (epoch_in node.name) (serial_in node.name) (replay (serial_meaning d) node.name node.entries) (given.Hop u l) a → hop_takes (slice_get a.ends k) u a.answer ≡ Some (body.Label l)
  here a h = over-at a k h ∙ (ap (λ (o : Option NodeId). came_over o u l) at ∙ ap (λ (b : Bool). if b then Some (body.Label l) else None) (node-self u))

  away : (a : SerialAnswer) (j : ℕ) → SerialAnswers d (epoch_in node.name) (serial_in node.name) (replay (serial_meaning d) node.name node.entries) (given.Hop u l) a → j ≢ k → hop_takes (slice_get a.ends j) u a.answer ≡ None
  away a j h differ = over-at a j h ∙ came-none u l (slice_get nodes j) (λ v vj. neighbours_apart node.machine.serial.tree node.machine.serial.number j k v u vj at differ)

-- ---- what a hop leaves as it was

pub state_next : {S I A : Type 0} (m : Meaning S I A) (name : NodeName) (s : S) (ks : List (Kept I A)) (k : Kept I A) → state_from m name s (ks ++ k ∷ []) ≡ m.after name (state_from m name s ks) k.input k.answer
state_next m name s [] k = refl
state_next m name s (x ∷ xs) k = state_next m name (m.after name s x.input x.answer) xs k

same-self : (x y : SerialSeen) → y ≡ x → SameSerial x y
same-self x y e = record { epoch = ap (λ (s : SerialSeen). s.epoch) e; tree = ap (λ (s : SerialSeen). s.serial.tree) e; number = ap (λ (s : SerialSeen). s.serial.number) e; killed = ap (λ (s : SerialSeen). s.serial.killed) e }

-- two machines of one name that stand for one state
two-stand : (d : Deployed) (name : NodeName) (x y : SerialSeen) (a b : Bool) → SerialStands d name x a → SerialStands d name y b → a ≡ b → SameSerial x y
two-stand d (named.Site i) x y a b sx sy e = absurd sx
two-stand d (named.Gear i h) x y a b sx sy e = absurd sx
two-stand d (named.Serializer g z) x y a b sx sy e = record {
  epoch = sy.epoch ∙ sym sx.epoch;
  tree = some-inj y.serial.tree x.serial.tree (sym sy.tree ∙ sx.tree);
  number = sy.number ∙ sym sx.number;
  killed = sy.killed ∙ (sym e ∙ sym sx.killed);
}

lives : (b : Bool) (r : Answer) (u : List NodeId) (l : Label) → r ≡ refused_if b why.Dead (ans.Hopped l u) → b ≡ dead_after b r
lives true r u l e = sym (ap (dead_after true) e)
lives false r u l e = sym (ap (dead_after false) e)

hop-lives : (d : Deployed) (e z : ℕ) (dead : Bool) (u : NodeId) (l : Label) (a : SerialAnswer) → SerialAnswers d e z dead (given.Hop u l) a → dead ≡ dead_after dead a.answer
hop-lives d e z dead u l a h = lives dead a.answer (nodes_for d h.tree u z l) l h.answer

-- a machine after a hop
hop-same : (d : Deployed) (old new : NodeSeen SerialSeen SerialAct SerialAnswer) (u : NodeId) (l : Label) (n : ℕ) (a : SerialAnswer)
    → SerialStands d old.name old.machine (replay (serial_meaning d) old.name old.entries) → SerialStands d new.name new.machine (replay (serial_meaning d) new.name new.entries)
    → new.name ≡ old.name → new.entries ≡ old.entries ++ entry n (given.Hop u l) a ∷ []
    → SerialAnswers d (epoch_in old.name) (serial_in old.name) (replay (serial_meaning d) old.name old.entries) (given.Hop u l) a → SameSerial old.machine new.machine
hop-same d old new u l n a so sn name entries h =
    let dead = replay (serial_meaning d) old.name old.entries in
    let next : replay (serial_meaning d) new.name new.entries ≡ dead_after dead a.answer =
    (λ i. replay (serial_meaning d) (name i) (entries i)) ∙ state_next (serial_meaning d) old.name false old.entries (entry n (given.Hop u l) a) in
    two-stand d old.name old.machine new.machine dead (replay (serial_meaning d) new.name new.entries) so
    (subst (λ (x : NodeName). SerialStands d x new.machine (replay (serial_meaning d) new.name new.entries)) name sn)
    (hop-lives d (epoch_in old.name) (serial_in old.name) dead u l a h ∙ sym next)

-- ---- some hops, and then some more

hops-append : (xs ys : List (Kept SerialAct SerialAnswer)) → AreHops xs → AreHops ys → AreHops (xs ++ ys)
hops-append [] ys a b = b
hops-append (x ∷ xs) ys a b = (a.0, hops-append xs ys a.1 b)

same-then : (x y z : SerialSeen) → SameSerial x y → SameSerial y z → SameSerial x z
same-then x y z a b = record { epoch = b.epoch ∙ a.epoch; tree = b.tree ∙ a.tree; number = b.number ∙ a.number; killed = b.killed ∙ a.killed }

pub hops_then : (a b c : SerialHeld) → Hops a b → Hops b c → Hops a c
hops_then a b c ab bc = record {
  name = bc.name ∙ ab.name;
  serial = same-then a.node.machine b.node.machine c.node.machine ab.serial bc.serial;
  added = (
    ab.added.0 ++ bc.added.0,
    bc.added.1 ∙ (ap (λ (l : List (Kept SerialAct SerialAnswer)). l ++ bc.added.0) ab.added.1 ∙ append_assoc a.node.entries ab.added.0 bc.added.0),
    hops-append ab.added.0 bc.added.0 ab.added.2 bc.added.2,
  );
}

pub hops_none : (a b : SerialHeld) → b.node.name ≡ a.node.name → b.node.machine ≡ a.node.machine → b.node.entries ≡ a.node.entries → Hops a b
hops_none a b name machine entries = record { name = name; serial = same-self a.node.machine b.node.machine machine; added = ([], entries ∙ sym (append-nil a.node.entries), tt) }

pub hops_same : (a : SerialHeld) → Hops a a
hops_same a = hops_none a a refl refl refl

-- a hop that was taken or not
pub take_hops : (d : Deployed) (r : Result SerialAnswer CallFault) (heard : ℕ) (hop : SerialAct) (may : Bool) (old new : SerialHeld) (u : NodeId) (l : Label) → hop ≡ given.Hop u l → Takes heard hop may r old.node new.node
    → SerialStands d old.node.name old.node.machine (replay (serial_meaning d) old.node.name old.node.entries) → SerialStands d new.node.name new.node.machine (replay (serial_meaning d) new.node.name new.node.entries)
    → IfOk r (λ a. SerialAnswers d (epoch_in old.node.name) (serial_in old.node.name) (replay (serial_meaning d) old.node.name old.node.entries) hop a) → Hops old new
take_hops d (Err f) heard hop may old new u l is takes so sn h = hops_none old new takes.err.0.0 takes.err.0.1 takes.err.0.2
take_hops d (Ok a) heard hop may old new u l is takes so sn h =
    let n = max old.node.number heard + 1 in
    let more : new.node.entries ≡ old.node.entries ++ entry n (given.Hop u l) a ∷ [] = takes.taken ∙ ap (λ (x : SerialAct). old.node.entries ++ entry n x a ∷ []) is in
    let answers = subst (λ (x : SerialAct). SerialAnswers d (epoch_in old.node.name) (serial_in old.node.name) (replay (serial_meaning d) old.node.name old.node.entries) x a) is h in
    record {
      name = takes.name;
      serial = hop-same d old.node new.node u l n a so sn takes.name more answers;
      added = (entry n (given.Hop u l) a ∷ [], more, (refl, tt));
    }
