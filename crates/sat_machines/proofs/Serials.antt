-- Which labels a serializer may be handed, and what it answers.
use Rattle.std.proofs.Common.{◌≡◌, ◌∙◌, ℕ, ◌&&◌, ◌||◌, Bool, true, false, refl, sym, ap, subst, List, length, nat_lt}
use Rattle.std.proofs.lemmas.Bool.{and_parts, ltb-true}
use Rattle.sat_label.specs.declared.label.Label.{Label}
use Rattle.sat_label.specs.declared.label.Kind.{Kind}
use Rattle.sat_label.specs.declared.label.Kind.TheVariants as kind
use Rattle.sat_label.specs.declared.node.NodeId.{NodeId}
use Rattle.sat_label.specs.declared.node.NodeId.TheVariants.{Site, Serializer}
use Rattle.sat_label.specs.Grouped.{list_of}
use Rattle.sat_sites.specs.Interested.{Interested, IsLabelOf, IsKindOf}
use Rattle.sat_sites.proofs.Below.{below_is}
use Rattle.sat_tree.specs.Shape.{TreeShape}
use Rattle.sat_tree.specs.Cut.{is_edge, hangs_on, IsNode}
use Rattle.sat_serial.specs.Routes.{leads, Arrives}
use Rattle.sat_serial.specs.Routes.{routes}
use Rattle.sat_serial.specs.Outboxes.{SerializerSeen}
use Rattle.sat_label.specs.declared.node.NodeName.{NodeName}
use Rattle.sat_label.specs.declared.node.NodeName.TheVariants as named
use Rattle.sat_act.specs.declared.answer.Answer.{Answer}
use Rattle.sat_act.specs.declared.answer.Answer.TheVariants as ans
use Rattle.sat_act.specs.declared.answer.Refusal.TheVariants as why
use Rattle.sat_act.specs.Answers.{refused_if}
use Rattle.sat_act.specs.Deployed.{Deployed}
use Rattle.sat_model.specs.Interests.{interest_of}
use Rattle.sat_net.proofs.Targets.{routes-are}
use Rattle.sat_machines.specs.declared.serial_act.SerialAct.{SerialAct}
use Rattle.sat_machines.specs.declared.serial_act.SerialAct.TheVariants as given
use Rattle.sat_machines.specs.Serials.{arrives, is_label_of, is_kind_of, is_node, IsSerial, SerialSeen, SerialStands, SerialFits, answer_in, dead_after, epoch_in, serial_in, serial_answer, serial_takes_in}

or-turned : (b c : Bool) → (b || c) ≡ (c || b)
or-turned true true = refl
or-turned true false = refl
or-turned false true = refl
or-turned false false = refl

edge-turned : (t : TreeShape) (u v : NodeId) → is_edge t u v ≡ is_edge t v u
unfolding is_edge
edge-turned t u v = or-turned (hangs_on t u v) (hangs_on t v u)

pub node_is : (t : TreeShape) (u : NodeId) → is_node t u ≡ true → IsNode t u
node_is t (Site i) e = ltb-true _ _ e
node_is t (Serializer z) e = ltb-true _ _ e

kind-is : (a : Interested) (k : Kind) → is_kind_of a k ≡ true → IsKindOf a k
kind-is a (kind.Update items) e = below_is (length a.replicas) (list_of items) e
kind-is a (kind.Move j) e = ltb-true _ _ e
kind-is a kind.Pulse e = tt
kind-is a (kind.Close f) e = tt

pub label_is : (a : Interested) (l : Label) → is_label_of a l ≡ true → IsLabelOf a l
label_is a l e =
    let w = and_parts (nat_lt l.point.site a.sites) (is_kind_of a l.kind) e in
    record { own = ltb-true _ _ w.0; kind = kind-is a l.kind w.1 }

pub not_node : (a : Interested) (t : TreeShape) (z : ℕ) (u : NodeId) (l : Label) → is_node t u ≡ false → false ≡ arrives a t z u l
unfolding arrives
not_node a t z u l e = sym (ap (λ (b : Bool). (b && is_edge t u (Serializer z)) && (is_label_of a l && leads a t u (Serializer z) l)) e)

none-behind : (b c : Bool) → false ≡ (b && false) && c
none-behind true c = refl
none-behind false c = refl

pub not_edge : (a : Interested) (t : TreeShape) (z : ℕ) (u : NodeId) (l : Label) → is_edge t u (Serializer z) ≡ false → false ≡ arrives a t z u l
unfolding arrives
not_edge a t z u l e = none-behind (is_node t u) (is_label_of a l && leads a t u (Serializer z) l) ∙ sym (ap (λ (b : Bool). (is_node t u && b) && (is_label_of a l && leads a t u (Serializer z) l)) e)

last-false : (b c : Bool) → false ≡ b && (false && c)
last-false true c = refl
last-false false c = refl

pub not_label : (a : Interested) (t : TreeShape) (z : ℕ) (u : NodeId) (l : Label) → is_label_of a l ≡ false → false ≡ arrives a t z u l
unfolding arrives
not_label a t z u l e = last-false (is_node t u && is_edge t u (Serializer z)) (leads a t u (Serializer z) l) ∙ sym (ap (λ (b : Bool). (is_node t u && is_edge t u (Serializer z)) && (b && leads a t u (Serializer z) l)) e)

pub all_arrive : (a : Interested) (t : TreeShape) (z : ℕ) (u : NodeId) (l : Label) → is_node t u ≡ true → is_edge t u (Serializer z) ≡ true → is_label_of a l ≡ true →
    leads a t u (Serializer z) l ≡ arrives a t z u l
unfolding arrives
all_arrive a t z u l e f g = sym (λ n. (e n && f n) && (g n && leads a t u (Serializer z) l))

pub arrives-here : (a : Interested) (t : TreeShape) (z : ℕ) (u : NodeId) (l : Label) → a.sites ≡ length t.seats → arrives a t z u l ≡ true → Arrives a t z u l
unfolding arrives
arrives-here a t z u l sites e =
    let w = and_parts (is_node t u && is_edge t u (Serializer z)) (is_label_of a l && leads a t u (Serializer z) l) e in
    let v = and_parts (is_node t u) (is_edge t u (Serializer z)) w.0 in
    let x = and_parts (is_label_of a l) (leads a t u (Serializer z) l) w.1 in
    record { sites = sites; label = label_is a l x.0; neighbour = record { node = node_is t u v.0; edge = edge-turned t (Serializer z) u ∙ v.1 }; target = x.1 }

pub same_sites : (d : Deployed) (e z : ℕ) (s : SerializerSeen) (t : TreeShape) (a : Interested) → IsSerial d e z s t a → a.sites ≡ length t.seats
same_sites d e z s t a k = ap (λ (a : Interested). a.sites) k.interest ∙ (sym (k.deployment.all_seated e s.tree k.of) ∙ ap (λ (t : TreeShape). length t.seats) (sym k.tree_is))

pub arrives_in : (d : Deployed) (e z : ℕ) (s : SerializerSeen) (u : NodeId) (l : Label) → IsSerial d e z s s.tree (interest_of d) → arrives (interest_of d) s.tree s.number u l ≡ true → Arrives (interest_of d) s.tree s.number u l
arrives_in d e z s u l k f = arrives-here (interest_of d) s.tree s.number u l (same_sites d e z s s.tree (interest_of d) k) f

pub hop_dead : (d : Deployed) (s : SerializerSeen) (u : NodeId) (l : Label) → s.killed ≡ true → ans.Refused why.Dead ≡ answer_in d s (given.Hop u l)
hop_dead d s u l e = sym (ap (λ (b : Bool). serial_answer d s.tree s.number b (given.Hop u l)) e)

pub hop_alive : (d : Deployed) (s : SerializerSeen) (u : NodeId) (l : Label) (to : List NodeId) → s.killed ≡ false → to ≡ routes (interest_of d) s.tree s.number u l → ans.Hopped l to ≡ answer_in d s (given.Hop u l)
hop_alive d s u l to e f = ap (ans.Hopped l) (f ∙ routes-are d s.tree s.number u l) ∙ sym (ap (λ (b : Bool). serial_answer d s.tree s.number b (given.Hop u l)) e)

pub kill_dead : (d : Deployed) (s : SerializerSeen) → s.killed ≡ true → ans.Refused why.Already ≡ answer_in d s given.Kill
kill_dead d s e = sym (ap (λ (b : Bool). serial_answer d s.tree s.number b given.Kill) e)

pub kill_alive : (d : Deployed) (s : SerializerSeen) → s.killed ≡ false → ans.Killed ≡ answer_in d s given.Kill
kill_alive d s e = sym (ap (λ (b : Bool). serial_answer d s.tree s.number b given.Kill) e)

-- ---- at the states that it stands for

pub serial-fits : (d : Deployed) (name : NodeName) (x : SerialSeen) (dead : Bool) (act : SerialAct) → (e z : ℕ) → IsSerial d e z x.serial x.serial.tree (interest_of d) → serial_takes_in d x act ≡ true → SerialStands d name x dead →
    SerialFits d (epoch_in name) (serial_in name) act
serial-fits d (named.Site i) x dead act e z k f st = absurd st
serial-fits d (named.Gear i g) x dead act e z k f st = absurd st
serial-fits d (named.Serializer g y) x dead (given.Hop u l) e z k f st = (x.serial.tree, st.tree, subst (λ (n : ℕ). Arrives (interest_of d) x.serial.tree n u l) st.number (arrives_in d e z x.serial u l k f))
serial-fits d (named.Serializer g y) x dead given.Kill e z k f st = tt

hop-lives : (b : Bool) (r : Answer) (u : List NodeId) (l : Label) → r ≡ refused_if b why.Dead (ans.Hopped l u) → b ≡ dead_after b r
hop-lives true r u l e = sym (ap (dead_after true) e)
hop-lives false r u l e = sym (ap (dead_after false) e)

pub arrives_held : (d : Deployed) (e z : ℕ) (s : SerializerSeen) (t : TreeShape) (a : Interested) (u : NodeId) (l : Label) → IsSerial d e z s t a → arrives (interest_of d) s.tree s.number u l ≡ true → Arrives a s.tree s.number u l
arrives_held d e z s t a u l k f = arrives-here a s.tree s.number u l (same_sites d e z s t a k ∙ ap (λ (t : TreeShape). length t.seats) k.tree_is) (ap (λ (a : Interested). arrives a s.tree s.number u l) k.interest ∙ f)
