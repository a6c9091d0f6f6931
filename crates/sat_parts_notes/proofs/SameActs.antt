-- `==` of acts, as it is derived, is identity.
use Rattle.std.proofs.Common.{rules, ◌≡◌, ℕ, Bool, true, false, nat_eq, ◌&&◌, List, Option, refl, ap, subst}
use Rattle.std.specs.Bool.{Decides}
use Rattle.std.specs.Option.{option_eq}
use Rattle.std.proofs.lemmas.Bool.Decides.{Decides-eqb, Decides-and}
use lib.Pointwise.{pointwise, pointwise_decides, bytes_decides}
use Rattle.sat_label.proofs.Grouped.{items-are}
use Rattle.sat_label.specs.declared.items.Items.{Items}
use Rattle.sat_label.specs.Grouped.{list_of}
use Rattle.sat_label.specs.declared.node.NodeId.{NodeId}
use Rattle.sat_label.specs.contracts.node.NodeIdPartialEq.TheImpl as node
use Rattle.sat_act.specs.declared.act.Act.{Act}
use Rattle.sat_act.specs.declared.act.Act.TheVariants as act
use Rattle.sat_act.specs.contracts.act.ActPartialEq.TheImpl as acts
use Rattle.sat_parts_notes.proofs.SameAnswers.{never, both, both-self, node-decides}

three : {X A B C : Type 0} (f : A → B → C → X) (x y : A) (v w : B) (s t : C) {p q r : Bool} → Decides p (x ≡ y) → Decides q (v ≡ w) → Decides r (s ≡ t) → (p && (q && r)) ≡ true → f x v s ≡ f y w t
three f x y v w s t {p} {q} {r} d k l e =
    let h : (x ≡ y) × ((q && r) ≡ true) = (Decides-and p (q && r) d (λ z. z, λ z. z)).0 e in
    let i : (v ≡ w) × (s ≡ t) = (Decides-and q r k l).0 h.1 in
    λ n. f (h.0 n) (i.0 n) (i.1 n)

three-self : {A B C : Type 0} {x : A} {v : B} {s : C} {p q r : Bool} → Decides p (x ≡ x) → Decides q (v ≡ v) → Decides r (s ≡ s) → (p && (q && r)) ≡ true
three-self {A} {B} {C} {x} {v} {s} {p} {q} {r} d k l = (Decides-and p (q && r) d (Decides-and q r k l)).1 (refl, (refl, refl))

four : {X A B C D : Type 0} (f : A → B → C → D → X) (x y : A) (v w : B) (s t : C) (a b : D) {p q r u : Bool} → Decides p (x ≡ y) → Decides q (v ≡ w) → Decides r (s ≡ t) → Decides u (a ≡ b) → (p && (q && (r && u))) ≡ true → f x v s a ≡ f y w t b
four f x y v w s t a b {p} {q} {r} {u} d k l m e =
    let h : (x ≡ y) × ((q && (r && u)) ≡ true) = (Decides-and p (q && (r && u)) d (λ z. z, λ z. z)).0 e in
    let i : (v ≡ w) × ((r && u) ≡ true) = (Decides-and q (r && u) k (λ z. z, λ z. z)).0 h.1 in
    let j : (s ≡ t) × (a ≡ b) = (Decides-and r u l m).0 i.1 in
    λ n. f (h.0 n) (i.0 n) (j.0 n) (j.1 n)

four-self : {A B C D : Type 0} {x : A} {v : B} {s : C} {a : D} {p q r u : Bool} → Decides p (x ≡ x) → Decides q (v ≡ v) → Decides r (s ≡ s) → Decides u (a ≡ a) → (p && (q && (r && u))) ≡ true
four-self {A} {B} {C} {D} {x} {v} {s} {a} {p} {q} {r} {u} d k l m = (Decides-and p (q && (r && u)) d (Decides-and q (r && u) k (Decides-and r u l m))).1 (refl, (refl, (refl, refl)))

items-decides : (x y : Items) → Decides (pointwise nat_eq (list_of x) (list_of y)) (x ≡ y)
items-decides x y = (λ e. items-are x y ((bytes_decides (list_of x) (list_of y)).0 e), λ e. (bytes_decides (list_of x) (list_of y)).1 (ap list_of e))

values-decides : (x y : List (List ℕ)) → Decides (pointwise (pointwise nat_eq) x y) (x ≡ y)
values-decides x y = pointwise_decides bytes_decides x y

number-decides : (x y : Option ℕ) → Decides (option_eq nat_eq x y) (x ≡ y)
number-decides x y = search rules

act-is : (x y : Act) → acts.ghosts.eq x y ≡ true → x ≡ y
act-is (act.Tick i g t) (act.Tick j h u) e = three act.Tick i j g h t u (Decides-eqb i j) (Decides-eqb g h) (Decides-eqb t u) e
act-is act.Clock act.Clock e = refl
act-is (act.Write c x v) (act.Write d y w) e = three act.Write c d x y v w (Decides-eqb c d) (Decides-eqb x y) (bytes_decides v w) e
act-is (act.Writes c x v) (act.Writes d y w) e = three act.Writes c d x y v w (Decides-eqb c d) (items-decides x y) (values-decides v w) e
act-is (act.Read c x) (act.Read d y) e = both act.Read c d x y (Decides-eqb c d) (Decides-eqb x y) e
act-is (act.Move c x) (act.Move d y) e = both act.Move c d x y (Decides-eqb c d) (Decides-eqb x y) e
act-is (act.Leave c) (act.Leave d) e = ap act.Leave ((Decides-eqb c d).0 e)
act-is (act.Attach c x) (act.Attach d y) e = both act.Attach c d x y (Decides-eqb c d) (Decides-eqb x y) e
act-is (act.Gather i) (act.Gather j) e = ap act.Gather ((Decides-eqb i j).0 e)
act-is (act.Emit i) (act.Emit j) e = ap act.Emit ((Decides-eqb i j).0 e)
act-is (act.Pulse i) (act.Pulse j) e = ap act.Pulse ((Decides-eqb i j).0 e)
act-is (act.Hop i u z) (act.Hop j v y) e = three act.Hop i j u v z y (Decides-eqb i j) (node-decides u v) (Decides-eqb z y) e
act-is (act.Turn i) (act.Turn j) e = ap act.Turn ((Decides-eqb i j).0 e)
act-is (act.Bulk i g j n) (act.Bulk k h l m) e = four act.Bulk i k g h j l n m (Decides-eqb i k) (Decides-eqb g h) (Decides-eqb j l) (number-decides n m) e
act-is (act.Beat i j) (act.Beat k l) e = both act.Beat i k j l (Decides-eqb i k) (Decides-eqb j l) e
act-is (act.BeatIn i j n) (act.BeatIn k l m) e = three act.BeatIn i k j l n m (Decides-eqb i k) (Decides-eqb j l) (Decides-eqb n m) e
act-is (act.Stamp i) (act.Stamp j) e = ap act.Stamp ((Decides-eqb i j).0 e)
act-is (act.Close i) (act.Close j) e = ap act.Close ((Decides-eqb i j).0 e)
act-is (act.Fall i) (act.Fall j) e = ap act.Fall ((Decides-eqb i j).0 e)
act-is (act.Advance i) (act.Advance j) e = ap act.Advance ((Decides-eqb i j).0 e)
act-is (act.Kill i z) (act.Kill j y) e = both act.Kill i j z y (Decides-eqb i j) (Decides-eqb z y) e
act-is act.Settle act.Settle e = refl
act-is _ _ e = absurd (never e)

act-self : (x : Act) → acts.ghosts.eq x x ≡ true
act-self (act.Tick i g t) = three-self (Decides-eqb i i) (Decides-eqb g g) (Decides-eqb t t)
act-self act.Clock = refl
act-self (act.Write c x v) = three-self (Decides-eqb c c) (Decides-eqb x x) (bytes_decides v v)
act-self (act.Writes c x v) = three-self (Decides-eqb c c) (items-decides x x) (values-decides v v)
act-self (act.Read c x) = both-self (Decides-eqb c c) (Decides-eqb x x)
act-self (act.Move c x) = both-self (Decides-eqb c c) (Decides-eqb x x)
act-self (act.Leave c) = (Decides-eqb c c).1 refl
act-self (act.Attach c x) = both-self (Decides-eqb c c) (Decides-eqb x x)
act-self (act.Gather i) = (Decides-eqb i i).1 refl
act-self (act.Emit i) = (Decides-eqb i i).1 refl
act-self (act.Pulse i) = (Decides-eqb i i).1 refl
act-self (act.Hop i u z) = three-self (Decides-eqb i i) (node-decides u u) (Decides-eqb z z)
act-self (act.Turn i) = (Decides-eqb i i).1 refl
act-self (act.Bulk i g j n) = four-self (Decides-eqb i i) (Decides-eqb g g) (Decides-eqb j j) (number-decides n n)
act-self (act.Beat i j) = both-self (Decides-eqb i i) (Decides-eqb j j)
act-self (act.BeatIn i j n) = three-self (Decides-eqb i i) (Decides-eqb j j) (Decides-eqb n n)
act-self (act.Stamp i) = (Decides-eqb i i).1 refl
act-self (act.Close i) = (Decides-eqb i i).1 refl
act-self (act.Fall i) = (Decides-eqb i i).1 refl
act-self (act.Advance i) = (Decides-eqb i i).1 refl
act-self (act.Kill i z) = both-self (Decides-eqb i i) (Decides-eqb z z)
act-self act.Settle = refl

pub act-decides : (x y : Act) → Decides (acts.ghosts.eq x y) (x ≡ y)
act-decides x y = (act-is x y, λ e. subst (λ (z : Act). acts.ghosts.eq x z ≡ true) e (act-self x))
