-- `==` of answers, as it is derived, is identity.
use Rattle.std.proofs.Common.{rules, ◌≡◌, ◌∙◌, ℕ, Bool, true, false, ◌&&◌, List, refl, sym, ap, subst}
use Rattle.std.specs.Bool.{Decides}
use Rattle.std.proofs.lemmas.Bool.Decides.{Decides-eqb, Decides-and}
use lib.Pointwise.{pointwise, pointwise_decides, bytes_decides}
use Rattle.sat_label.proofs.Derived.{labels-eq}
use Rattle.sat_label.proofs.Orders.{label_eq-self, same-label}
use Rattle.sat_label.specs.declared.label.Label.{Label}
use Rattle.sat_label.specs.declared.point.Point.{Point}
use Rattle.sat_label.specs.declared.node.NodeId.{NodeId}
use Rattle.sat_label.specs.contracts.label.LabelPartialEq.TheImpl as label
use Rattle.sat_label.specs.contracts.point.PointPartialEq.TheImpl as point
use Rattle.sat_label.specs.contracts.node.NodeIdPartialEq.TheImpl as node
use Rattle.sat_act.specs.declared.answer.Answer.{Answer}
use Rattle.sat_act.specs.declared.answer.Answer.TheVariants as ans
use Rattle.sat_act.specs.declared.answer.Refusal.{Refusal}
use Rattle.sat_act.specs.declared.answer.Refusal.TheVariants as why
use Rattle.sat_act.specs.contracts.answer.AnswerPartialEq.TheImpl as answer
use Rattle.sat_act.specs.contracts.answer.RefusalPartialEq.TheImpl as refusal

pub never : false ≡ true → ⊥
never e = cc

pub both : {X A B : Type 0} (f : A → B → X) (x y : A) (v w : B) {p q : Bool} → Decides p (x ≡ y) → Decides q (v ≡ w) → (p && q) ≡ true → f x v ≡ f y w
both f x y v w {p} {q} d k e = (let h : (x ≡ y) × (v ≡ w) = (Decides-and p q d k).0 e in λ i. f (h.0 i) (h.1 i))

pub both-self : {A B : Type 0} {x : A} {v : B} {p q : Bool} → Decides p (x ≡ x) → Decides q (v ≡ v) → (p && q) ≡ true
both-self {A} {B} {x} {v} {p} {q} d k = (Decides-and p q d k).1 (refl, refl)

label-decides : (x y : Label) → Decides (label.ghosts.eq x y) (x ≡ y)
label-decides x y = (λ e. same-label x y (sym (labels-eq x y) ∙ e), λ e. subst (λ (z : Label). label.ghosts.eq x z ≡ true) e (labels-eq x x ∙ label_eq-self x))

point-decides : (x y : Point) → Decides (point.ghosts.eq x y) (x ≡ y)
point-decides x y = search rules

pub node-decides : (x y : NodeId) → Decides (node.ghosts.eq x y) (x ≡ y)
node-decides x y = search rules

nodes-decides : (x y : List NodeId) → Decides (pointwise node.ghosts.eq x y) (x ≡ y)
nodes-decides x y = pointwise_decides node-decides x y

refusal-is : (x y : Refusal) → refusal.ghosts.eq x y ≡ true → x ≡ y
refusal-is why.NoSession why.NoSession e = refl
refusal-is why.NotHere why.NotHere e = refl
refusal-is why.Spent why.Spent e = refl
refusal-is why.SameSite why.SameSite e = refl
refusal-is why.Joined why.Joined e = refl
refusal-is why.NotYet why.NotYet e = refl
refusal-is why.Idle why.Idle e = refl
refusal-is why.Empty why.Empty e = refl
refusal-is why.Dead why.Dead e = refl
refusal-is (why.NoPayload x) (why.NoPayload y) e = ap why.NoPayload ((label-decides x y).0 e)
refusal-is why.StampOrder why.StampOrder e = refl
refusal-is why.TreeOrder why.TreeOrder e = refl
refusal-is why.NoSuch why.NoSuch e = refl
refusal-is why.NoNextEpoch why.NoNextEpoch e = refl
refusal-is why.Behind why.Behind e = refl
refusal-is why.NotClosed why.NotClosed e = refl
refusal-is why.Already why.Already e = refl
refusal-is _ _ e = absurd (never e)

refusal-self : (x : Refusal) → refusal.ghosts.eq x x ≡ true
refusal-self why.NoSession = refl
refusal-self why.NotHere = refl
refusal-self why.Spent = refl
refusal-self why.SameSite = refl
refusal-self why.Joined = refl
refusal-self why.NotYet = refl
refusal-self why.Idle = refl
refusal-self why.Empty = refl
refusal-self why.Dead = refl
refusal-self (why.NoPayload x) = (label-decides x x).1 refl
refusal-self why.StampOrder = refl
refusal-self why.TreeOrder = refl
refusal-self why.NoSuch = refl
refusal-self why.NoNextEpoch = refl
refusal-self why.Behind = refl
refusal-self why.NotClosed = refl
refusal-self why.Already = refl

refusal-decides : (x y : Refusal) → Decides (refusal.ghosts.eq x y) (x ≡ y)
refusal-decides x y = (refusal-is x y, λ e. subst (λ (z : Refusal). refusal.ghosts.eq x z ≡ true) e (refusal-self x))

answer-is : (x y : Answer) → answer.ghosts.eq x y ≡ true → x ≡ y
answer-is (ans.Ticked x) (ans.Ticked y) e = ap ans.Ticked ((Decides-eqb x y).0 e)
answer-is (ans.Clocked x) (ans.Clocked y) e = ap ans.Clocked ((Decides-eqb x y).0 e)
answer-is (ans.Wrote x) (ans.Wrote y) e = ap ans.Wrote ((label-decides x y).0 e)
answer-is ans.ReadNone ans.ReadNone e = refl
answer-is (ans.ReadSome x v) (ans.ReadSome y w) e = both ans.ReadSome x y v w (label-decides x y) (bytes_decides v w) e
answer-is (ans.Moved x) (ans.Moved y) e = ap ans.Moved ((label-decides x y).0 e)
answer-is (ans.Left x) (ans.Left y) e = ap ans.Left ((point-decides x y).0 e)
answer-is ans.Attached ans.Attached e = refl
answer-is (ans.Gathered x v) (ans.Gathered y w) e = both ans.Gathered x y v w (Decides-eqb x y) (Decides-eqb v w) e
answer-is (ans.Emitted x) (ans.Emitted y) e = ap ans.Emitted ((label-decides x y).0 e)
answer-is (ans.Pulsed x) (ans.Pulsed y) e = ap ans.Pulsed ((label-decides x y).0 e)
answer-is (ans.Hopped x v) (ans.Hopped y w) e = both ans.Hopped x y v w (label-decides x y) (nodes-decides v w) e
answer-is (ans.Shown x) (ans.Shown y) e = ap ans.Shown ((label-decides x y).0 e)
answer-is (ans.Took x) (ans.Took y) e = ap ans.Took ((label-decides x y).0 e)
answer-is (ans.Brought x) (ans.Brought y) e = ap ans.Brought ((label-decides x y).0 e)
answer-is ans.Again ans.Again e = refl
answer-is (ans.Beat x) (ans.Beat y) e = ap ans.Beat ((Decides-eqb x y).0 e)
answer-is ans.Taken ans.Taken e = refl
answer-is ans.Old ans.Old e = refl
answer-is (ans.Closed x v) (ans.Closed y w) e = both ans.Closed x y v w (Decides-eqb x y) (point-decides v w) e
answer-is ans.Fallen ans.Fallen e = refl
answer-is (ans.View x) (ans.View y) e = ap ans.View ((Decides-eqb x y).0 e)
answer-is ans.Killed ans.Killed e = refl
answer-is (ans.Settled x v) (ans.Settled y w) e = both ans.Settled x y v w (Decides-eqb x y) (Decides-eqb v w) e
answer-is (ans.Refused x) (ans.Refused y) e = ap ans.Refused ((refusal-decides x y).0 e)
answer-is _ _ e = absurd (never e)

answer-self : (x : Answer) → answer.ghosts.eq x x ≡ true
answer-self (ans.Ticked x) = (Decides-eqb x x).1 refl
answer-self (ans.Clocked x) = (Decides-eqb x x).1 refl
answer-self (ans.Wrote x) = (label-decides x x).1 refl
answer-self ans.ReadNone = refl
answer-self (ans.ReadSome x v) = both-self (label-decides x x) (bytes_decides v v)
answer-self (ans.Moved x) = (label-decides x x).1 refl
answer-self (ans.Left x) = (point-decides x x).1 refl
answer-self ans.Attached = refl
answer-self (ans.Gathered x v) = both-self (Decides-eqb x x) (Decides-eqb v v)
answer-self (ans.Emitted x) = (label-decides x x).1 refl
answer-self (ans.Pulsed x) = (label-decides x x).1 refl
answer-self (ans.Hopped x v) = both-self (label-decides x x) (nodes-decides v v)
answer-self (ans.Shown x) = (label-decides x x).1 refl
answer-self (ans.Took x) = (label-decides x x).1 refl
answer-self (ans.Brought x) = (label-decides x x).1 refl
answer-self ans.Again = refl
answer-self (ans.Beat x) = (Decides-eqb x x).1 refl
answer-self ans.Taken = refl
answer-self ans.Old = refl
answer-self (ans.Closed x v) = both-self (Decides-eqb x x) (point-decides v v)
answer-self ans.Fallen = refl
answer-self (ans.View x) = (Decides-eqb x x).1 refl
answer-self ans.Killed = refl
answer-self (ans.Settled x v) = both-self (Decides-eqb x x) (Decides-eqb v v)
answer-self (ans.Refused x) = (refusal-decides x x).1 refl

pub answer-decides : (x y : Answer) → Decides (answer.ghosts.eq x y) (x ≡ y)
answer-decides x y = (answer-is x y, λ e. subst (λ (z : Answer). answer.ghosts.eq x z ≡ true) e (answer-self x))
