-- A link that is drained.
use Rattle.std.proofs.Common.{◌≡◌, ◌≢◌, ℕ, ◌+◌, ⊎_elim, List, Option, Some, None, MatchOption, slice_get, inl, inr, refl, sym, ap, ◌∙◌, subst}
use Rattle.sat_act.specs.Deployed.{Deployed}
use Rattle.sat_tree.specs.Cut.{neighbours}
use Rattle.sat_label.specs.declared.label.Label.{Label}
use Rattle.sat_label.specs.declared.node.NodeId.{NodeId}
use Rattle.sat_model.specs.Interests.{interest_of}
use Rattle.sat_machines.specs.declared.serial_act.SerialAct.TheVariants as given
use Rattle.sat_machines.specs.Sites.{some_if}
use Rattle.sat_link.specs.Ends.{rise}
use Rattle.sat_node.specs.declared.kept.Body.{Body}
use Rattle.sat_node.specs.declared.kept.Body.TheVariants as body
use Rattle.sat_node.specs.declared.kept.Envelope.{Envelope}
use Rattle.sat_node.specs.Links.{InSeen, OnlyAt, Popped, Pulled, Cleared, front_at, kept_front}
use Rattle.sat_machines.specs.declared.serial_act.SerialAct.{SerialAct}
use Rattle.sat_machines.specs.Serials.{SerialSeen, arrives}
use Rattle.sat_passes.specs.Relays.{IsDrained, SameEmpties, SameSerial, hop_at, hop_from, hop_with}
use Rattle.sat_passes.proofs.Members.{First, first_more, only_as, only_same, only_then}
use Rattle.sat_passes.proofs.Hops.{front_hop}

-- the changed member is the one of its number
pub only_know : {X : Type 0} (R : X → X → Type 0) (link : ℕ) (a b : List X) → OnlyAt link R a b → OnlyAt link (λ x y. R x y × (slice_get b link ≡ Some y)) a b
only_know {X} R link a b ab = (ab.0, each) where
  each : (k : ℕ) (y : X) → slice_get b k ≡ Some y → (x : X) × (slice_get a k ≡ Some x) × ((k ≢ link → y ≡ x) × (k ≡ link → R x y × (slice_get b link ≡ Some y)))
  each k y at = let h = ab.1 k y at in (h.0, h.1, (h.2.0, (λ e. (h.2.1 e, subst (λ (n : ℕ). slice_get b n ≡ Some y) e at))))

-- a pop that gave nothing
pulled-none : (f : Option Envelope) (j i : InSeen) → j.front ≡ f → i.front ≡ None → MatchOption f ((i.place ≡ j.place) × Popped i.front j.link i.link) (λ _. i ≡ j) → i.link.empties ≡ rise j.link.empties
pulled-none None j i fj fi h = (let p = subst (λ (g : Option Envelope). Popped g j.link i.link) fi h.1 in p.3)
pulled-none (Some e) j i fj fi h = absurd (let wrong : None ≡ Some e = sym fi ∙ (ap (λ (x : InSeen). x.front) h ∙ fj) in cc (wrong))

-- a pop that gave something, or none
pulled-some : (f : Option Envelope) (e : Envelope) (j i : InSeen) → i.front ≡ Some e → MatchOption f ((i.place ≡ j.place) × Popped i.front j.link i.link) (λ _. i ≡ j) → i.link.empties ≡ j.link.empties
pulled-some None e j i fi h = (let p = subst (λ (g : Option Envelope). Popped g j.link i.link) fi h.1 in p.3)
pulled-some (Some x) e j i fi h = ap (λ (y : InSeen). y.link.empties) h

drained-at : (d : Deployed) (x : SerialSeen) (k : ℕ) (j i : InSeen) (f : Option Envelope) → i.front ≡ f → hop_at d x k f ≡ None → Pulled j i → IsDrained d x k j i
drained-at d x k j i None fi none h = inl (fi, pulled-none j.front j i refl fi h)
drained-at d x k j i (Some e) fi none h = inr (e, fi, none)

-- what was pulled isn't a hop
pub pulled_drained : (d : Deployed) (x : SerialSeen) (link : ℕ) (a b : List InSeen) → hop_at d x link (front_at b link) ≡ None → OnlyAt link Pulled a b → OnlyAt link (IsDrained d x link) a b
pulled_drained d x link a b none ab =
    only_as (λ j i. Pulled j i × (slice_get b link ≡ Some i)) (IsDrained d x link) link a b
    (λ j i h. drained-at d x link j i i.front refl (ap (λ (o : Option InSeen). hop_at d x link (kept_front o)) (sym h.1) ∙ none) h.0)
    (only_know Pulled link a b ab)

empties-at : (e : Envelope) (b : List InSeen) (link : ℕ) (j i h : InSeen) → front_at b link ≡ Some e → Pulled j i → slice_get b link ≡ Some i → Cleared i h → SameEmpties j h
empties-at e b link j i h front pulled at cleared =
    ap (λ (x : InSeen). x.link.empties) cleared ∙ pulled-some j.front e j i (ap kept_front (sym at) ∙ front) pulled

-- what was pulled was taken
pub pulled_taken : (d : Deployed) (x : SerialSeen) (link : ℕ) (a b c : List InSeen) (hop : SerialAct) → hop_at d x link (front_at b link) ≡ Some hop → OnlyAt link Pulled a b → OnlyAt link Cleared b c → OnlyAt link SameEmpties a c
pulled_taken d x link a b c hop some ab bc =
    let front = front_hop d x link (front_at b link) hop some in
    only_then (λ j i. Pulled j i × (slice_get b link ≡ Some i)) Cleared SameEmpties link a b c
    (λ j i h p q. empties-at front.0 b link j i h front.1 p.0 p.1 q)
    (only_know Pulled link a b ab) bc

-- ---- one link, round by round

-- another round that took something
pub empties_more : (link : ℕ) (a b c : List InSeen) → OnlyAt link SameEmpties a b → OnlyAt link SameEmpties b c → OnlyAt link SameEmpties a c
empties_more link a b c ab bc = only_then SameEmpties SameEmpties SameEmpties link a b c (λ j i h p q. q ∙ p) ab bc

drained-after : (d : Deployed) (x : SerialSeen) (k : ℕ) (j i h : InSeen) → SameEmpties j i → IsDrained d x k i h → IsDrained d x k j h
drained-after d x k j i h same drained = ⊎_elim (λ (e : (h.front ≡ None) × (h.link.empties ≡ rise i.link.empties)). inl (e.0, e.1 ∙ ap rise same)) (λ (e : (e : Envelope) × (h.front ≡ Some e) × (hop_with d x k e.body ≡ None)). inr e) drained

-- the last round
pub empties_drained : (d : Deployed) (x : SerialSeen) (link : ℕ) (a b c : List InSeen) → OnlyAt link SameEmpties a b → OnlyAt link (IsDrained d x link) b c → OnlyAt link (IsDrained d x link) a c
empties_drained d x link a b c ab bc = only_then SameEmpties (IsDrained d x link) (IsDrained d x link) link a b c (λ j i h p q. drained-after d x link j i h p q) ab bc

pub empties_none : (link : ℕ) (a : List InSeen) → OnlyAt link SameEmpties a a
empties_none link a = only_same SameEmpties link a (λ i. refl)

-- ---- link by link

from-same : (d : Deployed) (x y : SerialSeen) (l : Label) (o : Option NodeId) → SameSerial x y → hop_from d y o l ≡ hop_from d x o l
from-same d x y l None same = refl
from-same d x y l (Some u) same = λ n. some_if (arrives (interest_of d) (same.tree n) (same.number n) u l) (given.Hop u l)

with-same : (d : Deployed) (x y : SerialSeen) (k : ℕ) (b : Body) → SameSerial x y → hop_with d y k b ≡ hop_with d x k b
with-same d x y k (body.Label l) same = (λ n. hop_from d y (slice_get (neighbours (same.tree n) (same.number n)) k) l) ∙ from-same d x y l (slice_get (neighbours x.serial.tree x.serial.number) k) same
with-same d x y k (body.Payload gear number payload) same = refl
with-same d x y k (body.Beat number beat) same = refl

drained-still : (d : Deployed) (x y : SerialSeen) (k : ℕ) (j i : InSeen) → SameSerial x y → IsDrained d x k j i → IsDrained d y k j i
drained-still d x y k j i same drained =
    ⊎_elim (λ (e : (i.front ≡ None) × (i.link.empties ≡ rise j.link.empties)). inl e)
    (λ (e : (e : Envelope) × (i.front ≡ Some e) × (hop_with d x k e.body ≡ None)). inr (e.0, e.1, with-same d x y k e.0.body same ∙ e.2)) drained

-- one link more was drained
pub drained_more : (d : Deployed) (x y : SerialSeen) (n : ℕ) (a b c : List InSeen) → SameSerial x y → First n (λ k j i. IsDrained d x k j i) a b → OnlyAt n (IsDrained d y n) b c → First (n + 1) (λ k j i. IsDrained d y k j i) a c
drained_more d x y n a b c same ab bc =
    first_more (λ k j i. IsDrained d x k j i) (λ k j i. IsDrained d y k j i) n a b c (λ k j i h. drained-still d x y k j i same h) ab bc
