-- What holds of each history with chains, act by act.
use Rattle.std.proofs.Common.{◌≡◌, ◌<◌, ℕ, ◌+◌, Bool, true, false, ◌&&◌, ◌==◌, nat_lt, List, [], ◌∷◌, ◌++◌, length, Option, Some, None, is_some, slice_get, refl, sym, ap, subst, subst₂, ◌∙◌, inl, inr, if◌then◌else◌, append-nil, arith, length-append}
use Rattle.std.proofs.lemmas.Bool.Decides.{nat_tests}
use Rattle.sat_label.specs.declared.label.Label.{Label}
use Rattle.sat_label.specs.declared.node.NodeId.{NodeId}
use Rattle.sat_label.specs.declared.node.NodeId.TheVariants.{Serializer}
use Rattle.sat_label.specs.Members.{In}
use Rattle.sat_tree.specs.Shape.{TreeShape}
use Rattle.sat_tree.specs.Cut.{is_edge}
use Rattle.sat_act.specs.declared.act.Act.{Act}
use Rattle.sat_act.specs.declared.act.Act.TheVariants as act
use Rattle.sat_act.specs.declared.answer.Answer.{Answer}
use Rattle.sat_act.specs.declared.answer.Answer.TheVariants as ans
use Rattle.sat_act.specs.declared.answer.Refusal.TheVariants as no
use Rattle.sat_act.specs.declared.entry.Entry.{Entry}
use Rattle.sat_act.specs.Deployed.{Deployed}
use Rattle.sat_act.specs.Runs.{IsRun, is_settle}
use Rattle.sat_act.specs.Parts.{tree_of, entered, link_front, killed}
use Rattle.sat_act.specs.Answers.{answer, refused_if, InRange, hop_to}
use Rattle.sat_laws.proofs.Runs.{entry, run-on}
use Rattle.sat_laws.proofs.Links.{tail_of, entered-step}
use Rattle.sat_chain_laws.specs.declared.chain_act.ChainAct.{ChainAct}
use Rattle.sat_chain_laws.specs.declared.chain_act.ChainAct.TheVariants as chain
use Rattle.sat_chain_laws.specs.declared.chain_answer.ChainAnswer.{ChainAnswer}
use Rattle.sat_chain_laws.specs.declared.chain_answer.ChainAnswer.TheVariants as says
use Rattle.sat_chain_laws.specs.Rows.{Pair, Replica, Row, head, next_after, tail, row_with, labels_from, IsPrefix}
use Rattle.sat_chain_laws.specs.Chains.{ChainEntry, Change, head_gains, next_gains, handed_on, changed, seq, applied, next_pair, projected, plain, plain_entry, hop_of_pair, hop_of, hop_pair, hops}
use Rattle.sat_chain_laws.specs.ChainAnswers.{goes_to, is_allowed, IsChainInRange}
use Rattle.sat_chain_laws.specs.ChainRuns.{IsChainRun}
use Rattle.sat_chain_laws.proofs.Lists.{some_is, prefix-nil, prefix-more}
use Rattle.sat_chain_laws.proofs.Rows.{RowGood, IsFirst, first-is, first-none, put-cases, row-crash, row-enter, row-pass, row-apply, row-front, row-more}
use Rattle.sat_chain_laws.proofs.Moves.{Move, plainly, enters, passes, applies, crashes, refuses, move}
use Rattle.sat_chain_laws.proofs.Done.{done-step, taken-is}

-- ---- links into a serializer

abbrev pub links_in : Deployed → List Entry → ℕ → ℕ → Option TreeShape → NodeId → List Label
links_in d h e z None u = []
links_in d h e z (Some t) u = entered d h e t u (Serializer z)

abbrev pub IsNeighbourOf : Deployed → ℕ → ℕ → NodeId → Type 0
IsNeighbourOf d e z u = (t : TreeShape) × (tree_of d e ≡ Some t) × (is_edge t u (Serializer z) ≡ true)

abbrev pub Good : Deployed → List Entry → ℕ → ℕ → ℕ → Row → Type 0
Good d h r e z row = RowGood (links_in d h e z (tree_of d e)) (IsNeighbourOf d e z) (hops h e z) r row

links-grow : (d : Deployed) (h : List Entry) (x : Entry) (e z : ℕ) (o : Option TreeShape) (u : NodeId) → IsPrefix (links_in d h e z o u) (links_in d (x ∷ h) e z o u)
links-grow d h x e z None u = prefix-nil []
links-grow d h x e z (Some t) u =
    subst (λ (l : List Label). IsPrefix (entered d h e t u (Serializer z)) l) (sym (entered-step d h x e t u (Serializer z))) (prefix-more (entered d h e t u (Serializer z)) _)

pub links-are : (d : Deployed) (h : List Entry) (e z : ℕ) (t : TreeShape) (u : NodeId) → tree_of d e ≡ Some t → links_in d h e z (tree_of d e) u ≡ entered d h e t u (Serializer z)
links-are d h e z t u k = ap (λ (o : Option TreeShape). links_in d h e z o u) k

-- an entry that hops nothing at this serializer
good-later : (d : Deployed) (h : List Entry) (x : Entry) (r e z : ℕ) (row : Row) → hop_pair e z h x ≡ None → Good d h r e z row → Good d (x ∷ h) r e z row
good-later d h x r e z row none good =
    let same : hops (x ∷ h) e z ≡ hops h e z = done-step h x e z ∙ ap (λ (o : Option Pair). hops h e z ++ tail_of o) none ∙ append-nil (hops h e z) in
    subst (λ (ps : List Pair). RowGood (links_in d (x ∷ h) e z (tree_of d e)) (IsNeighbourOf d e z) ps r row) (sym same)
    (row-more (links_in d h e z (tree_of d e)) (links_in d (x ∷ h) e z (tree_of d e)) (IsNeighbourOf d e z) (hops h e z) r row (links-grow d h x e z (tree_of d e)) good)

-- ---- what holds

-- with h the plain history
pub record HeldFor (d : Deployed) (r : ℕ) (c : List ChainEntry) (h : List Entry) : Type 0 where
  pub run : IsRun d h
  pub rows : (e z : ℕ) → Good d h r e z (seq r c e z)
  pub count : (e z : ℕ) → applied c e z ≡ length (hops h e z)
  pub alive : (e z k : ℕ) (xs : List Pair) → seq r c e z k ≡ Some xs → killed h e z ≡ false

abbrev pub Held : Deployed → ℕ → List ChainEntry → Type 0
Held d r c = HeldFor d r c (plain r c)

-- a good row, in which something lives only where something lived before
abbrev Follows : Deployed → List Entry → ℕ → ℕ → ℕ → Row → Row → Type 0
Follows d h r e z row next = Good d h r e z next × ((k : ℕ) (xs : List Pair) → next k ≡ Some xs → (j : ℕ) × (ys : List Pair) × (row j ≡ Some ys))

same-follows : (d : Deployed) (h : List Entry) (r e z : ℕ) (row : Row) → Good d h r e z row → Follows d h r e z row row
same-follows d h r e z row good = (good, λ k xs living. (k, xs, living))

put-lives : (row : Row) (j : ℕ) (ys zs : List Pair) → row j ≡ Some ys → (k : ℕ) (xs : List Pair) → row_with row j (Some zs) k ≡ Some xs → (i : ℕ) × (ws : List Pair) × (row i ≡ Some ws)
put-lives row j ys zs has k xs living = elim (put-cases row j (Some zs) k xs living) [ inl w ↦ (j, ys, has) | inr w ↦ (k, xs, w.1) ]

-- the test of two numbers
pub both-same : (f e y z : ℕ) → ((f == e) && (y == z)) ≡ true → (f ≡ e) × (y ≡ z)
both-same f e y z w = go (f == e) (y == z) refl refl w
  where
    go : (a b : Bool) → (f == e) ≡ a → (y == z) ≡ b → (a && b) ≡ true → (f ≡ e) × (y ≡ z)
    go true true p q w = (grind (arith, nat_tests), grind (arith, nat_tests))
    go true false p q w = absurd (cc)
    go false b p q w = absurd (cc)

module _ (d : Deployed) (h : List Entry) (r : ℕ) (rows : ℕ → ℕ → Row) (good : (e z : ℕ) → Good d h r e z (rows e z)) where
  enter-here : (f y : ℕ) (u : NodeId) (q : Replica) (t : TreeShape) (l : Label) → head r (rows f y) ≡ Some q → tree_of d f ≡ Some t → is_edge t u (Serializer y) ≡ true →
      slice_get (entered d h f t u (Serializer y)) (length (labels_from u q.list)) ≡ Some l →
      Follows d h r f y (rows f y) (changed (rows f y) (head_gains r (rows f y) (record { from = u; label = l })))
  unfolding head
  enter-here f y u q t l hd k g at =
      let at' : slice_get (links_in d h f y (tree_of d f) u) (length (labels_from u q.list)) ≡ Some l =
      subst (λ (ls : List Label). slice_get ls (length (labels_from u q.list)) ≡ Some l) (sym (links-are d h f y t u k)) at in
      let f1 : IsFirst (rows f y) 0 (0 + r) q = first-is (rows f y) 0 r q hd in
      subst (λ (o : Option Change). Follows d h r f y (rows f y) (changed (rows f y) o))
      (sym (ap (λ (o : Option Replica). elim o [ None ↦ None | Some h ↦ Some (h.number, Some (h.list ++ record { from = u; label = l } ∷ [])) ]) hd)) (
        row-enter (links_in d h f y (tree_of d f)) (IsNeighbourOf d f y) (hops h f y) r (rows f y) (good f y) q u l hd at' (t, k, g),
        put-lives (rows f y) q.number q.list (q.list ++ record { from = u; label = l } ∷ []) f1.has,
      )

  enter-any : (f y : ℕ) (u : NodeId) (q : Replica) (t : TreeShape) (l : Label) → head r (rows f y) ≡ Some q → tree_of d f ≡ Some t → is_edge t u (Serializer y) ≡ true →
      slice_get (entered d h f t u (Serializer y)) (length (labels_from u q.list)) ≡ Some l → (e z : ℕ) →
      Follows d h r e z (rows e z) (changed (rows e z) (if (f == e) && (y == z) then head_gains r (rows e z) (record { from = u; label = l }) else None))
  enter-any f y u q t l hd k g at e z = go ((f == e) && (y == z)) refl
    where
      go : (b : Bool) → ((f == e) && (y == z)) ≡ b → Follows d h r e z (rows e z) (changed (rows e z) (if b then head_gains r (rows e z) (record { from = u; label = l }) else None))
      go true w =
          let s : (f ≡ e) × (y ≡ z) = both-same f e y z w in
          subst₂ (λ (e z : ℕ). Follows d h r e z (rows e z) (changed (rows e z) (head_gains r (rows e z) (record { from = u; label = l })))) s.0 s.1 (enter-here f y u q t l hd k g at)
      go false w = same-follows d h r e z (rows e z) (good e z)

  pass-here : (f y k : ℕ) (xs : List Pair) (n : Replica) (p : Pair) → rows f y k ≡ Some xs → next_after r (rows f y) k ≡ Some n → slice_get xs (length n.list) ≡ Some p →
      Follows d h r f y (rows f y) (changed (rows f y) (next_gains r (rows f y) k))
  unfolding next_after
  pass-here f y k xs n p has nx at =
      let f1 = first-is (rows f y) (k + 1) _ n nx in
      let given : handed_on (rows f y) k n ≡ Some p = ap (λ (o : Option (List Pair)). elim o [ None ↦ None | Some xs ↦ slice_get xs (length n.list) ]) has ∙ at in
      let what : next_gains r (rows f y) k ≡ Some (n.number, Some (n.list ++ p ∷ [])) =
      ap (λ (o : Option Replica). elim o [ None ↦ None | Some n ↦ elim (handed_on (rows f y) k n) [ None ↦ None | Some p ↦ Some (n.number, Some (n.list ++ p ∷ [])) ] ]) nx
      ∙ ap (λ (o : Option Pair). elim o [ None ↦ None | Some p ↦ Some (n.number, Some (n.list ++ p ∷ [])) ]) given in
      subst (λ (o : Option Change). Follows d h r f y (rows f y) (changed (rows f y) o)) (sym what) (
        row-pass (links_in d h f y (tree_of d f)) (IsNeighbourOf d f y) (hops h f y) r (rows f y) (good f y) k xs n p has nx at,
        put-lives (rows f y) n.number n.list (n.list ++ p ∷ []) f1.has,
      )

  pass-any : (f y k : ℕ) (xs : List Pair) (n : Replica) (p : Pair) → rows f y k ≡ Some xs → next_after r (rows f y) k ≡ Some n → slice_get xs (length n.list) ≡ Some p → (e z : ℕ) →
      Follows d h r e z (rows e z) (changed (rows e z) (if (f == e) && (y == z) then next_gains r (rows e z) k else None))
  pass-any f y k xs n p has nx at e z = go ((f == e) && (y == z)) refl
    where
      go : (b : Bool) → ((f == e) && (y == z)) ≡ b → Follows d h r e z (rows e z) (changed (rows e z) (if b then next_gains r (rows e z) k else None))
      go true w =
          let s : (f ≡ e) × (y ≡ z) = both-same f e y z w in
          subst₂ (λ (e z : ℕ). Follows d h r e z (rows e z) (changed (rows e z) (next_gains r (rows e z) k))) s.0 s.1 (pass-here f y k xs n p has nx at)
      go false w = same-follows d h r e z (rows e z) (good e z)

  crash-any : (f y k e z : ℕ) → Follows d h r e z (rows e z) (changed (rows e z) (if (f == e) && (y == z) then Some (k, None) else None))
  crash-any f y k e z = go ((f == e) && (y == z))
    where
      go : (b : Bool) → Follows d h r e z (rows e z) (changed (rows e z) (if b then Some (k, None) else None))
      go true = (
        row-crash (links_in d h e z (tree_of d e)) (IsNeighbourOf d e z) (hops h e z) r (rows e z) (good e z) k,
        λ i xs living. elim (put-cases (rows e z) k None i xs living) [ inl w ↦ absurd (cc) | inr w ↦ (i, xs, w.1) ],
      )
      go false = same-follows d h r e z (rows e z) (good e z)

-- ---- what the plain acts leave alone

hop-of-none : (a : Act) (l : Label) (e z : ℕ) → is_allowed a ≡ true → hop_of e z l a ≡ None
hop-of-none (act.Hop f u y) l e z ok = absurd (cc)
hop-of-none _ l e z ok = refl

pub hop-none : (a : Act) (n : Answer) (i : Bool) (h : List Entry) (e z : ℕ) → is_allowed a ≡ true → hop_pair e z h (entry a n i) ≡ None
hop-none a (ans.Hopped l to) i h e z ok = hop-of-none a l e z ok
hop-none a _ i h e z ok = refl

killed-none : (a : Act) (i : Bool) (h : List Entry) (e z : ℕ) → is_allowed a ≡ true → killed (entry a ans.Killed i ∷ h) e z ≡ killed h e z
unfolding killed
killed-none (act.Kill f y) i h e z ok = absurd (cc)
killed-none _ i h e z ok = refl

pub kill-none : (a : Act) (n : Answer) (i : Bool) (h : List Entry) (e z : ℕ) → is_allowed a ≡ true → killed (entry a n i ∷ h) e z ≡ killed h e z
unfolding killed
kill-none a ans.Killed i h e z ok = killed-none a i h e z ok
kill-none a _ i h e z ok = refl

pub settle-not : (a : Act) → is_allowed a ≡ true → is_settle a ≡ false
settle-not act.Settle ok = absurd (cc)
settle-not _ ok = refl

-- ---- step by step

abbrev chain_entry : ChainAct → ChainAnswer → ChainEntry
chain_entry a n = record { act = a; answer = n }

-- a step that the plain history does not show
unseen : (d : Deployed) (r : ℕ) (c : List ChainEntry) (x : ChainEntry) → HeldFor d r c (plain r c) → plain r (x ∷ c) ≡ plain r c →
    ((e z : ℕ) → applied (x ∷ c) e z ≡ applied c e z) → ((e z : ℕ) → Follows d (plain r c) r e z (seq r c e z) (seq r (x ∷ c) e z)) → HeldFor d r (x ∷ c) (plain r (x ∷ c))
unseen d r c x old same count rows = subst (λ (h : List Entry). HeldFor d r (x ∷ c) h) (sym same) (record {
  run = old.run;
  rows = λ e z. (rows e z).0;
  count = λ e z. count e z ∙ old.count e z;
  alive = λ e z k xs living. let w = (rows e z).1 k xs living in old.alive e z w.0 w.1 w.2;
})

step-plain : (d : Deployed) (r : ℕ) (c : List ChainEntry) (a : Act) → InRange d a → is_allowed a ≡ true → Held d r c → Held d r (chain_entry (chain.Plain a) (says.Plain (answer d (plain r c) a)) ∷ c)
unfolding plain projected seq applied
step-plain d r c a range ok old = record {
  run = run-on d (plain r c) a false (settle-not a ok) old.run range;
  rows = λ e z. good-later d (plain r c) (entry a (answer d (plain r c) a) false) r e z (seq r c e z) (hop-none a (answer d (plain r c) a) false (plain r c) e z ok) (old.rows e z);
  count = λ e z. old.count e z ∙ ap length (sym (done-step (plain r c) (entry a (answer d (plain r c) a) false) e z
      ∙ ap (λ (o : Option Pair). hops (plain r c) e z ++ tail_of o) (hop-none a (answer d (plain r c) a) false (plain r c) e z ok) ∙ append-nil (hops (plain r c) e z)));
  alive = λ e z k xs living. kill-none a (answer d (plain r c) a) false (plain r c) e z ok ∙ old.alive e z k xs living;
}

step-enter : (d : Deployed) (r : ℕ) (c : List ChainEntry) (f y : ℕ) (u : NodeId) (t : TreeShape) (l : Label) (q : Replica) → head r (seq r c f y) ≡ Some q → tree_of d f ≡ Some t → is_edge t u (Serializer y) ≡ true →
    slice_get (entered d (plain r c) f t u (Serializer y)) (length (labels_from u q.list)) ≡ Some l → Held d r c → Held d r (chain_entry (chain.Enter f u y) (says.Entered l) ∷ c)
unfolding plain projected seq applied
step-enter d r c f y u t l q hd k g at old =
    unseen d r c (chain_entry (chain.Enter f u y) (says.Entered l)) old refl (λ e z. refl) (enter-any d (plain r c) r (seq r c) old.rows f y u q t l hd k g at)

step-pass : (d : Deployed) (r : ℕ) (c : List ChainEntry) (f y k : ℕ) (xs : List Pair) (n : Replica) (p : Pair) → seq r c f y k ≡ Some xs → next_after r (seq r c f y) k ≡ Some n → slice_get xs (length n.list) ≡ Some p →
    Held d r c → Held d r (chain_entry (chain.Pass f y k) (says.Passed p.label) ∷ c)
unfolding plain projected seq applied
step-pass d r c f y k xs n p has nx at old =
    unseen d r c (chain_entry (chain.Pass f y k) (says.Passed p.label)) old refl (λ e z. refl) (pass-any d (plain r c) r (seq r c) old.rows f y k xs n p has nx at)

step-refused : (d : Deployed) (r : ℕ) (c : List ChainEntry) (a : ChainAct) (reason : _) → Held d r c → Held d r (chain_entry a (says.Refused reason) ∷ c)
unfolding plain projected seq applied
step-refused d r c a reason old =
    unseen d r c (chain_entry a (says.Refused reason)) old refl (λ e z. refl) (λ e z. same-follows d (plain r c) r e z (seq r c e z) (old.rows e z))

-- ---- the crash of a replica

-- the kill of a serializer that lives
pub kill-done : (d : Deployed) (h : List Entry) (f y : ℕ) → killed h f y ≡ false → answer d h (act.Kill f y) ≡ ans.Killed
unfolding answer
kill-done d h f y e = ap (λ (b : Bool). refused_if b no.Already ans.Killed) e

killed-other : (h : List Entry) (f y e z : ℕ) (n : Bool) → ((f == e) && (y == z)) ≡ false → killed (entry (act.Kill f y) ans.Killed n ∷ h) e z ≡ killed h e z
unfolding killed
killed-other h f y e z n w =
    ap (λ (b : Bool). elim (if b then Some true else None) [ None ↦ killed h e z | Some v ↦ v ]) w

pub no-hop : (h : List Entry) (x : Entry) (e z : ℕ) → hop_pair e z h x ≡ None → hops (x ∷ h) e z ≡ hops h e z
no-hop h x e z none = done-step h x e z ∙ ap (λ (o : Option Pair). hops h e z ++ tail_of o) none ∙ append-nil (hops h e z)

-- the last living replica crashes, and with it the serializer is dead
crash-last : (d : Deployed) (r : ℕ) (c : List ChainEntry) (f y k : ℕ) (xs : List Pair) → seq r c f y k ≡ Some xs → head r (row_with (seq r c f y) k None) ≡ None → Held d r c →
    HeldFor d r (chain_entry (chain.Crash f y k) says.Crashed ∷ c) (plain_entry (act.Kill f y) ans.Killed ∷ plain r c)
unfolding seq applied head
crash-last d r c f y k xs has none old = record {
  run = subst (λ (n : Answer). IsRun d (entry (act.Kill f y) n false ∷ plain r c)) (kill-done d (plain r c) f y (old.alive f y k xs has)) (run-on d (plain r c) (act.Kill f y) false refl old.run tt);
  rows = λ e z. good-later d (plain r c) (plain_entry (act.Kill f y) ans.Killed) r e z (seq r (chain_entry (chain.Crash f y k) says.Crashed ∷ c) e z) refl (rows e z).0;
  count = λ e z. old.count e z ∙ ap length (sym (no-hop (plain r c) (plain_entry (act.Kill f y) ans.Killed) e z refl));
  alive = λ e z i ys living. go e z i ys living ((f == e) && (y == z)) refl;
}
  where
    rows : (e z : ℕ) → Follows d (plain r c) r e z (seq r c e z) (seq r (chain_entry (chain.Crash f y k) says.Crashed ∷ c) e z)
    rows e z = crash-any d (plain r c) r (seq r c) old.rows f y k e z

    go : (e z i : ℕ) (ys : List Pair) → seq r (chain_entry (chain.Crash f y k) says.Crashed ∷ c) e z i ≡ Some ys → (b : Bool) → ((f == e) && (y == z)) ≡ b →
        killed (plain_entry (act.Kill f y) ans.Killed ∷ plain r c) e z ≡ false
    go e z i ys living true w =
        let s : (f ≡ e) × (y ≡ z) = both-same f e y z w in
        let low : i < r = (crash-any d (plain r c) r (seq r c) old.rows f y k e z).0.bound i ys living in
        let there : row_with (seq r c e z) k None i ≡ Some ys = subst (λ (b : Bool). changed (seq r c e z) (if b then Some (k, None) else None) i ≡ Some ys) w living in
        let gone : head r (row_with (seq r c e z) k None) ≡ None = subst₂ (λ (e z : ℕ). head r (row_with (seq r c e z) k None) ≡ None) s.0 s.1 none in
        absurd (first-none (row_with (seq r c e z) k None) 0 r gone i ys (omega arith) (omega arith) there)
    go e z i ys living false w =
        let there : seq r c e z i ≡ Some ys = subst (λ (b : Bool). changed (seq r c e z) (if b then Some (k, None) else None) i ≡ Some ys) w living in
        killed-other (plain r c) f y e z false w ∙ old.alive e z i ys there

pub crashed-plain : (r : ℕ) (c : List ChainEntry) (f y k : ℕ) (o : Option Replica) → head r (row_with (seq r c f y) k None) ≡ o →
    plain r (chain_entry (chain.Crash f y k) says.Crashed ∷ c) ≡ elim (if is_some o then None else Some (plain_entry (act.Kill f y) ans.Killed)) [ None ↦ plain r c | Some entry ↦ entry ∷ plain r c ]
unfolding plain projected
crashed-plain r c f y k o w = ap (λ (o : Option Replica). elim (if is_some o then None else Some (plain_entry (act.Kill f y) ans.Killed)) [ None ↦ plain r c | Some entry ↦ entry ∷ plain r c ]) w

step-crash : (d : Deployed) (r : ℕ) (c : List ChainEntry) (f y k : ℕ) (xs : List Pair) → seq r c f y k ≡ Some xs → Held d r c → Held d r (chain_entry (chain.Crash f y k) says.Crashed ∷ c)
unfolding seq applied
step-crash d r c f y k xs has old = go (head r (row_with (seq r c f y) k None)) refl
  where
    go : (o : Option Replica) → head r (row_with (seq r c f y) k None) ≡ o → Held d r (chain_entry (chain.Crash f y k) says.Crashed ∷ c)
    go (Some q) w =
        unseen d r c (chain_entry (chain.Crash f y k) says.Crashed) old (crashed-plain r c f y k (Some q) w)
        (λ e z. refl) (λ e z. crash-any d (plain r c) r (seq r c) old.rows f y k e z)
    go None w = subst (λ (h : List Entry). HeldFor d r (chain_entry (chain.Crash f y k) says.Crashed ∷ c) h) (sym (crashed-plain r c f y k None w)) (crash-last d r c f y k xs has w old)

-- ---- a label takes effect

-- the hop of the front of a link, at a serializer that lives
pub hop-done : (d : Deployed) (h : List Entry) (f y : ℕ) (t : TreeShape) (p : Pair) → killed h f y ≡ false → tree_of d f ≡ Some t → link_front d h f t p.from (Serializer y) ≡ Some p.label →
    answer d h (act.Hop f p.from y) ≡ ans.Hopped p.label (goes_to d t y p)
unfolding answer hop_to goes_to
hop-done d h f y t p k tree w = rw (k, tree, w) refl

pub apply-plain : (d : Deployed) (r : ℕ) (c : List ChainEntry) (f y : ℕ) (q : Replica) (p : Pair) (n : Answer) → tail r (seq r c f y) ≡ Some q → slice_get q.list (applied c f y) ≡ Some p →
    plain r (chain_entry (chain.Apply f y) (says.Plain n) ∷ c) ≡ plain_entry (act.Hop f p.from y) n ∷ plain r c
unfolding plain projected next_pair
apply-plain d r c f y q p n tl at =
    ap (λ (o : Option Pair). elim (hop_of_pair f y n o) [ None ↦ plain r c | Some first ↦ first ∷ plain r c ])
    (ap (λ (o : Option Replica). elim o [ None ↦ None | Some t ↦ slice_get t.list (applied c f y) ]) tl ∙ at)

-- what the pair that takes effect next tells of its link
apply-front : (d : Deployed) (r : ℕ) (c : List ChainEntry) (f y : ℕ) (q : Replica) (p : Pair) → tail r (seq r c f y) ≡ Some q → slice_get q.list (applied c f y) ≡ Some p → Held d r c →
    (slice_get (links_in d (plain r c) f y (tree_of d f) p.from) (length (labels_from p.from (hops (plain r c) f y))) ≡ Some p.label) × IsNeighbourOf d f y p.from × (seq r c f y q.number ≡ Some q.list)
apply-front d r c f y q p tl at old =
    row-front (links_in d (plain r c) f y (tree_of d f)) (IsNeighbourOf d f y) (hops (plain r c) f y) r (seq r c f y) (old.rows f y) q p tl (subst (λ (n : ℕ). slice_get q.list n ≡ Some p) (old.count f y) at)

-- a hop from that pair's neighbour handles it
pub apply-says : (d : Deployed) (r : ℕ) (c : List ChainEntry) (f y : ℕ) (t : TreeShape) (q : Replica) (p : Pair) → tail r (seq r c f y) ≡ Some q → slice_get q.list (applied c f y) ≡ Some p → tree_of d f ≡ Some t → Held d r c →
    answer d (plain r c) (act.Hop f p.from y) ≡ ans.Hopped p.label (goes_to d t y p)
unfolding link_front
apply-says d r c f y t q p tl at tree old =
    let front = apply-front d r c f y q p tl at old in
    let here : link_front d (plain r c) f t p.from (Serializer y) ≡ Some p.label =
    ap (slice_get (entered d (plain r c) f t p.from (Serializer y))) (taken-is d (plain r c) f y p.from old.run)
    ∙ subst (λ (ls : List Label). slice_get ls (length (labels_from p.from (hops (plain r c) f y))) ≡ Some p.label) (links-are d (plain r c) f y t p.from tree) front.0 in
    hop-done d (plain r c) f y t p (old.alive f y q.number q.list front.2) tree here

apply-held : (d : Deployed) (r : ℕ) (c : List ChainEntry) (f y : ℕ) (t : TreeShape) (q : Replica) (p : Pair) → tail r (seq r c f y) ≡ Some q → slice_get q.list (applied c f y) ≡ Some p → tree_of d f ≡ Some t →
    Held d r c → HeldFor d r (chain_entry (chain.Apply f y) (says.Plain (ans.Hopped p.label (goes_to d t y p))) ∷ c) (plain_entry (act.Hop f p.from y) (ans.Hopped p.label (goes_to d t y p)) ∷ plain r c)
unfolding seq applied killed plain
apply-held d r c f y t q p tl at tree old =
    let at' : slice_get q.list (length (hops (plain r c) f y)) ≡ Some p = subst (λ (n : ℕ). slice_get q.list n ≡ Some p) (old.count f y) at in
    let same : answer d (plain r c) (act.Hop f p.from y) ≡ ans.Hopped p.label (goes_to d t y p) = apply-says d r c f y t q p tl at tree old in
    record {
      run = subst (λ (n : Answer). IsRun d (entry (act.Hop f p.from y) n false ∷ plain r c)) same (run-on d (plain r c) (act.Hop f p.from y) false refl old.run (apply-front d r c f y q p tl at old).1);
      rows = λ e z. rows at' e z ((f == e) && (y == z)) refl;
      count = λ e z. counts e z ((f == e) && (y == z)) refl;
      alive = old.alive;
    }
  where
    step : (e z : ℕ) (b : Bool) → ((f == e) && (y == z)) ≡ b →
        hops (plain_entry (act.Hop f p.from y) (ans.Hopped p.label (goes_to d t y p)) ∷ plain r c) e z ≡ hops (plain r c) e z ++ tail_of (if b then Some p else None)
    step e z b w = done-step (plain r c) (plain_entry (act.Hop f p.from y) (ans.Hopped p.label (goes_to d t y p))) e z ∙ ap (λ (b : Bool). hops (plain r c) e z ++ tail_of (if b then Some p else None)) w

    rows : slice_get q.list (length (hops (plain r c) f y)) ≡ Some p → (e z : ℕ) (b : Bool) → ((f == e) && (y == z)) ≡ b →
        Good d (plain_entry (act.Hop f p.from y) (ans.Hopped p.label (goes_to d t y p)) ∷ plain r c) r e z (seq r c e z)
    rows at' e z true w =
        let s : (f ≡ e) × (y ≡ z) = both-same f e y z w in
        let grown : RowGood (links_in d (plain r c) e z (tree_of d e)) (IsNeighbourOf d e z) (hops (plain r c) e z ++ p ∷ []) r (seq r c e z) =
        subst₂ (λ (e z : ℕ). RowGood (links_in d (plain r c) e z (tree_of d e)) (IsNeighbourOf d e z) (hops (plain r c) e z ++ p ∷ []) r (seq r c e z)) s.0 s.1
        (row-apply (links_in d (plain r c) f y (tree_of d f)) (IsNeighbourOf d f y) (hops (plain r c) f y) r (seq r c f y) (old.rows f y) q p tl at') in
        subst (λ (ps : List Pair). RowGood (links_in d (plain_entry (act.Hop f p.from y) (ans.Hopped p.label (goes_to d t y p)) ∷ plain r c) e z (tree_of d e)) (IsNeighbourOf d e z) ps r (seq r c e z)) (sym (step e z true w))
        (row-more (links_in d (plain r c) e z (tree_of d e)) (links_in d (plain_entry (act.Hop f p.from y) (ans.Hopped p.label (goes_to d t y p)) ∷ plain r c) e z (tree_of d e)) (IsNeighbourOf d e z)
        (hops (plain r c) e z ++ p ∷ []) r (seq r c e z) (links-grow d (plain r c) (plain_entry (act.Hop f p.from y) (ans.Hopped p.label (goes_to d t y p))) e z (tree_of d e)) grown)
    rows at' e z false w =
        subst (λ (ps : List Pair). RowGood (links_in d (plain_entry (act.Hop f p.from y) (ans.Hopped p.label (goes_to d t y p)) ∷ plain r c) e z (tree_of d e)) (IsNeighbourOf d e z) ps r (seq r c e z)) (sym (step e z false w ∙ append-nil (hops (plain r c) e z)))
        (row-more (links_in d (plain r c) e z (tree_of d e)) (links_in d (plain_entry (act.Hop f p.from y) (ans.Hopped p.label (goes_to d t y p)) ∷ plain r c) e z (tree_of d e)) (IsNeighbourOf d e z)
        (hops (plain r c) e z) r (seq r c e z) (links-grow d (plain r c) (plain_entry (act.Hop f p.from y) (ans.Hopped p.label (goes_to d t y p))) e z (tree_of d e)) (old.rows e z))

    counts : (e z : ℕ) (b : Bool) → ((f == e) && (y == z)) ≡ b →
        (if (f == e) && (y == z) then applied c e z + 1 else applied c e z) ≡ length (hops (plain_entry (act.Hop f p.from y) (ans.Hopped p.label (goes_to d t y p)) ∷ plain r c) e z)
    counts e z true w =
        ap (λ (b : Bool). if b then applied c e z + 1 else applied c e z) w ∙ ap (λ (n : ℕ). n + 1) (old.count e z)
        ∙ sym (ap length (step e z true w) ∙ length-append (hops (plain r c) e z) (p ∷ []))
    counts e z false w =
        ap (λ (b : Bool). if b then applied c e z + 1 else applied c e z) w ∙ old.count e z ∙ sym (ap length (step e z false w ∙ append-nil (hops (plain r c) e z)))

step-apply : (d : Deployed) (r : ℕ) (c : List ChainEntry) (f y : ℕ) (t : TreeShape) (q : Replica) (p : Pair) → tail r (seq r c f y) ≡ Some q → slice_get q.list (applied c f y) ≡ Some p → tree_of d f ≡ Some t →
    Held d r c → Held d r (chain_entry (chain.Apply f y) (says.Plain (ans.Hopped p.label (goes_to d t y p))) ∷ c)
step-apply d r c f y t q p tl at tree old =
    subst (λ (h : List Entry). HeldFor d r (chain_entry (chain.Apply f y) (says.Plain (ans.Hopped p.label (goes_to d t y p))) ∷ c) h)
    (sym (apply-plain d r c f y q p (ans.Hopped p.label (goes_to d t y p)) tl at)) (apply-held d r c f y t q p tl at tree old)

-- ---- all of them

start : (d : Deployed) (r : ℕ) → Held d r []
unfolding plain seq applied hops labels_from killed IsRun
start d r = record {
  run = tt;
  rows = λ e z. record {
    bound = λ k xs living. (empty k xs living).1;
    begins = λ j k xs ys lt a b. subst (λ (l : List Pair). IsPrefix l xs) (sym (empty k ys b).0) (prefix-nil xs);
    did = λ k xs living. prefix-nil xs;
    from = λ k xs u living. subst (λ (l : List Pair). IsPrefix (labels_from u l) (links_in d [] e z (tree_of d e) u)) (sym (empty k xs living).0) (prefix-nil (links_in d [] e z (tree_of d e) u));
    near = λ k xs p living i. absurd (subst (λ (l : List Pair). In l p) (empty k xs living).0 i);
  };
  count = λ e z. refl;
  alive = λ e z k xs living. refl;
}
  where
    empty : (k : ℕ) (xs : List Pair) → (if nat_lt k r then Some [] else None) ≡ Some xs → (xs ≡ []) × (k < r)
    empty k xs living = go (nat_lt k r) refl living
      where
        go : (b : Bool) → nat_lt k r ≡ b → (if b then Some [] else None) ≡ Some xs → (xs ≡ []) × (k < r)
        go true w e = (sym (some_is [] xs e), grind (arith, nat_tests))
        go false w e = absurd (cc)

one-step : (d : Deployed) (r : ℕ) (c : List ChainEntry) (a : ChainAct) (n : ChainAnswer) → Move d r c a n → IsChainInRange d r a → Held d r c → Held d r (chain_entry a n ∷ c)
one-step d r c a n (plainly {a = b}) range old = step-plain d r c b range.0 range.1 old
one-step d r c a n (enters {e = f} {z = y} {u = u} {t = t} {l = l} {q = q} hd k at) range old =
    step-enter d r c f y u t l q hd k (subst (λ (s : TreeShape). is_edge s u (Serializer y) ≡ true) (some_is range.0 t (sym range.1 ∙ k)) range.2) at old
one-step d r c a n (passes {e = f} {z = y} {k = k} {xs = xs} {n = m} {p = p} has nx at) range old = step-pass d r c f y k xs m p has nx at old
one-step d r c a n (applies {e = f} {z = y} {t = t} {q = q} {p = p} tl at tree) range old = step-apply d r c f y t q p tl at tree old
one-step d r c a n (crashes {e = f} {z = y} {k = k} {xs = xs} has) range old = step-crash d r c f y k xs has old
one-step d r c a n (refuses {a = b} {reason = reason}) range old = step-refused d r c b reason old

pub held : (d : Deployed) (r : ℕ) (c : List ChainEntry) → IsChainRun d r c → Held d r c
unfolding IsChainRun
held d r [] run = start d r
held d r (x ∷ c) run = one-step d r c x.act x.answer (subst (λ (n : ChainAnswer). Move d r c x.act n) (sym run.2) (move d r c x.act)) run.1 (held d r c run.0)
