-- What an entry does to the chain of one serializer.
use Rattle.std.proofs.Common.{◌≡◌, ◌<◌, ◌≤◌, ℕ, ◌+◌, Bool, true, false, ◌&&◌, ◌==◌, nat_lt, List, [], ◌∷◌, ◌++◌, length, set, sum_by, replicate, Option, Some, None, slice_get, refl, sym, ap, ap₂, subst, ◌∙◌, if◌then◌else◌, append-nil, arith, length-set}
use Rattle.std.proofs.lemmas.List.{length-replicate}
use Rattle.std.proofs.lemmas.List.Sums.{sum_by_push}
use Rattle.std.proofs.lemmas.Bool.Decides.{nat_tests}
use Rattle.sat_label.specs.declared.label.Label.{Label}
use Rattle.sat_label.specs.declared.node.NodeId.{NodeId}
use Rattle.sat_tree.specs.Shape.{TreeShape}
use Rattle.sat_act.specs.declared.act.Act.{Act}
use Rattle.sat_act.specs.declared.act.Act.TheVariants as act
use Rattle.sat_act.specs.declared.answer.Answer.{Answer}
use Rattle.sat_act.specs.declared.answer.Answer.TheVariants as ans
use Rattle.sat_act.specs.declared.entry.Entry.{Entry}
use Rattle.sat_act.specs.Deployed.{Deployed}
use Rattle.sat_act.specs.Parts.{tree_of}
use Rattle.sat_laws.proofs.Links.{tail_of}
use Rattle.sat_chain_laws.specs.declared.pair.Pair.{Pair}
use Rattle.sat_chain_laws.specs.declared.chain_act.ChainAct.{ChainAct}
use Rattle.sat_chain_laws.specs.declared.chain_act.ChainAct.TheVariants as chain
use Rattle.sat_chain_laws.specs.declared.chain_answer.ChainAnswer.{ChainAnswer}
use Rattle.sat_chain_laws.specs.declared.chain_answer.ChainAnswer.TheVariants as says
use Rattle.sat_chain_laws.specs.declared.chain_answer.ChainRefusal.{ChainRefusal}
use Rattle.sat_chain_laws.specs.Rows.{Replica, head, next_after, tail, row_with}
use Rattle.sat_chain_laws.specs.Chains.{ChainEntry, Change, change, changed, head_gains, next_gains, handed_on, seq, applied, plain, plain_entry, projected, hops}
use Rattle.sat_chain_laws.specs.ChainAnswers.{is_allowed}
use Rattle.sat_chain_laws.specs.Goals.{ways}
use Rattle.sat_chain_laws.proofs.Lists.{some_is}
use Rattle.sat_chain_laws.proofs.Done.{done-step}
use Rattle.sat_chain_laws.proofs.Held.{hop-none, no-hop, crashed-plain, apply-plain}
use Rattle.sat_chain.specs.Chained.{ChainSeen, row_of, fresh_chain, after_change, after_crash, after_effect}
use Rattle.sat_chain.specs.StandsChain.{StandsChain}
use Rattle.sat_chain.specs.Tallies.{TellsFrom, raised}
use Rattle.sat_chain.proofs.Sets.{self-test, get-set, set-there, get-past, get-copies}
use Rattle.sat_chain.proofs.Tallied.{tells-none, tells-more}

abbrev pub entry_of : ChainAct → ChainAnswer → ChainEntry
entry_of a n = record { act = a; answer = n }

-- ---- rows

pub row-there : (rows : List (Option (List Pair))) (j k : ℕ) (o : Option (List Pair)) → j < length rows → row_of (set rows j o) k ≡ row_with (row_of rows) j o k
row-there rows j k o lt = go (j == k) refl
  where
    at : Option (Option (List Pair)) → Option (List Pair)
    at x = elim x [ None ↦ None | Some y ↦ y ]

    go : (b : Bool) → (j == k) ≡ b → row_of (set rows j o) k ≡ (if b then o else row_of rows k)
    go true w = let same : j ≡ k = grind (arith, nat_tests) in ap (λ (i : ℕ). row_of (set rows j o) i) (sym same) ∙ ap at (get-set rows j o lt)
    go false w = ap at (set-there rows j k o w)

module _ (d : Deployed) (r : ℕ) (c : List ChainEntry) (x : ChainEntry) (e z : ℕ) (ch : ChainSeen) (st : StandsChain d r c e z ch) where
  -- an entry that changes no row here and lets nothing take effect here
  pub keeps : change r x (seq r c e z) e z ≡ None → hops (plain r (x ∷ c)) e z ≡ hops (plain r c) e z → applied (x ∷ c) e z ≡ applied c e z → StandsChain d r (x ∷ c) e z ch
  unfolding seq
  keeps none same count = record {
    size = st.size;
    rows = λ k. st.rows k ∙ sym (ap (λ (o : Option Change). changed (seq r c e z) o k) none);
    put = λ t is. st.put t is ∙ ap (λ (ps : List Pair). sum_by (ways d t z) ps) (sym same);
    taken = subst (λ (ps : List Pair). TellsFrom ps ch.taken) (sym same) st.taken;
    found = λ n is. st.found n is ∙ sym count;
  }

  -- an entry that changes what one replica has, and lets nothing take effect
  pub changes : (j : ℕ) (o : Option (List Pair)) (found : Option ℕ) → change r x (seq r c e z) e z ≡ Some (j, o) → j < r → ((n : ℕ) → found ≡ Some n → ch.found ≡ Some n) →
      hops (plain r (x ∷ c)) e z ≡ hops (plain r c) e z → applied (x ∷ c) e z ≡ applied c e z → StandsChain d r (x ∷ c) e z (record ch { rows = set ch.rows j o; found = found })
  unfolding seq
  changes j o found is lt known same count = record {
    size = length-set ch.rows j o ∙ st.size;
    rows = λ k. row-there ch.rows j k o (subst (λ (n : ℕ). j < n) (sym st.size) lt) ∙ (λ i. row_with (λ m. st.rows m i) j o k) ∙ sym (ap (λ (o : Option Change). changed (seq r c e z) o k) is);
    put = λ t is. st.put t is ∙ ap (λ (ps : List Pair). sum_by (ways d t z) ps) (sym same);
    taken = subst (λ (ps : List Pair). TellsFrom ps ch.taken) (sym same) st.taken;
    found = λ n is. st.found n (known n is) ∙ sym count;
  }

-- ---- the start

start-row : (r k : ℕ) → row_of (replicate r (Some [])) k ≡ (if nat_lt k r then Some [] else None)
start-row r k = go (nat_lt k r) refl
  where
    at : Option (Option (List Pair)) → Option (List Pair)
    at x = elim x [ None ↦ None | Some y ↦ y ]

    go : (b : Bool) → nat_lt k r ≡ b → row_of (replicate r (Some [])) k ≡ (if b then Some [] else None)
    go true w = ap at (get-copies r k (Some []) (grind (arith, nat_tests)))
    go false w = let le : r ≤ k = grind (arith, nat_tests) in ap at (get-past (replicate r (Some [])) k (omega (arith, le, length-replicate {A = Option (List Pair)} r (Some []))))

pub starts : (d : Deployed) (r e z : ℕ) → StandsChain d r [] e z (fresh_chain r)
unfolding seq plain hops applied
starts d r e z = record {
  size = length-replicate {A = Option (List Pair)} r (Some []);
  rows = λ k. start-row r k;
  put = λ t is. refl;
  taken = tells-none _ refl;
  found = λ n is. absurd (cc);
}

-- ---- acts that leave all chains

pub refused-keeps : (d : Deployed) (r : ℕ) (c : List ChainEntry) (a : ChainAct) (reason : ChainRefusal) (e z : ℕ) (ch : ChainSeen) → StandsChain d r c e z ch → StandsChain d r (entry_of a (says.Refused reason) ∷ c) e z ch
unfolding plain projected applied
refused-keeps d r c a reason e z ch st = keeps d r c (entry_of a (says.Refused reason)) e z ch st refl refl refl

pub refused-plain : (r : ℕ) (c : List ChainEntry) (a : ChainAct) (reason : ChainRefusal) → plain r (entry_of a (says.Refused reason) ∷ c) ≡ plain r c
unfolding plain projected
refused-plain r c a reason = refl

pub plain-keeps : (d : Deployed) (r : ℕ) (c : List ChainEntry) (a : Act) (n : Answer) (e z : ℕ) (ch : ChainSeen) → is_allowed a ≡ true → StandsChain d r c e z ch → StandsChain d r (entry_of (chain.Plain a) (says.Plain n) ∷ c) e z ch
unfolding plain projected applied
plain-keeps d r c a n e z ch ok st =
    keeps d r c (entry_of (chain.Plain a) (says.Plain n)) e z ch st refl (no-hop (plain r c) (plain_entry a n) e z (hop-none a n false (plain r c) e z ok)) refl

pub plain-plain : (r : ℕ) (c : List ChainEntry) (a : Act) (n : Answer) → plain r (entry_of (chain.Plain a) (says.Plain n) ∷ c) ≡ plain_entry a n ∷ plain r c
unfolding plain projected
plain-plain r c a n = refl

-- ---- a step at serializer y of epoch f, and elsewhere

pub here-test : (f y : ℕ) → ((f == f) && (y == y)) ≡ true
here-test f y = ap (λ (b : Bool). b && (y == y)) (self-test f) ∙ self-test y

-- the head takes a label in
pub enter-plain : (r : ℕ) (c : List ChainEntry) (f y : ℕ) (u : NodeId) (l : Label) → plain r (entry_of (chain.Enter f u y) (says.Entered l) ∷ c) ≡ plain r c
unfolding plain projected
enter-plain r c f y u l = refl

pub enter-here : (d : Deployed) (r : ℕ) (c : List ChainEntry) (f y : ℕ) (u : NodeId) (l : Label) (q : Replica) (ch : ChainSeen) → head r (seq r c f y) ≡ Some q → q.number < r → StandsChain d r c f y ch →
    StandsChain d r (entry_of (chain.Enter f u y) (says.Entered l) ∷ c) f y (after_change ch q.number (q.list ++ record { from = u; label = l } ∷ []))
unfolding plain projected applied
enter-here d r c f y u l q ch hd lt st =
    changes d r c (entry_of (chain.Enter f u y) (says.Entered l)) f y ch st q.number (Some (q.list ++ record { from = u; label = l } ∷ [])) ch.found
    (ap (λ (b : Bool). if b then head_gains r (seq r c f y) (record { from = u; label = l }) else None) (here-test f y)
    ∙ ap (λ (o : Option Replica). elim o [ None ↦ None | Some h ↦ Some (h.number, Some (h.list ++ record { from = u; label = l } ∷ [])) ]) hd)
    lt (λ n is. is) refl refl

pub enter-other : (d : Deployed) (r : ℕ) (c : List ChainEntry) (f y : ℕ) (u : NodeId) (l : Label) (e z : ℕ) (ch : ChainSeen) → ((f == e) && (y == z)) ≡ false → StandsChain d r c e z ch →
    StandsChain d r (entry_of (chain.Enter f u y) (says.Entered l) ∷ c) e z ch
unfolding plain projected applied
enter-other d r c f y u l e z ch other st =
    keeps d r c (entry_of (chain.Enter f u y) (says.Entered l)) e z ch st (ap (λ (b : Bool). if b then head_gains r (seq r c e z) (record { from = u; label = l }) else None) other) refl refl

-- a replica hands a pair on
pub pass-plain : (r : ℕ) (c : List ChainEntry) (f y k : ℕ) (l : Label) → plain r (entry_of (chain.Pass f y k) (says.Passed l) ∷ c) ≡ plain r c
unfolding plain projected
pass-plain r c f y k l = refl

pub pass-here : (d : Deployed) (r : ℕ) (c : List ChainEntry) (f y k : ℕ) (xs : List Pair) (n : Replica) (p : Pair) (ch : ChainSeen) → seq r c f y k ≡ Some xs → next_after r (seq r c f y) k ≡ Some n → slice_get xs (length n.list) ≡ Some p → n.number < r →
    StandsChain d r c f y ch → StandsChain d r (entry_of (chain.Pass f y k) (says.Passed p.label) ∷ c) f y (after_change ch n.number (n.list ++ p ∷ []))
unfolding plain projected applied
pass-here d r c f y k xs n p ch has nx at lt st =
    let given : handed_on (seq r c f y) k n ≡ Some p = ap (λ (o : Option (List Pair)). elim o [ None ↦ None | Some xs ↦ slice_get xs (length n.list) ]) has ∙ at in
    changes d r c (entry_of (chain.Pass f y k) (says.Passed p.label)) f y ch st n.number (Some (n.list ++ p ∷ [])) ch.found
    (ap (λ (b : Bool). if b then next_gains r (seq r c f y) k else None) (here-test f y)
    ∙ ap (λ (o : Option Replica). elim o [ None ↦ None | Some n ↦ elim (handed_on (seq r c f y) k n) [ None ↦ None | Some p ↦ Some (n.number, Some (n.list ++ p ∷ [])) ] ]) nx
    ∙ ap (λ (o : Option Pair). elim o [ None ↦ None | Some p ↦ Some (n.number, Some (n.list ++ p ∷ [])) ]) given)
    lt (λ n is. is) refl refl

pub pass-other : (d : Deployed) (r : ℕ) (c : List ChainEntry) (f y k : ℕ) (l : Label) (e z : ℕ) (ch : ChainSeen) → ((f == e) && (y == z)) ≡ false → StandsChain d r c e z ch →
    StandsChain d r (entry_of (chain.Pass f y k) (says.Passed l) ∷ c) e z ch
unfolding plain projected applied
pass-other d r c f y k l e z ch other st =
    keeps d r c (entry_of (chain.Pass f y k) (says.Passed l)) e z ch st (ap (λ (b : Bool). if b then next_gains r (seq r c e z) k else None) other) refl refl

-- a replica crashes: the plain history stays, or has a kill more
crash-hops : (r : ℕ) (c : List ChainEntry) (f y k e z : ℕ) → hops (plain r (entry_of (chain.Crash f y k) says.Crashed ∷ c)) e z ≡ hops (plain r c) e z
crash-hops r c f y k e z = go (head r (row_with (seq r c f y) k None)) refl
  where
    go : (o : Option Replica) → head r (row_with (seq r c f y) k None) ≡ o → hops (plain r (entry_of (chain.Crash f y k) says.Crashed ∷ c)) e z ≡ hops (plain r c) e z
    go (Some q) w = ap (λ (h : List Entry). hops h e z) (crashed-plain r c f y k (Some q) w)
    go None w = ap (λ (h : List Entry). hops h e z) (crashed-plain r c f y k None w) ∙ no-hop (plain r c) (plain_entry (act.Kill f y) ans.Killed) e z refl

pub crash-here : (d : Deployed) (r : ℕ) (c : List ChainEntry) (f y k : ℕ) (ch : ChainSeen) → k < r → StandsChain d r c f y ch →
    StandsChain d r (entry_of (chain.Crash f y k) says.Crashed ∷ c) f y (after_crash ch k)
unfolding applied
crash-here d r c f y k ch lt st =
    changes d r c (entry_of (chain.Crash f y k) says.Crashed) f y ch st k None None (ap (λ (b : Bool). if b then Some (k, None) else None) (here-test f y)) lt (λ n is. absurd (cc)) (crash-hops r c f y k f y) refl

pub crash-other : (d : Deployed) (r : ℕ) (c : List ChainEntry) (f y k e z : ℕ) (ch : ChainSeen) → ((f == e) && (y == z)) ≡ false → StandsChain d r c e z ch →
    StandsChain d r (entry_of (chain.Crash f y k) says.Crashed ∷ c) e z ch
unfolding applied
crash-other d r c f y k e z ch other st =
    keeps d r c (entry_of (chain.Crash f y k) says.Crashed) e z ch st (ap (λ (b : Bool). if b then Some (k, None) else None) other) (crash-hops r c f y k e z) refl

-- the tail lets its next pair take effect
module _ (d : Deployed) (r : ℕ) (c : List ChainEntry) (f y : ℕ) (q : Replica) (p : Pair) (to : List NodeId) (tl : tail r (seq r c f y) ≡ Some q) (at : slice_get q.list (applied c f y) ≡ Some p) where
  pub effect-plain : plain r (entry_of (chain.Apply f y) (says.Plain (ans.Hopped p.label to)) ∷ c) ≡ plain_entry (act.Hop f p.from y) (ans.Hopped p.label to) ∷ plain r c
  effect-plain = apply-plain d r c f y q p (ans.Hopped p.label to) tl at

  effect-hops : (e z : ℕ) (b : Bool) → ((f == e) && (y == z)) ≡ b → hops (plain r (entry_of (chain.Apply f y) (says.Plain (ans.Hopped p.label to)) ∷ c)) e z ≡ hops (plain r c) e z ++ tail_of (if b then Some p else None)
  effect-hops e z b w =
      ap (λ (h : List Entry). hops h e z) effect-plain ∙ done-step (plain r c) (plain_entry (act.Hop f p.from y) (ans.Hopped p.label to)) e z
      ∙ ap (λ (b : Bool). hops (plain r c) e z ++ tail_of (if b then Some p else None)) w

  effect-count : (e z : ℕ) (b : Bool) → ((f == e) && (y == z)) ≡ b → applied (entry_of (chain.Apply f y) (says.Plain (ans.Hopped p.label to)) ∷ c) e z ≡ (if b then applied c e z + 1 else applied c e z)
  unfolding applied
  effect-count e z b w = ap (λ (b : Bool). if b then applied c e z + 1 else applied c e z) w

  pub effect-other : (e z : ℕ) (ch : ChainSeen) → ((f == e) && (y == z)) ≡ false → StandsChain d r c e z ch → StandsChain d r (entry_of (chain.Apply f y) (says.Plain (ans.Hopped p.label to)) ∷ c) e z ch
  effect-other e z ch other st =
      keeps d r c (entry_of (chain.Apply f y) (says.Plain (ans.Hopped p.label to))) e z ch st refl (effect-hops e z false other ∙ append-nil (hops (plain r c) e z)) (effect-count e z false other)

  pub effect-here : (ch : ChainSeen) (n count : ℕ) → n ≡ applied c f y → ((t : TreeShape) → tree_of d f ≡ Some t → count ≡ ways d t y p) → StandsChain d r c f y ch →
      StandsChain d r (entry_of (chain.Apply f y) (says.Plain (ans.Hopped p.label to)) ∷ c) f y (after_effect ch n p.from count)
  unfolding seq
  effect-here ch n count is many st = record {
    size = st.size;
    rows = st.rows;
    put = λ t planned. ap₂ (λ (a b : ℕ). a + b) (st.put t planned) (many t planned) ∙ sym (ap (λ (ps : List Pair). sum_by (ways d t y) ps) (effect-hops f y true (here-test f y)) ∙ sum_by_push (ways d t y) (hops (plain r c) f y) p);
    taken = subst (λ (ps : List Pair). TellsFrom ps (raised ch.taken p.from)) (sym (effect-hops f y true (here-test f y))) (tells-more (hops (plain r c) f y) p ch.taken st.taken);
    found = λ m known. sym (some_is (n + 1) m known) ∙ ap (λ (k : ℕ). k + 1) is ∙ sym (effect-count f y true (here-test f y));
  }
