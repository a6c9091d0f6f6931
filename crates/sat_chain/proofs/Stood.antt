-- What chains over a world stand for after a step.
use Rattle.std.proofs.Common.{◌≡◌, ◌≤◌, ℕ, ◌-◌, ◌==◌, ◌&&◌, Bool, true, false, List, ◌∷◌, Some, inl, inr, refl, sym, ap, subst, subst₂, ◌∙◌, arith}
use Rattle.std.proofs.lemmas.Bool.Decides.{nat_tests}
use Rattle.sat_label.specs.Members.{In}
use Rattle.sat_act.specs.declared.act.Act.TheVariants as act
use Rattle.sat_act.specs.Deployed.{Deployed}
use Rattle.sat_act.specs.Limits.{IsDeployment}
use Rattle.sat_act.specs.Ranges.{IsActOf}
use Rattle.sat_act.proofs.Valid.{is_valid}
use Rattle.sat_model.specs.Interests.{interest_of}
use Rattle.sat_world.specs.Seen.{WorldSeen}
use Rattle.sat_world.specs.Stands.{StandsFor}
use Rattle.sat_world.proofs.Meets.{in-range}
use Rattle.sat_chain_laws.specs.declared.pair.Pair.{Pair}
use Rattle.sat_chain_laws.specs.declared.chain_act.ChainAct.{ChainAct}
use Rattle.sat_chain_laws.specs.declared.chain_act.ChainAct.TheVariants as chain
use Rattle.sat_chain_laws.specs.declared.chain_answer.ChainAnswer.{ChainAnswer}
use Rattle.sat_chain_laws.specs.Chains.{ChainEntry, plain}
use Rattle.sat_chain_laws.specs.ChainAnswers.{IsChainInRange, chain_answer}
use Rattle.sat_chain_laws.specs.ChainRuns.{IsChainRun}
use Rattle.sat_chain_laws.specs.Ranges.{IsChainActOf}
use Rattle.sat_chain_laws.proofs.Theorem.{chains}
use Rattle.sat_chain_laws.proofs.Held.{Held, held}
use Rattle.sat_chain.specs.Chained.{ChainSeen, row_of}
use Rattle.sat_chain.specs.StandsChain.{StandsChain}
use Rattle.sat_chain.specs.Stands.{ChainsSeen, HasChain, ChainsFor, IsFrame, IsChains, with_chain}
use Rattle.sat_chain.specs.Applies.{ChainApplies}
use Rattle.sat_chain.proofs.Steps.{entry_of}
use Rattle.sat_chain.proofs.Sets.{self-test}
use Rattle.sat_chain.proofs.Twofold.{with-cases, with-some}

chain-in-range : (d : Deployed) (r : ℕ) (a : ChainAct) → IsChainActOf d r a → IsChainInRange d r a
chain-in-range d r (chain.Plain a) k = (in-range d a k.0, k.1)
chain-in-range d r (chain.Enter f u y) k = (k.0, k.2, k.4)
chain-in-range d r (chain.Pass f y k) e = e.1
chain-in-range d r (chain.Apply f y) k = tt
chain-in-range d r (chain.Crash f y k) e = e.1

-- the chains with another world, and with another chain
abbrev pub with_world : ChainsSeen → WorldSeen → ChainsSeen
with_world s w = record s { world = w }

abbrev pub with_both : ChainsSeen → WorldSeen → ℕ → ℕ → ChainSeen → ChainsSeen
with_both s w n y ch = record { world = w; interest = s.interest; replicas = s.replicas; chains = with_chain s.chains n y ch }

-- what an act answers in every history makes the whole of it
pub applies-of : (s t : ChainsSeen) (a : ChainAct) (n : ChainAnswer) → IsDeployment s.world.deployment → IsChainActOf s.world.deployment s.replicas a → t.world.deployment ≡ s.world.deployment → t.replicas ≡ s.replicas →
    ((c : List ChainEntry) → IsChainRun s.world.deployment s.replicas c → ChainsFor s c → n ≡ chain_answer s.world.deployment s.replicas c a) →
    ((c : List ChainEntry) → IsChainRun s.world.deployment s.replicas c → ChainsFor s c → ChainsFor t (entry_of a n ∷ c)) → ChainApplies s a n t
unfolding IsChainRun
applies-of s t a n dep of same count answers stands = record {
  answer = answers;
  run = λ c run st. subst₂ (λ (d : Deployed) (r : ℕ). IsChainRun d r (entry_of a n ∷ c)) (sym same) (sym count) (next c run st);
  stands = stands;
  good = λ c run st. chains s.world.deployment s.replicas (entry_of a n ∷ c) (is_valid s.world.deployment dep) dep.trees dep.all_seated (next c run st);
  deployment = same;
  replicas = count;
}
  where
    next : (c : List ChainEntry) → IsChainRun s.world.deployment s.replicas c → ChainsFor s c → IsChainRun s.world.deployment s.replicas (entry_of a n ∷ c)
    next c run st = (run, chain-in-range s.world.deployment s.replicas a of, answers c run st)

-- and keeps what holds of chains
pub stays : (s t : ChainsSeen) (a : ChainAct) (n : ChainAnswer) → IsChains s → IsFrame t → ChainApplies s a n t → IsChains t
stays s t a n k frame done = record {
  frame = frame;
  history = entry_of a n ∷ k.history;
  run = done.run k.history k.run k.stands;
  stands = done.stands k.history k.run k.stands;
}

pub held-in : (s : ChainsSeen) (c : List ChainEntry) → IsChainRun s.world.deployment s.replicas c → Held s.world.deployment s.replicas c
held-in s c run = held s.world.deployment s.replicas c run

-- ---- frames

pub frame-world : (s : ChainsSeen) (w : WorldSeen) → w.deployment ≡ s.world.deployment → IsFrame s → IsFrame (with_world s w)
frame-world s w same k = record {
  deployment = subst IsDeployment (sym same) k.deployment;
  interest = k.interest ∙ ap interest_of (sym same);
  planned = λ e z of. let p = k.planned e z (subst (λ (d : Deployed). IsActOf d (act.Kill e z)) same of) in (p.0, record { epochs = p.1.epochs; at = p.1.at });
  near = λ e z i ch xs p has at m. subst (λ (d : Deployed). IsActOf d (act.Hop e p.from z)) (sym same) (k.near e z i ch xs p (record { epochs = has.epochs; at = has.at }) at m);
}

same-epoch : (f e : ℕ) → 1 ≤ f → 1 ≤ e → f - 1 ≡ e - 1 → f ≡ e
same-epoch f e a b same = omega arith

other-epoch : (f e y z : ℕ) → 1 ≤ f → 1 ≤ e → (((f - 1) == (e - 1)) && (y == z)) ≡ false → ((f == e) && (y == z)) ≡ false
other-epoch f e y z a b other = go (f == e) refl
  where
    go : (t : Bool) → (f == e) ≡ t → (t && (y == z)) ≡ false
    go true w =
        let same : f ≡ e = grind (arith, nat_tests) in
        let test : ((f - 1) == (e - 1)) ≡ true = ap (λ (n : ℕ). (f - 1) == (n - 1)) (sym same) ∙ self-test (f - 1) in
        sym (ap (λ (b : Bool). b && (y == z)) test) ∙ other
    go false w = refl

-- one chain changes, whose pairs came over edges
pub frame-chain : (s : ChainsSeen) (f y : ℕ) (ch x : ChainSeen) → HasChain s f y ch → IsFrame s →
    ((k : ℕ) (xs : List Pair) (p : Pair) → row_of x.rows k ≡ Some xs → In xs p → IsActOf s.world.deployment (act.Hop f p.from y)) → IsFrame (with_both s s.world (f - 1) y x)
frame-chain s f y ch x had k near = record {
  deployment = k.deployment;
  interest = k.interest;
  planned = λ e z of. let p = k.planned e z of in let q = with-some s.chains (f - 1) y ch x (e - 1) z p.0 had.at p.1.at in (q.0, record { epochs = p.1.epochs; at = q.1 });
  near = λ e z i w xs p has at m. elim (with-cases s.chains (f - 1) y ch x (e - 1) z w had.at has.at) [
    | inl g ↦ subst₂ (λ (e z : ℕ). IsActOf s.world.deployment (act.Hop e p.from z)) (same-epoch f e had.epochs has.epochs g.0) g.1 (near i xs p (subst (λ (v : ChainSeen). row_of v.rows i ≡ Some xs) (sym g.2) at) m)
    | inr g ↦ k.near e z i w xs p (record { epochs = has.epochs; at = g.1 }) at m
  ];
}

-- ---- what they stand for

pub for-kept : (s : ChainsSeen) (w : WorldSeen) (c : List ChainEntry) (x : ChainEntry) → w.deployment ≡ s.world.deployment → ChainsFor s c → StandsFor w (plain s.replicas (x ∷ c)) →
    ((e z : ℕ) (ch : ChainSeen) → StandsChain s.world.deployment s.replicas c e z ch → StandsChain s.world.deployment s.replicas (x ∷ c) e z ch) → ChainsFor (with_world s w) (x ∷ c)
for-kept s w c x same st world keeps = record {
  world = world;
  chains = λ e z ch has. subst (λ (d : Deployed). StandsChain d s.replicas (x ∷ c) e z ch) (sym same) (keeps e z ch (st.chains e z ch (record { epochs = has.epochs; at = has.at })));
}

pub for-changed : (s : ChainsSeen) (w : WorldSeen) (c : List ChainEntry) (x : ChainEntry) (f y : ℕ) (ch v : ChainSeen) → w.deployment ≡ s.world.deployment → HasChain s f y ch → ChainsFor s c → StandsFor w (plain s.replicas (x ∷ c)) →
    StandsChain s.world.deployment s.replicas (x ∷ c) f y v →
    ((e z : ℕ) (u : ChainSeen) → ((f == e) && (y == z)) ≡ false → StandsChain s.world.deployment s.replicas c e z u → StandsChain s.world.deployment s.replicas (x ∷ c) e z u) →
    ChainsFor (with_both s w (f - 1) y v) (x ∷ c)
for-changed s w c x f y ch v same had st world here others = record {
  world = world;
  chains = λ e z u has. subst (λ (d : Deployed). StandsChain d s.replicas (x ∷ c) e z u) (sym same) (elim (with-cases s.chains (f - 1) y ch v (e - 1) z u had.at has.at) [
    | inl g ↦ subst (λ (q : ChainSeen). StandsChain s.world.deployment s.replicas (x ∷ c) e z q) g.2
        (subst₂ (λ (e z : ℕ). StandsChain s.world.deployment s.replicas (x ∷ c) e z v) (same-epoch f e had.epochs has.epochs g.0) g.1 here)
    | inr g ↦ others e z u (other-epoch f e y z had.epochs has.epochs g.0) (st.chains e z u (record { epochs = has.epochs; at = g.1 }))
  ]);
}
