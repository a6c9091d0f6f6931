-- Chains to which nothing has happened.
use Rattle.std.proofs.Common.{◌≡◌, ℕ, zero, suc, ◌-◌, List, [], ◌∷◌, length, map, replicate, Option, Some, None, slice_get, refl, sym, ap, subst, ◌∙◌}
use Rattle.sat_label.specs.Members.{In}
use Rattle.sat_sites.specs.Interested.{Interested}
use Rattle.sat_act.specs.declared.act.Act.TheVariants as act
use Rattle.sat_act.specs.declared.deployment.Plan.{Plan}
use Rattle.sat_act.specs.declared.deployment.Plan.TheVariants as plan
use Rattle.sat_act.specs.Deployed.{Deployed}
use Rattle.sat_act.specs.Limits.{IsDeployment}
use Rattle.sat_act.specs.Ranges.{IsActOf}
use Rattle.sat_act.proofs.Plans.{tree_in_plans}
use Rattle.sat_model.specs.Interests.{interest_of}
use Rattle.sat_world.specs.Seen.{WorldSeen}
use Rattle.sat_world.specs.Stands.{StandsFor}
use Rattle.sat_chain_laws.specs.declared.pair.Pair.{Pair}
use Rattle.sat_chain_laws.specs.Chains.{plain}
use Rattle.sat_chain_laws.specs.ChainRuns.{IsChainRun}
use Rattle.sat_chain_laws.proofs.Lists.{some_is}
use Rattle.sat_chain.specs.Chained.{ChainSeen, row_of, fresh_chain}
use Rattle.sat_chain.specs.StandsChain.{StandsChain}
use Rattle.sat_chain.specs.Stands.{HasChain, ChainsFor, IsChains, chain_at}
use Rattle.sat_chain.specs.Starts.{fresh_row, serializers_of}
use Rattle.sat_chain.proofs.Sets.{get-copies}
use Rattle.sat_chain.proofs.Steps.{starts}
use Rattle.sat_chain.proofs.Twofold.{at-of}

map-at : {X Y : Type 0} (g : X → Y) (xs : List X) (n : ℕ) (x : X) → slice_get xs n ≡ Some x → slice_get (map g xs) n ≡ Some (g x)
map-at g [] n x e = absurd (cc)
map-at {X} g (z ∷ xs) zero x e = ap (λ (y : X). Some (g y)) (some_is z x e)
map-at g (z ∷ xs) (suc n) x e = map-at g xs n x e

map-from : {X Y : Type 0} (g : X → Y) (xs : List X) (n : ℕ) (y : Y) → slice_get (map g xs) n ≡ Some y → (x : X) × (g x ≡ y)
map-from g [] n y e = absurd (cc)
map-from g (z ∷ xs) zero y e = (z, some_is (g z) y e)
map-from g (z ∷ xs) (suc n) y e = map-from g xs n y e

copies-only : {X : Type 0} (n k : ℕ) (x y : X) → slice_get (replicate n x) k ≡ Some y → x ≡ y
copies-only zero k x y e = absurd (cc)
copies-only (suc n) zero x y e = some_is x y e
copies-only (suc n) (suc k) x y e = copies-only n k x y e

-- each chain is a fresh one
fresh-at : (r : ℕ) (plans : List Plan) (n z : ℕ) (ch : ChainSeen) → chain_at (map (fresh_row r) plans) n z ≡ Some ch → fresh_chain r ≡ ch
fresh-at r plans n z ch e =
    let w : (row : List ChainSeen) × (slice_get (map (fresh_row r) plans) n ≡ Some row) × (slice_get row z ≡ Some ch) = at-of (map (fresh_row r) plans) n z ch e in
    let p : (x : Plan) × (fresh_row r x ≡ w.0) = map-from (fresh_row r) plans n w.0 w.1 in
    copies-only (serializers_of p.0) z (fresh_chain r) ch (ap (λ (row : List ChainSeen). slice_get row z) p.1 ∙ w.2)

-- and has no pairs
fresh-empty : (r k : ℕ) (ch : ChainSeen) (xs : List Pair) (p : Pair) → fresh_chain r ≡ ch → row_of ch.rows k ≡ Some xs → In xs p → ⊥
fresh-empty r k ch xs p is at i =
    let row : row_of (fresh_chain r).rows k ≡ Some xs = ap (λ (c : ChainSeen). row_of c.rows k) is ∙ at in
    subst (λ (l : List Pair). In l p) (none (slice_get (replicate r (Some [])) k) refl row) i
  where
    none : (o : Option (Option (List Pair))) → slice_get (replicate r (Some [])) k ≡ o → (elim o [ None ↦ None | Some x ↦ x ]) ≡ Some xs → xs ≡ []
    none None w e = absurd (cc)
    none (Some x) w e = sym (some_is [] xs (copies-only r k (Some []) x w ∙ e))

module _ (d : Deployed) (w : WorldSeen) (a : Interested) (r : ℕ) (plans : List Plan) (rows : List (List ChainSeen)) (dep : IsDeployment d) (same : w.deployment ≡ d) (stands : StandsFor w [])
    (interest : a ≡ interest_of d) (planned : plans ≡ d.plans) (fresh : rows ≡ map (fresh_row r) plans) where
  one : (e z : ℕ) (ch : ChainSeen) → HasChain (record { world = w; interest = a; replicas = r; chains = rows }) e z ch → fresh_chain r ≡ ch
  one e z ch has = fresh-at r plans (e - 1) z ch (ap (λ (cs : List (List ChainSeen)). chain_at cs (e - 1) z) (sym fresh) ∙ has.at)

  pub new-stands : ChainsFor (record { world = w; interest = a; replicas = r; chains = rows }) []
  unfolding plain
  new-stands = record {
    world = stands;
    chains = λ e z ch has. subst (λ (c : ChainSeen). StandsChain w.deployment r [] e z c) (one e z ch has) (starts w.deployment r e z);
  }

  new-has : (e z : ℕ) → IsActOf d (act.Kill e z) → (ch : ChainSeen) × HasChain (record { world = w; interest = a; replicas = r; chains = rows }) e z ch
  new-has e z of =
      let plan-at : slice_get d.plans (e - 1) ≡ Some (plan.Tree of.0) = (tree_in_plans d e of.0 of.2).1 in
      let row-at : slice_get (map (fresh_row r) d.plans) (e - 1) ≡ Some (replicate (length of.0.parents) (fresh_chain r)) = map-at (fresh_row r) d.plans (e - 1) (plan.Tree of.0) plan-at in
      let is : rows ≡ map (fresh_row r) d.plans = fresh ∙ ap (λ (ps : List Plan). map (fresh_row r) ps) planned in (
        fresh_chain r,
        record {
          epochs = of.1;
          at = ap (λ (cs : List (List ChainSeen)). chain_at cs (e - 1) z) is ∙ ap (λ (o : Option (List ChainSeen)). elim o [ None ↦ None | Some row ↦ slice_get row z ]) row-at ∙ get-copies (length of.0.parents) z (fresh_chain r) of.3;
        },
      )

  pub new-chains : IsChains (record { world = w; interest = a; replicas = r; chains = rows })
  unfolding IsChainRun
  new-chains = record {
    frame = record {
      deployment = subst IsDeployment (sym same) dep;
      interest = interest ∙ ap interest_of (sym same);
      planned = λ e z of. new-has e z (subst (λ (d : Deployed). IsActOf d (act.Kill e z)) same of);
      near = λ e z i ch xs p has at m. absurd (fresh-empty r i ch xs p (one e z ch has) at m);
    };
    history = [];
    run = tt;
    stands = new-stands;
  }
