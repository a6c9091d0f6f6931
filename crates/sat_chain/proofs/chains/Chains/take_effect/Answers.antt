use Rattle.sat_chain_laws.specs.declared.chain_act.ChainAct.TheVariants as chain
use Rattle.sat_chain.proofs.Effects.{apply-no-tail, tree-is, tail-lives, can-tell, empty-deed, hop-ready, small-from, effect-deed}
use Rattle.sat_chain.proofs.Ready.{asked, has-chain, is-some-of}
use Rattle.sat_chain.proofs.chains.Chains.take_effect.Goals as goal

pub chain_at-chain-requires : goal.chain_at-chain-requires
chain_at-chain-requires c = has-chain _ _ _ c.self.invariant (asked _ _ (chain.Apply _ _) c.self.view_is c.requires)

pub returns-in_default-clause-applies : goal.returns-in_default-clause-applies
returns-in_default-clause-applies c = apply-no-tail _ _ c.self.view_is c.self.invariant _ _ _ c.chain_at-chain.ensures c.requires _ c.tail.ensures c.in_default.is

pub applied-count-requires-clause-lives : goal.applied-count-requires-clause-lives
applied-count-requires-clause-lives c = tail-lives _ _ c.self.view_is c.self.invariant _ _ _ c.chain_at-chain.ensures c.requires _ _ c.tail.ensures c.in-Some.is

pub applied-count-requires-clause-tells : goal.applied-count-requires-clause-tells
applied-count-requires-clause-tells c = can-tell _ _ c.self.view_is c.self.invariant _ _ _ c.chain_at-chain.ensures c.requires _ _ c.tail.ensures c.in-Some.is _ (tree-is _ _ c.self.view_is c.self.invariant _ _ _ c.chain_at-chain.ensures c.requires _ _ c.deployment.ensures c.tree_of-tree.ensures.tree)

pub pair_at-requires : goal.pair_at-requires
pair_at-requires c = tail-lives _ _ c.self.view_is c.self.invariant _ _ _ c.chain_at-chain.ensures c.requires _ _ c.tail.ensures c.in-Some.is

pub invariant_of-self : goal.invariant_of-self
invariant_of-self c =
    (empty-deed _ _ c.self.view_is c.self.invariant _ _ _ c.chain_at-chain.ensures c.requires _ _ c.tail.ensures c.in-Some.is _ (tree-is _ _ c.self.view_is c.self.invariant _ _ _ c.chain_at-chain.ensures c.requires _ _ c.deployment.ensures c.tree_of-tree.ensures.tree) _ c.applied-count.ensures _ c.pair_at.ensures.pair _ c.in_default-pair_at.is c.look_at.ensures).invariant

pub returns-in_default-pair_at-clause-applies : goal.returns-in_default-pair_at-clause-applies
returns-in_default-pair_at-clause-applies c =
    (empty-deed _ _ c.self.view_is c.self.invariant _ _ _ c.chain_at-chain.ensures c.requires _ _ c.tail.ensures c.in-Some.is _ (tree-is _ _ c.self.view_is c.self.invariant _ _ _ c.chain_at-chain.ensures c.requires _ _ c.deployment.ensures c.tree_of-tree.ensures.tree) _ c.applied-count.ensures _ c.pair_at.ensures.pair _ c.in_default-pair_at.is c.look_at.ensures).applies

pub hop-requires : goal.hop-requires
hop-requires c = hop-ready _ _ c.self.view_is c.self.invariant _ _ _ c.chain_at-chain.ensures c.requires _ _ c.tail.ensures c.in-Some.is _ (tree-is _ _ c.self.view_is c.self.invariant _ _ _ c.chain_at-chain.ensures c.requires _ _ c.deployment.ensures c.tree_of-tree.ensures.tree) _ c.applied-count.ensures _ c.pair_at.ensures.pair _ c.in-Some-pair_at.is

pub effect_at-requires-clause-from : goal.effect_at-requires-clause-from
effect_at-requires-clause-from c =
    small-from _ _ c.self.view_is c.self.invariant _ _ _ c.chain_at-chain.ensures c.requires _ _ c.tail.ensures c.in-Some.is _ (tree-is _ _ c.self.view_is c.self.invariant _ _ _ c.chain_at-chain.ensures c.requires _ _ c.deployment.ensures c.tree_of-tree.ensures.tree) _ c.applied-count.ensures _ c.pair_at.ensures.pair _ c.in-Some-pair_at.is _ _ _ c.put_by-put.ensures c.in_ok-answer.ensures.applies (c.pair_at.ensures.small (is-some-of _ _ c.in-Some-pair_at.is))

pub invariant_of-self-2 : goal.invariant_of-self-2
invariant_of-self-2 c =
    (effect-deed _ _ c.self.view_is c.self.invariant _ _ _ c.chain_at-chain.ensures c.requires _ _ c.tail.ensures c.in-Some.is _ (tree-is _ _ c.self.view_is c.self.invariant _ _ _ c.chain_at-chain.ensures c.requires _ _ c.deployment.ensures c.tree_of-tree.ensures.tree) _ c.applied-count.ensures _ c.pair_at.ensures.pair _ c.in-Some-pair_at.is _ _ _ c.put_by-put.ensures c.in_ok-answer.ensures.applies _ c.effect_at.ensures).invariant

pub returns-clause-applies : goal.returns-clause-applies
returns-clause-applies c =
    (effect-deed _ _ c.self.view_is c.self.invariant _ _ _ c.chain_at-chain.ensures c.requires _ _ c.tail.ensures c.in-Some.is _ (tree-is _ _ c.self.view_is c.self.invariant _ _ _ c.chain_at-chain.ensures c.requires _ _ c.deployment.ensures c.tree_of-tree.ensures.tree) _ c.applied-count.ensures _ c.pair_at.ensures.pair _ c.in-Some-pair_at.is _ _ _ c.put_by-put.ensures c.in_ok-answer.ensures.applies _ c.effect_at.ensures).applies
