use Rattle.std.proofs.Common.{◌-◌}
use Rattle.sat_chain_laws.specs.declared.chain_act.ChainAct.TheVariants as chain
use Rattle.sat_chain.proofs.Deeds.{edge-serializer, head-lives, lives-there, enter-no-head, enter-nothing, enter-deed}
use Rattle.sat_chain.proofs.Ready.{asked, has-chain}
use Rattle.sat_chain.proofs.chains.Chains.enter.Goals as goal

pub chain_at-chain-requires : goal.chain_at-chain-requires
chain_at-chain-requires c = has-chain _ _ _ c.self.invariant (edge-serializer _ _ _ _ c.self.invariant (asked _ _ (chain.Enter _ _ _) c.self.view_is c.requires))

pub returns-in_default-clause-applies : goal.returns-in_default-clause-applies
returns-in_default-clause-applies c = enter-no-head _ _ c.self.view_is c.self.invariant _ _ _ c.chain_at-chain.ensures _ c.requires _ c.first_from.ensures c.in_default.is

pub ahead-count-requires-clause-lives : goal.ahead-count-requires-clause-lives
ahead-count-requires-clause-lives c = head-lives _ _ c.self.view_is c.self.invariant _ _ _ c.chain_at-chain.ensures _ c.requires _ _ c.first_from.ensures c.in-Some.is

pub returns-in_default-ahead-clause-applies : goal.returns-in_default-ahead-clause-applies
returns-in_default-ahead-clause-applies c =
    enter-nothing _ _ c.self.view_is c.self.invariant _ _ _ c.chain_at-chain.ensures _ c.requires _ _ _ _ c.first_from.ensures c.in-Some.is c.ahead-count.ensures c.ahead.ensures c.in_default-ahead.is

pub gain_at-requires-clause-lives : goal.gain_at-requires-clause-lives
gain_at-requires-clause-lives c =
    lives-there c.self.inside.rows.items (c.args.epoch - 1) c.args.to _ _ c.chain_at-chain.ensures (head-lives _ _ c.self.view_is c.self.invariant _ _ _ c.chain_at-chain.ensures _ c.requires _ _ c.first_from.ensures c.in-Some.is)

pub invariant_of-self-2 : goal.invariant_of-self-2
invariant_of-self-2 c =
    (enter-deed _ _ c.self.view_is c.self.invariant _ _ _ c.chain_at-chain.ensures _ c.requires _ _ _ _ _ _ c.first_from.ensures c.in-Some.is c.ahead-count.ensures c.ahead.ensures c.in-Some-ahead.is c.in_ok-gain_at.ensures.ok).invariant

pub returns-clause-applies : goal.returns-clause-applies
returns-clause-applies c =
    (enter-deed _ _ c.self.view_is c.self.invariant _ _ _ c.chain_at-chain.ensures _ c.requires _ _ _ _ _ _ c.first_from.ensures c.in-Some.is c.ahead-count.ensures c.ahead.ensures c.in-Some-ahead.is c.in_ok-gain_at.ensures.ok).applies
