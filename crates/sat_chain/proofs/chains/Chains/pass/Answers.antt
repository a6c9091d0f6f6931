use Rattle.std.proofs.Common.{◌∙◌, ap, length}
use Rattle.sat_chain_laws.specs.declared.chain_act.ChainAct.TheVariants as chain
use Rattle.sat_chain_laws.proofs.Lists.{some_is}
use Rattle.sat_chain.proofs.Deeds.{pass-no-head, pass-gone, pass-no-next, next-list, pass-nothing, pass-deed}
use Rattle.sat_chain.proofs.Ready.{asked, has-chain}
use Rattle.sat_chain.proofs.chains.Chains.pass.Goals as goal

pub chain_at-chain-requires : goal.chain_at-chain-requires
chain_at-chain-requires c = has-chain _ _ _ c.self.invariant (asked _ _ (chain.Pass _ _ _) c.self.view_is c.requires).0

pub returns-in_default-clause-applies : goal.returns-in_default-clause-applies
returns-in_default-clause-applies c = pass-no-head _ _ c.self.view_is c.self.invariant _ _ _ c.chain_at-chain.ensures _ c.requires _ c.first_from.ensures c.in_default.is

pub returns-then-not-lives-clause-applies : goal.returns-then-not-lives-clause-applies
returns-then-not-lives-clause-applies c =
    pass-gone _ _ c.self.view_is c.self.invariant _ _ _ c.chain_at-chain.ensures _ c.requires _ _ _ c.first_from.ensures c.in-Some.is c.lives.ensures c.if-not-lives.true

pub returns-in_default-first_from-clause-applies : goal.returns-in_default-first_from-clause-applies
returns-in_default-first_from-clause-applies c =
    pass-no-next _ _ c.self.view_is c.self.invariant _ _ _ c.chain_at-chain.ensures _ c.requires _ _ _ _ c.first_from.ensures c.in-Some.is c.lives.ensures c.if-not-lives.false c.first_from-2.ensures c.in_default-first_from.is

pub list-count-requires : goal.list-count-requires
list-count-requires c = next-list _ _ c.self.view_is c.self.invariant _ _ _ c.chain_at-chain.ensures _ c.requires _ _ c.first_from-2.ensures c.in-Some-first_from.is

pub returns-in_default-pair_at-clause-applies : goal.returns-in_default-pair_at-clause-applies
returns-in_default-pair_at-clause-applies c =
    pass-nothing _ _ c.self.view_is c.self.invariant _ _ _ c.chain_at-chain.ensures _ c.requires _ _ _ _ _ _ _ c.first_from.ensures c.in-Some.is c.lives.ensures c.if-not-lives.false c.first_from-2.ensures c.in-Some-first_from.is
    (record { next = λ ys has. ap length (some_is _ ys (c.list-count.ensures ∙ has)); pair = c.pair_at.ensures.pair }) c.in_default-pair_at.is

pub invariant_of-self-2 : goal.invariant_of-self-2
invariant_of-self-2 c =
    (pass-deed _ _ c.self.view_is c.self.invariant _ _ _ c.chain_at-chain.ensures _ c.requires _ _ _ _ _ _ _ _ _ c.first_from.ensures c.in-Some.is c.lives.ensures c.if-not-lives.false c.first_from-2.ensures c.in-Some-first_from.is
    (record { next = λ ys has. ap length (some_is _ ys (c.list-count.ensures ∙ has)); pair = c.pair_at.ensures.pair }) c.in-Some-pair_at.is c.in_ok-gain_at.ensures.ok).invariant

pub returns-clause-applies : goal.returns-clause-applies
returns-clause-applies c =
    (pass-deed _ _ c.self.view_is c.self.invariant _ _ _ c.chain_at-chain.ensures _ c.requires _ _ _ _ _ _ _ _ _ c.first_from.ensures c.in-Some.is c.lives.ensures c.if-not-lives.false c.first_from-2.ensures c.in-Some-first_from.is
    (record { next = λ ys has. ap length (some_is _ ys (c.list-count.ensures ∙ has)); pair = c.pair_at.ensures.pair }) c.in-Some-pair_at.is c.in_ok-gain_at.ensures.ok).applies
