use Rattle.sat_chain_laws.specs.declared.chain_act.ChainAct.TheVariants as chain
use Rattle.sat_chain.proofs.Deeds.{bound-in, crash-refused, crash-there, crash-deed, kill-deed}
use Rattle.sat_chain.proofs.Ready.{asked, has-chain}
use Rattle.sat_chain.proofs.chains.Chains.crash.Goals as goal

pub chain_at-requires : goal.chain_at-requires
chain_at-requires c = has-chain _ _ _ c.self.invariant (asked _ _ (chain.Crash _ _ _) c.self.view_is c.requires).0

pub lives-requires : goal.lives-requires
lives-requires c = bound-in _ _ c.self.view_is c.self.invariant _ _ _ c.chain_at.ensures (asked _ _ (chain.Crash _ _ _) c.self.view_is c.requires).0 _ (asked _ _ (chain.Crash _ _ _) c.self.view_is c.requires).1

pub returns-then-not-lives-clause-applies : goal.returns-then-not-lives-clause-applies
returns-then-not-lives-clause-applies c = crash-refused _ _ c.self.view_is c.self.invariant _ _ _ c.chain_at.ensures _ c.requires _ c.lives.ensures c.if-not-lives.true

pub chain_at-requires-2 : goal.chain_at-requires-2
chain_at-requires-2 c = crash-there _ _ c.self.view_is c.self.invariant _ _ _ c.chain_at.ensures _ c.requires _ c.crash_at.ensures

pub invariant_of-self : goal.invariant_of-self
invariant_of-self c =
    (crash-deed _ _ c.self.view_is c.self.invariant _ _ _ c.chain_at.ensures _ c.requires _ _ _ _ _ c.lives.ensures c.if-not-lives.false c.crash_at.ensures c.chain_at-2.ensures c.first_from.ensures c.in-Some.is).invariant

pub invariant_of-self-in_default : goal.invariant_of-self-in_default
invariant_of-self-in_default c =
    (kill-deed _ _ c.self.view_is c.self.invariant _ _ _ c.chain_at.ensures _ c.requires _ _ _ _ _ _ c.lives.ensures c.if-not-lives.false c.crash_at.ensures c.chain_at-2.ensures c.first_from.ensures c.in_default.is c.kill.ensures.applies c.kill.ensures.fine).invariant

pub returns-in_default-clause-applies : goal.returns-in_default-clause-applies
returns-in_default-clause-applies c =
    (kill-deed _ _ c.self.view_is c.self.invariant _ _ _ c.chain_at.ensures _ c.requires _ _ _ _ _ _ c.lives.ensures c.if-not-lives.false c.crash_at.ensures c.chain_at-2.ensures c.first_from.ensures c.in_default.is c.kill.ensures.applies c.kill.ensures.fine).applies

pub returns-clause-applies : goal.returns-clause-applies
returns-clause-applies c =
    (crash-deed _ _ c.self.view_is c.self.invariant _ _ _ c.chain_at.ensures _ c.requires _ _ _ _ _ c.lives.ensures c.if-not-lives.false c.crash_at.ensures c.chain_at-2.ensures c.first_from.ensures c.in-Some.is).applies
