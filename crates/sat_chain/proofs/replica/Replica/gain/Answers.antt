use Rattle.std.proofs.Common.{subst, sym, List, ap, ℕ, arith, length, ◌∷◌, [], length-append}
use Rattle.sat_chain_laws.specs.declared.pair.Pair.{Pair}
use Rattle.sat_chain.specs.Tallies.{TellsFrom, raised}
use Rattle.sat_chain.proofs.Tallied.{tells-more, in-range}
use Rattle.sat_chain.proofs.replica.Replica.gain.Goals as goal

pub raise-requires : goal.raise-requires
raise-requires c = in-range c.args.pair.from c.self.inside.list.items c.self.inside.from c.self.invariant
    (omega (arith, c.push.new.self.small, ap length c.in_ok-push.ensures.items, length-append c.self.inside.list.items (c.args.pair ∷ [])))

pub invariant_of-self-2 : goal.invariant_of-self-2
invariant_of-self-2 c =
    subst (λ (ns : List ℕ). TellsFrom c.push.new.self.items ns) (sym c.raise.ensures)
    (subst (λ (xs : List Pair). TellsFrom xs (raised c.self.inside.from c.args.pair.from)) (sym c.in_ok-push.ensures.items) (tells-more c.self.inside.list.items c.args.pair c.self.inside.from c.self.invariant))
