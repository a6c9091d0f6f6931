use Rattle.std.proofs.Common.{rules, ◌≡◌, Some, subst}
use Rattle.sat_chain_runs.specs.Held.{IsHeld}
use Rattle.sat_chain_runs.proofs.Doing.{when_ok}
use Rattle.sat_chain_runs.proofs.Ending.{has_holdings}
use Rattle.sat_chain_runs.proofs.chain_lines.ChainLines.write_end.Goals as goal

pub returns : goal.returns
returns c =
    let is : c.args.self.now.chains ≡ Some c.in-Some.chains = search rules in
    record {
      ok = when_ok c.write_holdings.result c.write_holdings.ensures.ok (λ wrote.
          has_holdings c.args.self.now c.in-Some.chains c.world.result.now c.args.text.now.items c.write_holdings.new.out.items (subst IsHeld c.self.view_is c.self.invariant) is c.world.ensures.world c.world.ensures.stands c.world.ensures.good wrote);
    }
