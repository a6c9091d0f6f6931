-- The central theorem of chains.
use Rattle.std.proofs.Common.{sym}
use Rattle.sat_laws.proofs.Headlines.{good}
use Rattle.sat_chain_laws.specs.Chains.{plain}
use Rattle.sat_chain_laws.specs.Goals.{EveryChainIsGood}
use Rattle.sat_chain_laws.proofs.Held.{Held, held}
use Rattle.sat_chain_laws.proofs.Tells.{tells}
use Rattle.sat_chain_laws.proofs.Totals.{totals}

pub chains : EveryChainIsGood
chains d r c valid trees all_sites run =
    let all : Held d r c = held d r c run in
    record {
      begins = λ e z j k xs ys lt a b. (all.rows e z).begins j k xs ys lt a b;
      effect = λ e z. (sym (all.count e z), λ k xs living. (all.rows e z).did k xs living);
      lives = all.alive;
      tells = tells d r c trees all;
      totals = totals d r c trees all_sites all;
      run = all.run;
      good = good d (plain r c) valid trees all.run;
    }
