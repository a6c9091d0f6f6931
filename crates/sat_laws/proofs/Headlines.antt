-- The headline, over every history whose entries have the answers of their acts.
use Rattle.sat_laws.specs.Laws.{EveryHistoryIsGood}
use Rattle.sat_laws.proofs.Links.{AllCuttable}
use Rattle.sat_tree.proofs.Trees.{cuttable}
use Rattle.sat_laws.proofs.Stamps.{stamp-rules}
use Rattle.sat_laws.proofs.Mains.{causal}
use Rattle.sat_laws.proofs.Shows.{once}
use Rattle.sat_laws.proofs.Freshness.{fresh}
use Rattle.sat_laws.proofs.Whole.{whole}
use Rattle.sat_laws.proofs.Settling.{settled}
use Rattle.sat_laws.proofs.Places.{causal-places, once-places}

pub good : EveryHistoryIsGood
good d h v t r =
    let cuts : AllCuttable d = record { each = λ e s k. cuttable s (t e s k) } in
    record { causal = causal d h v cuts (stamp-rules d v) r; in_order = causal-places d h v r (causal d h v cuts (stamp-rules d v) r); no_repeat = once-places d h (once d h v r); once = once d h v r; fresh = fresh d h v cuts (stamp-rules d v) r; whole = whole d h r; settled = settled d h v r }
