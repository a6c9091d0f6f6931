use Rattle.sat_hub_laws.proofs.Exact.{parts-are-exact}
use Rattle.sat_hub_laws.proofs.Parts.{inputs-share, parts-have-homes, parts-join, parts-rise}
use Rattle.sat_hub_laws.proofs.same_parts.Goals as goal

pub returns : goal.returns
returns c = record {
  joined = parts-join;
  homes = parts-have-homes;
  exact = parts-are-exact;
  rising = parts-rise;
  shares = inputs-share;
}
