-- A script with chains that was followed.
use Rattle.std.proofs.Common.{ℕ, List, Option, Some, refl}
use Rattle.sat_outside.specs.Streams.{Told}
use Rattle.sat_chain_script.specs.Laws.{EveryChainTextIsGood}
use Rattle.sat_chain_runs.specs.ChainTexts.{chain_meaning}
use Rattle.sat_follow.specs.Following.{IsOutput as FollowOutput, HasAnswered as FollowAnswered}
use Rattle.sat_top.specs.declared.words.Command.TheVariants.{Chain}
use Rattle.sat_top.specs.Chaining.{HasChainAnswered}
use Rattle.sat_top.specs.Whole.{IsOutput}
use Rattle.sat_top.proofs.Chained.{is_good_front}
use Rattle.sat_top.proofs.Followed.{IsFollowed}

answered : (r : ℕ) (left left_after : Option (List ℕ)) (old new : Told) → EveryChainTextIsGood → FollowAnswered (chain_meaning r) left left_after old new → HasChainAnswered r left left_after old new
answered r left left_after old new law had = record { taken = had.taken; consumed = had.consumed; fine = had.good; written = had.written; good = is_good_front r had.taken law }

is_output : (r : ℕ) (left : Option (List ℕ)) (text : List ℕ) (status : ℕ) → EveryChainTextIsGood → FollowOutput (chain_meaning r) left text status → IsOutput (Some (Chain r)) left text status
is_output r left text status law o = record { input = o.input; whole = o.whole; output = o.output; status_is = o.status_is; proves = law r o.input }

-- a follower with this meaning does the command
pub chain_followed : (r : ℕ) → EveryChainTextIsGood → IsFollowed (Chain r) (chain_meaning r)
chain_followed r law = record {
  asks = refl;
  other = λ e. cc;
  most = refl;
  output = λ left text status o. is_output r left text status law o;
  stops = λ left left_after had. had;
  wrote = λ left left_after old new had. answered r left left_after old new law had;
  gave = λ left left_after old new front answering. (front, answering);
  broke = λ left left_after old new answering. answering;
  front = λ left old new had. (had.text, had.whole, had.front);
}
