-- A script for sites that last that was followed.
use Rattle.std.proofs.Common.{ℕ, List, Option, Some, refl}
use Rattle.sat_outside.specs.Streams.{Told}
use Rattle.sat_lasting_script.specs.Laws.{EveryLastingTextIsGood}
use Rattle.sat_lasting_runs.specs.LastingTexts.{lasting_meaning}
use Rattle.sat_follow.specs.Following.{IsOutput as FollowOutput, HasAnswered as FollowAnswered}
use Rattle.sat_top.specs.declared.words.Command.TheVariants.{Durable}
use Rattle.sat_top.specs.Lasting.{HasLastingAnswered}
use Rattle.sat_top.specs.Whole.{IsOutput}
use Rattle.sat_top.proofs.Lasted.{is_good_front}
use Rattle.sat_top.proofs.Followed.{IsFollowed}

answered : (left left_after : Option (List ℕ)) (old new : Told) → EveryLastingTextIsGood → FollowAnswered lasting_meaning left left_after old new → HasLastingAnswered left left_after old new
answered left left_after old new law had = record { taken = had.taken; consumed = had.consumed; fine = had.good; written = had.written; good = is_good_front had.taken law }

is_output : (left : Option (List ℕ)) (text : List ℕ) (status : ℕ) → EveryLastingTextIsGood → FollowOutput lasting_meaning left text status → IsOutput (Some Durable) left text status
is_output left text status law o = record { input = o.input; whole = o.whole; output = o.output; status_is = o.status_is; proves = law o.input }

-- a follower with this meaning does the command
pub lasting_followed : EveryLastingTextIsGood → IsFollowed Durable lasting_meaning
lasting_followed law = record {
  asks = refl;
  other = λ e. cc;
  most = refl;
  output = λ left text status o. is_output left text status law o;
  stops = λ left left_after had. had;
  wrote = λ left left_after old new had. answered left left_after old new law had;
  gave = λ left left_after old new front answering. (front, answering);
  broke = λ left left_after old new answering. answering;
  front = λ left old new had. (had.text, had.whole, had.front);
}
