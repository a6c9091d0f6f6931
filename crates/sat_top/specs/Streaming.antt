-- A script that is run piece by piece: what was written before more was read.
use Rattle.std.specs.Prelude.{ℕ, false, List, [], Option, Some}
use Rattle.sat_outside.specs.Streams.{Told, Takes}
use Rattle.sat_chain_runs.specs.ChainTexts.{chain_meaning}
use Rattle.sat_lasting_runs.specs.LastingTexts.{lasting_meaning}
use Rattle.sat_follow.specs.Following.{StopsReading as FollowStops, HasFront as FollowFront}
use Rattle.sat_follow.specs.Following.{WasAnswering as FollowAnswering}
use Rattle.sat_top.specs.declared.words.Command.{Command}
use Rattle.sat_top.specs.declared.words.Command.TheVariants.{Run, Draw, Chain, Durable}
use Rattle.sat_top.specs.Chaining.{HasChainAnswered}
use Rattle.sat_top.specs.Lasting.{HasLastingAnswered}
use Rattle.sat_pieces.specs.Streaming.{HasAnswered, HasFront, StopsReading, WasAnswering}

-- so it is with each command that reads a script
abbrev pub StopsReadingOf : Option Command → Option (List ℕ) → Option (List ℕ) → Type 0
StopsReadingOf (Some Run) left left_after = StopsReading false left left_after
StopsReadingOf (Some Draw) left left_after = StopsReading false left left_after
StopsReadingOf (Some (Chain replicas)) left left_after = FollowStops (chain_meaning replicas) left left_after
StopsReadingOf (Some Durable) left left_after = FollowStops lasting_meaning left left_after
StopsReadingOf _ left left_after = Unit {0}

-- what was written when the source fails: only `run`, `chain` and `durable` write before their whole input is read
abbrev pub WroteBefore : Option Command → Option (List ℕ) → Option (List ℕ) → Told → Told → Type 0
WroteBefore (Some Run) left left_after old new = HasAnswered left left_after old new
WroteBefore (Some (Chain replicas)) left left_after old new = HasChainAnswered replicas left left_after old new
WroteBefore (Some Durable) left left_after old new = HasLastingAnswered left left_after old new
WroteBefore _ left left_after old new = Takes old new []

-- and when memory runs out
abbrev pub GaveUp : Option Command → Option (List ℕ) → Option (List ℕ) → Told → Told → Type 0
GaveUp (Some Run) left left_after old new = HasFront left old new × WasAnswering left left_after old new
GaveUp (Some (Chain replicas)) left left_after old new =
    FollowFront (chain_meaning replicas) left old new × FollowAnswering (chain_meaning replicas) left left_after old new
GaveUp (Some Durable) left left_after old new =
    FollowFront lasting_meaning left old new × FollowAnswering lasting_meaning left left_after old new
GaveUp _ left left_after old new = Takes old new []

-- and when the sink fails
abbrev pub BrokeOff : Option Command → Option (List ℕ) → Option (List ℕ) → Told → Told → Type 0
BrokeOff (Some Run) left left_after old new = WasAnswering left left_after old new
BrokeOff (Some (Chain replicas)) left left_after old new =
    FollowAnswering (chain_meaning replicas) left left_after old new
BrokeOff (Some Durable) left left_after old new = FollowAnswering lasting_meaning left left_after old new
BrokeOff _ left left_after old new = Unit {0}
