-- Which site an act is an act at, after a history.
use Rattle.std.specs.Prelude.{ℕ, Bool, true, false, ◌==◌, List, Option, Some, None, slice_get}
use Rattle.sat_act.specs.declared.act.Act.{Act}
use Rattle.sat_act.specs.declared.act.Act.TheVariants as act
use Rattle.sat_act.specs.declared.answer.Answer.{Answer}
use Rattle.sat_act.specs.declared.answer.Answer.TheVariants as ans
use Rattle.sat_act.specs.declared.answer.Refusal.{Refusal}
use Rattle.sat_act.specs.declared.answer.Refusal.TheVariants as why
use Rattle.sat_act.specs.declared.entry.Entry.{Entry}
use Rattle.sat_act.specs.Deployed.{Deployed}
use Rattle.sat_act.specs.Parts.{lane, lane_front, beats, seat}
use Rattle.sat_model.specs.Replay.{given_number}

-- where a client without a seat goes, and where one that has a seat doesn't
abbrev pub unless_seated : Option ℕ → ℕ → Option ℕ
unless_seated None j = Some j
unless_seated (Some i) j = None

-- where there is something to bring, the site that it is brought to
abbrev pub where_some : {X : Type 0} → Option X → ℕ → Option ℕ
where_some None j = None
where_some (Some x) j = Some j

-- the site that an act is an act at, None where it reaches none. A clock reaches all sites, and counts as none
unfoldable pub site_at : Deployed → List Entry → Act → Option ℕ
unfolding lane lane_front beats seat
site_at d h (act.Tick i g ts) = Some i
site_at d h act.Clock = None
site_at d h (act.Write c x value) = seat d h c
site_at d h (act.Writes c items values) = seat d h c
site_at d h (act.Read c x) = seat d h c
site_at d h (act.Move c j) = seat d h c
site_at d h (act.Leave c) = None
site_at d h (act.Attach c j) = unless_seated (seat d h c) j
site_at d h (act.Gather i) = Some i
site_at d h (act.Emit i) = Some i
site_at d h (act.Pulse i) = Some i
site_at d h (act.Hop epoch u z) = None
site_at d h (act.Turn j) = Some j
site_at d h (act.Bulk i g j o) = where_some (slice_get (lane d h i g j) (given_number d h i g j o)) j
site_at d h (act.Beat i j) = Some i
site_at d h (act.BeatIn i j n) = where_some (slice_get (beats d h i j) n) j
site_at d h (act.Stamp j) = Some j
site_at d h (act.Close i) = Some i
site_at d h (act.Fall j) = Some j
site_at d h (act.Advance j) = Some j
site_at d h (act.Kill epoch z) = None
site_at d h act.Settle = None

-- whether that is site i
abbrev pub is_site : ℕ → Option ℕ → Bool
is_site i None = false
is_site i (Some k) = k == i

abbrev pub is_at : Deployed → List Entry → Act → ℕ → Bool
is_at d h a i = is_site i (site_at d h a)

-- acts that are none at any site
abbrev pub is_nowhere : Act → Bool
is_nowhere act.Clock = true
is_nowhere (act.Leave c) = true
is_nowhere (act.Hop epoch u z) = true
is_nowhere (act.Kill epoch z) = true
is_nowhere act.Settle = true
is_nowhere _ = false

-- the reasons for which an act is refused before it reaches a site
abbrev pub is_early : Refusal → Bool
is_early why.NoSession = true
is_early why.Joined = true
is_early why.NoSuch = true
is_early _ = false

abbrev pub is_refused_early : Answer → Bool
is_refused_early (ans.Refused y) = is_early y
is_refused_early _ = false
