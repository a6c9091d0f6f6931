-- How a cluster ends.
use Rattle.std.specs.Prelude.{◌≡◌, Bool, List, length, Result, MatchResult}
use Rattle.sat_act.specs.Deployed.{Deployed}
use Rattle.sat_opened.specs.Opened.{serial_names}
use Rattle.sat_parts.specs.Layout.{gear_names}
use Rattle.sat_session.specs.Notes.{SessionSeen}
use Rattle.sat_finish.specs.declared.fault.Ended.{Ended}
use Rattle.sat_finish.specs.declared.fault.FinishFault.{FinishFault}
use Rattle.sat_finish.specs.Ends.{IsEnd, IsFault}
use Rattle.sat_finish.specs.Finishing.{OpenedSeen}
use Rattle.sat_cluster.specs.Clusters.{count_given}

-- the nodes that were opened, of a cluster that gave these sessions, and the sessions that came back made one journal,
-- or none
pub record Ends {N : Type 0} (d : Deployed) (given : List Bool) (xs : List SessionSeen)
    (result : Result Ended (FinishFault N)) : Type 0 where
  pub opened : OpenedSeen
  pub all_hubs : length opened.hubs ≡ d.sites
  pub all_gears : length opened.gears ≡ length (gear_names d)
  pub all_serials : length opened.serials ≡ length (serial_names d)
  pub counted : opened.given ≡ count_given given
  pub ends : MatchResult result (IsEnd d opened xs) (IsFault d opened xs)
