-- How a cluster ends.
use Rattle.std.specs.Prelude.{MatchResult}
use Rattle.std.proofs.Common.{◌≡◌, Bool, List, length, Result}
use Rattle.sat_act.specs.Deployed.{Deployed}
use Rattle.sat_opened.specs.Opened.{serial_names}
use Rattle.sat_parts.specs.Layout.{gear_names}
use Rattle.sat_session.specs.Notes.{SessionSeen}
use Rattle.sat_finish.specs.declared.fault.Ended.{Ended}
use Rattle.sat_finish.specs.declared.fault.FinishFault.{FinishFault}
use Rattle.sat_finish.specs.Ends.{IsEnd, IsFault}
use Rattle.sat_finish.specs.Finishing.{OpenedSeen}
use Rattle.sat_cluster.specs.Clusters.{count_given}
use Rattle.sat_cluster.specs.Ends.{Ends}

pub ends_of : {N : Type 0} (d : Deployed) (given : List Bool) (xs : List SessionSeen) (result : Result Ended (FinishFault N)) (opened : OpenedSeen) → length opened.hubs ≡ d.sites → length opened.gears ≡ length (gear_names d) → length opened.serials ≡ length (serial_names d) → opened.given ≡ count_given given →
    MatchResult result (IsEnd d opened xs) (IsFault d opened xs) → Ends d given xs result
ends_of d given xs result opened hubs gears serials counted ends = record { opened = opened; all_hubs = hubs; all_gears = gears; all_serials = serials; counted = counted; ends = ends }
