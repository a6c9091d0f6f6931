-- What contracts see of a cluster, and which sessions it gives.
use Rattle.std.specs.Prelude.{ℕ, ◌≡◌, ◌+◌, Bool, true, false, List, length, filter, get_or, position, replicate, Option}
use Rattle.std.specs.Prelude.{Some, None}
use Rattle.std.specs.Str.{bytes_eq}
use Rattle.sat_label.specs.declared.node.NodeName.{NodeName}
use Rattle.sat_act.specs.Deployed.{Deployed}
use Rattle.sat_opened.specs.Opened.{serial_names}
use Rattle.sat_parts.specs.Layout.{gear_names}
use Rattle.sat_cluster.specs.declared.fault.SessionFault.{SessionFault}
use Rattle.sat_cluster.specs.declared.fault.SessionFault.TheVariants as fault

-- which sessions were given: by its client's number, the operator's last
pub record ClusterSeen : Type 0 where
  pub given : List Bool

-- the number of the operator's session
abbrev pub operator_number : Deployed → ℕ
operator_number d = length d.clients

-- the number of the client of this name
abbrev pub client_of : Deployed → List ℕ → Option ℕ
client_of d name = position (λ line. bytes_eq line.name name) d.clients

-- no session was given
abbrev pub none_given : Deployed → List Bool
none_given d = replicate (operator_number d + 1) false

-- how many were
abbrev pub count_given : List Bool → ℕ
count_given given = length (filter (λ g. g) given)

-- a session is given once
abbrev pub taken_if : Bool → Option SessionFault
taken_if true = Some fault.Taken
taken_if false = None

-- why no session is given: there is no such client, or it has one
abbrev pub session_fault : Option ℕ → List Bool → Option SessionFault
session_fault None given = Some fault.NoSuch
session_fault (Some number) given = taken_if (get_or given number false)

-- what a cluster keeps: its deployment, a lock for each node, the names of the serializers, and a mark for each session
pub record IsCluster (d own : Deployed) (hubs gears serials : ℕ) (names : List NodeName) (given : List Bool)
    : Type 0 where
  pub deployment : own ≡ d
  pub hub_locks : hubs ≡ d.sites
  pub gear_locks : gears ≡ length (gear_names d)
  pub serial_locks : serials ≡ length (serial_names d)
  pub names_are : names ≡ serial_names d
  pub marks : length given ≡ operator_number d + 1
