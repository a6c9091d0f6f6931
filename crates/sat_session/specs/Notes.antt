-- What nodes and sessions noted of the acts of clients and of the operator, each with the session that it is of.
use Rattle.std.specs.Prelude.{ℕ, List, [], ◌∷◌, ◌++◌, length, nat_lt, Option, Some, None, if◌then◌else◌}
use Rattle.std.specs.List.{flat_map}
use Rattle.sat_label.specs.declared.carried.Carried.{Carried}
use Rattle.sat_label.specs.declared.node.NodeName.{NodeName}
use Rattle.sat_label.specs.Order.{zero_point}
use Rattle.sat_act.specs.Deployed.{Deployed}
use Rattle.sat_client.specs.declared.client.Client.{Client}
use Rattle.sat_site.specs.declared.input.SiteInput.{SiteInput}
use Rattle.sat_site.specs.declared.input.SiteInput.TheVariants as input
use Rattle.sat_node.specs.declared.kept.Kept.{Kept as Line}
use Rattle.sat_node.specs.Links.{HeldSeen}
use Rattle.sat_machines.specs.Acts.{ActSeen}
use Rattle.sat_machines.specs.Sites.{number_of}
use Rattle.sat_machines.specs.Serials.{epoch_in, serial_in}
use Rattle.sat_machines.specs.declared.site_answer.SiteAnswer.{SiteAnswer}
use Rattle.sat_machines.specs.declared.serial_act.SerialAct.{SerialAct}
use Rattle.sat_machines.specs.declared.serial_act.SerialAnswer.{SerialAnswer}
use Rattle.sat_stitch.specs.Kept.{entry_of}
use Rattle.sat_stitch.specs.Places.{Session, Client as OfClient, Operator}
use Rattle.sat_opened.specs.Keeping.{owner_of, serial_owner, site_kept, serial_kept}
use Rattle.sat_session.specs.declared.noted.Noted.{Noted}
use Rattle.sat_session.specs.Owned.{Owned}

-- a session: its number, its client, its Lamport number, and what it noted, the oldest first
pub record SessionSeen : Type 0 where
  pub number : ℕ
  pub client : Client
  pub lamport : ℕ
  pub noted : List Noted

-- whose session has this number: that of the client, or, where there is none, the operator's
abbrev pub session_at : Deployed → ℕ → Session
session_at d n = if nat_lt n (length d.clients) then OfClient n else Operator

abbrev pub owned_by : Option Session → Noted → List Owned
owned_by None n = []
owned_by (Some s) n = (s, n) ∷ []

-- ---- by nodes

-- what an operator carries
abbrev pub nothing_carried : Carried
nothing_carried = record { point = zero_point; moving = None }

-- what a client carried with an input; nothing where it is no client's
abbrev pub carried_with : SiteInput → Carried
carried_with (input.Write seen items values) = seen
carried_with (input.Read seen n) = seen
carried_with (input.Move seen j) = seen
carried_with (input.Attach seen) = seen
carried_with _ = nothing_carried

-- an entry of the site of this name, as a session would note it
abbrev pub site_note : NodeName → Line ActSeen SiteAnswer → Noted
site_note name k =
    record {
      lamport = k.lamport;
      at = Some name;
      carried = carried_with k.input.input;
      entry = entry_of (site_kept (number_of name) k);
    }

abbrev pub site_notes : NodeName → List (Line ActSeen SiteAnswer) → List Owned
site_notes name [] = []
site_notes name (k ∷ ks) = owned_by (owner_of k.input.by k.input.input) (site_note name k) ++ site_notes name ks

-- and of the serializer of this name
abbrev pub serial_note : NodeName → Line SerialAct SerialAnswer → Noted
serial_note name k =
    record {
      lamport = k.lamport;
      at = Some name;
      carried = nothing_carried;
      entry = entry_of (serial_kept (epoch_in name) (serial_in name) k);
    }

abbrev pub serial_notes : NodeName → List (Line SerialAct SerialAnswer) → List Owned
serial_notes name [] = []
serial_notes name (k ∷ ks) = owned_by (serial_owner k.input) (serial_note name k) ++ serial_notes name ks

abbrev pub notes_at_site : {M : Type 0} → HeldSeen M ActSeen SiteAnswer → List Owned
notes_at_site h = site_notes h.node.name h.node.entries

abbrev pub notes_at_serial : {M : Type 0} → HeldSeen M SerialAct SerialAnswer → List Owned
notes_at_serial h = serial_notes h.node.name h.node.entries

-- all that nodes kept of the acts of sessions: site by site, then serializer by serializer
abbrev pub node_notes : {M K : Type 0} → List (HeldSeen M ActSeen SiteAnswer) → List (HeldSeen K SerialAct SerialAnswer)
    → List Owned
node_notes sites serials = flat_map notes_at_site sites ++ flat_map notes_at_serial serials

-- ---- by sessions

abbrev pub at_node : Session → Noted → Option NodeName → List Owned
at_node s n None = []
at_node s n (Some name) = (s, n) ∷ []

-- what a session noted of its acts at nodes
abbrev pub own_notes : Session → List Noted → List Owned
own_notes s [] = []
own_notes s (n ∷ ns) = at_node s n n.at ++ own_notes s ns

abbrev pub notes_of : Deployed → SessionSeen → List Owned
notes_of d x = own_notes (session_at d x.number) x.noted

-- the notes of all sessions, each with its owner
abbrev pub session_notes : Deployed → List SessionSeen → List Owned
session_notes d xs = flat_map (notes_of d) xs
