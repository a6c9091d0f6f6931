-- What a serializer is handed, and what becomes of it.
use Rattle.std.specs.Prelude.{ℕ, ◌==◌, ◌||◌, nat_le, length, get_or, Option, Some, None, is_some, if◌then◌else◌}
use Rattle.sat_act.specs.Deployed.{Deployed}
use Rattle.sat_node.specs.declared.kept.Body.{Body}
use Rattle.sat_node.specs.declared.kept.Body.TheVariants as body
use Rattle.sat_node.specs.Seen.{last_number}
use Rattle.sat_tree.specs.Cut.{neighbours}
use Rattle.sat_machines.specs.Serials.{SerialSeen}
use Rattle.sat_machines.specs.declared.serial_act.SerialAct.{SerialAct}
use Rattle.sat_machines.specs.declared.serial_act.SerialAct.TheVariants as serial
use Rattle.sat_label.specs.declared.label.Label.{Label}
use Rattle.sat_passes.specs.Relays.{hop_with}
use Rattle.sat_message.specs.declared.message.Message.{Message}
use Rattle.sat_host_laws.specs.Messages.{SerialHost}
use Rattle.sat_handed.specs.declared.handed.Handed.{Handed}
use Rattle.sat_handed.specs.declared.handed.Handed.TheVariants as given
use Rattle.sat_process.specs.declared.hosted.Became.{Became}
use Rattle.sat_process.specs.declared.hosted.Became.TheVariants.{Taken, Unfit, Worn}
use Rattle.sat_process.specs.Sites.{if_taken, when_taken, would_count}

-- ---- what an entry was handed

abbrev pub asked_at_serializer : ℕ → SerialAct → Option Handed
asked_at_serializer number (serial.Hop u l) = None
asked_at_serializer number serial.Kill = Some (given.Killed number)

abbrev pub took_at_serializer : SerialAct → Option Body
took_at_serializer (serial.Hop u l) = Some (body.Label l)
took_at_serializer serial.Kill = None

-- ---- what would become of it

-- a label from a neighbour, which fits the serializer, which is alive
abbrev pub would_hop : Deployed → SerialHost → ℕ → Label → Became
would_hop d h link l = if h.node.machine.serial.killed then Unfit
    else if_taken (is_some (hop_with d h.node.machine link (body.Label l)))

abbrev pub would_body : Deployed → SerialHost → ℕ → ℕ → Body → Became
would_body d h link number (body.Label l) =
    when_taken (would_count (get_or h.wanted link 0) number) (would_hop d h link l)
would_body d h link number (body.Payload gear n payload) = Unfit
would_body d h link number (body.Beat n beat) = Unfit

-- a message of a link
abbrev pub would_come : Deployed → SerialHost → ℕ → Message → Became
would_come d h link m = if (m.sent.lamport == last_number) || (h.node.number == last_number) then Worn
    else would_body d h link m.number m.sent.body

abbrev pub would_kill : SerialHost → ℕ → Became
would_kill h number = if nat_le number h.node.number then Unfit else Taken

-- what would become of what a serializer is handed
abbrev pub serial_would : Deployed → SerialHost → Handed → Became
serial_would d h (given.Asked number by i) = Unfit
serial_would d h (given.Killed number) = would_kill h number
serial_would d h (given.Came link m) = would_come d h link m

-- ---- its links

-- one with each neighbour
abbrev pub serial_link_count : SerialSeen → ℕ
serial_link_count x = length (neighbours x.serial.tree x.serial.number)
