-- Journals of nodes as kept lists: of each entry its number, its act by name, what was handed to it, and its answer.
use Rattle.std.specs.Prelude.{ℕ, List, [], ◌∷◌, Option, Some, None}
use Rattle.sat_label.specs.declared.items.Items.{Items}
use Rattle.sat_label.specs.declared.items.Items.TheVariants.{One}
use Rattle.sat_act.specs.declared.act.Act.{Act}
use Rattle.sat_act.specs.declared.act.Act.TheVariants as act
use Rattle.sat_act.specs.declared.entry.Entry.{Entry}
use Rattle.sat_proxy.specs.Proxy.{note_of}
use Rattle.sat_site.specs.declared.input.SiteInput.{SiteInput}
use Rattle.sat_site.specs.declared.input.SiteInput.TheVariants as input
use Rattle.sat_node.specs.declared.kept.Kept.{Kept as Line}
use Rattle.sat_machines.specs.Acts.{ActSeen}
use Rattle.sat_machines.specs.declared.site_answer.SiteAnswer.{SiteAnswer}
use Rattle.sat_machines.specs.declared.serial_act.SerialAct.{SerialAct}
use Rattle.sat_machines.specs.declared.serial_act.SerialAct.TheVariants as serial
use Rattle.sat_machines.specs.declared.serial_act.SerialAnswer.{SerialAnswer}
use Rattle.sat_stitch.specs.Kept.{Given, Nothing, OfFront, OfPayload, OfBeat, OfClient, Kept, entry_of}
use Rattle.sat_stitch.specs.Places.{Session, Client, Operator}

-- ---- sites

-- the client of an input, 0 where it is none's
abbrev pub client_in : Option ℕ → ℕ
client_in None = 0
client_in (Some c) = c

-- a write as an act of client c: of one item alone, or of several under one label
abbrev pub write_act : ℕ → Items → List (List ℕ) → Act
write_act c (One x) (value ∷ []) = act.Write c x value
write_act c items values = act.Writes c items values

-- what an input is as an act at site i, by client c where it is a client's. A payload has its number
abbrev pub site_act : ℕ → ℕ → SiteInput → Act
site_act i c (input.Tick g t) = act.Tick i g t
site_act i c (input.Write seen items values) = write_act c items values
site_act i c (input.Read seen n) = act.Read c n
site_act i c (input.Move seen j) = act.Move c j
site_act i c (input.Attach seen) = act.Attach c i
site_act i c input.Gather = act.Gather i
site_act i c input.Emit = act.Emit i
site_act i c input.Pulse = act.Pulse i
site_act i c (input.Turn front) = act.Turn i
site_act i c (input.Bulk from gear number payload) = act.Bulk from gear i (Some number)
site_act i c (input.Beat j) = act.Beat i j
site_act i c (input.BeatIn from number beat) = act.BeatIn from i number
site_act i c input.Stamp = act.Stamp i
site_act i c input.Close = act.Close i
site_act i c input.Fall = act.Fall i
site_act i c input.Advance = act.Advance i

-- what site i was handed with it. A client that attaches has no seat; one that writes, reads or moves has its seat here
abbrev pub site_given : ℕ → SiteInput → Given
site_given i (input.Write seen items values) = OfClient seen (Some i)
site_given i (input.Read seen n) = OfClient seen (Some i)
site_given i (input.Move seen j) = OfClient seen (Some i)
site_given i (input.Attach seen) = OfClient seen None
site_given i (input.Turn front) = OfFront front
site_given i (input.Bulk from gear number payload) = OfPayload number payload
site_given i (input.BeatIn from number beat) = OfBeat (note_of beat)
site_given i _ = Nothing

-- an entry of site i's journal
abbrev pub site_kept : ℕ → Line ActSeen SiteAnswer → Kept
site_kept i k =
    record {
      number = k.lamport;
      act = site_act i (client_in k.input.by) k.input.input;
      given = site_given i k.input.input;
      answer = k.answer.answer;
    }

-- whose session keeps it too: its client's, and the operator's where a site closes or falls
abbrev pub owner_of : Option ℕ → SiteInput → Option Session
owner_of (Some c) given = Some (Client c)
owner_of None input.Close = Some Operator
owner_of None input.Fall = Some Operator
owner_of None _ = None

-- ---- serializers

-- the act that an entry of a serializer's journal is
abbrev pub serial_act : ℕ → ℕ → SerialAct → Act
serial_act e z (serial.Hop u l) = act.Hop e u z
serial_act e z serial.Kill = act.Kill e z

-- what was given to it: the label that it handled
abbrev pub serial_given : SerialAct → Given
serial_given (serial.Hop u l) = OfFront (Some l)
serial_given serial.Kill = Nothing

-- an entry of the journal of serializer z of an epoch's tree
abbrev pub serial_kept : ℕ → ℕ → Line SerialAct SerialAnswer → Kept
serial_kept e z k =
    record { number = k.lamport; act = serial_act e z k.input; given = serial_given k.input; answer = k.answer.answer }

-- a kill is the operator's
abbrev pub serial_owner : SerialAct → Option Session
serial_owner (serial.Hop u l) = None
serial_owner serial.Kill = Some Operator

-- ---- whole journals

-- these entries, which come the oldest first, in front of others: the newest first
abbrev pub behind : {X : Type 0} → (X → Kept) → List Kept → List X → List Kept
behind of ks [] = ks
behind of ks (x ∷ xs) = behind of (of x ∷ ks) xs

-- the entries of a journal as kept, the newest first
abbrev pub newest : {X : Type 0} → (X → Kept) → List X → List Kept
newest of xs = behind of [] xs

-- an entry as one of a history, under its number
abbrev pub kept_under : {X : Type 0} → (X → Kept) → X → ℕ × Entry
kept_under of x = ((of x).number, entry_of (of x))
