-- The ends of links: in pairs, and as nodes are made of them.
use Rattle.std.specs.Prelude.{ℕ, ◌≡◌, List, map, Option, Some, None}
use Rattle.sat_link.specs.Ends.{Sender, Receiver}
use Rattle.sat_node.specs.declared.kept.Envelope.{Envelope}
use Rattle.sat_node.specs.Puts.{OutSeen}
use Rattle.sat_node.specs.Links.{Each, InSeen}
use Rattle.sat_wires.specs.Wires.{HaveRoom, IsFreshOut, IsFreshIn, NothingSent, NothingReceived, wire_in, wire_out}

-- the two ends of some links that hold so many messages, through which nothing went
pub record ArePairs (capacity : ℕ) (ins : List (Sender Envelope)) (outs : List (Receiver Envelope)) : Type 0 where
  pub same : map wire_out outs ≡ map wire_in ins
  pub room : HaveRoom capacity (map wire_in ins)
  pub sent : NothingSent ins
  pub received : NothingReceived outs

-- a new end at this place
pub record OutAt (place : ℕ) (o : OutSeen) : Type 0 where
  pub at : o.place ≡ place
  pub fresh : IsFreshOut o

pub record InAt (place : ℕ) (i : InSeen) : Type 0 where
  pub at : i.place ≡ place
  pub fresh : IsFreshIn i

-- if it is still there
abbrev pub OutIf : ℕ → Option OutSeen → Type 0
OutIf place None = Unit {0}
OutIf place (Some o) = OutAt place o

abbrev pub InIf : ℕ → Option InSeen → Type 0
InIf place None = Unit {0}
InIf place (Some i) = InAt place i

abbrev pub AllOuts : List (Option OutSeen) → Type 0
AllOuts ends = Each ends OutIf

abbrev pub AllIns : List (Option InSeen) → Type 0
AllIns ends = Each ends InIf
