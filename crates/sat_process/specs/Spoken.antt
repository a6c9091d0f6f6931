-- How far a process is that says message after message.
use Rattle.std.specs.Prelude.{◌≡◌, ◌≤◌, ℕ, Bool, true, List, [], get_or}
use Rattle.std.specs.declared.option.Option.{Option}
use Rattle.sat_label.specs.declared.node.NodeName.{NodeName}
use Rattle.sat_node.specs.declared.kept.Made.{Made}
use Rattle.sat_handed.specs.Transports.{Grows, Posted}
use Rattle.sat_process.specs.Processes.{ProcessSeen, SameProcess}
use Rattle.sat_process.specs.Speaking.{SameOthers, SaysEach, SaysMany, SaysThen}

module _ {D T M I A : Type 0} (puts : NodeName → ℕ → I → A → Option Made) (out into : T → Option (List Posted)) where
  -- it said something of its journal, and is else as before
  pub record Spoke (old now : ProcessSeen D T M I A) : Type 0 where
    pub said : SaysThen (puts old.host.node.name) old.host.node.entries (out old.transport) (out now.transport)
    pub came : Grows (into old.transport) (into now.transport) []
    pub same : SameProcess old now

  -- and so many messages of a link were passed
  pub record SpokeOf (link n : ℕ) (old now : ProcessSeen D T M I A) : Type 0 where
    pub many : SaysMany (puts old.host.node.name) old.host.node.entries link (get_or old.host.cursors link 0)
        (get_or now.host.cursors link 0) n (out old.transport) (out now.transport)
    pub spoke : Spoke old now
    pub others : SameOthers link old.host.cursors now.host.cursors

  -- it said what it is to say of so many links, unless memory ran out, and the links behind them are as before
  pub record SpokeEach (most count : ℕ) (all : Bool) (old now : ProcessSeen D T M I A) : Type 0 where
    pub each : all ≡ true → SaysEach (puts old.host.node.name) old.host.node.entries most old.host.cursors
        now.host.cursors count (out old.transport) (out now.transport)
    pub later : (k : ℕ) → count ≤ k → get_or now.host.cursors k 0 ≡ get_or old.host.cursors k 0
    pub spoke : Spoke old now
