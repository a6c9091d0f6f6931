-- What a reader of pieces keeps of a script of which a front has come.
use Rattle.std.specs.Prelude.{ℕ, ◌≡◌, ◌≤◌, true, List, [], length, Some, None, IfSome}
use Rattle.std.specs.declared.option.Option.{Option}
use Rattle.sat_act.specs.declared.act.Act.{Act}
use Rattle.sat_act.specs.Deployed.{Deployed}
use Rattle.sat_script.specs.Grammar.{is_ended}
use Rattle.sat_script.specs.Kept.{IsFit, IsWhole}
use Rattle.sat_script.specs.Spelled.{AreActsOf}
use Rattle.sat_script.specs.declared.dialect.Dialect.{Dialect}
use Rattle.sat_script.specs.declared.line.Stage.{Stage}
use Rattle.sat_script.specs.declared.line.Stage.TheVariants as stage
use Rattle.sat_script.specs.declared.limits.TheConstants.{LONGEST_LINE}
use Rattle.sat_stream.specs.Reading.{AreAllowed}
use Rattle.sat_stream.specs.Stream.{WholeLines}

-- what good lines said: nothing before `begin`, and then a deployment and acts of it
abbrev pub HasSaid : Dialect → Stage → Deployed → Option Deployed → List Act → Type 0
HasSaid dialect stage.Start d said acts = (said ≡ None) × (acts ≡ [])
HasSaid dialect stage.Sites d said acts = (said ≡ None) × (acts ≡ [])
HasSaid dialect stage.Gears d said acts = (said ≡ None) × (acts ≡ [])
HasSaid dialect stage.Header d said acts = (said ≡ None) × (acts ≡ [])
HasSaid dialect stage.Body d said acts = (said ≡ Some d) × AreActsOf d acts × AreAllowed dialect acts
HasSaid dialect stage.Ended d said acts = (said ≡ Some d) × AreActsOf d acts × AreAllowed dialect acts

-- whole lines: while no fault is known, they said this
pub record AreWhole (l : WholeLines) : Type 0 where
  pub fit : IsFit l.seen.state
  pub whole : IfSome l.deployment (λ d. IsWhole d × AreActsOf d l.acts)
  pub none : l.deployment ≡ None → l.acts ≡ []
  pub few : length l.acts ≤ l.seen.state.acts
  pub said : l.seen.fault ≡ None
      → HasSaid l.seen.state.dialect l.seen.state.stage l.seen.state.header l.deployment l.acts

-- a reader of pieces: the line that has begun isn't too long, and doesn't stand behind the end
pub record IsComing (l : WholeLines) (begun : List ℕ) : Type 0 where
  pub fit : IsFit l.seen.state
  pub short : length begun ≤ LONGEST_LINE
  pub ended : is_ended l.seen.state.stage ≡ true → begun ≡ []
