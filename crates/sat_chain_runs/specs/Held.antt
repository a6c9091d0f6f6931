-- What a follower of scripts with chains keeps.
use Rattle.std.specs.Prelude.{ℕ, ◌≡◌, ◌≤◌, ◌++◌, List, [], length, Option, Some, None, Ok}
use Rattle.sat_act.specs.Deployed.{Deployed}
use Rattle.sat_chain.specs.Stands.{ChainsSeen, ChainsFor}
use Rattle.sat_chain.specs.Applies.{ChainApplies}
use Rattle.sat_chain_laws.specs.Chains.{ChainEntry}
use Rattle.sat_chain_laws.specs.ChainRuns.{IsChainRun}
use Rattle.sat_chain_laws.specs.declared.chain_act.ChainAct.{ChainAct}
use Rattle.sat_chain_laws.specs.declared.chain_answer.ChainAnswer.{ChainAnswer}
use Rattle.sat_chain_rules.specs.Steps.{ChainState, entries_with, told_with}
use Rattle.sat_chain_runs.specs.ChainTexts.{texts_of}
use Rattle.sat_chain_texts.specs.Texts.{chain_answer_text}
use Rattle.sat_report.specs.Frames.{framed, next_front}
use Rattle.sat_script.specs.Grammar.{line_at, after}
use Rattle.sat_script.specs.Kept.{IsFit}
use Rattle.sat_script.specs.Lines.{running}
use Rattle.sat_script.specs.State.{Seen, deployment_of, with_one_act}
use Rattle.sat_script.specs.declared.dialect.Dialect.TheVariants as dialect
use Rattle.sat_script.specs.declared.line.Parsed.{Parsed}

-- the reader of lines, the chains once an act or the end has needed them, how many replicas each serializer has, and
-- the number of the last answer
pub record HeldSeen : Type 0 where
  pub reader : Seen
  pub chains : Option ChainsSeen
  pub replicas : ℕ
  pub number : Option ℕ

-- chains are those of the deployment that was read
abbrev pub AreChainsOf : Option Deployed → Option ChainsSeen → ℕ → Type 0
AreChainsOf o None r = Unit {0}
AreChainsOf o (Some s) r = (o ≡ Some s.world.deployment) × (s.replicas ≡ r)

-- chains stand for a history; before there are chains no act has come
abbrev pub StandFor : Option ChainsSeen → List ChainEntry → Type 0
StandFor None c = c ≡ []
StandFor (Some s) c = IsChainRun s.world.deployment s.replicas c × ChainsFor s c

-- what holds of it after each call, also after one that failed
pub record IsHeld (v : HeldSeen) : Type 0 where
  pub fit : IsFit v.reader.state
  pub dialect_is : v.reader.state.dialect ≡ dialect.Chain
  pub chains_are : AreChainsOf (deployment_of v.reader.state) v.chains v.replicas
  pub known : (c : List ChainEntry) × StandFor v.chains c
  pub some : 1 ≤ v.replicas
  pub few : v.replicas ≤ 5

-- the lines that it has taken say this
pub record StandsAt (v : HeldSeen) (s : ChainState) : Type 0 where
  pub reader : v.reader ≡ running s.script
  pub number : v.number ≡ Some (length s.entries)
  pub counted : length s.entries ≤ s.script.acts
  pub chains : StandFor v.chains s.entries

-- chains that stood for some history still do
abbrev pub StaysKnown : Option ChainsSeen → Option ChainsSeen → Type 0
StaysKnown old new = (c : List ChainEntry) → StandFor old c → (now : List ChainEntry) × StandFor new now

-- they stand for all that they stood for
abbrev pub KeepsHistories : Option ChainsSeen → Option ChainsSeen → Type 0
KeepsHistories old new = (c : List ChainEntry) → StandFor old c → StandFor new c

-- an act was done and answered: its answer's line stands behind what the text was
pub record HasAnswer (old : ChainsSeen) (before : Option ℕ) (a : ChainAct) (new : ChainsSeen) (now : Option ℕ)
    (text longer : List ℕ) : Type 0 where
  pub answer : ChainAnswer
  pub applies : ChainApplies old a answer new
  pub number : now ≡ next_front before
  pub longer_by : longer ≡ text ++ framed now (chain_answer_text new.world.deployment a answer)

-- the same, of all that a follower keeps, in each state that it stood for
pub record GoesBy (old : HeldSeen) (a : ChainAct) (new : HeldSeen) (text longer : List ℕ) : Type 0 where
  pub added : List ℕ
  pub longer_by : longer ≡ text ++ added
  pub each : (s : ChainState) → StandsAt old s
      → added ≡ told_with (texts_of old.replicas) s.script.header old.replicas s.entries (Some a)
  pub stands : (s : ChainState) → StandsAt old s
      → StandsAt new
      (record {
        script = with_one_act s.script;
        entries = entries_with s.script.header old.replicas s.entries (Some a);
      })

-- the next line, which says no act, is taken
abbrev pub KeepsLine : HeldSeen → List ℕ → HeldSeen → Type 0
KeepsLine old line new =
    (p : Parsed) → line_at old.reader.state line ≡ Ok p → (s : ChainState) → StandsAt old s
    → StandsAt new (record { script = after s.script p; entries = s.entries })

-- what the sites hold stands behind what the text was
pub record HasHoldings (v : HeldSeen) (text longer : List ℕ) : Type 0 where
  pub added : List ℕ
  pub longer_by : longer ≡ text ++ added
  pub each : (s : ChainState) → StandsAt v s → (texts_of v.replicas).holdings s.script.header s.entries ≡ added
