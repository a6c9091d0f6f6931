-- What the command `chain` makes of a text.
use Rattle.std.specs.Prelude.{ℕ, ◌≡◌, true, List, Option, Some, None, IfSome, IsSome}
use Rattle.std.specs.Io.KnownBytes.{Consumes}
use Rattle.sat_outside.specs.Streams.{Told, Takes}
use Rattle.sat_act.specs.Deployed.{Deployed}
use Rattle.sat_chain_laws.specs.declared.chain_act.ChainAct.{ChainAct}
use Rattle.sat_chain_script.specs.Laws.{IsGoodChain}
use Rattle.sat_chain_script.specs.Readings.{chain_reading}
use Rattle.sat_chain_runs.specs.ChainTexts.{chain_meaning, chain_text}
use Rattle.sat_follow.specs.Following.{IsTextOf}

-- where the text's header is good, the history of the acts before its first bad line is good
abbrev pub IsGoodChainFront : ℕ → List ℕ → Type 0
IsGoodChainFront replicas text =
    IfSome (chain_reading replicas text).deployment (λ d. IsGoodChain d replicas (chain_reading replicas text).acts)

-- The source's text is a script whose serializers are chains of replicas, a deployment and acts. The sink took the
-- answers of all these acts, and what the sites hold. They are those of one history with chains. Its plain history, in
-- which each label that took effect is a hop and the crash of a last replica a kill, is as good as that of a script for
-- `run`; the list of each replica begins with that of each later one, and a new tail can tell from its outgoing links
-- what took effect.
pub record HasChained (replicas : ℕ) (left : Option (List ℕ)) (old new : Told) : Type 0 where
  pub text : List ℕ
  pub whole : IsTextOf left text
  pub deployment : Deployed
  pub acts : List ChainAct
  pub read : chain_reading replicas text ≡ record { deployment = Some deployment; acts = acts; fault = None }
  pub written : Takes old new (chain_text replicas (chain_reading replicas text))
  pub good : IsGoodChain deployment replicas acts

-- The source's text has a first bad line as a script with chains. The sink took the answers of the acts before it, and
-- then the fault's line; where the header is bad, that line alone. The history of the acts before it is as good.
pub record HasChainFault (replicas : ℕ) (left : Option (List ℕ)) (old new : Told) : Type 0 where
  pub text : List ℕ
  pub whole : IsTextOf left text
  pub bad : IsSome (chain_reading replicas text).fault
  pub written : Takes old new (chain_text replicas (chain_reading replicas text))
  pub good : IsGoodChainFront replicas text

-- The source failed after these bytes. None of the whole lines in them is bad, and the sink took the answers of their
-- acts, and nothing else: each answer was written before more was read. Their history is as good as that of a whole
-- script.
pub record HasChainAnswered (replicas : ℕ) (left left_after : Option (List ℕ)) (old new : Told) : Type 0 where
  pub taken : List ℕ
  pub consumed : Consumes left left_after taken
  pub fine : (chain_meaning replicas).good taken ≡ true
  pub written : Takes old new ((chain_meaning replicas).answers taken)
  pub good : IsGoodChainFront replicas taken
