-- What the command `durable` makes of a text.
use Rattle.std.specs.Prelude.{ℕ, ◌≡◌, true, List, Option, Some, None, IfSome, IsSome}
use Rattle.std.specs.Io.KnownBytes.{Consumes}
use Rattle.sat_outside.specs.Streams.{Told, Takes}
use Rattle.sat_act.specs.Deployed.{Deployed}
use Rattle.sat_lasting_laws.specs.declared.lasting_act.LastingAct.{LastingAct}
use Rattle.sat_lasting_script.specs.Laws.{IsGoodLasting, lasting_reading}
use Rattle.sat_lasting_runs.specs.LastingTexts.{lasting_meaning, lasting_text}
use Rattle.sat_follow.specs.Following.{IsTextOf}

-- where the text's header is good, the history of the acts before its first bad line is good
abbrev pub IsGoodLastingFront : List ℕ → Type 0
IsGoodLastingFront text = IfSome (lasting_reading text).deployment (λ d. IsGoodLasting d (lasting_reading text).acts)

-- The source's text is a script whose sites may stop, a deployment and acts. The sink took the answers of all these
-- acts, and what the sites hold. They are those of one history with stops. The history of its kept acts, those into
-- which no cut fell and those that a site still had behind its stop, is a run, with the answers that were printed of
-- these acts, and as good as that of a script for `run`.
pub record HasLasted (left : Option (List ℕ)) (old new : Told) : Type 0 where
  pub text : List ℕ
  pub whole : IsTextOf left text
  pub deployment : Deployed
  pub acts : List LastingAct
  pub read : lasting_reading text ≡ record { deployment = Some deployment; acts = acts; fault = None }
  pub written : Takes old new (lasting_text (lasting_reading text))
  pub good : IsGoodLasting deployment acts

-- The source's text has a first bad line as a script whose sites may stop. The sink took the answers of the acts
-- before it, and then the fault's line; where the header is bad, that line alone. The history of the acts before it is
-- as good.
pub record HasLastingFault (left : Option (List ℕ)) (old new : Told) : Type 0 where
  pub text : List ℕ
  pub whole : IsTextOf left text
  pub bad : IsSome (lasting_reading text).fault
  pub written : Takes old new (lasting_text (lasting_reading text))
  pub good : IsGoodLastingFront text

-- The source failed after these bytes. None of the whole lines in them is bad, and the sink took the answers of their
-- acts, and nothing else: each answer was written before more was read. Their history is as good as that of a whole
-- script.
pub record HasLastingAnswered (left left_after : Option (List ℕ)) (old new : Told) : Type 0 where
  pub taken : List ℕ
  pub consumed : Consumes left left_after taken
  pub fine : lasting_meaning.good taken ≡ true
  pub written : Takes old new (lasting_meaning.answers taken)
  pub good : IsGoodLastingFront taken
